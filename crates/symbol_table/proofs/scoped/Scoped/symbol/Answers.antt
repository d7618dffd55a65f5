use Rattle.std.proofs.Common.{rules, ◌≡◌, [], ◌∙◌, sym, ap, None}
use Rattle.std.specs.Option.{option_copied, unwrap_or}
use Rattle.std.proofs.lemmas.Option.{unwrap_or-slice_get}
use Rattle.symbol_table.specs.Symbols.{symbol_at}
use Rattle.symbol_table.specs.Scoped.{symbol}
use Rattle.symbol_table.proofs.scoped.Scoped.symbol.Goals as goal

pub returns-in_err-get : goal.returns-in_err-get
returns-in_err-get c =
    let e : option_copied c.get.result ≡ None = search rules in
    let r : c.from_residual.result ≡ None = search rules in
    r ∙ ap (λ o. symbol_at (unwrap_or o []) c.args.place) (sym e ∙ c.get.ensures.value)
    ∙ ap (λ ss. symbol_at ss c.args.place) (unwrap_or-slice_get c.self.inside.modules c.args.module [])
    ∙ ap (λ t. symbol t c.args.module c.args.place) c.self.view_is

pub returns : goal.returns
returns c =
    c.at.ensures ∙ ap (λ o. symbol_at (unwrap_or o []) c.args.place) (sym (ap option_copied c.in_ok-get.was) ∙ c.get.ensures.value)
    ∙ ap (λ ss. symbol_at ss c.args.place) (unwrap_or-slice_get c.self.inside.modules c.args.module [])
    ∙ ap (λ t. symbol t c.args.module c.args.place) c.self.view_is
