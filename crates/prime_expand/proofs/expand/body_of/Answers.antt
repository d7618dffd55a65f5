use Rattle.std.proofs.Common.{◌≡◌, ℕ, ◌+◌, Option, Some, None, refl, ap, sym, ◌∙◌, length}
use Rattle.std.specs.Option.{option_copied, unwrap_or}
use Rattle.std.proofs.lemmas.Option.{unwrap_or-slice_get}
use Rattle.tla_ast.specs.declared.tree.Def.{out-Def}
use Rattle.plain_syntax.specs.Syntax.{term_of}
use Rattle.symbol_table.specs.Scoped.{entry_of, symbol, unlisted}
use Rattle.prime_expand.specs.Core.{bodies, flags_in, half, kind_of}
use Rattle.prime_expand.specs.Bodies.{number_of, defined_number, defined_entry}
use Rattle.prime_expand.proofs.expand.body_of.Goals as goal

numbered : (o : Option ℕ) → unwrap_or o 0 ≡ number_of o
numbered None = refl
numbered (Some n) = refl

pub returns-in_ok-found-in-None-clause-symbol : goal.returns-in_ok-found-in-None-clause-symbol
returns-in_ok-found-in-None-clause-symbol c =
    let t = c.args.scoped.now in
    let m = c.args.home in
    let d = c.args.def.now in
    let n : c.unwrap_or-number.result ≡ defined_number t m d = c.unwrap_or-number.ensures ∙ numbered c.symbol.result ∙ ap number_of c.symbol.ensures in
    let none = sym (unwrap_or-slice_get t.entries c.unwrap_or-number.result unlisted) ∙ ap (λ o. unwrap_or o unlisted) (sym c.entry.ensures.value ∙ ap option_copied c.in-None.is) in
    let e : c.in_ok-entry-in-None.entry ≡ defined_entry t m d = c.in_ok-entry-in-None.ensures ∙ sym none ∙ ap (entry_of t.entries) n in
    c.in_ok-found-in-None.ensures.symbol
    ∙ (λ i. record { kind = kind_of (symbol t m) t.entries (e i) c.args.primed; number = n i; arity = length (out-Def d).params + flags_in (symbol t m) t.entries (e i).primed })

pub returns-in_ok-found-in-None-clause-body : goal.returns-in_ok-found-in-None-clause-body
returns-in_ok-found-in-None-clause-body c =
    let t = c.args.scoped.now in
    let m = c.args.home in
    let d = c.args.def.now in
    let n : c.unwrap_or-number.result ≡ defined_number t m d = c.unwrap_or-number.ensures ∙ numbered c.symbol.result ∙ ap number_of c.symbol.ensures in
    let none = sym (unwrap_or-slice_get t.entries c.unwrap_or-number.result unlisted) ∙ ap (λ o. unwrap_or o unlisted) (sym c.entry.ensures.value ∙ ap option_copied c.in-None.is) in
    let e : c.in_ok-entry-in-None.entry ≡ defined_entry t m d = c.in_ok-entry-in-None.ensures ∙ sym none ∙ ap (entry_of t.entries) n in
    c.in_ok-found-in-None.ensures.body ∙ ap (λ x. half c.args.primed (bodies (symbol t m) t.entries x (out-Def d).params (term_of (out-Def d).body))) e
