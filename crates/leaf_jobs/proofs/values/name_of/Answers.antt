use Rattle.std.proofs.Common.{◌≡◌, ◌∙◌, sym, ap}
use Rattle.std.specs.Option.{option_copied, unwrap_or}
use Rattle.std.proofs.lemmas.Option.{unwrap_or-slice_get}
use Rattle.symbol_table.specs.declared.entry.Entry.{Entry}
use Rattle.symbol_table.specs.Scoped.{entry_of, unlisted}
use Rattle.leaf_jobs.proofs.values.name_of.Goals as goal

pub returns-in-None : goal.returns-in-None
returns-in-None c =
    let es = c.args.scoped.now.entries in
    let e : entry_of es c.args.number ≡ unlisted =
    sym (unwrap_or-slice_get es c.args.number unlisted) ∙ ap (λ o. unwrap_or o unlisted) (sym c.entry.ensures.value ∙ ap option_copied c.in-None.is) in
    sym (ap (λ (x : Entry). x.name) e)
