use Rattle.std.proofs.Common.{List, ℕ, Ok, option_map, ap, subst, lit<}
use Rattle.tla_io.specs.Told.{Fetches}
use Rattle.module_shelf.proofs.Told.{fetched, never-rose}
use Rattle.module_shelf.proofs.read.find_module.Goals as goal

pub returns-in-Ok-clause-loads : goal.returns-in-Ok-clause-loads
returns-in-Ok-clause-loads g c =
    let told = g.S.Shelf.folder c.args.shelf.now in
    let here : Fetches told c.args.name.now 1048577 (Ok c.in-Ok.text) = subst (λ (n : List ℕ). Fetches told n 1048577 (Ok c.in-Ok.text)) c.in-Some-identifier.ensures.0 c.in-Ok.ensures.told in
    record {
      told = fetched c.module_at-in-Ok.result _ told 1048577 c.args.name.now c.in-Ok.text (ap (option_map (λ v. v.items)) c.in_default.is) (lit< tt) c.in-Some-identifier.ensures.1 here c.module_at-in-Ok.ensures.text;
      cause = never-rose c.module_at-in-Ok.result _ _ c.module_at-in-Ok.ensures.never c.in-Ok.ensures.cause;
      kept = c.in-Ok.ensures.same;
    }
