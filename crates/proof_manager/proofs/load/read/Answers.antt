use Rattle.std.proofs.Common.{sym, subst, map, List, ℕ, Vec, Global}
use Rattle.std.specs.Prelude.{option_map}
use Rattle.tla_ast.specs.declared.unit.Loaded.{Loaded}
use Rattle.plain_syntax.specs.Syntax.{module_of}
use Rattle.name_places.specs.Places.{NamesDiffer}
use Rattle.proof_manager.proofs.Loaded.{names-apart}
use Rattle.proof_manager.proofs.Readings.{loading-stops, loading-read, loading-refused}
use Rattle.proof_manager.proofs.load.read.Goals as goal

pub returns-in_err-loaded-clause-told : goal.returns-in_err-loaded-clause-told
returns-in_err-loaded-clause-told g c =
    loading-stops (g.S.Shelf.folder c.args.shelf.now) (option_map {T = Vec ℕ Global} {U = List ℕ} (λ v. v.items) c.args.given) c.args.root.now c.from_residual.result c.in_err-loaded.field-0.0 c.from_residual.ensures.1 c.in_err-loaded.ensures.told

pub returns-in-Ok-clause-told : goal.returns-in-Ok-clause-told
returns-in-Ok-clause-told g c =
    loading-read (g.S.Shelf.folder c.args.shelf.now) (option_map {T = Vec ℕ Global} {U = List ℕ} (λ v. v.items) c.args.given) c.args.root.now c.in_ok-loaded.loaded c.in-Ok.checked c.in_ok-loaded.ensures.told c.in-Ok.ensures.told

pub returns-in-Ok-clause-fine : goal.returns-in-Ok-clause-fine
returns-in-Ok-clause-fine g c = record {
  names = subst (λ (l : Loaded). NamesDiffer (map module_of l.modules)) (sym c.in-Ok.ensures.same) (names-apart c.args.root.now c.in_ok-loaded.loaded.modules c.in_ok-loaded.ensures.order);
  chapters = c.in-Ok.ensures.chapters;
}

pub returns-in-Err-clause-told : goal.returns-in-Err-clause-told
returns-in-Err-clause-told g c =
    loading-refused (g.S.Shelf.folder c.args.shelf.now) (option_map {T = Vec ℕ Global} {U = List ℕ} (λ v. v.items) c.args.given) c.args.root.now c.in_ok-loaded.loaded c.in-Err.fault c.as_load_fault.result c.in_ok-loaded.ensures.told c.in-Err.ensures.told c.as_load_fault.ensures
