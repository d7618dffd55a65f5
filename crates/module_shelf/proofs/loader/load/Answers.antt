use Rattle.std.proofs.Common.{◌≡◌, List, [], Option, Ok, ap, sym, ◌∙◌}
use Rattle.tla_ast.specs.declared.unit.Module.{Module}
use Rattle.tla_io.specs.Told.{Bytes, Folder}
use Rattle.module_shelf.specs.Loading.{Text, followed, find, completed, loading}
use Rattle.module_shelf.proofs.Told.{stops-then, passed-on, after, told-of}
use Rattle.module_shelf.proofs.loader.load.Goals as goal

begun : (given : Option Bytes) (root : Text) (f : Folder) (m : Module) (none : List Module) → none ≡ [] → find given f root ≡ Ok m → loading given f root ≡ completed 64 f [] m none
unfolding loading
begun given root f m none is e = ap (λ o. followed o (λ x. completed 64 f [] x [])) e ∙ ap (λ d. completed 64 f [] m d) (sym is)

pub returns-in_err-module-clause-told : goal.returns-in_err-module-clause-told
unfolding loading
returns-in_err-module-clause-told g c = told-of (passed-on c.from_residual.ensures.1 c.in_err-module.ensures.loads (λ f q k. stops-then _ _ (λ m. completed 64 f [] m []) k))

pub returns-in_err-complete-clause-told : goal.returns-in_err-complete-clause-told
returns-in_err-complete-clause-told g c =
    told-of (passed-on c.from_residual-in_err-complete.ensures.1 (after c.in_ok-module.ensures.loads c.in_err-complete.ensures.loads (λ f q e. begun _ _ f _ _ c.new-modules.ensures e)) (λ f q k. k))

pub returns-clause-told : goal.returns-clause-told
returns-clause-told g c = told-of (after c.in_ok-module.ensures.loads c.in_ok-complete.ensures.loads (λ f q e. begun _ c.args.root.now f _ _ c.new-modules.ensures e))
