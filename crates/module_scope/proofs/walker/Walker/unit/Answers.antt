use Rattle.std.proofs.Common.{sym, ap, ◌∙◌}
use Rattle.tla_ast.specs.declared.unit.UnitKind.{UnitKind}
use Rattle.plain_syntax.specs.Syntax.{kind_of}
use Rattle.symbol_table.specs.declared.entry.EntrySort.TheVariants as sorts
use Rattle.module_scope.specs.Known.{book_of}
use Rattle.module_scope.specs.Names.{unit, unit_names, each, declare}
use Rattle.module_scope.proofs.Visits.{because}
use Rattle.module_scope.proofs.walker.Walker.unit.Goals as goal

pub returns-in-Constants : goal.returns-in-Constants
unfolding unit
returns-in-Constants c =
    let b = book_of c.args.self.now in
    because _ _ _ _ (ap (λ (k : UnitKind). unit_names c.args.unit.now.place (kind_of k) b) c.in-Constants.is ∙ ap (λ ds. each (declare sorts.Constant 0) ds b) (sym c.as_slice.ensures)) c.declare_all.ensures

pub returns-in-Variables : goal.returns-in-Variables
unfolding unit
returns-in-Variables c =
    let b = book_of c.args.self.now in
    because _ _ _ _ (ap (λ (k : UnitKind). unit_names c.args.unit.now.place (kind_of k) b) c.in-Variables.is ∙ ap (λ ds. each (declare sorts.State 1) ds b) (sym c.as_slice-in-Variables.ensures))
    c.declare_all-in-Variables.ensures

pub returns-in-Assume : goal.returns-in-Assume
unfolding unit
returns-in-Assume c = because _ _ _ _ (ap (λ (k : UnitKind). unit_names c.args.unit.now.place (kind_of k) (book_of c.args.self.now)) c.in-Assume.is) c.assumption.ensures

pub returns-in-Define : goal.returns-in-Define
unfolding unit
returns-in-Define c = because _ _ _ _ (ap (λ (k : UnitKind). unit_names c.args.unit.now.place (kind_of k) (book_of c.args.self.now)) c.in-Define.is) c.define_one.ensures

pub returns-in-Theorem : goal.returns-in-Theorem
unfolding unit
returns-in-Theorem c = because _ _ _ _ (ap (λ (k : UnitKind). unit_names c.args.unit.now.place (kind_of k) (book_of c.args.self.now)) c.in-Theorem.is) c.theorem.ensures
