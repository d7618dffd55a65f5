use Rattle.std.proofs.Common.{◌≡◌, ◌++◌, ◌∷◌, [], length, rules, ap, true}
use Rattle.core_expr.specs.Heads.{kind_at, kind_table}
use Rattle.core_expr.specs.Nodes.{picked}
use Rattle.proof_checker.specs.Tables.{cells_of}
use Rattle.proof_checker.specs.Schemas.{opening_at, IsOpen, opened, AreOpened}
use Rattle.proof_checker.proofs.BuildLaws.{takes_at, variable_put, nodes_fit, built}
use Rattle.proof_checker.proofs.pattern.build.Goals as goal

pub add_opening-requires-clause-count : goal.add_opening-requires-clause-count
add_opening-requires-clause-count c =
    let e : c.in_ok-values.values.items ≡ c.args.params.now = search rules in
    rw (c.opening_at.ensures, e) (takes_at c.args.i (length c.args.params.now) c.requires.pattern c.requires.count)

pub returns-then-not-begun-clause-none : goal.returns-then-not-begun-clause-none
returns-then-not-begun-clause-none c = λ o.
    let e : c.in_ok-values.values.items ≡ c.args.params.now = search rules in
    let q : IsOpen c.opening_at.result (picked c.args.bank.now c.in_ok-values.values.items) = rw (c.opening_at.ensures, e) o in
    (rw c.if-not-begun.true at c.in_ok-begun.ensures.ok) q

pub add_cells-requires-clause-cells : goal.add_cells-requires-clause-cells
unfolding kind_at kind_table
add_cells-requires-clause-cells c =
    let b0 = c.args.bank.now in
    let b1 = c.add_opening.new.bank in
    let vs = c.add_opening.new.values.items in
    let e : c.in_ok-values.values.items ≡ c.args.params.now = search rules in
    let t : c.in_ok-begun.begun ≡ true = search (rules, c.if-not-begun.false) in
    let a : AreOpened b0 b1 (IsOpen (opening_at c.args.i) (picked b0 c.args.params.now)) (opened (opening_at c.args.i) (picked b0 c.args.params.now)) c.args.params.now vs true = coe 0 1 (j. AreOpened b0 b1 (IsOpen (c.opening_at.ensures j) (picked b0 (e j))) (opened (c.opening_at.ensures j) (picked b0 (e j))) (e j) vs (t j)) c.in_ok-begun.ensures.ok in
    let p : c.push.new.self.items ≡ vs ++ c.in_ok-variable.variable ∷ [] = search rules in
    rw (ap cells_of c.cells_at.ensures) (nodes_fit b0 c.make.new.self c.args.i c.args.params.now c.push.new.self.items c.requires.pattern c.requires.count (variable_put b0 b1 c.make.new.self (opening_at c.args.i) c.args.params.now vs c.push.new.self.items c.in_ok-variable.variable c.make.ensures.extends a c.in_ok-variable.ensures.ok p))

pub add_cells-requires-clause-places : goal.add_cells-requires-clause-places
unfolding kind_at kind_table
add_cells-requires-clause-places c =
    let b0 = c.args.bank.now in
    let b1 = c.add_opening.new.bank in
    let vs = c.add_opening.new.values.items in
    let e : c.in_ok-values.values.items ≡ c.args.params.now = search rules in
    let t : c.in_ok-begun.begun ≡ true = search (rules, c.if-not-begun.false) in
    let a : AreOpened b0 b1 (IsOpen (opening_at c.args.i) (picked b0 c.args.params.now)) (opened (opening_at c.args.i) (picked b0 c.args.params.now)) c.args.params.now vs true = coe 0 1 (j. AreOpened b0 b1 (IsOpen (c.opening_at.ensures j) (picked b0 (e j))) (opened (c.opening_at.ensures j) (picked b0 (e j))) (e j) vs (t j)) c.in_ok-begun.ensures.ok in
    let p : c.push.new.self.items ≡ vs ++ c.in_ok-variable.variable ∷ [] = search rules in
    (variable_put b0 b1 c.make.new.self (opening_at c.args.i) c.args.params.now vs c.push.new.self.items c.in_ok-variable.variable c.make.ensures.extends a c.in_ok-variable.ensures.ok p).below

pub returns-clause-some : goal.returns-clause-some
unfolding kind_at kind_table
returns-clause-some c =
    let b0 = c.args.bank.now in
    let b1 = c.add_opening.new.bank in
    let vs = c.add_opening.new.values.items in
    let e : c.in_ok-values.values.items ≡ c.args.params.now = search rules in
    let t : c.in_ok-begun.begun ≡ true = search (rules, c.if-not-begun.false) in
    let a : AreOpened b0 b1 (IsOpen (opening_at c.args.i) (picked b0 c.args.params.now)) (opened (opening_at c.args.i) (picked b0 c.args.params.now)) c.args.params.now vs true = coe 0 1 (j. AreOpened b0 b1 (IsOpen (c.opening_at.ensures j) (picked b0 (e j))) (opened (c.opening_at.ensures j) (picked b0 (e j))) (e j) vs (t j)) c.in_ok-begun.ensures.ok in
    let p : c.push.new.self.items ≡ vs ++ c.in_ok-variable.variable ∷ [] = search rules in
    built b0 b1 c.make.new.self c.add_cells.new.bank c.args.i c.args.params.now vs c.push.new.self.items c.add_cells.new.places.items c.in_ok-variable.variable _ c.make.ensures.extends a c.in_ok-variable.ensures.ok p (ap cells_of c.cells_at.ensures) c.in_ok-add_cells.ensures.ok
