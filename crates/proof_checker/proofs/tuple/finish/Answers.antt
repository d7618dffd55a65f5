use Rattle.std.proofs.Common.{◌≡◌, ◌<◌, ◌-◌, ℕ, length, get_or, rules, ◌∙◌, ap, arith}
use Rattle.std.specs.Prelude.{vec_len}
use Rattle.core_expr.specs.Nodes.{picked, trees_from}
use Rattle.term_bank.specs.Banks.{HasTree}
use Rattle.proof_checker.specs.Schemas.{last}
use Rattle.proof_checker.specs.Tables.{cells_of}
use Rattle.proof_checker.proofs.BuildLaws.{some_placed, last_placed}
use Rattle.proof_checker.proofs.tuple.finish.Goals as goal

pub overflow_sub-len : goal.overflow_sub-len
overflow_sub-len c =
    let n : c.len.result ≡ length c.add_cells.new.places.items = search rules in
    let e : c.in_ok-places.places.items ≡ c.args.items.now = search rules in
    let s : 0 < length c.in_ok-places.places.items = rw e c.requires.some in
    let m = some_placed c.args.bank.now c.add_cells.new.bank c.in_ok-places.places.items c.add_cells.new.places.items (cells_of c.args.cells.now) s c.in_ok-add_cells.ensures.ok in
    omega (arith, n, m)

pub index-requires : goal.index-requires
index-requires c =
    let n : c.len.result ≡ length c.add_cells.new.places.items = search rules in
    let v : vec_len c.add_cells.new.places ≡ length c.add_cells.new.places.items = search rules in
    let e : c.in_ok-places.places.items ≡ c.args.items.now = search rules in
    let s : 0 < length c.in_ok-places.places.items = rw e c.requires.some in
    let m = some_placed c.args.bank.now c.add_cells.new.bank c.in_ok-places.places.items c.add_cells.new.places.items (cells_of c.args.cells.now) s c.in_ok-add_cells.ensures.ok in
    omega (arith, n, v, m)

pub returns-clause-ok : goal.returns-clause-ok
returns-clause-ok c =
    let n : c.len.result ≡ length c.add_cells.new.places.items = search rules in
    let e : c.in_ok-places.places.items ≡ c.args.items.now = search rules in
    let s : 0 < length c.in_ok-places.places.items = rw e c.requires.some in
    let m = some_placed c.args.bank.now c.add_cells.new.bank c.in_ok-places.places.items c.add_cells.new.places.items (cells_of c.args.cells.now) s c.in_ok-add_cells.ensures.ok in
    let i = c.index.ensures ∙ ap (λ (k : ℕ). get_or c.add_cells.new.places.items (k - 1) c.index.result.now) n in
    coe 0 1 (k. HasTree c.add_cells.new.bank c.index.result.now (last (trees_from (picked c.args.bank.now (e k)) (cells_of c.args.cells.now))))
    (last_placed c.add_cells.new.bank (trees_from (picked c.args.bank.now c.in_ok-places.places.items) (cells_of c.args.cells.now)) c.add_cells.new.places.items c.index.result.now m i c.in_ok-add_cells.ensures.ok)
