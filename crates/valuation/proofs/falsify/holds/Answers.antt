use Rattle.std.proofs.Common.{◌∙◌, ◌-◌, sym, ap, subst, arith}
use Rattle.core_expr.specs.Heads.{IsWellFormed}
use Rattle.core_expr.specs.Places.{subtree}
use Rattle.core_expr.proofs.Proved.{last_is_root}
use Rattle.valuation.specs.Truth.{by_number, value_under}
use Rattle.valuation.proofs.falsify.holds.Goals as goal

pub overflow_sub-length : goal.overflow_sub-length
overflow_sub-length c = let some = (last_is_root c.args.e.now).0 in let count = c.length.ensures.value in omega (arith, some, count)

pub truth-requires-clause-node : goal.truth-requires-clause-node
truth-requires-clause-node c = let some = (last_is_root c.args.e.now).0 in let count = c.length.ensures.value in omega (arith, some, count)

pub truth-requires-clause-formed : goal.truth-requires-clause-formed
truth-requires-clause-formed c =
    subst (λ n. IsWellFormed (subtree c.args.e.now (n - 1))) (sym c.length.ensures.value) (subst IsWellFormed (sym (last_is_root c.args.e.now).1) c.length.ensures.formed)

pub returns : goal.returns
returns c = c.truth.ensures ∙ ap (λ n. value_under (by_number c.args.values.now) (subtree c.args.e.now (n - 1))) c.length.ensures.value ∙ ap (value_under (by_number c.args.values.now)) (last_is_root c.args.e.now).1
