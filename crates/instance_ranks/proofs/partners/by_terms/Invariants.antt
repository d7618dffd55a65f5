use Rattle.std.proofs.Common.{◌≡◌, drop}
use Rattle.core_expr.specs.Nodes.{picked}
use Rattle.term_bank.specs.Banks.{Extends, IsDistinct, tree_at}
use Rattle.branch_state.specs.Parts.{shown}
use Rattle.instance_terms.specs.Fresh.{fresh_of}
use Rattle.instance_ranks.specs.Seeking.{aim_of}
use Rattle.instance_ranks.specs.Partners.{by_terms}
use Rattle.instance_ranks.proofs.partners.by_terms.Given as goal

abbrev pub invariant-loop-i : goal.invariant-loop-i
invariant-loop-i l =
    let aim = aim_of l.fn.bank (shown l.parts).now l.s in
    let side = tree_at l.fn.bank l.l in
    record {
      extends : Extends l.fn.bank l.bank;
      distinct : IsDistinct l.bank;
      rest : by_terms (fresh_of l.w) aim side (picked l.fn.bank (drop l.i l.terms)) ≡ by_terms (fresh_of l.w) aim side (picked l.fn.bank l.terms);
    }
