use Rattle.std.proofs.Common.{◌≡◌, drop}
use Rattle.core_expr.specs.Nodes.{picked}
use Rattle.term_bank.specs.Banks.{IsDistinct, Extends}
use Rattle.search_definition.specs.Terms.{first_some}
use Rattle.search_definition.specs.Plain.{rewrite_of}
use Rattle.equation_ranks.proofs.rewriting.first_equation.Given as goal

abbrev pub invariant-loop-t : goal.invariant-loop-t
invariant-loop-t l =
    record {
      extends : Extends l.fn.bank l.bank;
      distinct : IsDistinct l.bank;
      same : first_some rewrite_of (picked l.fn.bank l.terms) ≡ first_some rewrite_of (picked l.fn.bank (drop l.t-index l.terms));
    }
