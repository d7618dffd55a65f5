use Rattle.std.proofs.Common.{◌≡◌, ◌+◌, ◌++◌, ◌∷◌, [], length, rules}
use Rattle.term_bank.proofs.InstLaws.{Extends-trans}
use Rattle.formula_rules.proofs.Listing.{each_step, below_drop}
use Rattle.formula_rules.proofs.join.equals_each.Goals as goal

pub loop-entry-preserved : goal.loop-entry-preserved
loop-entry-preserved c =
    let e : c.push.new.self.items ≡ c.loop-entry.equations.items ++ c.in_ok-equation.equation ∷ [] = search rules in
    record {
      left = below_drop (length c.args.bank.now) (c.loop-entry.entry-index + 1) c.args.entries.now c.requires.entries;
      extends = Extends-trans c.args.bank.now c.loop-entry.bank c.make.new.bank c.loop-entry.invariant.extends c.make.ensures.extends;
      distinct = c.make.ensures.distinct;
      listing = each_step c.args.bank.now c.loop-entry.bank c.make.new.bank c.args.t c.loop-entry.entry-index c.in_ok-equation.equation c.args.entries.now c.loop-entry.equations.items c.push.new.self.items _ c.loop-entry.invariant.extends c.requires.term c.requires.entries c.loop-entry-test.true c.make.ensures.extends c.loop-entry.invariant.listing c.in_ok-equation.ensures.ok e;
    }
