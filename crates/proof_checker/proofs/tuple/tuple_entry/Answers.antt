use Rattle.std.proofs.Common.{refl, ◌<◌, ◌-◌, length, arith, inl, inr}
use Rattle.term_bank.proofs.TableLaws.{AreBelow-at}
use Rattle.proof_checker.proofs.InstanceLaws.{entry_some, entry_none}
use Rattle.proof_checker.proofs.tuple.tuple_entry.Goals as goal

pub returns-then-number-eq0-clause-ok : goal.returns-then-number-eq0-clause-ok
returns-then-number-eq0-clause-ok c = entry_none c.args.bank.now c.args.bank.now c.args.params.now c.args.number (inl c.if-number-eq0.true)

pub returns-then-number-params-clause-ok : goal.returns-then-number-params-clause-ok
returns-then-number-params-clause-ok c = entry_none c.args.bank.now c.args.bank.now c.args.params.now c.args.number (inr c.if-number-params.true)

pub about_entry-requires-clause-entry : goal.about_entry-requires-clause-entry
about_entry-requires-clause-entry c =
    let l : c.args.number - 1 < length c.args.params.now = omega (arith, c.if-number-eq0.false, c.if-number-params.false) in
    AreBelow-at (length c.args.bank.now) c.args.params.now (c.args.number - 1) c.requires.params l

pub returns-clause-ok : goal.returns-clause-ok
returns-clause-ok c = entry_some c.args.bank.now c.about_entry.new.bank c.args.params.now c.args.number _ c.in_ok-formula.formula c.if-number-eq0.false c.if-number-params.false refl c.in_ok-formula.ensures.ok
