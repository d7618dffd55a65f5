use Rattle.std.proofs.Common.{◌≡◌, [], Some, sym, ◌∙◌}
use Rattle.std.proofs.lemmas.Result.{on_ok_weaker}
use Rattle.search_definition.specs.Rules.Sides.{Both}
use Rattle.search_trace.specs.Traces.{added_trees, result_of}
use Rattle.proof_trees.specs.Machine.{picks}
use Rattle.seq_translate.specs.States.{flags, laid}
use Rattle.seq_translate.specs.Sides.{taken, left}
use Rattle.seq_translate.proofs.Taken.{split_some}
use Rattle.seq_translate.proofs.back.split.Goals as goal

pub returns-in-Some-clause-ok : goal.returns-in-Some-clause-ok
returns-in-Some-clause-ok g c =
    let ss = c.args.seconds.now.items in
    let us = c.take.new.seconds.items in
    let n = c.args.number in
    let fs = c.args.first.now in
    let gs = c.args.second.now in
    let is_taken : Some c.in-Some.needed ≡ taken (laid [] ss) n = sym c.in-Some.is ∙ c.in_ok-needed.ensures.taken in
    let is_left : laid [] us ≡ left (laid [] ss) n = c.in_ok-needed.ensures.left in
    on_ok_weaker c.both.result
    (λ both ts s distinct under first second h.
    split_some ts c.both.new.marks.items ss us c.both.new.w s n c.in-Some.needed (result_of ts c.args.used.now (Both (added_trees ts fs) (added_trees ts gs)))
    (picks (added_trees ts fs) (flags fs)) h.seconds is_taken is_left (λ is_so rest. both ts ss us s distinct under first second h is_so rest))
    c.both.ensures.ok
