use Rattle.std.proofs.Common.{◌≤◌, length, ◌∙◌, sym, arith}
use Rattle.std.proofs.lemmas.Result.{on_ok_weaker}
use Rattle.proof_writer.specs.Seen.{seen}
use Rattle.proof_writer.proofs.WrittenLaws.{some_left, swap_first, swap_second, swap_opens}
use Rattle.proof_writer.proofs.writer.Writer.swap.Goals as goal

pub take-first-requires-clause-some : goal.take-first-requires-clause-some
take-first-requires-clause-some c =
    let f = c.self.inside.fields in
    let h : 2 ≤ length f.unused.items = some_left c.args.self.now f.bank f.steps.items f.unused.items 2 c.self.view_is c.requires in
    omega (arith, h)

pub take-second-requires-clause-some : goal.take-second-requires-clause-some
take-second-requires-clause-some c =
    let f = c.self.inside.fields in
    let h : 2 ≤ length f.unused.items = some_left c.args.self.now f.bank f.steps.items f.unused.items 2 c.self.view_is c.requires in
    omega (arith, h, c.take-first.ensures.fewer)

pub put_back-requires : goal.put_back-requires
put_back-requires c = swap_first (seen c.self.inside.fields) (seen c.take-first.new.fields) (seen c.take-second.new.fields) c.take-first.result c.take-second.result c.self.invariant c.take-first.ensures.taken c.take-second.ensures.taken

pub put_back-requires-2 : goal.put_back-requires-2
put_back-requires-2 c = swap_second (seen c.self.inside.fields) (seen c.take-first.new.fields) (seen c.take-second.new.fields) (seen c.put_back.new.fields) c.take-first.result c.take-second.result c.self.invariant c.take-first.ensures.taken c.take-second.ensures.taken c.in_ok-put_back.ensures.ok

pub returns-clause-ok : goal.returns-clause-ok
returns-clause-ok c =
    on_ok_weaker c.put_back-2.result
    (λ e. swap_opens c.args.self.now (seen c.take-first.new.fields) (seen c.take-second.new.fields) (seen c.put_back.new.fields) (seen c.put_back-2.new.fields) c.take-first.result c.take-second.result (sym c.self.view_is ∙ c.take-first.ensures.taken) c.take-second.ensures.taken c.in_ok-put_back.ensures.ok e)
    c.put_back-2.ensures.ok
