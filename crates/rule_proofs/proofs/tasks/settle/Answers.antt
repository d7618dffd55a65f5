use Rattle.std.proofs.Common.{rules}
use Rattle.proof_writer.specs.Written.{opens, tree_at}
use Rattle.rule_proofs.specs.Values.{whole_of}
use Rattle.rule_proofs.proofs.Shown.{settled_shown}
use Rattle.rule_proofs.proofs.tasks.settle.Goals as goal

pub returns-clause-ok : goal.returns-clause-ok
returns-clause-ok c =
    settled_shown c.args.values.now.items c.push.new.self.items (opens c.args.w.now) (opens c.show_whole.new.w) (whole_of c.args.reason) (tree_at c.args.w.now c.args.f) c.value_by.result (search rules) c.value_by.ensures c.in_ok-show_whole.ensures.ok
