use Rattle.std.proofs.Common.{◌∙◌, ℕ, List, ap}
use Rattle.std.specs.Ordering.{nat_cmp}
use Rattle.std.specs.BTreeMap.{insert_entry}
use Rattle.term_walks.proofs.MoveLaws.{one_replaced}
use Rattle.term_walks.proofs.replacing.replace.Goals as goal

pub returns-clause-ok : goal.returns-clause-ok
returns-clause-ok c =
    one_replaced c.moved.result c.args.bank.now c.moved.new.bank c.args.s c.args.t c.args.e c.insert.new.self.entries (c.in_ok-insert.ensures.entries ∙ ap (λ (es : List (ℕ × ℕ)). insert_entry nat_cmp es c.args.s c.args.t) c.new-images.ensures.empty) c.requires.closed c.moved.ensures.ok
