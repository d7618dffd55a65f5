use Rattle.std.proofs.Common.{◌≡◌, drop}
use Rattle.proof_contexts.specs.Contexts.{with_items}
use Rattle.known_facts.specs.Shown.{items_of, context_of}
use Rattle.known_facts.proofs.context.Context.tell_items.Given as goal

abbrev pub invariant-loop-item : goal.invariant-loop-item
invariant-loop-item l = with_items l.label (items_of (drop l.item-index l.items)) (context_of l.self) ≡ with_items l.label (items_of l.items) (context_of l.fn.self)
