use Rattle.std.proofs.Common.{◌≡◌, ◌∙◌, true, false, sym, ap, refl, arith}
use Rattle.pool_core.specs.Machine.{has_drawn, has_noted}
use Rattle.pool_core.proofs.Moving.{notes, note_fits}
use Rattle.pool_core.proofs.worker.Worker.note.Goals as goal

drawn : (c : goal.After-push_reserved-arg-1) → has_drawn c.args.job c.args.self.now.drawn.items ≡ true
drawn c = ap (has_drawn c.args.job) (sym c.as_slice.ensures.value) ∙ sym c.has_drawn.ensures ∙ c.if-not-has_drawn.false

fresh : (c : goal.After-push_reserved-arg-1) → has_noted c.args.job c.args.self.now.noted.items ≡ false
fresh c = ap (has_noted c.args.job) (sym c.deref.ensures.value) ∙ sym c.contains.ensures.value ∙ c.if-contains.false

pub push_reserved-requires : goal.push_reserved-requires
push_reserved-requires c = let fits = note_fits c.args.job c.args.self.now c.requires (drawn c) (fresh c) in omega (arith, c.args.self.now.noted.ok.0)

pub returns : goal.returns
returns c = notes c.args.job c.args.self.now c.requires (drawn c.before) (fresh c.before) _ refl c.push_reserved.ensures.items c.push_reserved.ensures.capacity refl refl
