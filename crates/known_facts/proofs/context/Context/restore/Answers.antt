use Rattle.std.proofs.Common.{length, take, refl, sym, ap, ◌∙◌}
use Rattle.known_facts.specs.Shown.{entries_of}
use Rattle.known_facts.specs.Grown as grown
use Rattle.known_facts.proofs.Growing.{restored_is}
use Rattle.known_facts.proofs.context.Context.restore.Goals as goal

pub returns : goal.returns
returns c = λ d saved older.
    let ks = entries_of c.args.self.now.known.items in
    sym (restored_is c.args.saved d ks (entries_of c.restore_states.new.known.items) c.args.saved.defs.items c.args.saved.goal saved older
    (c.restore_states.ensures ∙ ap (λ ss. grown.restored ss (take (length ss) ks)) c.as_slice.ensures.value) refl refl)
