use Rattle.std.proofs.Common.{map, ap, sym, ◌∙◌}
use Rattle.std.proofs.lemmas.List.{map-append}
use Rattle.prime_expand.proofs.Ways.{turned, rebuilt, rebuilt_last}
use Rattle.prime_expand.proofs.forms.updated.Goals as goal

pub loop-turn-preserved : goal.loop-turn-preserved
loop-turn-preserved c =
    let rest = map turned c.pop.new.self.items in
    c.loop-turn.invariant ∙ ap (λ l. rebuilt (map turned l) c.loop-turn.value) c.in-Some.ensures.items
    ∙ ap (λ l. rebuilt l c.loop-turn.value) (map-append turned c.pop.new.self.items _)
    ∙ rebuilt_last rest (turned c.in-Some.turn) c.loop-turn.value ∙ ap (rebuilt rest) (sym c.in_ok-value.ensures)
