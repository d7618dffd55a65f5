use Rattle.std.proofs.Common.{◌+◌, ◌++◌, drop, sym, ap, ◌∙◌}
use Rattle.std.proofs.lemmas.List.{append-nil}
use Rattle.known_facts.specs.Shown.{context_of}
use Rattle.usable_facts.specs.Theorems.{is_reached}
use Rattle.theorem_leaves.specs.Modules.{told, brings}
use Rattle.theorem_leaves.proofs.Runs.{all-past}
use Rattle.theorem_leaves.proofs.Reached.{told-all, brings-done, brings-told, brings-none}
use Rattle.theorem_leaves.proofs.modules.bring.Goals as goal
use Rattle.theorem_leaves.proofs.modules.bring.Goals.{then-is_reached+in_ok-tell_all, else-is_reached}

pub loop-entry-preserved : goal.loop-entry-preserved
loop-entry-preserved c =
    let before = context_of c.loop-entry.context in
    let d = c.entry-item.result in
    let test = ap (is_reached c.args.names.now) (sym c.bytes.ensures) ∙ sym c.is_reached.ensures in
    elim c.if-is_reached.branch [
      | then-is_reached+in_ok-tell_all w ↦
          (let more = ap context_of w.context-is ∙ w.in_ok-tell_all.ensures ∙ ap (λ l. told l before) w.as_slice.ensures ∙ told-all d.adds before in (
            brings-told c.args.done.now c.args.names.now before.known (context_of c.if-is_reached.context).known c.loop-entry.entry-index d (brings c.args.done.now c.args.names.now)
                c.loop-entry.invariant.0 (test ∙ w.if-is_reached.true) (ap (λ x. x.known) more) c.loop-entry-test.true c.entry-item.is,
            ap (λ x. x.defs) more ∙ c.loop-entry.invariant.1,
          ))
      | else-is_reached w ↦ (
        ap (λ x. (context_of x).known ++ brings (drop (c.loop-entry.entry-index + 1) c.args.done.now) c.args.names.now) w.context-is
            ∙ brings-none c.args.done.now c.args.names.now before.known c.loop-entry.entry-index d (brings c.args.done.now c.args.names.now)
            c.loop-entry.invariant.0 (test ∙ w.if-is_reached.false) c.loop-entry-test.true c.entry-item.is,
        ap (λ x. (context_of x).defs) w.context-is ∙ c.loop-entry.invariant.1,
      )
    ]

pub returns : goal.returns
returns c = λ ds ws h n.
    let known = (context_of c.loop-entry.context).known in (
      sym (append-nil known)
          ∙ ap (λ l. known ++ brings l c.args.names.now) (sym (all-past c.args.done.now c.loop-entry.entry-index c.loop-entry-test.false))
          ∙ c.loop-entry.invariant.0
          ∙ brings-done c.args.done.now ds c.args.names.now ws h n,
      c.loop-entry.invariant.1,
    )
