use Rattle.std.proofs.Common.{◌≡◌, ◌<◌, List, length, ap, sym, subst, ◌∙◌}
use Rattle.core_expr.specs.Tree.{Tree}
use Rattle.term_bank.specs.Banks.{tree_at as at}
use Rattle.seq_calculus.specs.Calculus.{Proof}
use Rattle.seq_calculus.specs.Steps.{proof_of}
use Rattle.search_trace.specs.Traces.{moves_of}
use Rattle.proof_writer.specs.Written.{opens, tree_at}
use Rattle.proof_writer.specs.Shapes.{neg_left, first_of}
use Rattle.proof_trees.specs.Machine.{back}
use Rattle.seq_translate.proofs.Proved.{loop_translates}
use Rattle.seq_translate.proofs.proof.translate.Goals as goal

pub returns : goal.returns
returns g c =
    let bank = c.args.bank in
    let turns = c.args.turns.now in
    let place = c.args.goal in
    let w = c.new-w.result in
    let v = c.run.new.w in
    let t : w.trees ≡ bank = c.new-w.ensures.trees in
    let below : place < length w.trees = subst (λ (l : List Tree). place < length l) (sym t) c.requires.goal in
    loop_translates c.loop_proves.ensures bank turns (at bank place) (proof_of c.in_ok-proof.proof)
    (c.in_ok-proof.ensures.proof
    ∙ c.in_ok-end.ensures.ok
    ∙ ap (λ (f : Tree). neg_left f (first_of (opens v))) (c.run.ensures.same place below)
    ∙ ap (λ (ps : List Proof). neg_left (tree_at w place) (first_of ps)) c.in_ok-run.ensures.ok
    ∙ ap (λ (ts : List Tree). neg_left (at ts place) (first_of (back (moves_of ts turns) 1 (moves_of ts turns)).parts.proofs)) t)
