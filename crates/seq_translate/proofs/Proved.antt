-- The loop's proof is correct for the obligation.
use Rattle.std.specs.Prelude.{◌≡◌, ℕ, Bool, true, false, List, [], ◌∷◌, length, replicate}
use Rattle.std.proofs.Common.{ap, sym, ◌∙◌, subst, arith}
use Rattle.std.proofs.lemmas.List.{length-replicate, get_or-replicate}
use Rattle.core_expr.specs.Tree.{Tree}
use Rattle.seq_calculus.specs.Calculus.{Proof, Correct}
use Rattle.search_definition.specs.Search.{Move}
use Rattle.search_trace.specs.declared.turn.Turn.{Turn}
use Rattle.search_trace.specs.Traces.{moves_of}
use Rattle.proof_writer.specs.Shapes.{neg_left, first_of}
use Rattle.proof_trees.specs.Laws.{LoopProves}
use Rattle.proof_trees.specs.Machine.{Parts, back}
use Rattle.seq_translate.specs.Marks.{AreMarks}
use Rattle.seq_translate.specs.Translated.{IsTranslated}

-- nothing is marked
pub none_marked : (ts : List Tree) (ms : List Bool) (n : ℕ) → n ≡ length ts → ms ≡ replicate n false → AreMarks ts ms (λ f. false)
none_marked ts ms n l e =
    subst (λ m. AreMarks ts m (λ f. false)) (sym e)
    (length-replicate n false ∙ l, λ i k. get_or-replicate n i false true (omega (arith, k, l)))

pub loop_translates : LoopProves → (ts : List Tree) (turns : List Turn) (g : Tree) (p : Proof) → p ≡ neg_left g (first_of (back (moves_of ts turns) 1 (moves_of ts turns)).parts.proofs) → IsTranslated ts turns g p
loop_translates law ts turns g p e facts limit used closed goal_closed moves ends =
    let m = law facts g limit used closed goal_closed ends in
    subst (λ q. Correct q facts (g ∷ []))
    (sym (e ∙ ap (λ (ms : List Move). neg_left g (first_of (back ms 1 ms).parts.proofs)) moves ∙ ap (λ (ps : Parts). neg_left g (first_of ps.proofs)) m.1))
    m.2
