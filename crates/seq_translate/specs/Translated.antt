-- What is proved of a translation.
use Rattle.std.specs.Prelude.{◌≡◌, ℕ, List, [], ◌∷◌}
use Rattle.core_expr.specs.Tree.{Tree}
use Rattle.seq_calculus.specs.Calculus.{Proof, IsClosed, AllClosed, Correct}
use Rattle.search_definition.specs.Search.{search, steps}
use Rattle.search_definition.specs.Search.End.{Closed}
use Rattle.search_trace.specs.declared.turn.Turn.{Turn}
use Rattle.search_trace.specs.Traces.{moves_of}

-- the proof is correct for each obligation whose search ended closed with the steps of these turns
abbrev pub IsTranslated : List Tree → List Turn → Tree → Proof → Type 0
IsTranslated ts turns g p = (facts : List Tree) (limit used : ℕ) → AllClosed facts → IsClosed g → moves_of ts turns ≡ steps facts g limit → search facts g limit ≡ Closed used → Correct p facts (g ∷ [])
