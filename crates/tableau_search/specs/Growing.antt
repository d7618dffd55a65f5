-- Banks that grow.
use Rattle.std.specs.Prelude.{◌≡◌, List, [], ◌++◌}
use Rattle.std.proofs.Common.{ap, sym, ◌∙◌, append_assoc}
use Rattle.std.proofs.lemmas.List.{append-nil}
use Rattle.core_expr.specs.Tree.{Tree}
use Rattle.term_bank.specs.Banks.{Extends}

-- one grows over another
pub extends_on : (ts us vs : List Tree) → Extends ts us → Extends us vs → Extends ts vs
extends_on ts us vs g h = (g.0 ++ h.0, h.1 ∙ ap (λ xs. xs ++ h.0) g.1 ∙ append_assoc ts g.0 h.0)

-- the same grows over itself
pub extends_same : (ts : List Tree) → Extends ts ts
extends_same ts = ([], sym (append-nil ts))

-- equal ones
pub extends_equal : (ts us : List Tree) → us ≡ ts → Extends ts us
extends_equal ts us e = ([], e ∙ sym (append-nil ts))
