-- Which numbers follow a head or a rule.
use Rattle.std.specs.Prelude.{ℕ, cond, nat_eq}
use Rattle.std.proofs.Common.{get_or}
use Rattle.core_expr.specs.declared.head.Head.{Head}
use Rattle.core_expr.specs.declared.head.Head.TheVariants.{Num, Str, Enum, Tuple}
use Rattle.core_expr.specs.declared.row.RowKind.{RowKind}
use Rattle.core_expr.specs.declared.row.RowKind.TheVariants.{Bound, Symbol, Plain, Binding}
use Rattle.core_expr.specs.Heads.{head_arity, binder_arity, kind_at}
use Rattle.seq_calculus.specs.Lists.{expression_counts, premise_counts}
use Rattle.proof_text.specs.declared.shape.Tail.TheVariants.{Fixed, Counted, Bytes}
use Rattle.proof_text.specs.declared.shape.Shape.{Shape}

-- so many numbers and so many indices
abbrev pub fixed : ℕ → ℕ → Shape
fixed n k = record { numbers = n; tail = Fixed k }

-- so many numbers, of which the last tells the number of indices
abbrev pub counted : ℕ → Shape
counted n = record { numbers = n; tail = Counted }

abbrev pub plain_shape : Head → Shape
plain_shape Num = fixed 2 0
plain_shape Str = record { numbers = 1; tail = Bytes }
plain_shape Enum = counted 1
plain_shape Tuple = counted 1
plain_shape h = fixed 0 (head_arity h)

abbrev pub kind_shape : RowKind → Shape
kind_shape Bound = fixed 1 0
kind_shape (Symbol f) = counted 2
kind_shape (Plain h) = plain_shape h
kind_shape (Binding b) = fixed 0 (binder_arity b)

-- the shape of a node by its head number; at 6 are a symbol's number and its arity
unfoldable pub node_shape : ℕ → Shape
node_shape h = cond (nat_eq h 6) (counted 2) (kind_shape (kind_at h))

-- the shape of a step by its rule, but for Weak
unfoldable pub step_shape : ℕ → Shape
step_shape r = cond (nat_eq r 21) (counted 3) (fixed 0 (get_or expression_counts r 0))

unfoldable pub premise_count : ℕ → ℕ
premise_count r = get_or premise_counts r 0
