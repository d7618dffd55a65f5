-- Formulas that nothing temporal comes out of, however definitions are unfolded.
use Rattle.std.specs.Prelude.{◌≡◌, ℕ, Bool, false, ◌||◌, if◌then◌else◌, List, [], ◌∷◌, ◌++◌, fold}
use Rattle.std.specs.List.{list_any}
use Rattle.core_expr.specs.declared.row.Row.{Row}
use Rattle.core_expr.specs.declared.row.RowKind.{RowKind}
use Rattle.core_expr.specs.declared.row.RowKind.TheVariants.{Bound, Symbol, Plain, Binding}
use Rattle.core_expr.specs.Tree.{Tree}
use Rattle.core_expr.specs.Flat.{rows_of}
use Rattle.obligation.specs.declared.obligation.Definition.{Definition}
use Rattle.known_facts.specs.declared.table.Table.{Table}
use Rattle.proof_contexts.specs.Expansion.{has_number, full}
use Rattle.proof_contexts.specs.Contexts.{unfolded_by}
use Rattle.proof_contexts.specs.Leaves.{is_mark, has_mark}

-- a node is the temporal mark, or the symbol of a definition with one of these numbers
abbrev pub is_suspect : List ℕ → RowKind → Bool
is_suspect ns Bound = false
is_suspect ns (Symbol f) = has_number ns f.number
is_suspect ns (Plain h) = is_mark h
is_suspect ns (Binding b) = false

-- some node is
abbrev pub has_suspect : List ℕ → Tree → Bool
has_suspect ns t = list_any (λ (r : Row). is_suspect ns r.kind) (rows_of t)

-- these numbers, and that of a definition whose body has such a node
abbrev pub with_suspect : List ℕ → Definition → List ℕ
with_suspect ns d = if has_suspect ns d.body then ns ++ d.symbol.number ∷ [] else ns

-- these numbers, and those of the definitions out of which something temporal may come, by numbers before them alone
abbrev pub suspects : List ℕ → List Definition → List ℕ
suspects ns ds = fold with_suspect ns ds

-- the formula is temporal, fully expanded or with the definitions of these numbers unfolded
abbrev pub is_temporal_one : List Definition → List ℕ → Tree → Bool
is_temporal_one table u e = has_mark (full table e) || has_mark (unfolded_by table u e)

abbrev pub definitions_of : Table → List Definition
definitions_of t = t.definitions.items

-- the table has the numbers of the suspects among its definitions
abbrev pub HasSuspects : Table → Type 0
HasSuspects t = t.suspects.items ≡ suspects [] t.definitions.items
