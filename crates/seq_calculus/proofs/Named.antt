-- The schemas by name are the rows by number.
use Rattle.std.specs.Prelude.{◌≡◌, ℕ, zero, suc, ◌-◌, Option, Some, None, List, [], ◌∷◌, map, slice_get}
use Rattle.std.proofs.Common.{refl, ap, arith}
use Rattle.seq_calculus.specs.Schemas.{Row, no_row, row_at, instance_of}
use Rattle.seq_calculus.specs.Families.{schema_numbered, row_of}
use Rattle.seq_calculus.specs.declared.schema.Schema.{Schema}
use Rattle.seq_calculus.specs.declared.schema.TheConstants.{SCHEMAS}

pub numbered : (n : ℕ) → ¬ (n ≡ 0) → slice_get SCHEMAS (n - 1) ≡ schema_numbered n
numbered zero h = absurd (h refl)
numbered (suc k) h = let e : suc k - 1 ≡ k = omega arith in ap (slice_get SCHEMAS) e

-- the row of a schema, if there is one
abbrev pub row_if : Option Schema → Row
row_if None = no_row
row_if (Some s) = row_of s

row_at-named : (ss : List Schema) (k : ℕ) → row_at (map row_of ss) k ≡ row_if (slice_get ss k)
row_at-named [] k = refl
row_at-named (s ∷ ss) zero = refl
row_at-named (s ∷ ss) (suc k) = row_at-named ss k

pub instance_named : (k : ℕ) → instance_of k ≡ row_if (schema_numbered k)
instance_named zero = refl
instance_named (suc k) = row_at-named SCHEMAS k
