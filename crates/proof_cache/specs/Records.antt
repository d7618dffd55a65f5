-- What a cache keeps of records: for each canonical form the proofs of its records.
use Rattle.std.specs.Prelude.{◌≡◌, ℕ, List, [], map, filter}
use Rattle.std.specs.List.{position_or_len}
use Rattle.std.proofs.Common.{get_or, refl}
use Rattle.std.specs.Coded.{Coded, code_by, coded×, coded_ℕ, coded_list}
use Rattle.core_expr.specs.declared.canon.Canon.{Canon}
use Rattle.core_expr.specs.Coding.{tree_code}
use Rattle.core_expr.specs.Tree.{Tree}
use Rattle.core_expr.specs.Equality.{same_canon}
use Rattle.seq_calculus.specs.Lists.{Lists, lists_code}
pub use Rattle.proof_cache.specs.declared.record.Record.{Record}

-- the different canonical forms, the proofs of each, and how many lines were no record
pub record Kept : Type 0 where
  pub canons : List Canon
  pub proofs : List (List Lists)
  pub skipped : ℕ

abbrev canon_code : Coded Canon
canon_code = code_by (List Tree × Tree) (coded× (coded_list tree_code) tree_code) (λ c. (c.facts, c.goal)) (λ p. record { facts = p.0; goal = p.1 }) (λ _. refl)

abbrev pub kept_code : Coded Kept
kept_code =
    code_by (List Canon × (List (List Lists) × ℕ)) (coded× (coded_list canon_code) (coded× (coded_list (coded_list lists_code)) coded_ℕ)) (λ k. (k.canons, (k.proofs, k.skipped)))
    (λ p. record { canons = p.0; proofs = p.1.0; skipped = p.1.1 }) (λ _. refl)

-- the proofs that are kept for a canonical form
abbrev pub kept_for : Kept → Canon → List Lists
kept_for k c = get_or k.proofs (position_or_len (same_canon c) k.canons) []

-- the proofs of the records of a canonical form, in order
abbrev pub proofs_for : List Record → Canon → List Lists
proofs_for rs c = map (λ (r : Record). r.proof) (filter (λ (r : Record). same_canon c r.canon) rs)

-- what is kept for each canonical form is the proofs of these records
abbrev pub Keeps : Kept → List Record → Type 0
Keeps k rs = (c : Canon) → kept_for k c ≡ proofs_for rs c
