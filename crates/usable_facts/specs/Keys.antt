-- By what a fact is cited: the number of its step, or that of its declaration. Both are told apart by what is left over on division
-- by three; a theorem without a name, which nothing cites, has a number of its own too.
use Rattle.std.specs.Prelude.{ℕ, suc, ◌*◌, List, [], ◌∷◌, Option, Some, None}
use Rattle.plain_syntax.specs.Plain.{Text}

abbrev pub step_key : ℕ → ℕ
step_key n = 3 * n

abbrev pub entry_key : ℕ → ℕ
entry_key n = suc (3 * n)

abbrev pub unnamed_key : ℕ → ℕ
unnamed_key n = suc (suc (3 * n))

-- a step without a label has no name
abbrev pub label_key : ℕ → Text → Option ℕ
label_key n [] = None
label_key n (x ∷ w) = Some (step_key n)

abbrev pub as_entry_key : Option ℕ → Option ℕ
as_entry_key None = None
as_entry_key (Some n) = Some (entry_key n)

-- a theorem by the number of its name, or by how many theorems stand before it
abbrev pub theorem_key : ℕ → Option ℕ → ℕ
theorem_key i None = unnamed_key i
theorem_key i (Some n) = entry_key n

abbrev pub listed : Option ℕ → List ℕ → List ℕ
listed None ns = ns
listed (Some n) ns = n ∷ ns
