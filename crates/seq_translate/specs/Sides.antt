-- The second sides of splits, as code takes them.
use Rattle.std.specs.Prelude.{ℕ, Bool, true, false, Option, Some, None, List}
use Rattle.search_definition.specs.Terms.{if_so}
use Rattle.proof_trees.specs.Machine.{Second as SecondSide}
use Rattle.proof_trees.specs.Machine.{is_of, is_needed, earlier}
use Rattle.seq_translate.specs.Marks.{set_marks, clear_marks}

-- whether the latest second side, which is that of the split n, is needed
abbrev pub taken : List SecondSide → ℕ → Option Bool
taken ss n = if_so (is_of ss n) (Some (is_needed ss)) None

-- the others
abbrev pub left : List SecondSide → ℕ → List SecondSide
left ss n = if_so (is_of ss n) (earlier ss) ss

-- the marks before a split that newly added the first formulas, and that names the second where it is used
abbrev pub remarked : Bool → List Bool → List ℕ → List ℕ → List Bool
remarked true m ns named = set_marks (clear_marks m ns) named
remarked false m ns named = clear_marks m ns
