-- The JSON object of a line has no float, is not deep, and gives the line's parts.
use Rattle.std.proofs.Common.{◌≡◌, ℕ, ◌≤◌, List, [], ◌∷◌, false, refl, ap, lit≤}
use Rattle.std.specs.Prelude.{Some, option_map}
use Rattle.serde_json.specs.Data.{depth, items_depth}
use Rattle.serde_json.specs.Read.{max_depth}
use Rattle.serde_json.specs.Written.{has_float, items_have_float}
use Rattle.cache_line.specs.declared.line.Line.{Line}
use Rattle.cache_line.specs.Lines.{numbers_of, items_for, data_for, line_of}

no_floats : (ns : List ℕ) → items_have_float (items_for ns) ≡ false
no_floats [] = refl
no_floats (n ∷ ns) = no_floats ns

pub no_float : (l : Line) → has_float (data_for l) ≡ false
no_float l = rw (no_floats l.obligation, no_floats l.proof) refl

flat : (ns : List ℕ) → items_depth (items_for ns) ≡ 0
flat [] = refl
flat (n ∷ ns) = rw (flat ns) refl

pub shallow : (l : Line) → depth (data_for l) ≤ max_depth
shallow l = rw (flat l.obligation, flat l.proof) (lit≤ tt)

numbers_back : (ns : List ℕ) → numbers_of (items_for ns) ≡ Some ns
numbers_back [] = refl
numbers_back (n ∷ ns) = ap (option_map (λ ms. n ∷ ms)) (numbers_back ns)

pub line_back : (l : Line) → line_of (data_for l) ≡ Some l
line_back l = rw (numbers_back l.obligation, numbers_back l.proof) refl
