-- Nodes at depths, and their images.
use Rattle.std.specs.Prelude.{ℕ, suc, Bool, true, false, ◌&&◌, nat_eq, if◌then◌else◌, Option, Some, None, List, [], ◌∷◌, ◌++◌}
use Rattle.term_patterns.specs.declared.spots.Spot.{Spot}

abbrev pub spot : ℕ → ℕ → Spot
spot i d = record { node = i; depth = d }

-- one deeper, or as deep
abbrev pub deeper : Bool → ℕ → ℕ
deeper true d = suc d
deeper false d = d

-- the parts of a node at the depth d: the last part of a binder is one deeper
abbrev pub spots_under : Bool → ℕ → List ℕ → List Spot
spots_under b d [] = []
spots_under b d (p ∷ []) = spot p (deeper b d) ∷ []
spots_under b d (p ∷ q ∷ ps) = spot p d ∷ spots_under b d (q ∷ ps)

-- the image that is kept
abbrev pub image_at : List (Spot × ℕ) → Spot → Option ℕ
image_at [] p = None
image_at (e ∷ es) p = if nat_eq e.0.node p.node && nat_eq e.0.depth p.depth then Some e.1 else image_at es p

abbrev pub unless_found : Option ℕ → Spot × ℕ → List (Spot × ℕ) → List (Spot × ℕ)
unless_found None e es = es ++ e ∷ []
unless_found (Some m) e es = es

-- an image that is kept where none was
abbrev pub kept : Spot → ℕ → List (Spot × ℕ) → List (Spot × ℕ)
kept p n es = unless_found (image_at es p) (p, n) es

-- an entry whose key is the node and the depth
abbrev pub placed : (ℕ × ℕ) × ℕ → Spot × ℕ
placed e = (spot e.0.0 e.0.1, e.1)
