-- The map of the code against the list that contracts see.
use Rattle.std.proofs.Common.{◌≡◌, ℕ, Bool, true, false, ◌&&◌, nat_eq, cond, List, [], ◌∷◌, ◌++◌, map, refl, sym, ap, ◌∙◌, is_some}
use Rattle.std.specs.Prelude.{Option, Some, None}
use Rattle.std.specs.Map.{lookup}
use Rattle.std.proofs.lemmas.List.{map-append}
use Rattle.std.proofs.lemmas.Cmp.{nat_eq_equiv}
use Rattle.term_patterns.specs.declared.spots.Spot.{Spot}
use Rattle.term_patterns.specs.Depths.{image_at, kept, placed, unless_found}

-- whether a key is that of a spot
abbrev pub is_key : ℕ × ℕ → ℕ × ℕ → Bool
is_key p k = nat_eq p.0 k.0 && nat_eq p.1 k.1

abbrev pub key_of : Spot → ℕ × ℕ
key_of p = (p.node, p.depth)

pub none_of : (r : Option ℕ) → is_some r ≡ false → r ≡ None
none_of None h = refl
none_of (Some m) h = cc

-- the map finds what is kept
pub lookup_placed : (p : Spot) (es : List ((ℕ × ℕ) × ℕ)) → lookup (is_key (key_of p)) es ≡ image_at (map placed es) p
lookup_placed p [] = refl
lookup_placed p (e ∷ es) =
    λ i. cond (nat_eq_equiv.symm p.node e.0.0 i && nat_eq_equiv.symm p.depth e.0.1 i) (Some e.1) (lookup_placed p es i)

-- an entry put last is an image kept, where none is there
pub placed_last : (p : Spot) (n : ℕ) (es : List ((ℕ × ℕ) × ℕ)) → is_some (lookup (is_key (key_of p)) es) ≡ false
    → map placed (es ++ (key_of p, n) ∷ []) ≡ kept p n (map placed es)
placed_last p n es h =
    map-append placed es _ ∙ sym (ap (λ r. unless_found r (p, n) (map placed es)) (sym (lookup_placed p es) ∙ none_of _ h))

-- and nothing changes where one is there
pub placed_before : (p : Spot) (n : ℕ) (es : List ((ℕ × ℕ) × ℕ)) → is_some (lookup (is_key (key_of p)) es) ≡ true
    → map placed es ≡ kept p n (map placed es)
placed_before p n es h = go (image_at (map placed es) p) (sym (ap is_some (lookup_placed p es)) ∙ h)
  where
    go : (r : Option ℕ) → is_some r ≡ true → map placed es ≡ unless_found r (p, n) (map placed es)
    go None e = cc
    go (Some m) e = refl
