-- A job keeps its number while more are added.
use Rattle.std.proofs.Common.{◌≡◌, ℕ, zero, suc, List, [], ◌∷◌, ◌++◌, Bool, true, false, cond, refl, sym, ap, ◌∙◌, subst}
use Rattle.std.proofs.lemmas.List.{map-append}
use Rattle.std.specs.Prelude.{Some, slice_get}
use Rattle.std.specs.List.{list_any}
use Rattle.indexmap.specs.IndexSet.{insert_key, insert_all}
use Rattle.core_expr.specs.declared.canon.Canon.{Canon}
use Rattle.core_expr.specs.Equality.{same_canon}
use Rattle.core_expr.specs.Keys.{canon-Decides}
use Rattle.canonical_form.specs.declared.form.Named.{Named}
use Rattle.job_plan.specs.Plan.{ArePlaces, canons_of}

get_longer : (ks : List Canon) (k : Canon) (j : ℕ) (c : Canon) → slice_get ks j ≡ Some c → slice_get (ks ++ k ∷ []) j ≡ Some c
get_longer [] k j c e = absurd (cc)
get_longer (x ∷ xs) k zero c e = e
get_longer (x ∷ xs) k (suc j) c e = get_longer xs k j c e

get_kept : (b : Bool) (ks : List Canon) (k : Canon) (j : ℕ) (c : Canon) → slice_get ks j ≡ Some c → slice_get (cond b ks (ks ++ k ∷ [])) j ≡ Some c
get_kept true ks k j c e = e
get_kept false ks k j c e = get_longer ks k j c e

places_kept : (ks : List Canon) (k : Canon) (cs : List Canon) (js : List ℕ) → ArePlaces ks cs js → ArePlaces (insert_key same_canon ks k) cs js
places_kept ks k [] [] h = h
places_kept ks k [] (j ∷ js) h = h
places_kept ks k (c ∷ cs) [] h = h
places_kept ks k (c ∷ cs) (j ∷ js) h = (get_kept (list_any (same_canon k) ks) ks k j c h.0, places_kept ks k cs js h.1)

zip_snoc : (ks cs : List Canon) (js : List ℕ) (c : Canon) (j : ℕ) → ArePlaces ks cs js → slice_get ks j ≡ Some c → ArePlaces ks (cs ++ c ∷ []) (js ++ j ∷ [])
zip_snoc ks [] [] c j h e = (e, tt)
zip_snoc ks [] (y ∷ js) c j h e = absurd h
zip_snoc ks (x ∷ cs) [] c j h e = absurd h
zip_snoc ks (x ∷ cs) (y ∷ js) c j h e = (h.0, zip_snoc ks cs js c j h.1 e)

fold_snoc : (ks cs : List Canon) (c : Canon) → insert_all same_canon ks (cs ++ c ∷ []) ≡ insert_key same_canon (insert_all same_canon ks cs) c
fold_snoc ks [] c = refl
fold_snoc ks (x ∷ xs) c = fold_snoc (insert_key same_canon ks x) xs c

pub is_key : (a b : Canon) → same_canon a b ≡ true → a ≡ b
is_key a b e = (canon-Decides a b).0 e

-- one leaf more
pub jobs_more : (ls : List Named) (l : Named) (old new : List Canon) → old ≡ insert_all same_canon [] (canons_of ls) → new ≡ insert_key same_canon old l.canon → new ≡ insert_all same_canon [] (canons_of (ls ++ l ∷ []))
jobs_more ls l old new was now =
    now ∙ ap (λ ks. insert_key same_canon ks l.canon) was ∙ sym (fold_snoc [] (canons_of ls) l.canon) ∙ ap (insert_all same_canon []) (sym (map-append (λ (k : Named). k.canon) ls (l ∷ [])))

pub places_more : (ls : List Named) (l : Named) (old new : List Canon) (js : List ℕ) (j : ℕ) (k : Canon) → ArePlaces old (canons_of ls) js → new ≡ insert_key same_canon old l.canon → slice_get new j ≡ Some k → same_canon l.canon k ≡ true
    → ArePlaces new (canons_of (ls ++ l ∷ [])) (js ++ j ∷ [])
places_more ls l old new js j k was now at same =
    let here : slice_get new j ≡ Some l.canon = at ∙ ap (λ (c : Canon). Some c) (sym (is_key l.canon k same)) in
    let kept = subst (λ ks. ArePlaces ks (canons_of ls) js) (sym now) (places_kept old l.canon (canons_of ls) js was) in
    subst (λ cs. ArePlaces new cs (js ++ j ∷ [])) (sym (map-append (λ (k : Named). k.canon) ls (l ∷ []))) (zip_snoc new (canons_of ls) js l.canon j kept here)
