-- One more record adds its proof to those of its canonical form, and to no others.
use Rattle.std.proofs.Common.{◌≡◌, ◌≢◌, nat_eq, ℕ, zero, suc, ◌+◌, ◌<◌, List, [], ◌∷◌, ◌++◌, Bool, true, false, cond, length, map, get_or, set, refl, sym, ap, subst, ◌∙◌, arith, get_or-set_same, get_or-set_other}
use Rattle.std.specs.Prelude.{filter}
use Rattle.std.specs.List.{list_any, position_or_len}
use Rattle.std.proofs.lemmas.Bool.Decides.{nat_tests}
use Rattle.std.proofs.lemmas.List.{append-nil, map-append, get_or_past}
use Rattle.std.proofs.lemmas.List.Elements.{filter-append}
use Rattle.std.proofs.lemmas.List.Folds.{position_or_len_push}
use Rattle.std.proofs.lemmas.List.Sums.{passes_at_first}
use Rattle.indexmap.specs.IndexSet.{insert_key}
use Rattle.core_expr.specs.declared.canon.Canon.{Canon}
use Rattle.core_expr.specs.Equality.{same_canon}
use Rattle.core_expr.specs.Keys.{canon-Decides}
use Rattle.seq_calculus.specs.Lists.{Lists}
use Rattle.proof_cache.specs.Records.{Record, Kept, proofs_for, Keeps}

abbrev place : Canon → List Canon → ℕ
place c ks = position_or_len (same_canon c) ks

-- the forms with one more, where it is not among them
abbrev with_form : Bool → List Canon → Canon → List Canon
with_form is_there ks k = cond is_there ks (ks ++ k ∷ [])

-- the lists of proofs with an empty one more, where the form is new
abbrev with_room : Bool → List (List Lists) → List (List Lists)
with_room is_new ps = cond is_new (ps ++ [] ∷ []) ps

-- the proof, where it is one of the form
abbrev mine : Bool → Lists → List Lists
mine b p = cond b (p ∷ []) []

-- with one more form the place of each has the same proofs
same_proofs : (b : Bool) (c k : Canon) (ks : List Canon) (ps : List (List Lists)) → length ks ≡ length ps → get_or ps (place c (with_form b ks k)) [] ≡ get_or ps (place c ks) []
same_proofs true c k ks ps n = refl
same_proofs false c k ks ps n = ap (λ j. get_or ps j []) (position_or_len_push (same_canon c) ks k) ∙ by (nat_eq (place c ks) (length ks)) refl
  where
    by : (d : Bool) → nat_eq (place c ks) (length ks) ≡ d → get_or ps (cond d (length ks + cond (same_canon c k) 0 1) (place c ks)) [] ≡ get_or ps (place c ks) []
    by true t = get_or_past ps _ [] (omega arith) ∙ sym (get_or_past ps (place c ks) [] (grind (arith, nat_tests)))
    by false t = refl

own_place : (b : Bool) (k : Canon) (ks : List Canon) → place k (with_form b ks k) ≡ place k ks
own_place true k ks = refl
own_place false k ks =
    position_or_len_push (same_canon k) ks k ∙ ap (λ s. cond (nat_eq (place k ks) (length ks)) (length ks + cond s 0 1) (place k ks)) ((canon-Decides k k).1 refl) ∙ grind (arith, nat_tests)

room : (b : Bool) (ps : List (List Lists)) (j : ℕ) → get_or (with_room b ps) j [] ≡ get_or ps j []
room false ps j = refl
room true [] zero = refl
room true [] (suc j) = refl
room true (q ∷ ps) zero = refl
room true (q ∷ ps) (suc j) = room true ps j

-- two forms in one place are the same
apart : (c k : Canon) (ks : List Canon) → place k ks < length ks → same_canon c k ≡ false → place c ks ≢ place k ks
apart c k ks within e at =
    let there : place c ks < length ks = omega arith in
    let l = (canon-Decides k (get_or ks (place k ks) c)).0 (passes_at_first (same_canon k) ks c within) in
    let m = (canon-Decides c (get_or ks (place c ks) c)).0 (passes_at_first (same_canon c) ks c there) in
    let same = (canon-Decides c k).1 (m ∙ ap (λ i. get_or ks i c) at ∙ sym l) in
    absurd (cc)

-- the proofs of each form, with one more proof of the form k
added : (is_there is_new : Bool) (c k : Canon) (p : Lists) (ks : List Canon) (ps : List (List Lists)) (b : Bool) → same_canon c k ≡ b → length ks ≡ length ps → place k ks < length (with_form is_there ks k)
    → place k ks < length (with_room is_new ps)
    → get_or (set (with_room is_new ps) (place k ks) (get_or (with_room is_new ps) (place k ks) [] ++ p ∷ [])) (place c (with_form is_there ks k)) [] ≡ get_or ps (place c ks) [] ++ mine b p
added is_there is_new c k p ks ps true e n among within =
    let is : c ≡ k = (canon-Decides c k).0 e in
    ap (λ j. get_or (set (with_room is_new ps) (place k ks) (get_or (with_room is_new ps) (place k ks) [] ++ p ∷ [])) j []) (ap (λ x. place x (with_form is_there ks k)) is ∙ own_place is_there k ks)
    ∙ get_or-set_same (with_room is_new ps) (place k ks) (get_or (with_room is_new ps) (place k ks) [] ++ p ∷ []) [] within
    ∙ (λ i. (room is_new ps (place k ks) ∙ ap (λ x. get_or ps (place x ks) []) (sym is)) i ++ p ∷ [])
added is_there is_new c k p ks ps false e n among within =
    let own = own_place is_there k ks in
    let other = apart c k (with_form is_there ks k) (subst (λ j. j < length (with_form is_there ks k)) (sym own) among) e in
    get_or-set_other (with_room is_new ps) (place k ks) (place c (with_form is_there ks k)) (get_or (with_room is_new ps) (place k ks) [] ++ p ∷ []) [] (λ at. other (at ∙ sym own))
    ∙ room is_new ps (place c (with_form is_there ks k))
    ∙ same_proofs is_there c k ks ps n
    ∙ sym (append-nil (get_or ps (place c ks) []))

of_more : (c : Canon) (rs : List Record) (r : Record) → proofs_for rs c ++ mine (same_canon c r.canon) r.proof ≡ proofs_for (rs ++ r ∷ []) c
of_more c rs r =
    let is_his = λ (s : Record). same_canon c s.canon in
    let proof_in = λ (s : Record). s.proof in
    ap (λ l. proofs_for rs c ++ l) (of_one (same_canon c r.canon)) ∙ sym (map-append proof_in (filter is_his rs) (filter is_his (r ∷ []))) ∙ ap (map proof_in) (sym (filter-append is_his rs (r ∷ [])))
  where
    of_one : (b : Bool) → mine b r.proof ≡ map (λ (s : Record). s.proof) (cond b (r ∷ []) [])
    of_one true = refl
    of_one false = refl

-- what is kept after one more record
pub keeps_more : (old new : Kept) (r : Record) (is_new : Bool) (at : ℕ) (lists : List (List Lists)) → length old.canons ≡ length old.proofs → new.canons ≡ insert_key same_canon old.canons r.canon
    → lists ≡ with_room is_new old.proofs → at ≡ place r.canon old.canons → at < length new.canons → at < length lists → new.proofs ≡ set lists at (get_or lists at [] ++ r.proof ∷ [])
    → (rs : List Record) → Keeps old rs → Keeps new (rs ++ r ∷ [])
keeps_more old new r is_new at lists n canons rooms place_is among within proofs rs was c =
    let is_there : Bool = list_any (same_canon r.canon) old.canons in
    let among' : place r.canon old.canons < length (with_form is_there old.canons r.canon) = coe 0 1 (i. place_is i < length (canons i)) among in
    let within' : place r.canon old.canons < length (with_room is_new old.proofs) = coe 0 1 (i. place_is i < length (rooms i)) within in
    (λ i. get_or (proofs i) (place c (canons i)) [])
    ∙ (λ i. get_or (set (rooms i) (place_is i) (get_or (rooms i) (place_is i) [] ++ r.proof ∷ [])) (place c (insert_key same_canon old.canons r.canon)) [])
    ∙ added is_there is_new c r.canon r.proof old.canons old.proofs (same_canon c r.canon) refl n among' within'
    ∙ ap (λ l. l ++ mine (same_canon c r.canon) r.proof) (was c)
    ∙ of_more c rs r
