-- A name that is seen from a step on, and one that is seen no longer.
use Rattle.std.proofs.Common.{◌≡◌, ℕ, Bool, true, false, cond, if◌then◌else◌, nat_eq, List, [], ◌∷◌, ◌++◌, Option, Some, None, refl, sym, ap, subst, ◌∙◌, append_assoc, append-nil}
use Rattle.std.specs.Cmp.Lexicographic.{pointwise, bytes_decides}
use Rattle.std.proofs.lemmas.List.{map-append}
use Rattle.std.proofs.lemmas.Bool.{and_parts, and_from}
use Rattle.core_expr.specs.Equal.{nat-same, nat-refl}
use Rattle.indexmap.specs.IndexMap.{IndexMap, get}
use Rattle.proof_outline.specs.declared.scope.Named.{Named}
use Rattle.proof_outline.specs.Outline.{Name, Seen, same_name, found}
use Rattle.proof_outline.specs.Kept.{Key, name_of, in_scope, Shadows, same_key, Kept}

-- the later of two steps, if there is one
abbrev later : Option ℕ → Option ℕ → Option ℕ
later o p = elim o [ Some n ↦ Some n | None ↦ p ]

later-cond : (b : Bool) (n : ℕ) (o p : Option ℕ) → later (cond b (Some n) o) p ≡ cond b (Some n) (later o p)
later-cond true n o p = refl
later-cond false n o p = refl

-- the newest step is found first
found-push : (w : Name) (s : Seen) (v : Name) (n : ℕ) → found w (s ++ (v, n) ∷ []) ≡ cond (same_name v w) (Some n) (found w s)
found-push w [] v n = refl
found-push w (e ∷ s) v n = ap (λ o. later o (if same_name e.0 w then Some e.1 else None)) (found-push w s v n) ∙ later-cond (same_name v w) n (found w s) _

pushed : (w : Name) (es : List Named) (e : Named) → found w (in_scope (es ++ e ∷ [])) ≡ cond (same_name (name_of e.name) w) (Some e.number) (found w (in_scope es))
pushed w es e = ap (found w) (map-append (λ x. (name_of x.name, x.number)) es (e ∷ [])) ∙ found-push w (in_scope es) (name_of e.name) e.number

shadows-push : (before : Seen) (es : List Named) (e : Named) → Shadows before es → e.shadowed ≡ found (name_of e.name) (before ++ in_scope es) → Shadows before (es ++ e ∷ [])
shadows-push before [] e h s = (s ∙ ap (found (name_of e.name)) (append-nil before), tt)
shadows-push before (x ∷ es) e h s =
    (h.0, shadows-push (before ++ (name_of x.name, x.number) ∷ []) es e h.1 (s ∙ ap (found (name_of e.name)) (sym (append_assoc before ((name_of x.name, x.number) ∷ []) (in_scope es)))))

shadows-pop : (before : Seen) (es : List Named) (e : Named) → Shadows before (es ++ e ∷ []) → Shadows before es × (e.shadowed ≡ found (name_of e.name) (before ++ in_scope es))
shadows-pop before [] e h = (tt, h.0 ∙ ap (found (name_of e.name)) (sym (append-nil before)))
shadows-pop before (x ∷ es) e h =
    let r = shadows-pop (before ++ (name_of x.name, x.number) ∷ []) es e h.1 in
    ((h.0, r.0), r.1 ∙ ap (found (name_of e.name)) (append_assoc before ((name_of x.name, x.number) ∷ []) (in_scope es)))

same-self : (k : Key) → same_key k k ≡ true
same-self k = and_from _ _ (nat-refl k.0) ((bytes_decides k.1.now k.1.now).1 refl)

same-name : (k q : Key) → same_key k q ≡ true → name_of k ≡ name_of q
same-name k q h =
    let p = and_parts (nat_eq k.0 q.0) (pointwise nat_eq k.1.now q.1.now) h in
    λ i. (nat-same k.0 q.0 p.0 i, (bytes_decides k.1.now q.1.now).0 p.1 i)

module _ {S : Type 0} (m n : IndexMap Key ℕ S) (es more : List Named) (e : Named) where
  pub kept-push : Kept m es → more ≡ es ++ e ∷ [] → e.shadowed ≡ get same_key m e.name
      → ((q : Key) → get same_key n q ≡ cond (same_key e.name q) (Some e.number) (get same_key m q)) → Kept n more
  kept-push h p s u =
      subst (Kept n) (sym p)
      ((λ q. u q ∙ ap (cond (same_key e.name q) (Some e.number)) (h.0 q) ∙ sym (pushed (name_of q) es e)), shadows-push [] es e h.1 (s ∙ h.0 e.name))

  -- the newest name has its own number
  pub newest-found : Kept m more → more ≡ es ++ e ∷ [] → get same_key m e.name ≡ Some e.number
  newest-found h p =
      h.0 e.name ∙ ap (λ l. found (name_of e.name) (in_scope l)) p ∙ pushed (name_of e.name) es e
      ∙ ap (λ b. cond b (Some e.number) (found (name_of e.name) (in_scope es))) (same-self e.name)

  pub kept-pop : Kept m more → more ≡ es ++ e ∷ [] → ((q : Key) → get same_key n q ≡ cond (same_key e.name q) e.shadowed (get same_key m q)) → Kept n es
  kept-pop h p u =
      let k = subst (Kept m) p h in
      let parts = shadows-pop [] es e k.1 in
      let go : (q : Key) (b : Bool) → same_key e.name q ≡ b → cond b e.shadowed (get same_key m q) ≡ found (name_of q) (in_scope es) =
      λ q b t. by-test b (λ x. cond b e.shadowed (get same_key m q) ≡ found (name_of q) (in_scope es))
      (λ x. ap (λ c. cond c e.shadowed (get same_key m q)) x ∙ parts.1 ∙ ap (λ w. found w (in_scope es)) (same-name e.name q (t ∙ x)))
      (λ x. ap (λ c. cond c e.shadowed (get same_key m q)) x ∙ k.0 q ∙ pushed (name_of q) es e ∙ ap (λ c. cond c (Some e.number) (found (name_of q) (in_scope es))) (t ∙ x)) in
      ((λ q. u q ∙ go q (same_key e.name q) refl), parts.0)
    where
      by-test : (b : Bool) (P : Bool → Type 0) → (b ≡ true → P b) → (b ≡ false → P b) → P b
      by-test true P f g = f refl
      by-test false P f g = g refl
