-- A name that enters the scope, and one that leaves it.
use Rattle.std.proofs.Common.{◌≡◌, ℕ, Bool, true, false, cond, if◌then◌else◌, List, [], ◌∷◌, ◌++◌, Option, Some, None, refl, sym, ap, subst, ◌∙◌, append_assoc, append-nil}
use Rattle.std.specs.Borrow.{Bor}
use Rattle.std.specs.Cmp.Lexicographic.{bytes_decides}
use Rattle.std.proofs.lemmas.List.{map-append}
use Rattle.indexmap.specs.IndexMap.{IndexMap, get}
use Rattle.plain_syntax.specs.Plain.{Text}
use Rattle.module_scope.specs.declared.scope.Named.{Named}
use Rattle.expression_level.specs.Levels.{is_word}
use Rattle.module_scope.specs.Scope.{Scope, found}
use Rattle.module_scope.specs.Kept.{in_scope, Shadows, same_name, Kept}

-- the later of two declarations, if there is one
abbrev later : Option ℕ → Option ℕ → Option ℕ
later o p = elim o [ Some n ↦ Some n | None ↦ p ]

later-cond : (b : Bool) (n : ℕ) (o p : Option ℕ) → later (cond b (Some n) o) p ≡ cond b (Some n) (later o p)
later-cond true n o p = refl
later-cond false n o p = refl

-- the newest name is found first
pub found-push : (w : Text) (s : Scope) (v : Text) (n : ℕ) → found w (s ++ (v, n) ∷ []) ≡ cond (is_word v w) (Some n) (found w s)
found-push w [] v n = refl
found-push w (e ∷ s) v n = ap (λ o. later o (if is_word e.0 w then Some e.1 else None)) (found-push w s v n) ∙ later-cond (is_word v w) n (found w s) _

pushed : (w : Text) (es : List Named) (e : Named) → found w (in_scope (es ++ e ∷ [])) ≡ cond (is_word e.name.now w) (Some e.number) (found w (in_scope es))
pushed w es e = ap (found w) (map-append (λ x. (x.name.now, x.number)) es (e ∷ [])) ∙ found-push w (in_scope es) e.name.now e.number

shadows-push : (before : Scope) (es : List Named) (e : Named) → Shadows before es → e.shadowed ≡ found e.name.now (before ++ in_scope es) → Shadows before (es ++ e ∷ [])
shadows-push before [] e h s = (s ∙ ap (found e.name.now) (append-nil before), tt)
shadows-push before (x ∷ es) e h s =
    (h.0, shadows-push (before ++ (x.name.now, x.number) ∷ []) es e h.1 (s ∙ ap (found e.name.now) (sym (append_assoc before ((x.name.now, x.number) ∷ []) (in_scope es)))))

shadows-pop : (before : Scope) (es : List Named) (e : Named) → Shadows before (es ++ e ∷ []) → Shadows before es × (e.shadowed ≡ found e.name.now (before ++ in_scope es))
shadows-pop before [] e h = (tt, h.0 ∙ ap (found e.name.now) (sym (append-nil before)))
shadows-pop before (x ∷ es) e h =
    let r = shadows-pop (before ++ (x.name.now, x.number) ∷ []) es e h.1 in
    ((h.0, r.0), r.1 ∙ ap (found e.name.now) (append_assoc before ((x.name.now, x.number) ∷ []) (in_scope es)))

module _ {S : Type 0} (m n : IndexMap (Bor (List ℕ)) ℕ S) (es more : List Named) (e : Named) where
  pub kept-push : Kept m es → more ≡ es ++ e ∷ [] → e.shadowed ≡ get same_name m e.name
      → ((q : Bor (List ℕ)) → get same_name n q ≡ cond (is_word e.name.now q.now) (Some e.number) (get same_name m q)) → Kept n more
  kept-push h p s u =
      subst (Kept n) (sym p)
      ((λ q. u q ∙ ap (cond (is_word e.name.now q.now) (Some e.number)) (h.0 q) ∙ sym (pushed q.now es e)), shadows-push [] es e h.1 (s ∙ h.0 e.name))

  -- the newest name has its own number
  pub newest-found : Kept m more → more ≡ es ++ e ∷ [] → get same_name m e.name ≡ Some e.number
  newest-found h p =
      h.0 e.name ∙ ap (λ l. found e.name.now (in_scope l)) p ∙ pushed e.name.now es e
      ∙ ap (λ b. cond b (Some e.number) (found e.name.now (in_scope es))) ((bytes_decides e.name.now e.name.now).1 refl)

  pub kept-pop : Kept m more → more ≡ es ++ e ∷ [] → ((q : Bor (List ℕ)) → get same_name n q ≡ cond (is_word e.name.now q.now) e.shadowed (get same_name m q)) → Kept n es
  kept-pop h p u =
      let k = subst (Kept m) p h in
      let parts = shadows-pop [] es e k.1 in
      let go : (q : Bor (List ℕ)) (b : Bool) → is_word e.name.now q.now ≡ b → cond b e.shadowed (get same_name m q) ≡ found q.now (in_scope es) =
      λ q b t. by-test b (λ x. cond b e.shadowed (get same_name m q) ≡ found q.now (in_scope es))
      (λ x. ap (λ c. cond c e.shadowed (get same_name m q)) x ∙ parts.1 ∙ ap (λ w. found w (in_scope es)) ((bytes_decides e.name.now q.now).0 (t ∙ x)))
      (λ x. ap (λ c. cond c e.shadowed (get same_name m q)) x ∙ k.0 q ∙ pushed q.now es e ∙ ap (λ c. cond c (Some e.number) (found q.now (in_scope es))) (t ∙ x)) in
      ((λ q. u q ∙ go q (is_word e.name.now q.now) refl), parts.0)
    where
      by-test : (b : Bool) (P : Bool → Type 0) → (b ≡ true → P b) → (b ≡ false → P b) → P b
      by-test true P f g = f refl
      by-test false P f g = g refl
