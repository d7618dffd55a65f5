-- The canonical form of closed formulas without a temporal mark is a form that the search can take.
use Rattle.std.specs.Prelude.{◌≡◌, ℕ, suc, Bool, true, false, cond, List, [], ◌∷◌, map}
use Rattle.std.proofs.Common.{refl}
use Rattle.std.proofs.lemmas.Bool.{and_from, or_parts}
use Rattle.core_expr.specs.declared.head.Sym.{Sym}
use Rattle.core_expr.specs.declared.head.Head.{Head}
use Rattle.core_expr.specs.declared.head.Head.TheVariants.{True, False, Num, Str, Boolean, Not, And, Or, Imp, Iff, Eq, In, Subseteq, Enum, Cup, Cap, Diff, Power, Union, FunSet, Dom, Apply, Except, Tuple, If, Temporal}
use Rattle.core_expr.specs.Tree.{Tree, Parts}
use Rattle.core_expr.specs.Tree.Tree.{bound, app, node, bind}
use Rattle.core_expr.specs.Tree.Parts.{end, part}
use Rattle.core_expr.specs.Put.{IsScoped, AreScoped}
use Rattle.core_expr.specs.Rename.{named}
use Rattle.core_expr.specs.Heads.{is_lasting, is_canonical, are_canonical}
use Rattle.core_expr.specs.Terms.{is_scoped}
use Rattle.core_expr.proofs.Equal.{true-scoped}
use Rattle.core_expr.proofs.Laws.{IsScoped-sub}
use Rattle.seq_calculus.specs.Calculus.{IsClosed, AllClosed}
use Rattle.tla_ast.specs.declared.place.Place.{Place}
use Rattle.obligation.specs.declared.obligation.Definition.{Definition}
use Rattle.obligation.specs.Unfolding.{unfolded}
use Rattle.proof_contexts.specs.declared.leaf.LeafKind.TheVariants as kind
use Rattle.proof_contexts.specs.Expansion.{chosen, full}
use Rattle.proof_contexts.specs.Canonical.{symbols_of, numbered, all_numbered, has_equal, distinct, canon_of}
use Rattle.proof_contexts.specs.Contexts.{unfolded_by}
use Rattle.proof_contexts.specs.Leaves.{is_mark, has_mark, have_mark, any_mark, is_temporal, obligation, leaf}
use Rattle.leaf_prover.specs.Forms.{is_form_part, are_form_parts, is_form}
use Rattle.leaf_forms.specs.Leaves.{OfKind}
use Rattle.leaf_forms.specs.Laws.{IsForm}

-- ---- numbered symbols

lasting : (h : Head) → is_mark h ≡ false → is_lasting h ≡ true
lasting = elim [ True ↦ λ _. refl | False ↦ λ _. refl | Num ↦ λ _. refl | Str ↦ λ _. refl | Boolean ↦ λ _. refl | Not ↦ λ _. refl | And ↦ λ _. refl | Or ↦ λ _. refl | Imp ↦ λ _. refl | Iff ↦ λ _. refl | Eq ↦ λ _. refl | In ↦ λ _. refl | Subseteq ↦ λ _. refl | Enum ↦ λ _. refl | Cup ↦ λ _. refl | Cap ↦ λ _. refl | Diff ↦ λ _. refl | Power ↦ λ _. refl | Union ↦ λ _. refl | FunSet ↦ λ _. refl | Dom ↦ λ _. refl | Apply ↦ λ _. refl | Except ↦ λ _. refl | Tuple ↦ λ _. refl | If ↦ λ _. refl | Temporal ↦ λ c. cc ]

mutual
  numbered_canonical : (xs : List Sym) (e : Tree) → has_mark e ≡ false → is_canonical (numbered xs e) ≡ true
  numbered_canonical xs (bound i) h = refl
  numbered_canonical xs (app f ps) h = all_canonical xs ps h
  numbered_canonical xs (node k ns ps) h =
      let w = or_parts (is_mark k) (have_mark ps) h in
      and_from (is_lasting k) (are_canonical (all_numbered xs ps)) (lasting k w.0) (all_canonical xs ps w.1)
  numbered_canonical xs (bind b ps e) h =
      let w = or_parts (have_mark ps) (has_mark e) h in
      and_from (are_canonical (all_numbered xs ps)) (is_canonical (numbered xs e)) (all_canonical xs ps w.0) (numbered_canonical xs e w.1)

  all_canonical : (xs : List Sym) (ps : Parts) → have_mark ps ≡ false → are_canonical (all_numbered xs ps) ≡ true
  all_canonical xs end h = refl
  all_canonical xs (part e ps) h =
      let w = or_parts (has_mark e) (have_mark ps) h in
      and_from (is_canonical (numbered xs e)) (are_canonical (all_numbered xs ps)) (numbered_canonical xs e w.0) (all_canonical xs ps w.1)

mutual
  numbered_scoped : (xs : List Sym) (n : ℕ) (e : Tree) → IsScoped n e → IsScoped n (numbered xs e)
  numbered_scoped xs n (bound i) h = h
  numbered_scoped xs n (app f ps) h = all_numbered_scoped xs n ps h
  numbered_scoped xs n (node k ns ps) h = all_numbered_scoped xs n ps h
  numbered_scoped xs n (bind b ps e) h = (all_numbered_scoped xs n ps h.0, numbered_scoped xs (suc n) e h.1)

  all_numbered_scoped : (xs : List Sym) (n : ℕ) (ps : Parts) → AreScoped n ps → AreScoped n (all_numbered xs ps)
  all_numbered_scoped xs n end h = tt
  all_numbered_scoped xs n (part e ps) h = (numbered_scoped xs n e h.0, all_numbered_scoped xs n ps h.1)

-- ---- canonical forms

-- a closed formula without a temporal mark
abbrev IsPlain : Tree → Type 0
IsPlain e = IsClosed e × (has_mark e ≡ false)

abbrev ArePlain : List Tree → Type 0
ArePlain [] = Unit {0}
ArePlain (e ∷ es) = IsPlain e × ArePlain es

distinct_plain : (seen fs : List Tree) → ArePlain fs → ArePlain (distinct seen fs)
distinct_plain seen [] h = tt
distinct_plain seen (f ∷ fs) h = go (has_equal seen f) (distinct_plain seen fs h.1) (distinct_plain (f ∷ seen) fs h.1)
  where
    go : (b : Bool) → ArePlain (distinct seen fs) → ArePlain (distinct (f ∷ seen) fs) → ArePlain (cond b (distinct seen fs) (f ∷ distinct (f ∷ seen) fs))
    go true p q = p
    go false p q = (h.0, q)

form_part : (xs : List Sym) (e : Tree) → IsPlain e → is_form_part (numbered xs e) ≡ true
form_part xs e h =
    let d : Tree = numbered xs e in
    and_from (is_canonical d) (is_scoped 0 d) (numbered_canonical xs e h.1) (true-scoped 0 d (numbered_scoped xs 0 e h.0))

form_parts : (xs : List Sym) (es : List Tree) → ArePlain es → are_form_parts (map (numbered xs) es) ≡ true
form_parts xs [] h = refl
form_parts xs (e ∷ es) h =
    and_from (is_form_part (numbered xs e)) (are_form_parts (map (numbered xs) es)) (form_part xs e h.0) (form_parts xs es h.1)

canon_form : (fs : List Tree) (g : Tree) → ArePlain fs → IsPlain g → is_form (canon_of fs g) ≡ true
canon_form fs g h k =
    let ds : List Tree = distinct [] fs in
    let xs : List Sym = symbols_of ds g in
    and_from (are_form_parts (map (numbered xs) ds)) (is_form_part (numbered xs g)) (form_parts xs ds (distinct_plain [] fs h)) (form_part xs g k)

-- ---- leaves

unfolded_closed : (ds : List Definition) (e : Tree) → IsClosed e → IsClosed (unfolded ds e)
unfolded_closed [] e h = h
unfolded_closed (d ∷ ds) e h = IsScoped-sub (named ((d.symbol, d.body) ∷ [])) 0 (unfolded ds e) (unfolded_closed ds e h)

unfolded_plain : (ds : List Definition) (es : List Tree) → AllClosed es → any_mark (map (unfolded ds) es) ≡ false → ArePlain (map (unfolded ds) es)
unfolded_plain ds [] h k = tt
unfolded_plain ds (e ∷ es) h k =
    let w = or_parts (has_mark (unfolded ds e)) (any_mark (map (unfolded ds) es)) k in
    ((unfolded_closed ds e h.0, w.0), unfolded_plain ds es h.1 w.1)

-- a leaf over closed formulas
pub leaf_form : (table : List Definition) (p : Place) (fs : List Tree) (g : Tree) (u : List ℕ) → AllClosed fs → IsClosed g → OfKind IsForm (leaf table p fs g u).kind
leaf_form table p fs g u h k = go (is_temporal table u (g ∷ fs)) refl
  where
    go : (b : Bool) → is_temporal table u (g ∷ fs) ≡ b → OfKind IsForm (cond b kind.Temporal (kind.Search (obligation table fs g u)))
    go true e = tt
    go false e =
        let ds : List Definition = chosen u table in
        let w = or_parts (any_mark (map (full table) (g ∷ fs))) (any_mark (map (unfolded_by table u) (g ∷ fs))) e in
        let q = unfolded_plain ds (g ∷ fs) (k, h) w.1 in
        canon_form (map (unfolded ds) fs) (unfolded ds g) q.1 q.0
