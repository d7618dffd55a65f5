-- What is filled in is what the forms of the leaves come to, where what is shown of them is that, as far as a leaf that ends the run.
use Rattle.std.specs.Prelude.{◌≡◌, Bool, true, false, List, [], ◌∷◌, ◌++◌, map, flat_map}
use Rattle.std.proofs.Common.{refl, ap, sym, subst, append_assoc, append-nil}
use Rattle.core_expr.specs.declared.canon.Canon.{Canon}
use Rattle.symbol_table.specs.declared.entry.Entry.{Entry}
use Rattle.proof_contexts.specs.declared.leaf.Leaf.{Leaf}
use Rattle.proof_contexts.specs.declared.leaf.LeafKind.{LeafKind}
use Rattle.proof_contexts.specs.declared.leaf.LeafKind.TheVariants as kind
use Rattle.canonical_form.specs.declared.form.Named.{Named}
use Rattle.theorem_leaves.specs.declared.chapter.TheoremLeaves.{TheoremLeaves}
use Rattle.theorem_leaves.specs.declared.chapter.Chapter.{Chapter}
use Rattle.status_report.specs.declared.table.Shown.{Shown}
use Rattle.leaf_jobs.specs.Came.{Came}
use Rattle.leaf_jobs.specs.Forms.{form_of_kind, form_of_leaf, forms_of_theorem, forms_of_chapter, forms_of}
use Rattle.leaf_jobs.specs.Judging.{shown_form, judged_kind, judged_leaf, judged_theorem, judged_module, judged}
use Rattle.leaf_jobs.specs.Stopping.{front_and, front, cut_leaf, with_leaves, cut_theorem, with_theorems, cut_module, cut}
use Rattle.leaf_jobs.specs.Filling.{shown_by, rest_by, walk_on, walk, leaf_step, theorem_step, module_step, modules_by}

-- what is shown of forms is what they come to, as far as the first that ends the run
abbrev pub Meets : (Shown → Bool) → (Canon → Came) → List Entry → List Named → List Shown → Type 0
Meets stops came es [] ss = Unit {0}
Meets stops came es (n ∷ ns) [] = ⊥
Meets stops came es (n ∷ ns) (s ∷ ss) = (s ≡ shown_form came es n) × (stops s ≡ false → Meets stops came es ns ss)

module _ (stops : Shown → Bool) (came : Canon → Came) (es : List Entry) where
  -- this is what is reported of some, and what is left meets the forms behind them, unless one of them ends the run
  abbrev IsOf : {Y : Type 0} → List Named → (Y × Bool) × List Shown → Y × Bool → Type 0
  IsOf more r c = (r.0 ≡ c) × (r.0.1 ≡ false → Meets stops came es more r.1)

  -- ---- a walk

  module _ {X Y : Type 0} (f : List Shown → X → (Y × Bool) × List Shown) (form : X → List Named) (judge : X → Y) (cut : Y → Y × Bool) where
    abbrev Steps : Type 0
    Steps = (x : X) (ss : List Shown) (more : List Named) → Meets stops came es (form x ++ more) ss → IsOf more (f ss x) (cut (judge x))

    on-walk : (more : List Named) (y : Y) (b : Bool) (ss : List Shown) (w : (List Y × Bool) × List Shown) (rest : List Y × Bool)
        → (b ≡ false → IsOf more w rest) → IsOf more (walk_on ((y, b), ss) w) (front_and (y, b) rest)
    on-walk more y true ss w rest h = (refl, λ e. absurd (cc))
    on-walk more y false ss w rest h =
        let k = h refl in
        ((λ i. (y ∷ (k.0 i).0, (k.0 i).1)), k.1)

    walk-meets : Steps → (xs : List X) (ss : List Shown) (more : List Named) → Meets stops came es (flat_map form xs ++ more) ss → IsOf more (walk f ss xs) (front cut (map judge xs))
    walk-meets step [] ss more h = (refl, λ e. h)
    walk-meets step (x ∷ xs) ss more h =
        let r = f ss x in
        let p = step x ss (flat_map form xs ++ more) (subst (λ ns. Meets stops came es ns ss) (append_assoc (form x) (flat_map form xs) more) h) in
        let w = walk f r.1 xs in
        subst (λ c. IsOf more (walk_on r w) (front_and c (front cut (map judge xs)))) p.0 (on-walk more r.0.0 r.0.1 r.1 w (front cut (map judge xs)) (λ e. walk-meets step xs r.1 more (p.1 e)))

  -- ---- leaves, theorems, modules

  kind-meets : (k : LeafKind) (ss : List Shown) (more : List Named) → Meets stops came es (form_of_kind k ++ more) ss
      → (shown_by ss k ≡ judged_kind came es k) × (stops (shown_by ss k) ≡ false → Meets stops came es more (rest_by ss k))
  kind-meets (kind.Search o) [] more h = absurd h
  kind-meets (kind.Search o) (s ∷ ss) more h = h
  kind-meets kind.Missing ss more h = (refl, λ e. h)
  kind-meets kind.Omitted ss more h = (refl, λ e. h)
  kind-meets kind.Temporal ss more h = (refl, λ e. h)
  kind-meets kind.Shape ss more h = (refl, λ e. h)

  leaf-meets : (l : Leaf) (ss : List Shown) (more : List Named) → Meets stops came es (form_of_leaf l ++ more) ss → IsOf more (leaf_step stops ss l) (cut_leaf stops (judged_leaf came es l))
  leaf-meets l ss more h =
      let p = kind-meets l.kind ss more h in
      ((λ i. (record { place = l.place; verdict = p.0 i }, stops (p.0 i))), p.1)

  theorem-meets : (t : TheoremLeaves) (ss : List Shown) (more : List Named) → Meets stops came es (forms_of_theorem t ++ more) ss → IsOf more (theorem_step stops ss t) (cut_theorem stops (judged_theorem came es t))
  theorem-meets t ss more h =
      let p = walk-meets (leaf_step stops) form_of_leaf (judged_leaf came es) (cut_leaf stops) leaf-meets t.leaves ss more h in
      (ap (with_leaves stops (judged_theorem came es t)) p.0, p.1)

  module-meets : (c : Chapter) (ss : List Shown) (more : List Named) → Meets stops came es (forms_of_chapter c ++ more) ss → IsOf more (module_step stops ss c) (cut_module stops (judged_module came es c))
  module-meets c ss more h =
      let p = walk-meets (theorem_step stops) forms_of_theorem (judged_theorem came es) (cut_theorem stops) theorem-meets c.theorems ss more h in
      (ap (with_theorems stops (judged_module came es c)) p.0, p.1)

  pub modules-meet : (cs : List Chapter) (ss : List Shown) → Meets stops came es (forms_of cs) ss → (modules_by stops ss cs).0 ≡ cut stops (judged came es cs)
  modules-meet cs ss h =
      (walk-meets (module_step stops) forms_of_chapter (judged_module came es) (cut_module stops) module-meets cs ss [] (subst (λ ns. Meets stops came es ns ss) (sym (append-nil (forms_of cs))) h)).0
