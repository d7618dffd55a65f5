-- What a list of formulas holds of a context.
use Rattle.std.specs.Prelude.{◌≡◌, ℕ, ◌≤◌, Bool, true, false, not, cond, Option, Some, None, List, [], ◌∷◌, ◌++◌, map}
use Rattle.std.proofs.Common.{refl, ap, sym, ◌∙◌, subst, inl}
use Rattle.core_expr.specs.declared.head.Sym.{Sym}
use Rattle.core_expr.specs.declared.canon.Canon.{Canon}
use Rattle.core_expr.specs.Tree.{Tree}
use Rattle.core_expr.specs.Put.{sub}
use Rattle.core_expr.proofs.Laws.{IsScoped-sub}
use Rattle.seq_calculus.specs.Calculus.{Has, HasAll, AllClosed, Der}
use Rattle.seq_calculus.proofs.Renamed.{Der-sub}
use Rattle.tla_ast.specs.declared.place.Place.{Place}
use Rattle.obligation.specs.declared.obligation.Definition.{Definition}
use Rattle.obligation.specs.declared.obligation.Obligation.{Obligation}
use Rattle.obligation.specs.Unfolding.{unfolded}
use Rattle.proof_contexts.specs.declared.leaf.LeafKind.TheVariants as kind
use Rattle.proof_contexts.specs.Expansion.{has_number}
use Rattle.proof_contexts.specs.Canonical.{obligation_canon}
use Rattle.proof_contexts.specs.Steps.{Fact}
use Rattle.proof_contexts.specs.Steps.Fact.{Cited, Plain}
use Rattle.proof_contexts.specs.Contexts.{Entry, names_of, usable_of, named, cited_of, used, aliases, use_facts, usable, hidden, has_any}
use Rattle.proof_contexts.specs.Leaves.{is_temporal, obligation, leaf, IsDerived, IsProved}
use Rattle.proof_contexts.specs.Right.{IsGood, RightFacts}
use Rattle.proof_contexts.proofs.Rules.{left_true, HasAll-one, HasAll-map, Has-all, HasAll-all}
use Rattle.proof_contexts.proofs.Putting.{expansion, whole, ExpandsAll, chosen-expands, IsFalling, sub-unfolded, Below-more, Below-sub}
use Rattle.proof_contexts.proofs.CanonLaws.{canon_back}
use Rattle.proof_contexts.proofs.Joins.{AllBelow, widen}

pub HasAll-both : (g : List Tree) (f : Tree → Tree) (xs ys : List Tree) → HasAll g (map f xs) → HasAll g (map f ys) → HasAll g (map f (xs ++ ys))
HasAll-both g f [] ys h k = k
HasAll-both g f (x ∷ xs) ys h k = (h.0, HasAll-both g f xs ys h.1 k)

-- the formulas among facts that are no names of facts
abbrev pub plains : List Fact → List Tree
plains [] = []
plains (Cited x ∷ fs) = plains fs
plains (Plain p e ∷ fs) = e ∷ plains fs

module _ (table : List Definition) (may : ℕ → Bool) where
  pub record Reached (g : List Tree) (e : Entry) : Type 0 where
    pub if_usable : e.usable ≡ true → Has g (whole table e.formula)
    pub if_cited : (k : ℕ) → has_number e.keys k ≡ true → may k ≡ true → Has g (whole table e.formula)
    pub if_marked : (k : ℕ) → has_number e.marks k ≡ true → may k ≡ true → Has g (whole table e.formula)

  -- each fact that a leaf may have is there
  abbrev pub Covers : List Tree → List Entry → Type 0
  Covers g [] = Unit {0}
  Covers g (e ∷ k) = Reached g e × Covers g k

  pub reached : (g : List Tree) (e : Entry) → Has g (whole table e.formula) → Reached g e
  reached g e h = record { if_usable = λ _. h; if_cited = λ _ _ _. h; if_marked = λ _ _ _. h }

  pub Covers-more : (g1 g : List Tree) (k : List Entry) → HasAll g1 g → Covers g k → Covers g1 k
  Covers-more g1 g [] h c = tt
  Covers-more g1 g (e ∷ k) h c =
      (record { if_usable = λ u. Has-all g1 g (whole table e.formula) h (c.0.if_usable u); if_cited = λ x p q. Has-all g1 g (whole table e.formula) h (c.0.if_cited x p q); if_marked = λ x p q. Has-all g1 g (whole table e.formula) h (c.0.if_marked x p q) }, Covers-more g1 g k h c.1)

  pub Covers-append : (g : List Tree) (k : List Entry) (e : Entry) → Covers g k → Reached g e → Covers g (k ++ e ∷ [])
  Covers-append g [] e c r = (r, tt)
  Covers-append g (x ∷ k) e c r = (c.0, Covers-append g k e c.1 r)

  usable_choice : (g : List Tree) (b : Bool) (e : Tree) (rest : List Tree) → (b ≡ true → Has g (whole table e)) → HasAll g (map (whole table) rest) → HasAll g (map (whole table) (cond b (e ∷ rest) rest))
  usable_choice g true e rest h k = (h refl, k)
  usable_choice g false e rest h k = k

  pub usable_covered : (g : List Tree) (k : List Entry) → Covers g k → HasAll g (map (whole table) (usable_of k))
  usable_covered g [] c = tt
  usable_covered g (e ∷ k) c = usable_choice g e.usable e.formula (usable_of k) c.0.if_usable (usable_covered g k c.1)

  pub named_covered : (g : List Tree) (x : ℕ) (k : List Entry) → may x ≡ true → Covers g k → HasAll g (map (whole table) (named x k))
  named_covered g x [] m c = tt
  named_covered g x (e ∷ k) m c = usable_choice g (has_number e.keys x) e.formula (named x k) (λ h. c.0.if_cited x h m) (named_covered g x k m c.1)

  used_choice : (g : List Tree) (e : Entry) (l : Option ℕ) (b : Bool) → Reached g e → (b ≡ true → Has g (whole table e.formula)) → Reached g (cond b (record { formula = e.formula; keys = e.keys; marks = e.marks ++ names_of l; usable = true }) e)
  used_choice g e l true r h = reached g (record { formula = e.formula; keys = e.keys; marks = e.marks ++ names_of l; usable = true }) (h refl)
  used_choice g e l false r h = r

  Covers-used : (g : List Tree) (l : Option ℕ) (x : ℕ) (k : List Entry) → may x ≡ true → Covers g k → Covers g (map (used l x) k)
  Covers-used g l x [] m c = tt
  Covers-used g l x (e ∷ k) m c = (used_choice g e l (has_number e.marks x) c.0 (λ h. c.0.if_marked x h m), Covers-used g l x k m c.1)

  Covers-both : (g : List Tree) (k ks : List Entry) → Covers g k → Covers g ks → Covers g (k ++ ks)
  Covers-both g [] ks c d = d
  Covers-both g (e ∷ k) ks c d = (c.0, Covers-both g k ks c.1 d)

  aliases_covered : (g : List Tree) (l : Option ℕ) (fs : List Tree) → HasAll g (map (whole table) fs) → Covers g (aliases l fs)
  aliases_covered g None fs h = tt
  aliases_covered g (Some k) [] h = tt
  aliases_covered g (Some k) (f ∷ fs) h = (reached g (record { formula = f; keys = k ∷ []; marks = []; usable = false }) h.0, aliases_covered g (Some k) fs h.1)

  pub Covers-hidden : (g : List Tree) (xs : List ℕ) (k : List Entry) → Covers g k → Covers g (map (hidden xs) k)
  Covers-hidden g xs [] c = tt
  Covers-hidden g xs (e ∷ k) c =
      (record { if_usable = λ h. c.0.if_usable (left_true e.usable (not (has_any xs e.marks)) h); if_cited = c.0.if_cited; if_marked = c.0.if_marked }, Covers-hidden g xs k c.1)

  module _ (rank : Sym → ℕ) where
    pub cited_covered : (g : List Tree) (n : ℕ) (fs : List Fact) (k : List Entry) → RightFacts rank table may n fs → Covers g k → HasAll g (map (whole table) (plains fs)) → HasAll g (map (whole table) (cited_of k fs))
    cited_covered g n [] k r c h = tt
    cited_covered g n (Cited x ∷ fs) k r c h = HasAll-both g (whole table) (named x k) (cited_of k fs) (named_covered g x k r.0 c) (cited_covered g n fs k r.1 c h)
    cited_covered g n (Plain p e ∷ fs) k r c h = (h.0, cited_covered g n fs k r.1 c h.1)

    pub use_covered : (g : List Tree) (n : ℕ) (l : Option ℕ) (fs : List Fact) (k : List Entry) → RightFacts rank table may n fs → Covers g k → HasAll g (map (whole table) (plains fs)) → Covers g (use_facts l fs k)
    use_covered g n l [] k r c h = c
    use_covered g n l (Cited x ∷ fs) k r c h = use_covered g n l fs (map (used l x) k ++ aliases l (named x k)) r.1 (Covers-both g (map (used l x) k) (aliases l (named x k)) (Covers-used g l x k r.0 c) (aliases_covered g l (named x k) (named_covered g x k r.0 c))) h
    use_covered g n l (Plain p e ∷ fs) k r c h = use_covered g n l fs (k ++ usable l e ∷ []) r.1 (Covers-append g k (usable l e) c (reached g (usable l e) h.0)) h.1

    -- the formulas are closed, and their symbols have ranks below n
    pub record Holds (n : ℕ) (g : List Tree) (k : List Entry) : Type 0 where
      pub closed : AllClosed g
      pub below : AllBelow rank n g
      pub covers : Covers g k

    AllBelow-more : (n m : ℕ) (g : List Tree) → n ≤ m → AllBelow rank n g → AllBelow rank m g
    AllBelow-more n m [] q h = tt
    AllBelow-more n m (e ∷ g) q h = (Below-more rank n m e q h.0, AllBelow-more n m g q h.1)

    pub Good-more : (n m : ℕ) (e : Tree) → n ≤ m → IsGood rank table n e → IsGood rank table m e
    Good-more n m e q h = record { closed = h.closed; below = Below-more rank n m e q h.below }

    pub Holds-more : (n m : ℕ) (g : List Tree) (k : List Entry) → n ≤ m → Holds n g k → Holds m g k
    Holds-more n m g k q h = record { closed = h.closed; below = AllBelow-more n m g q h.below; covers = h.covers }

    pub Holds-cons : (n : ℕ) (g : List Tree) (k : List Entry) (f : Tree) → IsGood rank table n f → Holds n g k → Holds n (f ∷ g) k
    Holds-cons n g k f q h = record { closed = (q.closed, h.closed); below = (q.below, h.below); covers = Covers-more (f ∷ g) g k (HasAll-one f g) h.covers }

    pub Holds-add : (n : ℕ) (g : List Tree) (k : List Entry) (e : Entry) → IsGood rank table n (whole table e.formula) → Holds n g k → Holds n (whole table e.formula ∷ g) (k ++ e ∷ [])
    Holds-add n g k e q h =
        let w = Holds-cons n g k (whole table e.formula) q h in
        record { closed = w.closed; below = w.below; covers = Covers-append (whole table e.formula ∷ g) k e w.covers (reached (whole table e.formula ∷ g) e (inl refl)) }

    module _ (expands : ExpandsAll (expansion table) table) (falling : IsFalling rank (expansion table)) where
      pub Good-full : (n : ℕ) (e : Tree) → IsGood rank table n e → IsGood rank table n (whole table e)
      Good-full n e h = record { closed = IsScoped-sub (expansion table) 0 e h.closed; below = Below-sub rank (expansion table) falling n e h.below }

      -- the derivation of an obligation's canonical form is one of its goal from what has its facts, all fully expanded
      pub from_obligation : (g : List Tree) (o : Obligation) → ExpandsAll (expansion table) o.defs → IsDerived (obligation_canon o) → AllClosed g → HasAll g (map (whole table) o.facts) → Der g (whole table o.goal ∷ [])
      from_obligation g o x d cg h =
          let fs : List Tree = map (unfolded o.defs) o.facts in
          let c : Canon = obligation_canon o in
          let b = canon_back fs (unfolded o.defs o.goal) in
          let names : Sym → Option Tree = b.0 in
          let d1 = Der-sub (expansion table) (map (sub names) c.facts) (sub names c.goal ∷ []) (Der-sub names c.facts (c.goal ∷ []) d) in
          let e : whole table (sub names c.goal) ≡ whole table o.goal = ap (whole table) b.2 ∙ sub-unfolded (expansion table) o.defs o.goal x in
          let a : HasAll g (map (whole table) fs) = subst (HasAll g) (sym (each o.facts)) h in
          let w = HasAll-map (whole table) fs (map (sub names) c.facts) b.1 in
          subst (λ (x : Tree). Der g (x ∷ [])) e
          (widen g (map (whole table) (map (sub names) c.facts)) (whole table (sub names c.goal)) cg
          (HasAll-all g (map (whole table) fs) (map (whole table) (map (sub names) c.facts)) a w) d1)
        where
          each : (xs : List Tree) → map (whole table) (map (unfolded o.defs) xs) ≡ map (whole table) xs
          each [] = refl
          each (y ∷ ys) = λ i. sub-unfolded (expansion table) o.defs y x i ∷ each ys i

      -- a proved leaf's derivation, in every context that has the leaf's facts
      pub from_leaf : (p : Place) (fs : List Tree) (e : Tree) (u : List ℕ) (g : List Tree) → IsProved (leaf table p fs e u).kind → AllClosed g → HasAll g (map (whole table) fs) → Der g (whole table e ∷ [])
      from_leaf p fs e u g h cg a = from_obligation g (obligation table fs e u) (chosen-expands (expansion table) u table expands) (go (is_temporal table u (e ∷ fs)) h) cg a
        where
          go : (b : Bool) → IsProved (cond b kind.Temporal (kind.Search (obligation table fs e u))) → IsDerived (obligation_canon (obligation table fs e u))
          go true k = absurd k
          go false k = k
