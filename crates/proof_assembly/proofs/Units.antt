-- Proofs and units are right where the walk over the names of their module meets no fault.
use Rattle.std.specs.Prelude.{◌≡◌, ℕ, suc, ◌+◌, ◌*◌, ◌<◌, ◌≤◌, Bool, true, false, if◌then◌else◌, List, [], ◌∷◌, ◌++◌, length, drop, map, Option, Some, None, codes, zero}
use Rattle.std.proofs.Common.{refl, ap, sym, ◌∙◌, arith, subst, append_assoc, inl, inr}
use Rattle.core_expr.specs.declared.head.Sym.{Sym}
use Rattle.core_expr.specs.declared.head.SymKind.TheVariants as kinds
use Rattle.core_expr.specs.Tree.{Tree, true_}
use Rattle.tla_ast.specs.declared.place.Place.{Place}
use Rattle.tla_ast.specs.declared.tree.Decl.{Decl}
use Rattle.tla_ast.specs.declared.fault.Kind.TheVariants as kind
use Rattle.obligation.specs.declared.obligation.Definition.{Definition}
use Rattle.obligation.specs.Unfolding.{is_defined}
use Rattle.plain_syntax.specs.Plain.{Text, Term, Terms, Groups, Defs, Statement, Fact, Move as move, Proof, Steps, Unit as unit_, UnitKind as u}
use Rattle.plain_syntax.specs.Plain.Term.{term}
use Rattle.plain_syntax.specs.Plain.Terms.{none, part}
use Rattle.plain_syntax.specs.Plain.Shape.{name, infixed}
use Rattle.plain_syntax.specs.Plain.Groups.{end_groups, free, within}
use Rattle.plain_syntax.specs.Plain.Fact.{step_name, whole}
use Rattle.plain_syntax.specs.Plain.Proof.{missing, obvious, omitted, by_facts, steps}
use Rattle.plain_syntax.specs.Plain.Steps.{end_steps, step}
use Rattle.symbol_table.specs.declared.entry.Entry.{Entry}
use Rattle.symbol_table.specs.declared.entry.EntrySort.{EntrySort}
use Rattle.symbol_table.specs.declared.entry.EntrySort.TheVariants as sorts
use Rattle.symbol_table.specs.Scoped.{entry_of, unlisted}
use Rattle.symbol_table.specs.Symbols.{symbol_at}
use Rattle.expression_level.specs.Levels.{declared_level, level}
use Rattle.module_scope.specs.Scope.{Scope, found}
use Rattle.module_scope.specs.Names.{Book, Walk, ◌>>◌, scope_of, entries_of, left, with_more, inside, unseen_in, each, entry, refused, stands, is_fact as is_fact_name, is_definition, of_sort, alone, each_alone, stated, chosen as choose, define, cited, cited_as, fact_of as fact_number, named_fact, fact_names, unfolded, facts as walk_facts, move_names, proof_names, steps_names, levels_of, means, fresh, has_any, declare, fresh_name, fact_name as name_walk, assumed_at, assumed, assumption, theorem, unit_names, unit}
use Rattle.module_scope.specs.Names.Book.{book}
use Rattle.prime_expand.specs.Symbols.{is_word}
use Rattle.name_places.specs.Places.{places, all_places}
use Rattle.proof_assembly.proofs.Walks.{get_prefix, each_found}
use Rattle.proof_assembly.specs.States.{is_bound}
use Rattle.proof_contexts.specs.Steps.{Item as item, Fact as fact, Proof as proof, Steps as chain, Step as act}
use Rattle.proof_contexts.specs.Contexts.{fact_of}
use Rattle.proof_contexts.specs.Right.{IsGood, level_items, level_after, RightFacts, RightProof, RightSteps, RightStep, RightItems, RightKnown, RightTheorem}
use Rattle.proof_contexts.specs.Theorems.{Known, Theorem}
use Rattle.proof_contexts.specs.Theorems.Known.{Assumption, Earlier}
use Rattle.proof_contexts.proofs.Putting.{Below-more}
use Rattle.proof_contexts.proofs.StepLaws.{RightItems-good}
use Rattle.proof_outline.specs.Outline.{outline}
use Rattle.usable_facts.specs.Keys.{label_key}
use Rattle.usable_facts.specs.Proofs.{count, symbol, is_fact, core, items, chosen, takes, nexts, by_step, by_term, if_fact, fact_name, facts, hidden, definitions as names_after, defined, witness, witnesses, acts, proof_of, steps_of}
use Rattle.usable_facts.specs.Definitions.{in_move, in_proof, in_steps, each_definition, in_unit, in_units}
use Rattle.usable_facts.specs.Theorems.{number_of, cites_in, earlier, statement_fact, unit_adds, theorem_of, unit_theorem, units_theorems, units_adds}
use Rattle.name_places.specs.Places.{statement_places, facts_places, named_places, move_places, proof_places, steps_places, name_places, unit_places, units_places}
use Rattle.proof_assembly.specs.Scopes.{InScope, With, IsClosedOver, AreOver, AreNew}
use Rattle.proof_assembly.specs.Ranks.{rank, is_defined_kind}
use Rattle.proof_assembly.proofs.Items.{Only-below, with_below, right_fact, right_picked}
use Rattle.proof_assembly.proofs.Going.{Numbers, over, room_later, under, Back, meant, Gives, Scoped, refused_not, Goes, same, Nothing, Fits, fits_over, goes_self, goes_then, goes_as, goes_inside, goes_numbers, goes_unseen, left_back, more_back, stands_goes, alone_fits, alone_goes, fresh_is, entered_goes}
use Rattle.proof_assembly.proofs.Declared.{plus_low, Stated, stated_none, stated_goes, chosen_goes, numbers_low, Defines, defines_none, defines_more, defines_append, define_goes, Plus}
use Rattle.proof_assembly.proofs.Shapes.{Shaped, shaped}
use Rattle.proof_assembly.proofs.Shapes.Shaped.{a_name, an_infix, other}

pub left_length : (n : ℕ) (b : Book) → length (entries_of (left n b)) ≡ length (entries_of b)
left_length n b = refl_of b
  where
    refl_of : (b : Book) → length (entries_of (left n b)) ≡ length (entries_of b)
    refl_of (book ss es ls ys fs) = refl

more_length : (more : Scope) (b : Book) → length (entries_of (with_more more b)) ≡ length (entries_of b)
more_length more b = refl_of b
  where
    refl_of : (b : Book) → length (entries_of (with_more more b)) ≡ length (entries_of b)
    refl_of (book ss es ls ys fs) = refl

pub wide8 : (a b : ℕ) → a ≤ b → 8 * a ≤ 8 * b
wide8 a b h = omega arith

-- the two tests of what is a fact's name agree
same_fact : (s : EntrySort) → is_fact_name s ≡ is_fact s
same_fact sorts.Constant = refl
same_fact sorts.State = refl
same_fact sorts.Library = refl
same_fact sorts.Definition = refl
same_fact sorts.Bound = refl
same_fact sorts.Assume = refl
same_fact sorts.Theorem = refl
same_fact sorts.Pragma = refl

-- all symbols that P names have ranks below m
abbrev pub Low : InScope → ℕ → Type 0
Low P m = (f : Sym) (k : ℕ) → P f k → rank f < m

module _ (E : List Entry) (Y : List (Place × ℕ)) (table : List Definition) where
  pub scoped_low : (P : InScope) (b : Book) → Scoped E Y b P → Low P (8 * length (entries_of b))
  scoped_low P b s f k p = numbers_low (length (entries_of b)) f k (s.low f k p)

  pub good : (P : InScope) (m : ℕ) (e : Tree) → Low P m → IsClosedOver P e → IsGood rank table m e
  good P m e q h = record { closed = h.1; below = Only-below rank table P m e q h.0 }

  abbrev StepsAt : chain → ℕ → Type 0
  StepsAt ss m = RightSteps rank table (λ _. true) ss m

  lowered : (ss : chain) (m n : ℕ) → m ≤ n → StepsAt ss n → StepsAt ss m
  lowered (chain.Qed p) m n q h = (h.0, over m n h.0 q h.1, h.2)
  lowered (chain.Next p s ss) m n q h = (h.0, over m n h.0 q h.1, h.2, h.3)

  module _ (undefined : (f : Sym) → is_defined_kind f.kind ≡ false → is_defined table f ≡ false) (cite : Place → Option ℕ) where
    -- ---- facts

    abbrev FactsAt : List fact → ℕ → Type 0
    FactsAt fs m = RightFacts rank table (λ _. true) m fs

    -- one more fact
    abbrev FactRight : fact → InScope → Type 0
    FactRight x P = (m : ℕ) → Low P m → (fs : List fact) → FactsAt fs m → FactsAt (x ∷ fs) m

    abbrev FactsRight : List Fact → InScope → Type 0
    FactsRight fs P = (m : ℕ) → Low P m → FactsAt (facts (meant E Y) cite E fs) m

    by_right : (o : Option ℕ) (p : Place) (t : Term) (P : InScope) → IsClosedOver P (core (meant E Y) E t) → FactRight (by_term (meant E Y) cite E o p t) P
    by_right None p t P h m q fs r = (good P m (core (meant E Y) E t) q h, r)
    by_right (Some n) p t P h m q fs r = (refl, r)

    alone_fact : (o : Option ℕ) (p : Place) (t : Term) (b : Book) → Back E Y (alone t b) → Goes E Y b (alone t b) (places t) (same E Y) (FactRight (by_term (meant E Y) cite E o p t))
    alone_fact o p t b h = goes_as E Y (alone_goes E Y t b h) (λ P s f. by_right o p t P f)

    name_fact : (p : Place) (w : Text) (q : Place) (b : Book) → Back E Y (cited_as (fact_number b (found w (scope_of b))) (term (name w) none q) b)
        → Goes E Y b (cited_as (fact_number b (found w (scope_of b))) (term (name w) none q) b) (q ∷ []) (same E Y) (FactRight (by_term (meant E Y) cite E (if_fact (meant E Y) cite E (meant E Y q)) p (term (name w) none q)))
    name_fact p w q b h = go (found w (scope_of b)) refl h
      where
        second : (x : ℕ) (c : Bool) → found w (scope_of b) ≡ Some x → is_fact_name (entry b x).sort ≡ c → Back E Y (cited_as (if c then Some x else None) (term (name w) none q) b)
            → Goes E Y b (cited_as (if c then Some x else None) (term (name w) none q) b) (q ∷ []) (same E Y) (FactRight (by_term (meant E Y) cite E (if_fact (meant E Y) cite E (meant E Y q)) p (term (name w) none q)))
        second x false e f h = alone_fact (if_fact (meant E Y) cite E (meant E Y q)) p (term (name w) none q) b h
        second x true e f h =
            let r = stands_goes E Y x q b h in
            goes_as E Y r (λ P s i m l fs k.
            let here : entry_of E x ≡ entry b x = get_prefix unlisted (entries_of b) E x r.stays.back.entries (each_found (λ n. (n < length (entries_of b)) × Gives E Y P n) w x (scope_of b) s.scope e).0 in
            let is : is_fact (entry_of E x).sort ≡ true = sym (same_fact (entry_of E x).sort) ∙ ap (λ (y : Entry). is_fact_name y.sort) here ∙ f in
            subst (λ (o : Option ℕ). FactsAt (by_term (meant E Y) cite E (if_fact (meant E Y) cite E o) p (term (name w) none q) ∷ fs) m) (sym i)
            (subst (λ (z : Bool). FactsAt (by_term (meant E Y) cite E (if z then Some x else None) p (term (name w) none q) ∷ fs) m) (sym is) (refl, k)))

        go : (o : Option ℕ) → found w (scope_of b) ≡ o → Back E Y (cited_as (fact_number b o) (term (name w) none q) b)
            → Goes E Y b (cited_as (fact_number b o) (term (name w) none q) b) (q ∷ []) (same E Y) (FactRight (by_term (meant E Y) cite E (if_fact (meant E Y) cite E (meant E Y q)) p (term (name w) none q)))
        go None e h = alone_fact (if_fact (meant E Y) cite E (meant E Y q)) p (term (name w) none q) b h
        go (Some x) e h = second x (is_fact_name (entry b x).sort) e refl h

    cited_goes : (p : Place) (t : Term) (b : Book) → Back E Y (cited t b) → Goes E Y b (cited t b) (places t) (same E Y) (FactRight (by_term (meant E Y) cite E (fact_name (meant E Y) cite E t) p t))
    unfolding cited
    cited_goes p t b h = go t (shaped t) h
      where
        go : (t : Term) → Shaped t → Back E Y (cited_as (named_fact b t) t b) → Goes E Y b (cited_as (named_fact b t) t b) (places t) (same E Y) (FactRight (by_term (meant E Y) cite E (fact_name (meant E Y) cite E t) p t))
        go _ (a_name w q) h = name_fact p w q b h
        go _ (an_infix o x y q) h = alone_fact None p (term (infixed o) (part x (part y none)) q) b h
        go _ (other t i) h =
            subst (λ (o : Option ℕ). Goes E Y b (cited_as o t b) (places t) (same E Y) (FactRight (by_term (meant E Y) cite E (fact_name (meant E Y) cite E t) p t))) (sym (i.no_fact b))
            (alone_fact (fact_name (meant E Y) cite E t) p t b (subst (λ (o : Option ℕ). Back E Y (cited_as o t b)) (i.no_fact b) h))

    -- names after DEF
    unfolded_goes : (d : Decl) (b : Book) → Back E Y (unfolded d b) → Goes E Y b (unfolded d b) (d.place ∷ []) (same E Y) (Nothing E Y)
    unfolded_goes d b h = go (found d.name (scope_of b)) h
      where
        second : (x : ℕ) (c : Bool) → Back E Y (if c then stands x d.place b else refused (kind.Unknown d.name) d.place b) → Goes E Y b (if c then stands x d.place b else refused (kind.Unknown d.name) d.place b) (d.place ∷ []) (same E Y) (Nothing E Y)
        second x true h = goes_as E Y (stands_goes E Y x d.place b h) (λ P s f. tt)
        second x false h = absurd (refused_not E Y (kind.Unknown d.name) d.place b h)

        go : (o : Option ℕ) → Back E Y (of_sort is_definition o d.name d.place b) → Goes E Y b (of_sort is_definition o d.name d.place b) (d.place ∷ []) (same E Y) (Nothing E Y)
        go None h = absurd (refused_not E Y (kind.Unknown d.name) d.place b h)
        go (Some x) h = second x (is_definition (entry b x).sort) h

    unfoldeds_goes : (ds : List Decl) (b : Book) → Back E Y (each unfolded ds b) → Goes E Y b (each unfolded ds b) (named_places ds []) (same E Y) (Nothing E Y)
    unfoldeds_goes [] b h = goes_self E Y b (Nothing E Y) h (λ P s. tt)
    unfoldeds_goes (d ∷ ds) b h =
        let q = unfoldeds_goes ds (unfolded d b) h in
        goes_as E Y (goes_then E Y (unfolded_goes d b q.stays.back) q) (λ P s f. tt)

    facts_goes : (fs : List Fact) (ds : List Decl) (b : Book) → Back E Y (each unfolded ds (each fact_names fs b)) → Goes E Y b (each unfolded ds (each fact_names fs b)) (facts_places fs (named_places ds [])) (same E Y) (FactsRight fs)
    facts_goes [] ds b h = goes_as E Y (unfoldeds_goes ds b h) (λ P s f m q. tt)
    facts_goes (step_name l w p ∷ fs) ds b h = goes_as E Y (facts_goes fs ds b h) (λ P s f m q. by_case (cite p) m (f m q))
      where
        by_case : (o : Option ℕ) (m : ℕ) → FactsAt (facts (meant E Y) cite E fs) m → FactsAt (by_step (meant E Y) cite E o ++ facts (meant E Y) cite E fs) m
        by_case None m h = h
        by_case (Some n) m h = (refl, h)
    facts_goes (whole p t ∷ fs) ds b h =
        let q = facts_goes fs ds (cited t b) h in
        goes_as E Y (goes_then E Y (cited_goes p t b q.stays.back) q) (λ P s f m k. f.0 m k (facts (meant E Y) cite E fs) (f.1 m k))

    both_goes : (fs : List Fact) (ds : List Decl) (b : Book) → Back E Y (walk_facts fs ds b) → Goes E Y b (walk_facts fs ds b) (facts_places fs (named_places ds [])) (same E Y) (FactsRight fs)
    unfolding walk_facts
    both_goes fs ds b h = facts_goes fs ds b h

    -- ---- TAKE and WITNESS

    module _ (q : Place) (l : Option ℕ) (rest : chain) (M : ℕ) (after : StepsAt rest M) where
      -- what the items of TAKE ask for
      abbrev Taken : List item → List act → InScope → ℕ → Type 0
      Taken is as_ P m = Low P m → AreNew rank table m is → AreOver P is true_ → level_items rank table m is ≤ M → StepsAt (nexts q as_ rest) m

      free_right : (ds : List Decl) (is : List item) (as_ : List act) → ((P : InScope) (m : ℕ) → Taken is as_ P m) → (P : InScope) (m : ℕ)
          → Taken (map (λ (d : Decl). item.New (symbol kinds.Constant (meant E Y d.place))) ds ++ is) (map (λ (d : Decl). act.Take (symbol kinds.Constant (meant E Y d.place))) ds ++ as_) P m
      free_right [] is as_ k P m low new over le = k P m low new over le
      free_right (d ∷ ds) is as_ k P m low new over le =
          let x : Sym = symbol kinds.Constant (meant E Y d.place) in
          (m, omega arith, new.0, free_right ds is as_ k (With P x) (suc (rank x)) (with_below rank table P m x new.0.above low) new.1 over le)

      set_right : (s : Tree) (ds : List Decl) (is : List item) (as_ : List act) → ((P : InScope) (m : ℕ) → Taken is as_ P m) → (P : InScope) (m : ℕ)
          → Taken (map (λ (d : Decl). item.NewIn (symbol kinds.Constant (meant E Y d.place)) s) ds ++ is) (map (λ (d : Decl). act.TakeIn l (symbol kinds.Constant (meant E Y d.place)) s) ds ++ as_) P m
      set_right s [] is as_ k P m low new over le = k P m low new over le
      set_right s (d ∷ ds) is as_ k P m low new over le =
          let x : Sym = symbol kinds.Constant (meant E Y d.place) in
          (m, omega arith, (new.0, good P m s low over.0), set_right s ds is as_ k (With P x) (suc (rank x)) (with_below rank table P m x new.0.above low) new.1 over.1 le)

      takes_right : (gs : Groups) (P : InScope) (m : ℕ) → Taken (chosen (meant E Y) cite E gs) (takes (meant E Y) cite E l gs) P m
      takes_right end_groups P m low new over le = lowered rest m M le after
      takes_right (free ds gs) P m low new over le = free_right ds (chosen (meant E Y) cite E gs) (takes (meant E Y) cite E l gs) (λ P m. takes_right gs P m) P m low new over le
      takes_right (within ds t gs) P m low new over le =
          set_right (core (meant E Y) E t) ds (chosen (meant E Y) cite E gs) (takes (meant E Y) cite E l gs) (λ P m. takes_right gs P m) P m low new over le

    abbrev WitnessRight : act → ℕ → Type 0
    WitnessRight s m = RightStep rank table (λ _. true) s m × (level_after rank table m s ≤ m)

    witness_right : (l : Option ℕ) (t : Term) → Shaped t → (P : InScope) (m : ℕ) → Low P m → Fits E Y P t → WitnessRight (witness (meant E Y) cite E l t) m
    witness_right l _ (a_name w p) P m low f = (good P m (core (meant E Y) E (term (name w) none p)) low (fits_over E Y P (term (name w) none p) f), omega arith)
    witness_right l _ (an_infix o x y p) P m low f = go (is_word o (codes "\\in"))
      where
        t : Term
        t = term (infixed o) (part x (part y none)) p

        part_good : (z : Term) → Fits E Y P z → IsGood rank table m (core (meant E Y) E z)
        part_good z g = good P m (core (meant E Y) E z) low (fits_over E Y P z g)

        go : (c : Bool) → WitnessRight (if c then act.WitnessIn l (core (meant E Y) E x) (core (meant E Y) E y) else act.Witness (core (meant E Y) E (term (infixed o) (part x (part y none)) p))) m
        go true = (
          (part_good x (record { allowed = f.allowed; within = f.within; fine = f.fine.1.0 }), part_good y (record { allowed = f.allowed; within = f.within; fine = f.fine.1.1.0 })),
          omega arith,
        )
        go false = (part_good (term (infixed o) (part x (part y none)) p) f, omega arith)
    witness_right l _ (other t i) P m low f =
        subst (λ (s : act). WitnessRight s m) (sym (i.no_member (meant E Y) cite E l)) (good P m (core (meant E Y) E t) low (fits_over E Y P t f), omega arith)

    abbrev WitnessesRight : Place → Option ℕ → Terms → InScope → Type 0
    WitnessesRight q l ts P = (m M : ℕ) → Low P m → m ≤ M → (rest : chain) → StepsAt rest M → StepsAt (nexts q (witnesses (meant E Y) cite E l ts) rest) m

    witnesses_goes : (q : Place) (l : Option ℕ) (ts : Terms) (b : Book) → Back E Y (each_alone ts b) → Goes E Y b (each_alone ts b) (all_places ts) (same E Y) (WitnessesRight q l ts)
    witnesses_goes q l none b h = goes_self E Y b (WitnessesRight q l none) h (λ P s m M low le rest r. lowered rest m M le r)
    witnesses_goes q l (part t ts) b h =
        let k = witnesses_goes q l ts (alone t b) h in
        goes_as E Y (goes_then E Y (alone_fits E Y t b k.stays.back) k) (λ P s f m M low le rest r.
        let w = witness_right l t (shaped t) P m low f.0 in
        (m, omega arith, w.0, lowered (nexts q (witnesses (meant E Y) cite E l ts) rest) (level_after rank table m (witness (meant E Y) cite E l t)) m w.1 (f.1 m M low le rest r)))

    -- ---- steps and proofs

    abbrev pub ProofRight : Place → ℕ → Proof → Book → Book → Type 0
    ProofRight q i own b c = RightProof rank table (λ _. true) (proof_of (meant E Y) cite E q i own) (8 * length (entries_of b)) × Defines (length (entries_of b)) (length (entries_of c)) (in_proof E (meant E Y) own)

    abbrev pub ProofGoes : Place → ℕ → Proof → Book → Type 1
    ProofGoes q i own b = Goes E Y b (proof_names own b) (proof_places own) (same E Y) (λ P. ProofRight q i own b (proof_names own b))

    abbrev StepRight : Place → Option ℕ → move → Proof → proof → Book → Book → Type 0
    StepRight q l m own pf b c =
        ((rest : chain) → StepsAt rest (8 * length (entries_of c)) → StepsAt (nexts q (acts (meant E Y) cite E l m pf) rest) (8 * length (entries_of b)))
        × Defines (length (entries_of b)) (length (entries_of c)) (in_move E (meant E Y) m ++ in_proof E (meant E Y) own)

    module _ (q : Place) (l : Option ℕ) (i : ℕ) (own : Proof) (sub : (x : Book) → Back E Y (proof_names own x) → ProofGoes q i own x) where
      abbrev pf : proof
      pf = proof_of (meant E Y) cite E q i own

      abbrev MoveGoes : move → Book → Type 1
      MoveGoes m b = Goes E Y b (move_names m (proof_names own) b) (move_places m (proof_places own)) (λ P. Numbers (length (entries_of (move_names m (proof_names own) b)))) (λ P. StepRight q l m own pf b (move_names m (proof_names own) b))

      -- a walk, and then the step's own proof
      then_own : (w : Walk) (b : Book) {ps : List Place} {next : InScope → InScope} {F G : InScope → Type 0} → ((h : Back E Y (w b)) → Goes E Y b (w b) ps next F)
          → ((P : InScope) → Scoped E Y b P → length (entries_of b) ≤ length (entries_of (w b)) → length (entries_of (w b)) ≤ length (entries_of (proof_names own (w b))) → F P → ProofRight q i own (w b) (proof_names own (w b)) → G P)
          → Back E Y (proof_names own (w b)) → Goes E Y b (proof_names own (w b)) (ps ++ proof_places own) (λ P. Numbers (length (entries_of (proof_names own (w b))))) G
      then_own w b f g h =
          let k = sub (w b) h in
          let r = f k.stays.back in
          goes_as E Y (goes_numbers E Y (goes_then E Y r k)) (λ P s x. g P s r.stays.longer k.stays.longer x.0 x.1)

      -- a step that is one act
      one_act : (a : act) (m n k : ℕ) → m ≤ n → n ≤ k → RightStep rank table (λ _. true) a (8 * m) → level_after rank table (8 * m) a ≤ 8 * k → (rest : chain) → StepsAt rest (8 * k) → StepsAt (nexts q (a ∷ []) rest) (8 * m)
      one_act a m n k p r s e rest after = (8 * m, omega arith, s, lowered rest (level_after rank table (8 * m) a) (8 * k) e after)

      over8 : (a b c : ℕ) → a ≤ b → b ≤ c → 8 * a ≤ 8 * c
      over8 a b c p q = omega arith

      later : (a b c : ℕ) (ds : List Definition) → a ≤ b → Defines b c ds → Defines a c ds
      later a b c ds p d = defines_more b c a c ds p (omega arith) d

      -- a step that is one act, behind a walk
      act_goes : (w : Walk) (a : act) (ds : List Definition) (b : Book) {ps : List Place} {next : InScope → InScope} {F : InScope → Type 0} → level_after rank table (8 * length (entries_of b)) a ≡ 8 * length (entries_of b)
          → ((h : Back E Y (w b)) → Goes E Y b (w b) ps next F)
          → ((P : InScope) → Scoped E Y b P → length (entries_of b) ≤ length (entries_of (w b)) → F P → ProofRight q i own (w b) (proof_names own (w b))
          → RightStep rank table (λ _. true) a (8 * length (entries_of b)) × Defines (length (entries_of b)) (length (entries_of (w b))) ds)
          → Back E Y (proof_names own (w b)) → Goes E Y b (proof_names own (w b)) (ps ++ proof_places own) (λ P. Numbers (length (entries_of (proof_names own (w b)))))
          (λ P. ((rest : chain) → StepsAt rest (8 * length (entries_of (proof_names own (w b)))) → StepsAt (chain.Next q a rest) (8 * length (entries_of b))) × Defines (length (entries_of b)) (length (entries_of (proof_names own (w b)))) (ds ++ in_proof E (meant E Y) own))
      act_goes w a ds b e f g h = then_own w b f (λ P s p r x o.
          let v = g P s p x o in (
            (λ rest y. one_act a (length (entries_of b)) (length (entries_of (w b))) (length (entries_of (proof_names own (w b)))) p r v.0
                (subst (λ (n : ℕ). n ≤ 8 * length (entries_of (proof_names own (w b)))) (sym e) (over8 (length (entries_of b)) (length (entries_of (w b))) (length (entries_of (proof_names own (w b)))) p r)) rest y),
            defines_append (length (entries_of b)) (length (entries_of (w b))) (length (entries_of (proof_names own (w b)))) ds (in_proof E (meant E Y) own) p r v.1 o.1,
          )) h

      case_goes : (t : Term) (b : Book) → Back E Y (move_names (move.case t) (proof_names own) b) → MoveGoes (move.case t) b
      case_goes t b h = act_goes (alone t) (act.Case l (core (meant E Y) E t) pf) [] b refl (alone_goes E Y t b) (λ P s p f o.
          ((good P (8 * length (entries_of b)) (core (meant E Y) E t) (scoped_low P b s) f, (8 * length (entries_of (alone t b)), wide8 (length (entries_of b)) (length (entries_of (alone t b))) p, o.0)), defines_none _ _)) h

      have_goes : (t : Term) (b : Book) → Back E Y (move_names (move.have t) (proof_names own) b) → MoveGoes (move.have t) b
      have_goes t b h = act_goes (alone t) (act.Have l (core (meant E Y) E t)) [] b refl (alone_goes E Y t b) (λ P s p f o. (good P (8 * length (entries_of b)) (core (meant E Y) E t) (scoped_low P b s) f, defines_none _ _)) h

      define_step : (ds : Defs) (b : Book) → Back E Y (move_names (move.define ds) (proof_names own) b) → MoveGoes (move.define ds) b
      define_step ds b h = act_goes (define ds) (act.Define (defined (meant E Y) cite E ds)) (each_definition E (meant E Y) ds) b refl (define_goes E Y ds b) (λ P s p f o. (tt, f)) h

      add_goes : (fs : List Fact) (ds : List Decl) (b : Book) → Back E Y (move_names (move.add fs ds) (proof_names own) b) → MoveGoes (move.add fs ds) b
      add_goes fs ds b h = act_goes (walk_facts fs ds) (act.Use l (facts (meant E Y) cite E fs) (names_after (meant E Y) cite E ds)) [] b refl (both_goes fs ds b) (λ P s p f o. (f (8 * length (entries_of b)) (scoped_low P b s), defines_none _ _)) h

      hide_goes : (fs : List Fact) (ds : List Decl) (b : Book) → Back E Y (move_names (move.hide fs ds) (proof_names own) b) → MoveGoes (move.hide fs ds) b
      hide_goes fs ds b h = act_goes (walk_facts fs ds) (act.Hide (hidden (meant E Y) cite E fs) (names_after (meant E Y) cite E ds)) [] b refl (both_goes fs ds b) (λ P s p f o. (tt, defines_none _ _)) h

      witness_goes : (ts : Terms) (b : Book) → Back E Y (move_names (move.witness ts) (proof_names own) b) → MoveGoes (move.witness ts) b
      witness_goes ts b h = then_own (each_alone ts) b (witnesses_goes q l ts b) (λ P s p r f o. (
        (λ rest a. f (8 * length (entries_of b)) (8 * length (entries_of (proof_names own (each_alone ts b)))) (scoped_low P b s) (over8 (length (entries_of b)) (length (entries_of (each_alone ts b))) (length (entries_of (proof_names own (each_alone ts b)))) p r) rest a),
        later (length (entries_of b)) (length (entries_of (each_alone ts b))) (length (entries_of (proof_names own (each_alone ts b)))) (in_proof E (meant E Y) own) p o.1,
      )) h

      take_goes : (gs : Groups) (b : Book) → Back E Y (move_names (move.take gs) (proof_names own) b) → MoveGoes (move.take gs) b
      take_goes gs b h = then_own (choose gs) b (λ k. chosen_goes E Y table undefined (choose gs b) true_ [] cite gs b (end k)) (λ P s p r f o.
          let v = f (8 * length (entries_of b)) (omega arith) in (
            (λ rest a. takes_right q l rest (8 * length (entries_of (proof_names own (choose gs b)))) a gs P (8 * length (entries_of b)) (scoped_low P b s) v.0 v.1
                (room_later (level_items rank table (8 * length (entries_of b)) (chosen (meant E Y) cite E gs)) (length (entries_of (choose gs b))) (length (entries_of (proof_names own (choose gs b)))) v.2 r)),
            later (length (entries_of b)) (length (entries_of (choose gs b))) (length (entries_of (proof_names own (choose gs b)))) (in_proof E (meant E Y) own) p o.1,
          )) h
        where
          end : Back E Y (choose gs b) → Goes E Y (choose gs b) (choose gs b) [] (λ P. Numbers (length (entries_of (choose gs b)))) (Stated E Y table undefined (choose gs b) [] true_ (choose gs b))
          end k = goes_numbers E Y (goes_self E Y (choose gs b) (Stated E Y table undefined (choose gs b) [] true_ (choose gs b)) k (λ P s. stated_none E Y table undefined (choose gs b) (choose gs b) true_ P (omega arith) (tt, tt)))

      -- a statement as a step's formula
      statement_right : (s : Statement) (b c : Book) (P : InScope) → Scoped E Y b P → Stated E Y table undefined c (items (meant E Y) E s.items) (core (meant E Y) E s.goal) b P
          → RightItems rank table fact_of (8 * length (entries_of b)) (items (meant E Y) E s.items) (core (meant E Y) E s.goal) × (level_items rank table (8 * length (entries_of b)) (items (meant E Y) E s.items) ≤ 8 * length (entries_of c))
      statement_right s b c P k f =
          let v = f (8 * length (entries_of b)) (omega arith) in
          (right_fact rank table P (8 * length (entries_of b)) (items (meant E Y) E s.items) (core (meant E Y) E s.goal) (scoped_low P b k) v.0 v.1, v.2)

      assert_goes : (s : Statement) (b : Book) → Back E Y (move_names (move.assert s) (proof_names own) b) → MoveGoes (move.assert s) b
      assert_goes s b h =
          let a : Book = stated s b in
          let d : Book = proof_names own a in
          let k = sub a (left_back E Y (length (scope_of b)) d h) in
          let r = stated_goes E Y table undefined s b k.stays.back in
          goes_as E Y (goes_numbers E Y (goes_inside E Y (stated s >> proof_names own) b (goes_then E Y r k))) (λ P z x.
          let w = statement_right s b a P z x.0 in
          let e = left_length (length (scope_of b)) d in (
            (λ rest y. one_act (act.Assert l _ pf) (length (entries_of b)) (length (entries_of a)) (length (entries_of (left (length (scope_of b)) d))) r.stays.longer (subst (λ (n : ℕ). length (entries_of a) ≤ n) (sym e) k.stays.longer)
                (w.0, (8 * length (entries_of a), w.1, x.1.0)) (wide8 (length (entries_of b)) (length (entries_of (left (length (scope_of b)) d))) (subst (λ (n : ℕ). length (entries_of b) ≤ n) (sym e) (over (length (entries_of b)) (length (entries_of a)) (length (entries_of d)) r.stays.longer k.stays.longer))) rest y),
            subst (λ (n : ℕ). Defines (length (entries_of b)) n (in_proof E (meant E Y) own)) (sym e) (later (length (entries_of b)) (length (entries_of a)) (length (entries_of d)) (in_proof E (meant E Y) own) r.stays.longer x.1.1),
          ))

      -- what a statement or a choice brings in is not seen in the step's own proof, but after it
      unseen_own : (w : Walk) (b : Book) {ps : List Place} {F : InScope → Type 0} (G : ℕ → Type 0) → ((h : Back E Y (w b)) → Goes E Y b (w b) ps (λ P. Numbers (length (entries_of (w b)))) F)
          → ((P : InScope) (c : ℕ) → Scoped E Y b P → length (entries_of b) ≤ length (entries_of (w b)) → length (entries_of (w b)) ≤ c → F P
          → RightProof rank table (λ _. true) pf (8 * length (entries_of (w b))) → Defines (length (entries_of (w b))) c (in_proof E (meant E Y) own) → G c)
          → Back E Y (unseen_in w (proof_names own) b) → Goes E Y b (unseen_in w (proof_names own) b) (ps ++ proof_places own) (λ P. Numbers (length (entries_of (unseen_in w (proof_names own) b)))) (λ P. G (length (entries_of (unseen_in w (proof_names own) b))))
      unseen_own w b G f g h =
          let a : Book = w b in
          let a1 : Book = left (length (scope_of b)) a in
          let d : Book = proof_names own a1 in
          let more : Scope = drop (length (scope_of b)) (scope_of a) in
          let k = sub a1 (more_back E Y more d h) in
          let r = f (left_back E Y (length (scope_of b)) a k.stays.back) in
          let e = left_length (length (scope_of b)) a in
          goes_as E Y (goes_numbers E Y (goes_unseen E Y w (proof_names own) b (λ P s x j p. under x.number (length (entries_of b)) (length (entries_of a)) (s.low x j p) r.stays.longer) r k)) (λ P s x.
          subst G (sym (more_length more d))
          (g P (length (entries_of d)) s r.stays.longer (subst (λ (n : ℕ). n ≤ length (entries_of d)) e k.stays.longer) x.0
          (subst (λ (n : ℕ). RightProof rank table (λ _. true) pf (8 * n)) e x.1.0) (subst (λ (n : ℕ). Defines n (length (entries_of d)) (in_proof E (meant E Y) own)) e x.1.1)))

      -- what is asked of a step, by how much is declared after it
      abbrev Step : move → Book → ℕ → Type 0
      Step m b c =
          ((rest : chain) → StepsAt rest (8 * c) → StepsAt (nexts q (acts (meant E Y) cite E l m pf) rest) (8 * length (entries_of b)))
          × Defines (length (entries_of b)) c (in_move E (meant E Y) m ++ in_proof E (meant E Y) own)

      suffices_goes : (s : Statement) (b : Book) → Back E Y (move_names (move.suffices s) (proof_names own) b) → MoveGoes (move.suffices s) b
      suffices_goes s b h = unseen_own (stated s) b (Step (move.suffices s) b) (stated_goes E Y table undefined s b) (λ P c z p r f o d.
          let w = statement_right s b (stated s b) P z f in (
            (λ rest y. one_act (act.Suffices l _ pf) (length (entries_of b)) (length (entries_of (stated s b))) c p r
                (w.0, (8 * length (entries_of (stated s b)), wide8 (length (entries_of b)) (length (entries_of (stated s b))) p, o)) (room_later _ (length (entries_of (stated s b))) c w.1 r) rest y),
            later (length (entries_of b)) (length (entries_of (stated s b))) c (in_proof E (meant E Y) own) p d,
          )) h

      pick_goes : (gs : Groups) (t : Term) (b : Book) → Back E Y (move_names (move.pick gs t) (proof_names own) b) → MoveGoes (move.pick gs t) b
      pick_goes gs t b h = unseen_own (choose gs >> alone t) b (Step (move.pick gs t) b) (λ k. chosen_goes E Y table undefined (alone t (choose gs b)) (core (meant E Y) E t) (places t) cite gs b (end k)) (λ P c z p r f o d.
          let v = f (8 * length (entries_of b)) (omega arith) in
          let a : Book = alone t (choose gs b) in (
            (λ rest y. one_act (act.Pick l _ _ pf) (length (entries_of b)) (length (entries_of a)) c p r
                (right_picked rank table P (8 * length (entries_of b)) (chosen (meant E Y) cite E gs) (core (meant E Y) E t) (scoped_low P b z) v.0 v.1, (8 * length (entries_of a), wide8 (length (entries_of b)) (length (entries_of a)) p, o))
                (room_later _ (length (entries_of a)) c v.2 r) rest y),
            later (length (entries_of b)) (length (entries_of a)) c (in_proof E (meant E Y) own) p d,
          )) h
        where
          end : Back E Y (alone t (choose gs b)) → Goes E Y (choose gs b) (alone t (choose gs b)) (places t) (λ P. Numbers (length (entries_of (alone t (choose gs b))))) (Stated E Y table undefined (alone t (choose gs b)) [] (core (meant E Y) E t) (choose gs b))
          end k =
              let r = alone_goes E Y t (choose gs b) k in
              goes_as E Y (goes_numbers E Y r) (λ P s f. stated_none E Y table undefined (alone t (choose gs b)) (choose gs b) (core (meant E Y) E t) P r.stays.longer f)

    -- a proof, and steps, where the first step has this number
    abbrev StepsRight : Place → ℕ → Steps → Book → Book → Type 0
    StepsRight p i ss b c = StepsAt (steps_of (meant E Y) cite E p i ss) (8 * length (entries_of b)) × Defines (length (entries_of b)) (length (entries_of c)) (in_steps E (meant E Y) ss)

    abbrev StepsGoes : Place → ℕ → Steps → Book → Type 1
    StepsGoes p i ss b = Goes E Y b (steps_names ss b) (steps_places ss) (λ P. Numbers (length (entries_of (steps_names ss b)))) (λ P. StepsRight p i ss b (steps_names ss b))

    -- a step that is not QED, and those behind it
    joined : (p q : Place) (i : ℕ) (l : ℕ) (w : Text) (m : move) (own : Proof) (ss : Steps) (b c d : Book)
        → Goes E Y b c (move_places m (proof_places own)) (λ P. Numbers (length (entries_of c))) (λ P. StepRight q (label_key i w) m own (proof_of (meant E Y) cite E q (suc i) own) b c)
        → Goes E Y c d (steps_places ss) (λ P. Numbers (length (entries_of d))) (λ P. StepsRight p (suc i + count own) ss c d)
        → Goes E Y b d (move_places m (proof_places own) ++ steps_places ss) (λ P. Numbers (length (entries_of d)))
        (λ P. StepsAt (nexts q (acts (meant E Y) cite E (label_key i w) m (proof_of (meant E Y) cite E q (suc i) own)) (steps_of (meant E Y) cite E p (suc i + count own) ss)) (8 * length (entries_of b))
        × Defines (length (entries_of b)) (length (entries_of d)) (in_move E (meant E Y) m ++ (in_proof E (meant E Y) own ++ in_steps E (meant E Y) ss)))
    joined p q i l w m own ss b c d r k = goes_as E Y (goes_then E Y r k) (λ P s f. (
      f.0.0 (steps_of (meant E Y) cite E p (suc i + count own) ss) f.1.0,
      subst (Defines (length (entries_of b)) (length (entries_of d))) (append_assoc (in_move E (meant E Y) m) (in_proof E (meant E Y) own) (in_steps E (meant E Y) ss))
          (defines_append (length (entries_of b)) (length (entries_of c)) (length (entries_of d)) (in_move E (meant E Y) m ++ in_proof E (meant E Y) own) (in_steps E (meant E Y) ss) r.stays.longer k.stays.longer f.0.1 f.1.1),
    ))

    mutual
      pub proof_goes : (own : Proof) (q : Place) (i : ℕ) (b : Book) → Back E Y (proof_names own b) → ProofGoes q i own b
      proof_goes missing q i b h = goes_self E Y b (λ P. ProofRight q i missing b b) h (λ P s. (tt, defines_none (length (entries_of b)) (length (entries_of b))))
      proof_goes (obvious p) q i b h = goes_self E Y b (λ P. ProofRight q i (obvious p) b b) h (λ P s. (tt, defines_none (length (entries_of b)) (length (entries_of b))))
      proof_goes (omitted p) q i b h = goes_self E Y b (λ P. ProofRight q i (omitted p) b b) h (λ P s. (tt, defines_none (length (entries_of b)) (length (entries_of b))))
      proof_goes (by_facts p only fs ds) q i b h =
          goes_as E Y (both_goes fs ds b h) (λ P s f. (f (8 * length (entries_of b)) (scoped_low P b s), defines_none (length (entries_of b)) (length (entries_of (walk_facts fs ds b)))))
      proof_goes (steps ss) q i b h =
          let r = steps_goes ss q i b (left_back E Y (length (scope_of b)) (steps_names ss b) h) in
          goes_as E Y (goes_inside E Y (steps_names ss) b r) (λ P s f. (f.0, subst (λ (n : ℕ). Defines (length (entries_of b)) n (in_steps E (meant E Y) ss)) (sym (left_length (length (scope_of b)) (steps_names ss b))) f.1))

      steps_goes : (ss : Steps) (p : Place) (i : ℕ) (b : Book) → Back E Y (steps_names ss b) → StepsGoes p i ss b
      steps_goes end_steps p i b h =
          goes_numbers E Y (goes_self E Y b (λ P. StepsRight p i end_steps b b) h (λ P s. ((8 * length (entries_of b), omega arith, tt), defines_none (length (entries_of b)) (length (entries_of b)))))
      steps_goes (step q l w move.qed own ss) p i b h =
          let c : Book = proof_names own b in
          let k = steps_goes ss p (suc i + count own) c h in
          let r = proof_goes own q (suc i) b k.stays.back in
          goes_as E Y (goes_then E Y r k) (λ P s f. (
            (8 * length (entries_of b), omega arith, f.0.0),
            defines_append (length (entries_of b)) (length (entries_of c)) (length (entries_of (steps_names ss c))) (in_proof E (meant E Y) own) (in_steps E (meant E Y) ss) r.stays.longer k.stays.longer f.0.1 f.1.1,
          ))
      steps_goes (step q l w (move.assert s) own ss) p i b h =
          let k = steps_goes ss p (suc i + count own) (move_names (move.assert s) (proof_names own) b) h in
          joined p q i l w (move.assert s) own ss b (move_names (move.assert s) (proof_names own) b) (steps_names ss (move_names (move.assert s) (proof_names own) b)) (assert_goes q (label_key i w) (suc i) own (λ x y. proof_goes own q (suc i) x y) s b k.stays.back) k
      steps_goes (step q l w (move.case t) own ss) p i b h =
          let k = steps_goes ss p (suc i + count own) (move_names (move.case t) (proof_names own) b) h in
          joined p q i l w (move.case t) own ss b (move_names (move.case t) (proof_names own) b) (steps_names ss (move_names (move.case t) (proof_names own) b)) (case_goes q (label_key i w) (suc i) own (λ x y. proof_goes own q (suc i) x y) t b k.stays.back) k
      steps_goes (step q l w (move.suffices s) own ss) p i b h =
          let k = steps_goes ss p (suc i + count own) (move_names (move.suffices s) (proof_names own) b) h in
          joined p q i l w (move.suffices s) own ss b (move_names (move.suffices s) (proof_names own) b) (steps_names ss (move_names (move.suffices s) (proof_names own) b)) (suffices_goes q (label_key i w) (suc i) own (λ x y. proof_goes own q (suc i) x y) s b k.stays.back) k
      steps_goes (step q l w (move.have t) own ss) p i b h =
          let k = steps_goes ss p (suc i + count own) (move_names (move.have t) (proof_names own) b) h in
          joined p q i l w (move.have t) own ss b (move_names (move.have t) (proof_names own) b) (steps_names ss (move_names (move.have t) (proof_names own) b)) (have_goes q (label_key i w) (suc i) own (λ x y. proof_goes own q (suc i) x y) t b k.stays.back) k
      steps_goes (step q l w (move.take gs) own ss) p i b h =
          let k = steps_goes ss p (suc i + count own) (move_names (move.take gs) (proof_names own) b) h in
          joined p q i l w (move.take gs) own ss b (move_names (move.take gs) (proof_names own) b) (steps_names ss (move_names (move.take gs) (proof_names own) b)) (take_goes q (label_key i w) (suc i) own (λ x y. proof_goes own q (suc i) x y) gs b k.stays.back) k
      steps_goes (step q l w (move.witness ts) own ss) p i b h =
          let k = steps_goes ss p (suc i + count own) (move_names (move.witness ts) (proof_names own) b) h in
          joined p q i l w (move.witness ts) own ss b (move_names (move.witness ts) (proof_names own) b) (steps_names ss (move_names (move.witness ts) (proof_names own) b)) (witness_goes q (label_key i w) (suc i) own (λ x y. proof_goes own q (suc i) x y) ts b k.stays.back) k
      steps_goes (step q l w (move.pick gs t) own ss) p i b h =
          let k = steps_goes ss p (suc i + count own) (move_names (move.pick gs t) (proof_names own) b) h in
          joined p q i l w (move.pick gs t) own ss b (move_names (move.pick gs t) (proof_names own) b) (steps_names ss (move_names (move.pick gs t) (proof_names own) b)) (pick_goes q (label_key i w) (suc i) own (λ x y. proof_goes own q (suc i) x y) gs t b k.stays.back) k
      steps_goes (step q l w (move.define ds) own ss) p i b h =
          let k = steps_goes ss p (suc i + count own) (move_names (move.define ds) (proof_names own) b) h in
          joined p q i l w (move.define ds) own ss b (move_names (move.define ds) (proof_names own) b) (steps_names ss (move_names (move.define ds) (proof_names own) b)) (define_step q (label_key i w) (suc i) own (λ x y. proof_goes own q (suc i) x y) ds b k.stays.back) k
      steps_goes (step q l w (move.add fs ds) own ss) p i b h =
          let k = steps_goes ss p (suc i + count own) (move_names (move.add fs ds) (proof_names own) b) h in
          joined p q i l w (move.add fs ds) own ss b (move_names (move.add fs ds) (proof_names own) b) (steps_names ss (move_names (move.add fs ds) (proof_names own) b)) (add_goes q (label_key i w) (suc i) own (λ x y. proof_goes own q (suc i) x y) fs ds b k.stays.back) k
      steps_goes (step q l w (move.hide fs ds) own ss) p i b h =
          let k = steps_goes ss p (suc i + count own) (move_names (move.hide fs ds) (proof_names own) b) h in
          joined p q i l w (move.hide fs ds) own ss b (move_names (move.hide fs ds) (proof_names own) b) (steps_names ss (move_names (move.hide fs ds) (proof_names own) b)) (hide_goes q (label_key i w) (suc i) own (λ x y. proof_goes own q (suc i) x y) fs ds b k.stays.back) k

-- each theorem is right at some level
abbrev pub AllRight : List Definition → List Theorem → Type 0
AllRight table [] = Unit {0}
AllRight table (t ∷ ts) = ((n : ℕ) × RightTheorem rank table (λ _. true) n t) × AllRight table ts

pub rights_append : (table : List Definition) (ts us : List Theorem) → AllRight table ts → AllRight table us → AllRight table (ts ++ us)
rights_append table [] us h k = k
rights_append table (t ∷ ts) us h k = (h.0, rights_append table ts us h.1 k)

pub known_more : (table : List Definition) (n m : ℕ) (ks : List Known) → n ≤ m → RightKnown rank table (λ _. true) n ks → RightKnown rank table (λ _. true) m ks
known_more table n m [] q h = tt
known_more table n m (Assumption l f ∷ ks) q h = (record { closed = h.0.closed; below = Below-more rank n m f q h.0.below }, known_more table n m ks q h.1)
known_more table n m (Earlier l f ∷ ks) q h = (record { closed = h.0.closed; below = Below-more rank n m f q h.0.below }, known_more table n m ks q h.1)

pub known_append : (table : List Definition) (n : ℕ) (js ks : List Known) → RightKnown rank table (λ _. true) n js → RightKnown rank table (λ _. true) n ks → RightKnown rank table (λ _. true) n (js ++ ks)
known_append table n [] ks h k = k
known_append table n (Assumption l f ∷ js) ks h k = (h.0, known_append table n js ks h.1 k)
known_append table n (Earlier l f ∷ js) ks h k = (h.0, known_append table n js ks h.1 k)

-- the number of a theorem's name is from l on and below k
abbrev pub KeyedName : (Place → Option ℕ) → ℕ → ℕ → Option Decl → Type 0
KeyedName meant l k None = Unit {0}
KeyedName meant l k (Some d) = (n : ℕ) × (meant d.place ≡ Some n) × (l ≤ n) × (n < k)

abbrev pub KeyedUnit : (Place → Option ℕ) → ℕ → ℕ → u → Type 0
KeyedUnit meant l k (u.theorem w s own) = KeyedName meant l k w
KeyedUnit meant l k (u.constants ds) = Unit {0}
KeyedUnit meant l k (u.variables ds) = Unit {0}
KeyedUnit meant l k (u.assume w t) = Unit {0}
KeyedUnit meant l k (u.definition ds) = Unit {0}

abbrev pub KeyedUnits : (Place → Option ℕ) → ℕ → ℕ → List unit_ → Type 0
KeyedUnits meant l k [] = l ≤ k
KeyedUnits meant l k (x ∷ xs) = (j : ℕ) × (l ≤ j) × KeyedUnit meant l j x.kind × KeyedUnits meant j k xs

module _ (E : List Entry) (Y : List (Place × ℕ)) where
  -- a declaration with any number of parameters
  declared_goes : (s : EntrySort) (l : ℕ) (d : Decl) (b : Book) → is_bound s ≡ false → Back E Y (declare s l d b) → Goes E Y b (declare s l d b) (d.place ∷ []) (λ P. Numbers (length (entries_of (declare s l d b)))) (Nothing E Y)
  declared_goes s l d b o h =
      let a : Book = fresh d.name d.place b in
      let e : Entry = record { name = d.name; sort = s; arity = d.arity; level = l; primed = [] } in
      let r = entered_goes E Y e (declared_level l (has_any d.arity)) d.place a (λ P. Plus P (length (entries_of a))) o (λ P x k q. inl q) (λ P k j q. inr refl) (λ P. plus_low P (length (entries_of a))) h in
      subst (λ (x : Book). Goes E Y x (declare s l d b) (d.place ∷ []) (λ P. Numbers (length (entries_of (declare s l d b)))) (Nothing E Y)) (fresh_is E Y d.name d.place b r.stays.back)
      (goes_as E Y (goes_numbers E Y r) (λ P z f. tt))

  declares_goes : (s : EntrySort) (l : ℕ) (ds : List Decl) (b : Book) → is_bound s ≡ false → Back E Y (each (declare s l) ds b) → Goes E Y b (each (declare s l) ds b) (named_places ds []) (λ P. Numbers (length (entries_of (each (declare s l) ds b)))) (Nothing E Y)
  declares_goes s l [] b o h = goes_numbers E Y (goes_self E Y b (Nothing E Y) h (λ P z. tt))
  declares_goes s l (d ∷ ds) b o h =
      let q = declares_goes s l ds (declare s l d b) o h in
      goes_as E Y (goes_then E Y (declared_goes s l d b o q.stays.back) q) (λ P z f. tt)

  fresh_name_is : (w : Option Decl) (b : Book) → Back E Y (fresh_name w b) → fresh_name w b ≡ b
  fresh_name_is None b h = refl
  fresh_name_is (Some d) b h = fresh_is E Y d.name d.place b h

  -- the name of an assumption or a theorem
  fact_name_goes : (s : EntrySort) (w : Option Decl) (b : Book) → is_bound s ≡ false → Back E Y (name_walk s w b)
      → Goes E Y b (name_walk s w b) (name_places w) (λ P. Numbers (length (entries_of (name_walk s w b)))) (λ P. KeyedName (meant E Y) (length (entries_of b)) (length (entries_of (name_walk s w b))) w)
  fact_name_goes s None b o h = goes_numbers E Y (goes_self E Y b (λ P. Unit {0}) h (λ P z. tt))
  fact_name_goes s (Some d) b o h =
      let e : Entry = record { name = d.name; sort = s; arity = 0; level = 0; primed = [] } in
      let r = entered_goes E Y e (declared_level 0 (has_any 0)) d.place b (λ P. Plus P (length (entries_of b))) o (λ P x k q. inl q) (λ P k j q. inr refl) (λ P. plus_low P (length (entries_of b))) h in
      goes_as E Y (goes_numbers E Y r) (λ P z f. (length (entries_of b), f.number, omega arith, next (length (entries_of (name_walk s (Some d) b))) (length (entries_of b)) f.longer))
    where
      next : (a b : ℕ) → a ≡ suc b → b < a
      next a b e = omega arith

  assumed_is : (p : Place) (t : Term) (b : Book) → Back E Y (assumed p t b) → assumed p t b ≡ b
  unfolding assumed
  assumed_is p t b h = go (level (means b) (levels_of b) 0 t).0 h
    where
      go : (n : ℕ) → Back E Y (assumed_at n p b) → assumed_at n p b ≡ b
      go zero h = refl
      go (suc n) h = absurd (refused_not E Y kind.AssumeLevel p b h)

  keyed_more : (w : Option Decl) (a b c : ℕ) → a ≤ b → KeyedName (meant E Y) b c w → KeyedName (meant E Y) a c w
  keyed_more None a b c p h = tt
  keyed_more (Some d) a b c p (n, e, q, r) = (n, e, over a b n p q, r)

  module _ (table : List Definition) (undefined : (f : Sym) → is_defined_kind f.kind ≡ false → is_defined table f ≡ false) where
    abbrev KnownAt : ℕ → List Known → Type 0
    KnownAt l ks = RightKnown rank table (λ _. true) (8 * l) ks

    -- what is said of a unit
    pub record UnitRight (x : unit_) (b c : ℕ) : Type 0 where
      pub defines : Defines b c (in_unit E (meant E Y) x.kind)
      pub theorems : (i : ℕ) (ks : List Known) → KnownAt b ks → AllRight table (unit_theorem E (meant E Y) i ks x.place x.kind)
      pub adds : KnownAt c (unit_adds E (meant E Y) x.kind)
      pub keyed : KeyedUnit (meant E Y) b c x.kind

    good_later : (e : Tree) (a b : ℕ) → a ≤ b → IsGood rank table (8 * a) e → IsGood rank table (8 * b) e
    good_later e a b p h = record { closed = h.closed; below = Below-more rank (8 * a) (8 * b) e (wide8 a b p) h.below }

    earlier_right : (o : Option ℕ) (f : Tree) (l : ℕ) → IsGood rank table (8 * l) f → KnownAt l (earlier o f)
    earlier_right None f l h = tt
    earlier_right (Some n) f l h = (h, tt)

    fact_good : (s : Statement) (l : ℕ) → RightItems rank table fact_of (8 * l) (items (meant E Y) E s.items) (core (meant E Y) E s.goal) → IsGood rank table (8 * l) (statement_fact E (meant E Y) s)
    fact_good s l r = RightItems-good rank table (λ _. true) fact_of (8 * l) (items (meant E Y) E s.items) (core (meant E Y) E s.goal) r

    assumption_goes : (p : Place) (w : Option Decl) (t : Term) (b : Book) → Back E Y (assumption p w t b)
        → Goes E Y b (assumption p w t b) (places t ++ name_places w) (λ P. Numbers (length (entries_of (assumption p w t b)))) (λ P. IsGood rank table (8 * length (entries_of b)) (core (meant E Y) E t) × (length (entries_of b) ≤ length (entries_of (assumption p w t b))))
    unfolding assumption
    assumption_goes p w t b h =
        let a : Book = fresh_name w b in
        let k = fact_name_goes sorts.Assume w (assumed p t (alone t a)) refl h in
        let e = assumed_is p t (alone t a) k.stays.back in
        let k1 = subst (λ (x : Book). Goes E Y x (name_walk sorts.Assume w (assumed p t (alone t a))) (name_places w) (λ P. Numbers (length (entries_of (name_walk sorts.Assume w (assumed p t (alone t a)))))) (λ P. KeyedName (meant E Y) (length (entries_of x)) (length (entries_of (name_walk sorts.Assume w (assumed p t (alone t a))))) w)) e k in
        let r = alone_goes E Y t a k1.stays.back in
        let all = goes_then E Y r k1 in
        subst (λ (x : Book). Goes E Y x (name_walk sorts.Assume w (assumed p t (alone t a))) (places t ++ name_places w) (λ P. Numbers (length (entries_of (name_walk sorts.Assume w (assumed p t (alone t a)))))) (λ P. IsGood rank table (8 * length (entries_of x)) (core (meant E Y) E t) × (length (entries_of x) ≤ length (entries_of (name_walk sorts.Assume w (assumed p t (alone t a))))))) (fresh_name_is w b r.stays.back)
        (goes_as E Y all (λ P z f. (good E Y table P (8 * length (entries_of a)) (core (meant E Y) E t) (scoped_low E Y table P a z) f.0, all.stays.longer)))

    -- a theorem with its proof
    pub record TheoremRight (w : Option Decl) (s : Statement) (own : Proof) (p : Place) (b c : ℕ) : Type 0 where
      pub defines : Defines b c (in_unit E (meant E Y) (u.theorem w s own))
      pub right : (i : ℕ) (ks : List Known) → KnownAt b ks → RightTheorem rank table (λ _. true) (8 * b) (theorem_of E (meant E Y) i ks p w s own)
      pub fact : IsGood rank table (8 * c) (statement_fact E (meant E Y) s)
      pub keyed : KeyedName (meant E Y) b c w

    theorem_goes : (w : Option Decl) (s : Statement) (own : Proof) (p : Place) (b : Book) → Back E Y (theorem w s own b)
        → Goes E Y b (theorem w s own b) ((statement_places s ++ proof_places own) ++ name_places w) (λ P. Numbers (length (entries_of (theorem w s own b)))) (λ P. TheoremRight w s own p (length (entries_of b)) (length (entries_of (theorem w s own b))))
    unfolding theorem
    theorem_goes w s own p b h =
        let a : Book = fresh_name w b in
        let d : Book = proof_names own (stated s a) in
        let c : Book = inside (stated s >> proof_names own) a in
        let z : Book = name_walk sorts.Theorem w c in
        let k = fact_name_goes sorts.Theorem w c refl h in
        let o = proof_goes E Y table undefined (symbol_at (cites_in (outline own))) own p 0 (stated s a) (left_back E Y (length (scope_of a)) d k.stays.back) in
        let r = stated_goes E Y table undefined s a o.stays.back in
        let q = goes_inside E Y (stated s >> proof_names own) a (goes_then E Y r o) in
        let e = left_length (length (scope_of a)) d in
        subst (λ (x : Book). Goes E Y x z ((statement_places s ++ proof_places own) ++ name_places w) (λ P. Numbers (length (entries_of z))) (λ P. TheoremRight w s own p (length (entries_of x)) (length (entries_of z)))) (fresh_name_is w b q.stays.back)
        (goes_as E Y (goes_then E Y q k) (λ P v f.
        let n : ℕ = length (entries_of a) in
        let t = f.0.0 (8 * n) (omega arith) in
        let st = right_fact rank table P (8 * n) (items (meant E Y) E s.items) (core (meant E Y) E s.goal) (scoped_low E Y table P a v) t.0 t.1 in
        record {
          defines = defines_more (length (entries_of (stated s a))) (length (entries_of d)) n (length (entries_of z)) _ r.stays.longer (subst (λ (m : ℕ). m ≤ length (entries_of z)) e k.stays.longer) f.0.1.1;
          right = λ i ks g. record { known = g; statement = st; proof = (8 * length (entries_of (stated s a)), t.2, f.0.1.0) };
          fact = good_later (statement_fact E (meant E Y) s) n (length (entries_of z)) (over n (length (entries_of c)) (length (entries_of z)) q.stays.longer k.stays.longer) (fact_good s n st);
          keyed = keyed_more w n (length (entries_of c)) (length (entries_of z)) q.stays.longer f.1;
        }))

    abbrev UnitGoes : unit_ → Book → Type 1
    UnitGoes x b = Goes E Y b (unit x b) (unit_places x.kind) (λ P. Numbers (length (entries_of (unit x b)))) (λ P. UnitRight x (length (entries_of b)) (length (entries_of (unit x b))))

    unit_goes : (p : Place) (k : u) (b : Book) → Back E Y (unit_names p k b)
        → Goes E Y b (unit_names p k b) (unit_places k) (λ P. Numbers (length (entries_of (unit_names p k b)))) (λ P. UnitRight (record { place = p; kind = k }) (length (entries_of b)) (length (entries_of (unit_names p k b))))
    unit_goes p (u.constants ds) b h = goes_as E Y (declares_goes sorts.Constant 0 ds b refl h) (λ P s f. record { defines = defines_none _ _; theorems = λ i ks g. tt; adds = tt; keyed = tt })
    unit_goes p (u.variables ds) b h = goes_as E Y (declares_goes sorts.State 1 ds b refl h) (λ P s f. record { defines = defines_none _ _; theorems = λ i ks g. tt; adds = tt; keyed = tt })
    unit_goes p (u.assume w t) b h = goes_as E Y (assumption_goes p w t b h) (λ P s f. record {
      defines = defines_none _ _;
      theorems = λ i ks g. tt;
      adds = (good_later (core (meant E Y) E t) (length (entries_of b)) (length (entries_of (assumption p w t b))) f.1 f.0, tt);
      keyed = tt;
    })
    unit_goes p (u.definition ds) b h = goes_as E Y (define_goes E Y ds b h) (λ P s f. record { defines = f; theorems = λ i ks g. tt; adds = tt; keyed = tt })
    unit_goes p (u.theorem w s own) b h = goes_as E Y (theorem_goes w s own p b h) (λ P z f. record {
      defines = f.defines;
      theorems = λ i ks g. ((8 * length (entries_of b), f.right i ks g), tt);
      adds = earlier_right (number_of (meant E Y) w) (statement_fact E (meant E Y) s) (length (entries_of (theorem w s own b))) f.fact;
      keyed = f.keyed;
    })

    -- what is said of units, from the first on
    pub record UnitsRight (xs : List unit_) (b c : ℕ) : Type 0 where
      pub defines : Defines b c (in_units E (meant E Y) xs)
      pub theorems : (i : ℕ) (ks : List Known) → KnownAt b ks → AllRight table (units_theorems E (meant E Y) i ks xs)
      pub adds : KnownAt c (units_adds E (meant E Y) xs)
      pub keyed : KeyedUnits (meant E Y) b c xs

    pub units_goes : (xs : List unit_) (b : Book) → Back E Y (each unit xs b)
        → Goes E Y b (each unit xs b) (units_places xs) (λ P. Numbers (length (entries_of (each unit xs b)))) (λ P. UnitsRight xs (length (entries_of b)) (length (entries_of (each unit xs b))))
    unfolding unit
    units_goes [] b h = goes_numbers E Y (goes_self E Y b (λ P. UnitsRight [] (length (entries_of b)) (length (entries_of b))) h (λ P s. record { defines = defines_none _ _; theorems = λ i ks g. tt; adds = tt; keyed = omega arith }))
    units_goes (x ∷ xs) b h =
        let c : Book = unit_names x.place x.kind b in
        let d : Book = each unit xs c in
        let k = units_goes xs c h in
        let r = unit_goes x.place x.kind b k.stays.back in
        goes_as E Y (goes_then E Y r k) (λ P s f. record {
          defines = defines_append (length (entries_of b)) (length (entries_of c)) (length (entries_of d)) (in_unit E (meant E Y) x.kind) (in_units E (meant E Y) xs) r.stays.longer k.stays.longer f.0.defines f.1.defines;
          theorems = λ i ks g.
              let ts : List Theorem = unit_theorem E (meant E Y) i ks x.place x.kind in
              rights_append table ts (units_theorems E (meant E Y) (i + length ts) (ks ++ unit_adds E (meant E Y) x.kind) xs) (f.0.theorems i ks g)
              (f.1.theorems (i + length ts) (ks ++ unit_adds E (meant E Y) x.kind)
              (known_append table (8 * length (entries_of c)) ks (unit_adds E (meant E Y) x.kind) (known_more table (8 * length (entries_of b)) (8 * length (entries_of c)) ks (wide8 (length (entries_of b)) (length (entries_of c)) r.stays.longer) g) f.0.adds));
          adds = known_append table (8 * length (entries_of d)) (unit_adds E (meant E Y) x.kind) (units_adds E (meant E Y) xs)
              (known_more table (8 * length (entries_of c)) (8 * length (entries_of d)) (unit_adds E (meant E Y) x.kind) (wide8 (length (entries_of c)) (length (entries_of d)) k.stays.longer) f.0.adds) f.1.adds;
          keyed = (length (entries_of c), r.stays.longer, f.0.keyed, f.1.keyed);
        })
