-- Contexts whose known facts and goal are closed: by items, facts and steps.
use Rattle.std.specs.Prelude.{◌≡◌, ℕ, suc, Bool, true, false, cond, Option, Some, None, List, [], ◌∷◌, ◌++◌, map}
use Rattle.std.proofs.Common.{refl, arith, subst}
use Rattle.core_expr.specs.declared.head.Sym.{Sym}
use Rattle.core_expr.specs.Tree.{Tree, imp_, in_}
use Rattle.core_expr.specs.Tree.Tree.{bound, app, node, bind}
use Rattle.core_expr.specs.Tree.Parts.{end, part}
use Rattle.core_expr.specs.Put.{put, inst}
use Rattle.core_expr.specs.Terms.{same_sym}
use Rattle.core_expr.proofs.Laws.{IsScoped-put}
use Rattle.seq_calculus.specs.Calculus.{IsClosed, AllClosed}
use Rattle.obligation.specs.declared.obligation.Definition.{Definition}
use Rattle.proof_contexts.specs.Expansion.{has_number, chosen, unfold_top, unfold_head, name}
use Rattle.proof_contexts.specs.Steps.{Item, Fact, Step}
use Rattle.proof_contexts.specs.Steps.Item.{New, NewIn, Given}
use Rattle.proof_contexts.specs.Steps.Fact.{Cited, Plain}
use Rattle.proof_contexts.specs.Steps.Step.{Assert, Case, Suffices, Have, Take, TakeIn, Witness, WitnessIn, Pick, Define, Use, Hide}
use Rattle.proof_contexts.specs.Contexts.{Entry, Context, Pair, names_of, told, usable, add, with_goal, with_items, fact_of, picked, usable_of, named, cited_of, used, aliases, use_facts, hidden, as_all, as_ex, as_imp, given, all_in, ex_in, top, after}
use Rattle.proof_contexts.specs.Right.{RightItems, RightFacts, RightStep}
use Rattle.proof_contexts.proofs.StepLaws.{as_imp-is, RightItems-good, goal_good}

-- ---- known facts

abbrev pub KnownClosed : List Entry → Type 0
KnownClosed [] = Unit {0}
KnownClosed (e ∷ k) = IsClosed e.formula × KnownClosed k

known_both : (k ks : List Entry) → KnownClosed k → KnownClosed ks → KnownClosed (k ++ ks)
known_both [] ks h q = q
known_both (e ∷ k) ks h q = (h.0, known_both k ks h.1 q)

pub known_add : (k : List Entry) (e : Entry) → KnownClosed k → IsClosed e.formula → KnownClosed (k ++ e ∷ [])
known_add k e h q = known_both k (e ∷ []) h (q, tt)

pub closed_both : (xs ys : List Tree) → AllClosed xs → AllClosed ys → AllClosed (xs ++ ys)
closed_both [] ys h q = q
closed_both (x ∷ xs) ys h q = (h.0, closed_both xs ys h.1 q)

closed_choice : (b : Bool) (e : Tree) (rest : List Tree) → IsClosed e → AllClosed rest → AllClosed (cond b (e ∷ rest) rest)
closed_choice true e rest h q = (h, q)
closed_choice false e rest h q = q

pub usable_closed : (k : List Entry) → KnownClosed k → AllClosed (usable_of k)
usable_closed [] h = tt
usable_closed (e ∷ k) h = closed_choice e.usable e.formula (usable_of k) h.0 (usable_closed k h.1)

named_closed : (x : ℕ) (k : List Entry) → KnownClosed k → AllClosed (named x k)
named_closed x [] h = tt
named_closed x (e ∷ k) h = closed_choice (has_number e.keys x) e.formula (named x k) h.0 (named_closed x k h.1)

used_closed : (l : Option ℕ) (x : ℕ) (k : List Entry) → KnownClosed k → KnownClosed (map (used l x) k)
used_closed l x [] h = tt
used_closed l x (e ∷ k) h = (choice (has_number e.marks x), used_closed l x k h.1)
  where
    choice : (b : Bool) → IsClosed (cond b (record { formula = e.formula; keys = e.keys; marks = e.marks ++ names_of l; usable = true }) e).formula
    choice true = h.0
    choice false = h.0

aliases_closed : (l : Option ℕ) (fs : List Tree) → AllClosed fs → KnownClosed (aliases l fs)
aliases_closed None fs h = tt
aliases_closed (Some k) [] h = tt
aliases_closed (Some k) (f ∷ fs) h = (h.0, aliases_closed (Some k) fs h.1)

hidden_closed : (xs : List ℕ) (k : List Entry) → KnownClosed k → KnownClosed (map (hidden xs) k)
hidden_closed xs [] h = tt
hidden_closed xs (e ∷ k) h = (h.0, hidden_closed xs k h.1)

-- ---- contexts

abbrev pub ContextClosed : Context → Type 0
ContextClosed c = KnownClosed c.known × IsClosed c.goal

-- a context, where there is one
abbrev pub WhereClosed : Option Context → Type 0
WhereClosed None = Unit {0}
WhereClosed (Some c) = ContextClosed c

where_given : {A : Type 0} (o : Option A) (f : A → Option Context) → ((x : A) → o ≡ Some x → WhereClosed (f x)) → WhereClosed (given o None f)
where_given None f h = tt
where_given (Some x) f h = h x refl

-- the goal with its head unfolded
head_closed : (ds : List Definition) (e : Tree) → IsClosed e → IsClosed (unfold_head ds e)
head_closed [] e h = h
head_closed (d ∷ ds) e h = go (unfold_head ds e) (head_closed ds e h)
  where
    go : (e : Tree) → IsClosed e → IsClosed (unfold_top d e)
    go (bound i) h = h
    go (app f ps) h = choice (same_sym d.symbol f)
      where
        choice : (b : Bool) → IsClosed (cond b (put 0 ps d.body) (app f ps))
        choice true = IsScoped-put 0 0 0 ps d.body (omega arith) h
        choice false = h
    go (node k ns ps) h = h
    go (bind b ps e) h = h

-- a closed expression put into any body
inst_closed : (p t : Tree) → IsClosed t → IsClosed (inst p t)
inst_closed p t h = IsScoped-put 0 0 0 (part t end) p (omega arith) (h, tt)

module _ (table : List Definition) where
  top_closed : (c : Context) → ContextClosed c → IsClosed (top table c)
  top_closed c h = head_closed (chosen c.defs table) c.goal h.1

  -- the parts of a goal that is an implication
  pub imp_closed : (c : Context) (q : Pair) → ContextClosed c → as_imp (top table c) ≡ Some q → IsClosed q.first × IsClosed q.second
  imp_closed c q h e =
      let w : IsClosed (imp_ q.first q.second) = subst IsClosed (as_imp-is (top table c) q e) (top_closed c h) in
      (w.0, w.1.0)

module _ (rank : Sym → ℕ) (table : List Definition) (may : ℕ → Bool) where
  pub cited_closed : (n : ℕ) (k : List Entry) (fs : List Fact) → RightFacts rank table may n fs → KnownClosed k → AllClosed (cited_of k fs)
  cited_closed n k [] r h = tt
  cited_closed n k (Cited x ∷ fs) r h = closed_both (named x k) (cited_of k fs) (named_closed x k h) (cited_closed n k fs r.1 h)
  cited_closed n k (Plain p e ∷ fs) r h = (r.0.closed, cited_closed n k fs r.1 h)

  use_closed : (n : ℕ) (l : Option ℕ) (fs : List Fact) (k : List Entry) → RightFacts rank table may n fs → KnownClosed k → KnownClosed (use_facts l fs k)
  use_closed n l [] k r h = h
  use_closed n l (Cited x ∷ fs) k r h =
      use_closed n l fs (map (used l x) k ++ aliases l (named x k)) r.1
      (known_both (map (used l x) k) (aliases l (named x k)) (used_closed l x k h) (aliases_closed l (named x k) (named_closed x k h)))
  use_closed n l (Plain p e ∷ fs) k r h = use_closed n l fs (k ++ usable l e ∷ []) r.1 (known_add k (usable l e) h r.0.closed)

  -- the domains and assumptions of items
  pub items_closed : (make : List Item → Tree → Tree) (n : ℕ) (l : Option ℕ) (is : List Item) (g : Tree) (c : Context) → RightItems rank table make n is g → ContextClosed c → ContextClosed (with_items l is c)
  items_closed make n l [] g c r h = h
  items_closed make n l (New x ∷ is) g c r h = items_closed make (suc (rank x)) l is g c r.2 h
  items_closed make n l (NewIn x s ∷ is) g c r h =
      let e : Entry = usable l (in_ (name x) s) in
      items_closed make (suc (rank x)) l is g (add c e) r.3 (known_add c.known e h.0 (tt, (r.2.closed, tt)), h.1)
  items_closed make n l (Given a ∷ is) g c r h = items_closed make n l is g (add c (told l a)) r.2 (known_add c.known (told l a) h.0 r.0.closed, h.1)

  -- a statement's fact, and its goal in the context of its items
  pub fact_closed : (n : ℕ) (is : List Item) (g : Tree) → RightItems rank table fact_of n is g → IsClosed (fact_of is g)
  fact_closed n is g r = (RightItems-good rank table may fact_of n is g r).closed

  pub statement_closed : (n : ℕ) (l : Option ℕ) (is : List Item) (g : Tree) (c : Context) → RightItems rank table fact_of n is g → ContextClosed c → ContextClosed (with_goal (with_items l is c) g)
  statement_closed n l is g c r h = ((items_closed fact_of n l is g c r h).0, (goal_good rank table may fact_of n is g (λ _. refl) r).closed)

  -- the context of the later steps
  pub after_closed : (s : Step) (n : ℕ) (c : Context) → RightStep rank table may s n → ContextClosed c → WhereClosed (after table s c)
  after_closed (Assert l s p) n c r h = (known_add c.known (told l (fact_of s.items s.goal)) h.0 (fact_closed n s.items s.goal r.0), h.1)
  after_closed (Case l f p) n c r h = (known_add c.known (told l (imp_ f c.goal)) h.0 (r.0.closed, (h.1, tt)), h.1)
  after_closed (Suffices l s p) n c r h = statement_closed n l s.items s.goal c r.0 h
  after_closed (Have l f) n c r h =
      where_given (as_imp (top table c)) (λ q. Some (with_goal (add c (told l f)) q.second))
      (λ q e. (known_add c.known (told l f) h.0 r.closed, (imp_closed table c q h e).1))
  after_closed (Take x) n c r h =
      where_given (as_all (top table c)) (λ p. Some (with_goal c (inst p (name x)))) (λ p _. (h.0, inst_closed p (name x) tt))
  after_closed (TakeIn l x s) n c r h =
      let e : Entry = usable l (in_ (name x) s) in
      where_given (all_in table c s (top table c)) (λ p. Some (with_goal (add c e) (inst p (name x))))
      (λ p _. (known_add c.known e h.0 (tt, (r.1.closed, tt)), inst_closed p (name x) tt))
  after_closed (Witness t) n c r h =
      where_given (as_ex (top table c)) (λ p. Some (with_goal c (inst p t))) (λ p _. (h.0, inst_closed p t r.closed))
  after_closed (WitnessIn l t s) n c r h =
      let e : Entry = told l (in_ t s) in
      where_given (ex_in table c s (top table c)) (λ p. Some (with_goal (add c e) (inst p t)))
      (λ p _. (known_add c.known e h.0 (r.0.closed, (r.1.closed, tt)), inst_closed p t r.0.closed))
  after_closed (Pick l is f p) n c r h =
      let w = items_closed picked n l is f c r.0 h in
      (known_add (with_items l is c).known (told l f) w.0 (goal_good rank table may picked n is f (λ _. refl) r.0).closed, w.1)
  after_closed (Define u) n c r h = h
  after_closed (Use l fs u) n c r h = (use_closed n l fs c.known r h.0, h.1)
  after_closed (Hide xs u) n c r h = (hidden_closed xs c.known h.0, h.1)
