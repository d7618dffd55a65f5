-- Written proofs as proofs over cores: each expression by its core, each name by the number that it means.
use Rattle.std.specs.Prelude.{ℕ, suc, ◌+◌, Bool, true, false, if◌then◌else◌, List, [], ◌∷◌, ◌++◌, map, Option, Some, None, codes}
use Rattle.tla_ast.specs.declared.place.Place.{Place}
use Rattle.tla_ast.specs.declared.tree.Decl.{Decl}
use Rattle.tla_ast.specs.declared.unit.Sort.{Sort}
use Rattle.tla_ast.specs.declared.unit.Sort.TheVariants as sort
use Rattle.core_expr.specs.declared.head.Sym.{Sym}
use Rattle.core_expr.specs.declared.head.SymKind.{SymKind}
use Rattle.core_expr.specs.declared.head.SymKind.TheVariants as kinds
use Rattle.core_expr.specs.Tree.{Tree}
use Rattle.symbol_table.specs.declared.entry.Entry.{Entry}
use Rattle.symbol_table.specs.declared.entry.EntrySort.{EntrySort}
use Rattle.symbol_table.specs.declared.entry.EntrySort.TheVariants as sorts
use Rattle.symbol_table.specs.Scoped.{entry_of}
use Rattle.plain_syntax.specs.Plain.{Term, Terms, Groups, Defs, Item, Statement, Fact, Move as move, Proof, Steps}
use Rattle.plain_syntax.specs.Plain.Term.{term}
use Rattle.plain_syntax.specs.Plain.Terms.{none, part}
use Rattle.plain_syntax.specs.Plain.Shape.{name, infixed}
use Rattle.plain_syntax.specs.Plain.Groups.{end_groups, free, within}
use Rattle.plain_syntax.specs.Plain.Defs.{end_defs, def}
use Rattle.plain_syntax.specs.Plain.Item.{new, given}
use Rattle.plain_syntax.specs.Plain.Fact.{step_name, whole}
use Rattle.plain_syntax.specs.Plain.Proof.{missing, obvious, omitted, by_facts, steps}
use Rattle.plain_syntax.specs.Plain.Steps.{end_steps, step}
use Rattle.prime_expand.specs.Core.{core_of}
use Rattle.prime_expand.specs.Symbols.{is_word}
use Rattle.proof_contexts.specs.Steps as c
use Rattle.proof_contexts.specs.Steps.{Item as item, Fact as fact, Proof as proof, Steps as chain, Step as act}
use Rattle.usable_facts.specs.Keys.{step_key, entry_key, label_key, listed}

-- how many steps a proof has, with those of its subproofs
abbrev mutual
  pub count : Proof → ℕ
  count missing = 0
  count (obvious p) = 0
  count (omitted p) = 0
  count (by_facts p only fs ds) = 0
  count (steps ss) = count_steps ss

  pub count_steps : Steps → ℕ
  count_steps end_steps = 0
  count_steps (step p l w m proof ss) = suc (count proof + count_steps ss)

-- ---- statements

-- a symbol without arguments
abbrev pub symbol : SymKind → Option ℕ → Sym
symbol k None = record { kind = k; number = 0; arity = 0 }
symbol k (Some n) = record { kind = k; number = n; arity = 0 }

-- NEW of a constant is one symbol; NEW VARIABLE and NEW STATE are two, that of the name and that of the name primed
abbrev pub sort_items : Sort → Option ℕ → Option Tree → List item
sort_items sort.Constant n None = item.New (symbol kinds.Constant n) ∷ []
sort_items sort.Constant n (Some s) = item.NewIn (symbol kinds.Constant n) s ∷ []
sort_items _ n s = item.New (symbol kinds.State n) ∷ item.New (symbol kinds.Primed n) ∷ []

-- the names of assumptions, theorems and pragmas are names of facts
abbrev pub is_fact : EntrySort → Bool
is_fact sorts.Assume = true
is_fact sorts.Theorem = true
is_fact sorts.Pragma = true
is_fact _ = false

-- several steps at one place, and then others
abbrev pub nexts : Place → List act → chain → chain
nexts p [] ss = ss
nexts p (s ∷ rest) ss = chain.Next p s (nexts p rest ss)

-- means: the number that a name at a place of the module means
module _ (means : Place → Option ℕ) (entries : List Entry) where
  abbrev pub core : Term → Tree
  core t = (core_of means entries t).plain

  abbrev pub domain : Option Term → Option Tree
  domain None = None
  domain (Some t) = Some (core t)

  abbrev pub items : List Item → List item
  items [] = []
  items (new s d t ∷ is) = sort_items s (means d.place) (domain t) ++ items is
  items (given t ∷ is) = item.Given (core t) ∷ items is

  abbrev pub statement : Statement → c.Statement
  statement s = record { items = items s.items; goal = core s.goal }

-- ---- facts

-- cite: the number of the step that a step name at a place means
module _ (means : Place → Option ℕ) (cite : Place → Option ℕ) (entries : List Entry) where
  abbrev pub if_fact : Option ℕ → Option ℕ
  if_fact None = None
  if_fact (Some n) = if is_fact (entry_of entries n).sort then Some n else None

  -- the number of a fact's name, where an expression is no more than one
  abbrev pub fact_name : Term → Option ℕ
  fact_name (term (name w) none p) = if_fact (means p)
  fact_name t = None

  abbrev pub by_step : Option ℕ → List fact
  by_step None = []
  by_step (Some n) = fact.Cited (step_key n) ∷ []

  abbrev pub by_term : Option ℕ → Place → Term → fact
  by_term None p t = fact.Plain p (core means entries t)
  by_term (Some n) p t = fact.Cited (entry_key n)

  abbrev pub facts : List Fact → List fact
  facts [] = []
  facts (step_name l w p ∷ fs) = by_step (cite p) ++ facts fs
  facts (whole p t ∷ fs) = by_term (fact_name t) p t ∷ facts fs

  -- what HIDE names
  abbrev pub step_keys : Option ℕ → List ℕ
  step_keys None = []
  step_keys (Some n) = step_key n ∷ []

  abbrev pub entry_keys : Option ℕ → List ℕ
  entry_keys None = []
  entry_keys (Some n) = entry_key n ∷ []

  abbrev pub hidden : List Fact → List ℕ
  hidden [] = []
  hidden (step_name l w p ∷ fs) = step_keys (cite p) ++ hidden fs
  hidden (whole p t ∷ fs) = entry_keys (fact_name t) ++ hidden fs

  -- the numbers of names after DEF
  abbrev pub definitions : List Decl → List ℕ
  definitions [] = []
  definitions (d ∷ ds) = listed (means d.place) (definitions ds)

  -- the numbers of definitions
  abbrev pub defined : Defs → List ℕ
  defined end_defs = []
  defined (def w ps t p ds) = listed (means p) (defined ds)

  -- ---- steps

  abbrev pub constant : Decl → Sym
  constant d = symbol kinds.Constant (means d.place)

  -- TAKE of several names is a step for each
  abbrev pub takes : Option ℕ → Groups → List act
  takes l end_groups = []
  takes l (free ds gs) = map (λ d. act.Take (constant d)) ds ++ takes l gs
  takes l (within ds t gs) = map (λ d. act.TakeIn l (constant d) (core means entries t)) ds ++ takes l gs

  -- what PICK chooses
  abbrev pub chosen : Groups → List item
  chosen end_groups = []
  chosen (free ds gs) = map (λ d. item.New (constant d)) ds ++ chosen gs
  chosen (within ds t gs) = map (λ d. item.NewIn (constant d) (core means entries t)) ds ++ chosen gs

  -- a witness is bounded where its uppermost operator is \in
  abbrev pub witness : Option ℕ → Term → act
  witness l (term (infixed o) (part a (part b none)) p) =
      if is_word o (codes "\\in") then act.WitnessIn l (core means entries a) (core means entries b) else act.Witness (core means entries (term (infixed o) (part a (part b none)) p))
  witness l t = act.Witness (core means entries t)

  -- WITNESS of several expressions is a step for each
  abbrev pub witnesses : Option ℕ → Terms → List act
  witnesses l none = []
  witnesses l (part t ts) = witness l t ∷ witnesses l ts

  -- a step with this label, by what it does and its proof
  abbrev pub acts : Option ℕ → move → proof → List act
  acts l (move.assert s) q = act.Assert l (statement means entries s) q ∷ []
  acts l (move.case t) q = act.Case l (core means entries t) q ∷ []
  acts l (move.suffices s) q = act.Suffices l (statement means entries s) q ∷ []
  acts l (move.have t) q = act.Have l (core means entries t) ∷ []
  acts l (move.take gs) q = takes l gs
  acts l (move.witness ts) q = witnesses l ts
  acts l (move.pick gs t) q = act.Pick l (chosen gs) (core means entries t) q ∷ []
  acts l (move.define ds) q = act.Define (defined ds) ∷ []
  acts l (move.add fs ds) q = act.Use l (facts fs) (definitions ds) ∷ []
  acts l (move.hide fs ds) q = act.Hide (hidden fs) (definitions ds) ∷ []
  acts l move.qed q = []

  -- A proof, where it stands at this place and its first step has this number. What stands behind QED does not count.
  abbrev mutual
    pub proof_of : Place → ℕ → Proof → proof
    proof_of p n missing = proof.Missing p
    proof_of p n (obvious q) = proof.Obvious q
    proof_of p n (omitted q) = proof.Omitted q
    proof_of p n (by_facts q only fs ds) = proof.By q only (facts fs) (definitions ds)
    proof_of p n (steps ss) = proof.Stepped (steps_of p n ss)

    pub steps_of : Place → ℕ → Steps → chain
    steps_of p n end_steps = chain.Qed (proof.Missing p)
    steps_of p n (step q l w move.qed own ss) = chain.Qed (proof_of q (suc n) own)
    steps_of p n (step q l w m own ss) = nexts q (acts (label_key n w) m (proof_of q (suc n) own)) (steps_of p (suc n + count own) ss)
