-- How often a place is that of a name of statements, facts, steps, proofs and units.
use Rattle.std.proofs.Common.{◌≡◌, ◌+◌, ℕ, Bool, List, [], ◌∷◌, ◌++◌, map, Some, None, refl, sym, ap, ◌∙◌, arith}
use Rattle.tla_ast.specs.declared.place.Place.{Place}
use Rattle.tla_ast.specs.declared.tree.Decl.{Decl}
use Rattle.tla_ast.specs.declared.tree.Node.{Node}
use Rattle.tla_ast.specs.declared.tree.Group.{Group}
use Rattle.tla_ast.specs.declared.unit.Item.{Item}
use Rattle.tla_ast.specs.declared.unit.Item.TheVariants as item
use Rattle.tla_ast.specs.declared.unit.Statement.{Statement}
use Rattle.tla_ast.specs.declared.unit.Fact.{Fact}
use Rattle.tla_ast.specs.declared.unit.Fact.TheVariants as fact
use Rattle.tla_ast.specs.declared.unit.StepKind.{StepKind}
use Rattle.tla_ast.specs.declared.unit.StepKind.TheVariants as kind
use Rattle.tla_ast.specs.declared.unit.Step.{Step, out-Step, roll-Step, out-roll-Step, fold-Step}
use Rattle.tla_ast.specs.declared.unit.Proof.{Proof}
use Rattle.tla_ast.specs.declared.unit.Proof.TheVariants as proof
use Rattle.tla_ast.specs.declared.unit.Proof.TheOpen.{Proof-F}
use Rattle.tla_ast.specs.declared.unit.Proof.TheFolds.{fold-roll-Proof, fold_out-Step}
use Rattle.plain_syntax.specs.Plain as plain
use Rattle.plain_syntax.specs.Plain.{Text, Groups, Steps}
use Rattle.plain_syntax.specs.Plain.Groups.{end_groups, free, within}
use Rattle.plain_syntax.specs.Plain.Steps.{end_steps, step}
use Rattle.plain_syntax.specs.Syntax.{term_of, each_group, item_of, statement_of, fact_of, move_of, proof_step, step_step, proof_of, joined}
use Rattle.layout_parser.specs.Reading.{group}
use Rattle.layout_parser.specs.Spelling.{Bound, group_of}
use Rattle.name_places.specs.Places.{places, all_places, set_places, definition_places}
use Rattle.name_places.specs.Places.{item_places, items_places, statement_places, fact_places, facts_places, named_places, group_places, chosen_places, move_places, proof_places, steps_places}
use Rattle.reading_places.proofs.Counting.{hit, count, count-append, total}
use Rattle.reading_places.proofs.Nodes.{in_node, in_decls, in_set, in_sets, in_bound, sets, of-group}

module _ (p : Place) where
  -- ---- statements and facts

  abbrev pub in_item : Item → ℕ
  in_item (item.New s d set) = hit p d.place + in_set p set
  in_item (item.Given n) = in_node p n

  of-item : (x : Item) → count p (item_places (item_of x)) ≡ in_item x
  of-item (item.New s d None) = omega arith
  of-item (item.New s d (Some n)) = omega (arith, count-append p (places (term_of n)) (d.place ∷ []))
  of-item (item.Given n) = refl

  of-items : (xs : List Item) (qs : List Place) → count p (items_places (map item_of xs) qs) ≡ total in_item xs + count p qs
  of-items [] qs = omega arith
  of-items (x ∷ xs) qs = omega (arith, count-append p (item_places (item_of x)) (items_places (map item_of xs) qs), of-item x, of-items xs qs)

  abbrev pub in_statement : Statement → ℕ
  in_statement s = total in_item s.items + in_node p s.goal

  pub of-statement : (s : Statement) → count p (statement_places (statement_of s)) ≡ in_statement s
  of-statement s = of-items s.items (places (term_of s.goal))

  abbrev pub in_fact : Fact → ℕ
  in_fact (fact.StepName level label place) = 0
  in_fact (fact.Plain place n) = in_node p n

  of-fact : (f : Fact) → count p (fact_places (fact_of f)) ≡ in_fact f
  of-fact (fact.StepName level label place) = refl
  of-fact (fact.Plain place n) = refl

  of-facts : (fs : List Fact) (qs : List Place) → count p (facts_places (map fact_of fs) qs) ≡ total in_fact fs + count p qs
  of-facts [] qs = omega arith
  of-facts (f ∷ fs) qs = omega (arith, count-append p (fact_places (fact_of f)) (facts_places (map fact_of fs) qs), of-fact f, of-facts fs qs)

  pub of-named : (ds : List Decl) (qs : List Place) → count p (named_places ds qs) ≡ in_decls p ds + count p qs
  of-named [] qs = omega arith
  of-named (d ∷ ds) qs = omega (arith, of-named ds qs)

  abbrev pub in_cited : List Fact → List Decl → ℕ
  in_cited fs ds = total in_fact fs + in_decls p ds

  of-cited : (fs : List Fact) (ds : List Decl) → count p (facts_places (map fact_of fs) (named_places ds [])) ≡ in_cited fs ds
  of-cited fs ds = omega (arith, of-facts fs (named_places ds []), of-named ds [])

  -- ---- bound names

  abbrev pub in_groups : List Group → ℕ
  in_groups gs = count p (chosen_places (each_group gs) [])

  more-names : (gs : Groups) (qs : List Place) → count p (group_places gs qs) ≡ count p (group_places gs []) + count p qs
  more-names end_groups qs = omega arith
  more-names (free ds gs) qs = omega (arith, of-named ds (group_places gs qs), of-named ds (group_places gs []), more-names gs qs)
  more-names (within ds t gs) qs = omega (arith, of-named ds (group_places gs qs), of-named ds (group_places gs []), more-names gs qs)

  more-chosen : (gs : Groups) (qs : List Place) → count p (chosen_places gs qs) ≡ count p (chosen_places gs []) + count p qs
  more-chosen gs qs = omega (arith, count-append p (set_places gs) (group_places gs qs), count-append p (set_places gs) (group_places gs []), more-names gs qs)

  bound-names : (bs : List Bound) → in_sets p bs + count p (group_places (each_group (map group_of bs)) []) ≡ total (in_bound p) bs
  bound-names [] = refl
  bound-names (b ∷ bs) =
      let more = group_places (each_group (map group_of bs)) [] in
      let e : count p (group_places (each_group (map group_of (b ∷ bs))) []) ≡ count p (named_places (b.0 ∷ b.1) more) =
      ap (λ (f : Groups → Groups). count p (group_places (f (each_group (map group_of bs))) [])) (of-group p (b.0 ∷ b.1) (Some b.2)) in
      omega (arith, e, of-named (b.0 ∷ b.1) more, bound-names bs)

  pub of-bounds : (bs : List Bound) → in_groups (map group_of bs) ≡ total (in_bound p) bs
  of-bounds bs = omega (arith, count-append p (set_places (each_group (map group_of bs))) (group_places (each_group (map group_of bs)) []), sets p bs, bound-names bs)

  pub of-free : (ds : List Decl) → in_groups (group ds None ∷ []) ≡ in_decls p ds
  of-free ds = ap (λ (f : Groups → Groups). count p (chosen_places (f end_groups) [])) (of-group p ds None) ∙ (omega (arith, of-named ds []))

  -- ---- steps and proofs

  abbrev pub in_kind : StepKind → ℕ
  in_kind k = count p (move_places (move_of k) [])

  alone : (qs : List Place) → count p (qs ++ []) ≡ count p qs
  alone qs = omega (arith, count-append p qs [])

  pub of-take : (gs : List Group) → in_kind (kind.Take gs) ≡ in_groups gs
  of-take gs = alone (chosen_places (each_group gs) [])

  pub of-pick : (gs : List Group) (n : Node) → in_kind (kind.Pick gs n) ≡ in_groups gs + in_node p n
  of-pick gs n = alone (chosen_places (each_group gs) (places (term_of n))) ∙ more-chosen (each_group gs) (places (term_of n))

  pub of-add : (fs : List Fact) (ds : List Decl) → in_kind (kind.Add fs ds) ≡ in_cited fs ds
  of-add fs ds = alone (facts_places (map fact_of fs) (named_places ds [])) ∙ of-cited fs ds

  pub of-hide : (fs : List Fact) (ds : List Decl) → in_kind (kind.Hide fs ds) ≡ in_cited fs ds
  of-hide fs ds = alone (facts_places (map fact_of fs) (named_places ds [])) ∙ of-cited fs ds

  before-proof : (qs rs : List Place) → count p (qs ++ rs) ≡ count p (qs ++ []) + count p rs
  before-proof qs rs = omega (arith, count-append p qs rs, count-append p qs [])

  more-moves : (m : plain.Move) (qs : List Place) → count p (move_places m qs) ≡ count p (move_places m []) + count p qs
  more-moves (plain.Move.assert s) qs = before-proof (statement_places s) qs
  more-moves (plain.Move.case t) qs = before-proof (places t) qs
  more-moves (plain.Move.suffices s) qs = before-proof (statement_places s) qs
  more-moves (plain.Move.have t) qs = before-proof (places t) qs
  more-moves (plain.Move.take gs) qs = before-proof (chosen_places gs []) qs
  more-moves (plain.Move.witness ts) qs = before-proof (all_places ts) qs
  more-moves (plain.Move.pick gs t) qs = before-proof (chosen_places gs (places t)) qs
  more-moves (plain.Move.define ds) qs = before-proof (definition_places ds) qs
  more-moves (plain.Move.add fs ds) qs = before-proof (facts_places fs (named_places ds [])) qs
  more-moves (plain.Move.hide fs ds) qs = before-proof (facts_places fs (named_places ds [])) qs
  more-moves plain.Move.qed qs = omega arith

  abbrev pub in_proof : Proof → ℕ
  in_proof x = count p (proof_places (proof_of x))

  abbrev pub in_step : Step → ℕ
  in_step s = in_kind (out-Step s).kind + in_proof (out-Step s).proof

  pub of-step : (place : Place) (level : ℕ) (label : Text) (k : StepKind) (x : Proof)
      → in_step (roll-Step (record { place = place; level = level; label = label; kind = k; proof = x })) ≡ in_kind k + in_proof x
  of-step place level label k x =
      let o = out-roll-Step (record { place = place; level = level; label = label; kind = k; proof = x }) in
      λ i. in_kind (o i).kind + in_proof (o i).proof

  unfoldable each_step : Step → Steps → Steps
  each_step = fold-Step plain.Proof (Steps → Steps) proof_step step_step

  is-step : (s : Step) → each_step s ≡ step (out-Step s).place (out-Step s).level (out-Step s).label (move_of (out-Step s).kind) (proof_of (out-Step s).proof)
  unfolding proof_of each_step
  is-step s = fold_out-Step _ _ proof_step step_step s

  in_all_steps : (ss : List Step) → count p (steps_places (joined end_steps (map each_step ss))) ≡ total in_step ss
  in_all_steps [] = refl
  in_all_steps (s ∷ ss) =
      let more = steps_places (joined end_steps (map each_step ss)) in
      let x = proof_places (proof_of (out-Step s).proof) in
      let e : count p (steps_places (joined end_steps (map each_step (s ∷ ss)))) ≡ count p (move_places (move_of (out-Step s).kind) x ++ more) =
      ap (λ (f : Steps → Steps). count p (steps_places (f (joined end_steps (map each_step ss))))) (is-step s) in
      omega (arith, e, count-append p (move_places (move_of (out-Step s).kind) x) more, more-moves (move_of (out-Step s).kind) x, in_all_steps ss)

  by-form : (x : Proof) (y : plain.Proof) → proof_of x ≡ y → in_proof x ≡ count p (proof_places y)
  by-form x y e = ap (λ z. count p (proof_places z)) e

  pub of-missing : in_proof proof.Missing ≡ 0
  unfolding proof_of
  of-missing = by-form _ _ (ap proof_of (sym proof.rolls-Missing) ∙ fold-roll-Proof _ _ proof_step step_step Proof-F.Missing)

  pub of-obvious : (q : Place) → in_proof (proof.Obvious q) ≡ 0
  unfolding proof_of
  of-obvious q = by-form _ _ (ap proof_of (sym (proof.rolls-Obvious q)) ∙ fold-roll-Proof _ _ proof_step step_step (Proof-F.Obvious q))

  pub of-omitted : (q : Place) → in_proof (proof.Omitted q) ≡ 0
  unfolding proof_of
  of-omitted q = by-form _ _ (ap proof_of (sym (proof.rolls-Omitted q)) ∙ fold-roll-Proof _ _ proof_step step_step (Proof-F.Omitted q))

  pub of-by : (q : Place) (only : Bool) (fs : List Fact) (ds : List Decl) → in_proof (proof.By q only fs ds) ≡ in_cited fs ds
  unfolding proof_of
  of-by q only fs ds = by-form _ _ (ap proof_of (sym (proof.rolls-By q only fs ds)) ∙ fold-roll-Proof _ _ proof_step step_step (Proof-F.By q only fs ds)) ∙ of-cited fs ds

  pub of-steps : (ss : List Step) → in_proof (proof.Steps ss) ≡ total in_step ss
  unfolding proof_of each_step
  of-steps ss = by-form _ _ (ap proof_of (sym (proof.rolls-Steps ss)) ∙ fold-roll-Proof _ _ proof_step step_step (Proof-F.Steps ss)) ∙ in_all_steps ss
