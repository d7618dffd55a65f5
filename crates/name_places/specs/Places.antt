-- The places at which the names of a text stand, in the order in which they are looked up.
use Rattle.std.specs.Prelude.{◌≡◌, Bool, false, ◌&&◌, ◌⊎◌, nat_eq, List, [], ◌∷◌, ◌++◌, map, Option, Some, None}
use Rattle.std.specs.Cmp.Lexicographic.{pointwise}
use Rattle.tla_ast.specs.declared.place.Place.{Place}
use Rattle.tla_ast.specs.declared.tree.Decl.{Decl}
use Rattle.plain_syntax.specs.Plain.{Term, Terms, Updates, Keys, Groups, Defs, Item, Statement, Fact, Move as move, Proof, Steps, Unit as written, UnitKind as u, Module, Text}
use Rattle.plain_syntax.specs.Plain.Term.{term}
use Rattle.plain_syntax.specs.Plain.Terms.{none, part}
use Rattle.plain_syntax.specs.Plain.Shape.{name, call, prefixed, infixed, filter, image, function, except, fields, field_sets, quantifier, choice, local}
use Rattle.plain_syntax.specs.Plain.Updates.{end_updates, update}
use Rattle.plain_syntax.specs.Plain.Keys.{end_keys, key, field_key}
use Rattle.plain_syntax.specs.Plain.Groups.{end_groups, free, within}
use Rattle.plain_syntax.specs.Plain.Defs.{end_defs, def}
use Rattle.plain_syntax.specs.Plain.Item.{new, given}
use Rattle.plain_syntax.specs.Plain.Fact.{step_name, whole}
use Rattle.plain_syntax.specs.Plain.Proof.{missing, obvious, omitted, by_facts, steps}
use Rattle.plain_syntax.specs.Plain.Steps.{end_steps, step}

-- ---- places that differ

abbrev pub same_place : Place → Place → Bool
same_place p q = nat_eq p.line q.line && nat_eq p.column q.column

abbrev pub Has : {A : Type 0} → List A → A → Type 0
Has [] y = ⊥
Has (x ∷ xs) y = (x ≡ y) ⊎ Has xs y

-- a place is none of these
abbrev pub Apart : Place → List Place → Type 0
Apart q ps = (p : Place) → Has ps p → same_place p q ≡ false

abbrev pub AllApart : List Place → Type 0
AllApart [] = Unit {0}
AllApart (p ∷ ps) = Apart p ps × AllApart ps

-- ---- expressions

abbrev pub decl_places : List Decl → List Place
decl_places = map (λ (d : Decl). d.place)

abbrev pub bound_places : Groups → List Place
bound_places end_groups = []
bound_places (free ds gs) = decl_places ds ++ bound_places gs
bound_places (within ds t gs) = decl_places ds ++ bound_places gs

-- the names of an expression, used and declared
abbrev mutual
  pub places : Term → List Place
  places (term (name w) ts p) = all_places ts ++ p ∷ []
  places (term (call w) ts p) = all_places ts ++ p ∷ []
  places (term (prefixed o) ts p) = all_places ts ++ p ∷ []
  places (term (infixed o) ts p) = all_places ts ++ p ∷ []
  places (term (filter x) ts p) = over_places p ts
  places (term (image x) ts p) = over_places p ts
  places (term (function x) ts p) = over_places p ts
  places (term (except us) ts p) = all_places ts ++ update_places us
  places (term (fields hs) ts p) = value_places ts
  places (term (field_sets hs) ts p) = value_places ts
  places (term (quantifier all gs) ts p) = set_places gs ++ (bound_places gs ++ all_places ts)
  places (term (choice gs) ts p) = set_places gs ++ (bound_places gs ++ all_places ts)
  places (term (local ds) ts p) = definition_places ds ++ all_places ts
  places (term s ts p) = all_places ts

  pub all_places : Terms → List Place
  all_places none = []
  all_places (part t ts) = places t ++ all_places ts

  pub over_places : Place → Terms → List Place
  over_places p none = []
  over_places p (part s ts) = places s ++ p ∷ all_places ts

  pub value_places : Terms → List Place
  value_places none = []
  value_places (part h none) = []
  value_places (part h (part t ts)) = places t ++ value_places ts

  pub set_places : Groups → List Place
  set_places end_groups = []
  set_places (free ds gs) = set_places gs
  set_places (within ds t gs) = places t ++ set_places gs

  pub update_places : Updates → List Place
  update_places end_updates = []
  update_places (update ks t us) = key_places ks ++ (places t ++ update_places us)

  pub key_places : Keys → List Place
  key_places end_keys = []
  key_places (key t ks) = places t ++ key_places ks
  key_places (field_key h ks) = key_places ks

  pub definition_places : Defs → List Place
  definition_places end_defs = []
  definition_places (def w ps t p ds) = (decl_places ps ++ places t) ++ p ∷ definition_places ds

-- ---- units

abbrev pub domain_places : Option Term → List Place
domain_places None = []
domain_places (Some t) = places t

abbrev pub item_places : Item → List Place
item_places (new s d t) = domain_places t ++ d.place ∷ []
item_places (given t) = places t

-- the names of items, and those of what is behind them
abbrev pub items_places : List Item → List Place → List Place
items_places [] qs = qs
items_places (x ∷ xs) qs = item_places x ++ items_places xs qs

abbrev pub statement_places : Statement → List Place
statement_places s = items_places s.items (places s.goal)

-- a fact that is a name alone stands at its place; any other has the names of an expression
abbrev pub fact_places : Fact → List Place
fact_places (step_name l w p) = []
fact_places (whole p t) = places t

abbrev pub facts_places : List Fact → List Place → List Place
facts_places [] qs = qs
facts_places (x ∷ xs) qs = fact_places x ++ facts_places xs qs

-- declared names, and those of what is behind them
abbrev pub named_places : List Decl → List Place → List Place
named_places [] qs = qs
named_places (d ∷ ds) qs = d.place ∷ named_places ds qs

abbrev pub group_places : Groups → List Place → List Place
group_places end_groups qs = qs
group_places (free ds gs) qs = named_places ds (group_places gs qs)
group_places (within ds t gs) qs = named_places ds (group_places gs qs)

-- names that are chosen from sets, and those of what is behind them
abbrev pub chosen_places : Groups → List Place → List Place
chosen_places gs qs = set_places gs ++ group_places gs qs

-- the names of a step, with those of its proof
abbrev pub move_places : move → List Place → List Place
move_places (move.assert s) qs = statement_places s ++ qs
move_places (move.case t) qs = places t ++ qs
move_places (move.suffices s) qs = statement_places s ++ qs
move_places (move.have t) qs = places t ++ qs
move_places (move.take gs) qs = chosen_places gs [] ++ qs
move_places (move.witness ts) qs = all_places ts ++ qs
move_places (move.pick gs t) qs = chosen_places gs (places t) ++ qs
move_places (move.define ds) qs = definition_places ds ++ qs
move_places (move.add fs ds) qs = facts_places fs (named_places ds []) ++ qs
move_places (move.hide fs ds) qs = facts_places fs (named_places ds []) ++ qs
move_places move.qed qs = qs

abbrev mutual
  pub proof_places : Proof → List Place
  proof_places missing = []
  proof_places (obvious p) = []
  proof_places (omitted p) = []
  proof_places (by_facts p only fs ds) = facts_places fs (named_places ds [])
  proof_places (steps ss) = steps_places ss

  pub steps_places : Steps → List Place
  steps_places end_steps = []
  steps_places (step p l w m proof ss) = move_places m (proof_places proof) ++ steps_places ss

-- the name of an assumption or a theorem
abbrev pub name_places : Option Decl → List Place
name_places None = []
name_places (Some d) = d.place ∷ []

abbrev pub unit_places : u → List Place
unit_places (u.constants ds) = named_places ds []
unit_places (u.variables ds) = named_places ds []
unit_places (u.assume w t) = places t ++ name_places w
unit_places (u.definition ds) = definition_places ds
unit_places (u.theorem w s proof) = (statement_places s ++ proof_places proof) ++ name_places w

abbrev pub units_places : List written → List Place
units_places [] = []
units_places (x ∷ xs) = unit_places x.kind ++ units_places xs

abbrev pub module_places : Module → List Place
module_places m = units_places m.units

-- ---- modules

-- the module has none of these names
abbrev pub NotNamed : Text → List Module → Type 0
NotNamed w [] = Unit {0}
NotNamed w (m ∷ ms) = (pointwise nat_eq w m.name ≡ false) × NotNamed w ms

-- modules have different names
abbrev pub NamesDiffer : List Module → Type 0
NamesDiffer [] = Unit {0}
NamesDiffer (m ∷ ms) = NotNamed m.name ms × NamesDiffer ms

-- no two names of a module stand at one place
abbrev pub PlacesDiffer : List Module → Type 0
PlacesDiffer [] = Unit {0}
PlacesDiffer (m ∷ ms) = AllApart (module_places m) × PlacesDiffer ms
