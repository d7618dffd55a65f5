-- Where the fault of each reader of modules stands, and what it leaves.
use Rattle.std.proofs.Common.{◌≡◌, ℕ, zero, suc, ◌-◌, Bool, true, false, if◌then◌else◌, nat_eq, ◌&&◌, ◌||◌, List, [], ◌∷◌, ◌++◌, length, Some, None, Result, Ok, Err, refl, subst}
use Rattle.tla_ast.specs.Listing.{Ends}
use Rattle.proof_parser.specs.Names.{Place, Fault, Kind, Expected, TooDeep, StepLevel, NoQed, Sort, Item, Step, out-Step, ModuleUnit, Module, is_last, Mark, Text}
use Rattle.tla_ast.specs.declared.fault.Fault.TheVariants as fault
use Rattle.tla_ast.specs.declared.tree.Form.TheVariants as form
use Rattle.tla_ast.specs.declared.unit.Sort.TheVariants as sort
use Rattle.tla_ast.specs.declared.unit.Item.TheVariants as item
use Rattle.tla_ast.specs.declared.unit.Proof.TheVariants as proof
use Rattle.tla_ast.specs.declared.unit.UnitKind.TheVariants as unit
use Rattle.token_reader.specs.declared.mark.Mark.TheVariants as m
use Rattle.token_reader.specs.declared.setting.Stop.TheVariants as stop
use Rattle.token_reader.specs.Marks.{is_final}
use Rattle.token_reader.specs.Input.{Tokens, Outcome, Reader, first, next, here, mark, sees, sees_second, refusal, eat, after}
use Rattle.token_reader.specs.Lists.{put_last}
use Rattle.token_reader.specs.Faults.{FaultIn, is_of_expressions}
use Rattle.token_reader.proofs.Steps.{not-final}
use Rattle.token_reader.proofs.Keeping.{Kept, IsKeeping, stays, here-stands, next-left, sees-left, sees-opens, after-left, behind, then-kept, then-keeps, pure-keeps, if-kept, if-keeps, left-kept, refused-kept, refuse-keeps, eat-keeps, ask-keeps, expect-keeps, name-keeps, declared-keeps, gathered-keeps, names-keeps}
use Rattle.layout_parser.specs.Reading as reading
use Rattle.layout_parser.specs.Reading.{nested}
use Rattle.layout_parser.proofs.Keeping as expressions
use Rattle.layout_parser.proofs.Keeping.{nested-kept}
use Rattle.proof_parser.specs.Modules as rule
use Rattle.proof_parser.specs.Modules.{outside, ProofReader}
use Rattle.proof_parser.specs.Laws.{is_of_modules, FaultsStandInTheList}

-- the kinds of faults of expressions are among those of modules
may : (k : Kind) → is_of_expressions k ≡ true → is_of_modules k ≡ true
may StepLevel e = refl
may NoQed e = refl
may _ e = e

abbrev Keeping : {A : Type 0} → Reader A → Type 0
Keeping p = IsKeeping is_of_modules p

abbrev Opens : Tokens → Type 0
Opens ts = is_last (first ts).tok ≡ false

of-expressions : {A : Type 0} {p : Reader A} → IsKeeping is_of_expressions p → Keeping p
of-expressions {A} h = record { at = λ ts e. widened (h.at ts e) }
  where
    widened : {ts : Tokens} {o : Outcome A} → Kept is_of_expressions ts o → Kept is_of_modules ts o
    widened {o = Ok p} k = record { is = k.is }
    widened {o = Err e} k = record { is = record { place = k.is.place; kind = k.is.kind; is = k.is.is; stands = k.is.stands; may = may k.is.kind k.is.may } }

-- what follows a token
on-next : {A : Type 0} {p : Reader A} (ts : Tokens) → Ends ts → Opens ts → Keeping p → Kept is_of_modules ts (p (next ts))
on-next ts h o reads = let l = next-left ts h o in behind l (reads.at (next ts) l.ends)

-- a fault at the next token
fault-keeps : {A : Type 0} (k : Kind) → is_of_modules k ≡ true → Keeping {A = A} (λ ts. Err (fault.At (here ts) k))
fault-keeps k is = record { at = λ ts h. record { is = record { place = here ts; kind = k; is = refl; stands = here-stands ts h; may = is } } }

-- one of two readers, by a test
tested : {A : Type 0} (test : Tokens → Bool) {p q : Reader A} → Keeping p → Keeping q → Keeping (λ ts. if test ts then p ts else q ts)
tested test one other = record { at = λ ts h. if-kept {b = test ts} (λ _. one.at ts h) (λ _. other.at ts h) }

-- one behind a token, where that is seen, or another
met : {A : Type 0} (k : Mark) → is_final k ≡ false → {p q : Reader A} → Keeping p → Keeping q → Keeping (λ ts. if sees outside k ts then p (next ts) else q ts)
met k kept one other = record { at = λ ts h. if-kept {b = sees outside k ts} (λ e. on-next ts h (sees-opens outside k ts kept e) one) (λ _. other.at ts h) }

-- one by the mark of the next token
by-mark : {A : Type 0} (r : Mark → Reader A) → ((k : Mark) (ts : Tokens) → Ends ts → (is_final k ≡ false → Opens ts) → Kept is_of_modules ts (r k ts)) → Keeping (λ ts. r (mark ts) ts)
by-mark r keeps = record { at = λ ts h. keeps (mark ts) ts h (λ kept. not-final ts _ kept refl) }

comma-keeps : Keeping (eat outside m.Comma)
comma-keeps = eat-keeps may outside m.Comma refl

-- ---- what holds no expression

arguments-keeps : Keeping rule.arguments
unfolding rule.arguments rule.blanks rule.blank
arguments-keeps = then-keeps (gathered-keeps may _ _ comma-keeps (expect-keeps may outside stop.Other m.Underscore refl)) (λ n. then-keeps (expect-keeps may outside stop.Other m.CloseParen refl) (λ _. pure-keeps))

constants-keeps : Keeping rule.constants
unfolding rule.constants rule.constant
constants-keeps = gathered-keeps may _ _ comma-keeps (then-keeps (declared-keeps may outside stop.Other) (λ d. then-keeps (eat-keeps may outside m.OpenParen refl)
    (λ b. if-keeps b (then-keeps arguments-keeps (λ n. pure-keeps {a = record d { arity = n }})) (pure-keeps {a = d}))))

plain-names-keeps : Keeping rule.plain_names
plain-names-keeps = names-keeps may outside stop.Other

unit-name-keeps : Keeping rule.unit_name
unfolding rule.unit_name
unit-name-keeps = tested (λ ts. sees outside m.Name ts && sees_second outside m.Defines ts)
    (then-keeps (declared-keeps may outside stop.Other) (λ d. then-keeps (expect-keeps may outside stop.Other m.Defines refl) (λ _. pure-keeps {a = Some d}))) pure-keeps

extends-keeps : Keeping rule.extends
unfolding rule.extends
extends-keeps = met m.Extends refl (then-keeps plain-names-keeps (λ ds. pure-keeps)) pure-keeps

module _ (n : ℕ) where
  expression-keeps : Keeping (rule.expression n)
  unfolding rule.expression
  expression-keeps = of-expressions (expressions.part-keeps n (nested n) (nested-kept n) outside)

  last-keeps : Keeping (rule.last_expression n)
  unfolding rule.last_expression rule.closed
  last-keeps = then-keeps expression-keeps (λ e. tested (sees outside m.Defines) (refuse-keeps may outside _) pure-keeps)

  definition-keeps : Keeping (rule.definition n)
  unfolding rule.definition
  definition-keeps = then-keeps (declared-keeps may outside stop.Other)
      (λ d. then-keeps (of-expressions (expressions.head-keeps (n - 1) (nested (n - 1)) (nested-kept (n - 1)) outside)) (λ ps. then-keeps expression-keeps (λ e. pure-keeps)))

  definitions-keeps : Keeping (rule.definitions n)
  unfolding rule.definitions
  definitions-keeps = gathered-keeps may put_last [] (ask-keeps may (sees outside m.Name)) definition-keeps

  -- ---- statements

  name-end-keeps : (x : Item) → Keeping (rule.name_end n x)
  unfolding rule.name_end
  name-end-keeps x = tested (λ ts. sees outside m.Comma ts || sees outside m.Prove ts) pure-keeps (refuse-keeps may outside stop.Parameter)

  new-constant-keeps : Keeping (rule.new_constant n)
  unfolding rule.new_constant
  new-constant-keeps = then-keeps (declared-keeps may outside stop.Other) (λ d. then-keeps (eat-keeps may outside m.Belongs refl) (λ b. if-keeps b
      (then-keeps expression-keeps (λ x. pure-keeps {a = item.New sort.Constant d (Some x)})) (name-end-keeps (item.New sort.Constant d None))))

  new-variable-keeps : (s : Sort) → Keeping (rule.new_variable n s)
  unfolding rule.new_variable
  new-variable-keeps s = then-keeps (declared-keeps may outside stop.Other) (λ d. name-end-keeps (item.New s d None))

  new-by-kept : (k : Mark) (ts : Tokens) → Ends ts → (is_final k ≡ false → Opens ts) → Kept is_of_modules ts (rule.new_by n k ts)
  new-by-kept m.Name ts h o = new-constant-keeps.at ts h
  new-by-kept m.Constant ts h o = on-next ts h (o refl) new-constant-keeps
  new-by-kept m.Variable ts h o = on-next ts h (o refl) (new-variable-keeps sort.Variable)
  new-by-kept m.State ts h o = on-next ts h (o refl) (new-variable-keeps sort.State)
  new-by-kept _ ts h o = refused-kept may outside stop.Other ts h

  item-keeps : Keeping (rule.item_of n)
  unfolding rule.item_of
  item-keeps = met m.New refl (by-mark (rule.new_by n) new-by-kept) (then-keeps expression-keeps (λ x. pure-keeps))

  goal-keeps : (of_step : Bool) → Keeping (rule.goal n of_step)
  goal-keeps true = last-keeps
  goal-keeps false = expression-keeps

  statement-keeps : (of_step : Bool) → Keeping (rule.statement n of_step)
  unfolding rule.statement rule.assuming
  statement-keeps of_step = met m.Assume refl (then-keeps (gathered-keeps may _ _ comma-keeps item-keeps)
      (λ xs. then-keeps (expect-keeps may outside stop.Expression m.Prove refl) (λ _. then-keeps (goal-keeps of_step) (λ g. pure-keeps)))) (then-keeps (goal-keeps of_step) (λ g. pure-keeps))

  -- ---- facts

  plain-fact-keeps : (hides : Bool) → Keeping (rule.plain_fact n hides)
  plain-fact-keeps true = record { at = λ ts h. then-kept ((name-keeps may outside stop.Other).at ts h) (λ x. pure-keeps {a = reading.node (form.Name x) [] (here ts)}) }
  plain-fact-keeps false = expression-keeps

  fact-keeps : (hides : Bool) → Keeping (rule.fact_of n hides)
  unfolding rule.fact_of
  fact-keeps hides = record {
    at = λ ts h. if-kept {b = sees outside m.Step ts} (λ e. left-kept (sees-left outside m.Step ts refl h e)) (λ _. then-kept ((plain-fact-keeps hides).at ts h) (λ x. pure-keeps));
  }

  cited-keeps : (hides : Bool) → Keeping (rule.cited n hides)
  unfolding rule.cited rule.definitions_cited
  cited-keeps hides = met m.Def refl (then-keeps plain-names-keeps (λ ds. pure-keeps)) (then-keeps (gathered-keeps may _ _ comma-keeps (fact-keeps hides))
      (λ fs. then-keeps (then-keeps (eat-keeps may outside m.Def refl) (λ b. if-keeps b plain-names-keeps (pure-keeps {a = []}))) (λ ds. pure-keeps)))

  -- ---- kinds of steps

  taken-keeps : Keeping (rule.taken n)
  unfolding rule.taken rule.groups_after
  taken-keeps = then-keeps (names-keeps may outside stop.Bound) (λ ns. tested (sees outside m.Belongs) (of-expressions (expressions.bounds-keeps n (nested n) (nested-kept n) outside ns)) pure-keeps)

  assertion-keeps : Keeping (rule.assertion n)
  unfolding rule.assertion
  assertion-keeps = then-keeps (statement-keeps true) (λ s. pure-keeps)

  after-word-keeps : (k : Mark) → Keeping (rule.after_word n k)
  unfolding rule.pick rule.uses
  after-word-keeps m.Case = then-keeps last-keeps (λ e. pure-keeps)
  after-word-keeps m.Suffices = then-keeps (statement-keeps true) (λ s. pure-keeps)
  after-word-keeps m.Have = then-keeps last-keeps (λ e. pure-keeps)
  after-word-keeps m.Take = then-keeps taken-keeps (λ gs. pure-keeps)
  after-word-keeps m.Witness = then-keeps (gathered-keeps may _ _ comma-keeps last-keeps) (λ xs. pure-keeps)
  after-word-keeps m.Pick = then-keeps taken-keeps (λ gs. then-keeps (expect-keeps may outside stop.Other m.Colon refl) (λ _. then-keeps last-keeps (λ e. pure-keeps)))
  after-word-keeps m.Define = then-keeps definitions-keeps (λ ds. pure-keeps)
  after-word-keeps m.Use = then-keeps (cited-keeps false) (λ c. pure-keeps)
  after-word-keeps m.Hide = then-keeps (cited-keeps true) (λ c. pure-keeps)
  after-word-keeps _ = pure-keeps

  kind-by-kept : (k : Mark) (ts : Tokens) → Ends ts → (is_final k ≡ false → Opens ts) → Kept is_of_modules ts (rule.kind_by n k ts)
  unfolding rule.name_step
  kind-by-kept m.Case ts h o = on-next ts h (o refl) (after-word-keeps m.Case)
  kind-by-kept m.Suffices ts h o = on-next ts h (o refl) (after-word-keeps m.Suffices)
  kind-by-kept m.Have ts h o = on-next ts h (o refl) (after-word-keeps m.Have)
  kind-by-kept m.Take ts h o = on-next ts h (o refl) (after-word-keeps m.Take)
  kind-by-kept m.Witness ts h o = on-next ts h (o refl) (after-word-keeps m.Witness)
  kind-by-kept m.Pick ts h o = on-next ts h (o refl) (after-word-keeps m.Pick)
  kind-by-kept m.Define ts h o = on-next ts h (o refl) (after-word-keeps m.Define)
  kind-by-kept m.Use ts h o = on-next ts h (o refl) (after-word-keeps m.Use)
  kind-by-kept m.Hide ts h o = on-next ts h (o refl) (after-word-keeps m.Hide)
  kind-by-kept m.Qed ts h o = on-next ts h (o refl) (after-word-keeps m.Qed)
  kind-by-kept m.Name ts h o = (tested rule.begins_definition (then-keeps definitions-keeps (λ ds. pure-keeps)) assertion-keeps).at ts h
  kind-by-kept _ ts h o = assertion-keeps.at ts h

-- ---- proofs

abbrev ProofsKeep : ProofReader → Type 0
ProofsKeep inner = (levels : List ℕ) → Keeping (inner levels)

optional-keeps : (inner : ProofReader) → ProofsKeep inner → ProofsKeep (rule.optional inner)
optional-keeps inner keeps levels = tested (λ ts. rule.begins_proof levels (mark ts) (first ts).tok) (keeps levels) pure-keeps

misplaced-kept : {A : Type 0} (levels : List ℕ) (ts : Tokens) → Ends ts → Kept {A = A} is_of_modules ts (Err (rule.misplaced levels ts))
unfolding rule.misplaced
misplaced-kept levels ts h = (fault-keeps _ (of_steps (rule.is_open (rule.level_of (first ts).tok) levels))).at ts h
  where
    of_steps : (b : Bool) → is_of_modules (if b then NoQed else StepLevel) ≡ true
    of_steps true = refl
    of_steps false = refl

unfinished-kept : {A : Type 0} (ts : Tokens) → Ends ts → Kept {A = A} is_of_modules ts (Err (rule.unfinished ts))
unfinished-kept ts h = by-test (rule.ends_early (mark ts))
  where
    by-test : {A : Type 0} (b : Bool) → Kept {A = A} is_of_modules ts (Err (if b then fault.At (here ts) NoQed else refusal outside stop.Other ts))
    by-test true = (fault-keeps NoQed refl).at ts h
    by-test false = refused-kept may outside stop.Other ts h

module _ (n : ℕ) (inner : ProofReader) (keeps : ProofsKeep inner) where
  step-kept : (levels : List ℕ) (ts : Tokens) → Ends ts → Opens ts → Kept is_of_modules ts (rule.step n inner levels ts)
  unfolding rule.step rule.kind_of rule.step_proof
  step-kept levels ts h o = then-kept (left-kept (next-left ts h o)) (λ place. then-keeps (by-mark (rule.kind_by n) (kind-by-kept n)) (λ k. then-keeps (if-keeps (rule.has_proof k) (optional-keeps inner keeps levels) (pure-keeps {a = proof.Missing}))
      (λ p. pure-keeps {a = rule.step_of place (rule.level_of (first ts).tok) (rule.label_of (first ts).tok) k p})))

  steps-from-kept : (turns level : ℕ) (levels : List ℕ) (found : List Step) (ts : Tokens) → Ends ts → Opens ts → Kept is_of_modules ts (rule.steps_from n inner turns level levels found ts)
  unfolding rule.steps_from
  steps-from-kept zero level levels found ts h o = (fault-keeps Expected refl).at ts h
  steps-from-kept (suc turns) level levels found ts h o = then-kept (step-kept levels ts h o) (λ s. record {
    at = λ us k. if-kept {b = rule.is_qed (out-Step s).kind} (λ _. left-kept (stays us k)) (λ _. if-kept {b = sees outside m.Step us}
        (λ e. if-kept {b = nat_eq (rule.level_of (first us).tok) level} (λ _. steps-from-kept turns level levels (found ++ s ∷ []) us k (sees-opens outside m.Step us refl e)) (λ _. misplaced-kept levels us k))
        (λ _. unfinished-kept us k));
  })

  proof-by-kept : (levels : List ℕ) (k : Mark) (ts : Tokens) → Ends ts → (is_final k ≡ false → Opens ts) → Kept is_of_modules ts (rule.proof_by n inner levels k ts)
  unfolding rule.by rule.steps
  proof-by-kept levels m.Obvious ts h o = left-kept (next-left ts h (o refl))
  proof-by-kept levels m.Omitted ts h o = left-kept (next-left ts h (o refl))
  proof-by-kept levels m.By ts h o = then-kept (left-kept {a = here ts} (next-left ts h (o refl))) (λ place. then-keeps (eat-keeps may outside m.Only refl)
      (λ only. then-keeps (cited-keeps n false) (λ c. pure-keeps {a = proof.By place only c.0 c.1})))
  proof-by-kept levels m.Step ts h o = if-kept {b = rule.is_deeper (rule.level_of (first ts).tok) levels}
      (λ _. then-kept (steps-from-kept (length ts) _ _ [] ts h (o refl)) (λ ss. pure-keeps {a = proof.Steps ss})) (λ _. (fault-keeps StepLevel refl).at ts h)
  proof-by-kept levels _ ts h o = refused-kept may outside stop.Other ts h

subproof-keeps : (n : ℕ) → ProofsKeep (rule.subproof n)
unfolding rule.subproof rule.proof_of
subproof-keeps zero levels = fault-keeps TooDeep refl
subproof-keeps (suc n) levels = record {
  at = λ ts h. let l = after-left outside m.Proof ts refl h in behind l ((by-mark (rule.proof_by (suc n) (rule.subproof n) levels) (proof-by-kept (suc n) (rule.subproof n) (subproof-keeps n) levels)).at (after outside m.Proof ts) l.ends);
}

-- ---- units

assumption-kept : (ts : Tokens) → Ends ts → Opens ts → Kept is_of_modules ts (rule.assumption ts)
unfolding rule.assumption
assumption-kept ts h o = on-next ts h o (then-keeps unit-name-keeps (λ x. then-keeps (expression-keeps rule.in_unit) (λ e. pure-keeps {a = unit.Assume x e})))

unit-by-kept : (k : Mark) (ts : Tokens) → Ends ts → (is_final k ≡ false → Opens ts) → Kept is_of_modules ts (rule.unit_by k ts)
unfolding rule.theorem
unit-by-kept m.Constant ts h o = on-next ts h (o refl) (then-keeps constants-keeps (λ ds. pure-keeps))
unit-by-kept m.Constants ts h o = on-next ts h (o refl) (then-keeps constants-keeps (λ ds. pure-keeps))
unit-by-kept m.Variable ts h o = on-next ts h (o refl) (then-keeps plain-names-keeps (λ ds. pure-keeps))
unit-by-kept m.Variables ts h o = on-next ts h (o refl) (then-keeps plain-names-keeps (λ ds. pure-keeps))
unit-by-kept m.Assume ts h o = assumption-kept ts h (o refl)
unit-by-kept m.Assumption ts h o = assumption-kept ts h (o refl)
unit-by-kept m.Theorem ts h o = on-next ts h (o refl) (then-keeps unit-name-keeps (λ x. then-keeps (statement-keeps rule.in_unit false)
    (λ s. then-keeps (optional-keeps (rule.subproof rule.in_unit) (subproof-keeps rule.in_unit) []) (λ p. pure-keeps {a = unit.Theorem x s p}))))
unit-by-kept m.Name ts h o = then-kept ((definition-keeps rule.in_unit).at ts h) (λ d. pure-keeps)
unit-by-kept _ ts h o = refused-kept may outside stop.Other ts h

unit-keeps : (after_steps : Bool) → Keeping (rule.unit_of after_steps)
unfolding rule.unit_of
unit-keeps after_steps = record {
  at = λ ts h. if-kept {b = after_steps && sees outside m.Step ts} (λ _. (fault-keeps StepLevel refl).at ts h)
      (λ _. then-kept ((by-mark rule.unit_by unit-by-kept).at ts h) (λ u. pure-keeps {a = record { place = here ts; kind = u }}));
}

units-from-keeps : (turns : ℕ) (after_steps : Bool) (found : List ModuleUnit) → Keeping (rule.units_from turns after_steps found)
unfolding rule.units_from
units-from-keeps zero after_steps found = fault-keeps Expected refl
units-from-keeps (suc turns) after_steps found = tested (sees outside m.End) pure-keeps
    (met m.Rule refl (units-from-keeps turns false found) (then-keeps (unit-keeps after_steps) (λ u. units-from-keeps turns (rule.is_by_steps u.kind) (found ++ u ∷ []))))

abbrev Stands : Tokens → Result Module Fault → Type 0
Stands ts (Ok u) = ts ≡ ts
Stands ts (Err e) = FaultIn is_of_modules ts e

pub stand-in : FaultsStandInTheList
unfolding rule.module_of rule.units
stand-in x header ts e h is = subst (Stands ts) is (go _ ((then-keeps extends-keeps (λ es. then-keeps units-keeps (λ us. pure-keeps {a = (es, us)}))).at ts h))
  where
    units-keeps : Keeping rule.units
    units-keeps = record { at = λ ts h. (units-from-keeps (length ts) false []).at ts h }

    go : (o : Outcome (List (Text × Place) × List ModuleUnit)) → Kept is_of_modules ts o → Stands ts (rule.by_units x header o)
    go (Ok p) k = refl
    go (Err f) k = k.is
