-- What each reader of modules has read.
use Rattle.std.proofs.Common.{◌≡◌, ℕ, zero, suc, Bool, true, false, if◌then◌else◌, nat_eq, ◌&&◌, ◌||◌, List, [], ◌∷◌, ◌++◌, length, map, Option, Some, None, Ok, Err, refl, sym, ap, subst, ◌∙◌, append_assoc, append-nil}
use Rattle.std.proofs.lemmas.Bool.{true≢false, eqb-true}
use Rattle.operator_chain.specs.Chain.{OneRightTree}
use Rattle.proof_parser.specs.Names.{Place, Node, Decl, Group, Item, Statement, Fact, Proof, Step, out-Step, StepKind, ModuleUnit, UnitKind, Module, Mark, Text}
use Rattle.tla_ast.specs.declared.token.Tok.TheVariants as tok
use Rattle.tla_ast.specs.declared.unit.Sort.TheVariants as sort
use Rattle.tla_ast.specs.declared.unit.Item.TheVariants as item
use Rattle.tla_ast.specs.declared.unit.Fact.TheVariants as fact
use Rattle.tla_ast.specs.declared.unit.Proof.TheVariants as proof
use Rattle.tla_ast.specs.declared.unit.StepKind.TheVariants as kind
use Rattle.tla_ast.specs.declared.unit.UnitKind.TheVariants as unit
use Rattle.token_reader.specs.declared.mark.Mark.TheVariants as m
use Rattle.token_reader.specs.declared.setting.Stop.TheVariants as stop
use Rattle.token_reader.specs.Marks.{is_final}
use Rattle.token_reader.specs.Input.{Tokens, Outcome, first, next, here, mark, sees, sees_second, eat, name, declared, after, ◌<$>◌}
use Rattle.token_reader.specs.Lists.{put_last, names}
use Rattle.token_reader.proofs.Steps.{got, refused, by-test, by-reader, after-no, after-yes, not-final, same-end}
use Rattle.layout_parser.specs.Reading as reading
use Rattle.layout_parser.specs.Reading.{nested}
use Rattle.layout_parser.specs.Spelling as spell
use Rattle.layout_parser.proofs.Chains.{good-nested}
use Rattle.layout_parser.proofs.Readers.{bounds, names-read}
use Rattle.layout_parser.proofs.Steps as phrase
use Rattle.proof_parser.specs.Modules as rule
use Rattle.proof_parser.specs.Modules.{outside, ProofReader, level_of, label_of}
use Rattle.proof_parser.specs.Laws.{IsInOrder, ReadInOrder}
use Rattle.proof_parser.specs.Spelling as made
use Rattle.proof_parser.specs.Spelling.{Symbols, same, expression, names_after, name_of, optional, an_item, a_statement, a_fact, cited, groups, a_kind, a_proof, body, steps, a_step, a_unit, units, Spelled}
use Rattle.proof_parser.proofs.Phrases.{constants-read, on-part, definition, definitions}
use Rattle.proof_parser.proofs.Parts.{Read, Derives, seen, end-token, nothing, up-from, on-token, on-sign, on-sign-at, on-stands, on-step, on-optional, on-place, on-phrase, on-made, as-read, derived, derived-as, list-read}

-- ---- small readers

-- one of two words
on-either : (b : Bool) (k l : Mark) {ts rest : Tokens} {ys : Symbols} → is_final k ≡ false → is_final l ≡ false → mark ts ≡ (if b then k else l) → Read (next ts) rest ys
    → Read ts rest (made.sign (if b then k else l) ∷ ys)
on-either true k l kept other is r = on-sign k kept is r
on-either false k l kept other is r = on-sign l other is r

-- the name of a unit
on-unit-name : {ts mid rest : Tokens} {x : Option Decl} {ys : Symbols} → rule.unit_name ts ≡ Ok (x, mid) → Read mid rest ys → Read ts rest (name_of x ys)
unfolding rule.unit_name
on-unit-name {ts} {rest = rest} {ys = ys} e r = by-test {b = sees outside m.Name ts && sees_second outside m.Defines ts} e
    (λ _ f. got {o = declared outside stop.Other ts} f (λ d t1 e1 f1. phrase.eaten outside stop.Other m.Defines _ refl f1 (λ defines f2.
    as-read (λ x us. Read us rest ys → Read ts rest (name_of x ys)) f2 (λ q. on-phrase (phrase.on-declared outside stop.Other e1 (phrase.on-sign defines phrase.nothing)) q) r)))
    (λ _ f. as-read (λ x us. Read us rest ys → Read ts rest (name_of x ys)) f (λ q. q) r)

-- names behind a word
names-behind : (k : Mark) {ts mid rest : Tokens} {ds : List Decl} {ys : Symbols} → is_final k ≡ false → mark ts ≡ k → rule.plain_names (next ts) ≡ Ok (ds, mid) → Read mid rest ys
    → (d : Decl) × (more : List Decl) × (ds ≡ d ∷ more) × Read ts rest (names_after k (d ∷ more) ys)
names-behind k {ts} {mid} {ds = ds} kept is e r = let h = names-read outside stop.Other (next ts) ds mid e in (h.head, h.tail, h.are, on-sign k kept is (on-phrase h.read r))

on-cited-names : (n : ℕ) {ts mid rest : Tokens} {ds : List Decl} {ys : Symbols} → rule.definitions_cited n ts ≡ Ok (ds, mid) → Read mid rest ys → Read ts rest (names_after m.Def ds ys)
unfolding rule.definitions_cited
on-cited-names n {ts} {mid} {rest} {ds} {ys} e r = by-reader {b = sees outside m.Def ts} rule.plain_names _ e
    (λ yes f. let h = names-behind m.Def refl (seen m.Def ts yes) (subst (λ l. rule.plain_names l ≡ Ok (ds, mid)) (after-yes outside m.Def ts yes) f) r in subst (λ l. Read ts rest (names_after m.Def l ys)) (sym h.2) h.3)
    (λ no f. as-read (λ l us. Read us rest ys → Read ts rest (names_after m.Def l ys)) f (λ q. up-from (sym (after-no outside m.Def ts no)) q) r)

on-extends : {ts mid rest : Tokens} {es : List (Text × Place)} {ys : Symbols} → rule.extends ts ≡ Ok (es, mid) → Read mid rest ys
    → (ds : List Decl) × (es ≡ map rule.extended ds) × Read ts rest (names_after m.Extends ds ys)
unfolding rule.extends
on-extends {ts} {rest = rest} {ys = ys} e r = by-test {b = sees outside m.Extends ts} e
    (λ yes f. got {o = rule.plain_names (next ts)} f (λ ds t1 e1 f1. as-read (λ es us. Read us rest ys → (ds : List Decl) × (es ≡ map rule.extended ds) × Read ts rest (names_after m.Extends ds ys)) f1
    (λ q. let h = names-behind m.Extends refl (seen m.Extends ts yes) e1 q in (h.0 ∷ h.1, ap (map rule.extended) h.2, h.3)) r))
    (λ _ f. as-read (λ es us. Read us rest ys → (ds : List Decl) × (es ≡ map rule.extended ds) × Read ts rest (names_after m.Extends ds ys)) f (λ q. ([], refl, q)) r)

-- a module is that of an outcome
module-is : (x : Text) (header : Place) (o : Outcome (List (Text × Place) × List ModuleUnit)) (u : Module) → rule.by_units x header o ≡ Ok u
    → (es : List (Text × Place)) × (us : List ModuleUnit) × (rest : Tokens) × (o ≡ Ok ((es, us), rest)) × (record { name = x; header = header; extends = es; units = us } ≡ u)
module-is x header (Ok p) u e = (p.0.0, p.0.1, p.1, refl, cc)
module-is x header (Err f) u e = absurd (cc)

module _ (law : OneRightTree) (n : ℕ) where
  on-expression : {ts mid rest : Tokens} {x : Node} {ys : Symbols} → rule.expression n ts ≡ Ok (x, mid) → Read mid rest ys → Read ts rest (expression x ∷ ys)
  unfolding rule.expression
  on-expression e r = on-phrase (on-part law n e phrase.nothing) r

  last-is : (ts mid : Tokens) (x : Node) → rule.last_expression n ts ≡ Ok (x, mid) → rule.expression n ts ≡ Ok (x, mid)
  unfolding rule.last_expression rule.closed
  last-is ts mid x e = got {o = rule.expression n ts} e (λ y t1 e1 f1. by-test {b = sees outside m.Defines t1} f1 (λ _ f2. refused f2) (λ _ f2. e1 ∙ f2))

  goal-is : (of_step : Bool) (ts mid : Tokens) (x : Node) → rule.goal n of_step ts ≡ Ok (x, mid) → rule.expression n ts ≡ Ok (x, mid)
  goal-is true ts mid x e = last-is ts mid x e
  goal-is false ts mid x e = e

  on-last : {ts mid rest : Tokens} {x : Node} {ys : Symbols} → rule.last_expression n ts ≡ Ok (x, mid) → Read mid rest ys → Read ts rest (expression x ∷ ys)
  on-last {ts} {mid} {x = x} e r = on-expression (last-is ts mid x e) r

  -- ---- statements

  name-ended : (x y : Item) (ts mid : Tokens) → rule.name_end n x ts ≡ Ok (y, mid) → (let o : Outcome Item = Ok (x, ts) in o) ≡ Ok (y, mid)
  unfolding rule.name_end
  name-ended x y ts mid e = by-test {b = sees outside m.Comma ts || sees outside m.Prove ts} e (λ _ f. f) (λ _ f. refused f)

  new-constant : (worded : Bool) (ts us mid : Tokens) (x : Item) → rule.new_constant n us ≡ Ok (x, mid)
      → ((rest : Tokens) (ys : Symbols) → Read us rest ys → Read ts rest (made.sign m.New ∷ optional m.Constant worded ys)) → Derives (an_item x) ts mid
  unfolding rule.new_constant rule.expression
  new-constant worded ts us mid x e before = got {o = declared outside stop.Other us} e (λ d t1 e1 f1. by-reader {b = sees outside m.Belongs t1} _ _ f1
      (λ yes f2. got {o = rule.expression n (after outside m.Belongs t1)} f2 (λ set t2 e2 f3. derived an_item f3 (made.new_constant worded d (Some set))
      (before _ _ (on-phrase (phrase.on-declared outside stop.Other e1 (phrase.on-eat outside refl yes (on-part law n e2 phrase.nothing))) nothing))))
      (λ no f2. derived an_item (name-ended (item.New sort.Constant d None) x (after outside m.Belongs t1) mid f2) (made.new_constant worded d None)
      (before _ _ (on-phrase (phrase.on-declared outside stop.Other e1 phrase.nothing) (up-from (sym (after-no outside m.Belongs t1 no)) nothing)))))

  new-by : (k : Mark) (ts mid : Tokens) (x : Item) → mark ts ≡ m.New → mark (next ts) ≡ k → rule.new_by n k (next ts) ≡ Ok (x, mid) → Derives (an_item x) ts mid
  unfolding rule.new_variable
  new-by m.Name ts mid x new is e = new-constant false ts (next ts) mid x e (λ rest ys r. on-sign m.New refl new r)
  new-by m.Constant ts mid x new is e = new-constant true ts (next (next ts)) mid x e (λ rest ys r. on-sign m.New refl new (on-sign m.Constant refl is r))
  new-by m.Variable ts mid x new is e = got {o = declared outside stop.Other (next (next ts))} e (λ d t1 e1 f1. derived an_item (name-ended (item.New sort.Variable d None) x t1 mid f1) (made.new_variable d)
      (on-sign m.New refl new (on-sign m.Variable refl is (on-phrase (phrase.on-declared outside stop.Other e1 phrase.nothing) nothing))))
  new-by m.State ts mid x new is e = got {o = declared outside stop.Other (next (next ts))} e (λ d t1 e1 f1. derived an_item (name-ended (item.New sort.State d None) x t1 mid f1) (made.new_state d)
      (on-sign m.New refl new (on-sign m.State refl is (on-phrase (phrase.on-declared outside stop.Other e1 phrase.nothing) nothing))))
  new-by _ ts mid x new is e = refused e

  item-read : (ts mid : Tokens) (x : Item) → rule.item_of n ts ≡ Ok (x, mid) → Derives (an_item x) ts mid
  unfolding rule.item_of
  item-read ts mid x e = by-test {b = sees outside m.New ts} e (λ yes f. new-by (mark (next ts)) ts mid x (seen m.New ts yes) refl f)
      (λ _ f. got {o = rule.expression n ts} f (λ y t1 e1 f1. derived an_item f1 (made.given y) (on-expression e1 nothing)))

  statement-read : (of_step : Bool) (ts mid : Tokens) (s : Statement) → rule.statement n of_step ts ≡ Ok (s, mid) → Derives (a_statement s) ts mid
  unfolding rule.statement rule.assuming
  statement-read of_step ts mid s e = by-test {b = sees outside m.Assume ts} e
      (λ yes f. got {o = rule.items n (next ts)} f (λ xs t1 e1 f1. let h = list-read an_item (rule.item_of n) item-read (next ts) xs t1 e1 in
      phrase.eaten outside stop.Expression m.Prove _ refl f1 (λ prove f2. got {o = rule.goal n of_step (next t1)} f2 (λ g t3 e3 f3.
      derived-as a_statement f3 (ap {B = Statement} (λ l. record { items = l; goal = g }) h.are) (made.assuming h.head h.tail g)
      (on-sign m.Assume refl (seen m.Assume ts yes) (h.read t3 _ (on-stands prove (on-expression (goal-is of_step (next t1) t3 g e3) nothing))))))))
      (λ _ f. got {o = rule.goal n of_step ts} f (λ g t1 e1 f1. derived a_statement f1 (made.goal_alone g) (on-expression (goal-is of_step ts t1 g e1) nothing)))

  -- ---- facts

  plain-fact : (hides : Bool) (ts mid : Tokens) (x : Node) → rule.plain_fact n hides ts ≡ Ok (x, mid) → Derives (a_fact hides (fact.Plain (here ts) x)) ts mid
  unfolding mark name
  plain-fact true ts mid x e = got {o = name outside stop.Other ts} e (λ text t1 e1 f1. let h = phrase.is-next _ e1 in let is = seen m.Name ts h.0 in
      derived (λ y. a_fact true (fact.Plain (here ts) y)) f1 (made.hidden text (here ts)) (on-token (not-final ts m.Name refl is) (is, h.1, refl) (up-from h.2 nothing)))
  plain-fact false ts mid x e = record { parts = _; made = made.plain_fact (here ts) x; read = on-place (on-expression e nothing) }

  fact-read : (hides : Bool) (ts mid : Tokens) (x : Fact) → rule.fact_of n hides ts ≡ Ok (x, mid) → Derives (a_fact hides x) ts mid
  unfolding rule.fact_of
  fact-read hides ts mid x e = by-test {b = sees outside m.Step ts} e
      (λ yes f. derived (a_fact hides) f (made.step_name hides (level_of (first ts).tok) (label_of (first ts).tok) (here ts)) (on-step (seen m.Step ts yes) refl nothing))
      (λ _ f. got {o = rule.plain_fact n hides ts} f (λ y t1 e1 f1. as-read (λ l us. Derives (a_fact hides l) ts us) f1 (plain-fact hides ts t1 y e1)))

  cited-read : (hides : Bool) (ts mid : Tokens) (c : List Fact × List Decl) → rule.cited n hides ts ≡ Ok (c, mid) → Derives (cited hides c) ts mid
  unfolding rule.cited
  cited-read hides ts mid c e = by-test {b = sees outside m.Def ts} e
      (λ yes f. got {o = rule.plain_names (next ts)} f (λ ds t1 e1 f1. let h = names-behind m.Def refl (seen m.Def ts yes) e1 nothing in
      derived-as (cited hides) f1 (ap {B = List Fact × List Decl} (λ l. ([], l)) h.2) (made.names_alone hides h.0 h.1) h.3))
      (λ _ f. got {o = rule.facts n hides ts} f (λ fs t1 e1 f1. let h = list-read (a_fact hides) (rule.fact_of n hides) (fact-read hides) ts fs t1 e1 in
      got {o = rule.definitions_cited n t1} f1 (λ ds t2 e2 f2. derived-as (cited hides) f2 (ap {B = List Fact × List Decl} (λ l. (l, ds)) h.are) (made.facts_first hides h.head h.tail ds)
      (h.read t2 _ (on-cited-names n e2 nothing)))))

  -- ---- kinds of steps

  taken-read : (ts mid : Tokens) (gs : List Group) → rule.taken n ts ≡ Ok (gs, mid) → Derives (groups gs) ts mid
  unfolding rule.taken rule.groups_after
  taken-read ts mid gs e = got {o = names outside stop.Bound ts} e (λ ns t1 e1 f1. let h = names-read outside stop.Bound ts ns t1 e1 in by-test {b = sees outside m.Belongs t1} f1
      (λ _ f2. let b = bounds n (nested n) law (good-nested law n) outside ns ts t1 gs mid h f2 in
      subst (λ l. Derives (groups l) ts mid) (sym b.are) (record { parts = _; made = made.with_sets b.head b.tail; read = on-phrase b.read nothing }))
      (λ _ f2. derived-as groups f2 (ap (λ l. reading.group l None ∷ []) h.are) (made.without_set h.head h.tail) (on-phrase h.read nothing)))

  defined : (worded : Bool) (ts us mid : Tokens) (k : StepKind) → ((rest : Tokens) (ys : Symbols) → Read us rest ys → Read ts rest (optional m.Define worded ys))
      → (kind.Define <$> rule.definitions n) us ≡ Ok (k, mid) → Derives (a_kind k) ts mid
  defined worded ts us mid k before e = got {o = rule.definitions n us} e (λ ds t1 e1 f1. let h = definitions law n us ds t1 e1 in
      derived-as a_kind f1 (ap (λ l. kind.Define l) h.are) (made.defines worded h.head h.tail) (before _ _ (on-phrase h.read nothing)))

  witnesses-read : (ts : Tokens) (xs : List Node) (mid : Tokens) → rule.witnesses n ts ≡ Ok (xs, mid) → phrase.ListRead 0 false (λ ys. ys) (λ x. same x ∷ []) spell.comma xs ts mid
  unfolding rule.expression
  witnesses-read = phrase.list-read 0 false put_last (λ x. x) (λ x. same x ∷ []) spell.comma (eat outside m.Comma) (rule.last_expression n)
      (λ us t1 x f. record { item = x; is = refl; read = on-part law n (last-is us t1 x f) phrase.nothing }) (phrase.mark-separates outside m.Comma refl) [] (λ ys. ys) (phrase.puts-same [])

  asserted : (ts mid : Tokens) (k : StepKind) → rule.assertion n ts ≡ Ok (k, mid) → Derives (a_kind k) ts mid
  unfolding rule.assertion
  asserted ts mid k e = got {o = rule.statement n true ts} e (λ s t1 e1 f1. derived a_kind f1 (made.asserts s) (on-made (statement-read true ts t1 s e1) nothing))

  kind-by : (w : Mark) (ts mid : Tokens) (k : StepKind) → mark ts ≡ w → rule.kind_by n w ts ≡ Ok (k, mid) → Derives (a_kind k) ts mid
  unfolding rule.pick rule.uses rule.name_step
  kind-by m.Case ts mid k is e = got {o = rule.last_expression n (next ts)} e (λ x t1 e1 f1. derived a_kind f1 (made.case x) (on-sign m.Case refl is (on-last e1 nothing)))
  kind-by m.Suffices ts mid k is e = got {o = rule.statement n true (next ts)} e (λ s t1 e1 f1. derived a_kind f1 (made.suffices s) (on-sign m.Suffices refl is (on-made (statement-read true (next ts) t1 s e1) nothing)))
  kind-by m.Have ts mid k is e = got {o = rule.last_expression n (next ts)} e (λ x t1 e1 f1. derived a_kind f1 (made.have x) (on-sign m.Have refl is (on-last e1 nothing)))
  kind-by m.Take ts mid k is e = got {o = rule.taken n (next ts)} e (λ gs t1 e1 f1. derived a_kind f1 (made.takes gs) (on-sign m.Take refl is (on-made (taken-read (next ts) t1 gs e1) nothing)))
  kind-by m.Witness ts mid k is e = got {o = rule.witnesses n (next ts)} e (λ xs t1 e1 f1. let h = witnesses-read (next ts) xs t1 e1 in
      derived-as a_kind f1 (ap (λ l. kind.Witness l) h.are) (made.witness h.head h.tail) (on-sign m.Witness refl is (on-phrase h.read nothing)))
  kind-by m.Pick ts mid k is e = got {o = rule.taken n (next ts)} e (λ gs t1 e1 f1. phrase.eaten outside stop.Other m.Colon _ refl f1 (λ colon f2. got {o = rule.last_expression n (next t1)} f2 (λ x t3 e3 f3.
      derived a_kind f3 (made.picks gs x) (on-sign m.Pick refl is (on-made (taken-read (next ts) t1 gs e1) (on-stands colon (on-last e3 nothing)))))))
  kind-by m.Define ts mid k is e = defined true ts (next ts) mid k (λ rest ys r. on-sign m.Define refl is r) e
  kind-by m.Use ts mid k is e = got {o = rule.cited n false (next ts)} e (λ c t1 e1 f1. derived a_kind f1 (made.of_use c) (on-sign m.Use refl is (on-made (cited-read false (next ts) t1 c e1) nothing)))
  kind-by m.Hide ts mid k is e = got {o = rule.cited n true (next ts)} e (λ c t1 e1 f1. derived a_kind f1 (made.of_hide c) (on-sign m.Hide refl is (on-made (cited-read true (next ts) t1 c e1) nothing)))
  kind-by m.Qed ts mid k is e = derived a_kind e made.qed (on-sign m.Qed refl is nothing)
  kind-by m.Name ts mid k is e = by-test {b = rule.begins_definition ts} e (λ _ f. defined false ts ts mid k (λ rest ys r. r) f) (λ _ f. asserted ts mid k f)
  kind-by _ ts mid k is e = asserted ts mid k e

-- ---- proofs

abbrev ProofsRead : ProofReader → Type 0
ProofsRead inner = (levels : List ℕ) (ts mid : Tokens) (p : Proof) → inner levels ts ≡ Ok (p, mid) → Derives (a_proof levels p) ts mid

optional-read : (inner : ProofReader) → ProofsRead inner → ProofsRead (rule.optional inner)
optional-read inner reads levels ts mid p e = by-test {b = rule.begins_proof levels (mark ts) (first ts).tok} e (λ _ f. reads levels ts mid p f) (λ _ f. derived (a_proof levels) f (made.missing levels) nothing)

-- steps have been read, behind those found
record StepsRead (levels : List ℕ) (found ss : List Step) (ts mid : Tokens) : Type 0 where
  pub new : List Step
  pub are : ss ≡ found ++ new
  pub read : Derives (steps levels new) ts mid

module _ (law : OneRightTree) (n : ℕ) (inner : ProofReader) (reads : ProofsRead inner) where
  step-proof : (k : StepKind) (levels : List ℕ) (ts mid : Tokens) (p : Proof) → rule.step_proof n inner k levels ts ≡ Ok (p, mid) → (rule.has_proof k ≡ false → p ≡ proof.Missing) × Derives (a_proof levels p) ts mid
  unfolding rule.step_proof
  step-proof k levels ts mid p e = by-reader {b = rule.has_proof k} (rule.optional inner levels) _ e
      (λ yes f. (λ no. absurd (true≢false (sym yes ∙ no)), optional-read inner reads levels ts mid p f))
      (λ _ f. (λ _. sym (same-end proof.Missing p ts mid f).0, derived (a_proof levels) f (made.missing levels) nothing))

  step-read : (level : ℕ) (levels : List ℕ) (ts mid : Tokens) (s : Step) → mark ts ≡ m.Step → level_of (first ts).tok ≡ level → rule.step n inner (level ∷ levels) ts ≡ Ok (s, mid) → Derives (a_step (level ∷ levels) s) ts mid
  unfolding rule.step rule.kind_of
  step-read level levels ts mid s is at e = got {o = rule.kind_of n (next ts)} e (λ k t1 e1 f1. got {o = rule.step_proof n inner k (level ∷ levels) t1} f1 (λ p t2 e2 f2.
      let h = step-proof k (level ∷ levels) t1 t2 p e2 in
      derived-as (a_step (level ∷ levels)) f2 (λ i. rule.step_of (here ts) (at i) (label_of (first ts).tok) k p) (made.step levels level (label_of (first ts).tok) (here ts) k p h.0)
      (on-step is at (on-made (kind-by law n (mark (next ts)) (next ts) t1 k refl e1) (on-made h.1 nothing)))))

  steps-from : (turns level : ℕ) (levels : List ℕ) (found : List Step) (ts mid : Tokens) (ss : List Step) → mark ts ≡ m.Step → level_of (first ts).tok ≡ level
      → rule.steps_from n inner turns level (level ∷ levels) found ts ≡ Ok (ss, mid) → StepsRead (level ∷ levels) found ss ts mid
  unfolding rule.steps_from
  steps-from zero level levels found ts mid ss is at e = refused e
  steps-from (suc turns) level levels found ts mid ss is at e = got {o = rule.step n inner (level ∷ levels) ts} e (λ s t1 e1 f1. let one = step-read level levels ts t1 s is at e1 in by-test {b = rule.is_qed (out-Step s).kind} f1
      (λ qed f2. as-read (λ ss us. StepsRead (level ∷ levels) found ss ts us) f2
      (record { new = s ∷ []; are = refl; read = record { parts = _; made = made.last_step (level ∷ levels) s qed; read = on-made one nothing } }))
      (λ no f2. by-test {b = sees outside m.Step t1} f2 (λ yes f3. by-test {b = nat_eq (level_of (first t1).tok) level} f3
      (λ same f4. let h = steps-from turns level levels (found ++ s ∷ []) t1 mid ss (seen m.Step t1 yes) (eqb-true (level_of (first t1).tok) level same) f4 in record {
        new = s ∷ h.new;
        are = h.are ∙ append_assoc found (s ∷ []) h.new;
        read = record { parts = _; made = made.further_steps (level ∷ levels) s h.new no; read = on-made one (on-made h.read nothing) };
      })
      (λ _ f4. refused f4)) (λ _ f3. refused f3)))

  proof-by : (levels : List ℕ) (k : Mark) (ts mid : Tokens) (p : Proof) → mark ts ≡ k → rule.proof_by n inner levels k ts ≡ Ok (p, mid) → Derives (body levels p) ts mid
  unfolding rule.by rule.steps
  proof-by levels m.Obvious ts mid p is e = derived (body levels) e (made.obvious levels (here ts)) (on-sign-at m.Obvious refl is nothing)
  proof-by levels m.Omitted ts mid p is e = derived (body levels) e (made.omitted levels (here ts)) (on-sign-at m.Omitted refl is nothing)
  proof-by levels m.By ts mid p is e = got {o = rule.cited n false (after outside m.Only (next ts))} e (λ c t1 e1 f1.
      derived (body levels) f1 (made.by levels (here ts) (sees outside m.Only (next ts)) c) (on-sign-at m.By refl is (on-optional m.Only refl (on-made (cited-read law n false (after outside m.Only (next ts)) t1 c e1) nothing))))
  proof-by levels m.Step ts mid p is e = let level = level_of (first ts).tok in by-test {b = rule.is_deeper level levels} e
      (λ deep f. got {o = rule.steps_of n inner level (level ∷ levels) ts} f (λ ss t1 e1 f1. let h = steps-from (length ts) level levels [] ts t1 ss is refl e1 in
      derived (body levels) f1 (made.by_steps levels level ss deep) (on-made (subst (λ l. Derives (steps (level ∷ levels) l) ts t1) (sym h.are) h.read) nothing)))
      (λ _ f. refused f)
  proof-by levels _ ts mid p is e = refused e

module _ (law : OneRightTree) where
  subproof-read : (n : ℕ) → ProofsRead (rule.subproof n)
  unfolding rule.subproof rule.proof_of
  subproof-read zero levels ts mid p e = refused e
  subproof-read (suc n) levels ts mid p e = let us = after outside m.Proof ts in record {
    parts = _;
    made = made.there levels (sees outside m.Proof ts) p;
    read = on-optional m.Proof refl (on-made (proof-by law (suc n) (rule.subproof n) (subproof-read n) levels (mark us) us mid p refl e) nothing);
  }

  -- ---- units

  abbrev room : ℕ
  room = rule.in_unit

  constants-unit : (several : Bool) (ts mid : Tokens) (u : UnitKind) → mark ts ≡ (if several then m.Constants else m.Constant) → rule.unit_by m.Constant ts ≡ Ok (u, mid) → Derives (a_unit u) ts mid
  constants-unit several ts mid u is e = got {o = rule.constants (next ts)} e (λ ds t1 e1 f1. let h = constants-read (next ts) ds t1 e1 in
      derived-as a_unit f1 (ap (λ l. unit.Constants l) h.are) (made.constants_unit several h.head h.tail) (on-either several m.Constants m.Constant refl refl is (on-phrase h.read nothing)))

  variables-unit : (several : Bool) (ts mid : Tokens) (u : UnitKind) → mark ts ≡ (if several then m.Variables else m.Variable) → rule.unit_by m.Variable ts ≡ Ok (u, mid) → Derives (a_unit u) ts mid
  variables-unit several ts mid u is e = got {o = rule.plain_names (next ts)} e (λ ds t1 e1 f1. let h = names-read outside stop.Other (next ts) ds t1 e1 in
      derived-as a_unit f1 (ap (λ l. unit.Variables l) h.are) (made.variables_unit several h.head h.tail) (on-either several m.Variables m.Variable refl refl is (on-phrase h.read nothing)))

  assumption-unit : (is_axiom : Bool) (ts mid : Tokens) (u : UnitKind) → mark ts ≡ (if is_axiom then m.Assumption else m.Assume) → rule.assumption ts ≡ Ok (u, mid) → Derives (a_unit u) ts mid
  unfolding rule.assumption
  assumption-unit is_axiom ts mid u is e = got {o = rule.unit_name (next ts)} e (λ x t1 e1 f1. got {o = rule.expression room t1} f1 (λ y t2 e2 f2.
      derived a_unit f2 (made.assumption is_axiom x y) (on-either is_axiom m.Assumption m.Assume refl refl is (on-unit-name e1 (on-expression law room e2 nothing)))))

  unit-by : (k : Mark) (ts mid : Tokens) (u : UnitKind) → mark ts ≡ k → rule.unit_by k ts ≡ Ok (u, mid) → Derives (a_unit u) ts mid
  unfolding rule.theorem
  unit-by m.Constant ts mid u is e = constants-unit false ts mid u is e
  unit-by m.Constants ts mid u is e = constants-unit true ts mid u is e
  unit-by m.Variable ts mid u is e = variables-unit false ts mid u is e
  unit-by m.Variables ts mid u is e = variables-unit true ts mid u is e
  unit-by m.Assume ts mid u is e = assumption-unit false ts mid u is e
  unit-by m.Assumption ts mid u is e = assumption-unit true ts mid u is e
  unit-by m.Theorem ts mid u is e = got {o = rule.unit_name (next ts)} e (λ x t1 e1 f1. got {o = rule.statement room false t1} f1 (λ s t2 e2 f2. got {o = rule.theorem_proof t2} f2 (λ p t3 e3 f3.
      derived a_unit f3 (made.theorem x s p) (on-sign m.Theorem refl is (on-unit-name e1 (on-made (statement-read law room false t1 t2 s e2)
      (on-made (optional-read (rule.subproof room) (subproof-read room) [] t2 t3 p e3) nothing)))))))
  unit-by m.Name ts mid u is e = got {o = rule.definition room ts} e (λ d t1 e1 f1. let h = definition law room ts t1 d e1 in
      derived-as a_unit f1 (ap (λ l. unit.Define l) h.is) (made.definition_unit h.item) (on-phrase h.read nothing))
  unit-by _ ts mid u is e = refused e

  on-unit : (after_steps : Bool) {ts mid rest : Tokens} {u : ModuleUnit} {ys : Symbols} → rule.unit_of after_steps ts ≡ Ok (u, mid) → Read mid rest ys → Read ts rest (made.at u.place ∷ a_unit u.kind ∷ ys)
  unfolding rule.unit_of
  on-unit after_steps {ts} {rest = rest} {ys = ys} e r = by-test {b = after_steps && sees outside m.Step ts} e (λ _ f. refused f)
      (λ _ f. got {o = rule.unit_by (mark ts) ts} f (λ k t1 e1 f1.
      as-read (λ u us. Read us rest ys → Read ts rest (made.at u.place ∷ a_unit u.kind ∷ ys)) f1 (λ q. on-place (on-made (unit-by (mark ts) ts t1 k refl e1) q)) r))

  -- units have been read, behind those found, up to the end token
  record UnitsRead (found us : List ModuleUnit) (ts mid : Tokens) : Type 0 where
    pub new : List ModuleUnit
    pub are : us ≡ found ++ new
    pub read : Derives (units new) ts mid
    pub ends : (first mid).tok ≡ tok.End

  units-from : (turns : ℕ) (after_steps : Bool) (found : List ModuleUnit) (ts mid : Tokens) (us : List ModuleUnit) → rule.units_from turns after_steps found ts ≡ Ok (us, mid) → UnitsRead found us ts mid
  unfolding rule.units_from mark
  units-from zero after_steps found ts mid us e = refused e
  units-from (suc turns) after_steps found ts mid us e = by-test {b = sees outside m.End ts} e
      (λ yes f. as-read (λ us rest. UnitsRead found us ts rest) f
      (record { new = []; are = sym (append-nil found); read = record { parts = _; made = made.no_units; read = nothing }; ends = end-token (first ts).tok (seen m.End ts yes) }))
      (λ _ f. by-test {b = sees outside m.Rule ts} f
      (λ yes g. let h = units-from turns false found (next ts) mid us g in
      record { new = h.new; are = h.are; read = record { parts = _; made = made.rule_between h.new; read = on-sign m.Rule refl (seen m.Rule ts yes) (on-made h.read nothing) }; ends = h.ends })
      (λ _ g. got {o = rule.unit_of after_steps ts} g (λ u t1 e1 f1. let h = units-from turns (rule.is_by_steps u.kind) (found ++ u ∷ []) t1 mid us f1 in record {
        new = u ∷ h.new;
        are = h.are ∙ append_assoc found (u ∷ []) h.new;
        read = record { parts = _; made = made.further_units u h.new; read = on-unit after_steps e1 (on-made h.read nothing) };
        ends = h.ends;
      })))

  pub spelt : ReadInOrder
  unfolding rule.module_of rule.units
  spelt x header ts u e = let w = module-is x header _ u e in got {o = rule.extends ts} w.3 (λ es t1 e1 f1. got {o = rule.units t1} f1 (λ us t2 e2 f2.
      let z = same-end (es, us) (w.0, w.1) t2 w.2 f2 in
      let h = units-from (length t1) false [] t1 t2 us e2 in
      let b = on-extends e1 (on-made h.read nothing) in
      let spells = subst (λ l. Spelled (names_after m.Extends b.0 (units l ∷ [])) b.2.used t2) (sym h.are) b.2.spelled in
      subst (λ v. IsInOrder x header ts v) (ap (λ q. record { name = x; header = header; extends = q.0; units = q.1 }) z.0 ∙ w.4)
      (b.2.used, t2, b.2.is, h.ends, refl, refl, (b.0, b.1, spells))))
