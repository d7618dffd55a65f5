-- The names of what tokens spell stand at places of these tokens: modules.
use Rattle.std.proofs.Common.{◌≡◌, ◌≤◌, ◌+◌, ℕ, zero, suc, Bool, true, false, List, [], ◌∷◌, ◌++◌, map, Option, Some, None, refl, arith}
use Rattle.tla_ast.specs.declared.place.Place.{Place}
use Rattle.tla_ast.specs.declared.token.Token.{Token}
use Rattle.tla_ast.specs.declared.tree.Decl.{Decl}
use Rattle.tla_ast.specs.declared.tree.Node.{Node}
use Rattle.tla_ast.specs.declared.unit.Statement.{Statement}
use Rattle.tla_ast.specs.declared.unit.Proof.{Proof}
use Rattle.tla_ast.specs.declared.unit.UnitKind.{UnitKind}
use Rattle.tla_ast.specs.declared.unit.UnitKind.TheVariants as unit
use Rattle.tla_ast.specs.declared.unit.Unit.{Unit as source_unit}
use Rattle.token_reader.specs.declared.mark.Mark.{Mark}
use Rattle.token_reader.specs.declared.mark.Mark.TheVariants as m
use Rattle.token_reader.specs.Input.{Tokens}
use Rattle.layout_parser.specs.Spelling as spell
use Rattle.plain_syntax.specs.Syntax.{term_of, statement_of, proof_of, kind_of, unit_of, terms_of, each_def}
use Rattle.proof_parser.specs.Spelling.{Symbol, one, step_token, at, phrase, an_item, a_statement, a_fact, cited, groups, a_kind, a_proof, body, steps, a_step, a_unit, units, Symbols, Fits, sign, optional, expression, listed, blanks, arguments, constant, constants, names_after, name_of, Made, Spelled, none, token, of_place, of_phrase, of_parts}
use Rattle.name_places.specs.Places.{places, all_places, definition_places}
use Rattle.name_places.specs.Places.{statement_places, proof_places, name_places, unit_places, units_places}
use Rattle.reading_places.proofs.Counting.{hit, count, count-append, met, total}
use Rattle.reading_places.proofs.Nodes.{in_node, in_decls, of-name, all-parts, defined}
use Rattle.reading_places.proofs.Symbols as y
use Rattle.reading_places.proofs.Expressions as e
use Rattle.reading_places.proofs.Clauses.{in_item, in_statement, in_fact, in_cited, in_groups, in_kind, in_proof, in_step, of-statement, of-named, of-take, of-pick, of-add, of-hide, of-bounds, of-free, of-step, of-missing, of-obvious, of-omitted, of-by, of-steps}

module _ (p : Place) where
  -- ---- units

  abbrev pub in_unit : UnitKind → ℕ
  in_unit k = count p (unit_places (kind_of k))

  abbrev in_name : Option Decl → ℕ
  in_name None = 0
  in_name (Some d) = hit p d.place

  of-name-places : (x : Option Decl) → count p (name_places x) ≡ in_name x
  of-name-places None = refl
  of-name-places (Some d) = omega arith

  of-assume : (x : Option Decl) (n : Node) → in_unit (unit.Assume x n) ≡ in_node p n + in_name x
  of-assume x n = omega (arith, count-append p (places (term_of n)) (name_places x), of-name-places x)

  of-theorem : (x : Option Decl) (s : Statement) (w : Proof) → in_unit (unit.Theorem x s w) ≡ in_statement p s + in_proof p w + in_name x
  of-theorem x s w =
      omega (
        arith,
        count-append p (statement_places (statement_of s) ++ proof_places (proof_of w)) (name_places x),
        count-append p (statement_places (statement_of s)) (proof_places (proof_of w)),
        of-statement p s,
        of-name-places x,
      )

  pub of-units : (us : List source_unit) → count p (units_places (map unit_of us)) ≡ total (λ (u : source_unit). in_unit u.kind) us
  of-units [] = refl
  of-units (u ∷ us) = omega (arith, count-append p (unit_places (kind_of u.kind)) (units_places (map unit_of us)), of-units us)

  -- ---- symbols

  -- the names of a symbol
  abbrev in_symbol : Symbol → ℕ
  in_symbol (one z) = y.in_symbol p z
  in_symbol (step_token level label place) = 0
  in_symbol (at place) = 0
  in_symbol (phrase zs) = y.in_symbols p zs
  in_symbol (an_item x) = in_item p x
  in_symbol (a_statement s) = in_statement p s
  in_symbol (a_fact hides f) = in_fact p f
  in_symbol (cited hides c) = in_cited p c.0 c.1
  in_symbol (groups gs) = in_groups p gs
  in_symbol (a_kind k) = in_kind p k
  in_symbol (a_proof levels x) = in_proof p x
  in_symbol (body levels x) = in_proof p x
  in_symbol (steps levels ss) = total (in_step p) ss
  in_symbol (a_step levels s) = in_step p s
  in_symbol (a_unit k) = in_unit k
  in_symbol (units us) = total (λ (u : source_unit). in_unit u.kind) us

  abbrev pub in_symbols : Symbols → ℕ
  in_symbols = total in_symbol

  fitting : (z : Symbol) (t : Token) → Fits z t → in_symbol z ≤ hit p t.place
  fitting (one z) t h = y.fitting p z t h
  fitting (step_token level label place) t h = omega arith
  fitting _ t h = absurd h

  of-optional : (k : Mark) (b : Bool) (zs : Symbols) → in_symbols (optional k b zs) ≡ in_symbols zs
  of-optional k true zs = omega arith
  of-optional k false zs = refl

  of-listed : {A : Type 0} (f : A → Symbol) (x : A) (xs : List A) (zs : Symbols) → in_symbols (listed f x xs zs) ≡ total (λ a. in_symbol (f a)) (x ∷ xs) + in_symbols zs
  of-listed f x [] zs = omega arith
  of-listed f x (a ∷ xs) zs = omega (arith, of-listed f a xs zs)

  pub of-names-after : (k : Mark) (ds : List Decl) (zs : Symbols) → in_symbols (names_after k ds zs) ≡ in_decls p ds + in_symbols zs
  of-names-after k [] zs = omega arith
  of-names-after k (d ∷ ds) zs = omega (arith, y.of-names p d ds)

  of-name-of : (x : Option Decl) (zs : Symbols) → in_symbols (name_of x zs) ≡ in_name x + in_symbols zs
  of-name-of None zs = omega arith
  of-name-of (Some d) zs = omega arith

  of-blanks : (n : ℕ) → y.in_symbols p (blanks n) ≡ 0
  of-blanks zero = refl
  of-blanks (suc n) = omega (arith, of-blanks n)

  of-arguments : (n : ℕ) → y.in_symbols p (arguments n) ≡ 0
  of-arguments zero = refl
  of-arguments (suc n) = omega (arith, y.joined p (blanks n) (spell.sign m.CloseParen ∷ []), of-blanks n)

  of-constants : (d : Decl) (ds : List Decl) → y.in_symbols p (constants d ds) ≡ in_decls p (d ∷ ds)
  of-constants = y.between-total p spell.comma refl constant (λ (d : Decl). hit p d.place) (λ d. omega (arith, of-arguments d.arity))

  of-expression : (n : Node) → y.in_symbols p (spell.same 0 false n ∷ []) ≡ in_node p n
  of-expression n = omega arith

  -- ---- rules

  of-made : {z : Symbol} {zs : Symbols} → Made z zs → in_symbol z ≤ in_symbols zs
  of-made (Made.new_constant worded d set) =
      omega (arith, of-optional m.Constant worded (phrase (spell.declared d ∷ spell.set_of 0 false set) ∷ []), y.of-set p 0 false set)
  of-made (Made.new_variable d) = omega arith
  of-made (Made.new_state d) = omega arith
  of-made (Made.given n) = omega arith
  of-made (Made.goal_alone g) = omega arith
  of-made (Made.assuming x xs g) = omega (arith, of-listed an_item x xs (sign m.Prove ∷ expression g ∷ []))
  of-made (Made.step_name hides level label place) = omega arith
  of-made (Made.plain_fact place n) = omega arith
  of-made (Made.hidden x place) = omega (arith, of-name p x [] place)
  of-made (Made.names_alone hides d ds) = omega (arith, of-names-after m.Def (d ∷ ds) [])
  of-made (Made.facts_first hides f fs ds) = omega (arith, of-listed (a_fact hides) f fs (names_after m.Def ds []), of-names-after m.Def ds [])
  of-made (Made.with_sets b bs) = omega (arith, of-bounds p (b ∷ bs), y.of-bounds p 0 false b bs)
  of-made (Made.without_set d ds) = omega (arith, of-free p (d ∷ ds), y.of-names p d ds)
  of-made (Made.asserts s) = omega (arith, count-append p (statement_places (statement_of s)) [], of-statement p s)
  of-made (Made.case n) = omega (arith, count-append p (places (term_of n)) [])
  of-made (Made.suffices s) = omega (arith, count-append p (statement_places (statement_of s)) [], of-statement p s)
  of-made (Made.have n) = omega (arith, count-append p (places (term_of n)) [])
  of-made (Made.takes gs) = omega (arith, of-take p gs)
  of-made (Made.witness x xs) = omega (arith, count-append p (all_places (terms_of (map term_of (x ∷ xs)))) [], all-parts p (x ∷ xs), y.of-expressions p 0 false x xs)
  of-made (Made.picks gs n) = omega (arith, of-pick p gs n)
  of-made (Made.defines worded d ds) =
      omega (arith, count-append p (definition_places (each_def (map spell.def_of (d ∷ ds)))) [], defined p (d ∷ ds), y.of-definitions p 0 false d ds, of-optional m.Define worded (phrase (spell.definitions 0 false d ds) ∷ []))
  of-made (Made.of_use c) = omega (arith, of-add p c.0 c.1)
  of-made (Made.of_hide c) = omega (arith, of-hide p c.0 c.1)
  of-made Made.qed = omega arith
  of-made (Made.missing levels) = omega (arith, of-missing p)
  of-made (Made.there levels worded x) = omega (arith, of-optional m.Proof worded (body levels x ∷ []))
  of-made (Made.obvious levels place) = omega (arith, of-obvious p place)
  of-made (Made.omitted levels place) = omega (arith, of-omitted p place)
  of-made (Made.by levels place only c) = omega (arith, of-by p place only c.0 c.1, of-optional m.Only only (cited false c ∷ []))
  of-made (Made.by_steps levels level ss h) = omega (arith, of-steps p ss)
  of-made (Made.last_step levels s h) = omega arith
  of-made (Made.further_steps levels s ss h) = omega arith
  of-made (Made.step levels level label place k x h) = omega (arith, of-step p place level label k x)
  of-made (Made.constants_unit several d ds) = omega (arith, of-named p (d ∷ ds) [], of-constants d ds)
  of-made (Made.variables_unit several d ds) = omega (arith, of-named p (d ∷ ds) [], y.of-names p d ds)
  of-made (Made.assumption is_axiom x n) = omega (arith, of-assume x n, of-name-of x (expression n ∷ []))
  of-made (Made.definition_unit d) = omega (arith, defined p (d ∷ []), y.of-definition p 0 false d)
  of-made (Made.theorem x s w) = omega (arith, of-theorem x s w, of-name-of x (a_statement s ∷ a_proof [] w ∷ []))
  of-made Made.no_units = omega arith
  of-made (Made.rule_between us) = omega arith
  of-made (Made.further_units u us) = omega arith

  -- ---- spellings

  -- each name of the symbols stands at a token of its own
  pub spelled : {zs : Symbols} {used rest : Tokens} → Spelled zs used rest → in_symbols zs ≤ met p used
  spelled none = omega arith
  spelled (token {y = z} t h fits s) = omega (arith, fitting z t fits, spelled s)
  spelled (of_place h s) = omega (arith, spelled s)
  spelled (of_phrase {used = used} {more = more} s r) = omega (arith, e.spelled p s, spelled r, e.met-append p used more)
  spelled (of_parts {used = used} {more = more} made s r) = omega (arith, of-made made, spelled s, spelled r, e.met-append p used more)
