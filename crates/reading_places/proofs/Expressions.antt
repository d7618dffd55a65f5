-- The names of what tokens spell stand at places of these tokens: expressions.
use Rattle.std.proofs.Common.{◌≡◌, ◌≤◌, ◌+◌, ℕ, Bool, List, [], ◌∷◌, ◌++◌, refl, ap, arith}
use Rattle.tla_ast.specs.declared.place.Place.{Place}
use Rattle.tla_ast.specs.declared.token.Token.{Token}
use Rattle.tla_ast.specs.declared.tree.Decl.{Decl}
use Rattle.tla_ast.specs.declared.tree.Node.{Node}
use Rattle.operator_chain.specs.declared.chain.Ending.{Ending}
use Rattle.operator_chain.specs.declared.chain.Ending.TheVariants as ending
use Rattle.operator_chain.specs.declared.chain.Piece.{Piece}
use Rattle.operator_chain.specs.declared.chain.Piece.TheVariants as piece
use Rattle.operator_chain.specs.Tree.{Tree, leaf, prefixed, suffixed, joined, node_of, ended, flat}
use Rattle.token_reader.specs.declared.mark.Mark.{Mark}
use Rattle.token_reader.specs.declared.mark.Mark.TheVariants as m
use Rattle.token_reader.specs.Input.{Tokens}
use Rattle.layout_parser.specs.Spelling.{Symbols, sign, same, junction_mark, expressions, fields, updates, bounds, names, set_of, Arm, arm_parts, names_of, arms, definitions, pieces, piece_symbols, ending_symbols, Subscript, Operand, Spelled, none, token, of_no_bullet, of_operand, of_tree}
use Rattle.layout_parser.specs.Spelling.Subscript.{identifier, empty_tuple, tuple, parentheses}
use Rattle.reading_places.proofs.Counting.{hit, met, total, total-append}
use Rattle.reading_places.proofs.Nodes.{in_node, in_nodes, in_values, of-name, of-call, of-prefix, of-infix, of-prime, of-index, of-field, of-enum, of-tuple, of-functions, of-box, of-angle, of-junction, of-conditional, of-cases, of-at, of-fair, of-filter, of-image, of-function, of-fields, of-field-sets, of-except, of-bounded, of-unbounded, of-choice, of-local}
use Rattle.reading_places.proofs.Symbols as y
use Rattle.reading_places.proofs.Symbols.{in_symbols, fitting}

module _ (p : Place) where
  -- ---- operands

  closed : (ys : Symbols) (k : Mark) → in_symbols p (ys ++ sign k ∷ []) ≡ in_symbols p ys
  closed ys k = omega (arith, y.joined p ys (sign k ∷ []))

  of-subscript : {region : ℕ} {has_at : Bool} {n : Node} {ys : Symbols} → Subscript region has_at n ys → in_node p n ≤ in_symbols p ys
  of-subscript (identifier x place) = omega (arith, of-name p x [] place)
  of-subscript (empty_tuple place) = omega (arith, of-tuple p [] place)
  of-subscript {region} {has_at} (tuple x xs place) =
      omega (arith, of-tuple p (x ∷ xs) place, closed (expressions region has_at x xs) m.CloseAngle, y.of-expressions p region has_at x xs)
  of-subscript (parentheses n) = omega arith

  in_arms : (more : List Arm) → in_nodes p (arm_parts more) ≡ total (y.in_arm p) more
  in_arms [] = refl
  in_arms (a ∷ more) = omega (arith, in_arms more)

  -- the names of the fields themselves are not counted
  in_fields : (fs : List (Decl × Node)) → in_values p fs ≤ total (y.in_field p) fs
  in_fields [] = omega arith
  in_fields (f ∷ fs) = omega (arith, in_fields fs)

  of-operand : {region : ℕ} {has_at : Bool} {n : Node} {ys : Symbols} → Operand region has_at n ys → in_node p n ≤ in_symbols p ys
  of-operand (Operand.plain n ys s) = of-subscript s
  of-operand (Operand.value x place) = omega (arith, of-name p x [] place)
  of-operand (Operand.number f place) = omega arith
  of-operand (Operand.text f place) = omega arith
  of-operand {region} {has_at} (Operand.call f x xs place) =
      omega (arith, of-call p f (x ∷ xs) place, closed (expressions region has_at x xs) m.CloseParen, y.of-expressions p region has_at x xs)
  of-operand (Operand.angle_action a v ys place s) = omega (arith, of-angle p (a ∷ v ∷ []) place, of-subscript s)
  of-operand {region} {has_at} (Operand.fair strong v a ys place s) =
      omega (arith, of-fair p strong (v ∷ a ∷ []) place, of-subscript s, y.joined p ys (sign m.OpenParen ∷ same region has_at a ∷ sign m.CloseParen ∷ []))
  of-operand (Operand.empty_set place) = omega (arith, of-enum p [] place)
  of-operand {region} {has_at} (Operand.enumeration x xs place) =
      omega (arith, of-enum p (x ∷ xs) place, closed (expressions region has_at x xs) m.CloseBrace, y.of-expressions p region has_at x xs)
  of-operand (Operand.filter x set condition place) = omega (arith, of-filter p x set condition place)
  of-operand (Operand.image d set e) = omega (arith, of-image p d.name set e d.place)
  of-operand (Operand.function x set e place) = omega (arith, of-function p x set e place)
  of-operand (Operand.function_set x y place) = omega (arith, of-functions p (x ∷ y ∷ []) place)
  of-operand {region} {has_at} (Operand.records f fs place) =
      omega (arith, of-fields p (names_of (f ∷ fs)) (f ∷ fs) place, closed (fields region has_at m.Maps f fs) m.CloseSquare, y.of-field-list p region has_at m.Maps f fs, in_fields fs)
  of-operand {region} {has_at} (Operand.record_set f fs place) =
      omega (arith, of-field-sets p (names_of (f ∷ fs)) (f ∷ fs) place, closed (fields region has_at m.Colon f fs) m.CloseSquare, y.of-field-list p region has_at m.Colon f fs, in_fields fs)
  of-operand {region} {has_at} (Operand.except f u us place) =
      omega (arith, of-except p f (u ∷ us) place, closed (updates region has_at u us) m.CloseSquare, y.of-updates p region has_at u us)
  of-operand (Operand.box_action a v ys place s) = omega (arith, of-box p (a ∷ v ∷ []) place, of-subscript s)
  of-operand {region} {has_at} (Operand.bounded all b bs body place) =
      omega (arith, of-bounded p all (b ∷ bs) body place, y.joined p (bounds region has_at b bs) (sign m.Colon ∷ same region has_at body ∷ []), y.of-bounds p region has_at b bs)
  of-operand {region} {has_at} (Operand.unbounded all d ds body place) =
      omega (arith, of-unbounded p all (d ∷ ds) body place, y.joined p (names d ds) (sign m.Colon ∷ same region has_at body ∷ []), y.of-names p d ds)
  of-operand {region} {has_at} (Operand.choose d set body place) =
      omega (arith, of-choice p d set body place, y.joined p (set_of region has_at set) (sign m.Colon ∷ same region has_at body ∷ []), y.of-set p region has_at set)
  of-operand (Operand.conditional test positive negative place) = omega (arith, of-conditional p (test ∷ positive ∷ negative ∷ []) place)
  of-operand {region} {has_at} (Operand.cases a more place) =
      omega (arith, of-cases p Bool.false (arm_parts (a ∷ more)) place, in_arms (a ∷ more), y.of-arms p region has_at a more)
  of-operand {region} {has_at} (Operand.cases_with_other a more e place) =
      omega (
        arith,
        of-cases p Bool.true (arm_parts (a ∷ more) ++ e ∷ []) place,
        total-append (in_node p) (arm_parts (a ∷ more)) (e ∷ []),
        in_arms (a ∷ more),
        y.joined p (arms region has_at a more) (sign m.Always ∷ sign m.Other ∷ sign m.Arrow ∷ same region has_at e ∷ []),
        y.of-arms p region has_at a more,
      )
  of-operand {region} {has_at} (Operand.local d ds body place) =
      omega (arith, of-local p (d ∷ ds) body place, y.joined p (definitions region has_at d ds) (sign m.In ∷ same region has_at body ∷ []), y.of-definitions p region has_at d ds)
  of-operand {region} {has_at} (Operand.junction all x xs place) =
      omega (arith, of-junction p all (x ∷ xs) place, y.of-items p region has_at (junction_mark all) place.column xs)
  of-operand (Operand.at_sign place h) = omega (arith, of-at p [] place)

  -- ---- trees of operands and operators

  module _ (region : ℕ) (has_at : Bool) where
    pieces-joined : (xs ys : List Piece) → in_symbols p (pieces region has_at (xs ++ ys)) ≡ in_symbols p (pieces region has_at xs) + in_symbols p (pieces region has_at ys)
    pieces-joined [] ys = omega arith
    pieces-joined (x ∷ xs) ys =
        omega (arith, pieces-joined xs ys, y.joined p (piece_symbols region has_at x) (pieces region has_at (xs ++ ys)), y.joined p (piece_symbols region has_at x) (pieces region has_at xs))

    of-ending : (e : Ending) (n : Node) (place : Place) → in_node p (ended e n place) ≡ in_node p n + in_symbols p (ending_symbols region has_at e place)
    of-ending ending.Prime n place = omega (arith, of-prime p (n ∷ []) place)
    of-ending (ending.Index e) n place = omega (arith, of-index p (n ∷ e ∷ []) place)
    of-ending (ending.Field h) n place = omega (arith, of-field p h (n ∷ []) place)

    of-node : (t : Tree) → in_node p (node_of t) ≡ in_symbols p (pieces region has_at (flat t))
    of-node (leaf n) = omega arith
    of-node (prefixed o t) = omega (arith, of-prefix p o.sign (node_of t ∷ []) o.place, of-node t)
    of-node (suffixed t q) =
        omega (arith, of-ending q.ending (node_of t) q.place, of-node t, pieces-joined (flat t) (piece.Postfix q ∷ []), y.joined p (ending_symbols region has_at q.ending q.place) [])
    of-node (joined l o r) =
        omega (arith, of-infix p o.sign (node_of l ∷ node_of r ∷ []) o.place, of-node l, of-node r, pieces-joined (flat l) (piece.Infix o ∷ flat r))

  -- ---- spellings

  pub met-append : (ts us : Tokens) → met p (ts ++ us) ≡ met p ts + met p us
  met-append = total-append (λ (t : Token). hit p t.place)

  -- each name of the symbols stands at a token of its own
  pub spelled : {region : ℕ} {has_at : Bool} {ys : Symbols} {used rest : Tokens} → Spelled region has_at ys used rest → in_symbols p ys ≤ met p used
  spelled none = omega arith
  spelled (token {y = y} t may fits s) = omega (arith, fitting p y t fits, spelled s)
  spelled (of_no_bullet h s) = omega (arith, spelled s)
  spelled (of_operand {used = used} {more = more} o s r) = omega (arith, of-operand o, spelled s, spelled r, met-append used more)
  spelled (of_tree {inner = inner} {at = at} {used = used} {more = more} t e right listed within stops s r) =
      omega (arith, ap (in_node p) e, of-node inner at t, spelled s, spelled r, met-append used more)
