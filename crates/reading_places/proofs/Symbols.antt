-- How often a place is that of a name in symbols of the grammar of expressions.
use Rattle.std.proofs.Common.{◌≡◌, ◌≤◌, ◌+◌, ℕ, Bool, List, [], ◌∷◌, ◌++◌, map, Option, Some, None, refl, ap, arith}
use Rattle.tla_ast.specs.declared.place.Place.{Place}
use Rattle.tla_ast.specs.declared.token.Token.{Token}
use Rattle.tla_ast.specs.declared.token.Tok.{Tok}
use Rattle.tla_ast.specs.declared.token.Tok.TheVariants as tok
use Rattle.tla_ast.specs.declared.tree.Decl.{Decl}
use Rattle.tla_ast.specs.declared.tree.Node.{Node}
use Rattle.tla_ast.specs.declared.tree.Key.{Key}
use Rattle.tla_ast.specs.declared.tree.Key.TheVariants as key
use Rattle.operator_chain.specs.declared.chain.Operator.{Operator}
use Rattle.token_reader.specs.declared.mark.Mark.{Mark}
use Rattle.token_reader.specs.declared.mark.Mark.TheVariants as m
use Rattle.token_reader.specs.Input.{literal_form}
use Rattle.layout_parser.specs.Reading.{node, operator_at}
use Rattle.layout_parser.specs.Spelling.{Symbol, sign, sign_at, bullet, word, field_name, declared, literal, operator_sign, no_bullet, operand, expression, Symbols, Fits, between, comma, names, parameters, Update, Bound, Arm, Definition, same, expressions, field, fields, key_symbols, keys, update, updates, bound, bounds, set_of, arm, arms, definition, definitions, items}
use Rattle.reading_places.proofs.Counting.{hit, total, total-append}
use Rattle.reading_places.proofs.Nodes.{in_node, in_nodes, in_decls, in_key, in_update, in_bound, in_set, in_definition, of-number, of-text, of-at}

module _ (p : Place) where
  -- the names of a symbol
  abbrev pub in_symbol : Symbol → ℕ
  in_symbol (sign k) = 0
  in_symbol (sign_at k place) = 0
  in_symbol (bullet k column) = 0
  in_symbol (word k text place) = hit p place
  in_symbol (field_name text) = 0
  in_symbol (declared d) = hit p d.place
  in_symbol (literal k f place) = in_node p (node f [] place)
  in_symbol (operator_sign fix o) = hit p o.place
  in_symbol (no_bullet k column) = 0
  in_symbol (operand n) = in_node p n
  in_symbol (expression region at n) = in_node p n

  abbrev pub in_symbols : Symbols → ℕ
  in_symbols = total in_symbol

  pub joined : (xs ys : Symbols) → in_symbols (xs ++ ys) ≡ in_symbols xs + in_symbols ys
  joined = total-append in_symbol

  -- ---- a token

  no-names : (t : Tok) (place : Place) → in_node p (node (literal_form t) [] place) ≡ 0
  no-names (tok.Number n) place = of-number p n [] place
  no-names (tok.Str s) place = of-text p s [] place
  no-names _ place = of-at p [] place

  operator-place : (t : Token) (row : Option (ℕ × ℕ × Bool)) (o : Operator) → operator_at t row ≡ Some o → t.place ≡ o.place
  operator-place t (Some row) o e = cc
  operator-place t None o e = cc

  -- the names of a symbol stand at the place of its token
  pub fitting : (y : Symbol) (t : Token) → Fits y t → in_symbol y ≤ hit p t.place
  fitting (sign k) t h = omega arith
  fitting (sign_at k place) t h = omega arith
  fitting (bullet k column) t h = omega arith
  fitting (word k text place) t h = let e = ap (hit p) h.2 in omega arith
  fitting (field_name text) t h = omega arith
  fitting (declared d) t h = let e = ap (λ (d : Decl). hit p d.place) h.1 in omega arith
  fitting (literal k f place) t h = let e = ap (λ f. in_node p (node f [] place)) h.1 in omega (arith, no-names t.tok place)
  fitting (operator_sign fix o) t h = let e = ap (hit p) (operator-place t _ o h) in omega arith
  fitting (operand n) t h = absurd h
  fitting (no_bullet k column) t h = absurd h
  fitting (expression region at n) t h = absurd h

  -- ---- parts with symbols between

  pub between-total : {A : Type 0} (sep : Symbols) → in_symbols sep ≡ 0 → (f : A → Symbols) (g : A → ℕ) → ((a : A) → in_symbols (f a) ≡ g a)
      → (x : A) (xs : List A) → in_symbols (between sep (f x) (map f xs)) ≡ g x + total g xs
  between-total sep z f g e x [] = omega (arith, e x)
  between-total sep z f g e x (y ∷ ys) =
      omega (arith, joined (f x) (sep ++ between sep (f y) (map f ys)), joined sep (between sep (f y) (map f ys)), between-total sep z f g e y ys, e x)

  pub of-names : (d : Decl) (ds : List Decl) → in_symbols (names d ds) ≡ in_decls p (d ∷ ds)
  of-names = between-total comma refl (λ d. declared d ∷ []) (λ (d : Decl). hit p d.place) (λ d. omega arith)

  of-parameters : (ds : List Decl) → in_symbols (parameters ds) ≡ in_decls p ds
  of-parameters [] = refl
  of-parameters (d ∷ ds) = omega (arith, joined (names d ds) (sign m.CloseParen ∷ []), of-names d ds)

  abbrev pub in_field : Decl × Node → ℕ
  in_field f = hit p f.0.place + in_node p f.1

  abbrev pub in_arm : Arm → ℕ
  in_arm a = in_node p a.0 + in_node p a.1

  module _ (region : ℕ) (has_at : Bool) where
    pub of-expressions : (x : Node) (xs : List Node) → in_symbols (expressions region has_at x xs) ≡ in_node p x + in_nodes p xs
    of-expressions = between-total comma refl (λ n. same region has_at n ∷ []) (in_node p) (λ n. omega arith)

    pub of-field-list : (k : Mark) (f : Decl × Node) (fs : List (Decl × Node)) → in_symbols (fields region has_at k f fs) ≡ in_field f + total in_field fs
    of-field-list k = between-total comma refl (field region has_at k) in_field (λ f. omega arith)

    of-key : (k : Key) → in_symbols (key_symbols region has_at k) ≡ in_key p k
    of-key (key.At n) = omega arith
    of-key (key.Field h) = refl

    of-update : (u : Update) → in_symbols (update region has_at u) ≡ in_update p u
    of-update u =
        omega (arith, joined (keys region has_at u.0 u.1) (sign m.Equal ∷ expression region Bool.true u.2 ∷ []), between-total [] refl (key_symbols region has_at) (in_key p) of-key u.0 u.1)

    pub of-updates : (u : Update) (us : List Update) → in_symbols (updates region has_at u us) ≡ in_update p u + total (in_update p) us
    of-updates = between-total comma refl (update region has_at) (in_update p) of-update

    of-bound : (b : Bound) → in_symbols (bound region has_at b) ≡ in_bound p b
    of-bound b = omega (arith, joined (names b.0 b.1) (sign m.Belongs ∷ same region has_at b.2 ∷ []), of-names b.0 b.1)

    pub of-bounds : (b : Bound) (bs : List Bound) → in_symbols (bounds region has_at b bs) ≡ in_bound p b + total (in_bound p) bs
    of-bounds = between-total comma refl (bound region has_at) (in_bound p) of-bound

    pub of-set : (set : Option Node) → in_symbols (set_of region has_at set) ≡ in_set p set
    of-set None = refl
    of-set (Some n) = omega arith

    pub of-arms : (a : Arm) (more : List Arm) → in_symbols (arms region has_at a more) ≡ in_arm a + total in_arm more
    of-arms = between-total (sign m.Always ∷ []) refl (arm region has_at) in_arm (λ a. omega arith)

    pub of-definition : (d : Definition) → in_symbols (definition region has_at d) ≡ in_definition p d
    of-definition d = omega (arith, joined (parameters d.1) (sign m.Defines ∷ same region has_at d.2 ∷ []), of-parameters d.1)

    pub of-definitions : (d : Definition) (ds : List Definition) → in_symbols (definitions region has_at d ds) ≡ in_definition p d + total (in_definition p) ds
    of-definitions = between-total [] refl (definition region has_at) (in_definition p) of-definition

    pub of-items : (k : Mark) (column : ℕ) (ns : List Node) → in_symbols (items region has_at k column ns) ≡ in_nodes p ns
    of-items k column [] = refl
    of-items k column (n ∷ ns) = omega (arith, of-items k column ns)
