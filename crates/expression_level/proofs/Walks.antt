-- The walk of the code over an expression gives its weight.
use Rattle.std.proofs.Common.{◌≡◌, ◌⊎◌, inl, inr, ◌≤◌, ◌<◌, ◌++◌, ◌+◌, ◌-◌, ℕ, zero, suc, Bool, true, false, if◌then◌else◌, List, [], ◌∷◌, fold, map, take, drop, length, get_or, Option, Some, None, refl, sym, ap, subst, ◌∙◌, arith, append_assoc, append-nil, add-one}
use Rattle.std.proofs.lemmas.Grind.{fold-append, common_steps}
use Rattle.std.proofs.lemmas.List.{length-map, nil_from_length}
use Rattle.std.specs.Prelude.{Result, Ok, Err, IfOk, OnOk}
use Rattle.std.specs.Borrow.{Bor}
use Rattle.core_expr.specs.declared.memory.Memory.{Memory}
use Rattle.tla_ast.specs.declared.place.Place.{Place}
use Rattle.tla_ast.specs.declared.tree.Decl.{Decl}
use Rattle.tla_ast.specs.declared.tree.Node.{Node, out-Node}
use Rattle.tla_ast.specs.declared.tree.Form.{Form, out-Form, roll-Form, roll-out-Form}
use Rattle.tla_ast.specs.declared.tree.Form.TheFolds.{fold-roll-Form}
use Rattle.tla_ast.specs.declared.tree.Form.TheOpen.{Form-F, Key-F}
use Rattle.tla_ast.specs.declared.tree.Form.TheVariants as form
use Rattle.tla_ast.specs.declared.tree.Form.TheVariants.{rolls-Name, rolls-Call, rolls-Except, rolls-Quant, rolls-Choose, rolls-Let, rolls-BoxAct, rolls-AngleAct, rolls-At}
use Rattle.tla_ast.specs.declared.tree.Key.{Key, out-Key, roll-Key, roll-out-Key}
use Rattle.tla_ast.specs.declared.tree.Key.TheVariants as key
use Rattle.tla_ast.specs.declared.tree.Path.{Path, out-Path}
use Rattle.tla_ast.specs.declared.tree.Group.{Group, out-Group}
use Rattle.tla_ast.specs.declared.tree.Def.{Def, out-Def}
use Rattle.plain_syntax.specs.Plain.{Text, Term, Terms, Shape, Keys, Groups, Defs}
use Rattle.plain_syntax.specs.Plain.Term.{term}
use Rattle.plain_syntax.specs.Plain.Terms.{none, part}
use Rattle.plain_syntax.specs.Plain.{Shape as s}
use Rattle.plain_syntax.specs.Syntax.{Held, shape_of, key_of, def_of, group_of, node_of, path_of, term_of, terms_of, keys_of, key_keys, each_key, groups_of, each_def, with_domain, set_of, except_of}
use Rattle.plain_syntax.specs.Order.{order, orders, joined_by, joins}
use Rattle.plain_syntax.proofs.Forms.{held, by-form, parts_in, is-name, is-call, is-box, is-angle, is-except, is-choice, is-path, is-key, is-field-key, is-group, is-def}
use Rattle.expression_level.specs.Weights.{Weight, Known, acted, primed_if, join, total, nothing, form_weight, result_so_far, asked_round}
use Rattle.expression_level.specs.Scope.{Names, applied, weight_of, weights_of, turned, count, ruled, by_form, updates_on, excepted, sets_of, keys_on, bodies_of, domain_weight, with_definition, with_all, body_weight}
use Rattle.expression_level.proofs.Uses.{join-assoc, nothing-joined, joined-nothing}

-- ---- loops

pub next-one : {X : Type 0} (xs : List X) (i j : ℕ) (x : X) → j ≡ i + 1 → i < length xs → x ≡ get_or xs i x → drop i xs ≡ x ∷ drop j xs
next-one xs i j x e h a = grind (arith, common_steps)

pub all-past : {X : Type 0} (xs : List X) (i : ℕ) → length xs ≤ i → drop i xs ≡ []
all-past xs i h = grind (arith, common_steps)

-- one more item of a list that is taken together
pub rest-next : {X : Type 0} (f : X → Weight) (g : List X → Weight) → ((x : X) (xs : List X) → g (x ∷ xs) ≡ join (f x) (g xs)) → (all now next w : Weight) (xs : List X) (i : ℕ) (x : X)
    → join now (g (drop i xs)) ≡ all → i < length xs → x ≡ get_or xs i x → w ≡ f x → next ≡ join now w → join next (g (drop (i + 1) xs)) ≡ all
rest-next f g h all now next w xs i x r l e u n =
    ap (λ y. join y (g (drop (i + 1) xs))) (n ∙ ap (join now) u) ∙ join-assoc now (f x) (g (drop (i + 1) xs))
    ∙ ap (join now) (sym (h x (drop (i + 1) xs))) ∙ ap (λ y. join now (g y)) (sym (next-one xs i (i + 1) x refl l e)) ∙ r

pub rest-ends : {X : Type 0} (g : List X → Weight) → g [] ≡ nothing → (all now : Weight) (xs : List X) (i : ℕ) → join now (g (drop i xs)) ≡ all → length xs ≤ i → now ≡ all
rest-ends g h all now xs i r l = sym (joined-nothing now) ∙ ap (join now) (sym (ap g (all-past xs i l) ∙ h)) ∙ r

-- ---- operators, one after another

operated : (g : List Weight → Weight) (stack ws : List Weight) (n : ℕ) → length ws ≡ n
    → take (length (stack ++ ws) - n) (stack ++ ws) ++ g (drop (length (stack ++ ws) - n) (stack ++ ws)) ∷ [] ≡ stack ++ g ws ∷ []
operated g stack ws n e = grind (arith, common_steps)

module _ (c : Names) (d : ℕ) (k : Known) where
  pub length-each : (ts : Terms) → length (weights_of c d k [] ts) ≡ count ts
  length-each none = refl
  length-each (part t ts) = ap suc (length-each ts)

  -- an operator comes behind its operands
  operator : (f : Shape) (ts : Terms) (p : Place) (stack : List Weight) → fold (turned c d k) stack (orders ts) ≡ stack ++ weights_of c d k [] ts
      → ((l : List Weight) → turned c d k l (term f ts p) ≡ take (length l - count ts) l ++ form_weight f p (total (drop (length l - count ts) l)) ∷ [])
      → fold (turned c d k) stack (orders ts ++ term f ts p ∷ []) ≡ stack ++ form_weight f p (total (weights_of c d k [] ts)) ∷ []
  operator f ts p stack e h =
      fold-append (turned c d k) stack (orders ts) (term f ts p ∷ []) ∙ ap (λ l. turned c d k l (term f ts p)) e ∙ h (stack ++ weights_of c d k [] ts)
      ∙ operated (λ ws. form_weight f p (total ws)) stack (weights_of c d k [] ts) (count ts) (length-each ts)

  mutual
    pub in-order : (t : Term) (stack : List Weight) → fold (turned c d k) stack (order t) ≡ stack ++ weight_of c d k t ∷ []
    in-order (term (s.prefixed o) ts p) stack = operator (s.prefixed o) ts p stack (all-in-order ts stack) (λ l. refl)
    in-order (term (s.infixed o) ts p) stack = operator (s.infixed o) ts p stack (all-in-order ts stack) (λ l. refl)
    in-order (term s.prime ts p) stack = operator s.prime ts p stack (all-in-order ts stack) (λ l. refl)
    in-order (term s.index ts p) stack = operator s.index ts p stack (all-in-order ts stack) (λ l. refl)
    in-order (term (s.field h) ts p) stack = operator (s.field h) ts p stack (all-in-order ts stack) (λ l. refl)
    in-order (term f ts p) stack = refl

    pub all-in-order : (ts : Terms) (stack : List Weight) → fold (turned c d k) stack (orders ts) ≡ stack ++ weights_of c d k [] ts
    all-in-order none stack = sym (append-nil stack)
    all-in-order (part t ts) stack =
        fold-append (turned c d k) stack (order t) (orders ts) ∙ ap (λ l. fold (turned c d k) l (orders ts)) (in-order t stack)
        ∙ all-in-order ts (stack ++ weight_of c d k t ∷ []) ∙ append_assoc stack (weight_of c d k t ∷ []) (weights_of c d k [] ts)

  count-of : (ts : List Term) → count (terms_of ts) ≡ length ts
  count-of [] = refl
  count-of (t ∷ ts) = ap suc (count-of ts)

  abbrev Unrolled : Type 0
  Unrolled = Form-F Form Key Def Group Node Path

  -- what a stack is after an operator with so many operands
  abbrev Operated : List Weight → ℕ → (List Weight → Weight) → List Weight
  Operated stack n g = take (length stack - n) stack ++ g (drop (length stack - n) stack) ∷ []

  abbrev Turns : List Weight → List Term → Place → (List Weight → Weight) → Bool → Held → Type 0
  Turns stack ts p g b h = turned c d k stack (h ts p) ≡ (if b then Operated stack (length ts) g else stack ++ weight_of c d k (h ts p) ∷ [])

  turns-except : (stack : List Weight) (ks : List Keys) (ts : List Term) (p : Place) (g : List Weight → Weight) → Turns stack ts p g false (except_of ks)
  turns-except stack ks [] p g = refl
  turns-except stack ks (t ∷ ts) p g = refl

  rolled : (stack : List Weight) (ts : List Term) (p : Place) (x : Unrolled) {h : Held} → held (roll-Form x) ≡ h → Turns stack ts p (λ ws. ruled x p (total ws)) (joined_by x) h
      → Turns stack ts p (λ ws. ruled x p (total ws)) (joined_by x) (held (roll-Form x))
  rolled stack ts p x e y = subst (Turns stack ts p (λ ws. ruled x p (total ws)) (joined_by x)) (sym e) y

  counted : (stack : List Weight) (ts : List Term) (p : Place) (f : Shape) → Operated stack (count (terms_of ts)) (λ ws. form_weight f p (total ws)) ≡ Operated stack (length ts) (λ ws. form_weight f p (total ws))
  counted stack ts p f = ap (λ n. Operated stack n (λ ws. form_weight f p (total ws))) (count-of ts)

  turns-rolled : (stack : List Weight) (ts : List Term) (p : Place) (x : Unrolled) → Turns stack ts p (λ ws. ruled x p (total ws)) (joined_by x) (held (roll-Form x))
  unfolding held
  turns-rolled stack ts p (Form-F.Prefix o) = rolled stack ts p (Form-F.Prefix o) (fold-roll-Form _ _ _ _ _ _ shape_of key_of def_of group_of node_of path_of (Form-F.Prefix o)) (counted stack ts p (s.prefixed o))
  turns-rolled stack ts p (Form-F.Infix o) = rolled stack ts p (Form-F.Infix o) (fold-roll-Form _ _ _ _ _ _ shape_of key_of def_of group_of node_of path_of (Form-F.Infix o)) (counted stack ts p (s.infixed o))
  turns-rolled stack ts p Form-F.Prime = rolled stack ts p Form-F.Prime (fold-roll-Form _ _ _ _ _ _ shape_of key_of def_of group_of node_of path_of Form-F.Prime) (counted stack ts p s.prime)
  turns-rolled stack ts p Form-F.Index = rolled stack ts p Form-F.Index (fold-roll-Form _ _ _ _ _ _ shape_of key_of def_of group_of node_of path_of Form-F.Index) (counted stack ts p s.index)
  turns-rolled stack ts p (Form-F.Form::Field h) = rolled stack ts p (Form-F.Form::Field h) (fold-roll-Form _ _ _ _ _ _ shape_of key_of def_of group_of node_of path_of (Form-F.Form::Field h)) (counted stack ts p (s.field h))
  turns-rolled stack ts p (Form-F.Except ps) = rolled stack ts p (Form-F.Except ps) (fold-roll-Form _ _ _ _ _ _ shape_of key_of def_of group_of node_of path_of (Form-F.Except ps)) (turns-except stack _ ts p total)
  turns-rolled stack ts p x = rolled stack ts p x (fold-roll-Form _ _ _ _ _ _ shape_of key_of def_of group_of node_of path_of x) refl

  turns-node : (n : Node) (stack : List Weight)
      → turned c d k stack (term_of n)
      ≡ (if joins (out-Node n).form then Operated stack (length (map term_of (out-Node n).parts)) (λ ws. by_form (out-Node n).form (out-Node n).place (total ws)) else stack ++ weight_of c d k (term_of n) ∷ [])
  turns-node n stack =
      let f = (out-Node n).form in
      let ts = map term_of (out-Node n).parts in
      let p = (out-Node n).place in
      let g : List Weight → Weight = λ ws. by_form f p (total ws) in
      let o : Turns stack ts p g (joins f) (held f) = subst (λ h. Turns stack ts p g (joins f) (held h)) (roll-out-Form f) (turns-rolled stack ts p (out-Form f)) in
      subst (λ t. turned c d k stack t ≡ (if joins f then Operated stack (length ts) g else stack ++ weight_of c d k t ∷ [])) (sym (by-form n (held f) refl)) o

  -- an operator over the weights that stand last on a stack
  pub turns-operator : (n : Node) (stack left next : List Weight) (x : Weight) → joins (out-Node n).form ≡ true → left ≡ take (length stack - length (out-Node n).parts) stack
      → x ≡ by_form (out-Node n).form (out-Node n).place (total (drop (length stack - length (out-Node n).parts) stack)) → next ≡ left ++ x ∷ [] → next ≡ turned c d k stack (term_of n)
  turns-operator n stack left next x j l w a =
      let g : List Weight → Weight = λ ws. by_form (out-Node n).form (out-Node n).place (total ws) in
      a ∙ (λ i. l i ++ w i ∷ [])
      ∙ ap (λ q. Operated stack q g) (sym (length-map (out-Node n).parts term_of))
      ∙ ap (λ b. if b then Operated stack (length (map term_of (out-Node n).parts)) g else stack ++ weight_of c d k (term_of n) ∷ []) (sym j)
      ∙ sym (turns-node n stack)

  -- any other expression
  pub turns-leaf : (n : Node) (stack next : List Weight) (x : Weight) → joins (out-Node n).form ≡ false → x ≡ weight_of c d k (term_of n) → next ≡ stack ++ x ∷ [] → next ≡ turned c d k stack (term_of n)
  turns-leaf n stack next x j w a =
      let g : List Weight → Weight = λ ws. by_form (out-Node n).form (out-Node n).place (total ws) in
      a ∙ (λ i. stack ++ w i ∷ [])
      ∙ ap (λ b. if b then Operated stack (length (map term_of (out-Node n).parts)) g else stack ++ weight_of c d k (term_of n) ∷ []) (sym j)
      ∙ sym (turns-node n stack)

  -- ---- other forms

  pub weighs-name : (n : Node) → ((w : Text) × ((out-Node n).form ≡ form.Name w)) ⊎ ((w : Text) × ((out-Node n).form ≡ form.Call w)) → weight_of c d k (term_of n) ≡ applied c d k (out-Node n).place (parts_in n)
  weighs-name n (inl e) = ap (weight_of c d k) (is-name n e.0 e.1)
  weighs-name n (inr e) = ap (weight_of c d k) (is-call n e.0 e.1)

  pub weighs-action : (n : Node) → ((out-Node n).form ≡ form.BoxAct) ⊎ ((out-Node n).form ≡ form.AngleAct) → weight_of c d k (term_of n) ≡ acted (out-Node n).place (weights_of c d k [] (parts_in n))
  weighs-action n (inl e) = ap (weight_of c d k) (is-box n e)
  weighs-action n (inr e) = ap (weight_of c d k) (is-angle n e)

  sets-made : (ns : List Decl) (o : Option Node) (rest : Groups) → sets_of c d k (with_domain ns (set_of o) rest) ≡ join (domain_weight c d k o) (sets_of c d k rest)
  sets-made ns None rest = sym (nothing-joined (sets_of c d k rest))
  sets-made ns (Some n) rest = refl

  pub sets-group : (g : Group) (rest : Groups) → sets_of c d k (groups_of g rest) ≡ join (domain_weight c d k (out-Group g).domain) (sets_of c d k rest)
  sets-group g rest = ap (λ (f : Groups → Groups). sets_of c d k (f rest)) (is-group g) ∙ sets-made (out-Group g).names (out-Group g).domain rest

  pub weighs-choose : (n : Node) (g : Group) → (out-Node n).form ≡ form.Choose g
      → weight_of c d k (term_of n) ≡ join (domain_weight c d k (out-Group g).domain) (total (weights_of c d k [] (parts_in n)))
  weighs-choose n g e =
      ap (weight_of c d k) (is-choice n g e)
      ∙ ap (λ x. join x (total (weights_of c d k [] (parts_in n)))) (sets-group g Groups.end_groups ∙ joined-nothing (domain_weight c d k (out-Group g).domain))

  keys-rolled : (x : Key-F Form Key Def Group Node Path) (rest : Keys) → keys_on c d k (key_keys (roll-Key x) rest) ≡ join (keys_on c d k (key_keys (roll-Key x) Keys.end_keys)) (keys_on c d k rest)
  keys-rolled (Key-F.Key::At n) rest =
      let e : key_keys (roll-Key (Key-F.Key::At n)) ≡ Keys.key (term_of n) = ap key_keys (key.rolls-At n) ∙ is-key n in
      ap (λ (f : Keys → Keys). keys_on c d k (f rest)) e
      ∙ ap (λ x. join x (keys_on c d k rest)) (sym (ap (λ (f : Keys → Keys). keys_on c d k (f Keys.end_keys)) e ∙ joined-nothing (weight_of c d k (term_of n))))
  keys-rolled (Key-F.Key::Field h) rest =
      let e : key_keys (roll-Key (Key-F.Key::Field h)) ≡ Keys.field_key h = ap key_keys (key.rolls-Field h) ∙ is-field-key h in
      ap (λ (f : Keys → Keys). keys_on c d k (f rest)) e
      ∙ sym (nothing-joined (keys_on c d k rest))
      ∙ ap (λ x. join x (keys_on c d k rest)) (sym (ap (λ (f : Keys → Keys). keys_on c d k (f Keys.end_keys)) e))

  pub keys-split : (y : Key) (rest : Keys) → keys_on c d k (key_keys y rest) ≡ join (keys_on c d k (key_keys y Keys.end_keys)) (keys_on c d k rest)
  keys-split y rest = subst (λ z. keys_on c d k (key_keys z rest) ≡ join (keys_on c d k (key_keys z Keys.end_keys)) (keys_on c d k rest)) (roll-out-Key y) (keys-rolled (out-Key y) rest)

  pub weighs-key : (y : Key) (n : Node) → y ≡ key.At n → keys_on c d k (each_key (y ∷ [])) ≡ weight_of c d k (term_of n)
  weighs-key y n e = ap (λ z. keys_on c d k (each_key (z ∷ []))) e ∙ ap (λ (f : Keys → Keys). keys_on c d k (f Keys.end_keys)) (is-key n) ∙ joined-nothing (weight_of c d k (term_of n))

  pub weighs-field-key : (y : Key) (h : Text) → y ≡ key.Field h → keys_on c d k (each_key (y ∷ [])) ≡ nothing
  weighs-field-key y h e = ap (λ z. keys_on c d k (each_key (z ∷ []))) e ∙ ap (λ (f : Keys → Keys). keys_on c d k (f Keys.end_keys)) (is-field-key h)

  -- ---- several expressions

  flagged : (fs : List Bool) (i : ℕ) (t : Term) (ts : Terms) → weights_of c d k (drop i fs) (part t ts) ≡ primed_if (get_or fs i false) (weight_of c d k t) ∷ weights_of c d k (drop (suc i) fs) ts
  flagged [] zero t ts = refl
  flagged [] (suc i) t ts = refl
  flagged (f ∷ fs) zero t ts = refl
  flagged (f ∷ fs) (suc i) t ts = flagged fs i t ts

  pub each-next : (all now next : List Weight) (x : Weight) (fs : List Bool) (ns : List Node) (i : ℕ) (n : Node) → now ++ weights_of c d k (drop i fs) (terms_of (map term_of (drop i ns))) ≡ all
      → i < length ns → n ≡ get_or ns i n → x ≡ primed_if (get_or fs i false) (weight_of c d k (term_of n)) → next ≡ now ++ x ∷ []
      → next ++ weights_of c d k (drop (i + 1) fs) (terms_of (map term_of (drop (i + 1) ns))) ≡ all
  each-next all now next x fs ns i n h l e w a =
      let rest = terms_of (map term_of (drop (i + 1) ns)) in
      ap (λ l. l ++ weights_of c d k (drop (i + 1) fs) rest) (a ∙ ap (λ y. now ++ y ∷ []) w)
      ∙ append_assoc now (primed_if (get_or fs i false) (weight_of c d k (term_of n)) ∷ []) (weights_of c d k (drop (i + 1) fs) rest)
      ∙ ap (λ m. now ++ primed_if (get_or fs i false) (weight_of c d k (term_of n)) ∷ weights_of c d k (drop m fs) rest) (add-one i)
      ∙ ap (λ l. now ++ l) (sym (flagged fs i (term_of n) rest))
      ∙ ap (λ l. now ++ weights_of c d k (drop i fs) (terms_of (map term_of l))) (sym (next-one ns i (i + 1) n refl l e)) ∙ h

  -- ---- updates

  excepts-made : (ps : List Path) (ns : List Node) (p : Place) → weight_of c d k (except_of (map keys_of ps) (map term_of ns) p) ≡ excepted c d k ps ns
  excepts-made ps [] p = refl
  excepts-made ps (n ∷ ns) p = refl

  pub weighs-except : (n : Node) (ps : List Path) → (out-Node n).form ≡ form.Except ps → weight_of c d k (term_of n) ≡ excepted c d k ps (out-Node n).parts
  weighs-except n ps e = ap (weight_of c d k) (is-except n ps e) ∙ excepts-made ps (out-Node n).parts (out-Node n).place

  pub updates-next : (all now after next : Weight) (x y : Weight) (ps qs : List Path) (ns ms : List Node) (p : Path) (n : Node) → updates_on c d k ps ns now ≡ all
      → ps ≡ p ∷ qs → ns ≡ n ∷ ms → x ≡ keys_on c d k (each_key (out-Path p).keys) → after ≡ join now x
      → y ≡ weight_of c d (result_so_far d after) (term_of n) → next ≡ join after y → updates_on c d k qs ms next ≡ all
  updates-next all now after next x y ps qs ns ms p n h e f w a v b =
      let z = a ∙ ap (join now) (w ∙ ap (keys_on c d k) (sym (is-path p))) in
      ap (updates_on c d k qs ms) (b ∙ ap (join after) v ∙ ap (λ q. join q (weight_of c d (result_so_far d q) (term_of n))) z)
      ∙ (λ i. updates_on c d k (sym e i) (sym f i) now) ∙ h

  pub except-begins : (n : Node) (ps qs : List Path) (ns : List Node) (f : Node) (x : Weight) → (out-Node n).form ≡ form.Except ps → qs ≡ ps → (out-Node n).parts ≡ f ∷ ns
      → x ≡ weight_of c d k (term_of f) → updates_on c d k qs ns x ≡ weight_of c d k (term_of n)
  except-begins n ps qs ns f x e q a w =
      (λ i. updates_on c d k (q i) ns (w i)) ∙ ap (excepted c d k ps) (sym a) ∙ sym (weighs-except n ps e)

  pub except-empty : (n : Node) (ps : List Path) (x : Weight) → (out-Node n).form ≡ form.Except ps → length (out-Node n).parts ≡ 0 → x ≡ nothing → x ≡ weight_of c d k (term_of n)
  except-empty n ps x e l a = a ∙ sym (ap (excepted c d k ps) (nil_from_length (out-Node n).parts l)) ∙ sym (weighs-except n ps e)

  pub turn-next : (all : List Weight) (stack next : List Weight) (xs : List (Bor Node)) (i : ℕ) (x : Bor Node) → fold (turned c d k) stack (map (λ n. term_of n.now) (drop i xs)) ≡ all
      → i < length xs → x ≡ get_or xs i x → next ≡ turned c d k stack (term_of x.now) → fold (turned c d k) next (map (λ n. term_of n.now) (drop (i + 1) xs)) ≡ all
  turn-next all stack next xs i x h l e a =
      let n = next-one xs i (i + 1) x refl l e in
      ap (λ z. fold (turned c d k) z (map (λ n. term_of n.now) (drop (i + 1) xs))) a
      ∙ ap (λ z. fold (turned c d k) stack (map (λ n. term_of n.now) z)) (sym n) ∙ h

  pub no-more-values : (ps : List Path) (x : Weight) → updates_on c d k ps [] x ≡ x
  no-more-values [] x = refl
  no-more-values (p ∷ ps) x = refl

  -- ---- all other forms

  abbrev pub IsPlain : Form → Type 0
  IsPlain f = ((w : Text) → f ≡ form.Name w → ⊥) × ((w : Text) → f ≡ form.Call w → ⊥) × (f ≡ form.BoxAct → ⊥) × (f ≡ form.AngleAct → ⊥) × (f ≡ form.At → ⊥) × ((ps : List Path) → f ≡ form.Except ps → ⊥)
      × ((a : Bool) (gs : List Group) → f ≡ form.Quant a gs → ⊥) × ((g : Group) → f ≡ form.Choose g → ⊥) × ((ds : List Def) → f ≡ form.Let ds → ⊥)

  plain : (f : Form) (ts : List Term) (p : Place) → IsPlain f → weight_of c d k (held f ts p) ≡ by_form f p (total (weights_of c d k [] (terms_of ts)))
  unfolding held
  plain f ts p h =
      (elim (out-Form f) as (λ x. out-Form f ≡ x → weight_of c d k (held f ts p) ≡ by_form f p (total (weights_of c d k [] (terms_of ts)))) [
        | Form-F.Name w ↦ λ e. absurd (h.0 w (sym (roll-out-Form f) ∙ ap roll-Form e ∙ rolls-Name w))
        | Form-F.Call w ↦ λ e. absurd (h.1 w (sym (roll-out-Form f) ∙ ap roll-Form e ∙ rolls-Call w))
        | Form-F.BoxAct ↦ λ e. absurd (h.2 (sym (roll-out-Form f) ∙ ap roll-Form e ∙ rolls-BoxAct))
        | Form-F.AngleAct ↦ λ e. absurd (h.3 (sym (roll-out-Form f) ∙ ap roll-Form e ∙ rolls-AngleAct))
        | Form-F.Form::At ↦ λ e. absurd (h.4 (sym (roll-out-Form f) ∙ ap roll-Form e ∙ rolls-At))
        | Form-F.Except ps ↦ λ e. absurd (h.5 ps (sym (roll-out-Form f) ∙ ap roll-Form e ∙ rolls-Except ps))
        | Form-F.Quant a gs ↦ λ e. absurd (h.6 a gs (sym (roll-out-Form f) ∙ ap roll-Form e ∙ rolls-Quant a gs))
        | Form-F.Choose g ↦ λ e. absurd (h.7 g (sym (roll-out-Form f) ∙ ap roll-Form e ∙ rolls-Choose g))
        | Form-F.Let ds ↦ λ e. absurd (h.8 ds (sym (roll-out-Form f) ∙ ap roll-Form e ∙ rolls-Let ds))
        | _ ↦ λ e. ap (λ (h : Held). weight_of c d k (h ts p)) (ap held (sym (roll-out-Form f)) ∙ ap (λ x. held (roll-Form x)) e ∙ fold-roll-Form _ _ _ _ _ _ shape_of key_of def_of group_of node_of path_of _)
            ∙ ap (λ x. ruled x p (total (weights_of c d k [] (terms_of ts)))) (sym e)
      ]) refl

  pub weighs-plain : (n : Node) → IsPlain (out-Node n).form → weight_of c d k (term_of n) ≡ by_form (out-Node n).form (out-Node n).place (total (weights_of c d k [] (parts_in n)))
  weighs-plain n h = ap (weight_of c d k) (by-form n (held (out-Node n).form) refl) ∙ plain (out-Node n).form (map term_of (out-Node n).parts) (out-Node n).place h

-- ---- one definition after another

pub bodies-step : (d : ℕ) (k : Known) (all now next x : Weight) (s t : Names) (ds rest : List Def) (y : Def) → join now (bodies_of s d k (each_def ds)) ≡ all → ds ≡ y ∷ rest
    → t ≡ with_definition d k (out-Def y).params (term_of (out-Def y).body) (out-Def y).place s → x ≡ asked_round d (body_weight s d k (out-Def y).params (term_of (out-Def y).body))
    → next ≡ join now x → join next (bodies_of t d k (each_def rest)) ≡ all
bodies-step d k all now next x s t ds rest y h e f w a =
    let b = asked_round d (body_weight s d k (out-Def y).params (term_of (out-Def y).body)) in
    let u = with_definition d k (out-Def y).params (term_of (out-Def y).body) (out-Def y).place s in
    ap (λ z. join z (bodies_of t d k (each_def rest))) (a ∙ ap (join now) w)
    ∙ ap (λ z. join (join now b) (bodies_of z d k (each_def rest))) f
    ∙ join-assoc now b (bodies_of u d k (each_def rest))
    ∙ ap (join now) (sym (ap (λ (g : Defs → Defs). bodies_of s d k (g (each_def rest))) (is-def y)))
    ∙ ap (λ l. join now (bodies_of s d k (each_def l))) (sym e) ∙ h

pub known-step : (d : ℕ) (k : Known) (all s t : Names) (ds rest : List Def) (y : Def) → with_all d k (each_def ds) s ≡ all → ds ≡ y ∷ rest
    → t ≡ with_definition d k (out-Def y).params (term_of (out-Def y).body) (out-Def y).place s → with_all d k (each_def rest) t ≡ all
known-step d k all s t ds rest y h e f =
    ap (with_all d k (each_def rest)) f
    ∙ sym (ap (λ (g : Defs → Defs). with_all d k (g (each_def rest)) s) (is-def y))
    ∙ ap (λ l. with_all d k (each_def l) s) (sym e) ∙ h

-- ---- results and lists

pub because : {A : Type 0} (x y : A) (r : Result A Memory) → y ≡ x → IfOk r (λ w. w ≡ x) → IfOk r (λ w. w ≡ y)
because x y r e h = subst (λ z. IfOk r (λ w. w ≡ z)) (sym e) h

pub in-any-case : {A P : Type 0} (r : Result A Memory) → P → OnOk r P
in-any-case (Ok a) p = p
in-any-case (Err e) p = tt

pub last-one : {X : Type 0} (xs : List X) (x w : X) → xs ++ x ∷ [] ≡ w ∷ [] → x ≡ w
last-one xs x w e = grind (arith, common_steps)
