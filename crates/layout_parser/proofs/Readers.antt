-- What each rule has used.
use Rattle.std.specs.Prelude.{◌≢◌}
use Rattle.std.proofs.Common.{◌≡◌, ℕ, zero, suc, ◌≤◌, ◌<◌, nat_lt, Bool, true, false, if◌then◌else◌, List, [], ◌∷◌, ◌++◌, length, Ok, Err, refl, sym, ap, subst, ◌∙◌, append_assoc, append-nil, arith, nat_eq, ◌&&◌, ◌||◌, not, map, Option, Some, None}
use Rattle.std.proofs.lemmas.Bool.{and_parts, and_from, eqb-true, eq-eqb, ltb-true, true≢false, false≢true}
use Rattle.tla_ast.specs.declared.place.Place.{Place}
use Rattle.tla_ast.specs.declared.tree.Node.{Node, out-Node}
use Rattle.tla_ast.specs.declared.tree.Form.TheVariants as form
use Rattle.tla_ast.specs.declared.tree.Decl.{Decl}
use Rattle.tla_ast.specs.declared.tree.Group.{Group}
use Rattle.tla_ast.specs.declared.tree.Def.{Def, roll-Def}
use Rattle.tla_ast.specs.declared.tree.Path.{Path, roll-Path}
use Rattle.tla_ast.specs.declared.tree.Key.{Key}
use Rattle.tla_ast.specs.declared.tree.Key.TheVariants as key
use Rattle.operator_chain.specs.declared.chain.Ending.{Ending}
use Rattle.operator_chain.specs.declared.chain.Ending.TheVariants as ending
use Rattle.layout_parser.specs.declared.square.Fields.{Fields}
use Rattle.layout_parser.specs.declared.except.Updates.{Updates}
use Rattle.operator_chain.specs.Chain.{OneRightTree}
use Rattle.operator_chain.specs.declared.chain.Piece.{Piece}
use Rattle.operator_chain.specs.declared.chain.Piece.TheVariants as piece
use Rattle.token_reader.specs.declared.mark.Mark.{Mark}
use Rattle.token_reader.specs.declared.mark.Mark.TheVariants as m
use Rattle.token_reader.specs.declared.setting.Around.{Around}
use Rattle.token_reader.specs.declared.setting.Around.TheVariants as around
use Rattle.token_reader.specs.declared.setting.Setting.{Setting}
use Rattle.token_reader.specs.declared.setting.Stop.TheVariants as stop
use Rattle.token_reader.specs.Marks.{spelling, same_mark, mark_of, is_final}
use Rattle.token_reader.specs.Input.{Tokens, first, next, here, sees, sees_second, eat, declared, and_then, within, is_tuple, is_inside, mark, right_of, with_at, after}
use Rattle.token_reader.specs.Lists.{gathered, gathered_from, put_last, ask, names}
use Rattle.token_reader.proofs.Steps.{got, refused, same-end, by-test, by-reader, begun, after-no, marks-same, same-marks}
use Rattle.token_reader.specs.declared.setting.Stop.{Stop}
use Rattle.layout_parser.specs.Reading as rule
use Rattle.layout_parser.specs.Reading.{Chain, ChainReader, part, behind, after_member, member_at, ends_at, is_tuple_form, with_field, with_update, with_arm, begins_key, further_arm, sees_bullet}
use Rattle.layout_parser.specs.Spelling as spell
use Rattle.layout_parser.specs.Spelling.{Stops, Symbols, sign, sign_at, expression, same, Operand}
use Rattle.layout_parser.proofs.ChainLaws.{member-listed}
use Rattle.layout_parser.proofs.Belongs.{member-fits}
use Rattle.layout_parser.proofs.Steps.{ChainRead, Derives, Good, ItemRead, ListRead, Read, Separates, Stands, Subscribes, ask-separates, at-any-place, behind-sign, both, derived, derived-as, eaten, le, list-read, mark-separates, nothing, on-declared, on-eat, on-finished, on-no, on-no-bullet, on-operand, on-sign, on-sign-at, on-token, on-word, puts, puts-last, puts-same, stands, stands-at, subscribed, subscribed-as, up-from, up-to}

single : (x : Node) (xs : List Node) → nat_eq (length (x ∷ xs)) 1 ≡ true → xs ≡ []
single x [] e = refl
single x (y ∷ ys) e = let two : length (x ∷ y ∷ ys) ≡ 1 = eqb-true _ 1 e in absurd (omega (arith, two))

-- the fields, updates and arms that were put one after another
puts-fields : (found : Fields) (fs : List (Decl × Node)) → puts with_field (λ f. f) found fs ≡ record { names = found.names ++ spell.names_of fs; parts = found.parts ++ spell.parts_of fs }
puts-fields found [] = λ i. record { names = sym (append-nil found.names) i; parts = sym (append-nil found.parts) i }
puts-fields found (f ∷ fs) = puts-fields (with_field found f) fs ∙ (λ i. record {
  names = append_assoc found.names (f.0.name ∷ []) (spell.names_of fs) i;
  parts = append_assoc found.parts (rule.node (form.Name f.0.name) [] f.0.place ∷ f.1 ∷ []) (spell.parts_of fs) i;
})

abbrev updated : spell.Update → Path × Node
updated u = (roll-Path (record { keys = u.0 ∷ u.1 }), u.2)

puts-updates : (found : Updates) (us : List spell.Update) → puts with_update updated found us ≡ record { paths = found.paths ++ spell.paths_of us; parts = found.parts ++ spell.values_of us }
puts-updates found [] = λ i. record { paths = sym (append-nil found.paths) i; parts = sym (append-nil found.parts) i }
puts-updates found (u ∷ us) = puts-updates (with_update found (updated u)) us ∙ (λ i. record {
  paths = append_assoc found.paths (roll-Path (record { keys = u.0 ∷ u.1 }) ∷ []) (spell.paths_of us) i;
  parts = append_assoc found.parts (u.2 ∷ []) (spell.values_of us) i;
})

puts-arms : (found : List Node) (arms : List spell.Arm) → puts with_arm (λ a. a) found arms ≡ found ++ spell.arm_parts arms
puts-arms found [] = sym (append-nil found)
puts-arms found (a ∷ more) = puts-arms (with_arm found a) more ∙ append_assoc found (a.0 ∷ a.1 ∷ []) (spell.arm_parts more)

-- names have been read
abbrev pub Named : Setting → List Decl → Tokens → Tokens → Type 0
Named s ns ts rest = ListRead s.region s.has_at (λ ds. ds) (λ d. spell.declared d ∷ []) spell.comma ns ts rest

pub names-read : (s : Setting) (before : Stop) (ts : Tokens) (ns : List Decl) (rest : Tokens) → names s before ts ≡ Ok (ns, rest) → Named s ns ts rest
names-read s before = list-read s.region s.has_at put_last (λ d. d) (λ d. spell.declared d ∷ []) spell.comma (eat s m.Comma) (declared s before)
    (λ us mid d f. record { item = d; is = refl; read = on-declared s before f nothing }) (mark-separates s m.Comma refl) [] (λ ds. ds) (puts-same [])

other-bullet : (column : ℕ) (k : Mark) (ts : Tokens) → (nat_eq (here ts).column column && same_mark (mark ts) k) ≡ false → mark_of (first ts).tok ≡ k → (here ts).column ≢ column
unfolding mark
other-bullet column k ts none marked at = true≢false (sym (and_from (nat_eq (here ts).column column) (same_mark (mark ts) k) (eq-eqb (here ts).column column at) (same-marks (mark ts) k marked)) ∙ none)

below : {a b : ℕ} → nat_lt a b ≡ true → a ≤ b
below {a} {b} e = let less : a < b = ltb-true a b e in omega arith

module _ (left : ℕ) (inner : ChainReader) (law : OneRightTree) (good : Good inner) where
  -- a chain that may have as many pieces as there are tokens
  full : (n : ℕ) (s : Setting) (ts us : Tokens) (xs : List Piece) → length ts ≤ n → inner n s true ts ≡ (xs, Ok us) → ChainRead s true ts us xs × Stops s.region (first us)
  full n s ts us xs room is = let h = good n s true ts us xs is in (h.0, h.1 room)

  -- an expression in a further nesting
  on-part : (s : Setting) {region : ℕ} {has_at : Bool} {ts mid rest : Tokens} {x : Node} {ys : Symbols} → region ≤ s.region → part left inner s ts ≡ Ok (x, mid)
      → Read region has_at mid rest ys → Read region has_at ts rest (expression s.region s.has_at x ∷ ys)
  unfolding part
  on-part s {ts = ts} inside e r = on-finished law s (inner (length ts) s true ts) inside e (λ xs us is. full (length ts) s ts us xs (le (length ts)) is) r

  pub on-same : (s : Setting) {ts mid rest : Tokens} {x : Node} {ys : Symbols} → part left inner s ts ≡ Ok (x, mid)
      → Read s.region s.has_at mid rest ys → Read s.region s.has_at ts rest (same s.region s.has_at x ∷ ys)
  on-same s e r = on-part s (le s.region) e r

  -- ---- lists

  expressions : (s : Setting) (found : List Node) (ts : Tokens) (xs : List Node) (rest : Tokens) → rule.expressions left inner s found ts ≡ Ok (xs, rest)
      → ListRead s.region s.has_at (λ ys. found ++ ys) (λ y. same s.region s.has_at y ∷ []) spell.comma xs ts rest
  expressions s found = list-read s.region s.has_at put_last (λ x. x) (λ x. same s.region s.has_at x ∷ []) spell.comma (eat s m.Comma) (part left inner s)
      (λ us mid x f. record { item = x; is = refl; read = on-same s f nothing }) (mark-separates s m.Comma refl) found (λ ys. found ++ ys) (puts-same found)

  -- ---- names, parentheses, angle brackets

  record Arguments (s : Setting) (xs : List Node) (ts rest : Tokens) : Type 0 where
    pub head : Node
    pub tail : List Node
    pub are : xs ≡ head ∷ tail
    pub read : Read s.region s.has_at ts rest (sign m.OpenParen ∷ (spell.expressions s.region s.has_at head tail ++ sign m.CloseParen ∷ []))

  arguments : (s : Setting) (ts : Tokens) (xs : List Node) (rest : Tokens) → Stands s.region m.OpenParen ts → rule.arguments left inner s ts ≡ Ok (xs, rest) → Arguments s xs ts rest
  unfolding rule.arguments
  arguments s ts xs rest at e = begun left _ _ e (λ f0. got f0 (λ ys mid e1 f1. let h = expressions (within around.Other s) [] (next ts) ys mid e1 in
      eaten (within around.Other s) stop.Expression m.CloseParen _ refl f1 (λ close f2. let z = same-end _ _ _ _ f2 in
      record { head = h.head; tail = h.tail; are = sym z.0 ∙ h.are; read = on-sign at (both h.read (on-sign close (up-to z.1 nothing))) })))

  named : (s : Setting) (ts rest : Tokens) (n : Node) → Stands s.region m.Name ts → rule.named left inner s ts ≡ Ok (n, rest) → Derives s.region s.has_at ts rest n
  unfolding rule.named
  named s ts rest n at e = by-test e
      (λ paren e1. got e1 (λ xs mid e2 f2. let h = arguments s (next ts) xs mid (stands s m.OpenParen (next ts) refl paren) e2 in
      derived-as f2 (ap (λ l. rule.node (form.Call (spelling (first ts).tok)) l (here ts)) h.are) (spell.call (spelling (first ts).tok) h.head h.tail (here ts)) (on-word at h.read)))
      (λ _ e1. derived e1 (spell.plain _ _ (spell.identifier _ _)) (on-word at nothing))

  parentheses : (s : Setting) (ts rest : Tokens) (n : Node) → Stands s.region m.OpenParen ts → rule.parenthesized left inner s ts ≡ Ok (n, rest)
      → Read s.region s.has_at ts rest (sign m.OpenParen ∷ same s.region s.has_at n ∷ sign m.CloseParen ∷ [])
  unfolding rule.parenthesized
  parentheses s ts rest n at e = begun left _ _ e (λ f0. got f0 (λ x mid e1 f1. eaten (within around.Other s) stop.Expression m.CloseParen _ refl f1 (λ close f2. let z = same-end _ _ _ _ f2 in
      subst (λ y. Read s.region s.has_at ts rest (sign m.OpenParen ∷ same s.region s.has_at y ∷ sign m.CloseParen ∷ [])) z.0 (on-sign at (on-same (within around.Other s) e1 (on-sign close (up-to z.1 nothing)))))))

  tuple : (s : Setting) (ts rest : Tokens) (n : Node) → Stands s.region m.OpenAngle ts → rule.tuple left inner s ts ≡ Ok (n, rest) → Subscribes s.region s.has_at ts rest n
  unfolding rule.tuple
  tuple s ts rest n at e = begun left _ _ e (λ f0. by-reader _ _ f0
      (λ close f1. subscribed f1 (spell.empty_tuple _) (on-sign-at at (on-eat (within around.Other s) refl close nothing)))
      (λ some f1. got f1 (λ xs mid e1 f2. let h = expressions (within around.Other s) [] _ xs mid e1 in
      eaten (within around.Other s) stop.Expression m.CloseAngle _ refl f2 (λ close f3.
      subscribed-as f3 (ap (λ l. rule.node form.Tuple l (here ts)) h.are) (spell.tuple h.head h.tail (here ts))
      (on-sign-at at (on-no (within around.Other s) _ some (both h.read (on-sign close nothing))))))))

  subscript : (s : Setting) (ts rest : Tokens) (n : Node) → rule.subscript left inner s ts ≡ Ok (n, rest) → Subscribes s.region s.has_at ts rest n
  unfolding rule.subscript
  subscript s ts rest n e = by-test e
      (λ seen e1. subscribed e1 (spell.identifier _ _) (on-word (stands s m.Name ts refl seen) nothing))
      (λ _ e1. by-test e1 (λ seen e2. tuple s ts rest n (stands s m.OpenAngle ts refl seen) e2)
      (λ _ e2. by-test e2 (λ seen e3. record { parts = _; made = spell.parentheses n; read = parentheses s ts rest n (stands s m.OpenParen ts refl seen) e3 })
      (λ _ e3. refused e3)))

  angle-end : (s : Setting) (ts mid rest : Tokens) (n x : Node) (xs : List Node) → Stands s.region m.OpenAngle ts → Read s.region s.has_at (next ts) mid (spell.expressions s.region s.has_at x xs)
      → rule.angle_end left inner s (here ts) (x ∷ xs) mid ≡ Ok (n, rest) → Derives s.region s.has_at ts rest n
  unfolding rule.angle_end
  angle-end s ts mid rest n x xs at r e = by-test e
      (λ close e1. derived e1 (spell.plain _ _ (spell.tuple x xs (here ts))) (on-sign-at at (both r (on-sign (stands s m.CloseAngle mid refl close) nothing))))
      (λ _ e1. by-test {b = sees s m.CloseAction mid && nat_eq (length (x ∷ xs)) 1} e1 (λ act e2. got e2 (λ v t3 e3 f3. let h = subscript s (next mid) t3 v e3 in let none : xs ≡ [] = single x xs (and_parts _ _ act).1 in
      derived-as f3 (ap (λ l. rule.node form.AngleAct ((x ∷ l) ++ v ∷ []) (here ts)) none) (spell.angle_action x v h.parts (here ts) h.made)
      (on-sign-at at (both (subst (λ l. Read s.region s.has_at (next ts) mid (spell.expressions s.region s.has_at x l)) none r) (on-sign (stands s m.CloseAction mid refl (and_parts _ _ act).0) h.read)))))
      (λ _ e2. refused e2))

  angle : (s : Setting) (ts rest : Tokens) (n : Node) → Stands s.region m.OpenAngle ts → rule.angle left inner s ts ≡ Ok (n, rest) → Derives s.region s.has_at ts rest n
  unfolding rule.angle
  angle s ts rest n at e = begun left _ _ e (λ f0. by-reader _ _ f0
      (λ close f1. derived f1 (spell.plain _ _ (spell.empty_tuple _)) (on-sign-at at (on-eat (within around.Other s) refl close nothing)))
      (λ some f1. got f1 (λ xs mid e1 f2. let h = expressions (within around.Other s) [] _ xs mid e1 in
      angle-end s ts mid rest n h.head h.tail at (on-no (within around.Other s) _ some h.read) (subst (λ l. rule.angle_end left inner s (here ts) l mid ≡ Ok (n, rest)) h.are f2))))

  fair : (strong : Bool) (s : Setting) (ts rest : Tokens) (n : Node) → Stands s.region (spell.fair_mark strong) ts → rule.fair left inner strong s ts ≡ Ok (n, rest) → Derives s.region s.has_at ts rest n
  unfolding rule.fair
  fair strong s ts rest n at e = got e (λ v mid e1 f1. let h = subscript s (next ts) mid v e1 in by-test f1
      (λ paren f2. got f2 (λ a t3 e3 f3. derived f3 (spell.fair strong v a h.parts (here ts) h.made) (on-sign-at at (both h.read (parentheses s mid t3 a (stands s m.OpenParen mid refl paren) e3)))))
      (λ _ f2. refused f2))

  -- ---- braces

  brace-end : (s : Setting) (ts mid rest : Tokens) (n x : Node) → Stands s.region m.OpenBrace ts → Read s.region s.has_at (next ts) mid (same s.region s.has_at x ∷ [])
      → rule.brace_end left inner s (here ts) x mid ≡ Ok (n, rest) → Derives s.region s.has_at ts rest n
  unfolding rule.brace_end rule.image rule.elements
  brace-end s ts mid rest n x at r e = by-test {b = sees s m.Colon mid && not (is_tuple s.around)} e
      (λ colon e1. got e1 (λ d t2 e2 f2. eaten (within around.Colon s) stop.Other m.Belongs _ refl f2 (λ belongs f3. got f3 (λ set t4 e4 f4.
      eaten (within around.Colon s) stop.Expression m.CloseBrace _ refl f4 (λ close f5.
      derived f5 (spell.image d set x) (on-sign at (both r (on-sign (stands s m.Colon mid refl (and_parts _ _ colon).0)
      (on-declared (within around.Colon s) stop.Bound e2 (on-sign belongs (on-same (within around.Colon s) e4 (on-sign close nothing))))))))))))
      (λ _ e1. by-test e1
      (λ comma e2. got e2 (λ xs t3 e3 f3. let h = expressions s (x ∷ []) (next mid) xs t3 e3 in eaten s stop.Expression m.CloseBrace _ refl f3 (λ close f4.
      derived-as f4 (ap (λ l. rule.node form.Enum l (here ts)) h.are) (spell.enumeration x (h.head ∷ h.tail) (here ts))
      (on-sign-at at (both r (on-sign (stands s m.Comma mid refl comma) (both h.read (on-sign close nothing))))))))
      (λ _ e2. by-test e2 (λ close e3. derived e3 (spell.enumeration x [] (here ts)) (on-sign-at at (both r (on-sign (stands s m.CloseBrace mid refl close) nothing))))
      (λ _ e3. refused e3)))

  -- ---- `x \in S` at the beginning of a bracket

  with-member : (s : Setting) (ts us : Tokens) (xs : List Piece) → Stands s.region m.Name ts → Stands s.region m.Belongs (next ts) → ChainRead s true (next (next ts)) us xs
      → ChainRead s true ts us (piece.Operand (rule.node (form.Name (spelling (first ts).tok)) [] (here ts)) ∷ member_at (here (next ts)) ∷ xs)
  with-member s ts us xs at sign-at h = record {
    whole = h.whole;
    listed = (tt, (member-listed (here (next ts)), h.listed));
    read = on-operand (spell.plain _ _ (spell.identifier _ _)) (on-word at nothing) (on-token sign-at.may (member-fits (first (next ts)) sign-at.marked) sign-at.some h.read);
  }

  -- the chain of the set, and that of the expression that begins with the name
  set-chain : (s : Setting) (ts : Tokens) → Chain
  set-chain s ts = inner (length (next (next ts))) s true (next (next ts))

  member-chain : (s : Setting) (ts : Tokens) → Stands s.region m.Name ts → Stands s.region m.Belongs (next ts) → (xs : List Piece) (us : Tokens)
      → after_member (spelling (first ts).tok) (here ts) (here (next ts)) (set-chain s ts) ≡ (xs, Ok us) → ChainRead s true ts us xs × Stops s.region (first us)
  unfolding set-chain
  member-chain s ts at sign-at xs us is = let c = set-chain s ts in
      let h = full (length (next (next ts))) s (next (next ts)) us c.0 (le (length (next (next ts)))) (λ i. (c.0, (ap (λ p. p.1) is) i)) in
      (subst (λ l. ChainRead s true ts us l) (ap (λ p. p.0) is) (with-member s ts us c.0 at sign-at h.0), h.1)

  member-brace : (s : Setting) (ts rest : Tokens) (n : Node) → Stands s.region m.OpenBrace ts → Stands s.region m.Name (next ts) → Stands s.region m.Belongs (next (next ts))
      → rule.member_brace left inner s (here ts) (next ts) ≡ Ok (n, rest) → Derives s.region s.has_at ts rest n
  unfolding rule.member_brace rule.filter set-chain
  member-brace s ts rest n at name-at sign-at e = let c = set-chain s (next ts) in by-test {b = ends_at s m.Colon c} e
      (λ _ e1. got {o = rule.finished c} e1 (λ set mid e2 f2. eaten s stop.Expression m.Colon _ refl f2 (λ colon f3. got {o = part left inner (within around.Colon s) (next mid)} f3 (λ condition t3 e3 f4.
      eaten (within around.Colon s) stop.Expression m.CloseBrace _ refl f4 (λ close f5.
      derived f5 (spell.filter (spelling (first (next ts)).tok) set condition (here (next ts)))
      (on-sign at (on-word name-at (on-sign sign-at (on-finished law s c (le s.region) e2 (λ xs us is. full _ s _ us xs (le _) is)
      (on-sign colon (on-same (within around.Colon s) e3 (on-sign close nothing))))))))))))
      (λ _ e1. got e1 (λ x mid e2 f2. brace-end s ts mid rest n x at (on-finished law s _ (le s.region) e2 (member-chain s (next ts) name-at sign-at) nothing) f2))

  tuple-in : (s : Setting) (ts mid rest : Tokens) (n a : Node) → Stands s.region m.OpenBrace ts → Read s.region s.has_at (next ts) mid (spell.operand a ∷ [])
      → and_then (rule.finished (behind (piece.Operand a ∷ []) (inner (length mid) s false mid))) (rule.brace_end left inner s (here ts)) ≡ Ok (n, rest) → Derives s.region s.has_at ts rest n
  tuple-in s ts mid rest n a at r e = got e (λ x t2 e2 f2. brace-end s ts t2 rest n x at (on-finished law s _ (le s.region) e2 chain nothing) f2)
    where
      chain : (xs : List Piece) (us : Tokens) → behind (piece.Operand a ∷ []) (inner (length mid) s false mid) ≡ (xs, Ok us) → ChainRead s true (next ts) us xs × Stops s.region (first us)
      chain xs us is = let c = inner (length mid) s false mid in let h = good (length mid) s false mid us c.0 (λ i. (c.0, (ap (λ p. p.1) is) i)) in (
        subst (λ l. ChainRead s true (next ts) us l) (ap (λ p. p.0) is) (let x : ChainRead s true (next ts) us (piece.Operand a ∷ c.0) = record { whole = h.0.whole; listed = (tt, h.0.listed); read = both r h.0.read } in x),
        h.1 (le (length mid)),
      )

  tuple-brace-after : (s : Setting) (ts mid rest : Tokens) (n a : Node) → Stands s.region m.OpenBrace ts → Read s.region s.has_at (next ts) mid (spell.operand a ∷ [])
      → rule.tuple_brace_after left inner s (here ts) a mid ≡ Ok (n, rest) → Derives s.region s.has_at ts rest n
  unfolding rule.tuple_brace_after
  tuple-brace-after s ts mid rest n a at r e = by-setting (is_tuple_form (out-Node a).form && sees s m.Belongs mid) e
    where
      by-setting : (b : Bool) → and_then (rule.finished (behind (piece.Operand a ∷ []) (inner (length mid) (if b then within around.Tuple s else s) false mid))) (rule.brace_end left inner (if b then within around.Tuple s else s) (here ts)) ≡ Ok (n, rest)
          → Derives s.region s.has_at ts rest n
      by-setting true f = tuple-in (within around.Tuple s) ts mid rest n a at r f
      by-setting false f = tuple-in s ts mid rest n a at r f

  tuple-brace : (s : Setting) (ts rest : Tokens) (n : Node) → Stands s.region m.OpenBrace ts → rule.tuple_brace left inner s (here ts) (next ts) ≡ Ok (n, rest) → Derives s.region s.has_at ts rest n
  unfolding rule.tuple_brace
  tuple-brace s ts rest n at e = by-chain (inner 1 s true (next ts)) (λ xs us is. (good 1 s true (next ts) us xs is).0.read) e
    where
      by-chain : (c : Chain) → ((xs : List Piece) (us : Tokens) → c ≡ (xs, Ok us) → Read s.region s.has_at (next ts) us (spell.pieces s.region s.has_at xs)) → rule.tuple_brace_by left inner s (here ts) c ≡ Ok (n, rest)
          → Derives s.region s.has_at ts rest n
      by-chain (piece.Operand a ∷ [], Ok us) h f = tuple-brace-after s ts us rest n a at (h (piece.Operand a ∷ []) us refl) f
      by-chain (piece.Operand a ∷ y ∷ ys, Ok us) h f = refused f
      by-chain (piece.Prefix p ∷ ys, Ok us) h f = refused f
      by-chain (piece.Infix o ∷ ys, Ok us) h f = refused f
      by-chain (piece.Postfix q ∷ ys, Ok us) h f = refused f
      by-chain ([], Ok us) h f = refused f
      by-chain (ys, Err x) h f = refused f

  brace : (s : Setting) (ts rest : Tokens) (n : Node) → Stands s.region m.OpenBrace ts → rule.brace left inner s ts ≡ Ok (n, rest) → Derives s.region s.has_at ts rest n
  unfolding rule.brace rule.brace_from sees_second
  brace s ts rest n at e = begun left _ _ e (λ f0. by-test f0
      (λ close f1. derived f1 (spell.empty_set (here ts)) (on-sign-at at (on-sign (stands (within around.Brace s) m.CloseBrace (next ts) refl close) nothing)))
      (λ _ f1. by-test {b = sees (within around.Brace s) m.Name (next ts) && sees (within around.Brace s) m.Belongs (next (next ts))} f1
      (λ both-seen f2. member-brace (within around.Brace s) ts rest n at (stands (within around.Brace s) m.Name (next ts) refl (and_parts _ _ both-seen).0)
      (stands (within around.Brace s) m.Belongs (next (next ts)) refl (and_parts (sees (within around.Brace s) m.Name (next ts)) _ both-seen).1) f2)
      (λ _ f2. by-test f2 (λ _ f3. tuple-brace (within around.Brace s) ts rest n at f3)
      (λ _ f3. got f3 (λ x mid e4 f4. brace-end (within around.Brace s) ts mid rest n x at (on-same (within around.Brace s) e4 nothing) f4)))))

  -- ---- square brackets

  field-of : (s : Setting) (k : Mark) → is_final k ≡ false → (ts mid : Tokens) (f : Decl × Node) → rule.field_of left inner s k ts ≡ Ok (f, mid)
      → ItemRead s.region s.has_at (λ f. f) (spell.field s.region s.has_at k) f ts mid
  unfolding rule.field_of
  field-of s k kept ts mid f e = got {o = declared s stop.Other ts} e (λ d t1 e1 f1. eaten s stop.Other k _ kept f1 (λ at f2. got {o = part left inner s (next t1)} f2 (λ x t3 e3 f3. let z = same-end (d, x) f t3 mid f3 in
      record { item = (d, x); is = sym z.0; read = on-declared s stop.Other e1 (on-sign at (on-same s e3 (up-to z.1 nothing))) })))

  fields : (s : Setting) (k : Mark) → is_final k ≡ false → (ts : Tokens) (f : Fields) (rest : Tokens) → rule.fields left inner s k ts ≡ Ok (f, rest)
      → ListRead s.region s.has_at (λ fs. record { names = spell.names_of fs; parts = spell.parts_of fs }) (spell.field s.region s.has_at k) spell.comma f ts rest
  fields s k kept = list-read s.region s.has_at with_field (λ f. f) (spell.field s.region s.has_at k) spell.comma (eat s m.Comma) (rule.field_of left inner s k)
      (field-of s k kept) (mark-separates s m.Comma refl) rule.no_fields (λ fs. record { names = spell.names_of fs; parts = spell.parts_of fs }) (puts-fields rule.no_fields)

  record-of : (s : Setting) (ts rest : Tokens) (n : Node) → Stands s.region m.OpenSquare ts → rule.record_of left inner s (here ts) (next ts) ≡ Ok (n, rest) → Derives s.region s.has_at ts rest n
  unfolding rule.record_of
  record-of s ts rest n at e = got e (λ f mid e1 f1. let h = fields s m.Maps refl (next ts) f mid e1 in eaten s stop.Expression m.CloseSquare _ refl f1 (λ close f2.
      derived-as f2 (ap (λ g. rule.node (form.Record g.names) g.parts (here ts)) h.are) (spell.records h.head h.tail (here ts)) (on-sign-at at (both h.read (on-sign close nothing)))))

  record-set : (s : Setting) (ts rest : Tokens) (n : Node) → Stands s.region m.OpenSquare ts → rule.record_set left inner s (here ts) (next ts) ≡ Ok (n, rest) → Derives s.region s.has_at ts rest n
  unfolding rule.record_set
  record-set s ts rest n at e = got e (λ f mid e1 f1. let h = fields s m.Colon refl (next ts) f mid e1 in eaten s stop.Expression m.CloseSquare _ refl f1 (λ close f2.
      derived-as f2 (ap (λ g. rule.node (form.RecordSet g.names) g.parts (here ts)) h.are) (spell.record_set h.head h.tail (here ts)) (on-sign-at at (both h.read (on-sign close nothing)))))

  -- ---- paths and updates

  key-end : (s : Setting) (ts us rest : Tokens) (k : Key) (end : Ending) (place : Place) → Read s.region s.has_at ts us (spell.ending_symbols s.region s.has_at end place ++ []) → rule.by_ending s end us ≡ Ok (k, rest)
      → Read s.region s.has_at ts rest (spell.key_symbols s.region s.has_at k)
  key-end s ts us rest k (ending.Index x) place r e = let z = same-end (key.At x) k us rest e in
      subst (λ y. Read s.region s.has_at ts rest (spell.key_symbols s.region s.has_at y)) z.0 (up-to z.1 (at-any-place r))
  key-end s ts us rest k (ending.Field h) place r e = let z = same-end (key.Field h) k us rest e in
      subst (λ y. Read s.region s.has_at ts rest (spell.key_symbols s.region s.has_at y)) z.0 (up-to z.1 (at-any-place r))
  key-end s ts us rest k ending.Prime place r e = refused e

  key-of : (s : Setting) (ts rest : Tokens) (k : Key) → rule.key_of left inner s ts ≡ Ok (k, rest) → Read s.region s.has_at ts rest (spell.key_symbols s.region s.has_at k)
  unfolding rule.key_of
  key-of s ts rest k e = by-test {b = sees s m.OpenSquare ts || sees s m.Dot ts} e (λ _ e1. by-chain (inner 1 s false ts) (λ xs us is. (good 1 s false ts us xs is).0.read) e1) (λ _ e1. refused e1)
    where
      by-chain : (c : Chain) → ((xs : List Piece) (us : Tokens) → c ≡ (xs, Ok us) → Read s.region s.has_at ts us (spell.pieces s.region s.has_at xs)) → rule.by_key s c ≡ Ok (k, rest)
          → Read s.region s.has_at ts rest (spell.key_symbols s.region s.has_at k)
      by-chain (piece.Postfix q ∷ [], Ok us) h f = key-end s ts us rest k q.ending q.place (h (piece.Postfix q ∷ []) us refl) f
      by-chain (piece.Postfix q ∷ y ∷ ys, Ok us) h f = refused f
      by-chain (piece.Operand a ∷ ys, Ok us) h f = refused f
      by-chain (piece.Prefix p ∷ ys, Ok us) h f = refused f
      by-chain (piece.Infix o ∷ ys, Ok us) h f = refused f
      by-chain ([], Ok us) h f = refused f
      by-chain (ys, Err x) h f = refused f

  keys : (s : Setting) (ts : Tokens) (ks : List Key) (rest : Tokens) → rule.keys left inner s ts ≡ Ok (ks, rest) → ListRead s.region s.has_at (λ ks. ks) (spell.key_symbols s.region s.has_at) [] ks ts rest
  keys s = list-read s.region s.has_at put_last (λ k. k) (spell.key_symbols s.region s.has_at) [] (ask (begins_key s)) (rule.key_of left inner s)
      (λ us mid k f. record { item = k; is = refl; read = key-of s us mid k f }) (ask-separates s.region s.has_at (begins_key s)) [] (λ ks. ks) (puts-same [])

  update : (s : Setting) (ts mid : Tokens) (u : Path × Node) → rule.update left inner s ts ≡ Ok (u, mid) → ItemRead s.region s.has_at updated (spell.update s.region s.has_at) u ts mid
  unfolding rule.update
  update s ts mid u e = eaten s stop.Other m.Bang _ refl e (λ bang f0. got {o = rule.keys left inner s (next ts)} f0 (λ ks t1 e1 f1. let h = keys s (next ts) ks t1 e1 in eaten s stop.Other m.Equal _ refl f1 (λ equal f2.
      got {o = part left inner (with_at s) (next t1)} f2 (λ x t3 e3 f3. let z = same-end (roll-Path (record { keys = ks }), x) u t3 mid f3 in record {
        item = (h.head, h.tail, x);
        is = sym z.0 ∙ ap (λ l. (roll-Path (record { keys = l }), x)) h.are;
        read = on-sign bang (both h.read (on-sign equal (on-part (with_at s) (le s.region) e3 (up-to z.1 nothing))));
      }))))

  updates : (s : Setting) (f : Node) (ts : Tokens) (us : Updates) (rest : Tokens) → rule.updates left inner s f ts ≡ Ok (us, rest)
      → ListRead s.region s.has_at (λ us. record { paths = spell.paths_of us; parts = f ∷ spell.values_of us }) (spell.update s.region s.has_at) spell.comma us ts rest
  updates s f = list-read s.region s.has_at with_update updated (spell.update s.region s.has_at) spell.comma (eat s m.Comma) (rule.update left inner s)
      (update s) (mark-separates s m.Comma refl) (rule.no_updates f) (λ us. record { paths = spell.paths_of us; parts = f ∷ spell.values_of us }) (puts-updates (rule.no_updates f))

  square-end : (outer : Around) (s : Setting) (ts mid rest : Tokens) (n x : Node) → Stands s.region m.OpenSquare ts → Read s.region s.has_at (next ts) mid (same s.region s.has_at x ∷ [])
      → rule.square_end left inner outer s (here ts) x mid ≡ Ok (n, rest) → Derives s.region s.has_at ts rest n
  unfolding rule.square_end rule.function_set rule.except
  square-end outer s ts mid rest n x at r e = by-test e
      (λ act e1. got e1 (λ v t2 e2 f2. let h = subscript (within outer s) (next mid) t2 v e2 in
      derived f2 (spell.box_action x v h.parts (here ts) h.made) (on-sign-at at (both r (on-sign (stands s m.CloseBox mid refl act) h.read)))))
      (λ _ e1. by-test e1
      (λ arrow e2. got e2 (λ y t3 e3 f3. eaten s stop.Expression m.CloseSquare _ refl f3 (λ close f4.
      derived f4 (spell.function_set x y (here ts)) (on-sign-at at (both r (on-sign (stands s m.Arrow mid refl arrow) (on-same s e3 (on-sign close nothing))))))))
      (λ _ e2. by-test e2
      (λ word-seen e3. got e3 (λ us t4 e4 f4. let h = updates s x (next mid) us t4 e4 in eaten s stop.Expression m.CloseSquare _ refl f4 (λ close f5.
      derived-as f5 (ap (λ g. rule.node (form.Except g.paths) g.parts (here ts)) h.are) (spell.except x h.head h.tail (here ts))
      (on-sign-at at (both r (on-sign (stands s m.Except mid refl word-seen) (both h.read (on-sign close nothing))))))))
      (λ _ e3. refused e3)))

  member-square : (outer : Around) (s : Setting) (ts rest : Tokens) (n : Node) → Stands s.region m.OpenSquare ts → Stands s.region m.Name (next ts) → Stands s.region m.Belongs (next (next ts))
      → rule.member_square left inner outer s (here ts) (next ts) ≡ Ok (n, rest) → Derives s.region s.has_at ts rest n
  unfolding rule.member_square rule.function set-chain
  member-square outer s ts rest n at name-at sign-at e = let c = set-chain s (next ts) in by-test {b = ends_at s m.Maps c} e
      (λ _ e1. got {o = rule.finished c} e1 (λ set mid e2 f2. eaten s stop.Expression m.Maps _ refl f2 (λ maps f3. got {o = part left inner s (next mid)} f3 (λ x t3 e3 f4. eaten s stop.Expression m.CloseSquare _ refl f4 (λ close f5.
      derived f5 (spell.function (spelling (first (next ts)).tok) set x (here (next ts)))
      (on-sign at (on-word name-at (on-sign sign-at (on-finished law s c (le s.region) e2 (λ xs us is. full _ s _ us xs (le _) is)
      (on-sign maps (on-same s e3 (on-sign close nothing))))))))))))
      (λ _ e1. got e1 (λ x mid e2 f2. square-end outer s ts mid rest n x at (on-finished law s _ (le s.region) e2 (member-chain s (next ts) name-at sign-at) nothing) f2))

  square-name : (outer : Around) (s : Setting) (ts rest : Tokens) (n : Node) → Stands s.region m.OpenSquare ts → Stands s.region m.Name (next ts) → rule.square_name left inner outer s (here ts) (next ts) ≡ Ok (n, rest) → Derives s.region s.has_at ts rest n
  unfolding rule.square_name sees_second
  square-name outer s ts rest n at name-at e = by-test {b = sees s m.Maps (next (next ts))} e (λ _ e1. record-of s ts rest n at e1)
      (λ _ e1. by-test {b = sees s m.Colon (next (next ts))} e1 (λ _ e2. record-set s ts rest n at e2)
      (λ _ e2. by-test {b = sees s m.Belongs (next (next ts))} e2 (λ seen e3. member-square outer s ts rest n at name-at (stands s m.Belongs (next (next ts)) refl seen) e3)
      (λ _ e3. got e3 (λ x mid e4 f4. square-end outer s ts mid rest n x at (on-same s e4 nothing) f4))))

  square : (s : Setting) (ts rest : Tokens) (n : Node) → Stands s.region m.OpenSquare ts → rule.square left inner s ts ≡ Ok (n, rest) → Derives s.region s.has_at ts rest n
  unfolding rule.square rule.square_from
  square s ts rest n at e = begun left _ _ e (λ f0. by-test f0
      (λ seen f1. square-name s.around (within around.Square s) ts rest n at (stands (within around.Square s) m.Name (next ts) refl seen) f1)
      (λ _ f1. got f1 (λ x mid e2 f2. square-end s.around (within around.Square s) ts mid rest n x at (on-same (within around.Square s) e2 nothing) f2)))

  -- ---- bound names

  pub bound-set : (s : Setting) (ns : List Decl) (ts : Tokens) (g : Group) (rest : Tokens) → rule.bound_set left inner s ns ts ≡ Ok (g, rest)
      → (x : Node) × (g ≡ rule.group ns (Some x)) × Read s.region s.has_at ts rest (sign m.Belongs ∷ same s.region s.has_at x ∷ [])
  unfolding rule.bound_set
  bound-set s ns ts g rest e = eaten s stop.Other m.Belongs _ refl e (λ belongs f1. got {o = part left inner s (next ts)} f1 (λ x t2 e2 f2. let z = same-end (rule.group ns (Some x)) g t2 rest f2 in
      (x, sym z.0, on-sign belongs (on-same s e2 (up-to z.1 nothing)))))

  -- names and the set after them
  with-set : (s : Setting) (ns : List Decl) (ts t1 : Tokens) (g : Group) (rest : Tokens) → Named s ns ts t1 → rule.bound_set left inner s ns t1 ≡ Ok (g, rest)
      → ItemRead s.region s.has_at spell.group_of (spell.bound s.region s.has_at) g ts rest
  with-set s ns ts t1 g rest h e = let b = bound-set s ns t1 g rest e in
      record { item = (h.head, h.tail, b.0); is = b.1 ∙ ap (λ l. rule.group l (Some b.0)) h.are; read = both h.read b.2 }

  pub bound : (s : Setting) (ts mid : Tokens) (g : Group) → rule.bound left inner s ts ≡ Ok (g, mid) → ItemRead s.region s.has_at spell.group_of (spell.bound s.region s.has_at) g ts mid
  unfolding rule.bound
  bound s ts mid g e = got {o = names s stop.Bound ts} e (λ ns t1 e1 f1. with-set s ns ts t1 g mid (names-read s stop.Bound ts ns t1 e1) f1)

  abbrev pub Bounded : Setting → List Group → Tokens → Tokens → Type 0
  Bounded s gs ts rest = ListRead s.region s.has_at (map spell.group_of) (spell.bound s.region s.has_at) spell.comma gs ts rest

  pub bounds : (s : Setting) (ns : List Decl) (ts t1 : Tokens) (gs : List Group) (rest : Tokens) → Named s ns ts t1 → rule.bounds left inner s ns t1 ≡ Ok (gs, rest) → Bounded s gs ts rest
  unfolding rule.bounds
  bounds s ns ts t1 gs rest h e = got {o = rule.bound_set left inner s ns t1} e (λ g t2 e2 f2. let one = with-set s ns ts t1 g t2 h e2 in by-reader {b = sees s m.Comma t2} (rule.further_bounds left inner s (g ∷ [])) _ f2
      (λ comma f3. let z = list-read s.region s.has_at put_last spell.group_of (spell.bound s.region s.has_at) spell.comma (eat s m.Comma) (rule.bound left inner s) (bound s) (mark-separates s m.Comma refl)
      (g ∷ []) (λ bs. g ∷ map spell.group_of bs) (puts-last spell.group_of (g ∷ [])) (after s m.Comma t2) gs rest f3 in
      record { head = one.item; tail = z.head ∷ z.tail; are = z.are ∙ ap (λ q. q ∷ map spell.group_of (z.head ∷ z.tail)) one.is; read = both one.read (on-eat s refl comma z.read) })
      (λ none f3. let z = same-end (g ∷ []) gs (after s m.Comma t2) rest f3 in
      record { head = one.item; tail = []; are = sym z.0 ∙ ap (λ q. q ∷ []) one.is; read = up-to (sym (after-no s m.Comma t2 none) ∙ z.1) one.read }))

  quantifier : (all : Bool) (s : Setting) (ts rest : Tokens) (n : Node) → Stands s.region (spell.quantifier_mark all) ts → rule.quantifier left inner all s ts ≡ Ok (n, rest) → Derives s.region s.has_at ts rest n
  unfolding rule.quantifier rule.groups_of
  quantifier all s ts rest n at e = got {o = names s stop.Bound (next ts)} e (λ ns t1 e1 f1. let h = names-read s stop.Bound (next ts) ns t1 e1 in got {o = rule.groups_of left inner s ns t1} f1 (λ gs t2 e2 f2.
      eaten s stop.Expression m.Colon _ refl f2 (λ colon f3. got {o = part left inner s (next t2)} f3 (λ body t4 e4 f4. by-test {b = sees s m.Colon t1} e2
      (λ _ f5. let z = same-end (rule.group ns None ∷ []) gs t1 t2 f5 in
      derived-as f4 (ap (λ l. rule.node (form.Quant all l) (body ∷ []) (here ts)) (sym z.0 ∙ ap (λ l. rule.group l None ∷ []) h.are)) (spell.unbounded all h.head h.tail body (here ts))
      (on-sign-at at (both h.read (up-from z.1 (on-sign colon (on-same s e4 nothing))))))
      (λ _ f5. let b = bounds s ns (next ts) t1 gs t2 h f5 in
      derived-as f4 (ap (λ l. rule.node (form.Quant all l) (body ∷ []) (here ts)) b.are) (spell.bounded all b.head b.tail body (here ts))
      (on-sign-at at (both b.read (on-sign colon (on-same s e4 nothing)))))))))

  record Domained (s : Setting) (set : Option Node) (ts rest : Tokens) : Type 0 where
    pub read : Read s.region s.has_at ts rest (spell.set_of s.region s.has_at set ++ sign m.Colon ∷ [])

  domain : (s : Setting) (ts : Tokens) (set : Option Node) (rest : Tokens) → rule.domain left inner s ts ≡ Ok (set, rest) → Domained s set ts rest
  unfolding rule.domain
  domain s ts set rest e = by-test {b = sees s m.Belongs ts} e
      (λ belongs e1. got {o = part left inner s (next ts)} e1 (λ x t2 e2 f2. eaten s stop.Expression m.Colon _ refl f2 (λ colon f3. let z = same-end (Some x) set _ rest f3 in
      subst (λ o. Domained s o ts rest) z.0 (record { read = on-sign (stands s m.Belongs ts refl belongs) (on-same s e2 (on-sign colon (up-to z.1 nothing))) }))))
      (λ _ e1. eaten s stop.Other m.Colon _ refl e1 (λ colon f2. let z = same-end None set _ rest f2 in
      subst (λ o. Domained s o ts rest) z.0 (record { read = on-sign colon (up-to z.1 nothing) })))

  choose : (s : Setting) (ts rest : Tokens) (n : Node) → Stands s.region m.Choose ts → rule.choose left inner s ts ≡ Ok (n, rest) → Derives s.region s.has_at ts rest n
  unfolding rule.choose
  choose s ts rest n at e = got {o = declared s stop.Bound (next ts)} e (λ d t1 e1 f1. got {o = rule.domain left inner s t1} f1 (λ set t2 e2 f2. got f2 (λ body t3 e3 f3.
      derived f3 (spell.choose d set body (here ts)) (on-sign-at at (on-declared s stop.Bound e1 (behind-sign (spell.set_of s.region s.has_at set) (sign m.Colon) (domain s t1 set t2 e2).read (on-same s e3 nothing)))))))

  -- ---- IF

  conditional : (s : Setting) (ts rest : Tokens) (n : Node) → Stands s.region m.If ts → rule.conditional left inner s ts ≡ Ok (n, rest) → Derives s.region s.has_at ts rest n
  unfolding rule.conditional
  conditional s ts rest n at e = got e (λ test t1 e1 f1. eaten s stop.Expression m.Then _ refl f1 (λ a2 f2. got f2 (λ yes-part t3 e3 f3. eaten s stop.Expression m.Else _ refl f3 (λ a4 f4. got f4 (λ no-part t5 e5 f5.
      derived f5 (spell.conditional test yes-part no-part (here ts)) (on-sign-at at (on-same s e1 (on-sign a2 (on-same s e3 (on-sign a4 (on-same s e5 nothing)))))))))))

  -- ---- CASE

  arm : (s : Setting) (ts mid : Tokens) (a : spell.Arm) → rule.arm left inner s ts ≡ Ok (a, mid) → ItemRead s.region s.has_at (λ a. a) (spell.arm s.region s.has_at) a ts mid
  unfolding rule.arm
  arm s ts mid a e = got {o = part left inner s ts} e (λ x t1 e1 f1. eaten s stop.Expression m.Arrow _ refl f1 (λ arrow f2. got {o = part left inner s (next t1)} f2 (λ y t3 e3 f3. let z = same-end (x, y) a t3 mid f3 in
      record { item = (x, y); is = sym z.0; read = on-same s e1 (on-sign arrow (on-same s e3 (up-to z.1 nothing))) })))

  arm-separates : (s : Setting) → Separates s.region s.has_at (sign m.Always ∷ []) (further_arm s)
  unfolding rule.further_arm
  arm-separates s ts mid more e = by-test {b = sees_second s m.Other ts} e
      (λ _ f. let z = same-end false more ts mid f in (λ yes. absurd (false≢true (z.0 ∙ yes)), λ _. z.1))
      (λ _ f. mark-separates s m.Always refl ts mid more f)

  arms : (s : Setting) (ts : Tokens) (parts : List Node) (rest : Tokens) → rule.arms left inner s ts ≡ Ok (parts, rest)
      → ListRead s.region s.has_at spell.arm_parts (spell.arm s.region s.has_at) (sign m.Always ∷ []) parts ts rest
  arms s = list-read s.region s.has_at with_arm (λ a. a) (spell.arm s.region s.has_at) (sign m.Always ∷ []) (further_arm s) (rule.arm left inner s) (arm s) (arm-separates s) [] spell.arm_parts (puts-arms [])

  cases : (s : Setting) (ts rest : Tokens) (n : Node) → Stands s.region m.Case ts → rule.cases left inner s ts ≡ Ok (n, rest) → Derives s.region s.has_at ts rest n
  unfolding rule.cases rule.case_end rule.other_arm
  cases s ts rest n at e = got {o = rule.arms left inner s (next ts)} e (λ parts t1 e1 f1. let h = arms s (next ts) parts t1 e1 in by-test {b = sees s m.Always t1} f1
      (λ always f2. got {o = rule.other_arm left inner s (next t1)} f2 (λ x t2 e2 f3. eaten s stop.Other m.Other _ refl e2 (λ other f4. eaten s stop.Other m.Arrow _ refl f4 (λ arrow f5.
      derived-as f3 (ap (λ l. rule.node (form.Case true) (l ++ x ∷ []) (here ts)) h.are) (spell.cases_with_other h.head h.tail x (here ts))
      (on-sign-at at (both h.read (on-sign (stands s m.Always t1 refl always) (on-sign other (on-sign arrow (on-same s f5 nothing))))))))))
      (λ _ f2. derived-as f2 (ap (λ l. rule.node (form.Case false) l (here ts)) h.are) (spell.cases h.head h.tail (here ts)) (on-sign-at at h.read)))

  -- ---- LET

  pub parameters : (s : Setting) (ts : Tokens) (ds : List Decl) (rest : Tokens) → Stands s.region m.OpenParen ts → rule.parameters left inner s ts ≡ Ok (ds, rest)
      → Read s.region s.has_at ts rest (spell.parameters ds)
  unfolding rule.parameters
  parameters s ts ds rest at e = begun left _ _ e (λ f0. got {o = names (within around.Other s) stop.Other (next ts)} f0 (λ xs t1 e1 f1. let h = names-read (within around.Other s) stop.Other (next ts) xs t1 e1 in
      eaten (within around.Other s) stop.Parameter m.CloseParen _ refl f1 (λ close f2. let z = same-end xs ds _ rest f2 in
      subst (λ l. Read s.region s.has_at ts rest (spell.parameters l)) (sym h.are ∙ z.0) (on-sign at (both h.read (on-sign close (up-to z.1 nothing)))))))

  pub head : (s : Setting) (ts : Tokens) (ds : List Decl) (rest : Tokens) → rule.head left inner s ts ≡ Ok (ds, rest) → Read s.region s.has_at ts rest (spell.parameters ds ++ sign m.Defines ∷ [])
  unfolding rule.head
  head s ts ds rest e = by-test {b = sees s m.OpenParen ts} e
      (λ paren e1. got {o = rule.parameters left inner s ts} e1 (λ xs t2 e2 f2. eaten s stop.Other m.Defines _ refl f2 (λ defines f3. let z = same-end xs ds _ rest f3 in
      subst (λ l. Read s.region s.has_at ts rest (spell.parameters l ++ sign m.Defines ∷ [])) z.0 (both (parameters s ts xs t2 (stands s m.OpenParen ts refl paren) e2) (on-sign defines (up-to z.1 nothing))))))
      (λ _ e1. eaten s stop.Defined m.Defines _ refl e1 (λ defines f2. let z = same-end [] ds _ rest f2 in
      subst (λ l. Read s.region s.has_at ts rest (spell.parameters l ++ sign m.Defines ∷ [])) z.0 (on-sign defines (up-to z.1 nothing))))

  definition : (s : Setting) (ts mid : Tokens) (d : Def) → rule.definition left inner s ts ≡ Ok (d, mid) → ItemRead s.region s.has_at spell.def_of (spell.definition s.region s.has_at) d ts mid
  unfolding rule.definition
  definition s ts mid d e = got {o = declared s stop.Other ts} e (λ x t1 e1 f1. got {o = rule.head left inner s t1} f1 (λ ds t2 e2 f2. got {o = part left inner s t2} f2 (λ body t3 e3 f3.
      let z = same-end (roll-Def (record { name = x.name; params = ds; body = body; place = x.place })) d t3 mid f3 in record {
        item = (x, ds, body);
        is = sym z.0;
        read = on-declared s stop.Other e1 (behind-sign (spell.parameters ds) (sign m.Defines) (head s t1 ds t2 e2) (on-same s e3 (up-to z.1 nothing)));
      })))

  definitions : (s : Setting) (ts : Tokens) (ds : List Def) (rest : Tokens) → rule.definitions left inner s ts ≡ Ok (ds, rest)
      → ListRead s.region s.has_at (map spell.def_of) (spell.definition s.region s.has_at) [] ds ts rest
  definitions s = list-read s.region s.has_at put_last spell.def_of (spell.definition s.region s.has_at) [] (ask (sees s m.Name)) (rule.definition left inner s)
      (definition s) (ask-separates s.region s.has_at (sees s m.Name)) [] (map spell.def_of) (puts-last spell.def_of [])

  local : (s : Setting) (ts rest : Tokens) (n : Node) → Stands s.region m.Let ts → rule.local left inner s ts ≡ Ok (n, rest) → Derives s.region s.has_at ts rest n
  unfolding rule.local
  local s ts rest n at e = got {o = rule.definitions left inner s (next ts)} e (λ ds t1 e1 f1. let h = definitions s (next ts) ds t1 e1 in eaten s stop.Expression m.In _ refl f1 (λ in-seen f2. got {o = part left inner s (next t1)} f2 (λ body t2 e2 f3.
      derived-as f3 (ap (λ l. rule.node (form.Let l) (body ∷ []) (here ts)) h.are) (spell.local h.head h.tail body (here ts)) (on-sign-at at (both h.read (on-sign in-seen (on-same s e2 nothing)))))))

  -- ---- junction lists

  record Itemed (region : ℕ) (s : Setting) (k : Mark) (found xs : List Node) (ts rest : Tokens) : Type 0 where
    pub head : Node
    pub tail : List Node
    pub are : xs ≡ found ++ head ∷ tail
    pub read : Read region s.has_at (next ts) rest (expression s.region s.has_at head ∷ spell.items s.region s.has_at k s.region tail)

  -- the items, of which the first has its bullet at the next token
  items : (region : ℕ) (s : Setting) (k : Mark) (ts : Tokens) (xs : List Node) (rest : Tokens) → is_final k ≡ false → nat_lt region s.region ≡ true
      → rule.items left inner s k ts ≡ Ok (xs, rest) → Itemed region s k [] xs ts rest
  unfolding gathered gathered_from rule.bulleted
  items region s k ts xs rest kept over e = turns (length ts) [] ts e
    where
      turns : (n : ℕ) (found : List Node) (ts : Tokens) → gathered_from n (ask (sees_bullet s k)) (rule.bulleted left inner s) put_last found ts ≡ Ok (xs, rest) → Itemed region s k found xs ts rest
      turns zero found ts e = refused e
      turns (suc n) found ts e = got {o = part left inner s (next ts)} e (λ x mid e1 e2. by-reader {b = sees_bullet s k mid} (gathered_from n (ask (sees_bullet s k)) (rule.bulleted left inner s) put_last (found ++ x ∷ [])) _ e2
          (λ more e3. let h = turns n (found ++ x ∷ []) mid e3 in
          let column : (here mid).column ≡ s.region = eqb-true _ _ (and_parts (nat_eq (here mid).column s.region) _ more).0 in
          let bullet : Stands region k mid = stands-at region k mid kept (subst (λ c. nat_lt region c ≡ true) (sym column) over) (marks-same (mark mid) k (and_parts (nat_eq (here mid).column s.region) _ more).1) in
          record {
            head = x;
            tail = h.head ∷ h.tail;
            are = h.are ∙ append_assoc found (x ∷ []) (h.head ∷ h.tail);
            read = on-part s (below over) e1 (on-token bullet.may (bullet.marked, column) bullet.some h.read);
          })
          (λ none e3. let z = same-end _ xs mid rest e3 in record { head = x; tail = []; are = sym z.0; read = on-part s (below over) e1 (on-no-bullet (other-bullet s.region k mid none) (up-to z.1 nothing)) }))

  junction : (all : Bool) (s : Setting) (ts rest : Tokens) (n : Node) → is_final (spell.junction_mark all) ≡ false → Stands s.region (spell.junction_mark all) ts
      → rule.junction left inner all (spell.junction_mark all) s ts ≡ Ok (n, rest) → Derives s.region s.has_at ts rest n
  unfolding rule.junction
  junction all s ts rest n kept at e = got {o = rule.items left inner (right_of (here ts).column s) (spell.junction_mark all) ts} e (λ xs t1 e1 f1.
      let h = items s.region (right_of (here ts).column s) (spell.junction_mark all) ts xs t1 kept at.may.0 e1 in
      derived-as f1 (ap (λ l. rule.node (form.Junction all) l (here ts)) h.are) (spell.junction all h.head h.tail (here ts)) (on-sign-at at h.read))

  -- ---- operands

  at-sign : (s : Setting) (ts rest : Tokens) (n : Node) → Stands s.region m.At ts → rule.at left inner s ts ≡ Ok (n, rest) → Derives s.region s.has_at ts rest n
  unfolding rule.at
  at-sign s ts rest n at e = by-test {b = s.has_at} e (λ yes-at e1. derived e1 (spell.at_sign (here ts) yes-at) (on-sign-at at nothing)) (λ _ e1. refused e1)

  value : (s : Setting) (ts rest : Tokens) (n : Node) → Stands s.region m.Value ts → rule.value ts ≡ Ok (n, rest) → Derives s.region s.has_at ts rest n
  unfolding rule.value
  value s ts rest n at e = derived e (spell.value _ _) (on-word at nothing)

  number : (s : Setting) (ts rest : Tokens) (n : Node) → Stands s.region m.Number ts → rule.literal ts ≡ Ok (n, rest) → Derives s.region s.has_at ts rest n
  unfolding rule.literal
  number s ts rest n at e = derived e (spell.number _ _) (on-token at.may (at.marked, refl, refl) at.some nothing)

  text : (s : Setting) (ts rest : Tokens) (n : Node) → Stands s.region m.Str ts → rule.literal ts ≡ Ok (n, rest) → Derives s.region s.has_at ts rest n
  unfolding rule.literal
  text s ts rest n at e = derived e (spell.text _ _) (on-token at.may (at.marked, refl, refl) at.some nothing)

  operand-by : (s : Setting) (ts rest : Tokens) (n : Node) (k : Mark) → ((is_final k ≡ false) → Stands s.region k ts) → rule.operand_by left inner s k ts ≡ Ok (n, rest) → Derives s.region s.has_at ts rest n
  operand-by s ts rest n m.Name at e = named s ts rest n (at refl) e
  operand-by s ts rest n m.Value at e = value s ts rest n (at refl) e
  operand-by s ts rest n m.Number at e = number s ts rest n (at refl) e
  operand-by s ts rest n m.Str at e = text s ts rest n (at refl) e
  operand-by s ts rest n m.OpenParen at e = record { parts = _; made = spell.plain n _ (spell.parentheses n); read = parentheses s ts rest n (at refl) e }
  operand-by s ts rest n m.OpenBrace at e = brace s ts rest n (at refl) e
  operand-by s ts rest n m.OpenSquare at e = square s ts rest n (at refl) e
  operand-by s ts rest n m.OpenAngle at e = angle s ts rest n (at refl) e
  operand-by s ts rest n m.And at e = junction true s ts rest n refl (at refl) e
  operand-by s ts rest n m.Or at e = junction false s ts rest n refl (at refl) e
  operand-by s ts rest n m.Forall at e = quantifier true s ts rest n (at refl) e
  operand-by s ts rest n m.Exists at e = quantifier false s ts rest n (at refl) e
  operand-by s ts rest n m.Choose at e = choose s ts rest n (at refl) e
  operand-by s ts rest n m.If at e = conditional s ts rest n (at refl) e
  operand-by s ts rest n m.Case at e = cases s ts rest n (at refl) e
  operand-by s ts rest n m.Let at e = local s ts rest n (at refl) e
  operand-by s ts rest n m.Weak at e = fair false s ts rest n (at refl) e
  operand-by s ts rest n m.Strong at e = fair true s ts rest n (at refl) e
  operand-by s ts rest n m.At at e = at-sign s ts rest n (at refl) e
  operand-by s ts rest n _ at e = refused e

  pub operand : (s : Setting) (ts rest : Tokens) (n : Node) → rule.operand left inner s ts ≡ Ok (n, rest) → Derives s.region s.has_at ts rest n
  unfolding rule.operand
  operand s ts rest n e = by-test {b = is_inside s ts} e (λ inside e1. operand-by s ts rest n (mark ts) (λ kept. stands-at s.region (mark ts) ts kept inside refl) e1) (λ _ e1. refused e1)

  -- the argument of `f[e]`, with its brackets
  pub index : (s : Setting) (ts rest : Tokens) (n : Node) → Stands s.region m.OpenSquare ts → rule.index left inner s ts ≡ Ok (n, rest)
      → Read s.region s.has_at ts rest (sign_at m.OpenSquare (here ts) ∷ same s.region s.has_at n ∷ sign m.CloseSquare ∷ [])
  unfolding rule.index
  index s ts rest n at e = begun left _ _ e (λ f0. got f0 (λ x t1 e1 f1. eaten (within around.Square s) stop.Expression m.CloseSquare _ refl f1 (λ close f2. let z = same-end x n _ rest f2 in
      subst (λ y. Read s.region s.has_at ts rest (sign_at m.OpenSquare (here ts) ∷ same s.region s.has_at y ∷ sign m.CloseSquare ∷ [])) z.0
      (on-sign-at at (on-same (within around.Square s) e1 (on-sign close (up-to z.1 nothing)))))))
