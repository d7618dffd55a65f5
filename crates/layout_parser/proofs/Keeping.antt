-- Where the fault of each rule stands, and what it leaves.
use Rattle.std.proofs.Common.{◌≡◌, ℕ, zero, suc, Bool, true, false, if◌then◌else◌, List, [], ◌∷◌, ◌++◌, length, ◌&&◌, not, nat_eq, Option, Some, None, Result, Ok, Err, refl, sym, ap, subst, ◌∙◌}
use Rattle.std.proofs.lemmas.Bool.{and_parts, cond_both}
use Rattle.std.proofs.lemmas.Option.{none-some}
use Rattle.tla_ast.specs.declared.place.Place.{Place}
use Rattle.tla_ast.specs.declared.fault.Fault.{Fault}
use Rattle.tla_ast.specs.declared.fault.Kind.{Kind}
use Rattle.tla_ast.specs.declared.fault.Kind.TheVariants.{Precedence}
use Rattle.tla_ast.specs.declared.tree.Node.{Node}
use Rattle.tla_ast.specs.declared.tree.Decl.{Decl}
use Rattle.tla_ast.specs.declared.tree.Form.TheVariants as form
use Rattle.tla_ast.specs.Listing.{Ends, is_last}
use Rattle.std_names.specs.declared.operators.Fix.{Fix}
use Rattle.std_names.specs.declared.operators.Fix.TheVariants.{Prefix, Infix}
use Rattle.std_names.specs.Operators.{operator}
use Rattle.operator_chain.specs.declared.chain.Operator.{Operator}
use Rattle.operator_chain.specs.declared.chain.Ending.{Ending}
use Rattle.operator_chain.specs.declared.chain.Ending.TheVariants as ending
use Rattle.operator_chain.specs.declared.chain.Piece.{Piece}
use Rattle.operator_chain.specs.declared.chain.Piece.TheVariants as piece
use Rattle.operator_chain.specs.Tree.{Tree, hole, is_right}
use Rattle.operator_chain.specs.Chain.{plain, tree_of, fault_of, place_of, or_else, grown, first_wrong_from}
use Rattle.operator_chain.proofs.FaultLaws.{right_tree, no_tree}
use Rattle.token_reader.specs.declared.mark.Mark.{Mark}
use Rattle.token_reader.specs.declared.mark.Mark.TheVariants as m
use Rattle.token_reader.specs.declared.setting.Around.{Around}
use Rattle.token_reader.specs.declared.setting.Around.TheVariants as around
use Rattle.token_reader.specs.declared.setting.Setting.{Setting}
use Rattle.token_reader.specs.declared.setting.Stop.TheVariants as stop
use Rattle.token_reader.specs.Marks.{Text, spelling, is_final}
use Rattle.token_reader.specs.Input.{Tokens, Outcome, Reader, and_then, first, next, here, mark, is_inside, is_tuple, sees, sees_second, within, with_at, right_of, take, name, refusal}
use Rattle.token_reader.specs.Lists.{gathered, gathered_from, put_last, ask}
use Rattle.token_reader.specs.Faults.{StandsIn, is_of_expressions, FaultIn, LeftOf, Keeps}
use Rattle.token_reader.proofs.Steps.{by-test, marks-same, not-final}
use Rattle.token_reader.proofs.Keeping.{Kept, IsKeeping, stays, further, stands-behind, here-stands, next-left, sees-left, sees-opens, fault-behind, behind, then-kept, then-keeps, pure-keeps, if-kept, if-keeps, left-kept, next-kept, fault-here, refusal-in, too-deep-in, refused-kept, refuse-keeps, eat-keeps, ask-keeps, expect-keeps, name-keeps, declared-keeps, opening-kept, gathered-keeps, names-keeps}
use Rattle.layout_parser.specs.declared.flat.Step.TheVariants.{More, Ended, Broken}
use Rattle.layout_parser.specs.Laws.{FaultsStandInTheList}
use Rattle.layout_parser.specs.Reading as rule
use Rattle.layout_parser.specs.Reading.{Chain, ChainReader, Stepped, nested, operator_in, operator_at, sees_bullet, begins_key}
use Rattle.layout_parser.proofs.Steps.{operator-last}
use Rattle.layout_parser.proofs.ChainLaws.{same-some}

-- ---- where a fault of the operators stands

-- the operator of the piece stands at a token of the list
abbrev pub PieceIn : Tokens → Piece → Type 0
PieceIn ts x = (p : Place) → place_of x ≡ Some p → StandsIn ts p

-- so does each operator
abbrev pub PlacedIn : Tokens → List Piece → Type 0
PlacedIn ts [] = Unit {0}
PlacedIn ts (x ∷ xs) = PieceIn ts x × PlacedIn ts xs

operand-in : (ts : Tokens) (a : Node) → PieceIn ts (piece.Operand a)
operand-in ts a p e = absurd (none-some _ e)

at-here : (ts : Tokens) (place : Place) → Ends ts → here ts ≡ place → (p : Place) → Some place ≡ Some p → StandsIn ts p
at-here ts place h is p e = subst (StandsIn ts) (is ∙ same-some place p e) (here-stands ts h)

placed-behind : (ts mid : Tokens) (xs : List Piece) → LeftOf ts mid → PlacedIn mid xs → PlacedIn ts xs
placed-behind ts mid [] l h = tt
placed-behind ts mid (x ∷ xs) l h = (λ p e. stands-behind l (h.0 p e), placed-behind ts mid xs l h.1)

at-place : (ts : Tokens) (o more : Option Place) (p : Place) → ((q : Place) → o ≡ Some q → StandsIn ts q) → (more ≡ Some p → StandsIn ts p) → or_else o more ≡ Some p → StandsIn ts p
at-place ts (Some q) more p first-in later e = first-in p e
at-place ts None more p first-in later e = later e

at-piece : (ts : Tokens) (x : Piece) (b : Bool) (more : Option Place) (p : Place) → PieceIn ts x → (more ≡ Some p → StandsIn ts p) → or_else (if b then None else place_of x) more ≡ Some p → StandsIn ts p
at-piece ts x true more p first-in later e = later e
at-piece ts x false more p first-in later e = at-place ts (place_of x) more p first-in later e

wrong-placed : (ts : Tokens) (t : Tree) (c : List Piece) (p : Place) → PlacedIn ts c → first_wrong_from t c ≡ Some p → StandsIn ts p
wrong-placed ts t [] p h e = absurd (none-some _ e)
wrong-placed ts t (x ∷ xs) p h e = at-piece ts x (is_right (grown t x)) (first_wrong_from (grown t x) xs) p h.0 (λ f. wrong-placed ts (grown t x) xs p h.1 f) e

-- ---- chains

abbrev pub EndKeeps : Tokens → Result Tokens Fault → Type 0
EndKeeps ts (Ok rest) = LeftOf ts rest
EndKeeps ts (Err e) = FaultIn is_of_expressions ts e

-- the operators of the chain stand at tokens of the list, and so does the fault at which it breaks off
pub record ChainKept (ts : Tokens) (c : Chain) : Type 0 where
  pub placed : PlacedIn ts c.0
  pub end : EndKeeps ts c.1

end-behind : (ts mid : Tokens) (r : Result Tokens Fault) → LeftOf ts mid → EndKeeps mid r → EndKeeps ts r
end-behind ts mid (Ok rest) l h = further l h
end-behind ts mid (Err e) l h = fault-behind l h

-- the kinds of faults of expressions
may : (k : Kind) → is_of_expressions k ≡ true → is_of_expressions k ≡ true
may k e = e

abbrev pub Keeping : {A : Type 0} → Reader A → Type 0
Keeping p = IsKeeping is_of_expressions p

abbrev pub Opens : Tokens → Type 0
Opens ts = is_last (first ts).tok ≡ false

finished-kept : (ts : Tokens) (c : Chain) → ChainKept ts c → Kept is_of_expressions ts (rule.finished c)
unfolding rule.finished
finished-kept ts c h = go (tree_of c.0) (fault_of c.0) refl refl c.1 h.end
  where
    go : (o : Option Tree) (w : Option Place) → tree_of c.0 ≡ o → fault_of c.0 ≡ w → (r : Result Tokens Fault) → EndKeeps ts r → Kept is_of_expressions ts (rule.by_tree o w r)
    go (Some t) w is at (Ok rest) k = record { is = k }
    go (Some t) w is at (Err e) k = record { is = k }
    go None (Some p) is at r k = record { is = record { place = p; kind = Precedence; is = refl; stands = wrong-placed ts plain c.0 p h.placed (no_tree c.0 p at).1; may = refl } }
    go None None is at r k = absurd (none-some _ (sym is ∙ right_tree c.0 at))

take-kept : (ts : Tokens) → Ends ts → Opens ts → Kept is_of_expressions ts (take ts)
take-kept ts h o = left-kept (next-left ts h o)

-- what follows a token that is seen
on-seen : {A : Type 0} {p : Reader A} (s : Setting) (k : Mark) (ts : Tokens) → is_final k ≡ false → Ends ts → sees s k ts ≡ true → Keeping p → Kept is_of_expressions ts (p (next ts))
on-seen s k ts kept h e reads = let l = sees-left s k ts kept h e in behind l (reads.at (next ts) l.ends)

by-choice : {A : Type 0} (ts : Tokens) (b : Bool) (p q : Reader A) → (b ≡ true → Kept is_of_expressions ts (p ts)) → (b ≡ false → Kept is_of_expressions ts (q ts)) → Kept is_of_expressions ts ((if b then p else q) ts)
by-choice ts true p q some none = some refl
by-choice ts false p q some none = none refl

module _ (left : ℕ) (inner : ChainReader) (keeps : (n : ℕ) (s : Setting) (waits : Bool) (ts : Tokens) → Ends ts → ChainKept ts (inner n s waits ts)) where
  pub part-keeps : (s : Setting) → Keeping (rule.part left inner s)
  unfolding rule.part
  part-keeps s = record { at = λ ts h. finished-kept ts (inner (length ts) s true ts) (keeps (length ts) s true ts h) }

  expressions-keeps : (s : Setting) (found : List Node) → Keeping (rule.expressions left inner s found)
  expressions-keeps s found = gathered-keeps may _ _ (eat-keeps may s m.Comma refl) (part-keeps s)

  -- ---- names, parentheses, angle brackets

  arguments-kept : (s : Setting) (ts : Tokens) → Ends ts → Opens ts → Kept is_of_expressions ts (rule.arguments left inner s ts)
  unfolding rule.arguments
  arguments-kept s ts h o = then-kept (opening-kept may left ts h o) (λ _. then-keeps (expressions-keeps (within around.Other s) []) (λ xs. then-keeps (expect-keeps may (within around.Other s) stop.Expression m.CloseParen refl) (λ _. pure-keeps)))

  named-kept : (s : Setting) (ts : Tokens) → Ends ts → Opens ts → Kept is_of_expressions ts (rule.named left inner s ts)
  unfolding rule.named
  named-kept s ts h o = let l = next-left ts h o in if-kept {b = sees s m.OpenParen (next ts)}
      (λ e. behind l (then-kept (arguments-kept s (next ts) l.ends (sees-opens s m.OpenParen (next ts) refl e)) (λ _. pure-keeps)))
      (λ _. left-kept l)

  parenthesized-kept : (s : Setting) (ts : Tokens) → Ends ts → Opens ts → Kept is_of_expressions ts (rule.parenthesized left inner s ts)
  unfolding rule.parenthesized
  parenthesized-kept s ts h o = then-kept (opening-kept may left ts h o) (λ _. then-keeps (part-keeps (within around.Other s)) (λ x. then-keeps (expect-keeps may (within around.Other s) stop.Expression m.CloseParen refl) (λ _. pure-keeps)))

  tuple-kept : (s : Setting) (ts : Tokens) → Ends ts → Opens ts → Kept is_of_expressions ts (rule.tuple left inner s ts)
  unfolding rule.tuple
  tuple-kept s ts h o = then-kept (opening-kept may left ts h o) (λ place. then-keeps (eat-keeps may (within around.Other s) m.CloseAngle refl) (λ b. if-keeps b (pure-keeps {a = rule.node form.Tuple [] place})
      (then-keeps (expressions-keeps (within around.Other s) []) (λ xs. then-keeps (expect-keeps may (within around.Other s) stop.Expression m.CloseAngle refl) (λ _. pure-keeps {a = rule.node form.Tuple xs place})))))

  subscript-keeps : (s : Setting) → Keeping (rule.subscript left inner s)
  unfolding rule.subscript
  subscript-keeps s = record {
    at = λ ts h. if-kept {b = sees s m.Name ts} (λ e. next-kept s m.Name ts refl h e)
        (λ _. if-kept {b = sees s m.OpenAngle ts} (λ e. tuple-kept s ts h (sees-opens s m.OpenAngle ts refl e))
        (λ _. if-kept {b = sees s m.OpenParen ts} (λ e. parenthesized-kept s ts h (sees-opens s m.OpenParen ts refl e)) (λ _. refused-kept may s stop.Other ts h)));
  }

  angle-end-keeps : (s : Setting) (place : Place) (xs : List Node) → Keeping (rule.angle_end left inner s place xs)
  unfolding rule.angle_end
  angle-end-keeps s place xs = record {
    at = λ ts h. if-kept {b = sees s m.CloseAngle ts} (λ e. next-kept s m.CloseAngle ts refl h e)
        (λ _. if-kept {b = sees s m.CloseAction ts && nat_eq (length xs) 1} (λ e. on-seen s m.CloseAction ts refl h (and_parts _ _ e).0 (then-keeps (subscript-keeps s) (λ _. pure-keeps)))
        (λ _. refused-kept may (within around.Other s) stop.Expression ts h));
  }

  angle-kept : (s : Setting) (ts : Tokens) → Ends ts → Opens ts → Kept is_of_expressions ts (rule.angle left inner s ts)
  unfolding rule.angle
  angle-kept s ts h o = then-kept (opening-kept may left ts h o) (λ place. then-keeps (eat-keeps may (within around.Other s) m.CloseAngle refl) (λ b. if-keeps b (pure-keeps {a = rule.node form.Tuple [] place})
      (then-keeps (expressions-keeps (within around.Other s) []) (angle-end-keeps s place))))

  fair-kept : (strong : Bool) (s : Setting) (ts : Tokens) → Ends ts → Opens ts → Kept is_of_expressions ts (rule.fair left inner strong s ts)
  unfolding rule.fair
  fair-kept strong s ts h o = let l = next-left ts h o in behind l (then-kept ((subscript-keeps s).at (next ts) l.ends) (λ v. action-keeps v))
    where
      action-keeps : (v : Node) → Keeping (λ us. if sees s m.OpenParen us then and_then (rule.parenthesized left inner s us) (λ a vs. Ok (rule.node (form.Fair strong) (v ∷ a ∷ []) (here ts), vs)) else Err (refusal s stop.Expression us))
      action-keeps v = record {
        at = λ us k. if-kept {b = sees s m.OpenParen us} (λ e. then-kept (parenthesized-kept s us k (sees-opens s m.OpenParen us refl e)) (λ a. pure-keeps {a = rule.node (form.Fair strong) (v ∷ a ∷ []) (here ts)}))
            (λ _. refused-kept may s stop.Expression us k);
      }

  -- ---- braces

  brace-end-keeps : (s : Setting) (place : Place) (e : Node) → Keeping (rule.brace_end left inner s place e)
  unfolding rule.brace_end rule.image rule.elements
  brace-end-keeps s place e = record {
    at = λ ts h. if-kept {b = sees s m.Colon ts && not (is_tuple s.around)}
        (λ q. on-seen s m.Colon ts refl h (and_parts _ _ q).0 (then-keeps (declared-keeps may (within around.Colon s) stop.Bound) (λ d. then-keeps (expect-keeps may (within around.Colon s) stop.Other m.Belongs refl)
        (λ _. then-keeps (part-keeps (within around.Colon s)) (λ set. then-keeps (expect-keeps may (within around.Colon s) stop.Expression m.CloseBrace refl) (λ _. pure-keeps))))))
        (λ _. if-kept {b = sees s m.Comma ts}
        (λ q. on-seen s m.Comma ts refl h q (then-keeps (expressions-keeps s (e ∷ [])) (λ xs. then-keeps (expect-keeps may s stop.Expression m.CloseBrace refl) (λ _. pure-keeps))))
        (λ _. if-kept {b = sees s m.CloseBrace ts} (λ q. next-kept s m.CloseBrace ts refl h q) (λ _. refused-kept may s stop.Expression ts h)));
  }

  filter-keeps : (s : Setting) (x : Text) (place : Place) (set : Node) → Keeping (rule.filter left inner s x place set)
  unfolding rule.filter
  filter-keeps s x place set = then-keeps (expect-keeps may s stop.Expression m.Colon refl) (λ _. then-keeps (part-keeps (within around.Colon s)) (λ c. then-keeps (expect-keeps may (within around.Colon s) stop.Expression m.CloseBrace refl) (λ _. pure-keeps)))

  -- the chain of a set, and that of the expression that begins with a name and `\in` before it
  set-kept : (s : Setting) (ts : Tokens) → Ends ts → Opens ts → Opens (next ts) → ChainKept ts (inner (length (next (next ts))) s true (next (next ts)))
  set-kept s ts h o p =
      let a = next-left ts h o in let l = further a (next-left (next ts) a.ends p) in
      let k = keeps (length (next (next ts))) s true (next (next ts)) l.ends in
      record { placed = placed-behind ts (next (next ts)) _ l k.placed; end = end-behind ts (next (next ts)) _ l k.end }

  member-kept : (x : Text) (ts : Tokens) (c : Chain) → Ends ts → Opens ts → ChainKept ts c → ChainKept ts (rule.after_member x (here ts) (here (next ts)) c)
  member-kept x ts c h o k = let a = next-left ts h o in record {
    placed = (operand-in ts (rule.node (form.Name x) [] (here ts)), (λ p e. stands-behind a (at-here (next ts) (here (next ts)) a.ends refl p e), k.placed));
    end = k.end;
  }

  member-brace-kept : (s : Setting) (place : Place) (ts : Tokens) → Ends ts → Opens ts → Opens (next ts) → Kept is_of_expressions ts (rule.member_brace left inner s place ts)
  unfolding rule.member_brace
  member-brace-kept s place ts h o p = let c = inner (length (next (next ts))) s true (next (next ts)) in let k = set-kept s ts h o p in if-kept {b = rule.ends_at s m.Colon c}
      (λ _. then-kept (finished-kept ts c k) (λ set. filter-keeps s (spelling (first ts).tok) (here ts) set))
      (λ _. then-kept (finished-kept ts _ (member-kept (spelling (first ts).tok) ts c h o k)) (λ x. brace-end-keeps s place x))

  tuple-after-keeps : (s : Setting) (place : Place) (a : Node) → Keeping (rule.tuple_brace_after left inner s place a)
  unfolding rule.tuple_brace_after
  tuple-after-keeps s place a = record {
    at = λ ts h. let t = rule.after_first s a ts in let k = keeps (length ts) t false ts h in
        then-kept (finished-kept ts _ (record { placed = (operand-in ts a, k.placed); end = k.end })) (λ x. brace-end-keeps t place x);
  }

  tuple-by-kept : (s : Setting) (place : Place) (ts : Tokens) (c : Chain) → ChainKept ts c → Kept is_of_expressions ts (rule.tuple_brace_by left inner s place c)
  tuple-by-kept s place ts (piece.Operand a ∷ [], Ok us) k = behind k.end ((tuple-after-keeps s place a).at us k.end.ends)
  tuple-by-kept s place ts (piece.Operand a ∷ y ∷ ys, Ok us) k = behind k.end (refused-kept may s stop.Operand us k.end.ends)
  tuple-by-kept s place ts (piece.Prefix a ∷ ys, Ok us) k = behind k.end (refused-kept may s stop.Operand us k.end.ends)
  tuple-by-kept s place ts (piece.Infix a ∷ ys, Ok us) k = behind k.end (refused-kept may s stop.Operand us k.end.ends)
  tuple-by-kept s place ts (piece.Postfix a ∷ ys, Ok us) k = behind k.end (refused-kept may s stop.Operand us k.end.ends)
  tuple-by-kept s place ts ([], Ok us) k = behind k.end (refused-kept may s stop.Operand us k.end.ends)
  tuple-by-kept s place ts (ys, Err e) k = record { is = k.end }

  brace-from-keeps : (s : Setting) (place : Place) → Keeping (rule.brace_from left inner s place)
  unfolding rule.brace_from rule.tuple_brace sees_second
  brace-from-keeps s place = record {
    at = λ ts h. if-kept {b = sees s m.CloseBrace ts} (λ e. next-kept s m.CloseBrace ts refl h e)
        (λ _. if-kept {b = sees s m.Name ts && sees s m.Belongs (next ts)}
        (λ e. member-brace-kept s place ts h (sees-opens s m.Name ts refl (and_parts _ _ e).0) (sees-opens s m.Belongs (next ts) refl (and_parts (sees s m.Name ts) _ e).1))
        (λ _. if-kept {b = sees s m.OpenAngle ts} (λ _. tuple-by-kept s place ts (inner 1 s true ts) (keeps 1 s true ts h))
        (λ _. then-kept ((part-keeps s).at ts h) (λ x. brace-end-keeps s place x))));
  }

  brace-kept : (s : Setting) (ts : Tokens) → Ends ts → Opens ts → Kept is_of_expressions ts (rule.brace left inner s ts)
  unfolding rule.brace
  brace-kept s ts h o = then-kept (opening-kept may left ts h o) (brace-from-keeps (within around.Brace s))

  -- ---- square brackets

  field-keeps : (s : Setting) (k : Mark) → is_final k ≡ false → Keeping (rule.field_of left inner s k)
  unfolding rule.field_of
  field-keeps s k kept = then-keeps (declared-keeps may s stop.Other) (λ d. then-keeps (expect-keeps may s stop.Other k kept) (λ _. then-keeps (part-keeps s) (λ x. pure-keeps)))

  fields-keeps : (s : Setting) (k : Mark) → is_final k ≡ false → Keeping (rule.fields left inner s k)
  fields-keeps s k kept = gathered-keeps may rule.with_field rule.no_fields (eat-keeps may s m.Comma refl) (field-keeps s k kept)

  record-of-keeps : (s : Setting) (place : Place) → Keeping (rule.record_of left inner s place)
  unfolding rule.record_of
  record-of-keeps s place = then-keeps (fields-keeps s m.Maps refl) (λ f. then-keeps (expect-keeps may s stop.Expression m.CloseSquare refl) (λ _. pure-keeps))

  record-set-keeps : (s : Setting) (place : Place) → Keeping (rule.record_set left inner s place)
  unfolding rule.record_set
  record-set-keeps s place = then-keeps (fields-keeps s m.Colon refl) (λ f. then-keeps (expect-keeps may s stop.Expression m.CloseSquare refl) (λ _. pure-keeps))

  index-kept : (s : Setting) (ts : Tokens) → Ends ts → Opens ts → Kept is_of_expressions ts (rule.index left inner s ts)
  unfolding rule.index
  index-kept s ts h o = then-kept (opening-kept may left ts h o) (λ _. then-keeps (part-keeps (within around.Square s)) (λ x. then-keeps (expect-keeps may (within around.Square s) stop.Expression m.CloseSquare refl) (λ _. pure-keeps)))

  ending-keeps : (s : Setting) (e : Ending) → Keeping (rule.by_ending s e)
  ending-keeps s (ending.Index x) = pure-keeps
  ending-keeps s (ending.Field x) = pure-keeps
  ending-keeps s ending.Prime = refuse-keeps may s stop.Other

  key-by-kept : (s : Setting) (ts : Tokens) (c : Chain) → ChainKept ts c → Kept is_of_expressions ts (rule.by_key s c)
  key-by-kept s ts (piece.Postfix q ∷ [], Ok us) k = behind k.end ((ending-keeps s q.ending).at us k.end.ends)
  key-by-kept s ts (piece.Postfix q ∷ y ∷ ys, Ok us) k = behind k.end (refused-kept may s stop.Other us k.end.ends)
  key-by-kept s ts (piece.Operand a ∷ ys, Ok us) k = behind k.end (refused-kept may s stop.Other us k.end.ends)
  key-by-kept s ts (piece.Prefix a ∷ ys, Ok us) k = behind k.end (refused-kept may s stop.Other us k.end.ends)
  key-by-kept s ts (piece.Infix a ∷ ys, Ok us) k = behind k.end (refused-kept may s stop.Other us k.end.ends)
  key-by-kept s ts ([], Ok us) k = behind k.end (refused-kept may s stop.Other us k.end.ends)
  key-by-kept s ts (ys, Err e) k = record { is = k.end }

  key-keeps : (s : Setting) → Keeping (rule.key_of left inner s)
  unfolding rule.key_of
  key-keeps s = record { at = λ ts h. if-kept {b = begins_key s ts} (λ _. key-by-kept s ts (inner 1 s false ts) (keeps 1 s false ts h)) (λ _. refused-kept may s stop.Other ts h) }

  keys-keeps : (s : Setting) → Keeping (rule.keys left inner s)
  keys-keeps s = gathered-keeps may put_last [] (ask-keeps may (begins_key s)) (key-keeps s)

  update-keeps : (s : Setting) → Keeping (rule.update left inner s)
  unfolding rule.update
  update-keeps s = then-keeps (expect-keeps may s stop.Other m.Bang refl) (λ _. then-keeps (keys-keeps s)
      (λ ks. then-keeps (expect-keeps may s stop.Other m.Equal refl) (λ _. then-keeps (part-keeps (with_at s)) (λ e. pure-keeps))))

  updates-keeps : (s : Setting) (f : Node) → Keeping (rule.updates left inner s f)
  updates-keeps s f = gathered-keeps may rule.with_update (rule.no_updates f) (eat-keeps may s m.Comma refl) (update-keeps s)

  except-keeps : (s : Setting) (place : Place) (f : Node) → Keeping (rule.except left inner s place f)
  unfolding rule.except
  except-keeps s place f = then-keeps (updates-keeps s f) (λ us. then-keeps (expect-keeps may s stop.Expression m.CloseSquare refl) (λ _. pure-keeps))

  square-end-keeps : (outer : Around) (s : Setting) (place : Place) (e : Node) → Keeping (rule.square_end left inner outer s place e)
  unfolding rule.square_end rule.function_set
  square-end-keeps outer s place e = record {
    at = λ ts h. if-kept {b = sees s m.CloseBox ts} (λ q. on-seen s m.CloseBox ts refl h q (then-keeps (subscript-keeps (within outer s)) (λ v. pure-keeps)))
        (λ _. if-kept {b = sees s m.Arrow ts} (λ q. on-seen s m.Arrow ts refl h q (then-keeps (part-keeps s) (λ y. then-keeps (expect-keeps may s stop.Expression m.CloseSquare refl) (λ _. pure-keeps))))
        (λ _. if-kept {b = sees s m.Except ts} (λ q. on-seen s m.Except ts refl h q (except-keeps s place e)) (λ _. refused-kept may s stop.Expression ts h)));
  }

  function-keeps : (s : Setting) (x : Text) (place : Place) (set : Node) → Keeping (rule.function left inner s x place set)
  unfolding rule.function
  function-keeps s x place set = then-keeps (expect-keeps may s stop.Expression m.Maps refl) (λ _. then-keeps (part-keeps s) (λ e. then-keeps (expect-keeps may s stop.Expression m.CloseSquare refl) (λ _. pure-keeps)))

  member-square-kept : (outer : Around) (s : Setting) (place : Place) (ts : Tokens) → Ends ts → Opens ts → Opens (next ts) → Kept is_of_expressions ts (rule.member_square left inner outer s place ts)
  unfolding rule.member_square
  member-square-kept outer s place ts h o p = let c = inner (length (next (next ts))) s true (next (next ts)) in let k = set-kept s ts h o p in if-kept {b = rule.ends_at s m.Maps c}
      (λ _. then-kept (finished-kept ts c k) (λ set. function-keeps s (spelling (first ts).tok) (here ts) set))
      (λ _. then-kept (finished-kept ts _ (member-kept (spelling (first ts).tok) ts c h o k)) (λ x. square-end-keeps outer s place x))

  square-name-kept : (outer : Around) (s : Setting) (place : Place) (ts : Tokens) → Ends ts → Opens ts → Kept is_of_expressions ts (rule.square_name left inner outer s place ts)
  unfolding rule.square_name sees_second
  square-name-kept outer s place ts h o = if-kept {b = sees s m.Maps (next ts)} (λ _. (record-of-keeps s place).at ts h)
      (λ _. if-kept {b = sees s m.Colon (next ts)} (λ _. (record-set-keeps s place).at ts h)
      (λ _. if-kept {b = sees s m.Belongs (next ts)} (λ e. member-square-kept outer s place ts h o (sees-opens s m.Belongs (next ts) refl e))
      (λ _. then-kept ((part-keeps s).at ts h) (λ x. square-end-keeps outer s place x))))

  square-from-keeps : (outer : Around) (s : Setting) (place : Place) → Keeping (rule.square_from left inner outer s place)
  unfolding rule.square_from
  square-from-keeps outer s place = record {
    at = λ ts h. if-kept {b = sees s m.Name ts} (λ e. square-name-kept outer s place ts h (sees-opens s m.Name ts refl e))
        (λ _. then-kept ((part-keeps s).at ts h) (λ x. square-end-keeps outer s place x));
  }

  square-kept : (s : Setting) (ts : Tokens) → Ends ts → Opens ts → Kept is_of_expressions ts (rule.square left inner s ts)
  unfolding rule.square
  square-kept s ts h o = then-kept (opening-kept may left ts h o) (square-from-keeps s.around (within around.Square s))

  -- ---- bound names

  pub bound-set-keeps : (s : Setting) (ns : List Decl) → Keeping (rule.bound_set left inner s ns)
  unfolding rule.bound_set
  bound-set-keeps s ns = then-keeps (expect-keeps may s stop.Other m.Belongs refl) (λ _. then-keeps (part-keeps s) (λ x. pure-keeps))

  pub bound-keeps : (s : Setting) → Keeping (rule.bound left inner s)
  unfolding rule.bound
  bound-keeps s = then-keeps (names-keeps may s stop.Bound) (bound-set-keeps s)

  pub bounds-keeps : (s : Setting) (ns : List Decl) → Keeping (rule.bounds left inner s ns)
  unfolding rule.bounds
  bounds-keeps s ns = then-keeps (bound-set-keeps s ns) (λ g. then-keeps (eat-keeps may s m.Comma refl) (λ b. if-keeps b
      (gathered-keeps may put_last (g ∷ []) (eat-keeps may s m.Comma refl) (bound-keeps s)) (pure-keeps {a = g ∷ []})))

  groups-keeps : (s : Setting) (ns : List Decl) → Keeping (rule.groups_of left inner s ns)
  unfolding rule.groups_of
  groups-keeps s ns = record { at = λ ts h. if-kept {b = sees s m.Colon ts} (λ _. left-kept (stays ts h)) (λ _. (bounds-keeps s ns).at ts h) }

  quantifier-kept : (all : Bool) (s : Setting) (ts : Tokens) → Ends ts → Opens ts → Kept is_of_expressions ts (rule.quantifier left inner all s ts)
  unfolding rule.quantifier
  quantifier-kept all s ts h o = then-kept (take-kept ts h o) (λ place. then-keeps (names-keeps may s stop.Bound) (λ ns. then-keeps (groups-keeps s ns)
      (λ gs. then-keeps (expect-keeps may s stop.Expression m.Colon refl) (λ _. then-keeps (part-keeps s) (λ body. pure-keeps {a = rule.node (form.Quant all gs) (body ∷ []) place})))))

  domain-keeps : (s : Setting) → Keeping (rule.domain left inner s)
  unfolding rule.domain
  domain-keeps s = record {
    at = λ ts h. if-kept {b = sees s m.Belongs ts}
        (λ e. on-seen s m.Belongs ts refl h e (then-keeps (part-keeps s) (λ x. then-keeps (expect-keeps may s stop.Expression m.Colon refl) (λ _. pure-keeps))))
        (λ _. then-kept ((expect-keeps may s stop.Other m.Colon refl).at ts h) (λ _. pure-keeps));
  }

  choose-kept : (s : Setting) (ts : Tokens) → Ends ts → Opens ts → Kept is_of_expressions ts (rule.choose left inner s ts)
  unfolding rule.choose
  choose-kept s ts h o = then-kept (take-kept ts h o) (λ place. then-keeps (declared-keeps may s stop.Bound) (λ d. then-keeps (domain-keeps s) (λ set. then-keeps (part-keeps s) (λ body. pure-keeps {a = rule.node (form.Choose (rule.group (d ∷ []) set)) (body ∷ []) place}))))

  -- ---- IF, CASE, LET

  conditional-kept : (s : Setting) (ts : Tokens) → Ends ts → Opens ts → Kept is_of_expressions ts (rule.conditional left inner s ts)
  unfolding rule.conditional
  conditional-kept s ts h o = then-kept (take-kept ts h o) (λ place. then-keeps (part-keeps s) (λ a. then-keeps (expect-keeps may s stop.Expression m.Then refl) (λ _. then-keeps (part-keeps s)
      (λ b. then-keeps (expect-keeps may s stop.Expression m.Else refl) (λ _. then-keeps (part-keeps s) (λ c. pure-keeps {a = rule.node form.If (a ∷ b ∷ c ∷ []) place}))))))

  further-keeps : (s : Setting) → Keeping (rule.further_arm s)
  unfolding rule.further_arm
  further-keeps s = record { at = λ ts h. if-kept {b = sees_second s m.Other ts} (λ _. left-kept (stays ts h)) (λ _. (eat-keeps may s m.Always refl).at ts h) }

  arm-keeps : (s : Setting) → Keeping (rule.arm left inner s)
  unfolding rule.arm
  arm-keeps s = then-keeps (part-keeps s) (λ a. then-keeps (expect-keeps may s stop.Expression m.Arrow refl) (λ _. then-keeps (part-keeps s) (λ b. pure-keeps)))

  arms-keeps : (s : Setting) → Keeping (rule.arms left inner s)
  arms-keeps s = gathered-keeps may rule.with_arm [] (further-keeps s) (arm-keeps s)

  other-keeps : (s : Setting) → Keeping (rule.other_arm left inner s)
  unfolding rule.other_arm
  other-keeps s = then-keeps (expect-keeps may s stop.Other m.Other refl) (λ _. then-keeps (expect-keeps may s stop.Other m.Arrow refl) (λ _. part-keeps s))

  case-end-keeps : (s : Setting) (place : Place) (parts : List Node) → Keeping (rule.case_end left inner s place parts)
  unfolding rule.case_end
  case-end-keeps s place parts = record {
    at = λ ts h. if-kept {b = sees s m.Always ts}
        (λ e. on-seen s m.Always ts refl h e (then-keeps (other-keeps s) (λ x. pure-keeps {a = rule.node (form.Case true) (parts ++ x ∷ []) place}))) (λ _. left-kept (stays ts h));
  }

  cases-kept : (s : Setting) (ts : Tokens) → Ends ts → Opens ts → Kept is_of_expressions ts (rule.cases left inner s ts)
  unfolding rule.cases
  cases-kept s ts h o = then-kept (take-kept ts h o) (λ place. then-keeps (arms-keeps s) (case-end-keeps s place))

  pub parameters-kept : (s : Setting) (ts : Tokens) → Ends ts → Opens ts → Kept is_of_expressions ts (rule.parameters left inner s ts)
  unfolding rule.parameters
  parameters-kept s ts h o = then-kept (opening-kept may left ts h o) (λ _. then-keeps (names-keeps may (within around.Other s) stop.Other)
      (λ ds. then-keeps (expect-keeps may (within around.Other s) stop.Parameter m.CloseParen refl) (λ _. pure-keeps)))

  pub head-keeps : (s : Setting) → Keeping (rule.head left inner s)
  unfolding rule.head
  head-keeps s = record {
    at = λ ts h. if-kept {b = sees s m.OpenParen ts}
        (λ e. then-kept (parameters-kept s ts h (sees-opens s m.OpenParen ts refl e)) (λ ds. then-keeps (expect-keeps may s stop.Other m.Defines refl) (λ _. pure-keeps)))
        (λ _. then-kept ((expect-keeps may s stop.Defined m.Defines refl).at ts h) (λ _. pure-keeps));
  }

  definition-keeps : (s : Setting) → Keeping (rule.definition left inner s)
  unfolding rule.definition
  definition-keeps s = then-keeps (declared-keeps may s stop.Other) (λ d. then-keeps (head-keeps s) (λ ds. then-keeps (part-keeps s) (λ body. pure-keeps)))

  definitions-keeps : (s : Setting) → Keeping (rule.definitions left inner s)
  definitions-keeps s = gathered-keeps may put_last [] (ask-keeps may (sees s m.Name)) (definition-keeps s)

  local-kept : (s : Setting) (ts : Tokens) → Ends ts → Opens ts → Kept is_of_expressions ts (rule.local left inner s ts)
  unfolding rule.local
  local-kept s ts h o = then-kept (take-kept ts h o) (λ place. then-keeps (definitions-keeps s)
      (λ ds. then-keeps (expect-keeps may s stop.Expression m.In refl) (λ _. then-keeps (part-keeps s) (λ body. pure-keeps {a = rule.node (form.Let ds) (body ∷ []) place}))))

  -- ---- junction lists

  bullet-opens : (s : Setting) (k : Mark) (ts : Tokens) → is_final k ≡ false → sees_bullet s k ts ≡ true → Opens ts
  bullet-opens s k ts kept e = not-final ts k kept (marks-same (mark ts) k (and_parts (nat_eq (here ts).column s.region) _ e).1)

  items-kept : (s : Setting) (k : Mark) → is_final k ≡ false → (ts : Tokens) → Ends ts → Opens ts → Kept is_of_expressions ts (rule.items left inner s k ts)
  unfolding gathered gathered_from rule.bulleted
  items-kept s k kept ts h o = turns (length ts) [] ts h o
    where
      turns : (n : ℕ) (found : List Node) (ts : Tokens) → Ends ts → Opens ts → Kept is_of_expressions ts (gathered_from n (ask (sees_bullet s k)) (rule.bulleted left inner s) put_last found ts)
      turns zero found ts h o = record { is = fault-here may ts _ h refl }
      turns (suc n) found ts h o = let l = next-left ts h o in behind l (then-kept ((part-keeps s).at (next ts) l.ends) (λ x. record {
        at = λ us q.
            by-choice us (sees_bullet s k us) (gathered_from n (ask (sees_bullet s k)) (rule.bulleted left inner s) put_last (found ++ x ∷ [])) (λ vs. Ok (found ++ x ∷ [], vs))
            (λ e. turns n (found ++ x ∷ []) us q (bullet-opens s k us kept e)) (λ _. left-kept (stays us q));
      }))

  junction-kept : (all : Bool) (k : Mark) → is_final k ≡ false → (s : Setting) (ts : Tokens) → Ends ts → Opens ts → Kept is_of_expressions ts (rule.junction left inner all k s ts)
  unfolding rule.junction
  junction-kept all k kept s ts h o = then-kept (items-kept (right_of (here ts).column s) k kept ts h o) (λ xs. pure-keeps)

  -- ---- operands

  operand-by-kept : (s : Setting) (ts : Tokens) (k : Mark) → Ends ts → (is_final k ≡ false → Opens ts) → Kept is_of_expressions ts (rule.operand_by left inner s k ts)
  unfolding rule.value rule.literal rule.at
  operand-by-kept s ts m.Name h o = named-kept s ts h (o refl)
  operand-by-kept s ts m.Value h o = left-kept (next-left ts h (o refl))
  operand-by-kept s ts m.Number h o = left-kept (next-left ts h (o refl))
  operand-by-kept s ts m.Str h o = left-kept (next-left ts h (o refl))
  operand-by-kept s ts m.OpenParen h o = parenthesized-kept s ts h (o refl)
  operand-by-kept s ts m.OpenBrace h o = brace-kept s ts h (o refl)
  operand-by-kept s ts m.OpenSquare h o = square-kept s ts h (o refl)
  operand-by-kept s ts m.OpenAngle h o = angle-kept s ts h (o refl)
  operand-by-kept s ts m.And h o = junction-kept true m.And refl s ts h (o refl)
  operand-by-kept s ts m.Or h o = junction-kept false m.Or refl s ts h (o refl)
  operand-by-kept s ts m.Forall h o = quantifier-kept true s ts h (o refl)
  operand-by-kept s ts m.Exists h o = quantifier-kept false s ts h (o refl)
  operand-by-kept s ts m.Choose h o = choose-kept s ts h (o refl)
  operand-by-kept s ts m.If h o = conditional-kept s ts h (o refl)
  operand-by-kept s ts m.Case h o = cases-kept s ts h (o refl)
  operand-by-kept s ts m.Let h o = local-kept s ts h (o refl)
  operand-by-kept s ts m.Weak h o = fair-kept false s ts h (o refl)
  operand-by-kept s ts m.Strong h o = fair-kept true s ts h (o refl)
  operand-by-kept s ts m.At h o = if-kept {b = s.has_at} (λ _. left-kept (next-left ts h (o refl))) (λ _. refused-kept may s stop.Operand ts h)
  operand-by-kept s ts _ h o = refused-kept may s stop.Operand ts h

  operand-kept : (s : Setting) (ts : Tokens) → Ends ts → Kept is_of_expressions ts (rule.operand left inner s ts)
  unfolding rule.operand
  operand-kept s ts h = if-kept {b = is_inside s ts} (λ _. operand-by-kept s ts (mark ts) h (λ kept. not-final ts (mark ts) kept refl)) (λ _. refused-kept may s stop.Operand ts h)

  -- ---- chains

  abbrev StepKeeps : Tokens → Stepped → Type 0
  StepKeeps ts (More x opens, us) = PieceIn ts x × LeftOf ts us
  StepKeeps ts (Ended, us) = LeftOf ts us
  StepKeeps ts (Broken None e, us) = FaultIn is_of_expressions ts e
  StepKeeps ts (Broken (Some x) e, us) = PieceIn ts x × FaultIn is_of_expressions ts e

  on-operand : (ts : Tokens) (r : Outcome Node) → Kept is_of_expressions ts r → StepKeeps ts (rule.by_operand r)
  on-operand ts (Ok p) k = (operand-in ts p.0, k.is)
  on-operand ts (Err e) k = k.is

  on-suffix : {A : Type 0} (ts : Tokens) (whole : A → Piece) (unfinished : Piece) (r : Outcome A) → ((a : A) → PieceIn ts (whole a)) → PieceIn ts unfinished → Kept is_of_expressions ts r → StepKeeps ts (rule.by_suffix whole unfinished r)
  on-suffix ts whole unfinished (Ok p) in-whole in-part k = (in-whole p.0, k.is)
  on-suffix ts whole unfinished (Err e) in-whole in-part k = (in-part, k.is)

  suffixed-kept : (s : Setting) (k : Mark) (ts : Tokens) → Ends ts → (is_final k ≡ false → Opens ts) → StepKeeps ts (rule.suffixed left inner s k ts)
  unfolding rule.indexed rule.field
  suffixed-kept s m.Prime ts h o = (at-here ts (here ts) h refl, next-left ts h (o refl))
  suffixed-kept s m.OpenSquare ts h o = on-suffix ts (λ e. rule.index_at e (here ts)) (rule.index_at hole (here ts)) (rule.index left inner s ts) (λ a. at-here ts (here ts) h refl) (at-here ts (here ts) h refl) (index-kept s ts h (o refl))
  suffixed-kept s m.Dot ts h o = let l = next-left ts h (o refl) in
      on-suffix ts (λ x. rule.field_at x (here ts)) (rule.field_at [] (here ts)) (name s stop.Other (next ts)) (λ a. at-here ts (here ts) h refl) (at-here ts (here ts) h refl) (behind l ((name-keeps may s stop.Other).at (next ts) l.ends))
  suffixed-kept s _ ts h o = stays ts h

  -- an operator that is found is the next token, which ends no list
  operator-here : (s : Setting) (fix : Fix) (ts : Tokens) (o : Operator) → operator_in s fix ts ≡ Some o → (here ts ≡ o.place) × Opens ts
  unfolding operator_in
  operator-here s fix ts o e = by-test e (λ _ is. (by-row (operator (spelling (first ts).tok) fix) is, operator-last (first ts) fix _ o refl is)) (λ _ none. absurd (none-some _ none))
    where
      by-row : (r : Option (ℕ × ℕ × Bool)) → operator_at (first ts) r ≡ Some o → here ts ≡ o.place
      by-row (Some row) is = ap (λ x. x.place) (same-some (record { sign = spelling (first ts).tok; low = row.0; high = row.1; is_left = row.2; place = here ts }) o is)
      by-row None is = absurd (none-some _ is)

  found-kept : (s : Setting) (fix : Fix) (ts : Tokens) (o : Operator) → Ends ts → operator_in s fix ts ≡ Some o → ((p : Place) → Some o.place ≡ Some p → StandsIn ts p) × LeftOf ts (next ts)
  found-kept s fix ts o h e = let at = operator-here s fix ts o e in (at-here ts o.place h at.0, next-left ts h at.1)

  before-kept : (s : Setting) (o : Option Operator) (ts : Tokens) → Ends ts → operator_in s Prefix ts ≡ o → StepKeeps ts (rule.before_by left inner s o ts)
  before-kept s (Some o) ts h e = found-kept s Prefix ts o h e
  before-kept s None ts h e = on-operand ts (rule.operand left inner s ts) (operand-kept s ts h)

  after-kept : (s : Setting) (o : Option Operator) (ts : Tokens) → Ends ts → operator_in s Infix ts ≡ o → StepKeeps ts (rule.after_by left inner s o ts)
  after-kept s (Some o) ts h e = found-kept s Infix ts o h e
  after-kept s None ts h e = cond_both (is_inside s ts) (rule.suffixed left inner s (mark ts) ts) (Ended, ts) (λ p. StepKeeps ts p) (λ _. suffixed-kept s (mark ts) ts h (λ kept. not-final ts (mark ts) kept refl)) (λ _. stays ts h)

  step-kept : (s : Setting) (waits : Bool) (ts : Tokens) → Ends ts → StepKeeps ts (rule.step left inner s waits ts)
  unfolding rule.step_before rule.step_after
  step-kept s true ts h = before-kept s (operator_in s Prefix ts) ts h refl
  step-kept s false ts h = after-kept s (operator_in s Infix ts) ts h refl

  joined-kept : (ts : Tokens) (p : Stepped) (more : Bool → Tokens → Chain) → StepKeeps ts p → ((opens : Bool) (us : Tokens) → Ends us → ChainKept us (more opens us)) → ChainKept ts (rule.joined p more)
  joined-kept ts (More x opens, us) more h go = let k = go opens us h.1.ends in record { placed = (h.0, placed-behind ts us _ h.1 k.placed); end = end-behind ts us _ h.1 k.end }
  joined-kept ts (Ended, us) more h go = record { placed = tt; end = h }
  joined-kept ts (Broken None e, us) more h go = record { placed = tt; end = h }
  joined-kept ts (Broken (Some x) e, us) more h go = record { placed = (h.0, tt); end = h.1 }

  chain-kept : (n : ℕ) (s : Setting) (waits : Bool) (ts : Tokens) → Ends ts → ChainKept ts (rule.chain_from left inner n s waits ts)
  unfolding rule.chain_from
  chain-kept zero s true ts h = record { placed = tt; end = refusal-in may s stop.Operand ts h }
  chain-kept zero s false ts h = record { placed = tt; end = stays ts h }
  chain-kept (suc n) s waits ts h = joined-kept ts (rule.step left inner s waits ts) (rule.chain_from left inner n s) (step-kept s waits ts h) (λ opens us k. chain-kept n s opens us k)

pub nested-kept : (left n : ℕ) (s : Setting) (waits : Bool) (ts : Tokens) → Ends ts → ChainKept ts (nested left n s waits ts)
unfolding nested
nested-kept zero n s waits ts h = record { placed = tt; end = too-deep-in may s ts h }
nested-kept (suc left) n s waits ts h = chain-kept left (nested left) (nested-kept left) n s waits ts h

pub stand-in : FaultsStandInTheList
stand-in left s ts e h is = subst (λ o. Keeps is_of_expressions ts o) is ((part-keeps left (nested left) (nested-kept left) s).at ts h).is
