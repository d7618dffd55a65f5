-- The order in which operators are met.
use Rattle.std.proofs.Common.{◌≡◌, ◌<◌, ◌++◌, Bool, true, false, if◌then◌else◌, List, [], ◌∷◌, map, reverse, length, refl, sym, ap, subst, ◌∙◌, arith, append_assoc, append-nil}
use Rattle.std.specs.List.{flat_map}
use Rattle.std.specs.Borrow.{Bor}
use Rattle.std.proofs.lemmas.List.{map-append, reverse-append, length-append}
use Rattle.std.proofs.lemmas.Grind.{flat_map-append}
use Rattle.tla_ast.specs.declared.place.Place.{Place}
use Rattle.tla_ast.specs.declared.tree.Node.{Node, out-Node}
use Rattle.tla_ast.specs.declared.tree.Form.{Form, out-Form, roll-Form, roll-out-Form}
use Rattle.tla_ast.specs.declared.tree.Form.TheFolds.{fold-roll-Form}
use Rattle.tla_ast.specs.declared.tree.Form.TheOpen.{Form-F}
use Rattle.tla_ast.specs.declared.tree.Path.{Path}
use Rattle.tla_ast.specs.declared.tree.Key.{Key}
use Rattle.tla_ast.specs.declared.tree.Group.{Group}
use Rattle.tla_ast.specs.declared.tree.Def.{Def}
use Rattle.plain_syntax.specs.Plain.{Term, Keys}
use Rattle.plain_syntax.specs.Plain.Term.{term}
use Rattle.plain_syntax.specs.Plain.Shape.{prefixed, infixed, prime, index, field}
use Rattle.plain_syntax.specs.Syntax.{Held, shape_of, key_of, def_of, group_of, node_of, path_of, term_of, terms_of, except_of}
use Rattle.plain_syntax.specs.Order.{order, orders, joined_by, joins, operands}
use Rattle.plain_syntax.proofs.Forms.{held, by-form}

all-orders : (ts : List Term) → orders (terms_of ts) ≡ flat_map order ts
all-orders [] = refl
all-orders (t ∷ ts) = ap (λ l. order t ++ l) (all-orders ts)

-- what is held comes last, behind the operands that it joins
abbrev Ordered : List Term → Place → Bool → Held → Type 0
Ordered ts p b h = order (h ts p) ≡ flat_map order (if b then ts else []) ++ h ts p ∷ []

abbrev Unrolled : Type 0
Unrolled = Form-F Form Key Def Group Node Path

excepted : (ks : List Keys) (ts : List Term) (p : Place) → Ordered ts p false (except_of ks)
excepted ks [] p = refl
excepted ks (t ∷ ts) p = refl

rolled : (ts : List Term) (p : Place) (x : Unrolled) → Ordered ts p (joined_by x) (held (roll-Form x))
unfolding held
rolled ts p (Form-F.Prefix o) = subst (Ordered ts p true) (sym (fold-roll-Form _ _ _ _ _ _ shape_of key_of def_of group_of node_of path_of (Form-F.Prefix o))) (ap (λ l. l ++ term (prefixed o) (terms_of ts) p ∷ []) (all-orders ts))
rolled ts p (Form-F.Infix o) = subst (Ordered ts p true) (sym (fold-roll-Form _ _ _ _ _ _ shape_of key_of def_of group_of node_of path_of (Form-F.Infix o))) (ap (λ l. l ++ term (infixed o) (terms_of ts) p ∷ []) (all-orders ts))
rolled ts p Form-F.Prime = subst (Ordered ts p true) (sym (fold-roll-Form _ _ _ _ _ _ shape_of key_of def_of group_of node_of path_of Form-F.Prime)) (ap (λ l. l ++ term prime (terms_of ts) p ∷ []) (all-orders ts))
rolled ts p Form-F.Index = subst (Ordered ts p true) (sym (fold-roll-Form _ _ _ _ _ _ shape_of key_of def_of group_of node_of path_of Form-F.Index)) (ap (λ l. l ++ term index (terms_of ts) p ∷ []) (all-orders ts))
rolled ts p (Form-F.Form::Field h) = subst (Ordered ts p true) (sym (fold-roll-Form _ _ _ _ _ _ shape_of key_of def_of group_of node_of path_of (Form-F.Form::Field h))) (ap (λ l. l ++ term (field h) (terms_of ts) p ∷ []) (all-orders ts))
rolled ts p (Form-F.Except ps) = subst (Ordered ts p false) (sym (fold-roll-Form _ _ _ _ _ _ shape_of key_of def_of group_of node_of path_of (Form-F.Except ps))) (excepted _ ts p)
rolled ts p x = subst (Ordered ts p false) (sym (fold-roll-Form _ _ _ _ _ _ shape_of key_of def_of group_of node_of path_of x)) refl

order-is : (n : Node) → order (term_of n) ≡ flat_map order (map term_of (operands n)) ++ term_of n ∷ []
order-is n =
    let f = (out-Node n).form in
    let ts = map term_of (out-Node n).parts in
    let p = (out-Node n).place in
    let o : Ordered ts p (joins f) (held f) = subst (λ g. Ordered ts p (joins f) (held g)) (roll-out-Form f) (rolled ts p (out-Form f)) in
    subst (λ t. order t ≡ flat_map order (map term_of (operands n)) ++ t ∷ []) (sym (by-form n (held f) refl)) (o ∙ ap (λ l. flat_map order l ++ held f ts p ∷ []) (chosen (joins f) (out-Node n).parts))
  where
    chosen : (b : Bool) (ns : List Node) → (if b then map term_of ns else []) ≡ map term_of (if b then ns else [])
    chosen true ns = refl
    chosen false ns = refl

-- ---- the stack

-- the expressions on a stack
abbrev pub stacked : List (Bor Node) → List Term
stacked ns = map (λ n. term_of n.now) ns

terms-on : (ns : List (Bor Node)) → stacked ns ≡ map term_of (map (λ n. n.now) ns)
terms-on [] = refl
terms-on (n ∷ ns) = ap (λ l. term_of n.now ∷ l) (terms-on ns)

on-stack : (rest next : List (Bor Node)) (ns : List Node) → map (λ n. n.now) next ≡ map (λ n. n.now) rest ++ ns → flat_map order (stacked next) ≡ flat_map order (stacked rest) ++ flat_map order (map term_of ns)
on-stack rest next ns e =
    ap (flat_map order) (terms-on next ∙ ap (map term_of) e ∙ map-append term_of (map (λ n. n.now) rest) ns ∙ ap (λ l. l ++ map term_of ns) (sym (terms-on rest)))
    ∙ flat_map-append order (stacked rest) (map term_of ns)

popped : (stack rest : List (Bor Node)) (n : Bor Node) → stack ≡ rest ++ n ∷ [] → flat_map order (stacked stack) ≡ flat_map order (stacked rest) ++ order (term_of n.now)
popped stack rest n e = on-stack rest stack (n.now ∷ []) (ap (map (λ m. m.now)) e ∙ map-append (λ m. m.now) rest (n ∷ [])) ∙ ap (λ l. flat_map order (stacked rest) ++ l) (append-nil (order (term_of n.now)))

-- an operator that is taken from the stack stands before all that were found, and its operands are on the stack
pub order-step : (all : List Term) (stack rest next found more : List (Bor Node)) (n : Bor Node) → all ≡ flat_map order (stacked stack) ++ stacked (reverse found) → stack ≡ rest ++ n ∷ []
    → map (λ m. m.now) next ≡ map (λ m. m.now) rest ++ operands n.now → more ≡ found ++ n ∷ [] → all ≡ flat_map order (stacked next) ++ stacked (reverse more)
order-step all stack rest next found more n h e f g =
    let a = popped stack rest n e in
    let b = on-stack rest next (operands n.now) f in
    let c = ap (λ l. stacked (reverse l)) g ∙ ap stacked (reverse-append found (n ∷ [])) in
    let d = ap (λ l. (flat_map order (stacked rest) ++ l) ++ stacked (reverse found)) (order-is n.now) in
    h ∙ ap (λ l. l ++ stacked (reverse found)) a ∙ d
    ∙ ap (λ l. l ++ stacked (reverse found)) (sym (append_assoc (flat_map order (stacked rest)) (flat_map order (map term_of (operands n.now))) (term_of n.now ∷ [])))
    ∙ append_assoc (flat_map order (stacked rest) ++ flat_map order (map term_of (operands n.now))) (term_of n.now ∷ []) (stacked (reverse found))
    ∙ (λ i. sym b i ++ sym c i)

pub order-smaller : (stack rest next : List (Bor Node)) (n : Bor Node) → stack ≡ rest ++ n ∷ [] → map (λ m. m.now) next ≡ map (λ m. m.now) rest ++ operands n.now
    → length (flat_map order (stacked next)) < length (flat_map order (stacked stack))
order-smaller stack rest next n e f =
    let rests = flat_map order (stacked rest) in
    let more = flat_map order (map term_of (operands n.now)) in
    let a = ap length (on-stack rest next (operands n.now) f) ∙ length-append rests more in
    let b = ap length (popped stack rest n e) ∙ length-append rests (order (term_of n.now)) in
    let c = ap length (order-is n.now) ∙ length-append more (term_of n.now ∷ []) in omega (arith, a, b, c)
