-- The ranks plain, rewrite and choice: a formula gives others by itself.
use Rattle.std.specs.Prelude.{ℕ, zero, suc, nat_eq, Option, Some, None, List, [], ◌∷◌, ◌++◌}
use Rattle.core_expr.specs.Tree.{Tree, Parts, size, true_, false_, boolean_, not_, and_, or_, imp_, eq_, in_, subseteq_, cup_, cap_, diff_, power_, union_, funset_, dom_, apply_, except_, if_, enum_, tuple_, num_, all_, ex_, choose_, filter_, image_, fun_}
use Rattle.core_expr.specs.Tree.Tree.{bound}
use Rattle.core_expr.specs.Put.{inst, shift}
use Rattle.seq_calculus.specs.Schemas.{join, equals_each, equal_pairs, nth}
use Rattle.search_definition.specs.declared.rule.Rule.TheVariants.{DoubleNot, Conjunction, DeniedDisjunction, DeniedImplication, FunctionSet, LeftSide, DeniedLeftSide, Rewritten, Witness, Counterexample}
use Rattle.search_definition.specs.Terms.{if_so, after, list_of, replace, first_at}
use Rattle.search_definition.specs.Rules.{Step, gives}

-- The left side of an equivalence schema: the schema's number, its z and its parameters, and the right side of the instance.
pub record Left : Type 0 where
  pub schema : ℕ
  pub z : ℕ
  pub params : List Tree
  pub right : Tree

-- the left side with the given schema, z, parameters and right side
abbrev pub left : ℕ → ℕ → List Tree → Tree → Option Left
left k z ps r = Some (record { schema = k; z = z; params = ps; right = r })

-- t \in X as the left side of a schema: 1 to 9 and 18; t may have loose variables
abbrev pub member : Tree → Tree → Option Left
member t (enum_ es) = left 1 0 (t ∷ list_of es) (join (λ a b. or_ a b) false_ (equals_each t (list_of es)))
member t (cup_ a b) = left 2 0 (t ∷ a ∷ b ∷ []) (or_ (in_ t a) (in_ t b))
member t (cap_ a b) = left 3 0 (t ∷ a ∷ b ∷ []) (and_ (in_ t a) (in_ t b))
member t (diff_ a b) = left 4 0 (t ∷ a ∷ b ∷ []) (and_ (in_ t a) (not_ (in_ t b)))
member t (power_ a) = left 5 0 (t ∷ a ∷ []) (subseteq_ t a)
member t (union_ a) = left 6 0 (t ∷ a ∷ []) (ex_ (and_ (in_ (bound 0) (shift 0 1 a)) (in_ (shift 0 1 t) (bound 0))))
member t (filter_ a p) = left 7 0 (t ∷ a ∷ p ∷ []) (and_ (in_ t a) (inst p t))
member t (image_ a e) = left 8 0 (t ∷ a ∷ e ∷ []) (ex_ (and_ (in_ (bound 0) (shift 0 1 a)) (eq_ (shift 0 1 t) e)))
member t boolean_ = left 9 0 (t ∷ []) (or_ (eq_ t true_) (eq_ t false_))
member t (funset_ s u) =
    left 18 0 (t ∷ s ∷ u ∷ [])
    (and_ (eq_ t (fun_ s (apply_ (shift 0 1 t) (bound 0)))) (all_ (imp_ (in_ (bound 0) (shift 0 1 s)) (in_ (apply_ (shift 0 1 t) (bound 0)) (shift 0 1 u)))))
member t _ = None

-- f as the left side of a schema: 1 to 10, 17, 18 and 20
abbrev pub left_side : Tree → Option Left
left_side (in_ t a) = member t a
left_side (subseteq_ a b) = left 10 0 (a ∷ b ∷ []) (all_ (imp_ (in_ (bound 0) (shift 0 1 a)) (in_ (bound 0) (shift 0 1 b))))
left_side (eq_ (fun_ s d) (fun_ t e)) = left 17 0 (s ∷ d ∷ t ∷ e ∷ []) (and_ (eq_ s t) (all_ (imp_ (in_ (bound 0) (shift 0 1 s)) (eq_ d e))))
left_side (eq_ (tuple_ as') (tuple_ bs)) =
    left 20 (size as') (list_of as' ++ list_of bs) (if_so (nat_eq (size as') (size bs)) (join (λ a b. and_ a b) true_ (equal_pairs (list_of as') (list_of bs))) false_)
left_side _ = None

-- the left side gives the right side
abbrev pub by_left : Tree → Option Left → Option Step
by_left f None = None
by_left f (Some l) = gives (LeftSide l.schema) (f ∷ []) [] (l.right ∷ [])

-- the Not of the left side gives the Not of the right side
abbrev pub by_not_left : Tree → Option Left → Option Step
by_not_left f None = None
by_not_left f (Some l) = gives (DeniedLeftSide l.schema) (f ∷ []) [] (not_ l.right ∷ [])

-- Rank plain: a formula gives its parts where one branch is enough, and a left side of a schema (or its Not) the right side (or its Not).
abbrev pub plain : Tree → Option Step
plain (not_ (not_ a)) = gives DoubleNot (not_ (not_ a) ∷ []) [] (a ∷ [])
plain (and_ a b) = gives Conjunction (and_ a b ∷ []) [] (a ∷ b ∷ [])
plain (not_ (or_ a b)) = gives DeniedDisjunction (not_ (or_ a b) ∷ []) [] (not_ a ∷ not_ b ∷ [])
plain (not_ (imp_ a b)) = gives DeniedImplication (not_ (imp_ a b) ∷ []) [] (a ∷ not_ b ∷ [])
plain (not_ a) = by_not_left (not_ a) (left_side a)
plain (in_ f (funset_ s t)) =
    gives FunctionSet (in_ f (funset_ s t) ∷ []) []
    (eq_ f (fun_ s (apply_ (shift 0 1 f) (bound 0))) ∷ eq_ (dom_ f) s ∷ all_ (imp_ (in_ (bound 0) (shift 0 1 s)) (in_ (apply_ (shift 0 1 f) (bound 0)) (shift 0 1 t))) ∷ [])
plain f = by_left f (left_side f)

-- The equation of schema 15, 19 or 21 at a subterm: its schema, z and parameters, and its two sides.
pub record Rewrite : Type 0 where
  pub schema : ℕ
  pub z : ℕ
  pub params : List Tree
  pub from : Tree
  pub to : Tree

-- the equation of a tuple's component i
abbrev pub nth_rewrite : Parts → ℕ → Option Tree → Option Rewrite
nth_rewrite ps i None = None
nth_rewrite ps i (Some a) = Some (record { schema = 21; z = i; params = list_of ps; from = apply_ (tuple_ ps) (num_ 0 i); to = a })

-- the equation that rewrites this very term: DOMAIN of a function constructor, an EXCEPT, or a tuple at a numeral in range
abbrev pub rewrite_of : Tree → Option Rewrite
rewrite_of (dom_ (fun_ s e)) = Some (record { schema = 15; z = 0; params = s ∷ e ∷ []; from = dom_ (fun_ s e); to = s })
rewrite_of (except_ f a b) =
    Some (record { schema = 19; z = 0; params = f ∷ a ∷ b ∷ []; from = except_ f a b; to = fun_ (dom_ f) (if_ (eq_ (bound 0) (shift 0 1 a)) (shift 0 1 b) (apply_ (shift 0 1 f) (bound 0))) })
rewrite_of (apply_ (tuple_ ps) (num_ zero (suc i))) = nth_rewrite ps (suc i) (nth (list_of ps) i)
rewrite_of _ = None

-- f with the equation's left side replaced by its right side everywhere
abbrev pub rewritten : Tree → Rewrite → Option Step
rewritten f r = gives (Rewritten r.schema) (f ∷ []) (r.from ∷ r.to ∷ []) (replace r.from r.to f ∷ [])

-- Rank rewrite: the first closed subterm that has such an equation is replaced everywhere in the formula.
abbrev pub rewrite : Tree → Option Step
rewrite f = after (rewritten f) (first_at rewrite_of f)

-- Rank choice: Ex(P) gives P of its chosen term, ~All(P) gives ~P of the chosen counterexample.
abbrev pub choice : Tree → Option Step
choice (ex_ p) = gives Witness (ex_ p ∷ []) [] (inst p (choose_ p) ∷ [])
choice (not_ (all_ p)) = gives Counterexample (not_ (all_ p) ∷ []) [] (not_ (inst p (choose_ (not_ p))) ∷ [])
choice _ = None
