-- The ranks derive, replace and extension: what equations and their Nots give.
use Rattle.std.specs.Prelude.{Bool, true, false, not, Option, Some, None, [], ◌∷◌}
use Rattle.core_expr.specs.declared.head.Head.TheVariants.{Enum, Cup, Cap, Diff, Power, Union, FunSet}
use Rattle.core_expr.specs.declared.head.Binder.TheVariants.{Filter, Image}
use Rattle.core_expr.specs.Tree.{Tree, boolean_, not_, imp_, iff_, eq_, in_, dom_, apply_, all_, fun_}
use Rattle.core_expr.specs.Tree.Tree.{bound, node, bind}
use Rattle.core_expr.specs.Put.{shift}
use Rattle.core_expr.specs.Terms.{same, less}
use Rattle.search_definition.specs.declared.rule.Rule.TheVariants.{SameMembers, FunctionValues, OtherFunction, Replaced, Members}
use Rattle.search_definition.specs.Terms.{if_so, either, when, or_else, after, first_some, occurs, replace}
use Rattle.search_definition.specs.Branches.{Branch, alive, has}
use Rattle.search_definition.specs.Rules.{Step, Result, gives, oldest}
use Rattle.search_definition.specs.Plain.{Left, member}

-- the term is built by a set constructor
abbrev pub is_set : Tree → Bool
is_set boolean_ = true
is_set (node Enum ns ps) = true
is_set (node Cup ns ps) = true
is_set (node Cap ns ps) = true
is_set (node Diff ns ps) = true
is_set (node Power ns ps) = true
is_set (node Union ns ps) = true
is_set (node FunSet ns ps) = true
is_set (bind Filter ps e) = true
is_set (bind Image ps e) = true
is_set _ = false

-- the term is a function constructor
abbrev pub is_fun : Tree → Bool
is_fun (fun_ s e) = true
is_fun _ = false

-- the right side of the schema where there is one, else f
abbrev pub right_or : Tree → Option Left → Tree
right_or f None = f
right_or f (Some l) = l.right

-- x \in X for the bound variable x, put by its schema where one fits; X is closed
abbrev pub members : Tree → Tree
members x = right_or (in_ (bound 0) x) (member (bound 0) x)

-- A and B have the same members
abbrev pub same_members : Tree → Tree → Tree
same_members a b = all_ (iff_ (members a) (members b))

-- the step, where the test holds
abbrev pub step_if : Bool → Option Step → Option Step
step_if true x = x
step_if false x = None

-- case 0: an equation with a set constructor on a side gives that both have the same members, unless that stands on the branch
abbrev pub derive_set : Branch → Tree → Tree → Option Step
derive_set b s t = step_if (either (is_set s) (is_set t)) (step_if (not (has b (same_members s t))) (gives SameMembers (eq_ s t ∷ []) [] (same_members s t ∷ [])))

-- the function g takes the values e on s
abbrev pub at_all : Tree → Tree → Tree → Tree
at_all g s e = all_ (imp_ (in_ (bound 0) (shift 0 1 s)) (eq_ (apply_ (shift 0 1 g) (bound 0)) e))

-- one of the two does not stand on the branch
abbrev pub lacks : Branch → Tree → Tree → Bool
lacks b f g = either (not (has b f)) (not (has b g))

-- case 1: f says that g, which is no function constructor, is Fun(S; e), where e is more than g's own value: it gives g's domain and values, unless both stand on the branch
abbrev pub derive_fun : Branch → Tree → Tree → Tree → Option Step
derive_fun b f g (fun_ s e) =
    step_if (not (either (is_fun g) (same e (apply_ (shift 0 1 g) (bound 0))))) (
    step_if (lacks b (eq_ (dom_ g) s) (at_all g s e)) (gives FunctionValues (f ∷ []) (g ∷ []) (eq_ (dom_ g) s ∷ at_all g s e ∷ []))
    )
derive_fun b f g _ = None

-- the function constructor that f says g to be
abbrev pub fun_of : Tree → Tree → Option Tree
fun_of g (eq_ a (fun_ s e)) = when (same a g) (fun_ s e)
fun_of g (eq_ (fun_ s e) a) = when (same a g) (fun_ s e)
fun_of g _ = None

-- A formula with the function constructor that it says some function to be.
pub record Described : Type 0 where
  pub formula : Tree
  pub function : Tree

-- f, with the function constructor that it says g to be
abbrev pub described : Tree → Option Tree → Option Described
described f None = None
described f (Some u) = Some (record { formula = f; function = u })

abbrev pub describes : Tree → Tree → Option Described
describes g f = described f (fun_of g f)

-- ~(v = u) from what says that g is v, unless it stands on the branch
abbrev pub other_function : Branch → Tree → Tree → Tree → Described → Option Step
other_function b f g u d = step_if (not (has b (not_ (eq_ d.function u)))) (gives OtherFunction (f ∷ d.formula ∷ []) (g ∷ []) (not_ (eq_ d.function u) ∷ []))

-- case 2: f says that g is not the function constructor u; the oldest live entry that says which function constructor g is says v: it gives ~(v = u)
abbrev pub derive_not : Branch → Tree → Tree → Tree → Option Step
derive_not b f g u = step_if (is_fun u) (step_if (not (is_fun g)) (after (other_function b f g u) (first_some (describes g) (alive b))))

-- Rank derive: what an equation or its Not says of members, domains and values is added; the entry stays live. The first case that adds something new is taken.
abbrev pub derive : Branch → Tree → Option Step
derive b (eq_ s t) = or_else (derive_set b s t) (or_else (derive_fun b (eq_ s t) s t) (derive_fun b (eq_ s t) t s))
derive b (not_ (eq_ s t)) = or_else (derive_not b (not_ (eq_ s t)) s t) (derive_not b (not_ (eq_ s t)) t s)
derive b _ = None

-- The sides of an equation by their order.
pub record Ordered : Type 0 where
  pub greater : Tree
  pub smaller : Tree

-- the greater and the smaller side of an equation with unequal sides
abbrev pub sides_of : Tree → Option Ordered
sides_of (eq_ s t) = when (not (same s t)) (if_so (less s t) (record { greater = t; smaller = s }) (record { greater = s; smaller = t }))
sides_of _ = None

-- f with the greater side of the equation q replaced by the smaller side; the equation is not used on itself
abbrev pub replaced_by : Tree → Ordered → Tree → Option Step
replaced_by q o f = step_if (not (same q f)) (step_if (occurs o.greater f) (gives Replaced (f ∷ q ∷ []) (o.greater ∷ o.smaller ∷ []) (replace o.greater o.smaller f ∷ [])))

-- the oldest live entry that the equation q, with these sides, fits
abbrev pub by_sides : Branch → Tree → Ordered → Option Result
by_sides b q o = oldest (replaced_by q o) 0 b

-- the oldest live entry that the equation q fits
abbrev pub by_equation : Branch → Tree → Option Result
by_equation b q = after (by_sides b q) (sides_of q)

-- Rank replace: the oldest live equation that fits some other live entry; the oldest such entry dies and gives itself with the smaller side for the greater.
abbrev pub replace_rule : Branch → Option Result
replace_rule b = first_some (by_equation b) (alive b)

-- Rank extension: ~(A = B) with a set constructor on a side gives that A and B do not have the same members.
abbrev pub extension : Tree → Option Step
extension (not_ (eq_ a b)) = step_if (either (is_set a) (is_set b)) (gives Members (not_ (eq_ a b) ∷ []) [] (not_ (same_members a b) ∷ []))
extension _ = None
