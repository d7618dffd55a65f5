-- The proof trees of function sets and of the ranks derive and extension.
use Rattle.std.specs.Prelude.{ℕ, Option, Some, None, List, [], ◌∷◌}
use Rattle.core_expr.specs.Tree.{Tree, not_, and_, imp_, iff_, eq_, in_, funset_, dom_, apply_, all_, choose_, fun_}
use Rattle.core_expr.specs.Tree.Tree.{bound}
use Rattle.core_expr.specs.Put.{inst}
use Rattle.core_expr.specs.Terms.{same}
use Rattle.seq_calculus.specs.Calculus.{Proof}
use Rattle.seq_calculus.specs.Calculus.Rule.{Ax, Cut, NotL, NotR, AndL, ImpL, ImpR, IffL, IffR, AllL, AllR, Repl}
use Rattle.search_definition.specs.Terms.{if_so}
use Rattle.search_definition.specs.Plain.{Left, member}
use Rattle.search_definition.specs.Equations.{right_or, members, same_members}
use Rattle.proof_writer.specs.Shapes.{leaf, over, join, clash, mirror, iff_left, with_schema}
use Rattle.proof_trees.specs.Simple.{by_left}

-- the schema's instance is l <=> r, and r is on the left; p has l there
abbrev pub iff_back : ℕ → ℕ → List Tree → Tree → Tree → Proof → Proof
iff_back k z ps l r p = with_schema k z ps (join (IffL l r) p (leaf (Ax r)))

-- the right side of the schema for f is on the left, or f itself; p has f there
abbrev pub left_back : Tree → Option Left → Proof → Proof
left_back f None p = p
left_back f (Some l) p = iff_back l.schema l.z l.params f l.right p

-- Fun(S; e) = g is on the left; p has DOMAIN g = S there
abbrev pub domain_by : Tree → Tree → Tree → Proof → Proof
domain_by g s e p = with_schema 15 0 (s ∷ e ∷ []) (over (Repl (eq_ (dom_ (bound 0)) s) (fun_ s e) g) p)

-- f \in [S -> T], with f, S and T as they stand under a binder
abbrev pub function_set_with : Tree → Tree → Tree → Tree → Tree → Tree → Proof → Proof
function_set_with f s t g u v p =
    iff_left 18 0 (f ∷ s ∷ t ∷ []) (in_ f (funset_ s t)) (and_ (eq_ f (fun_ s (apply_ g (bound 0)))) (all_ (imp_ (in_ (bound 0) u) (in_ (apply_ g (bound 0)) v))))
    (over (AndL (eq_ f (fun_ s (apply_ g (bound 0)))) (all_ (imp_ (in_ (bound 0) u) (in_ (apply_ g (bound 0)) v))))
    (mirror f (fun_ s (apply_ g (bound 0))) (domain_by f s (apply_ g (bound 0)) p)))

abbrev pub function_set_by : Tree → Proof → Proof
function_set_by (in_ f (funset_ s t)) p = function_set_with f s t f s t p
function_set_by f p = p

-- the body of the formula that g takes the values e on s; g and S are closed
abbrev pub at_body : Tree → Tree → Tree → Tree
at_body g s e = imp_ (in_ (bound 0) s) (eq_ (apply_ g (bound 0)) e)

-- Fun(S; e) = g and c \in S are on the left, g[c] = e[c] is on the right
abbrev pub value_at : Tree → Tree → Tree → Tree → Proof
value_at g s e c =
    with_schema 16 0 (c ∷ s ∷ e ∷ [])
    (join (ImpL (in_ c s) (eq_ (apply_ (fun_ s e) c) (inst e c))) (leaf (Ax (in_ c s)))
    (over (Repl (eq_ (apply_ (bound 0) c) (inst e c)) (fun_ s e) g) (leaf (Ax (eq_ (apply_ g c) (inst e c))))))

-- the same for the c that is no such value if any is none: g takes the values e on s
abbrev pub values_shown : Tree → Tree → Tree → Tree → Proof
values_shown g s e c = over (AllR (at_body g s e)) (over (ImpR (in_ c s) (eq_ (apply_ g c) (inst e c))) (value_at g s e c))

-- Fun(S; e) = g is on the left; p has g's domain and values there
abbrev pub described_by : Tree → Tree → Tree → Proof → Proof
described_by g s e p = domain_by g s e (join (Cut (all_ (at_body g s e))) (values_shown g s e (choose_ (not_ (at_body g s e)))) p)

-- an equation of a function with a function constructor
abbrev pub function_values_by : Tree → Proof → Proof
function_values_by (eq_ g (fun_ s e)) p = mirror g (fun_ s e) (described_by g s e p)
function_values_by (eq_ (fun_ s e) g) p = described_by g s e p
function_values_by f p = p

-- ~(s = t) is on the left; p has ~(t = s) there
abbrev pub not_mirror : Tree → Tree → Proof → Proof
not_mirror s t p = join (Cut (not_ (eq_ t s))) (over (NotR (eq_ t s)) (over (NotL (eq_ s t)) (mirror t s (leaf (Ax (eq_ s t)))))) p

-- ~(g = u) and g = v are on the left; p has ~(v = u) there
abbrev pub denied_by : Tree → Tree → Tree → Proof → Proof
denied_by g u v p = over (Repl (not_ (eq_ (bound 0) u)) g v) p

-- h says that g is some v, either way round, and ~(g = u) stands
abbrev pub said_by : Tree → Tree → Tree → Proof → Proof
said_by (eq_ c d) g u p = if_so (same c g) (denied_by g u d p) (mirror c g (denied_by g u c p))
said_by h g u p = p

-- f says that g is not some u, either way round, and h says which v it is
abbrev pub other_function_by : Tree → Tree → Tree → Proof → Proof
other_function_by (not_ (eq_ a b)) h g p = if_so (same a g) (said_by h g b p) (not_mirror a g (said_by h g a p))
other_function_by f h g p = p

-- what the members of x say of c
abbrev pub member_at : Tree → Tree → Tree
member_at c x = right_or (in_ c x) (member c x)

-- s = t and what the members of s say of c are on the left; what those of t say is on the right
abbrev pub moved_by : Tree → Tree → Tree → Proof
moved_by c s t = left_back (in_ c s) (member c s) (over (Repl (in_ c (bound 0)) s t) (by_left (in_ c t) (member c t) (leaf (Ax (member_at c t)))))

-- the body of the formula that both have the same members
abbrev pub same_body : Tree → Tree → Tree
same_body s t = iff_ (members s) (members t)

-- s = t is on the left, and that both have the same members is on the right
abbrev pub members_shown : Tree → Tree → Tree → Proof
members_shown s t c = over (AllR (same_body s t)) (join (IffR (member_at c s) (member_at c t)) (moved_by c s t) (mirror s t (moved_by c t s)))

-- an equation of sets
abbrev pub same_members_by : Tree → Proof → Proof
same_members_by (eq_ s t) p = join (Cut (same_members s t)) (members_shown s t (choose_ (not_ (same_body s t)))) p
same_members_by f p = p

-- c \in x and x's members <=> y's at c, which stand as l <=> r, are on the left; c \in y is on the right
abbrev pub carried_by : Tree → Tree → Tree → Tree → Tree → Proof
carried_by c x y l r = by_left (in_ c x) (member c x) (join (IffL l r) (left_back (in_ c y) (member c y) (leaf (Ax (in_ c y)))) (leaf (Ax (member_at c x))))

-- the body of the formula that a and b, which are closed, have the same elements
abbrev pub elements_body : Tree → Tree → Tree
elements_body a b = iff_ (in_ (bound 0) a) (in_ (bound 0) b)

-- a and b have the same members on the left; that they have the same elements is on the right
abbrev pub elements_shown : Tree → Tree → Tree → Proof
elements_shown a b c =
    over (AllR (elements_body a b)) (over (AllL (same_body a b) c)
    (join (IffR (in_ c a) (in_ c b)) (carried_by c a b (member_at c a) (member_at c b)) (carried_by c b a (member_at c a) (member_at c b))))

-- a Not of an equation of sets
abbrev pub extension_by : Tree → Proof → Proof
extension_by (not_ (eq_ a b)) p =
    join (Cut (not_ (same_members a b)))
    (over (NotR (same_members a b))
    (with_schema 11 0 (a ∷ b ∷ [])
    (join (ImpL (all_ (elements_body a b)) (eq_ a b)) (elements_shown a b (choose_ (not_ (elements_body a b)))) (clash (eq_ a b))))) p
extension_by f p = p
