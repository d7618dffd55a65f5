-- Instances: signed atoms, partners, and the ranks instance and spare.
use Rattle.std.specs.Prelude.{ℕ, zero, suc, ◌+◌, ◌*◌, Bool, true, false, not, nat_le, nat_eq, Option, Some, None, List, [], ◌∷◌, ◌++◌}
use Rattle.core_expr.specs.declared.head.Sym.{Sym}
use Rattle.core_expr.specs.declared.head.SymKind.TheVariants.{Canon}
use Rattle.core_expr.specs.Tree.{Tree, true_, false_, not_, and_, or_, imp_, iff_, eq_, in_, all_, ex_, filter_}
use Rattle.core_expr.specs.Tree.Tree.{bound, app, node}
use Rattle.core_expr.specs.Tree.Parts.{end}
use Rattle.core_expr.specs.Put.{inst}
use Rattle.core_expr.specs.Terms.{nodes}
use Rattle.unifier_definition.specs.Metas.{has_meta, assign}
use Rattle.unifier_definition.specs.Unify.{mgu, bound_to}
use Rattle.search_definition.specs.declared.rule.Rule.{Rule}
use Rattle.search_definition.specs.declared.rule.Rule.TheVariants as rule
use Rattle.search_definition.specs.Terms.{if_so, either, when, or_else, after, first_some, closed_subterms}
use Rattle.search_definition.specs.Branches.{Branch, alive, has}
use Rattle.search_definition.specs.Values.{truth, is_yes}
use Rattle.search_definition.specs.Rules.{Result}
use Rattle.search_definition.specs.Rules.Sides.{Alone}
use Rattle.search_definition.specs.Plain.{Left, left_side}
use Rattle.search_definition.specs.Splits.{is_literal}

-- The symbols that no formula of a search has, all of them constants: the number of the spare symbol, and the first number of the metavariables.
pub record Fresh : Type 0 where
  pub spare : ℕ
  pub metas : ℕ

-- the canonical constant with this number
abbrev pub constant_symbol : ℕ → Sym
constant_symbol n = record { kind = Canon; number = n; arity = 0 }

-- the spare term
abbrev pub spare_term : Fresh → Tree
spare_term w = app (constant_symbol w.spare) end

-- the metavariable with the index i of the universal that is instantiated, and of its partner
abbrev pub own_meta : Fresh → ℕ → Sym
own_meta w i = constant_symbol (w.metas + 2 * i)

abbrev pub partner_meta : Fresh → ℕ → Sym
partner_meta w i = constant_symbol (w.metas + (2 * i + 1))

-- the metavariables with an index below n
abbrev pub first_metas : (ℕ → Sym) → ℕ → List Sym
first_metas name zero = []
first_metas name (suc n) = name n ∷ first_metas name n

-- A universal formula: All(P), which holds, or ~Ex(P), whose body P does not; with the body P.
pub record Universal : Type 0 where
  pub holds : Bool
  pub body : Tree

-- the formula as a universal
abbrev pub universal : Tree → Option Universal
universal (all_ p) = Some (record { holds = true; body = p })
universal (not_ (ex_ p)) = Some (record { holds = false; body = p })
universal _ = None

-- the universal's instance by t: P[t] or ~P[t]
abbrev pub instance : Universal → Tree → Tree
instance u t = if_so u.holds (inst u.body t) (not_ (inst u.body t))

-- An atom with its sign, that is whether it is said to hold, and the number of its metavariables.
pub record Signed : Type 0 where
  pub holds : Bool
  pub atom : Tree
  pub metas : ℕ

-- the literal as a signed atom
abbrev pub signed_literal : Tree → Signed
signed_literal (not_ a) = record { holds = false; atom = a; metas = 0 }
signed_literal f = record { holds = true; atom = f; metas = 0 }

-- the term is a single node
abbrev pub has_no_parts : Tree → Bool
has_no_parts (bound i) = true
has_no_parts (app f end) = true
has_no_parts (node h ns end) = true
has_no_parts _ = false

-- f is t \in {x \in A : P} where t has parts: it is kept as an atom, since P[t] could hold this very left side again
abbrev pub is_kept_filter : Tree → Bool
is_kept_filter (in_ t (filter_ a p)) = not (has_no_parts t)
is_kept_filter _ = false

-- the right side of the left side of a schema 1 to 10, where f is one that is taken apart
abbrev pub low_right : Left → Option Tree
low_right l = when (nat_le l.schema 10) l.right

abbrev pub taken_apart : Tree → Option Tree
taken_apart f = if_so (is_kept_filter f) None (after low_right (left_side f))

-- what the quantified formula gives, where the sign says that it holds of everything
abbrev pub where_universal : Bool → List Signed → List Signed
where_universal true as' = as'
where_universal false as' = []

-- the atom itself, or the atoms of what stands for it
abbrev pub atom_or : Bool → ℕ → Tree → Option (List Signed) → List Signed
atom_or s d f None = record { holds = s; atom = f; metas = d } ∷ []
atom_or s d f (Some as') = as'

-- what a function gives of an answer
abbrev pub mapped : {A B : Type 0} → (A → B) → Option A → Option B
mapped f None = None
mapped f (Some x) = Some (f x)

-- the signed atoms of f with the sign s, from the left, under d metavariables, which name gives; the first number is room for the depth, and four for each node are enough
abbrev pub atoms : (ℕ → Sym) → ℕ → ℕ → Bool → Tree → List Signed
atoms name zero d s f = []
atoms name (suc n) d s (not_ a) = atoms name n d (not s) a
atoms name (suc n) d s (and_ a b) = atoms name n d s a ++ atoms name n d s b
atoms name (suc n) d s (or_ a b) = atoms name n d s a ++ atoms name n d s b
atoms name (suc n) d s (imp_ a b) = atoms name n d (not s) a ++ atoms name n d s b
atoms name (suc n) d s (iff_ a b) = (atoms name n d true a ++ atoms name n d false a) ++ (atoms name n d true b ++ atoms name n d false b)
atoms name (suc n) d s (all_ p) = where_universal s (atoms name n (suc d) true (inst p (app (name d) end)))
atoms name (suc n) d s (ex_ p) = where_universal (not s) (atoms name n (suc d) false (inst p (app (name d) end)))
atoms name (suc n) d s true_ = []
atoms name (suc n) d s false_ = []
atoms name (suc n) d s f = atom_or s d f (mapped (atoms name n d s) (taken_apart f))

-- the signed atoms of a universal's body, with the metavariable 0 for its variable
unfoldable pub signed_atoms : (ℕ → Sym) → Universal → List Signed
signed_atoms name u = atoms name (4 * nodes u.body + 4) 1 u.holds (inst u.body (app (name 0) end))

-- f is worth adding: it does not stand on the branch, and its value is not true
abbrev pub is_new : Branch → Tree → Bool
is_new b f = not (either (has b f) (is_yes (truth b f)))

-- the term of the universal's own variable, with the spare term for every metavariable
abbrev pub grounded : Fresh → List Sym → Tree → Tree
grounded w ms t = assign ms (λ f. spare_term w) t

-- the term by which unifying s with t, for the metavariables ms, gives an instance: where the universal's own variable gets bound, its term with the spare term for each metavariable that is left
unfoldable pub instance_term : Fresh → List Sym → Tree → Tree → Option Tree
instance_term w ms s t = mapped (grounded w ms) (after (bound_to (own_meta w 0)) (mgu ms s t))

-- the metavariables of an atom of the universal that is instantiated, and with those of a partner's atom
abbrev pub own_metas : Fresh → Signed → List Sym
own_metas w a = first_metas (own_meta w) a.metas

abbrev pub both_metas : Fresh → Signed → Signed → List Sym
both_metas w a c = own_metas w a ++ first_metas (partner_meta w) c.metas

-- the two sides of an equation
abbrev pub equation_term : Fresh → List Sym → Tree → Option Tree
equation_term w ms (eq_ s t) = instance_term w ms s t
equation_term w ms _ = None

-- first kind of partner: the two sides of an equation that is to fail
abbrev pub sides_term : Fresh → Signed → Option Tree
sides_term w a = if_so a.holds None (equation_term w (own_metas w a) a.atom)

-- the signs are opposite
abbrev pub are_opposite : Bool → Bool → Bool
are_opposite true s = not s
are_opposite false s = s

-- an atom with an atom of opposite sign
abbrev pub signed_term : Fresh → Signed → Signed → Option Tree
signed_term w a c = if_so (are_opposite a.holds c.holds) (instance_term w (both_metas w a c) a.atom c.atom) None

-- second kind of partner: a literal of opposite sign
abbrev pub literal_term : Fresh → Signed → Tree → Option Tree
literal_term w a f = if_so (is_literal f) (signed_term w a (signed_literal f)) None

-- the side l of an equation, where it contains a metavariable and is none, with the term t
abbrev pub is_side : List Sym → Tree → Bool
is_side ms (app f end) = false
is_side ms l = has_meta ms l

-- the first of the terms whose instance is new
abbrev pub new_term : Branch → Universal → Tree → Option Tree
new_term b u t = when (is_new b (instance u t)) t

-- third kind of partner: the first new instance by an atom of opposite sign of the universal f, with metavariables of its own
abbrev pub at_atom : Branch → Fresh → Universal → Signed → Signed → Option Tree
at_atom b w u a c = after (new_term b u) (signed_term w a c)

abbrev pub by_universal : Branch → Fresh → Universal → Signed → Universal → Option Tree
by_universal b w u a v = first_some (at_atom b w u a) (signed_atoms (partner_meta w) v)

abbrev pub at_universal : Branch → Fresh → Universal → Signed → Tree → Option Tree
at_universal b w u a f = after (by_universal b w u a) (universal f)

-- the first new instance by a literal
abbrev pub at_literal : Branch → Fresh → Universal → Signed → Tree → Option Tree
at_literal b w u a f = after (new_term b u) (literal_term w a f)

-- the first new instance by a closed subterm of a literal
abbrev pub at_subterm : Branch → Fresh → Universal → Signed → Tree → Tree → Option Tree
at_subterm b w u a l t = after (new_term b u) (instance_term w (own_metas w a) l t)

abbrev pub at_subterms : Branch → Fresh → Universal → Signed → Tree → Tree → Option Tree
at_subterms b w u a l f = if_so (is_literal f) (first_some (at_subterm b w u a l) (closed_subterms f)) None

-- fourth kind of partner: the first new instance by the side l of an equation that is to hold
abbrev pub at_side : Branch → Fresh → Universal → Signed → Tree → Option Tree
at_side b w u a l = if_so (is_side (own_metas w a) l) (first_some (at_subterms b w u a l) (alive b)) None

abbrev pub at_sides : Branch → Fresh → Universal → Signed → Tree → Option Tree
at_sides b w u a (eq_ l r) = or_else (at_side b w u a l) (at_side b w u a r)
at_sides b w u a _ = None

-- the first new instance by a partner of this atom, kind by kind, the live formulas by age
abbrev pub by_atom : Branch → Fresh → Universal → Signed → Option Tree
by_atom b w u a =
    or_else (after (new_term b u) (sides_term w a)) (
    or_else (first_some (at_literal b w u a) (alive b)) (
    or_else (first_some (at_universal b w u a) (alive b)) (if_so a.holds (at_sides b w u a a.atom) None)
    )
    )

-- the term of the first new instance of the universal, by its atoms in order and their partners in order
unfoldable pub found_term : Branch → Fresh → Universal → Option Tree
found_term b w u = first_some (by_atom b w u) (signed_atoms (own_meta w) u)

-- A live universal with its index on the branch and its count of instances.
pub record Place : Type 0 where
  pub entry : ℕ
  pub count : ℕ
  pub formula : Tree
  pub universal : Universal

-- the place before the others, where the formula is universal
abbrev pub place_before : ℕ → ℕ → Tree → Option Universal → List Place → List Place
place_before i n f None ps = ps
place_before i n f (Some u) ps = record { entry = i; count = n; formula = f; universal = u } ∷ ps

-- the live universals by age, where the branch begins with the index i
abbrev pub places : ℕ → Branch → List Place
places i [] = []
places i (e ∷ b) = if_so e.live (place_before i e.count e.formula (universal e.formula) (places (suc i) b)) (places (suc i) b)

-- p put in before the first with at least its count
abbrev pub insert : Place → List Place → List Place
insert p [] = p ∷ []
insert p (q ∷ qs) = if_so (nat_le p.count q.count) (p ∷ q ∷ qs) (q ∷ insert p qs)

-- the universals by count, and by age where counts are equal
abbrev pub by_count : List Place → List Place
by_count [] = []
by_count (p ∷ ps) = insert p (by_count ps)

-- the universal stays live, its count rises, and the instance by t is added
abbrev pub instance_step : Rule → Place → Tree → Result
instance_step r p t =
    record { entry = p.entry; step = record { rule = r; named = p.formula ∷ []; terms = t ∷ []; sides = Alone (instance p.universal t ∷ []) } }

-- the new instance of this universal, as a result
abbrev pub at_place : Branch → Fresh → Place → Option Result
at_place b w p = mapped (instance_step rule.Instance p) (found_term b w p.universal)

-- Rank instance: the first universal, by count and then by age, that has a new instance by a partner.
abbrev pub instance_rule : Fresh → Branch → Option Result
instance_rule w b = first_some (at_place b w) (by_count (places 0 b))

-- the instance by the spare term, where the universal has no instance yet and this one is new
abbrev pub spare_at : Branch → Fresh → Place → Option Result
spare_at b w p = if_so (nat_eq p.count 0) (mapped (instance_step rule.Spare p) (new_term b p.universal (spare_term w))) None

-- Rank spare: the oldest universal without an instance gets the one by the spare term.
abbrev pub spare_rule : Fresh → Branch → Option Result
spare_rule w b = first_some (spare_at b w) (places 0 b)
