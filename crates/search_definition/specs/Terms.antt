-- Subterms and replacing.
use Rattle.std.specs.Prelude.{Bool, true, false, Option, Some, None, List, [], ◌∷◌}
use Rattle.core_expr.specs.Tree.{Tree, Parts}
use Rattle.core_expr.specs.Tree.Tree.{bound, app, node, bind}
use Rattle.core_expr.specs.Tree.Parts.{end, part}
use Rattle.core_expr.specs.Terms.{same, is_scoped}

-- x where the test holds, else y
abbrev pub if_so : {A : Type 0} → Bool → A → A → A
if_so true x y = x
if_so false x y = y

-- the first test, or the second
abbrev pub either : Bool → Bool → Bool
either true y = true
either false y = y

-- x, where the test holds
abbrev pub when : {A : Type 0} → Bool → A → Option A
when true x = Some x
when false x = None

-- the first answer, or the second where there is none
abbrev pub or_else : {A : Type 0} → Option A → Option A → Option A
or_else (Some x) y = Some x
or_else None y = y

-- what f answers at the answer
abbrev pub after : {A B : Type 0} → (A → Option B) → Option A → Option B
after f None = None
after f (Some x) = f x

-- the answer of f at the first element where it has one
abbrev pub first_some : {A B : Type 0} → (A → Option B) → List A → Option B
first_some f [] = None
first_some f (x ∷ xs) = or_else (f x) (first_some f xs)

-- f is in the list
abbrev pub in_list : List Tree → Tree → Bool
in_list [] f = false
in_list (x ∷ xs) f = either (same x f) (in_list xs f)

-- the parts as a list
abbrev pub list_of : Parts → List Tree
list_of end = []
list_of (part e ps) = e ∷ list_of ps

abbrev mutual
  -- the term s occurs in e: e itself or a part of it at any depth is s
  pub occurs : Tree → Tree → Bool
  occurs s (bound i) = same s (bound i)
  occurs s (app f ps) = either (same s (app f ps)) (occurs_in s ps)
  occurs s (node h ns ps) = either (same s (node h ns ps)) (occurs_in s ps)
  occurs s (bind b ps e) = either (same s (bind b ps e)) (either (occurs_in s ps) (occurs s e))

  -- s occurs in one of the parts
  pub occurs_in : Tree → Parts → Bool
  occurs_in s end = false
  occurs_in s (part e ps) = either (occurs s e) (occurs_in s ps)

abbrev mutual
  -- e with t for each occurrence of s, the outermost first; s is closed, so that a bound variable is never s
  pub replace : Tree → Tree → Tree → Tree
  replace s t (bound i) = bound i
  replace s t (app f ps) = if_so (same s (app f ps)) t (app f (replaces s t ps))
  replace s t (node h ns ps) = if_so (same s (node h ns ps)) t (node h ns (replaces s t ps))
  replace s t (bind b ps e) = if_so (same s (bind b ps e)) t (bind b (replaces s t ps) (replace s t e))

  -- each part with t for each occurrence of s
  pub replaces : Tree → Tree → Parts → Parts
  replaces s t end = end
  replaces s t (part e ps) = part (replace s t e) (replaces s t ps)

-- e before the rest, where it has no loose variable
abbrev pub where_closed : Tree → List Tree → List Tree
where_closed e rest = if_so (is_scoped 0 e) (e ∷ rest) rest

abbrev mutual
  -- the closed subterms of e before the rest, e itself included, in prefix order: a node before its parts, the parts from the left, a body last
  pub subterms_before : Tree → List Tree → List Tree
  subterms_before (bound i) rest = rest
  subterms_before (app f ps) rest = where_closed (app f ps) (parts_before ps rest)
  subterms_before (node h ns ps) rest = where_closed (node h ns ps) (parts_before ps rest)
  subterms_before (bind b ps e) rest = where_closed (bind b ps e) (parts_before ps (subterms_before e rest))

  -- those of the parts
  pub parts_before : Parts → List Tree → List Tree
  parts_before end rest = rest
  parts_before (part e ps) rest = subterms_before e (parts_before ps rest)

-- the closed subterms in prefix order
abbrev pub closed_subterms : Tree → List Tree
closed_subterms e = subterms_before e []

-- the answer of f at the first closed subterm where it has one
abbrev pub first_at : {B : Type 0} → (Tree → Option B) → Tree → Option B
first_at f e = first_some f (closed_subterms e)
