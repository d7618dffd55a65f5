-- The cores of names and operators over the cores of their arguments.
use Rattle.std.specs.Prelude.{ℕ, zero, suc, Bool, true, false, nat_eq, if◌then◌else◌, List, [], ◌∷◌, ◌++◌, length, Option, Some, None, codes}
use Rattle.std.specs.Cmp.Lexicographic.{pointwise}
use Rattle.std.specs.List.{list_any}
use Rattle.core_expr.specs.declared.head.SymKind.{SymKind}
use Rattle.core_expr.specs.declared.head.SymKind.TheVariants as sym
use Rattle.core_expr.specs.declared.head.Head.{Head}
use Rattle.core_expr.specs.declared.head.Head.TheVariants.{True, False, Boolean, Not, And, Or, Imp, Iff, Eq, In, Subseteq, Cup, Cap, Diff, Power, Union, Dom}
use Rattle.core_expr.specs.Tree.{Tree, true_}
use Rattle.core_expr.specs.Tree.Tree.{app}
use Rattle.core_expr.specs.Heads.{parts_of}
use Rattle.symbol_table.specs.declared.entry.Entry.{Entry}
use Rattle.symbol_table.specs.declared.entry.EntrySort.{EntrySort}
use Rattle.symbol_table.specs.declared.entry.EntrySort.TheVariants as sorts
use Rattle.plain_syntax.specs.Plain.{Text}
use Rattle.prime_expand.specs.declared.both.Both.{Both}
use Rattle.prime_expand.specs.Both.{same, unary, plains, primeds, part_at, one, two, temporal_}
use Rattle.prime_expand.specs.Forms.{unchanged}

abbrev pub is_word : Text → Text → Bool
is_word = pointwise nat_eq

-- ---- names

abbrev pub applied : SymKind → ℕ → List Tree → Tree
applied k n ts = app (record { kind = k; number = n; arity = length ts }) (parts_of ts)

-- the primed arguments of the parameters that a definition primes
abbrev pub flagged : List Bool → List Both → List Tree
flagged [] args = []
flagged (f ∷ fs) [] = []
flagged (true ∷ fs) (a ∷ args) = a.primed ∷ flagged fs args
flagged (false ∷ fs) (a ∷ args) = flagged fs args

-- a definition has a second symbol, for its prime, where its level is not 0
abbrev pub second_kind : ℕ → SymKind
second_kind zero = sym.Defined
second_kind (suc l) = sym.DefinedPrimed

-- a constant symbol over arguments
abbrev pub constant : ℕ → List Both → Both
constant n args = record { plain = applied sym.Constant n (plains args); primed = applied sym.Constant n (primeds args) }

-- a declared name over arguments, by what was declared
abbrev pub by_sort : EntrySort → Entry → ℕ → List Both → Both
by_sort sorts.State e n args = record { plain = applied sym.State n (plains args); primed = applied sym.Primed n (primeds args) }
by_sort sorts.Definition e n args =
    let more = flagged e.primed args in
    record { plain = applied sym.Defined n (plains args ++ more); primed = applied (second_kind e.level) n (primeds args ++ more) }
by_sort _ e n args = constant n args

-- TRUE, FALSE and BOOLEAN are names without a declaration
abbrev pub values : List (Text × Head)
values = (codes "TRUE", True) ∷ (codes "FALSE", False) ∷ (codes "BOOLEAN", Boolean) ∷ []

-- ---- operators

-- the head in the first row with this sign
abbrev pub head_in : List (Text × Head) → Text → Option Head
head_in [] o = None
head_in (r ∷ rs) o = if is_word r.0 o then Some r.1 else head_in rs o

abbrev pub prefix_heads : List (Text × Head)
prefix_heads = (codes "~", Not) ∷ (codes "SUBSET", Power) ∷ (codes "UNION", Union) ∷ (codes "DOMAIN", Dom) ∷ []

abbrev pub infix_heads : List (Text × Head)
infix_heads =
    (codes "/\\", And) ∷
    (codes "\\/", Or) ∷
    (codes "=>", Imp) ∷
    (codes "<=>", Iff) ∷
    (codes "=", Eq) ∷
    (codes "\\in", In) ∷
    (codes "\\subseteq", Subseteq) ∷
    (codes "\\cup", Cup) ∷
    (codes "\\cap", Cap) ∷
    (codes "\\", Diff) ∷ []

-- the operators that deny another
abbrev pub denied_heads : List (Text × Head)
denied_heads = (codes "#", Eq) ∷ (codes "\\notin", In) ∷ []

-- the infix operators that libraries declare
abbrev pub library_signs : List Text
library_signs = codes "+" ∷ codes "-" ∷ codes "*" ∷ codes "<" ∷ codes ">" ∷ codes "<=" ∷ codes ">=" ∷ codes ".." ∷ []

abbrev pub is_listed : Text → List Text → Bool
is_listed o vs = list_any (λ v. is_word v o) vs

-- a library's operator; where it was resolved it has a number
abbrev pub of_library : Option ℕ → List Both → Both
of_library None bs = same true_
of_library (Some n) bs = constant n bs

abbrev pub other_prefix : Text → Option ℕ → List Both → Both
other_prefix o n bs = if is_word o (codes "UNCHANGED") then unchanged (part_at 0 bs) else (if is_word o (codes "-") then of_library n bs else temporal_)

abbrev pub by_prefix_head : Option Head → Text → Option ℕ → List Both → Both
by_prefix_head (Some h) o n bs = one h bs
by_prefix_head None o n bs = other_prefix o n bs

abbrev pub by_prefix : Text → Option ℕ → List Both → Both
by_prefix o = by_prefix_head (head_in prefix_heads o) o

abbrev pub other_infix : Text → Option ℕ → List Both → Both
other_infix o n bs = if is_listed o library_signs then of_library n bs else temporal_

abbrev pub by_denied_head : Option Head → Text → Option ℕ → List Both → Both
by_denied_head (Some h) o n bs = unary Not (two h bs)
by_denied_head None o n bs = other_infix o n bs

abbrev pub by_infix_head : Option Head → Text → Option ℕ → List Both → Both
by_infix_head (Some h) o n bs = two h bs
by_infix_head None o n bs = by_denied_head (head_in denied_heads o) o n bs

abbrev pub by_infix : Text → Option ℕ → List Both → Both
by_infix o = by_infix_head (head_in infix_heads o) o
