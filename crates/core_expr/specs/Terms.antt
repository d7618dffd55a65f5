-- Tests of equality and closedness, size, prefix code and the order of terms.
use Rattle.std.specs.Prelude.{ℕ, suc, ◌+◌, ◌/◌, ◌%◌, Bool, true, false, nat_lt, nat_eq, List, [], ◌∷◌, ◌++◌, length}
use Rattle.core_expr.specs.declared.head.Sym.{Sym}
use Rattle.core_expr.specs.declared.head.SymKind.{SymKind}
use Rattle.core_expr.specs.declared.head.SymKind.TheVariants.{Constant, State, Primed, Defined, DefinedPrimed, Canon}
use Rattle.core_expr.specs.declared.head.Head.{Head}
use Rattle.core_expr.specs.declared.head.Binder.{Binder}
use Rattle.core_expr.specs.declared.head.Head.TheVariants.{True, False, Num, Str, Boolean, Not, And, Or, Imp, Iff, Eq, In, Subseteq, Enum, Cup, Cap, Diff, Power, Union, FunSet, Dom, Apply, Except, Tuple, If, Temporal}
use Rattle.core_expr.specs.declared.head.Binder.TheVariants.{All, Ex, Filter, Image, Fun, Choose}
use Rattle.core_expr.specs.Tree.{Tree, Parts, size, num_}
use Rattle.core_expr.specs.Tree.Tree.{bound, app, node, bind}
use Rattle.core_expr.specs.Tree.Parts.{end, part}

-- the numeral of a value, in two halves
abbrev pub numeral_of : ℕ → Tree
numeral_of n = num_ (n / 18446744073709551616) (n % 18446744073709551616)

abbrev pub lists_equal : List ℕ → List ℕ → Bool
lists_equal [] [] = true
lists_equal [] (y ∷ ys) = false
lists_equal (x ∷ xs) [] = false
lists_equal (x ∷ xs) (y ∷ ys) = elim (nat_eq x y) [ true ↦ lists_equal xs ys | false ↦ false ]

abbrev pub head_code : Head → ℕ
head_code True = 0
head_code False = 1
head_code Num = 2
head_code Str = 3
head_code Boolean = 4
head_code Not = 7
head_code And = 8
head_code Or = 9
head_code Imp = 10
head_code Iff = 11
head_code Eq = 14
head_code In = 15
head_code Subseteq = 16
head_code Enum = 17
head_code Cup = 18
head_code Cap = 19
head_code Diff = 20
head_code Power = 21
head_code Union = 22
head_code FunSet = 26
head_code Dom = 27
head_code Apply = 28
head_code Except = 29
head_code Tuple = 30
head_code If = 31
head_code Temporal = 33

abbrev pub binder_code : Binder → ℕ
binder_code All = 12
binder_code Ex = 13
binder_code Filter = 23
binder_code Image = 24
binder_code Fun = 25
binder_code Choose = 32

abbrev pub kind_code : SymKind → ℕ
kind_code Constant = 0
kind_code State = 1
kind_code Primed = 2
kind_code Defined = 3
kind_code DefinedPrimed = 4
kind_code Canon = 5

abbrev pub same_sym : Sym → Sym → Bool
same_sym f g =
    elim (nat_eq f.number g.number)
    [ true ↦ elim (nat_eq (kind_code f.kind) (kind_code g.kind)) [ true ↦ nat_eq f.arity g.arity | false ↦ false ] | false ↦ false ]

abbrev mutual
  pub same : Tree → Tree → Bool
  same (bound i) (bound j) = nat_eq i j
  same (app f ps) (app g qs) = elim (same_sym f g) [ true ↦ sames ps qs | false ↦ false ]
  same (node h ns ps) (node k ms qs) =
      elim (nat_eq (head_code h) (head_code k)) [ true ↦ elim (lists_equal ns ms) [ true ↦ sames ps qs | false ↦ false ] | false ↦ false ]
  same (bind h ps e) (bind k qs d) =
      elim (nat_eq (binder_code h) (binder_code k)) [ true ↦ elim (same e d) [ true ↦ sames ps qs | false ↦ false ] | false ↦ false ]
  same _ _ = false

  pub sames : Parts → Parts → Bool
  sames end end = true
  sames end (part e ps) = false
  sames (part e ps) end = false
  sames (part e ps) (part d qs) = elim (same e d) [ true ↦ sames ps qs | false ↦ false ]

-- the number of nodes
abbrev mutual
  pub nodes : Tree → ℕ
  nodes (bound i) = 1
  nodes (app f ps) = suc (nodes_of ps)
  nodes (node h ns ps) = suc (nodes_of ps)
  nodes (bind b ps e) = suc (nodes_of ps + nodes e)

  pub nodes_of : Parts → ℕ
  nodes_of end = 0
  nodes_of (part e ps) = nodes e + nodes_of ps

-- the numbers of a node as the table of heads has them
abbrev pub numbers_of : Head → List ℕ → Parts → List ℕ
numbers_of Enum ns ps = size ps ∷ []
numbers_of Tuple ns ps = size ps ∷ []
numbers_of Str ns ps = length ns ∷ ns
numbers_of _ ns ps = ns

-- the prefix code of a term, before what follows it
abbrev mutual
  pub code : Tree → List ℕ → List ℕ
  code (bound i) l = 5 ∷ i ∷ l
  code (app f ps) l = 6 ∷ f.number ∷ f.arity ∷ codes ps l
  code (node h ns ps) l = head_code h ∷ (numbers_of h ns ps ++ codes ps l)
  code (bind b ps e) l = binder_code b ∷ codes ps (code e l)

  pub codes : Parts → List ℕ → List ℕ
  codes end l = l
  codes (part e ps) l = code e (codes ps l)

abbrev pub list_less : List ℕ → List ℕ → Bool
list_less xs [] = false
list_less [] (y ∷ ys) = true
list_less (x ∷ xs) (y ∷ ys) = elim (nat_eq x y) [ true ↦ list_less xs ys | false ↦ nat_lt x y ]

-- the order of terms
abbrev pub less : Tree → Tree → Bool
less s t = elim (nat_eq (nodes s) (nodes t)) [ true ↦ list_less (code s []) (code t []) | false ↦ nat_lt (nodes s) (nodes t) ]

-- no loose variable from n on
abbrev mutual
  pub is_scoped : ℕ → Tree → Bool
  is_scoped n (bound i) = nat_lt i n
  is_scoped n (app f ps) = are_scoped n ps
  is_scoped n (node h ns ps) = are_scoped n ps
  is_scoped n (bind b ps e) = elim (are_scoped n ps) [ true ↦ is_scoped (suc n) e | false ↦ false ]

  pub are_scoped : ℕ → Parts → Bool
  are_scoped n end = true
  are_scoped n (part e ps) = elim (is_scoped n e) [ true ↦ are_scoped n ps | false ↦ false ]
