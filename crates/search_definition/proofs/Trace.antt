-- The turns of a search as numbers, for the worked obligations.
-- A turn that closes a branch is the case of its closing, 0 to 6. A turn by a rule is 1000 times its rank, and its case: 7003 is
-- a split of an equivalence. The list ends with 77777 where the search ends closed, 88888 saturated, 99999 spent.
use Rattle.std.specs.Prelude.{ℕ, ◌+◌, ◌*◌, List, [], ◌∷◌}
use Rattle.core_expr.specs.declared.head.SymKind.TheVariants.{Canon}
use Rattle.core_expr.specs.Tree.{Tree, Parts}
use Rattle.core_expr.specs.Tree.Tree.{app}
use Rattle.core_expr.specs.Tree.Parts.{end, part}
use Rattle.search_definition.specs.Branches.{clash_code}
use Rattle.search_definition.specs.Rules.{rank_of, rank_code, kind_code}
use Rattle.search_definition.specs.Search.{Move, End, search, steps}
use Rattle.search_definition.specs.Search.Move.{Shuts, Applied}
use Rattle.search_definition.specs.Search.End.{Closed, Saturated, Spent}

-- the symbol i of arity a, applied
abbrev pub name : ℕ → ℕ → Parts → Tree
name i a ps = app (record { kind = Canon; number = i; arity = a }) ps

-- the constant i
abbrev pub constant : ℕ → Tree
constant i = name i 0 end

-- the operator i of one argument, and of two, applied
abbrev pub unary : ℕ → Tree → Tree
unary i a = name i 1 (part a end)

abbrev pub binary : ℕ → Tree → Tree → Tree
binary i a b = name i 2 (part a (part b end))

-- the number of a step
abbrev pub label : Move → ℕ
label (Shuts c n) = clash_code c.clash
label (Applied r ns ms) = 1000 * rank_code (rank_of r.step.rule) + kind_code r.step.rule

-- the numbers of the steps, before that of the end
abbrev pub labels : List Move → End → List ℕ
labels [] (Closed k) = 77777 ∷ []
labels [] (Saturated b k) = 88888 ∷ []
labels [] (Spent k) = 99999 ∷ []
labels (m ∷ ms) e = label m ∷ labels ms e

-- the numbers of the turns of a search, and of how it ends
unfoldable pub trace : List Tree → Tree → ℕ → List ℕ
trace facts goal n = labels (steps facts goal n) (search facts goal n)
