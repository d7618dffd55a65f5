-- Lists without repeats.
use Rattle.std.specs.Prelude.{List, [], ◌∷◌, ◌++◌}
use Rattle.core_expr.specs.Tree.{Tree}
use Rattle.search_definition.specs.Terms.{if_so, in_list}

-- those of the list that were not seen, each once
abbrev pub firsts_after : List Tree → List Tree → List Tree
firsts_after seen [] = []
firsts_after seen (x ∷ xs) = if_so (in_list seen x) (firsts_after seen xs) (x ∷ firsts_after (seen ++ x ∷ []) xs)

-- the list with each of its terms at its first place alone
abbrev pub firsts : List Tree → List Tree
firsts xs = firsts_after [] xs
