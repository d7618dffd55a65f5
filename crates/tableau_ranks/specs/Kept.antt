-- What a rank leaves of what is kept.
use Rattle.std.specs.Prelude.{◌≡◌, List}
use Rattle.core_expr.specs.Tree.{Tree}
use Rattle.term_bank.specs.Banks.{IsDistinct, Extends}
use Rattle.term_order.specs.Sizes.{AreSizes}
use Rattle.search_definition.specs.Instances.{Fresh}
use Rattle.branch_state.specs.Shown.{Placed}
use Rattle.rank_memo.specs.Looked.{IsLooked}
use Rattle.tableau_ranks.specs.declared.state.TableauRanks.{TableauRanks}

-- the formulas by number
abbrev pub trees_in : TableauRanks → List Tree
trees_in r = r.memo.bank

-- the symbols that no formula has
abbrev pub fresh_in : TableauRanks → Fresh
fresh_in r = record { spare = r.memo.spare; metas = r.memo.metas }

-- the sizes are those of the formulas' nodes
abbrev pub IsSized : TableauRanks → Type 0
IsSized r = AreSizes (trees_in r) r.sizes

-- the positions are right for the branch of these entries
abbrev pub LooksAt : TableauRanks → List Placed → Type 0
LooksAt r es = IsLooked (trees_in r) es r.memo.positions.current

-- After a rank looked at the branch of these entries: formulas may have come, each with a number of its own;
-- the fresh symbols and what was put off are the same; and the sizes and the positions are right.
pub record IsKept (old new : TableauRanks) (es : List Placed) : Type 0 where
  pub extends : Extends (trees_in old) (trees_in new)
  pub distinct : IsDistinct (trees_in new)
  pub fresh : fresh_in new ≡ fresh_in old
  pub sized : IsSized new
  pub looks : LooksAt new es
  pub saved : new.memo.positions.saved ≡ old.memo.positions.saved
