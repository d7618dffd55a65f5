-- What is kept, after a rank looked at the branch.
use Rattle.std.proofs.Common.{◌≡◌, ℕ, List, length, refl, sym, subst}
use Rattle.std.specs.Prelude.{Result, Ok, Err, OnOk}
use Rattle.core_expr.specs.declared.memory.Memory.{Memory}
use Rattle.core_expr.specs.Tree.{Tree}
use Rattle.term_bank.specs.Banks.{Extends, IsDistinct}
use Rattle.term_order.specs.Sizes.{AreSizes}
use Rattle.term_order.proofs.SizeLaws.{AreSizes-more}
use Rattle.branch_state.specs.Shown.{Placed}
use Rattle.entry_positions.specs.Places.{place_at}
use Rattle.rank_memo.specs.declared.memo.RankMemo.{RankMemo}
use Rattle.rank_memo.specs.Looked.{IsLooked, looked_kept}
use Rattle.tableau_search.specs.Entries.{AreKnown}
use Rattle.tableau_search.specs.Memos.{Stays}
use Rattle.tableau_ranks.specs.declared.state.TableauRanks.{TableauRanks}
use Rattle.tableau_ranks.specs.Kept.{trees_in, IsSized, LooksAt, IsKept}

-- the same with other formulas
abbrev pub grown : TableauRanks → List Tree → TableauRanks
grown r us = record r { memo = record r.memo { bank = us } }

-- where only formulas came
pub kept_grown : (r : TableauRanks) (us : List Tree) (es : List Placed) → Extends (trees_in r) us → IsDistinct us → AreKnown (length (trees_in r)) es → IsSized r → LooksAt r es → IsKept r (grown r us) es
kept_grown r us es g d a s h =
    record {
      extends = g;
      distinct = d;
      fresh = refl;
      sized = AreSizes-more (trees_in r) us r.sizes g s;
      looks = looked_kept (trees_in r) us es r.memo.positions.current g a h;
      saved = refl;
    }

-- the same of a call that may want memory
pub kept_only : {A : Type 0} (r : TableauRanks) (us : List Tree) (es : List Placed) (o : Result A Memory) → Extends (trees_in r) us → IsDistinct us → AreKnown (length (trees_in r)) es → IsSized r → LooksAt r es → OnOk o (IsKept r (grown r us) es)
kept_only r us es (Err e) g d a s h = tt
kept_only r us es (Ok x) g d a s h = kept_grown r us es g d a s h

-- where sizes came too
pub kept_sized : {A : Type 0} (r : TableauRanks) (us : List Tree) (ns : List ℕ) (es : List Placed) (o : Result A Memory) → Extends (trees_in r) us → IsDistinct us → AreKnown (length (trees_in r)) es → AreSizes us ns → LooksAt r es → OnOk o (IsKept r (record (grown r us) { sizes = ns }) es)
kept_sized r us ns es (Err e) g d a s h = tt
kept_sized r us ns es (Ok x) g d a s h = record { extends = g; distinct = d; fresh = refl; sized = s; looks = looked_kept (trees_in r) us es r.memo.positions.current g a h; saved = refl }

-- where a position moved too
pub kept_moved : (r : TableauRanks) (us : List Tree) (m : RankMemo) (es : List Placed) → IsKept r (grown r us) es → m.bank ≡ us → m.spare ≡ r.memo.spare → m.metas ≡ r.memo.metas → m.positions.saved ≡ r.memo.positions.saved → (IsLooked us es r.memo.positions.current → IsLooked m.bank es m.positions.current) → IsKept r (record r { memo = m }) es
kept_moved r us m es k b s t v f =
    record {
      extends = subst (Extends (trees_in r)) (sym b) k.extends;
      distinct = subst IsDistinct (sym b) k.distinct;
      fresh = λ i. record { spare = s i; metas = t i };
      sized = subst (λ ts. AreSizes ts r.sizes) (sym b) k.sized;
      looks = f k.looks;
      saved = v;
    }

-- what was put off stays right
pub kept_stays : (old new : TableauRanks) (es : List Placed) → IsKept old new es
    → Stays (length (trees_in old)) (length old.memo.positions.saved) (λ k xs. IsLooked (trees_in old) xs (place_at old.memo.positions.saved k)) (λ k xs. IsLooked (trees_in new) xs (place_at new.memo.positions.saved k))
kept_stays old new es q k xs l a h = subst (λ ps. IsLooked (trees_in new) xs (place_at ps k)) (sym q.saved) (looked_kept (trees_in old) (trees_in new) xs (place_at old.memo.positions.saved k) q.extends a h)
