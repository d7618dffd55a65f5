-- Values that are marked are those of the branch.
use Rattle.std.specs.Prelude.{◌≡◌, ℕ, zero, suc, ◌+◌, ◌<◌, ◌≤◌, Bool, true, false, nat_lt, nat_eq, cond, Option, Some, None, List, [], ◌∷◌, ◌++◌, length, replicate}
use Rattle.std.proofs.Common.{refl, ap, sym, ◌∙◌, subst, arith, get_or, set, take}
use Rattle.std.proofs.Math.Seq.{take-suc}
use Rattle.std.proofs.lemmas.Bool.Decides.{nat_tests}
use Rattle.std.proofs.lemmas.List.{length-set, get_or-set_same, get_or-set_other, get_or-replicate, length-replicate, take_all, map-append}
use Rattle.core_expr.specs.Tree.{Tree}
use Rattle.core_expr.specs.Tree.Tree.{bound, app, node, bind}
use Rattle.core_expr.specs.Tree.Parts.{end, part}
use Rattle.core_expr.specs.Terms.{same, same_sym}
use Rattle.core_expr.specs.Heads.{subtrees, parts_of}
use Rattle.core_expr.specs.Nodes.{canon_sym, picked}
use Rattle.core_expr.specs.Equal.{sym-refl, sym-same, same-true, true-same}
use Rattle.term_bank.specs.Banks.{tree_at}
use Rattle.search_definition.specs.Terms.{when, either}
use Rattle.search_definition.specs.Branches.{Entry, Branch, has}
use Rattle.propositional_laws.specs.Formulas.{numbered}
use Rattle.propositional_laws.specs.Valuations.{valuation, valuation_from}
use Rattle.branch_book.specs.declared.item.Item.{Item}
use Rattle.tableau_search.specs.Entries.{ItemsUnder, branch_by}
use Rattle.leaf_prover.specs.Marks.{letter, marked, AreMarked}

-- a symbol that is alone
pub letter_alone : (t : Tree) (n : ℕ) → t ≡ app (canon_sym n 0) (parts_of (subtrees t)) → subtrees t ≡ [] → letter t ≡ Some n
letter_alone t n h e = ap letter (h ∙ ap (λ ts. app (canon_sym n 0) (parts_of ts)) e) ∙ ap (λ b. when b n) (sym-refl (canon_sym n 0))

pub letter_over : (ts : List Tree) (t : Tree) (n j : ℕ) (ps : List ℕ) → t ≡ app (canon_sym n j) (parts_of (subtrees t)) → subtrees t ≡ picked ts ps → 0 < length ps → letter t ≡ None
letter_over ts t n j [] h e l = absurd (omega arith)
letter_over ts t n j (p ∷ ps) h e l = ap letter (h ∙ ap (λ us. app (canon_sym n j) (parts_of us)) e)

pub letter_is : (t : Tree) (m : ℕ) → letter t ≡ Some m → t ≡ app (numbered m) end
letter_is (bound i) m h = absurd cc
letter_is (app f end) m h = go (same_sym f (numbered f.number)) refl h
  where
    go : (b : Bool) → same_sym f (numbered f.number) ≡ b → when b f.number ≡ Some m → app f end ≡ app (numbered m) end
    go true e h = ap (λ g. app g end) (sym-same f (numbered f.number) e) ∙ ap (λ k. app (numbered k) end) cc
    go false e h = absurd cc
letter_is (app f (part e ps)) m h = absurd cc
letter_is (node k ns ps) m h = absurd cc
letter_is (bind b ps e) m h = absurd cc

letter-of : (k : ℕ) → letter (app (numbered k) end) ≡ Some k
letter-of k = ap (λ b. when b k) (sym-refl (numbered k))

-- one more item
has-next : (b : Branch) (e : Entry) (f : Tree) → e.formula ≡ f → has (b ++ e ∷ []) f ≡ true
has-next [] e f h = ap (λ x. either x false) (true-same e.formula f h)
has-next (x ∷ b) e f h = go (same x.formula f) (has-next b e f h)
  where
    go : (t : Bool) → has (b ++ e ∷ []) f ≡ true → either t (has (b ++ e ∷ []) f) ≡ true
    go true k = refl
    go false k = k

has-other : (b : Branch) (e : Entry) (f : Tree) → (e.formula ≡ f → ⊥) → has (b ++ e ∷ []) f ≡ has b f
has-other [] e f h = go (same e.formula f) refl
  where
    go : (t : Bool) → same e.formula f ≡ t → either t false ≡ false
    go true s = absurd (h (same-true e.formula f s))
    go false s = refl
has-other (x ∷ b) e f h = ap (either (same x.formula f)) (has-other b e f h)

marked-count : (vs : List Bool) (o : Option ℕ) → length (marked vs o) ≡ length vs
marked-count vs None = refl
marked-count vs (Some n) = go (nat_lt n (length vs))
  where
    go : (b : Bool) → length (cond b (set vs n true) vs) ≡ length vs
    go true = length-set vs n true
    go false = refl

-- the value at k, where k is the one that is marked, and where it is another
marked-here : (vs : List Bool) (k : ℕ) → k < length vs → get_or (marked vs (Some k)) k false ≡ true
marked-here vs k l = go (nat_lt k (length vs)) refl
  where
    go : (b : Bool) → nat_lt k (length vs) ≡ b → get_or (cond b (set vs k true) vs) k false ≡ true
    go true e = get_or-set_same vs k true false l
    go false e = grind (arith, nat_tests)

marked-other : (vs : List Bool) (o : Option ℕ) (k : ℕ) → (o ≡ Some k → ⊥) → get_or (marked vs o) k false ≡ get_or vs k false
marked-other vs None k h = refl
marked-other vs (Some n) k h = go (nat_lt n (length vs))
  where
    go : (b : Bool) → get_or (cond b (set vs n true) vs) k false ≡ get_or vs k false
    go true = get_or-set_other vs n k true false (λ e. h (ap Some (sym e)))
    go false = refl

abbrev entry-of : List Tree → Item → Entry
entry-of ts x = record { formula = tree_at ts x.formula; live = x.live; count = x.count }

-- one more item
mark-one : (ts : List Tree) (b : Branch) (e : Entry) (n : ℕ) (vs : List Bool) → length vs ≡ n → (k : ℕ) → k < n → get_or vs k false ≡ has b (app (numbered k) end)
    → get_or (marked vs (letter e.formula)) k false ≡ has (b ++ e ∷ []) (app (numbered k) end)
mark-one ts b e n vs c k l h = go (letter e.formula) refl
  where
    f : Tree
    f = app (numbered k) end

    here : e.formula ≡ f → get_or (marked vs (letter e.formula)) k false ≡ has (b ++ e ∷ []) f
    here s =
        let m : k < length vs = omega arith in
        ap (λ o. get_or (marked vs o) k false) (ap letter s ∙ letter-of k) ∙ marked-here vs k m ∙ sym (has-next b e f s)

    other : (letter e.formula ≡ Some k → ⊥) → get_or (marked vs (letter e.formula)) k false ≡ has (b ++ e ∷ []) f
    other s = marked-other vs (letter e.formula) k s ∙ h ∙ sym (has-other b e f (λ q. s (ap letter q ∙ letter-of k)))

    go : (o : Option ℕ) → letter e.formula ≡ o → get_or (marked vs (letter e.formula)) k false ≡ has (b ++ e ∷ []) f
    go None q = other (λ r. absurd (none (sym q ∙ r)))
      where
        none : ◌≡◌ {A = Option ℕ} None (Some k) → ⊥
        none z = cc
    go (Some m) q = by_test (nat_eq m k) refl
      where
        by_test : (t : Bool) → nat_eq m k ≡ t → get_or (marked vs (letter e.formula)) k false ≡ has (b ++ e ∷ []) f
        by_test true z = let s : m ≡ k = grind (arith, nat_tests) in here (letter_is e.formula m q ∙ ap (λ j. app (numbered j) end) s)
        by_test false z = other (λ r. let s : m ≡ k = some-is (sym q ∙ r) in differ s z)
          where
            some-is : ◌≡◌ {A = Option ℕ} (Some m) (Some k) → m ≡ k
            some-is w = cc

            differ : m ≡ k → nat_eq m k ≡ false → ⊥
            differ s z = grind (arith, nat_tests)

abbrev pub no_item : Item
no_item = record { formula = 0; class = 0; live = false; count = 0 }

pub marks_none : (ts : List Tree) (xs : List Item) (n : ℕ) (vs : List Bool) → vs ≡ replicate n false → AreMarked ts (take 0 xs) n vs
marks_none ts xs n vs h = record { count = ap length h ∙ length-replicate n false; marks = λ k l. ap (λ us. get_or us k false) h ∙ get_or-replicate n k false false l }

pub marks_more : (ts : List Tree) (xs : List Item) (n k : ℕ) (vs : List Bool) (x : Item) → k < length xs → x ≡ get_or xs k no_item → AreMarked ts (take k xs) n vs
    → AreMarked ts (take (k + 1) xs) n (marked vs (letter (tree_at ts x.formula)))
marks_more ts xs n k vs x l e a =
    let next : k + 1 ≡ suc k = omega arith in
    let taken : take (k + 1) xs ≡ take k xs ++ x ∷ [] = ap (λ m. take m xs) next ∙ take-suc xs k no_item l ∙ ap (λ y. take k xs ++ y ∷ []) (sym e) in
    let branch : branch_by ts (take (k + 1) xs) ≡ branch_by ts (take k xs) ++ entry-of ts x ∷ [] = ap (branch_by ts) taken ∙ map-append (entry-of ts) (take k xs) (x ∷ []) in
    record {
      count = marked-count vs (letter (tree_at ts x.formula)) ∙ a.count;
      marks = λ j m. mark-one ts (branch_by ts (take k xs)) (entry-of ts x) n vs a.count j m (a.marks j m) ∙ ap (λ b. has b (app (numbered j) end)) (sym branch);
    }

-- values that are right for each symbol are the valuation
from-is : (b : Branch) (k n : ℕ) (vs : List Bool) → length vs ≡ n → ((i : ℕ) → i < n → get_or vs i false ≡ has b (app (numbered (k + i)) end)) → vs ≡ valuation_from k n b
from-is b k zero [] c h = refl
from-is b k zero (v ∷ vs) c h = cc
from-is b k (suc n) [] c h = cc
from-is b k (suc n) (v ∷ vs) c h =
    let z : k + 0 ≡ k = omega arith in
    let o : 0 < suc n = omega arith in
    let rest : length vs ≡ n = omega arith in
    let first : v ≡ has b (app (numbered k) end) = h 0 o ∙ ap (λ j. has b (app (numbered j) end)) z in
    let more = from-is b (suc k) n vs rest (λ i l. let m : suc i < suc n = omega arith in let s : k + suc i ≡ suc k + i = omega arith in h (suc i) m ∙ ap (λ j. has b (app (numbered j) end)) s) in
    (λ i. first i ∷ more i)

pub marks_all : (ts : List Tree) (xs : List Item) (n k : ℕ) (vs : List Bool) → length xs ≤ k → AreMarked ts (take k xs) n vs → vs ≡ valuation n (branch_by ts xs)
unfolding valuation
marks_all ts xs n k vs l a =
    let all = subst (λ ys. AreMarked ts ys n vs) (take_all k xs l) a in
    from-is (branch_by ts xs) 0 n vs all.count (λ i m. let z : i ≡ 0 + i = omega arith in all.marks i m ∙ ap (λ j. has (branch_by ts xs) (app (numbered j) end)) z)

pub item_under : (n : ℕ) (xs : List Item) (i : ℕ) → ItemsUnder n xs → i < length xs → (get_or xs i no_item).formula < n
item_under n [] i u l = absurd (omega arith)
item_under n (x ∷ xs) zero u l = u.0
item_under n (x ∷ xs) (suc i) u l = item_under n xs i u.1 (omega arith)

length-from : (k n : ℕ) (b : Branch) → length (valuation_from k n b) ≡ n
length-from k zero b = refl
length-from k (suc n) b = ap suc (length-from (suc k) n b)

pub valuation_length : (n : ℕ) (b : Branch) → length (valuation n b) ≡ n
unfolding valuation
valuation_length n b = length-from 0 n b
