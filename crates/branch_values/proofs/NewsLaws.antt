-- What a rule adds, with classes, and what was found by it.
use Rattle.std.proofs.Common.{◌≡◌, ℕ, zero, suc, ◌+◌, ◌<◌, ◌≤◌, List, [], ◌∷◌, ◌++◌, length, get_or, take, refl, ap, sym, ◌∙◌, subst, arith}
use Rattle.std.proofs.lemmas.List.{map-append, take_more, take_all}
use Rattle.core_expr.specs.Tree.{Tree}
use Rattle.term_bank.specs.Banks.{tree_at}
use Rattle.branch_state.specs.declared.parts.New.{New}
use Rattle.branch_state.specs.Parts.{AreClassed}
use Rattle.tableau_search.specs.Entries.{new_tree, NewsUnder}
use Rattle.branch_values.specs.News.{AreNews}

-- formulas with classes, one more
under_push : (n : ℕ) (ns : List New) (m : New) → NewsUnder n ns → m.formula < n → NewsUnder n (ns ++ m ∷ [])
under_push n [] m a l = (l, tt)
under_push n (x ∷ ns) m a l = (a.0, under_push n ns m a.1 l)

classed_push : (ns : List New) (m : New) → AreClassed ns → m.class < 68 → AreClassed (ns ++ m ∷ [])
classed_push [] m a l zero h = l
classed_push [] m a l (suc j) h = absurd (omega arith)
classed_push (x ∷ ns) m a l zero h = a 0 (omega arith)
classed_push (x ∷ ns) m a l (suc j) h = classed_push ns m (λ k g. a (suc k) (omega arith)) l j (omega arith)

pub news_none : (ts : List Tree) (is : List ℕ) (ns : List New) → ns ≡ [] → AreNews ts (take 0 is) ns
news_none ts is ns e = subst (AreNews ts []) (sym e) (record { trees = refl; usable = record { under = tt; classed = λ i l. absurd (omega arith) } })

pub news_more : (ts : List Tree) (is : List ℕ) (ns more : List New) (k c : ℕ) → AreNews ts (take k is) ns → k < length is → get_or is k 0 < length ts → c < 68 → more ≡ ns ++ record { formula = get_or is k 0; class = c } ∷ [] → AreNews ts (take (k + 1) is) more
news_more ts is ns more k c a l lf lc e =
    subst (AreNews ts (take (k + 1) is)) (sym e) (subst (λ xs. AreNews ts xs (ns ++ m ∷ [])) (sym (take_more is k 0 l)) (record {
      trees = map-append (new_tree ts) ns (m ∷ []) ∙ ap (λ us. us ++ tree_at ts (get_or is k 0) ∷ []) a.trees ∙ sym (map-append (tree_at ts) (take k is) (get_or is k 0 ∷ []));
      usable = record { under = under_push (length ts) ns m a.usable.under lf; classed = classed_push ns m a.usable.classed lc };
    }))
  where
    m : New
    m = record { formula = get_or is k 0; class = c }

pub news_all : (ts : List Tree) (is : List ℕ) (ns : List New) (k : ℕ) → length is ≤ k → AreNews ts (take k is) ns → AreNews ts is ns
news_all ts is ns k l a = subst (λ xs. AreNews ts xs ns) (take_all k is l) a
