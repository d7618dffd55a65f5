-- Steps by the numbers of what they name.
use Rattle.std.proofs.Common.{◌≡◌, ℕ, ◌-◌, ◌<◌, List, [], ◌∷◌, length, length-drop, map, take, drop, get_or, refl, ap, sym, ◌∙◌, arith, subst}
use Rattle.std.proofs.lemmas.List.{take_all}
use Rattle.core_expr.specs.Tree.{Tree, true_}
use Rattle.core_expr.specs.Nodes.{picked}
use Rattle.seq_calculus.specs.Calculus.{Proof}
use Rattle.term_bank.specs.Banks.{tree_at}
use Rattle.search_definition.specs.Rules.{Sides}
use Rattle.search_trace.specs.declared.turn.Used.{Used}
use Rattle.search_trace.specs.Traces.{result_of}
use Rattle.proof_trees.specs.By.{head_of, tail_of, rule_by, by}
use Rattle.proof_trees.specs.Told.{Told, told_by}

map-picked : (ts : List Tree) (is : List ℕ) → map (tree_at ts) is ≡ picked ts is
map-picked ts [] = refl
map-picked ts (i ∷ is) = ap (λ us. get_or ts i true_ ∷ us) (map-picked ts is)

-- the first of what is named, and the rest
head-named : (ts : List Tree) (is : List ℕ) → 0 < length is → head_of (map (tree_at ts) is) ≡ get_or ts (get_or is 0 0) true_
head-named ts [] h = absurd (omega arith)
head-named ts (i ∷ is) h = refl

tail-named : (ts : List Tree) (is : List ℕ) → tail_of (map (tree_at ts) is) ≡ picked ts (drop 1 is)
tail-named ts [] = refl
tail-named ts (i ∷ is) = map-picked ts is

some_named : (ts : List Tree) (is : List ℕ) (f : Tree) (fs : List Tree) → map (tree_at ts) is ≡ f ∷ fs → 0 < length is
some_named ts [] f fs e = cc
some_named ts (i ∷ is) f fs e = omega arith

-- all but the first, as a slice
rest_all : (is : List ℕ) → take (length is - 1) (drop 1 is) ≡ drop 1 is
rest_all is = take_all (length is - 1) (drop 1 is) (let e = length-drop 1 is in omega (arith, e))

module _ (ts : List Tree) (u : Used) (s : Sides) (t : Told (result_of ts u s).step) where
  abbrev ns : List ℕ
  ns = u.named.items

  named_some : 0 < length ns
  named_some = some_named ts ns t.formula t.others t.names

  told_at : told_by u.rule (get_or ts (get_or ns 0 0) true_) (picked ts (drop 1 ns)) (picked ts u.terms.items) s
  told_at =
      subst (λ f. told_by u.rule f (picked ts (drop 1 ns)) (picked ts u.terms.items) s) (head-named ts ns named_some)
      (subst (λ gs. told_by u.rule (head_of (map (tree_at ts) ns)) gs (picked ts u.terms.items) s) (tail-named ts ns)
      (subst (λ us. told_by u.rule (head_of (map (tree_at ts) ns)) (tail_of (map (tree_at ts) ns)) us s) (map-picked ts u.terms.items) t.told))

  -- the numbers of what is named, and those of the terms
  module _ (is js : List ℕ) (ei : is ≡ ns) (ej : js ≡ u.terms.items) where
    others : drop 1 ns ≡ take (length is - 1) (drop 1 is)
    others = sym (rest_all ns) ∙ ap (λ xs. take (length xs - 1) (drop 1 xs)) (sym ei)

    pub told_from : told_by u.rule (get_or ts (get_or is 0 0) true_) (picked ts (take (length is - 1) (drop 1 is))) (picked ts js) s
    told_from =
        subst (λ xs. told_by u.rule (get_or ts (get_or xs 0 0) true_) (picked ts (take (length is - 1) (drop 1 is))) (picked ts js) s) (sym ei)
        (subst (λ xs. told_by u.rule (get_or ts (get_or ns 0 0) true_) (picked ts xs) (picked ts js) s) others
        (subst (λ xs. told_by u.rule (get_or ts (get_or ns 0 0) true_) (picked ts (drop 1 ns)) (picked ts xs) s) (sym ej) told_at))

    pub by_from : (ps : List Proof) → rule_by u.rule (get_or ts (get_or is 0 0) true_) (picked ts (take (length is - 1) (drop 1 is))) (picked ts js) ps ≡ by (result_of ts u s) ps
    by_from ps =
        (λ i. rule_by u.rule (get_or ts (get_or (ei i) 0 0) true_) (picked ts (sym others i)) (picked ts (ej i)) ps)
        ∙ (λ i. rule_by u.rule (sym (head-named ts ns named_some) i) (sym (tail-named ts ns) i) (sym (map-picked ts u.terms.items) i) ps)
