-- Sizes of the nodes of a bank.
use Rattle.std.proofs.Common.{◌≡◌, ℕ, suc, ◌+◌, ◌<◌, List, [], ◌∷◌, ◌++◌, length, get_or, take, refl, ap, sym, ◌∙◌, arith, subst}
use Rattle.std.proofs.lemmas.List.{take_more, get_or_append_left, get_or_push, length_push}
use Rattle.std.proofs.lemmas.Bool.{cases_lt}
use Rattle.std.proofs.Common.{inl, inr}
use Rattle.core_expr.specs.Tree.{Tree}
use Rattle.core_expr.specs.Terms.{nodes}
use Rattle.core_expr.specs.Nodes.{Node, AreBelow, picked}
use Rattle.term_bank.specs.Banks.{Extends, HasNode, tree_at}
use Rattle.term_bank.proofs.InstLaws.{same_tree, longer}
use Rattle.term_order.specs.Sizes.{sizes_all, AreSizes}
use Rattle.term_order.proofs.SubtermLaws.{nodes_all}
use Rattle.term_order.proofs.ListingLaws.{node-nodes}

sizes_all-push : (ns ps : List ℕ) (p : ℕ) → sizes_all ns (ps ++ p ∷ []) ≡ sizes_all ns ps + get_or ns p 0
sizes_all-push ns [] p = omega arith
sizes_all-push ns (q ∷ ps) p = let e = sizes_all-push ns ps p in omega (arith, e)

pub size_more : (ns ps : List ℕ) (k old new x : ℕ) → k < length ps → x ≡ get_or ns (get_or ps k 0) 0 → new ≡ old + x → old ≡ suc (sizes_all ns (take k ps)) → new ≡ suc (sizes_all ns (take (k + 1) ps))
size_more ns ps k old new x l ex en h =
    let e = ap (sizes_all ns) (take_more ps k 0 l) ∙ sizes_all-push ns (take k ps) (get_or ps k 0) in omega (arith, e, ex, en, h)

sizes_nodes : (ts : List Tree) (ns ps : List ℕ) → AreSizes ts ns → AreBelow (length ns) ps → sizes_all ns ps ≡ nodes_all (picked ts ps)
sizes_nodes ts ns [] a b = refl
sizes_nodes ts ns (p ∷ ps) a b = λ i. a.right p b.0 i + sizes_nodes ts ns ps a b.1 i

pub size_below : (ns sizes ps parts : List ℕ) (i : ℕ) → i ≡ length ns → AreBelow i ps → sizes ≡ ns → parts ≡ ps → AreBelow (length sizes) parts
size_below ns sizes ps parts i ei b en ep =
    subst (λ xs. AreBelow (length xs) parts) (sym en) (subst (AreBelow (length ns)) (sym ep) (subst (λ k. AreBelow k ps) ei b))

-- one more size
pub sizes_push : (ts : List Tree) (ns out ps : List ℕ) (i size : ℕ) (n : Node) → HasNode ts i n → AreBelow i n.parts → i ≡ length ns → ps ≡ n.parts → size ≡ suc (sizes_all ns ps) → out ≡ ns ++ size ∷ [] → AreSizes ts ns → AreSizes ts out
sizes_push ts ns out ps i size n g b ei ep es eo a =
    subst (AreSizes ts) (sym eo) (record {
      within = let l = length_push ns size in let w = g.within in omega (arith, l, w, ei);
      right = λ j l. elim (cases_lt j (length ns)) [
        | inl m ↦ get_or_append_left ns (size ∷ []) 0 j m ∙ a.right j m
        | inr m ↦ let w = length_push ns size in let z : length ns ≡ j = omega (arith, l, w, m) in
            get_or_push ns size 0 j z ∙ es ∙ ap suc (ap (sizes_all ns) ep ∙ sizes_nodes ts ns n.parts a (subst (λ k. AreBelow k n.parts) ei b)) ∙ sym (node-nodes ts i n g) ∙ ap (λ k. nodes (tree_at ts k)) (ei ∙ z)
      ];
    })

-- the sizes stay when the bank grows
pub AreSizes-more : (ts now : List Tree) (ns : List ℕ) → Extends ts now → AreSizes ts ns → AreSizes now ns
AreSizes-more ts now ns x a =
    record {
      within = let l = longer ts now x in let w = a.within in omega (arith, l, w);
      right = λ i l. a.right i l ∙ ap nodes (sym (same_tree ts now i x (let w = a.within in omega (arith, w, l))));
    }
