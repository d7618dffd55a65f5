-- Tables that are put into a bank node by node.
use Rattle.std.proofs.Common.{◌≡◌, ℕ, zero, suc, ◌+◌, ◌<◌, Bool, true, false, List, [], ◌∷◌, ◌++◌, length, get_or, map, drop, refl, ap, sym, ◌∙◌, arith, subst}
use Rattle.std.proofs.lemmas.List.{drop_more, length_push, get_or_default}
use Rattle.core_expr.specs.Tree.{Tree, true_, choose_}
use Rattle.core_expr.specs.Put.{inst, IsScoped}
use Rattle.core_expr.specs.Nodes.{Node, AreBelow, AreNodes, picked, tree_over, trees_from}
use Rattle.term_bank.specs.Banks.{Extends, HasTree, tree_at}
use Rattle.term_bank.proofs.TableLaws.{picked-extend, AreBelow-more, AreBelow-at}
use Rattle.term_bank.proofs.InstLaws.{Extends-trans}
use Rattle.term_bank.proofs.InternLaws.{picked-append, AreBelow-append}
use Rattle.proof_checker.specs.Tables.{ArePlaced}
use Rattle.proof_checker.specs.Schemas.{AreOpened, IsOpen, opened}
use Rattle.proof_checker.specs.declared.pattern.Opening.TheVariants.{Chosen}
use Rattle.proof_checker.proofs.SideLaws.{longer, tree-extend}
use Rattle.proof_checker.proofs.PlanLaws.{earlier_inst}
use Rattle.proof_checker.proofs.TurnLaws.{picked-at}

-- the first trees of a table stand at these places, and the nodes are left
pub record IsTable (ts : List Tree) (places : List ℕ) (ns : List Node) (table : List Tree) : Type 0 where
  pub below : AreBelow (length ts) places
  pub nodes : AreNodes (length places) ns
  pub trees : trees_from (picked ts places) ns ≡ table

pub picked-same : (ts ts' : List Tree) (is : List ℕ) → Extends ts ts' → AreBelow (length ts) is → picked ts' is ≡ picked ts is
picked-same ts ts' is x b = ap (λ us. picked us is) x.1 ∙ picked-extend ts x.0 is b

pub table_step : (ts ts' : List Tree) (places places' : List ℕ) (k : ℕ) (n : Node) (ns : List Node) (table : List Tree) → Extends ts ts' → IsTable ts places (n ∷ ns) table → HasTree ts' k (tree_over (picked ts places) n) → places' ≡ places ++ k ∷ [] → IsTable ts' places' ns table
table_step ts ts' places places' k n ns table x a h e =
    rw e (record {
      below = AreBelow-append (length ts') places (k ∷ []) (AreBelow-more (length ts) (length ts') places (longer ts ts' x) a.below) (h.within, tt);
      nodes = let l : suc (length places) ≡ length (places ++ k ∷ []) = omega (arith, length_push places k) in subst (λ m. AreNodes m ns) l a.nodes.1;
      trees = ap (λ us. trees_from us ns) (picked-append ts' places (k ∷ []) ∙ (λ i. picked-same ts ts' places x a.below i ++ h.tree i ∷ [])) ∙ a.trees;
    })

pub table_next : {X : Type 0} (f : X → Node) (ts : List Tree) (places : List ℕ) (xs : List X) (i : ℕ) (x : X) (table : List Tree) → i < length xs → x ≡ get_or xs i x → IsTable ts places (map f (drop i xs)) table → IsTable ts places (f x ∷ map f (drop (i + 1) xs)) table
table_next f ts places xs i x table l e a = subst (λ ns. IsTable ts places ns table) (ap (map f) (drop_more xs i x l) ∙ ap (λ y. f y ∷ map f (drop (i + 1) xs)) (sym e)) a

pub table_begins : (ts : List Tree) (places : List ℕ) (ns : List Node) → AreBelow (length ts) places → AreNodes (length places) ns → IsTable ts places ns (trees_from (picked ts places) ns)
table_begins ts places ns b a = record { below = b; nodes = a; trees = refl }

pub below_drop : (n k : ℕ) (is : List ℕ) → AreBelow n is → AreBelow n (drop k is)
below_drop n zero is b = b
below_drop n (suc k) [] b = tt
below_drop n (suc k) (i ∷ is) b = below_drop n k is b.1

-- one tree more
pub placed_push : (ts ts' table : List Tree) (places places' : List ℕ) (k : ℕ) (t : Tree) → Extends ts ts' → ArePlaced ts table places → HasTree ts' k t → places' ≡ places ++ k ∷ [] → ArePlaced ts' (table ++ t ∷ []) places'
placed_push ts ts' table places places' k t x a h e =
    rw e (record {
      below = AreBelow-append (length ts') places (k ∷ []) (AreBelow-more (length ts) (length ts') places (longer ts ts' x) a.below) (h.within, tt);
      trees = picked-append ts' places (k ∷ []) ∙ (λ i. (picked-same ts ts' places x a.below ∙ a.trees) i ++ h.tree i ∷ []);
    })

-- an instance that is added
pub instance_added : (ts ts' ts'' : List Tree) (vs vs' : List ℕ) (body term k : ℕ) → Extends ts ts' → Extends ts' ts'' → AreBelow (length ts) vs → body < length ts → term < length ts → IsScoped 0 (tree_at ts term) → IsScoped 1 (tree_at ts body) → HasTree ts'' k (inst (tree_at ts' body) (tree_at ts' term)) → vs' ≡ vs ++ k ∷ [] → AreOpened ts ts'' (IsScoped 0 (tree_at ts term) × IsScoped 1 (tree_at ts body)) (inst (tree_at ts body) (tree_at ts term) ∷ []) vs vs' true
instance_added ts ts' ts'' vs vs' body term k x y a l m c b h e =
    ((c, b), placed_push ts ts'' (picked ts vs) vs vs' k (inst (tree_at ts body) (tree_at ts term)) (Extends-trans ts ts' ts'' x y) (record { below = a; trees = refl }) (earlier_inst ts ts' ts'' body term k x l m h) e)

pub opened_chosen : (ts ts' ts'' : List Tree) (vs vs' : List ℕ) (body term : ℕ) (b : Bool) → Extends ts ts' → AreBelow (length ts) vs → 0 < length vs → body ≡ get_or vs 0 body → HasTree ts' term (choose_ (tree_at ts body)) → AreOpened ts' ts'' (IsScoped 0 (tree_at ts' term) × IsScoped 1 (tree_at ts' body)) (inst (tree_at ts' body) (tree_at ts' term) ∷ []) vs vs' b → AreOpened ts ts'' (IsOpen Chosen (picked ts vs)) (opened Chosen (picked ts vs)) vs vs' b
opened_chosen ts ts' ts'' vs vs' body term b x a l e h w = go b (coe 0 1 (i. AreOpened ts' ts'' (IsScoped 0 (et i) × IsScoped 1 (eb i)) (inst (eb i) (et i) ∷ []) vs vs' b) w)
  where
    p : Tree
    p = get_or (picked ts vs) 0 true_

    is : body ≡ get_or vs 0 0
    is = e ∙ get_or_default vs 0 body 0 l

    below : body < length ts
    below = subst (λ j. j < length ts) (sym is) (AreBelow-at (length ts) vs 0 a l)

    eb0 : tree_at ts body ≡ p
    eb0 = ap (tree_at ts) is ∙ picked-at ts vs 0 l

    eb : tree_at ts' body ≡ p
    eb = tree-extend ts ts' body x below ∙ eb0

    et : tree_at ts' term ≡ choose_ p
    et = h.tree ∙ ap (λ t. choose_ t) eb0

    go : (b : Bool) → AreOpened ts' ts'' (IsScoped 0 (choose_ p) × IsScoped 1 p) (inst p (choose_ p) ∷ []) vs vs' b → AreOpened ts ts'' (IsOpen Chosen (picked ts vs)) (opened Chosen (picked ts vs)) vs vs' b
    go true w = (w.0.1, record { below = w.1.below; trees = w.1.trees ∙ ap (λ us. us ++ inst p (choose_ p) ∷ []) (picked-same ts ts' vs x a) })
    go false w = λ k. w ((tt, k), k)
