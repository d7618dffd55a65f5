-- The trees of a pattern.
use Rattle.std.proofs.Common.{◌≡◌, ℕ, suc, ◌+◌, ◌-◌, ◌<◌, Bool, true, ◌&&◌, nat_lt, IsTrue, List, [], ◌∷◌, ◌++◌, length, get_or, refl, ap, sym, ◌∙◌, arith, subst, length-append}
use Rattle.std.proofs.lemmas.Bool.{and_parts, agree_below_at}
use Rattle.std.proofs.lemmas.Bool.Decides.{nat_tests}
use Rattle.std.proofs.lemmas.List.{get_or_default}
use Rattle.core_expr.specs.Tree.{Tree, true_}
use Rattle.core_expr.specs.Tree.Tree.{bound}
use Rattle.core_expr.specs.Heads.{kind_at, kind_table}
use Rattle.core_expr.specs.Nodes.{Node, AreBelow, AreNodes, picked, node_fits, trees_from, tree_over}
use Rattle.term_bank.specs.Banks.{Extends, HasTree, tree_at}
use Rattle.term_bank.proofs.TableLaws.{length-picked, AreBelow-at}
use Rattle.proof_checker.specs.Tables.{ArePlaced}
use Rattle.proof_checker.specs.Schemas.{Pattern, pattern_at, opened, IsOpen, takes_opening, trees_in, subject_in, formula_in, last, IsBuilt, AreOpened}
use Rattle.proof_checker.specs.declared.pattern.Opening.{Opening}
use Rattle.proof_checker.specs.declared.pattern.Opening.TheVariants.{Nothing, Chosen, Last}
use Rattle.proof_checker.proofs.NodeLaws.{placed_push}
use Rattle.proof_checker.proofs.TurnLaws.{picked-at}

abbrev opened_count : Opening → ℕ
opened_count Nothing = 0
opened_count Chosen = 1
opened_count Last = 1

-- how many trees a pattern's nodes are over
abbrev start_of : Pattern → ℕ
start_of p = p.count + (opened_count p.opening + 1)

abbrev are_below : ℕ → List ℕ → Bool
are_below n [] = true
are_below n (i ∷ is) = nat_lt i n && are_below n is

abbrev fit_from : ℕ → List Node → Bool
fit_from n [] = true
fit_from n (m ∷ ms) = (node_fits m.head m.numbers (length m.parts) && are_below n m.parts) && fit_from (suc n) ms

abbrev is_sound : Pattern → Bool
is_sound p = (fit_from (start_of p) p.nodes && takes_opening p.opening p.count) && nat_lt p.subject (start_of p + length p.nodes)

sound_at : (i : ℕ) → i < 18 → is_sound (pattern_at i) ≡ true
unfolding kind_at kind_table
sound_at i l = agree_below_at (λ i. is_sound (pattern_at i)) (λ _. true) 18 i refl l

below_from : (n : ℕ) (is : List ℕ) → are_below n is ≡ true → AreBelow n is
below_from n [] h = tt
below_from n (i ∷ is) h = let a = and_parts (nat_lt i n) (are_below n is) h in ((let l = a.0 in grind (arith, nat_tests)), below_from n is a.1)

nodes_from : (n : ℕ) (ms : List Node) → fit_from n ms ≡ true → AreNodes n ms
nodes_from n [] h = tt
nodes_from n (m ∷ ms) h =
    let a = and_parts (node_fits m.head m.numbers (length m.parts) && are_below n m.parts) (fit_from (suc n) ms) h in
    let b = and_parts (node_fits m.head m.numbers (length m.parts)) (are_below n m.parts) a.0 in
    ((b.0, below_from n m.parts b.1), nodes_from (suc n) ms a.1)

pub takes_at : (i n : ℕ) → i < 18 → n ≡ (pattern_at i).count → IsTrue (takes_opening (pattern_at i).opening n)
takes_at i n l e =
    let p = pattern_at i in
    let a = and_parts (fit_from (start_of p) p.nodes && takes_opening p.opening p.count) (nat_lt p.subject (start_of p + length p.nodes)) (sound_at i l) in
    subst (λ m. IsTrue (takes_opening p.opening m)) (sym e) (and_parts (fit_from (start_of p) p.nodes) (takes_opening p.opening p.count) a.0).1

length-opened : (o : Opening) (es : List Tree) → length (opened o es) ≡ opened_count o
length-opened Nothing es = refl
length-opened Chosen es = refl
length-opened Last es = refl

-- the parameters, the instance and the variable
pub variable_put : (ts ts1 ts2 : List Tree) (o : Opening) (params values values' : List ℕ) (v : ℕ) → Extends ts1 ts2 → AreOpened ts ts1 (IsOpen o (picked ts params)) (opened o (picked ts params)) params values true → HasTree ts2 v (bound 0) → values' ≡ values ++ v ∷ [] → ArePlaced ts2 (picked ts params ++ opened o (picked ts params) ++ bound 0 ∷ []) values'
variable_put ts ts1 ts2 o params values values' v x a h e = placed_push ts1 ts2 (picked ts params ++ opened o (picked ts params)) values values' v (bound 0) x a.1 h e

pub nodes_fit : (ts ts2 : List Tree) (i : ℕ) (params values : List ℕ) → i < 18 → length params ≡ (pattern_at i).count → ArePlaced ts2 (picked ts params ++ opened (pattern_at i).opening (picked ts params) ++ bound 0 ∷ []) values → AreNodes (length values) (pattern_at i).nodes
nodes_fit ts ts2 i params values l c a =
    let p = pattern_at i in
    let s = and_parts (fit_from (start_of p) p.nodes && takes_opening p.opening p.count) (nat_lt p.subject (start_of p + length p.nodes)) (sound_at i l) in
    let n : start_of p ≡ length values = omega (arith, length-picked ts2 values, ap length a.trees, length-append (picked ts params ++ opened p.opening (picked ts params)) (bound 0 ∷ []), length-append (picked ts params) (opened p.opening (picked ts params)), length-picked ts params, length-opened p.opening (picked ts params)) in
    subst (λ k. AreNodes k p.nodes) n (nodes_from (start_of p) p.nodes (and_parts (fit_from (start_of p) p.nodes) (takes_opening p.opening p.count) s.0).0)

length-trees_from : (ts : List Tree) (ns : List Node) → length (trees_from ts ns) ≡ length ts + length ns
length-trees_from ts [] = omega arith
length-trees_from ts (n ∷ ns) = omega (arith, length-trees_from (ts ++ tree_over ts n ∷ []) ns, length-append ts (tree_over ts n ∷ []))

-- the places of the subject and of the formula
built_length : (ts : List Tree) (i : ℕ) (es : List Tree) (values : List ℕ) → i < 18 → length es ≡ (pattern_at i).count → IsBuilt ts (pattern_at i) es values → length values ≡ start_of (pattern_at i) + length (pattern_at i).nodes
built_length ts i es values l c a =
    let p = pattern_at i in
    omega (arith, length-picked ts values, ap length a.placed.trees, length-trees_from (es ++ opened p.opening es ++ bound 0 ∷ []) p.nodes, length-append (es ++ opened p.opening es) (bound 0 ∷ []), length-append es (opened p.opening es), length-opened p.opening es)

pub subject_within : (ts : List Tree) (i : ℕ) (es : List Tree) (values : List ℕ) → i < 18 → length es ≡ (pattern_at i).count → IsBuilt ts (pattern_at i) es values → (pattern_at i).subject < length values
subject_within ts i es values l c a =
    let p = pattern_at i in
    let s = and_parts (fit_from (start_of p) p.nodes && takes_opening p.opening p.count) (nat_lt p.subject (start_of p + length p.nodes)) (sound_at i l) in
    let n = built_length ts i es values l c a in
    let m = s.1 in
    grind (arith, nat_tests)

value_at : (ts table : List Tree) (values : List ℕ) (j v : ℕ) → j < length values → v ≡ get_or values j v → ArePlaced ts table values → HasTree ts v (get_or table j true_)
value_at ts table values j v l e a =
    let q : v ≡ get_or values j 0 = e ∙ get_or_default values j v 0 l in
    record {
      within = subst (λ k. k < length ts) (sym q) (AreBelow-at (length ts) values j a.below l);
      tree = ap (tree_at ts) q ∙ picked-at ts values j l ∙ ap (λ us. get_or us j true_) a.trees;
    }

pub subject_at : (ts : List Tree) (i : ℕ) (es : List Tree) (values : List ℕ) (v : ℕ) → i < 18 → length es ≡ (pattern_at i).count → IsBuilt ts (pattern_at i) es values → v ≡ get_or values (pattern_at i).subject v → HasTree ts v (subject_in (pattern_at i) es)
subject_at ts i es values v l c a e = value_at ts (trees_in (pattern_at i) es) values (pattern_at i).subject v (subject_within ts i es values l c a) e a.placed

pub last_placed : (ts table : List Tree) (values : List ℕ) (v : ℕ) → 0 < length values → v ≡ get_or values (length values - 1) v → ArePlaced ts table values → HasTree ts v (last table)
last_placed ts table values v l e a =
    let b : length values - 1 < length values = omega arith in
    let n : length values ≡ length table = sym (length-picked ts values) ∙ ap length a.trees in
    coe 0 1 (k. HasTree ts v (get_or table (n k - 1) true_)) (value_at ts table values (length values - 1) v b e a)

pub formula_at : (ts : List Tree) (i : ℕ) (es : List Tree) (values : List ℕ) (v : ℕ) → i < 18 → length es ≡ (pattern_at i).count → IsBuilt ts (pattern_at i) es values → v ≡ get_or values (length values - 1) v → HasTree ts v (formula_in (pattern_at i) es)
formula_at ts i es values v l c a e = let m = built_length ts i es values l c a in last_placed ts (trees_in (pattern_at i) es) values v (omega arith) e a.placed

pub some_placed : (ts ts' : List Tree) (items values : List ℕ) (ns : List Node) → 0 < length items → ArePlaced ts' (trees_from (picked ts items) ns) values → 0 < length values
some_placed ts ts' items values ns l a = omega (arith, length-picked ts' values, ap length a.trees, length-trees_from (picked ts items) ns, length-picked ts items)

pub built_some : (ts : List Tree) (i : ℕ) (es : List Tree) (values : List ℕ) → i < 18 → length es ≡ (pattern_at i).count → IsBuilt ts (pattern_at i) es values → 0 < length values
built_some ts i es values l c a = let m = built_length ts i es values l c a in omega arith

pub built : (ts ts1 ts2 ts3 : List Tree) (i : ℕ) (params values values' values'' : List ℕ) (v : ℕ) (ns : List Node) → Extends ts1 ts2 → AreOpened ts ts1 (IsOpen (pattern_at i).opening (picked ts params)) (opened (pattern_at i).opening (picked ts params)) params values true → HasTree ts2 v (bound 0) → values' ≡ values ++ v ∷ [] → ns ≡ (pattern_at i).nodes → ArePlaced ts3 (trees_from (picked ts2 values') ns) values'' → IsBuilt ts3 (pattern_at i) (picked ts params) values''
built ts ts1 ts2 ts3 i params values values' values'' v ns x a h e n p =
    let u = variable_put ts ts1 ts2 (pattern_at i).opening params values values' v x a h e in
    record { opened_is = a.0; placed = coe 0 1 (k. ArePlaced ts3 (trees_from (u.trees k) (n k)) values'') p }
