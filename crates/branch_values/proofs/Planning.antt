-- Plans: what they say when the bank grows, and their turns.
use Rattle.std.proofs.Common.{◌≡◌, ℕ, ◌<◌, List, [], ◌∷◌, ◌++◌, length, refl, ap, sym, ◌∙◌, subst, arith, inl, inr, Result, Ok, Err}
use Rattle.std.specs.Prelude.{◌⊎◌, ◌↔◌, OnOk}
use Rattle.std.proofs.lemmas.List.{map-append}
use Rattle.core_expr.specs.Tree.{Tree}
use Rattle.core_expr.specs.Nodes.{AreBelow}
use Rattle.term_bank.specs.Banks.{tree_at, Extends}
use Rattle.term_bank.specs.Images.{In}
use Rattle.term_bank.proofs.MarkLaws.{In-append-left, In-append-right, In-parts, is_last}
use Rattle.term_bank.proofs.TableLaws.{AreBelow-more}
use Rattle.term_walks.proofs.NodeLaws.{In-below}
use Rattle.term_walks.proofs.WalkLaws.{stays_in}
use Rattle.term_shapes.proofs.Extending.{tree-extend, longer, below-extend}
use Rattle.search_definition.specs.Branches.{Branch}
use Rattle.search_definition.specs.Values.{whole, truth_by, truth, grounds_by, grounds}
use Rattle.search_definition.specs.Values.Whole.{Undecided}
use Rattle.formula_rules.proofs.Giving.{trees_kept}
use Rattle.branch_values.specs.declared.reason.Reason.{Reason}
use Rattle.branch_values.specs.declared.link.Link.{Link}
use Rattle.branch_values.specs.declared.link.Link.TheVariants.{Alone, Denied, Joined}
use Rattle.branch_values.specs.declared.work.Work.{Work}
use Rattle.branch_values.specs.declared.work.Work.TheVariants.{Known, Linked}
use Rattle.branch_values.specs.declared.work.Task.{Task}
use Rattle.branch_values.specs.Judging.{linking, link_trees, link_parts, linking_truth, linking_grounds}
use Rattle.branch_values.specs.Judging.Linking.{NotOf, Joining}
use Rattle.branch_values.specs.Reasons.{basis_list, Gives}
use Rattle.branch_values.specs.Plans.{IsWork, needed, indices, AreIn, ArePlanned, IsPlan}
use Rattle.branch_values.proofs.Reasoning.{truth-linked, grounds-linked}

-- work by a reason, and by a connective
pub known_work : (ts : List Tree) (b : Branch) (i : ℕ) (t : Tree) (r : Reason) → tree_at ts i ≡ t → Gives ts b t r → IsWork ts b i (Known r)
known_work ts b i t r e g = (
  ap (truth b) e ∙ truth-linked b t ∙ g.value (linking_truth b (linking t)),
  ap (grounds b) e ∙ grounds-linked b t ∙ g.grounds (linking_grounds b (linking t)),
  g.below,
)

pub linked_work : (ts : List Tree) (b : Branch) (i : ℕ) (t : Tree) (l : Link) → tree_at ts i ≡ t → whole b t ≡ Undecided → link_trees ts l ≡ linking (tree_at ts i) → AreBelow i (link_parts l) → IsWork ts b i (Linked l)
linked_work ts b i t l e w k below = (
  ap (truth b) e ∙ truth-linked b t ∙ ap (λ v. truth_by v (linking_truth b (linking t))) w ∙ ap (linking_truth b) same,
  ap (grounds b) e ∙ grounds-linked b t ∙ ap (λ v. grounds_by v t (linking_grounds b (linking t))) w ∙ ap (linking_grounds b) same,
  below,
)
  where
    same : linking t ≡ link_trees ts l
    same = ap linking (sym e) ∙ sym k

-- in a bank that grows
link_kept : (ts ts' : List Tree) (i : ℕ) (l : Link) → Extends ts ts' → i < length ts → AreBelow i (link_parts l) → link_trees ts' l ≡ link_trees ts l
link_kept ts ts' i Alone x li b = refl
link_kept ts ts' i (Denied a) x li b = ap NotOf (tree-extend ts ts' a x (omega (arith, b.0, li)))
link_kept ts ts' i (Joined c p q) x li b = λ j. Joining c (tree-extend ts ts' p x (omega (arith, b.0, li)) j) (tree-extend ts ts' q x (omega (arith, b.1.0, li)) j)

work_kept : (ts ts' : List Tree) (b : Branch) (i : ℕ) (w : Work) → Extends ts ts' → i < length ts → IsWork ts b i w → IsWork ts' b i w
work_kept ts ts' b i (Known r) x l h = (
  ap (truth b) (tree-extend ts ts' i x l) ∙ h.0,
  ap (grounds b) (tree-extend ts ts' i x l) ∙ h.1 ∙ sym (trees_kept ts ts' (basis_list r.basis) x h.2),
  AreBelow-more (length ts) (length ts') (basis_list r.basis) (longer ts ts' x) h.2,
)
work_kept ts ts' b i (Linked k) x l h = (
  ap (truth b) (tree-extend ts ts' i x l) ∙ h.0 ∙ ap (linking_truth b) (sym (link_kept ts ts' i k x l h.2)),
  ap (grounds b) (tree-extend ts ts' i x l) ∙ h.1 ∙ ap (linking_grounds b) (sym (link_kept ts ts' i k x l h.2)),
  h.2,
)

planned_kept : (ts ts' : List Tree) (b : Branch) (ws : List Task) (todo : List ℕ) → Extends ts ts' → ArePlanned ts b ws todo → ArePlanned ts' b ws todo
planned_kept ts ts' b [] todo x h = tt
planned_kept ts ts' b (w ∷ ws) todo x h = (below-extend ts ts' w.index x h.0, work_kept ts ts' b w.index w.work x h.0 h.1, h.2, planned_kept ts ts' b ws todo x h.3)

pub needed_below : (ts : List Tree) (b : Branch) (i : ℕ) (w : Work) → IsWork ts b i w → (q : ℕ) → In q (needed w) → q < i
needed_below ts b i (Known r) h q m = absurd m
needed_below ts b i (Linked l) h q m = In-below i (link_parts l) h.2 q m

-- one task more
planned_push : (ts : List Tree) (b : Branch) (ws : List Task) (w : Task) (old new : List ℕ) → ((q : ℕ) → In q old → In q (w.index ∷ new)) → w.index < length ts → IsWork ts b w.index w.work → AreIn (needed w.work) new → ArePlanned ts b ws old → ArePlanned ts b (ws ++ w ∷ []) new
planned_push ts b [] w old new f l h n a = (l, h, n, tt)
planned_push ts b (v ∷ ws) w old new f l h n a = (a.0, a.1, (λ q m. move q (In-parts q (indices ws) old (a.2 q m))), planned_push ts b ws w old new f l h n a.3)
  where
    pushed : indices (ws ++ w ∷ []) ≡ indices ws ++ w.index ∷ []
    pushed = map-append (λ (x : Task). x.index) ws (w ∷ [])

    among : (q : ℕ) → In q (indices ws ++ w.index ∷ []) → In q (indices (ws ++ w ∷ []) ++ new)
    among q m = In-append-left q (indices (ws ++ w ∷ [])) new (subst (In q) (sym pushed) m)

    last : (q : ℕ) → In q (w.index ∷ new) → In q (indices (ws ++ w ∷ []) ++ new)
    last q (inl e) = among q (In-append-right q (indices ws) (w.index ∷ []) (inl e))
    last q (inr m) = In-append-right q (indices (ws ++ w ∷ [])) new m

    move : (q : ℕ) → In q (indices ws) ⊎ In q old → In q (indices (ws ++ w ∷ []) ++ new)
    move q (inl m) = among q (In-append-left q (indices ws) (w.index ∷ []) m)
    move q (inr m) = last q (f q m)

pub plan_first : (ts : List Tree) (b : Branch) (e : ℕ) (ws : List Task) (none todo : List ℕ) → ws ≡ [] → none ≡ [] → e < length ts → ((q : ℕ) → In q todo ↔ ((q ≡ e) ⊎ In q none)) → IsPlan ts b e ws todo
plan_first ts b e ws none todo ew en l f =
    record {
      planned = subst (λ xs. ArePlanned ts b xs todo) (sym ew) tt;
      within = λ q h. go q ((f q).0 h);
      has_start = subst (λ xs. In e (indices xs ++ todo)) (sym ew) ((f e).1 (inl refl));
    }
  where
    go : (q : ℕ) → (q ≡ e) ⊎ In q none → q < length ts
    go q (inl w) = subst (λ x. x < length ts) (sym w) l
    go q (inr h) = absurd (subst (In q) en h)

put_off : (k : ℕ) (old mid : List ℕ) → old ≡ mid ++ k ∷ [] → (q : ℕ) → In q old → (q ≡ k) ⊎ In q mid
put_off k old mid e q h = go (In-parts q mid (k ∷ []) (subst (In q) e h))
  where
    go : In q mid ⊎ In q (k ∷ []) → (q ≡ k) ⊎ In q mid
    go (inl m) = inr m
    go (inr (inl z)) = inl z
    go (inr (inr m)) = absurd m

pub plan_turn : (ts ts' : List Tree) (b b' : Branch) (e k : ℕ) (w : Work) (ws out : List Task) (old mid new : List ℕ) → Extends ts ts' → b' ≡ b → out ≡ ws ++ record { index = k; work = w } ∷ [] → old ≡ mid ++ k ∷ [] → IsWork ts' b' k w → ((q : ℕ) → In q new ↔ (In q (needed w) ⊎ In q mid)) → IsPlan ts b e ws old → IsPlan ts' b e out new
plan_turn ts ts' b b' e k w ws out old mid new x eb eo em h f a =
    record {
      planned = subst (λ xs. ArePlanned ts' b xs new) (sym eo) (planned_push ts' b ws task old new off within work (λ q m. (f q).1 (inl m)) (planned_kept ts ts' b ws old x a.planned));
      within = λ q m. go q ((f q).0 m);
      has_start = subst (λ xs. In e (indices xs ++ new)) (sym eo) (start (In-parts e (indices ws) old a.has_start));
    }
  where
    task : Task
    task = record { index = k; work = w }

    work : IsWork ts' b k w
    work = subst (λ c. IsWork ts' c k w) eb h

    off : (q : ℕ) → In q old → In q (k ∷ new)
    off q m = later (put_off k old mid em q m)
      where
        later : (q ≡ k) ⊎ In q mid → In q (k ∷ new)
        later (inl z) = inl z
        later (inr m) = inr ((f q).1 (inr m))

    within : k < length ts'
    within = below-extend ts ts' k x (a.within k (is_last k old mid em))

    go : (q : ℕ) → In q (needed w) ⊎ In q mid → q < length ts'
    go q (inl m) = let z = needed_below ts' b' k w h q m in omega (arith, z, within)
    go q (inr m) = below-extend ts ts' q x (a.within q (stays_in k q old mid em m))

    pushed : indices (ws ++ task ∷ []) ≡ indices ws ++ k ∷ []
    pushed = map-append (λ (x : Task). x.index) ws (task ∷ [])

    among : In e (indices ws ++ k ∷ []) → In e (indices (ws ++ task ∷ []) ++ new)
    among m = In-append-left e (indices (ws ++ task ∷ [])) new (subst (In e) (sym pushed) m)

    last : In e (k ∷ new) → In e (indices (ws ++ task ∷ []) ++ new)
    last (inl z) = among (In-append-right e (indices ws) (k ∷ []) (inl z))
    last (inr m) = In-append-right e (indices (ws ++ task ∷ [])) new m

    start : In e (indices ws) ⊎ In e old → In e (indices (ws ++ task ∷ []) ++ new)
    start (inl m) = among (In-append-left e (indices ws) (k ∷ []) m)
    start (inr m) = last (off e m)

-- what comes to do is below the task
pub needed_only : (ts : List Tree) (b : Branch) (k : ℕ) (w : Work) (mid new : List ℕ) → IsWork ts b k w → ((q : ℕ) → In q new ↔ (In q (needed w) ⊎ In q mid)) → (q : ℕ) → In q new → In q mid ⊎ (q < k)
needed_only ts b k w mid new h f q m = go ((f q).0 m)
  where
    go : In q (needed w) ⊎ In q mid → In q mid ⊎ (q < k)
    go (inl z) = inr (needed_below ts b k w h q z)
    go (inr z) = inl z

-- putting the parts of a connective
pub one_put : {E : Type 0} (r : Result Unit E) (xs ys : List ℕ) (a : ℕ) → OnOk r ((q : ℕ) → In q ys ↔ ((q ≡ a) ⊎ In q xs)) → OnOk r ((q : ℕ) → In q ys ↔ (In q (a ∷ []) ⊎ In q xs))
one_put (Err z) xs ys a h = h
one_put (Ok u) xs ys a h = λ q. ((λ m. to q ((h q).0 m)), λ m. (h q).1 (back q m))
  where
    to : (q : ℕ) → (q ≡ a) ⊎ In q xs → In q (a ∷ []) ⊎ In q xs
    to q (inl e) = inl (inl e)
    to q (inr m) = inr m

    back : (q : ℕ) → In q (a ∷ []) ⊎ In q xs → (q ≡ a) ⊎ In q xs
    back q (inl (inl e)) = inl e
    back q (inl (inr m)) = absurd m
    back q (inr m) = inr m

pub two_put : {E : Type 0} (r : Result Unit E) (xs ys zs : List ℕ) (a b : ℕ) → ((q : ℕ) → In q ys ↔ ((q ≡ b) ⊎ In q xs)) → OnOk r ((q : ℕ) → In q zs ↔ ((q ≡ a) ⊎ In q ys)) → OnOk r ((q : ℕ) → In q zs ↔ (In q (a ∷ b ∷ []) ⊎ In q xs))
two_put (Err z) xs ys zs a b g h = h
two_put (Ok u) xs ys zs a b g h = λ q. ((λ m. to q ((h q).0 m)), λ m. (h q).1 (back q m))
  where
    second : (q : ℕ) → (q ≡ b) ⊎ In q xs → In q (a ∷ b ∷ []) ⊎ In q xs
    second q (inl e) = inl (inr (inl e))
    second q (inr m) = inr m

    to : (q : ℕ) → (q ≡ a) ⊎ In q ys → In q (a ∷ b ∷ []) ⊎ In q xs
    to q (inl e) = inl (inl e)
    to q (inr m) = second q ((g q).0 m)

    back : (q : ℕ) → In q (a ∷ b ∷ []) ⊎ In q xs → (q ≡ a) ⊎ In q ys
    back q (inl (inl e)) = inl e
    back q (inl (inr (inl e))) = inr ((g q).1 (inl e))
    back q (inl (inr (inr m))) = absurd m
    back q (inr m) = inr ((g q).1 (inr m))

pub on_link : {E : Type 0} (r : Result Unit E) (xs ys : List ℕ) (l m : Link) → l ≡ m → OnOk r ((q : ℕ) → In q ys ↔ (In q (link_parts m) ⊎ In q xs)) → OnOk r ((q : ℕ) → In q ys ↔ (In q (link_parts l) ⊎ In q xs))
on_link r xs ys l m e h = subst (λ k. OnOk r ((q : ℕ) → In q ys ↔ (In q (link_parts k) ⊎ In q xs))) (sym e) h

pub on_work : {E : Type 0} (r : Result Unit E) (xs ys : List ℕ) (w : Work) (l : Link) → w ≡ Linked l → OnOk r ((q : ℕ) → In q ys ↔ (In q (link_parts l) ⊎ In q xs)) → OnOk r ((q : ℕ) → In q ys ↔ (In q (needed w) ⊎ In q xs))
on_work r xs ys w l e h = subst (λ k. OnOk r ((q : ℕ) → In q ys ↔ (In q (needed k) ⊎ In q xs))) (sym e) h
