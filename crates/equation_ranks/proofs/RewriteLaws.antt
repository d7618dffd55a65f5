-- Closed subterms, and their equations by numbers.
use Rattle.std.proofs.Common.{◌≡◌, ℕ, zero, suc, ◌+◌, ◌<◌, ◌≤◌, Bool, true, false, Option, Some, None, List, [], ◌∷◌, ◌++◌, length, get_or, drop, refl, ap, sym, ◌∙◌, subst, arith, ◌⊎◌, inl, inr}
use Rattle.std.proofs.lemmas.List.{drop_more, append-nil}
use Rattle.core_expr.specs.Tree.{Tree, Parts, true_, dom_, fun_, except_, apply_, tuple_, num_}
use Rattle.core_expr.specs.Tree.Tree.{bound, app, node, bind}
use Rattle.core_expr.specs.Tree.Parts.{end, part}
use Rattle.core_expr.specs.Put.{IsScoped}
use Rattle.core_expr.specs.Terms.{is_scoped}
use Rattle.core_expr.specs.Equal.{scoped-true}
use Rattle.core_expr.specs.Nodes.{AreBelow, picked}
use Rattle.seq_calculus.specs.Schemas.{nth}
use Rattle.seq_calculus.specs.Calculus.{AllClosed}
use Rattle.term_bank.specs.Banks.{Extends, tree_at}
use Rattle.term_order.specs.Firsts.{firsts, firsts_after}
use Rattle.term_order.proofs.FirstLaws.{first_some-firsts}
use Rattle.search_definition.specs.Terms.{if_so, or_else, after, replace, first_some, first_at, in_list, list_of, where_closed, subterms_before, parts_before, closed_subterms}
use Rattle.search_definition.specs.Plain.{Rewrite, nth_rewrite, rewrite_of, rewritten, rewrite}
use Rattle.search_definition.specs.declared.rule.Rule.TheVariants.{Rewritten}
use Rattle.search_definition.specs.Rules.{Step, Result, at_entry, at_live, oldest}
use Rattle.search_definition.specs.Rules.Sides.{Alone as One}
use Rattle.search_definition.specs.Watches.{NoneBefore}
use Rattle.branch_book.specs.declared.item.Item.{Item}
use Rattle.branch_state.specs.Shown.{Placed, placed_at, item_of}
use Rattle.tableau_search.specs.declared.finder.Found.{Found}
use Rattle.tableau_search.specs.declared.finder.Found.TheVariants.{Alone, Splits}
use Rattle.tableau_search.specs.Entries.{AreKnown, branch_of}
use Rattle.tableau_search.specs.Found.{IsFound, IsAnswer}
use Rattle.tableau_search.proofs.LiftLaws.{tree_kept, extends_length, known_at}
use Rattle.equation_ranks.specs.Partners.{number_at, formula_at}
use Rattle.equation_ranks.proofs.ReplaceLaws.{oldest_here, below}
use Rattle.formula_rules.specs.declared.rewriting.Equation.{Equation}
use Rattle.formula_rules.specs.Answers.{HasEquation}
use Rattle.equation_ranks.specs.Rewriting.{IsRewrite, HasRewrite, rewritten_result, place_of}

-- the closed subterms are closed

where_all : (e : Tree) (rest : List Tree) → AllClosed rest → AllClosed (where_closed e rest)
where_all e rest a = go (is_scoped 0 e) refl
  where
    go : (b : Bool) → is_scoped 0 e ≡ b → AllClosed (if_so b (e ∷ rest) rest)
    go true q = (scoped-true 0 e q, a)
    go false q = a

mutual
  before_all : (e : Tree) (rest : List Tree) → AllClosed rest → AllClosed (subterms_before e rest)
  before_all (bound i) rest a = a
  before_all (app f ps) rest a = where_all (app f ps) (parts_before ps rest) (parts_all ps rest a)
  before_all (node h ns ps) rest a = where_all (node h ns ps) (parts_before ps rest) (parts_all ps rest a)
  before_all (bind b ps e) rest a = where_all (bind b ps e) (parts_before ps (subterms_before e rest)) (parts_all ps (subterms_before e rest) (before_all e rest a))

  parts_all : (ps : Parts) (rest : List Tree) → AllClosed rest → AllClosed (parts_before ps rest)
  parts_all end rest a = a
  parts_all (part e ps) rest a = before_all e (parts_before ps rest) (parts_all ps rest a)

firsts_all : (seen xs : List Tree) → AllClosed xs → AllClosed (firsts_after seen xs)
firsts_all seen [] a = tt
firsts_all seen (x ∷ xs) a = go (in_list seen x) (firsts_all seen xs a.1) (firsts_all (seen ++ x ∷ []) xs a.1)
  where
    go : (b : Bool) → AllClosed (firsts_after seen xs) → AllClosed (firsts_after (seen ++ x ∷ []) xs) → AllClosed (if_so b (firsts_after seen xs) (x ∷ firsts_after (seen ++ x ∷ []) xs))
    go true p q = p
    go false p q = (a.0, q)

pub subterms_closed : (ts : List Tree) (is : List ℕ) (e : Tree) → picked ts is ≡ firsts (closed_subterms e) → AllClosed (picked ts is)
subterms_closed ts is e q = subst AllClosed (sym q) (firsts_all [] (closed_subterms e) (before_all e [] tt))

pub at_subterms : (ts : List Tree) (is : List ℕ) (e : Tree) → picked ts is ≡ firsts (closed_subterms e) → first_some rewrite_of (picked ts is) ≡ first_at rewrite_of e
at_subterms ts is e q = ap (first_some rewrite_of) q ∙ first_some-firsts rewrite_of (closed_subterms e)

-- a rewriting is of the term itself
nth_from : (ps : Parts) (i : ℕ) (o : Option Tree) (w : Rewrite) → nth_rewrite ps i o ≡ Some w → w.from ≡ apply_ (tuple_ ps) (num_ 0 i)
nth_from ps i None w h = cc
nth_from ps i (Some a) w h = sym (ap (from_of) h)
  where
    from_of : Option Rewrite → Tree
    from_of None = true_
    from_of (Some w) = w.from

rewrite_from : (t : Tree) (w : Rewrite) → rewrite_of t ≡ Some w → w.from ≡ t
rewrite_from (dom_ (fun_ s e)) w h = cc
rewrite_from (except_ f a b) w h = cc
rewrite_from (apply_ (tuple_ ps) (num_ zero (suc i))) w h = nth_from ps (suc i) (nth (list_of ps) i) w h
rewrite_from _ w h = cc

pub equation_rewrite : (ts : List Tree) (t : Tree) (o : Option Equation) → HasEquation ts o (rewrite_of t) → IsScoped 0 t → HasRewrite ts (rewrite_of t) o
equation_rewrite ts t o h c = go o (rewrite_of t) refl h
  where
    go : (o : Option Equation) (r : Option Rewrite) → rewrite_of t ≡ r → HasEquation ts o r → HasRewrite ts (rewrite_of t) o
    go None None q h = q
    go None (Some w) q h = elim h [ ]
    go (Some e) None q h = elim h [ ]
    go (Some e) (Some w) q h = record { rewriting = w; is = q; equation = h; closed = subst (IsScoped 0) (sym (h.from.tree ∙ rewrite_from t w q)) c }

-- the first of some terms that has an equation

pub term_below : (ts us : List Tree) (is : List ℕ) (k d : ℕ) → Extends ts us → AreBelow (length ts) is → k < length is → get_or is k d < length us
term_below ts us is k d g b l = let m = go is k b l in omega (arith, m, extends_length ts us g)
  where
    go : (is : List ℕ) (k : ℕ) → AreBelow (length ts) is → k < length is → get_or is k d < length ts
    go [] k b l = absurd (omega arith)
    go (i ∷ is) zero b l = b.0
    go (i ∷ is) (suc k) b l = go is k b.1 (omega arith)

pub term_kept : (ts us : List Tree) (is : List ℕ) (k d : ℕ) → Extends ts us → AreBelow (length ts) is → k < length is → tree_at us (get_or is k d) ≡ tree_at ts (get_or is k d)
term_kept ts us is k d g b l = tree_kept ts us (get_or is k d) g (term_below ts ts is k d ([], sym (append-nil ts)) b l)

pub term_closed : (ts us : List Tree) (is : List ℕ) (k d : ℕ) → Extends ts us → AreBelow (length ts) is → AllClosed (picked ts is) → k < length is → IsScoped 0 (tree_at us (get_or is k d))
term_closed ts us is k d g b c l = subst (IsScoped 0) (sym (term_kept ts us is k d g b l)) (go is k c l)
  where
    go : (is : List ℕ) (k : ℕ) → AllClosed (picked ts is) → k < length is → IsScoped 0 (tree_at ts (get_or is k d))
    go [] k c l = absurd (omega arith)
    go (i ∷ is) zero c l = c.0
    go (i ∷ is) (suc k) c l = go is k c.1 (omega arith)

term_next : (ts us : List Tree) (is : List ℕ) (k d : ℕ) → Extends ts us → AreBelow (length ts) is → k < length is → first_some rewrite_of (picked ts is) ≡ first_some rewrite_of (picked ts (drop k is))
    → first_some rewrite_of (picked ts is) ≡ or_else (rewrite_of (tree_at us (get_or is k d))) (first_some rewrite_of (picked ts (drop (k + 1) is)))
term_next ts us is k d g b l h =
    h
    ∙ ap (λ js. first_some rewrite_of (picked ts js)) (drop_more is k d l)
    ∙ ap (λ t. or_else (rewrite_of t) (first_some rewrite_of (picked ts (drop (k + 1) is)))) (sym (term_kept ts us is k d g b l))

pub term_found : (ts us vs : List Tree) (is : List ℕ) (k d : ℕ) (o : Option Equation) (e : Equation) → Extends ts us → AreBelow (length ts) is → AllClosed (picked ts is) → k < length is
    → first_some rewrite_of (picked ts is) ≡ first_some rewrite_of (picked ts (drop k is)) → HasEquation vs o (rewrite_of (tree_at us (get_or is k d))) → o ≡ Some e → IsRewrite vs e (first_some rewrite_of (picked ts is))
term_found ts us vs is k d o e g b c l h w q =
    let t = tree_at us (get_or is k d) in
    let r = subst (HasRewrite vs (rewrite_of t)) q (equation_rewrite vs t o w (term_closed ts us is k d g b c l)) in
    record { rewriting = r.rewriting; is = term_next ts us is k d g b l h ∙ ap (λ o. or_else o (first_some rewrite_of (picked ts (drop (k + 1) is)))) r.is; equation = r.equation; closed = r.closed }

-- what the rank gives for a formula

pub rewrite_result : (ts us : List Tree) (i f : ℕ) (is : List ℕ) (p : Option Equation) (e : Equation) → Extends ts us → f < length ts → picked ts is ≡ firsts (closed_subterms (tree_at ts f)) → HasRewrite us (first_some rewrite_of (picked ts is)) p → p ≡ Some e
    → at_entry i (rewrite (tree_at ts f)) ≡ Some (rewritten_result us i f e)
rewrite_result ts us i f is p e g l q h n =
    let r : IsRewrite us e (first_some rewrite_of (picked ts is)) = subst (HasRewrite us (first_some rewrite_of (picked ts is))) n h in
    let a = sym (at_subterms ts is (tree_at ts f) q) ∙ r.is in
    let k = sym (tree_kept ts us f g l) in
    let s = sym r.equation.schema in
    let x = sym r.equation.from.tree in
    let y = sym r.equation.to.tree in
    ap (λ o. at_entry i (after (rewritten (tree_at ts f)) o)) a
    ∙ (λ j. Some (record { entry = i; step = record { rule = Rewritten (s j); named = k j ∷ []; terms = x j ∷ y j ∷ []; sides = One (replace (x j) (y j) (k j) ∷ []) } }))

pub rewrite_none : (ts us : List Tree) (i f : ℕ) (is : List ℕ) (p : Option Equation) → picked ts is ≡ firsts (closed_subterms (tree_at ts f)) → HasRewrite us (first_some rewrite_of (picked ts is)) p → p ≡ None → at_entry i (rewrite (tree_at ts f)) ≡ None
rewrite_none ts us i f is p q h n = ap (λ o. at_entry i (after (rewritten (tree_at ts f)) o)) (sym (at_subterms ts is (tree_at ts f) q) ∙ subst (HasRewrite us (first_some rewrite_of (picked ts is))) n h)

-- the rank at an entry

pub entry_rewrite : (ts us : List Tree) (es : List Placed) (i : ℕ) (x : Item) → Extends ts us → AreKnown (length ts) es → i < length es → x ≡ item_of (placed_at es i) → x.live ≡ true → at_live rewrite (placed_at es i).live (formula_at us es i) ≡ rewrite (tree_at ts x.formula)
entry_rewrite ts us es i x g a l e v =
    ap (λ b. at_live rewrite b (formula_at us es i)) (sym (ap (λ (y : Item). y.live) e) ∙ v)
    ∙ ap rewrite (tree_kept ts us (number_at es i) g (known_at (length ts) es i a l))
    ∙ ap (λ (y : Item). rewrite (tree_at ts y.formula)) (sym e)

-- the oldest entry

found_as : (ts : List Tree) (es : List Placed) (o p : Option Result) (f : Found) → ((x : Result) → o ≡ Some x → p ≡ Some x) → IsFound ts es o f → IsFound ts es p f
found_as ts es o p (Alone u ns) h k = (h _ k.0, k.1, k.2)
found_as ts es o p (Splits u ns ms) h k = (h _ k.0, k.1, k.2, k.3)

result_here : (ts : List Tree) (es : List Placed) (rule : Tree → Option Step) (k : ℕ) (x : Result) → NoneBefore rule k (branch_of ts es) → k < length es → at_entry k (at_live rule (placed_at es k).live (formula_at ts es k)) ≡ Some x → oldest rule 0 (branch_of ts es) ≡ Some x
result_here ts es rule k x n l e = go (placed_at es k).live refl (rule (formula_at ts es k)) refl e
  where
    go : (b : Bool) → (placed_at es k).live ≡ b → (o : Option Step) → rule (formula_at ts es k) ≡ o → at_entry k (at_live rule b (formula_at ts es k)) ≡ Some x → oldest rule 0 (branch_of ts es) ≡ Some x
    go false v o q e = cc
    go true v None q e = absurd (no (sym (ap (at_entry k) q) ∙ e))
      where
        no : None ≡ Some x → ⊥
        no e = cc
    go true v (Some s) q e = oldest_here ts es rule k s n l v q ∙ sym (ap (at_entry k) q) ∙ e

pub entry_found : (ts : List Tree) (es : List Placed) (rule : Tree → Option Step) (k : ℕ) (o : Option Found) (f : Found) → NoneBefore rule k (branch_of ts es) → k < length es
    → IsAnswer ts es (at_entry k (at_live rule (placed_at es k).live (formula_at ts es k))) o → o ≡ Some f → IsAnswer ts es (oldest rule 0 (branch_of ts es)) (Some f)
entry_found ts es rule k o f n l h e =
    let r = at_entry k (at_live rule (placed_at es k).live (formula_at ts es k)) in
    found_as ts es r (oldest rule 0 (branch_of ts es)) f (λ x q. result_here ts es rule k x n l q) (subst (IsAnswer ts es r) e h)

-- what was found is at the entry
entry_is : (k : ℕ) (o : Option Step) (x : Result) → at_entry k o ≡ Some x → x.entry ≡ k
entry_is k None x e = cc
entry_is k (Some s) x e = sym (ap place e)
  where
    place : Option Result → ℕ
    place None = 0
    place (Some x) = x.entry

found_place : (ts : List Tree) (es : List Placed) (k n : ℕ) (o : Option Step) (f : Found) → IsFound ts es (at_entry k o) f → place_of (Some f) n ≡ k
found_place ts es k n o (Alone u ns) h = entry_is k o _ h.0
found_place ts es k n o (Splits u ns ms) h = entry_is k o _ h.0

pub position_here : (ts : List Tree) (es : List Placed) (rule : Tree → Option Step) (k n : ℕ) (o : Option Step) (a : Option Found) (f : Found) → NoneBefore rule k (branch_of ts es) → IsAnswer ts es (at_entry k o) a → a ≡ Some f → NoneBefore rule (place_of (Some f) n) (branch_of ts es)
position_here ts es rule k n o a f b h e = subst (λ j. NoneBefore rule j (branch_of ts es)) (sym (found_place ts es k n o f (subst (IsAnswer ts es (at_entry k o)) e h))) b

pub position_end : (ts : List Tree) (es : List Placed) (rule : Tree → Option Step) (k : ℕ) → NoneBefore rule k (branch_of ts es) → length es ≤ k → NoneBefore rule (length es) (branch_of ts es)
position_end ts es rule k b l = λ i m n v. b i (omega (arith, l, m)) n v

no_result : (k : ℕ) (o : Option Step) → at_entry k o ≡ None → o ≡ None
no_result k None e = refl
no_result k (Some s) e = cc

pub none_after : (ts : List Tree) (es : List Placed) (rule : Tree → Option Step) (k j : ℕ) (o : Option Found) → j ≡ suc k → ((i : ℕ) → i < k → i < length es → (placed_at es i).live ≡ true → rule (formula_at ts es i) ≡ None)
    → IsAnswer ts es (at_entry k (at_live rule (placed_at es k).live (formula_at ts es k))) o → o ≡ None → (i : ℕ) → i < j → i < length es → (placed_at es i).live ≡ true → rule (formula_at ts es i) ≡ None
none_after ts es rule k j o q n h e i l m v = go (below i k (subst (λ x. i < x) q l))
  where
    go : (i < k) ⊎ (i ≡ k) → rule (formula_at ts es i) ≡ None
    go (inl a) = n i a m v
    go (inr a) =
        let r = at_entry k (at_live rule (placed_at es k).live (formula_at ts es k)) in
        let z : at_live rule (placed_at es k).live (formula_at ts es k) ≡ None = no_result k _ (subst (IsAnswer ts es r) e h) in
        ap (λ x. rule (formula_at ts es x)) a ∙ ap (λ b. at_live rule b (formula_at ts es k)) (sym (ap (λ x. (placed_at es x).live) (sym a) ∙ v)) ∙ z
