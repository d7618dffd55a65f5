-- Closings by numbers, entry by entry.
use Rattle.std.proofs.Common.{◌≡◌, ℕ, zero, suc, ◌+◌, ◌<◌, Option, Some, None, List, [], ◌∷◌, ◌++◌, length, take, drop, map, Vec, Global, refl, ap, sym, ◌∙◌, subst, add-one, append_assoc, arith}
use Rattle.std.specs.Prelude.{IfSome}
use Rattle.search_definition.specs.declared.rule.Clash.{Clash}
use Rattle.search_trace.specs.Traces.{AreUnder}
use Rattle.std.proofs.lemmas.List.{append-nil}
use Rattle.core_expr.specs.Tree.{Tree}
use Rattle.term_bank.specs.Banks.{Extends, tree_at}
use Rattle.search_definition.specs.Terms.{or_else}
use Rattle.search_definition.specs.Branches.{Closing, closing, closing_from, closes_with, formulas}
use Rattle.branch_book.specs.declared.item.Item.{Item}
use Rattle.branch_state.specs.Shown.{Placed, placed_at, item_of}
use Rattle.tableau_search.specs.declared.finder.Closing.{Closing as Shutting}
use Rattle.tableau_search.specs.Entries.{AreKnown, branch_of}
use Rattle.tableau_search.specs.Found.{IsClosing, closing_of}
use Rattle.tableau_search.proofs.LiftLaws.{branch_kept, known_at}
use Rattle.equation_ranks.specs.Partners.{HasClosing, number_at, formula_at, older, paired}

-- a formula more

no_parts : (o p : Option Closing) → or_else o p ≡ None → (o ≡ None) × (p ≡ None)
no_parts None p h = (refl, h)
no_parts (Some c) p h = cc

last_none : (o : Option Closing) → or_else o None ≡ o
last_none None = refl
last_none (Some c) = refl

added_from : (before fs : List Tree) (g : Tree) → closing_from before fs ≡ None → closing_from before (fs ++ g ∷ []) ≡ closes_with (before ++ fs) g
added_from before [] g h = last_none (closes_with before g) ∙ ap (λ xs. closes_with xs g) (sym (append-nil before))
added_from before (f ∷ fs) g h =
    let p = no_parts (closes_with before f) (closing_from (before ++ f ∷ []) fs) h in
    ap (λ o. or_else o (closing_from (before ++ f ∷ []) (fs ++ g ∷ []))) p.0
    ∙ added_from (before ++ f ∷ []) fs g p.1
    ∙ ap (λ xs. closes_with xs g) (append_assoc before (f ∷ []) fs)

stays_from : (before fs gs : List Tree) (c : Closing) → closing_from before fs ≡ Some c → closing_from before (fs ++ gs) ≡ Some c
stays_from before [] gs c h = cc
stays_from before (f ∷ fs) gs c h = go (closes_with before f) h (λ k. stays_from (before ++ f ∷ []) fs gs c k)
  where
    go : (o : Option Closing) → or_else o (closing_from (before ++ f ∷ []) fs) ≡ Some c → (closing_from (before ++ f ∷ []) fs ≡ Some c → closing_from (before ++ f ∷ []) (fs ++ gs) ≡ Some c) → or_else o (closing_from (before ++ f ∷ []) (fs ++ gs)) ≡ Some c
    go None k r = r k
    go (Some d) k r = k

-- an entry more

older_next : (ts : List Tree) (es : List Placed) (i : ℕ) → i < length es → older ts es (suc i) ≡ older ts es i ++ formula_at ts es i ∷ []
older_next ts [] i l = absurd (omega arith)
older_next ts (e ∷ es) zero l = refl
older_next ts (e ∷ es) (suc i) l = ap (λ fs. tree_at ts e.formula ∷ fs) (older_next ts es i (omega arith))

older_parts : (ts : List Tree) (es : List Placed) (i : ℕ) → formulas (branch_of ts es) ≡ older ts es i ++ formulas (branch_of ts (drop i es))
older_parts ts [] zero = refl
older_parts ts [] (suc i) = refl
older_parts ts (e ∷ es) zero = refl
older_parts ts (e ∷ es) (suc i) = ap (λ fs. tree_at ts e.formula ∷ fs) (older_parts ts es i)

known_take : (n : ℕ) (es : List Placed) (i : ℕ) → AreKnown n es → AreKnown n (take i es)
known_take n [] zero a = tt
known_take n [] (suc i) a = tt
known_take n (e ∷ es) zero a = tt
known_take n (e ∷ es) (suc i) a = (a.0, known_take n es i a.1)

-- the branch of the first entries still does not close, after trees came
pub open_kept : (ts us : List Tree) (es : List Placed) (i : ℕ) → Extends ts us → AreKnown (length ts) es → closing (branch_of ts (take i es)) ≡ None → closing (branch_of us (take i es)) ≡ None
open_kept ts us es i x a h = ap closing (branch_kept ts us (take i es) x (known_take (length ts) es i a)) ∙ h

-- the closing of the branch with the i-th entry is that of the entry with the older ones
entry_closing : (ts : List Tree) (es : List Placed) (i : ℕ) → i < length es → closing (branch_of ts (take i es)) ≡ None → closing (branch_of ts (take (suc i) es)) ≡ closes_with (older ts es i) (formula_at ts es i)
unfolding closing
entry_closing ts es i l h = ap (closing_from []) (older_next ts es i l) ∙ added_from [] (older ts es i) (formula_at ts es i) h

pub entry_open : (ts : List Tree) (es : List Placed) (i : ℕ) (o : Option Shutting) → i < length es → closing (branch_of ts (take i es)) ≡ None → HasClosing ts (closes_with (older ts es i) (formula_at ts es i)) o → o ≡ None → closing (branch_of ts (take (i + 1) es)) ≡ None
entry_open ts es i o l h e q = ap (λ k. closing (branch_of ts (take k es))) (add-one i) ∙ entry_closing ts es i l h ∙ subst (HasClosing ts (closes_with (older ts es i) (formula_at ts es i))) q e

whole : (ts : List Tree) (es : List Placed) (i : ℕ) (c : Closing) → closing (branch_of ts (take i es)) ≡ Some c → closing (branch_of ts es) ≡ Some c
unfolding closing
whole ts es i c h = ap (closing_from []) (older_parts ts es i) ∙ stays_from [] (older ts es i) (formulas (branch_of ts (drop i es))) c h

pub entry_closes : (ts : List Tree) (es : List Placed) (i : ℕ) (s : Shutting) (o : Option Shutting) → i < length es → closing (branch_of ts (take i es)) ≡ None → HasClosing ts (closes_with (older ts es i) (formula_at ts es i)) o → o ≡ Some s → IsClosing ts es (Some s)
entry_closes ts es i s o l h e q = let d = subst (HasClosing ts (closes_with (older ts es i) (formula_at ts es i))) q e in (whole ts es (suc i) (closing_of ts s) (entry_closing ts es i l h ∙ d.0), d.1)

pub none_open : (ts : List Tree) (es : List Placed) → closing (branch_of ts (take 0 es)) ≡ None
unfolding closing
none_open ts [] = refl
none_open ts (e ∷ es) = refl

-- closings with a partner

pub some_of : (P : ℕ → Type 0) (o : Option ℕ) (x : ℕ) → IfSome o P → o ≡ Some x → P x
some_of P o x h e = subst (λ v. IfSome v P) e h

pub paired_has : (ts : List Tree) (es : List Placed) (c : Clash) (f j n : ℕ) (o : Option ℕ) (v : Vec ℕ Global) → f < length ts → AreKnown (length ts) es → j < length es → o ≡ Some j → n ≡ number_at es j → v.items ≡ f ∷ n ∷ [] → HasClosing ts (paired c ts es f o) (Some (record { clash = c; entries = v }))
paired_has ts es c f j n o v l a m e p q =
    let r : v.items ≡ f ∷ number_at es j ∷ [] = q ∙ ap (λ k. f ∷ k ∷ []) p in
    (ap (paired c ts es f) e ∙ (λ i. Some (record { clash = c; entries = ap (map (tree_at ts)) (sym r) i })), subst (AreUnder (length ts)) (sym r) (l, (known_at (length ts) es j a m, tt)))

pub entry_below : (n : ℕ) (es : List Placed) (i : ℕ) (x : Item) → AreKnown n es → i < length es → x ≡ item_of (placed_at es i) → x.formula < n
entry_below n es i x a l e = subst (λ f. f < n) (sym (ap (λ (y : Item). y.formula) e)) (known_at n es i a l)
