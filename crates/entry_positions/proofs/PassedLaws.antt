-- Positions that a rule has passed.
use Rattle.std.proofs.Common.{◌≡◌, ℕ, zero, suc, ◌<◌, ◌≤◌, inl, inr, Bool, true, false, List, [], ◌∷◌, ◌++◌, length, refl, ap, sym, subst, ◌∙◌, arith}
use Rattle.std.specs.Prelude.{None}
use Rattle.std.proofs.lemmas.Bool.{cases_lt, false≢true}
use Rattle.std.proofs.lemmas.List.{length_push}
use Rattle.term_bank.specs.Banks.{tree_at}
use Rattle.search_definition.specs.Branches.{Entry, add, used}
use Rattle.search_definition.specs.Watches.{entry_at, NoneBefore}
use Rattle.search_definition.proofs.Positions.{oldest_found, oldest_none, position_kept}
use Rattle.branch_state.specs.declared.parts.New.{New}
use Rattle.branch_state.specs.Shown.{Placed, placed_at, fresh, with_new, stands, dead, raised, used_at}
use Rattle.tableau_search.specs.Entries.{entry_of, branch_of, new_tree}
use Rattle.tableau_search.proofs.LiftLaws.{branch_length, branch_at, branch_kept, lift_new, lift_used, used_length}
use Rattle.entry_positions.specs.Laws.{PassedAdded, PassedUsed, PassedKept, PassedNext, PassedFound, PassedNone}

new_length : (ks : List ℕ) (es : List Placed) (n : New) → length es ≤ length (with_new ks es n)
new_length ks es n = go (stands es n.formula)
  where
    go : (b : Bool) → length es ≤ length {A = Placed} (elim b [ true ↦ es | false ↦ es ++ fresh ks n ∷ [] ])
    go true = omega arith
    go false = omega (arith, length_push es (fresh ks n))

pub passed_added : PassedAdded
passed_added rule ts es ks n p shrinks d a l h =
    let b = branch_of ts es in
    let e : add b (new_tree ts n) ≡ branch_of ts (with_new ks es n) = lift_new ts d ks es n a l in
    let m : p ≤ length b = omega (arith, h.within, branch_length ts es) in
    record {
      within = omega (arith, h.within, new_length ks es n);
      none = subst (λ c. NoneBefore (rule c) p c) e (position_kept rule p b (new_tree ts n) m (shrinks b (new_tree ts n)) h.none);
    }

-- entries after a use

formula_dead : (es : List Placed) (i j : ℕ) → (placed_at (dead es i) j).formula ≡ (placed_at es j).formula
formula_dead [] i j = refl
formula_dead (e ∷ es) zero zero = refl
formula_dead (e ∷ es) zero (suc j) = refl
formula_dead (e ∷ es) (suc i) zero = refl
formula_dead (e ∷ es) (suc i) (suc j) = formula_dead es i j

formula_raised : (es : List Placed) (i j : ℕ) → (placed_at (raised es i) j).formula ≡ (placed_at es j).formula
formula_raised [] i j = refl
formula_raised (e ∷ es) zero zero = refl
formula_raised (e ∷ es) zero (suc j) = refl
formula_raised (e ∷ es) (suc i) zero = refl
formula_raised (e ∷ es) (suc i) (suc j) = formula_raised es i j

formula_used : (stays rises : Bool) (es : List Placed) (i j : ℕ) → (placed_at (used_at stays rises es i) j).formula ≡ (placed_at es j).formula
formula_used true true es i j = formula_raised es i j
formula_used true false es i j = refl
formula_used false true es i j = formula_raised (dead es i) i j ∙ formula_dead es i j
formula_used false false es i j = formula_dead es i j

live_dead : (es : List Placed) (i j : ℕ) → (placed_at (dead es i) j).live ≡ true → (placed_at es j).live ≡ true
live_dead [] i j h = h
live_dead (e ∷ es) zero zero h = absurd (false≢true h)
live_dead (e ∷ es) zero (suc j) h = h
live_dead (e ∷ es) (suc i) zero h = h
live_dead (e ∷ es) (suc i) (suc j) h = live_dead es i j h

live_raised : (es : List Placed) (i j : ℕ) → (placed_at (raised es i) j).live ≡ true → (placed_at es j).live ≡ true
live_raised [] i j h = h
live_raised (e ∷ es) zero zero h = h
live_raised (e ∷ es) zero (suc j) h = h
live_raised (e ∷ es) (suc i) zero h = h
live_raised (e ∷ es) (suc i) (suc j) h = live_raised es i j h

live_used : (stays rises : Bool) (es : List Placed) (i j : ℕ) → (placed_at (used_at stays rises es i) j).live ≡ true → (placed_at es j).live ≡ true
live_used true true es i j h = live_raised es i j h
live_used true false es i j h = h
live_used false true es i j h = live_dead es i j (live_raised (dead es i) i j h)
live_used false false es i j h = live_dead es i j h

pub passed_used : PassedUsed
passed_used rule ts es stays rises i p steady v h =
    let n : length (used_at stays rises es i) ≡ length es = used_length stays rises es i in
    let e : used stays rises (branch_of ts es) i ≡ branch_of ts (used_at stays rises es i) = lift_used ts stays rises es i v in
    record {
      within = omega (arith, h.within, n);
      none =
          λ j k l w.
          let x : j < length es = omega (arith, l, branch_length ts (used_at stays rises es i), n) in
          let y : j < length (used_at stays rises es i) = omega (arith, x, n) in
          let f = ap (λ (c : Entry). c.formula) (branch_at ts (used_at stays rises es i) j y) ∙ ap (tree_at ts) (formula_used stays rises es i j) ∙ sym (ap (λ (c : Entry). c.formula) (branch_at ts es j x)) in
          let u = live_used stays rises es i j (sym (ap (λ (c : Entry). c.live) (branch_at ts (used_at stays rises es i) j y)) ∙ w) in
          let z = h.none j k (omega (arith, x, branch_length ts es)) (ap (λ (c : Entry). c.live) (branch_at ts es j x) ∙ u) in
          ap (λ c. rule c (entry_at (branch_of ts (used_at stays rises es i)) j).formula) (sym e)
          ∙ steady stays rises (branch_of ts es) i (entry_at (branch_of ts (used_at stays rises es i)) j).formula
          ∙ ap (rule (branch_of ts es)) f
          ∙ z;
    }

pub passed_kept : PassedKept
passed_kept rule ts us es p g a h = record { within = h.within; none = subst (λ c. NoneBefore (rule c) p c) (sym (branch_kept ts us es g a)) h.none }

pub passed_next : PassedNext
passed_next rule ts es p h l e =
    let b = branch_of ts es in
    let q : entry_at b p ≡ entry_of ts (placed_at es p) = branch_at ts es p l in
    record {
      within = omega (arith, l);
      none =
          λ j k m w.
          elim (cases_lt j p) [
            | inl x ↦ h.none j x m w
            | inr x ↦
                let i : p ≡ j = omega (arith, x, k) in
                subst (λ n. (entry_at b n).live ≡ true → rule b (entry_at b n).formula ≡ None) i (λ y. ap (λ (c : Entry). rule b c.formula) q ∙ e (sym (ap (λ (c : Entry). c.live) q) ∙ y)) w
          ];
    }

pub passed_found : PassedFound
passed_found rule ts es p s h l v e =
    let b = branch_of ts es in
    let q : entry_at b p ≡ entry_of ts (placed_at es p) = branch_at ts es p l in
    oldest_found (rule b) p b s h.none (omega (arith, l, branch_length ts es)) (ap (λ (c : Entry). c.live) q ∙ v) (ap (λ (c : Entry). rule b c.formula) q ∙ e)

pub passed_none : PassedNone
passed_none rule ts es p h l = oldest_none (rule (branch_of ts es)) p (branch_of ts es) h.none (omega (arith, l, branch_length ts es))
