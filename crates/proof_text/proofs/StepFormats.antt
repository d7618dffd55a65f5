-- The readers of steps read what is written.
use Rattle.std.proofs.Common.{◌≡◌, ℕ, suc, ◌+◌, ◌<◌, ◌≤◌, Bool, true, false, cond, nat_eq, nat_lt, nat_le, ◌&&◌, List, [], ◌∷◌, ◌++◌, length, get_or, take, refl, ap, sym, ◌∙◌, subst, arith, eq-eqb}
use Rattle.std.specs.List.{flat_map}
use Rattle.std.proofs.lemmas.Bool.Decides.{nat_tests}
use Rattle.std.proofs.lemmas.Bool.{and_parts, and_from, eqb-true}
use Rattle.core_expr.specs.Nodes.{AreBelow}
use Rattle.seq_calculus.specs.declared.lists.ProofStep.{ProofStep}
use Rattle.seq_calculus.specs.Lists.{step_fits, expression_counts, premise_counts, written_operands, written_step}
use Rattle.proof_text.specs.declared.parts.Operands.{Operands}
use Rattle.proof_text.specs.Shapes.{fixed, step_shape, premise_count}
use Rattle.proof_text.specs.Shapes.{counted as counted_shape}
use Rattle.proof_text.specs.Reading.{number, AllFrom, AreFrom}
use Rattle.proof_text.specs.Readers.{is_free, free_count, without, premises, has_room, last_of, operands_by, step_operands, rule_test, with_premises, same_step, step_behind, step}
use Rattle.proof_text.proofs.FreeLaws.{count-without}
use Rattle.proof_text.proofs.Good.{Good, one, good-number, good-pair, good-many, good-as}
use Rattle.proof_text.proofs.Formats.{AreOperands, AreWeak, parts_text, weak_text, good-operands, good-weak, flat-one}
use Rattle.proof_text.proofs.ShapeLaws.{Fits, fixed-fits, counted-fits}
use Rattle.proof_text.proofs.NodeFormats.{has-room}

-- ---- premises

abbrev IsFree : List Bool → ℕ → Type 0
IsFree free x = is_free free x ≡ true

-- these are free, each once
pub record AreFree (c : ℕ) (free : List Bool) (ps : List ℕ) : Type 0 where
  pub count : length ps ≡ c
  pub all : AllFrom (λ free x. is_free free x ≡ true) without free ps

first-free : (free : List Bool) → 0 < free_count free → (x : ℕ) × (is_free free x ≡ true)
first-free [] h = absurd (omega arith)
first-free (true ∷ free) h = (0, refl)
first-free (false ∷ free) h = let f = first-free free h in (suc f.0, f.1)

pub enough-free : (free : List Bool) (ps : List ℕ) → AllFrom IsFree without free ps → length ps ≤ free_count free
enough-free free [] h = omega arith
enough-free free (p ∷ ps) h = omega (arith, count-without free p h.0, enough-free (without free p) ps h.1)

abbrev same : List ℕ → List ℕ
same ps = ps

good-premises : (c : ℕ) (free : List Bool) → c ≤ free_count free → Good (List ℕ) (AreFree c free) same (premises c free)
unfolding premises
good-premises c free h =
    good-as (List ℕ) (AreFrom (List Bool) ℕ IsFree without c free) (AreFree c free) (flat_map one) same (premises c free)
    (good-many (List Bool) ℕ IsFree one (λ free. number (is_free free)) without (λ c free. c ≤ free_count free) (λ c s r. (let f = first-free s (omega (arith, r)) in good-number (is_free s) f.0 f.1)) (λ c s a r v. omega (arith, r, count-without s a v)) c free h)
    (λ ps f. (record { count = f.count; all = f.all }, sym (flat-one ps)))
    (λ ps f. (record { count = f.count; all = f.all }, sym (flat-one ps)))

-- ---- operands

abbrev OperandsBy : Bool → ℕ → ℕ → Operands → Type 0
OperandsBy true r n o = AreWeak n o
OperandsBy false r n o = AreOperands (step_shape r) n o

abbrev text_by : Bool → Operands → List ℕ
text_by b o = cond b (weak_text o) (parts_text o)

good-by : (b : Bool) (r n : ℕ) → has_room (step_shape r).tail n ≡ true → Good Operands (OperandsBy b r n) (text_by b) (operands_by b r n)
good-by true r n h = good-weak n
good-by false r n h = good-operands (step_shape r) n h

-- ---- steps

-- a step behind a table of n nodes, with these steps free
pub record IsStepAt (n : ℕ) (free : List Bool) (s : ProofStep) : Type 0 where
  pub form : step_fits s ≡ true
  pub exprs : AreBelow n s.exprs
  pub premises : AllFrom (λ free x. is_free free x ≡ true) without free s.premises

abbrev operands_of : ProofStep → Operands
operands_of s = record { numbers = s.numbers; indices = s.exprs }

-- what follows the rule
pub record IsBehind (n : ℕ) (free : List Bool) (r : ℕ) (s : ProofStep) : Type 0 where
  pub rule : s.rule ≡ r
  pub operands : OperandsBy (nat_eq r 3) r n (operands_of s)
  pub premises : AreFree (premise_count r) free s.premises

abbrev behind_text : ProofStep → List ℕ
behind_text s = written_operands s ++ s.premises

rule_parts : (n : ℕ) (free : List Bool) (r : ℕ) → rule_test n free r ≡ true → (nat_lt r 22 ≡ true) × (has_room (step_shape r).tail n ≡ true) × (premise_count r ≤ free_count free)
unfolding rule_test
rule_parts n free r h =
    let p = and_parts (nat_lt r 22) (has_room (step_shape r).tail n && nat_le (premise_count r) (free_count free)) h in
    let q = and_parts (has_room (step_shape r).tail n) (nat_le (premise_count r) (free_count free)) p.1 in
    (p.0, q.0, at_most (premise_count r) (free_count free) q.1)
  where
    at_most : (a b : ℕ) → nat_le a b ≡ true → a ≤ b
    at_most a b h = grind (arith, nat_tests)

rule_from : (n : ℕ) (free : List Bool) (r : ℕ) → nat_lt r 22 ≡ true → has_room (step_shape r).tail n ≡ true → premise_count r ≤ free_count free → rule_test n free r ≡ true
unfolding rule_test
rule_from n free r a b c = and_from _ _ a (and_from _ _ b (at_most (premise_count r) (free_count free) c))
  where
    at_most : (a b : ℕ) → a ≤ b → nat_le a b ≡ true
    at_most a b h = grind (arith, nat_tests)

good-behind : (n : ℕ) (free : List Bool) (r : ℕ) → rule_test n free r ≡ true → Good ProofStep (IsBehind n free r) behind_text (step_behind n free r)
unfolding step_behind
good-behind n free r h =
    let p = rule_parts n free r h in
    good-pair Operands (List ℕ) ProofStep (with_premises r) operands_of (λ s. s.premises) (OperandsBy (nat_eq r 3) r n) (λ _. AreFree (premise_count r) free) (IsBehind n free r) (text_by (nat_eq r 3)) (λ _. same) behind_text (step_operands r n) (λ _. premises (premise_count r) free) (good-by (nat_eq r 3) r n p.1) (λ _ _. good-premises (premise_count r) free p.2)
    (λ o ps v w. (record { rule = refl; operands = v; premises = w }, refl))
    (λ s f. (f.operands, f.premises, (λ i. record { rule = sym f.rule i; numbers = s.numbers; exprs = s.exprs; premises = s.premises }), ap (λ k. text_by (nat_eq k 3) (operands_of s) ++ s.premises) f.rule))

-- the numbers and expressions that the table of rules allows are those of the rule's shape
abbrev operands_fit : ProofStep → Bool
operands_fit s =
    cond (nat_eq s.rule 3) (nat_eq (length s.numbers) 2 && nat_eq (length s.exprs) (get_or s.numbers 0 0 + get_or s.numbers 1 0))
    (cond (nat_eq s.rule 21) (nat_eq (length s.numbers) 3 && nat_eq (length s.exprs) (get_or s.numbers 2 0))
    (nat_eq (length s.numbers) 0 && nat_eq (length s.exprs) (get_or expression_counts s.rule 0)))

third : (ns : List ℕ) → length ns ≡ 3 → get_or ns 2 0 ≡ last_of ns
third [] e = absurd (omega arith)
third (a ∷ []) e = absurd (omega arith)
third (a ∷ b ∷ []) e = absurd (omega arith)
third (a ∷ b ∷ c ∷ []) e = refl
third (a ∷ b ∷ c ∷ d ∷ ns) e = absurd (omega arith)

plain-fit : (s : ProofStep) → nat_eq s.rule 3 ≡ false → operands_fit s ≡ true → Fits (step_shape s.rule) s.numbers (length s.exprs)
unfolding step_shape
plain-fit s e h = go (nat_eq s.rule 21) (ap (λ b. cond b (nat_eq (length s.numbers) 2 && nat_eq (length s.exprs) (get_or s.numbers 0 0 + get_or s.numbers 1 0)) (cond (nat_eq s.rule 21) (nat_eq (length s.numbers) 3 && nat_eq (length s.exprs) (get_or s.numbers 2 0)) (nat_eq (length s.numbers) 0 && nat_eq (length s.exprs) (get_or expression_counts s.rule 0)))) (sym e) ∙ h)
  where
    go : (b : Bool) → cond b (nat_eq (length s.numbers) 3 && nat_eq (length s.exprs) (get_or s.numbers 2 0)) (nat_eq (length s.numbers) 0 && nat_eq (length s.exprs) (get_or expression_counts s.rule 0)) ≡ true → Fits (cond b (counted_shape 3) (fixed 0 (get_or expression_counts s.rule 0))) s.numbers (length s.exprs)
    go true h =
        let p = and_parts (nat_eq (length s.numbers) 3) (nat_eq (length s.exprs) (get_or s.numbers 2 0)) h in
        let l = eqb-true (length s.numbers) 3 p.0 in
        (counted-fits 3 (length s.exprs) s.numbers).0 (l, eqb-true (length s.exprs) (get_or s.numbers 2 0) p.1 ∙ third s.numbers l)
    go false h =
        let p = and_parts (nat_eq (length s.numbers) 0) (nat_eq (length s.exprs) (get_or expression_counts s.rule 0)) h in
        (fixed-fits 0 (get_or expression_counts s.rule 0) (length s.exprs) s.numbers).0 (eqb-true (length s.numbers) 0 p.0, eqb-true (length s.exprs) (get_or expression_counts s.rule 0) p.1)

fit-plain : (s : ProofStep) → nat_eq s.rule 3 ≡ false → Fits (step_shape s.rule) s.numbers (length s.exprs) → operands_fit s ≡ true
unfolding step_shape
fit-plain s e f = ap (λ b. cond b (nat_eq (length s.numbers) 2 && nat_eq (length s.exprs) (get_or s.numbers 0 0 + get_or s.numbers 1 0)) (cond (nat_eq s.rule 21) (nat_eq (length s.numbers) 3 && nat_eq (length s.exprs) (get_or s.numbers 2 0)) (nat_eq (length s.numbers) 0 && nat_eq (length s.exprs) (get_or expression_counts s.rule 0)))) e ∙ go (nat_eq s.rule 21) f
  where
    go : (b : Bool) → Fits (cond b (counted_shape 3) (fixed 0 (get_or expression_counts s.rule 0))) s.numbers (length s.exprs) → cond b (nat_eq (length s.numbers) 3 && nat_eq (length s.exprs) (get_or s.numbers 2 0)) (nat_eq (length s.numbers) 0 && nat_eq (length s.exprs) (get_or expression_counts s.rule 0)) ≡ true
    go true f =
        let p = (counted-fits 3 (length s.exprs) s.numbers).1 f in
        and_from _ _ (eq-eqb (length s.numbers) 3 p.0) (eq-eqb (length s.exprs) (get_or s.numbers 2 0) (p.1 ∙ sym (third s.numbers p.0)))
    go false f =
        let p = (fixed-fits 0 (get_or expression_counts s.rule 0) (length s.exprs) s.numbers).1 f in
        and_from _ _ (eq-eqb (length s.numbers) 0 p.0) (eq-eqb (length s.exprs) (get_or expression_counts s.rule 0) p.1)

form-from : (n : ℕ) (s : ProofStep) → OperandsBy (nat_eq s.rule 3) s.rule n (operands_of s) → (operands_fit s ≡ true) × AreBelow n s.exprs
form-from n s = go (nat_eq s.rule 3) refl
  where
    go : (b : Bool) → nat_eq s.rule 3 ≡ b → OperandsBy b s.rule n (operands_of s) → (operands_fit s ≡ true) × AreBelow n s.exprs
    go true e w = (ap (λ b. cond b (nat_eq (length s.numbers) 2 && nat_eq (length s.exprs) (get_or s.numbers 0 0 + get_or s.numbers 1 0)) (cond (nat_eq s.rule 21) (nat_eq (length s.numbers) 3 && nat_eq (length s.exprs) (get_or s.numbers 2 0)) (nat_eq (length s.numbers) 0 && nat_eq (length s.exprs) (get_or expression_counts s.rule 0)))) e ∙ and_from _ _ (eq-eqb (length s.numbers) 2 w.numbers) (eq-eqb (length s.exprs) (get_or s.numbers 0 0 + get_or s.numbers 1 0) w.count), w.below)
    go false e w = (fit-plain s e (record { front = w.front; count = w.bytes.count; bytes = w.bytes.below; indices = w.indices.count }), w.indices.below)

form-to : (n : ℕ) (s : ProofStep) → operands_fit s ≡ true → AreBelow n s.exprs → OperandsBy (nat_eq s.rule 3) s.rule n (operands_of s) × (has_room (step_shape s.rule).tail n ≡ true)
unfolding step_shape expression_counts
form-to n s h b = go (nat_eq s.rule 3) refl
  where
    go : (c : Bool) → nat_eq s.rule 3 ≡ c → OperandsBy c s.rule n (operands_of s) × (has_room (step_shape s.rule).tail n ≡ true)
    go true e =
        let w : nat_eq (length s.numbers) 2 && nat_eq (length s.exprs) (get_or s.numbers 0 0 + get_or s.numbers 1 0) ≡ true = ap (λ b. cond b (nat_eq (length s.numbers) 2 && nat_eq (length s.exprs) (get_or s.numbers 0 0 + get_or s.numbers 1 0)) (cond (nat_eq s.rule 21) (nat_eq (length s.numbers) 3 && nat_eq (length s.exprs) (get_or s.numbers 2 0)) (nat_eq (length s.numbers) 0 && nat_eq (length s.exprs) (get_or expression_counts s.rule 0)))) (sym e) ∙ h in
        let p = and_parts (nat_eq (length s.numbers) 2) (nat_eq (length s.exprs) (get_or s.numbers 0 0 + get_or s.numbers 1 0)) w in
        (record { numbers = eqb-true (length s.numbers) 2 p.0; count = eqb-true (length s.exprs) (get_or s.numbers 0 0 + get_or s.numbers 1 0) p.1; below = b }, subst (λ r. has_room (step_shape r).tail n ≡ true) (sym (eqb-true s.rule 3 e)) refl)
    go false e =
        let f = plain-fit s e h in
        (record { front = f.front; bytes = record { count = f.count; below = f.bytes }; indices = record { count = f.indices; below = b } }, has-room (step_shape s.rule).tail n (take (step_shape s.rule).numbers s.numbers) s.exprs b f.indices)

-- the axiom of TRUE may stand anywhere
truth_stands : (n : ℕ) (free : List Bool) → rule_test n free 1 ≡ true
unfolding rule_test step_shape premise_count expression_counts premise_counts
truth_stands n free = grind (arith, nat_tests)

step_parts : (s : ProofStep) → step_fits s ≡ true → (nat_lt s.rule 22 ≡ true) × (length s.premises ≡ premise_count s.rule) × (operands_fit s ≡ true)
unfolding step_fits premise_count
step_parts s h =
    let p = and_parts (nat_lt s.rule 22 && nat_eq (length s.premises) (get_or premise_counts s.rule 0)) (operands_fit s) h in
    let q = and_parts (nat_lt s.rule 22) (nat_eq (length s.premises) (get_or premise_counts s.rule 0)) p.0 in
    (q.0, eqb-true (length s.premises) (get_or premise_counts s.rule 0) q.1, p.1)

step_from : (s : ProofStep) → nat_lt s.rule 22 ≡ true → length s.premises ≡ premise_count s.rule → operands_fit s ≡ true → step_fits s ≡ true
unfolding step_fits premise_count
step_from s a b c = and_from _ _ (and_from _ _ a (eq-eqb (length s.premises) (get_or premise_counts s.rule 0) b)) c

pub good-step : (n : ℕ) (free : List Bool) → Good ProofStep (IsStepAt n free) written_step (step n free)
unfolding step
good-step n free =
    good-pair ℕ ProofStep ProofStep same_step (λ s. s.rule) (λ s. s) (λ r. rule_test n free r ≡ true) (IsBehind n free) (IsStepAt n free) one (λ _. behind_text) written_step (number (rule_test n free)) (step_behind n free) (good-number (rule_test n free) 1 (truth_stands n free)) (good-behind n free) to from
  where
    to : (r : ℕ) (s : ProofStep) → rule_test n free r ≡ true → IsBehind n free r s → IsStepAt n free s × (written_step s ≡ one r ++ behind_text s)
    to r s v w =
        let o = form-from n s (subst (λ r. OperandsBy (nat_eq r 3) r n (operands_of s)) (sym w.rule) w.operands) in
        let below = ap (λ r. nat_lt r 22) w.rule ∙ (rule_parts n free r v).0 in (
          record {
            form = step_from s below (w.premises.count ∙ ap premise_count (sym w.rule)) o.0;
            exprs = o.1;
            premises = w.premises.all;
          },
          (λ i. w.rule i ∷ behind_text s),
        )

    from : (s : ProofStep) → IsStepAt n free s → (rule_test n free s.rule ≡ true) × IsBehind n free s.rule s × (s ≡ s) × (written_step s ≡ one s.rule ++ behind_text s)
    from s f =
        let p = step_parts s f.form in
        let o = form-to n s p.2 f.exprs in
        let e = enough-free free s.premises f.premises in (
          rule_from n free s.rule p.0 o.1 (omega (arith, e, p.1)),
          record { rule = refl; operands = o.0; premises = record { count = p.1; all = f.premises } },
          refl,
          refl,
        )
