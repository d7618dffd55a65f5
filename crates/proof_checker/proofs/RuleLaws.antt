-- The rules by name are those by number.
use Rattle.std.proofs.Common.{◌≡◌, ℕ, zero, suc, ◌<◌, ◌≤◌, ◌+◌, Bool, true, false, cond, ◌&&◌, nat_lt, nat_eq, IsTrue, List, [], ◌∷◌, length, get_or, map, refl, ap, ◌∙◌, arith}
use Rattle.std.proofs.lemmas.Bool.{and_parts, agree_below_at}
use Rattle.std.proofs.lemmas.Bool.Decides.{nat_tests}
use Rattle.core_expr.specs.Tree.{Tree}
use Rattle.seq_calculus.specs.Lists.{step_fits, expression_counts, premise_counts}
use Rattle.seq_calculus.specs.Steps.{Reading, readings, rule_of}
use Rattle.seq_calculus.specs.declared.lists.ProofStep.{ProofStep}
use Rattle.term_bank.proofs.TableLaws.{is_true}
use Rattle.proof_checker.specs.Rules.{name_of, plain_reading, reading_of, count_of, operand_count, is_weak, is_schema}
use Rattle.proof_checker.specs.declared.rule.Plain.{Plain}
use Rattle.proof_checker.specs.declared.rule.Plain.TheVariants as plain
use Rattle.proof_checker.specs.declared.rule.RuleName.{RuleName}
use Rattle.proof_checker.specs.declared.rule.RuleName.TheVariants as name
use Rattle.proof_checker.specs.declared.rule.TheConstants.{RULES}

at-map : {X Y : Type 0} (f : X → Y) (xs : List X) (i : ℕ) (d : X) → get_or (map f xs) i (f d) ≡ f (get_or xs i d)
at-map f [] i d = refl
at-map f (x ∷ xs) zero d = refl
at-map f (x ∷ xs) (suc i) d = at-map f xs i d

reading_named : (r : ℕ) → rule_of r ≡ reading_of (name_of r)
unfolding readings
reading_named r = at-map reading_of RULES r (name.Plain plain.TrueR)

counts_named : (r : ℕ) → get_or expression_counts r 0 ≡ operand_count (name_of r)
unfolding expression_counts
counts_named r = at-map operand_count RULES r (name.Plain plain.TrueR)

pub named_as : (s : ProofStep) (es : List Tree) (n : RuleName) → name_of s.rule ≡ n → rule_of s.rule s.numbers es ≡ reading_of n s.numbers es
named_as s es n e = ap (λ (q : Reading). q s.numbers es) (reading_named s.rule ∙ ap reading_of e)

pub plain_numbers : (p : Plain) (ns : List ℕ) (es : List Tree) → plain_reading p [] es ≡ plain_reading p ns es
plain_numbers plain.TrueR ns es = refl
plain_numbers plain.FalseL ns es = refl
plain_numbers (plain.One u) ns es = refl
plain_numbers (plain.Two c) ns es = refl
plain_numbers plain.AllL ns es = refl
plain_numbers plain.ExR ns es = refl
plain_numbers plain.Repl ns es = refl

-- how many expressions a step of each rule has
abbrev weak_form : ProofStep → Bool
weak_form s = nat_eq (length s.numbers) 2 && nat_eq (length s.exprs) (get_or s.numbers 0 0 + get_or s.numbers 1 0)

abbrev schema_form : ProofStep → Bool
schema_form s = nat_eq (length s.numbers) 3 && nat_eq (length s.exprs) (get_or s.numbers 2 0)

abbrev plain_form : ProofStep → Bool
plain_form s = nat_eq (length s.numbers) 0 && nat_eq (length s.exprs) (get_or expression_counts s.rule 0)

form : (s : ProofStep) → IsTrue (step_fits s) → (nat_lt s.rule 22 ≡ true) × (cond (nat_eq s.rule 3) (weak_form s) (cond (nat_eq s.rule 21) (schema_form s) (plain_form s)) ≡ true)
unfolding step_fits
form s h =
    let a = and_parts (nat_lt s.rule 22 && nat_eq (length s.premises) (get_or premise_counts s.rule 0)) (cond (nat_eq s.rule 3) (weak_form s) (cond (nat_eq s.rule 21) (schema_form s) (plain_form s))) (is_true _ h) in
    ((and_parts (nat_lt s.rule 22) (nat_eq (length s.premises) (get_or premise_counts s.rule 0)) a.0).0, a.1)

pub rule_below : (s : ProofStep) → IsTrue (step_fits s) → s.rule < 22
rule_below s h = let l = (form s h).0 in grind (arith, nat_tests)

third : (a b x y z : Bool) → a ≡ false → b ≡ false → cond a x (cond b y z) ≡ true → z ≡ true
third false false x y z e f h = h
third true b x y z e f h = cc
third false true x y z e f h = cc

first : (a x y : Bool) → a ≡ true → cond a x y ≡ true → x ≡ true
first true x y e h = h
first false x y e h = cc

same_count : (m n : ℕ) → nat_eq m n ≡ true → m ≡ n
same_count m n h = grind (arith, nat_tests)

pub plain_count : (s : ProofStep) (p : Plain) → IsTrue (step_fits s) → name_of s.rule ≡ name.Plain p → length s.exprs ≡ count_of p
plain_count s p h e =
    let f = form s h in
    let l = rule_below s h in
    let w : nat_eq s.rule 3 ≡ false = agree_below_at (λ r. nat_eq r 3) (λ r. is_weak (name_of r)) 22 s.rule refl l ∙ ap is_weak e in
    let k : nat_eq s.rule 21 ≡ false = agree_below_at (λ r. nat_eq r 21) (λ r. is_schema (name_of r)) 22 s.rule refl l ∙ ap is_schema e in
    let t = third (nat_eq s.rule 3) (nat_eq s.rule 21) (weak_form s) (schema_form s) (plain_form s) w k f.1 in
    same_count (length s.exprs) (get_or expression_counts s.rule 0) (and_parts (nat_eq (length s.numbers) 0) (nat_eq (length s.exprs) (get_or expression_counts s.rule 0)) t).1 ∙ counts_named s.rule ∙ ap operand_count e

pub weak_count : (s : ProofStep) → IsTrue (step_fits s) → name_of s.rule ≡ name.Weak → get_or s.numbers 0 0 ≤ length s.exprs
weak_count s h e =
    let f = form s h in
    let w : nat_eq s.rule 3 ≡ true = agree_below_at (λ r. nat_eq r 3) (λ r. is_weak (name_of r)) 22 s.rule refl (rule_below s h) ∙ ap is_weak e in
    let t = first (nat_eq s.rule 3) (weak_form s) (cond (nat_eq s.rule 21) (schema_form s) (plain_form s)) w f.1 in
    let n = same_count (length s.exprs) (get_or s.numbers 0 0 + get_or s.numbers 1 0) (and_parts (nat_eq (length s.numbers) 2) (nat_eq (length s.exprs) (get_or s.numbers 0 0 + get_or s.numbers 1 0)) t).1 in
    omega arith
