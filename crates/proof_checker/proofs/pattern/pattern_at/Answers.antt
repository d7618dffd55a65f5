use Rattle.std.proofs.Common.{◌≡◌, ◌-◌, ℕ, length, get_or, rules, sym, ◌∙◌, ap, subst, arith}
use Rattle.std.specs.Prelude.{vec_len}
use Rattle.core_expr.specs.Put.{IsScoped}
use Rattle.core_expr.specs.Nodes.{picked}
use Rattle.term_bank.specs.Banks.{tree_at}
use Rattle.term_bank.proofs.TableLaws.{length-picked}
use Rattle.proof_checker.specs.Schemas.{pattern_at, IsBuilt}
use Rattle.proof_checker.proofs.BuildLaws.{subject_within, subject_at, formula_at, built_some}
use Rattle.proof_checker.proofs.pattern.pattern_at.Goals as goal

pub returns-then-params-count_at-clause-ok : goal.returns-then-params-count_at-clause-ok
returns-then-params-count_at-clause-ok c = λ p. c.if-params-count_at.true (sym (length-picked c.args.bank.now c.args.params.now) ∙ p.0 ∙ sym c.count_at.ensures)

pub build-requires-clause-count : goal.build-requires-clause-count
build-requires-clause-count c = c.if-params-count_at.false ∙ c.count_at.ensures

pub index-subject-requires : goal.index-subject-requires
index-subject-requires c =
    let es = picked c.args.bank.now c.args.params.now in
    let n : length es ≡ (pattern_at c.args.i).count = length-picked c.args.bank.now c.args.params.now ∙ c.if-params-count_at.false ∙ c.count_at.ensures in
    let b : IsBuilt c.build.new.bank (pattern_at c.args.i) es c.in-Some.values.items = rw c.in-Some.is at c.in_ok-built.ensures.some in
    let w = subject_within c.build.new.bank c.args.i es c.in-Some.values.items c.requires.pattern n b in
    let v : vec_len c.in-Some.values ≡ length c.in-Some.values.items = search rules in
    omega (arith, w, v, c.subject_at.ensures)

pub is_closed-requires : goal.is_closed-requires
is_closed-requires c =
    let es = picked c.args.bank.now c.args.params.now in
    let n : length es ≡ (pattern_at c.args.i).count = length-picked c.args.bank.now c.args.params.now ∙ c.if-params-count_at.false ∙ c.count_at.ensures in
    let b : IsBuilt c.build.new.bank (pattern_at c.args.i) es c.in-Some.values.items = rw c.in-Some.is at c.in_ok-built.ensures.some in
    (subject_at c.build.new.bank c.args.i es c.in-Some.values.items c.index-subject.result.now c.requires.pattern n b (c.index-subject.ensures ∙ ap (λ (j : ℕ). get_or c.in-Some.values.items j c.index-subject.result.now) c.subject_at.ensures)).within

pub returns-then-not-is_closed-clause-ok : goal.returns-then-not-is_closed-clause-ok
returns-then-not-is_closed-clause-ok c =
    let es = picked c.args.bank.now c.args.params.now in
    let n : length es ≡ (pattern_at c.args.i).count = length-picked c.args.bank.now c.args.params.now ∙ c.if-params-count_at.false ∙ c.count_at.ensures in
    let b : IsBuilt c.build.new.bank (pattern_at c.args.i) es c.in-Some.values.items = rw c.in-Some.is at c.in_ok-built.ensures.some in
    let h = subject_at c.build.new.bank c.args.i es c.in-Some.values.items c.index-subject.result.now c.requires.pattern n b (c.index-subject.ensures ∙ ap (λ (j : ℕ). get_or c.in-Some.values.items j c.index-subject.result.now) c.subject_at.ensures) in
    λ p. let q : IsScoped 0 (tree_at c.build.new.bank c.index-subject.result.now) = rw h.tree p.2 in search (rules, c.is_closed.ensures, c.if-not-is_closed.true, q)

pub overflow_sub-len : goal.overflow_sub-len
overflow_sub-len c =
    let es = picked c.args.bank.now c.args.params.now in
    let n : length es ≡ (pattern_at c.args.i).count = length-picked c.args.bank.now c.args.params.now ∙ c.if-params-count_at.false ∙ c.count_at.ensures in
    let b : IsBuilt c.build.new.bank (pattern_at c.args.i) es c.in-Some.values.items = rw c.in-Some.is at c.in_ok-built.ensures.some in
    let m = built_some c.build.new.bank c.args.i es c.in-Some.values.items c.requires.pattern n b in
    let k : c.len.result ≡ length c.in-Some.values.items = search rules in
    omega (arith, m, k)

pub index-formula-requires : goal.index-formula-requires
index-formula-requires c =
    let es = picked c.args.bank.now c.args.params.now in
    let n : length es ≡ (pattern_at c.args.i).count = length-picked c.args.bank.now c.args.params.now ∙ c.if-params-count_at.false ∙ c.count_at.ensures in
    let b : IsBuilt c.build.new.bank (pattern_at c.args.i) es c.in-Some.values.items = rw c.in-Some.is at c.in_ok-built.ensures.some in
    let m = built_some c.build.new.bank c.args.i es c.in-Some.values.items c.requires.pattern n b in
    let k : c.len.result ≡ length c.in-Some.values.items = search rules in
    let v : vec_len c.in-Some.values ≡ length c.in-Some.values.items = search rules in
    omega (arith, m, k, v)

pub returns-else-not-is_closed-clause-ok : goal.returns-else-not-is_closed-clause-ok
returns-else-not-is_closed-clause-ok c =
    let es = picked c.args.bank.now c.args.params.now in
    let n : length es ≡ (pattern_at c.args.i).count = length-picked c.args.bank.now c.args.params.now ∙ c.if-params-count_at.false ∙ c.count_at.ensures in
    let b : IsBuilt c.build.new.bank (pattern_at c.args.i) es c.in-Some.values.items = rw c.in-Some.is at c.in_ok-built.ensures.some in
    let h = subject_at c.build.new.bank c.args.i es c.in-Some.values.items c.index-subject.result.now c.requires.pattern n b (c.index-subject.ensures ∙ ap (λ (j : ℕ). get_or c.in-Some.values.items j c.index-subject.result.now) c.subject_at.ensures) in
    let s : IsScoped 0 (tree_at c.build.new.bank c.index-subject.result.now) = c.is_closed.ensures.0 (search (rules, c.if-not-is_closed.false)) in
    let k : c.len.result ≡ length c.in-Some.values.items = search rules in
    let i = c.index-formula.ensures ∙ ap (λ (k : ℕ). get_or c.in-Some.values.items (k - 1) c.index-formula.result.now) k in
    ((n, b.opened_is, subst (λ t. IsScoped 0 t) h.tree s), formula_at c.build.new.bank c.args.i es c.in-Some.values.items c.index-formula.result.now c.requires.pattern n b i)
