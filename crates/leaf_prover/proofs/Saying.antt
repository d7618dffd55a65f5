-- What a right verdict says, and what a cache changes.
use Rattle.std.specs.Prelude.{◌≡◌, List, [], ◌∷◌, Option, Some, None, if◌then◌else◌}
use Rattle.std.proofs.Common.{ℕ, Bool, true, false, refl, sym, subst}
use Rattle.core_expr.specs.declared.canon.Canon.{Canon}
use Rattle.seq_calculus.specs.Calculus.{Correct}
use Rattle.seq_calculus.specs.Lists.{Lists}
use Rattle.seq_calculus.specs.Steps.{proof_of}
use Rattle.proof_cache.specs.declared.verdict.Verdict.{Verdict}
use Rattle.proof_cache.specs.declared.verdict.Verdict.TheVariants as verdict
use Rattle.cache_hit.specs.Hits.{hit}
use Rattle.leaf_prover.specs.declared.answer.Answer.TheVariants.{Spent, Cached}
use Rattle.leaf_prover.specs.Forms.{is_form}
use Rattle.leaf_prover.specs.Answers.{answer, is_proved, IsRight}
use Rattle.leaf_prover.specs.Provers.{answered_by, answered_where, IsAnsweredBy, IsAnsweredWhere, Says, RightIsAnswered, ProofsAreCorrect, NoneKeptIsSearched, CacheKeepsProved}

right-says : (n : ℕ) (c : Canon) (v : Verdict) → IsRight n c v → Says (answer n c) v
right-says n c (verdict.Proved p turns true) h = let e = h.1 in absurd (cc)
right-says n c (verdict.Proved p turns false) h = h.0
right-says n c (verdict.Saturated values turns) h = h
right-says n c (verdict.Spent turns) h = h
right-says n c verdict.Memory h = absurd h

says-by : (o : Option Lists) (n : ℕ) (c : Canon) (v : Verdict) → IsAnsweredBy o n c v → Says (answered_by o n c) v
says-by None n c v h = right-says n c v h
says-by (Some p) n c v h = subst (Says Cached) (sym h.0) refl

says-where : (b : Bool) (ps : List Lists) (n : ℕ) (c : Canon) (v : Verdict) → IsAnsweredWhere b ps n c v → Says (answered_where b ps n c) v
says-where true ps n c v h = says-by (hit c ps) n c v h
says-where false ps n c v h = subst (Says (Spent 0)) (sym h) refl

pub right_is_answered : RightIsAnswered
right_is_answered ps n c v h = says-where (is_form c) ps n c v h

correct-by : (o : Option Lists) (n : ℕ) (c : Canon) (p : Lists) (turns : ℕ) (cached : Bool) → IsAnsweredBy o n c (verdict.Proved p turns cached) → Correct (proof_of p) c.facts (c.goal ∷ [])
correct-by None n c p turns cached h = h.2
correct-by (Some q) n c p turns cached h = let same : q ≡ p = (let e = h.0 in cc) in subst (λ r. Correct (proof_of r) c.facts (c.goal ∷ [])) same h.1

correct-where : (b : Bool) (ps : List Lists) (n : ℕ) (c : Canon) (p : Lists) (turns : ℕ) (cached : Bool) → IsAnsweredWhere b ps n c (verdict.Proved p turns cached)
    → Correct (proof_of p) c.facts (c.goal ∷ [])
correct-where true ps n c p turns cached h = correct-by (hit c ps) n c p turns cached h
correct-where false ps n c p turns cached h = absurd (cc)

pub proofs_are_correct : ProofsAreCorrect
proofs_are_correct ps n c p turns cached h = correct-where (is_form c) ps n c p turns cached h

none-kept : (b : Bool) (n : ℕ) (c : Canon) → answered_where b [] n c ≡ (if b then answer n c else Spent 0)
none-kept true n c = refl
none-kept false n c = refl

pub none_kept_is_searched : NoneKeptIsSearched
none_kept_is_searched n c = none-kept (is_form c) n c

still-by : (o : Option Lists) (n : ℕ) (c : Canon) → is_proved (answer n c) ≡ true → is_proved (answered_by o n c) ≡ true
still-by None n c h = h
still-by (Some p) n c h = refl

still-where : (b : Bool) (ps : List Lists) (n : ℕ) (c : Canon) → is_proved (answered_where b [] n c) ≡ true → is_proved (answered_where b ps n c) ≡ true
still-where true ps n c h = still-by (hit c ps) n c h
still-where false ps n c h = h

pub cache_keeps_proved : CacheKeepsProved
cache_keeps_proved ps n c h = still-where (is_form c) ps n c h
