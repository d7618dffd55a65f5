use Rattle.std.proofs.Common.{◌≡◌, Option, Some, None, sym, subst}
use Rattle.term_bank.specs.Banks.{tree_at}
use Rattle.search_definition.specs.Rules.{Step}
use Rattle.search_definition.specs.Equations.{derive_not, derive}
use Rattle.branch_state.specs.Parts.{shown}
use Rattle.formula_rules.specs.Answers.{HasAnswer}
use Rattle.rank_rules.specs.Ranked.{branch_of}
use Rattle.rank_rules.proofs.Entries.{known_kept, none_answer}
use Rattle.rank_rules.proofs.DeriveLaws.{denied_cases, not_kept, ok_answer, ok_second, first_answer}
use Rattle.rank_rules.proofs.derivation.derive_denied.Goals as goal

pub derive_not-requires-in-None-clause-known : goal.derive_not-requires-in-None-clause-known
derive_not-requires-in-None-clause-known c = known_kept c.args.bank.now c.derive_not.new.bank (shown c.args.parts.now).now c.derive_not.ensures.extends c.requires.known

pub returns-in-Some-clause-ok : goal.returns-in-Some-clause-ok
returns-in-Some-clause-ok c =
    let ts = c.args.bank.now in
    let new = c.derive_not.new.bank in
    let b = branch_of ts (shown c.args.parts.now).now in
    let f = tree_at ts c.args.f in
    let s = tree_at ts c.args.s in
    let t = tree_at ts c.args.t in
    let h : HasAnswer new (Some c.in-Some.given) (derive_not b f s t) = subst (λ o. HasAnswer new o (derive_not b f s t)) c.in-Some.is c.in_ok-given.ensures.ok in
    subst (λ (r : Option Step). HasAnswer new (Some c.in-Some.given) r) (sym (denied_cases b f s t c.requires.is_not)) (first_answer new c.in-Some.given (derive_not b f s t) _ h)

pub returns-in-None-clause-ok : goal.returns-in-None-clause-ok
returns-in-None-clause-ok c =
    let ts = c.args.bank.now in
    let mid = c.derive_not.new.bank in
    let es = (shown c.args.parts.now).now in
    let b = branch_of ts es in
    let f = tree_at ts c.args.f in
    let s = tree_at ts c.args.s in
    let t = tree_at ts c.args.t in
    let n : derive_not b f s t ≡ None = none_answer mid (derive_not b f s t) (subst (λ o. HasAnswer mid o (derive_not b f s t)) c.in-None.is c.in_ok-given.ensures.ok) in
    ok_second c.derive_not-in-None.result c.derive_not-in-None.new.bank (derive_not b f s t) (derive_not b f t s) (derive b f) (denied_cases b f s t c.requires.is_not) n
    (ok_answer c.derive_not-in-None.result c.derive_not-in-None.new.bank _ (derive_not b f t s) (not_kept ts mid es c.args.f c.args.t c.args.s c.derive_not.ensures.extends c.requires.known c.requires.below.0 c.requires.below.1.1.0 c.requires.below.1.0) c.derive_not-in-None.ensures.ok)
