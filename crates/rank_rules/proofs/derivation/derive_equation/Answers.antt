use Rattle.std.proofs.Common.{◌≡◌, Option, Some, None, sym, subst}
use Rattle.term_bank.specs.Banks.{tree_at}
use Rattle.search_definition.specs.Terms.{or_else}
use Rattle.search_definition.specs.Rules.{Step}
use Rattle.search_definition.specs.Equations.{derive_set, derive_fun, derive}
use Rattle.branch_state.specs.Parts.{shown}
use Rattle.formula_rules.specs.Answers.{HasAnswer}
use Rattle.rank_rules.specs.Ranked.{branch_of}
use Rattle.rank_rules.proofs.Entries.{known_kept, none_answer}
use Rattle.rank_rules.proofs.DeriveLaws.{equation_cases, fun_kept, ok_answer, ok_second, first_answer}
use Rattle.rank_rules.proofs.derivation.derive_equation.Goals as goal

pub either_fun-requires-clause-known : goal.either_fun-requires-clause-known
either_fun-requires-clause-known c = known_kept c.args.bank.now c.derive_set.new.bank (shown c.args.parts.now).now c.derive_set.ensures.extends c.requires.known

pub returns-in-Some-clause-ok : goal.returns-in-Some-clause-ok
returns-in-Some-clause-ok c =
    let ts = c.args.bank.now in
    let new = c.derive_set.new.bank in
    let b = branch_of ts (shown c.args.parts.now).now in
    let f = tree_at ts c.args.f in
    let s = tree_at ts c.args.s in
    let t = tree_at ts c.args.t in
    let h : HasAnswer new (Some c.in-Some.given) (derive_set b s t) = subst (λ o. HasAnswer new o (derive_set b s t)) c.in-Some.is c.in_ok-given.ensures.ok in
    subst (λ (r : Option Step). HasAnswer new (Some c.in-Some.given) r) (sym (equation_cases b f s t c.requires.equation)) (first_answer new c.in-Some.given (derive_set b s t) _ h)

pub returns-in-None-clause-ok : goal.returns-in-None-clause-ok
returns-in-None-clause-ok c =
    let ts = c.args.bank.now in
    let mid = c.derive_set.new.bank in
    let es = (shown c.args.parts.now).now in
    let b = branch_of ts es in
    let f = tree_at ts c.args.f in
    let s = tree_at ts c.args.s in
    let t = tree_at ts c.args.t in
    let x = c.derive_set.ensures.extends in
    let r = c.requires.below in
    let n : derive_set b s t ≡ None = none_answer mid (derive_set b s t) (subst (λ o. HasAnswer mid o (derive_set b s t)) c.in-None.is c.in_ok-given.ensures.ok) in
    let q = or_else (derive_fun b f s t) (derive_fun b f t s) in
    ok_second c.either_fun.result c.either_fun.new.bank (derive_set b s t) q (derive b f) (equation_cases b f s t c.requires.equation) n
    (ok_answer c.either_fun.result c.either_fun.new.bank _ q (λ i. or_else (fun_kept ts mid es c.args.f c.args.s c.args.t x c.requires.known r.0 r.1.0 r.1.1.0 i) (fun_kept ts mid es c.args.f c.args.t c.args.s x c.requires.known r.0 r.1.1.0 r.1.0 i)) c.either_fun.ensures.ok)
