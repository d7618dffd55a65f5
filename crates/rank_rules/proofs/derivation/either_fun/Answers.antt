use Rattle.std.proofs.Common.{◌≡◌, None, refl, subst}
use Rattle.term_bank.specs.Banks.{tree_at}
use Rattle.search_definition.specs.Terms.{or_else}
use Rattle.search_definition.specs.Equations.{derive_fun}
use Rattle.branch_state.specs.Parts.{shown}
use Rattle.formula_rules.specs.Answers.{HasAnswer}
use Rattle.rank_rules.specs.Ranked.{branch_of}
use Rattle.rank_rules.proofs.Entries.{known_kept, none_answer}
use Rattle.rank_rules.proofs.DeriveLaws.{fun_kept, ok_answer, ok_second}
use Rattle.rank_rules.proofs.derivation.either_fun.Goals as goal

pub derive_fun-requires-in-None-clause-known : goal.derive_fun-requires-in-None-clause-known
derive_fun-requires-in-None-clause-known c = known_kept c.args.bank.now c.derive_fun.new.bank (shown c.args.parts.now).now c.derive_fun.ensures.extends c.requires.known

pub returns-in-None-clause-ok : goal.returns-in-None-clause-ok
returns-in-None-clause-ok c =
    let ts = c.args.bank.now in
    let mid = c.derive_fun.new.bank in
    let es = (shown c.args.parts.now).now in
    let b = branch_of ts es in
    let p = derive_fun b (tree_at ts c.args.f) (tree_at ts c.args.s) (tree_at ts c.args.t) in
    let q = derive_fun b (tree_at ts c.args.f) (tree_at ts c.args.t) (tree_at ts c.args.s) in
    let n : p ≡ None = none_answer mid p (subst (λ o. HasAnswer mid o p) c.in-None.is c.in_ok-given.ensures.ok) in
    ok_second c.derive_fun-in-None.result c.derive_fun-in-None.new.bank p q (or_else p q) refl n
    (ok_answer c.derive_fun-in-None.result c.derive_fun-in-None.new.bank _ q (fun_kept ts mid es c.args.f c.args.t c.args.s c.derive_fun.ensures.extends c.requires.known c.requires.below.0 c.requires.below.1.1.0 c.requires.below.1.0) c.derive_fun-in-None.ensures.ok)
