use Rattle.std.proofs.Common.{◌<◌, ◌≤◌, ◌+◌, Option, Some, None, length, drop, sym, ◌∙◌, ap, subst, arith}
use Rattle.std.proofs.lemmas.List.{drop_all}
use Rattle.term_bank.specs.Banks.{tree_at}
use Rattle.search_definition.specs.Terms.{or_else, first_some}
use Rattle.search_definition.specs.Branches.{alive}
use Rattle.search_definition.specs.Equations.{Described, describes}
use Rattle.branch_state.specs.Parts.{shown}
use Rattle.rank_rules.specs.Ranked.{branch_of}
use Rattle.rank_rules.specs.Deriving.{IsDescribed}
use Rattle.rank_rules.proofs.DeriveLaws.{next_described, described_here, described_none}
use Rattle.rank_rules.proofs.derivation.described.Goals as goal

pub returns-in-Some : goal.returns-in-Some
returns-in-Some c =
    let ts = c.args.bank.now in
    let es = (shown c.args.parts.now).now in
    let l : c.loop-i.i < length es = omega (arith, c.length-i-end.ensures, c.loop-i-test.true) in
    let f = describes (tree_at ts c.args.g) in
    let q = sym (next_described f ts es c.loop-i.i l) ∙ c.loop-i.invariant in
    subst (λ (o : Option Described). IsDescribed ts (Some c.in-Some.telling) o) q (described_here ts c.in-Some.telling _ _ c.in-Some.ensures)

pub loop-i-preserved : goal.loop-i-preserved
loop-i-preserved c =
    let ts = c.args.bank.now in
    let es = (shown c.args.parts.now).now in
    let l : c.loop-i.i < length es = omega (arith, c.length-i-end.ensures, c.loop-i-test.true) in
    let f = describes (tree_at ts c.args.g) in
    let rest : Option Described = first_some f (alive (branch_of ts (drop (c.loop-i.i + 1) es))) in
    ap (λ (o : Option Described). or_else o rest) (sym (described_none ts _ c.in-None.ensures)) ∙ sym (next_described f ts es c.loop-i.i l) ∙ c.loop-i.invariant

pub returns : goal.returns
returns c =
    let ts = c.args.bank.now in
    let es = (shown c.args.parts.now).now in
    let l : length es ≤ c.loop-i.i = omega (arith, c.length-i-end.ensures, c.loop-i-test.false) in
    let f = describes (tree_at ts c.args.g) in
    subst (λ (o : Option Described). IsDescribed ts None o) (ap (λ ps. first_some f (alive (branch_of ts ps))) (sym (drop_all c.loop-i.i es l)) ∙ c.loop-i.invariant) tt
