use Rattle.std.proofs.Common.{◌∙◌, ◌≡◌, [], ◌∷◌, ap, arith, length, rules}
use Rattle.std.proofs.lemmas.Grind.{common_steps}
use Rattle.text_writer.specs.Tables.{AllPlaced, enter}
use Rattle.text_writer.proofs.EnterLaws.{here_all}
use Rattle.text_writer.proofs.RowLaws.{run-all, run-next}
use Rattle.text_writer.proofs.table.enter.Goals as goal
use Rattle.text_writer.proofs.table.enter.Goals.{After-pop}

pub loop-i-preserved : goal.loop-i-preserved
loop-i-preserved c =
    run-next c.args.e.now c.loop-i.i _ _ _ _ (omega (arith, c.loop-i-test.true, c.length-i-end.ensures.value)) c.in_ok-enter_node.ensures.nodes c.in_ok-enter_node.ensures.places ∙ c.loop-i.invariant

all-run : (c : After-pop) → (let p = enter c.args.e.now c.args.nodes.now.keys in here_all c.loop-i.nodes.keys c.loop-i.places.items ≡ here_all p.nodes (p.place ∷ []))
all-run c =
    run-all c.args.e.now c.loop-i.i c.args.nodes.now.keys (here_all c.loop-i.nodes.keys c.loop-i.places.items) (omega (arith, c.loop-i-test.false, c.length-i-end.ensures.value)) c.loop-i.invariant

pub unwrap-requires : goal.unwrap-requires
unwrap-requires c = let e : length c.loop-i.places.items ≡ 1 = ap (λ (a : AllPlaced). length a.places) (all-run c) in search (rules, e)

pub returns-clause-nodes : goal.returns-clause-nodes
returns-clause-nodes c = ap (λ (a : AllPlaced). a.nodes) (all-run (goal.at.returns-clause-nodes c).After-pop)

pub returns-clause-place : goal.returns-clause-place
returns-clause-place c = let e = ap (λ (a : AllPlaced). a.places) (all-run (goal.at.returns-clause-place c).After-pop) in grind (arith, common_steps, e)
