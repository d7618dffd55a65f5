use Rattle.std.proofs.Common.{◌≡◌, ◌∷◌, ◌++◌, [], ap, sym, subst, ◌∙◌, arith, rules}
use Rattle.search_loop.specs.declared.frames.Frame.TheVariants.{First}
use Rattle.search_loop.specs.declared.run.Round.TheVariants.{More}
use Rattle.search_loop.specs.Stacks.{stack_of, after_pop, popped}
use Rattle.search_loop.specs.Turns.{Tells, RoundIs}
use Rattle.search_loop.proofs.SetLaws.{stack_push}
use Rattle.search_loop.proofs.Running.{told_stuck, told_alone, told_splits, told_gone, told_back, back_below}
use Rattle.search_loop.proofs.run.take_turn.Goals as goal

pub reopen-requires-clause-within : goal.reopen-requires-clause-within
reopen-requires-clause-within g c =
    let old = g.W.Work.state c.args.work.now in
    let fs = stack_of c.args.frames.now.items in
    let gs = stack_of c.pop.new.frames.items in
    let u = c.in-Closes.needed.items in
    let r = c.in-Some.resumed in
    let p = subst (λ o. after_pop o gs ≡ popped fs u) c.in-Some.is c.in_ok-pop-in-Closes.ensures.popped in
    omega (arith, back_below old.count r.number r.at fs gs u p c.requires.stacked, c.in_ok-turn.ensures.keeps.0)

pub returns-in-Stuck-clause-round : goal.returns-in-Stuck-clause-round
returns-in-Stuck-clause-round g c =
    let n = c.args.number in
    let old = g.W.Work.state c.args.work.now in
    let mid = g.W.Work.state c.turn.new.self in
    let fs = stack_of c.args.frames.now.items in
    told_stuck n old mid fs fs (subst (λ t. Tells n old mid t) c.in-Stuck.is c.in_ok-turn.ensures.tells)

pub returns-in-Alone-clause-round : goal.returns-in-Alone-clause-round
returns-in-Alone-clause-round g c =
    let n = c.args.number in
    let old = g.W.Work.state c.args.work.now in
    let mid = g.W.Work.state c.turn.new.self in
    let fs = stack_of c.args.frames.now.items in
    told_alone n old mid fs (subst (λ t. Tells n old mid t) c.in-Alone.is c.in_ok-turn.ensures.tells) c.in_ok-turn.ensures.keeps c.requires.stacked

pub returns-in_ok-push-in-Splits-clause-round : goal.returns-in_ok-push-in-Splits-clause-round
returns-in_ok-push-in-Splits-clause-round g c =
    let n = c.args.number in
    let m = c.in-Splits.at in
    let old = g.W.Work.state c.args.work.now in
    let mid = g.W.Work.state c.turn.new.self in
    let fs = stack_of c.args.frames.now.items in
    let e : c.push.new.self.items ≡ c.args.frames.now.items ++ First n m ∷ [] = search rules in
    let h = told_splits n m old mid fs (subst (λ t. Tells n old mid t) c.in-Splits.is c.in_ok-turn.ensures.tells) c.in_ok-turn.ensures.keeps c.requires.stacked in
    subst (λ us. RoundIs n old fs mid us More) (sym (ap stack_of e ∙ stack_push c.args.frames.now.items (First n m))) h

pub returns-in-None-clause-round : goal.returns-in-None-clause-round
returns-in-None-clause-round g c =
    let n = c.args.number in
    let old = g.W.Work.state c.args.work.now in
    let mid = g.W.Work.state c.turn.new.self in
    let fs = stack_of c.args.frames.now.items in
    let gs = stack_of c.pop.new.frames.items in
    let v = c.in-Closes.needed in
    let p = subst (λ o. after_pop o gs ≡ popped fs v.items) c.in-None.is c.in_ok-pop-in-Closes.ensures.popped in
    told_gone n old mid fs gs v (subst (λ t. Tells n old mid t) c.in-Closes.is c.in_ok-turn.ensures.tells) p

pub returns-in_ok-reopen-in-Some-clause-round : goal.returns-in_ok-reopen-in-Some-clause-round
returns-in_ok-reopen-in-Some-clause-round g c =
    let n = c.args.number in
    let old = g.W.Work.state c.args.work.now in
    let mid = g.W.Work.state c.turn.new.self in
    let new = g.W.Work.state c.reopen.new.self in
    let fs = stack_of c.args.frames.now.items in
    let gs = stack_of c.pop.new.frames.items in
    let v = c.in-Closes.needed in
    let r = c.in-Some.resumed in
    let p = subst (λ o. after_pop o gs ≡ popped fs v.items) c.in-Some.is c.in_ok-pop-in-Closes.ensures.popped in
    let t = subst (λ t. Tells n old mid t) c.in-Closes.is c.in_ok-turn.ensures.tells in
    let k = c.in_ok-reopen-in-Some.ensures in
    told_back n r.number r.at old mid new fs gs v t p c.requires.stacked c.in_ok-turn.ensures.keeps k.keeps k.branch k.resumes
