use Rattle.std.proofs.Common.{rules, ◌≡◌, ◌∷◌, [], ◌++◌, Bool, true, false, nat_eq, Some, None, sym, ap, ◌∙◌}
use Rattle.search_definition.specs.Terms.{if_so}
use Rattle.seq_translate.specs.States.{laid}
use Rattle.seq_translate.proofs.Taken.{taken_last, left_last}
use Rattle.seq_translate.proofs.split.take.Goals as goal

pub returns-then-side-number-clause-taken : goal.returns-then-side-number-clause-taken
returns-then-side-number-clause-taken c =
    let ss = c.args.seconds.now.items in
    let us = c.pop.new.self.items in
    let x = c.in-Some.side in
    let e : ss ≡ us ++ x ∷ [] = search rules in
    let n : nat_eq x.number c.args.number ≡ true = search rules in
    sym (taken_last ss us x c.args.number e ∙ ap (λ (b : Bool). if_so b (Some x.needed) None) n)

pub returns-then-side-number-clause-left : goal.returns-then-side-number-clause-left
returns-then-side-number-clause-left c =
    let ss = c.args.seconds.now.items in
    let us = c.pop.new.self.items in
    let x = c.in-Some.side in
    let e : ss ≡ us ++ x ∷ [] = search rules in
    let n : nat_eq x.number c.args.number ≡ true = search rules in
    sym (left_last ss us x c.args.number e ∙ ap (λ (b : Bool). if_so b (laid [] us) (laid [] ss)) n)

pub returns-in_ok-push-in-Some-clause-taken : goal.returns-in_ok-push-in-Some-clause-taken
returns-in_ok-push-in-Some-clause-taken c =
    let ss = c.args.seconds.now.items in
    let us = c.pop.new.self.items in
    let x = c.in-Some.side in
    let e : ss ≡ us ++ x ∷ [] = search rules in
    let n : nat_eq x.number c.args.number ≡ false = search rules in
    sym (taken_last ss us x c.args.number e ∙ ap (λ (b : Bool). if_so b (Some x.needed) None) n)

pub returns-in_ok-push-in-Some-clause-left : goal.returns-in_ok-push-in-Some-clause-left
returns-in_ok-push-in-Some-clause-left c =
    let ss = c.args.seconds.now.items in
    let us = c.pop.new.self.items in
    let x = c.in-Some.side in
    let e : ss ≡ us ++ x ∷ [] = search rules in
    let f : c.push.new.self.items ≡ us ++ x ∷ [] = search rules in
    let n : nat_eq x.number c.args.number ≡ false = search rules in
    ap (λ l. laid [] l) (f ∙ sym e) ∙ sym (left_last ss us x c.args.number e ∙ ap (λ (b : Bool). if_so b (laid [] us) (laid [] ss)) n)
