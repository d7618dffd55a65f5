use Rattle.std.proofs.Common.{◌≡◌, rules, [], ◌∷◌, ◌++◌}
use Rattle.seq_translate.specs.Marks.{clear_marks, any_mark}
use Rattle.seq_translate.specs.News.{second_at}
use Rattle.seq_translate.proofs.Stepped.{resumed_state}
use Rattle.seq_translate.proofs.turn.resume.Goals as goal

pub returns-in_ok-push : goal.returns-in_ok-push
returns-in_ok-push c =
    let ms = c.args.marks.now.items in
    let ss = c.args.seconds.now.items in
    let n = c.in-Some.number in
    let e : c.clear_all.new.marks.items ≡ clear_marks ms (second_at c.args.turns.now n) = search rules in
    let f : c.push.new.self.items ≡ ss ++ record { number = n; needed = any_mark ms (second_at c.args.turns.now n) } ∷ [] = search rules in
    λ ts w s distinct under h. resumed_state ts distinct c.args.turns.now c.args.next n ms c.clear_all.new.marks.items ss c.push.new.self.items w s under h (c.in-Some.is) e f
