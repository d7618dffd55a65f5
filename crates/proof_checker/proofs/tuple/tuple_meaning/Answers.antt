use Rattle.std.proofs.Common.{◌≡◌, length, sym, ◌∙◌}
use Rattle.core_expr.specs.Heads.{kind_at, kind_table}
use Rattle.core_expr.specs.Nodes.{picked}
use Rattle.term_bank.proofs.TableLaws.{length-picked}
use Rattle.proof_checker.proofs.TupleLaws.{meaning_alike, meaning_apart}
use Rattle.proof_checker.proofs.tuple.tuple_meaning.Goals as goal

pub returns-then-left-right-clause-ok : goal.returns-then-left-right-clause-ok
unfolding kind_at kind_table
returns-then-left-right-clause-ok c =
    let n : ¬ (length c.args.left.now ≡ length c.args.right.now) = c.if-left-right.true in
    rw (meaning_apart (picked c.args.bank.now c.args.left.now) (picked c.args.bank.now c.args.right.now) (λ e. n (sym (length-picked c.args.bank.now c.args.left.now) ∙ e ∙ length-picked c.args.bank.now c.args.right.now))) c.in_ok-never.ensures.ok

pub returns-clause-ok : goal.returns-clause-ok
unfolding kind_at kind_table
returns-clause-ok c =
    let e : length c.args.left.now ≡ length c.args.right.now = c.if-left-right.false in
    rw (meaning_alike (picked c.args.bank.now c.args.left.now) (picked c.args.bank.now c.args.right.now) (length-picked c.args.bank.now c.args.left.now ∙ e ∙ sym (length-picked c.args.bank.now c.args.right.now))) c.in_ok-joined.ensures.ok
