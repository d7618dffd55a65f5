use Rattle.std.proofs.Common.{sym, ap, ◌∙◌, arith}
use Rattle.std.proofs.lemmas.Bool.{ne_eqb, cond-false}
use Rattle.tla_lexer.specs.Comments.{longer}
use Rattle.tla_lexer.proofs.Comments.{rest-opens, rest-closes, rest-passes, rest-end, longer-longer}
use Rattle.tla_lexer.proofs.comment.rest_len.Goals as goal

pub loop-len-preserved-then-opens : goal.loop-len-preserved-then-opens
loop-len-preserved-then-opens c =
    let at = c.loop-len.len in
    let step = rest-opens c.loop-len.depth c.args.z.now at (omega arith) (sym c.opens.ensures ∙ c.if-opens.true) in
    (sym (longer-longer at 2 _) ∙ ap (longer at) (sym step) ∙ c.loop-len.invariant.0, omega arith, omega arith)

pub loop-len-preserved-then-closes : goal.loop-len-preserved-then-closes
loop-len-preserved-then-closes c =
    let at = c.loop-len.len in
    let step = rest-closes c.loop-len.depth c.args.z.now at (omega arith) (sym c.opens.ensures ∙ c.if-opens.false) (sym c.closes.ensures ∙ c.if-closes.true) in
    let deep = cond-false _ _ _ (ne_eqb c.loop-len.depth 0 (λ e. omega arith)) in
    (sym (longer-longer at 2 _) ∙ ap (longer at) (sym (step ∙ deep)) ∙ c.loop-len.invariant.0, omega arith, omega arith)

pub loop-len-preserved : goal.loop-len-preserved
loop-len-preserved c =
    let at = c.loop-len.len in
    let step = rest-passes c.loop-len.depth c.args.z.now at (omega arith) (sym c.opens.ensures ∙ c.if-opens.false) (sym c.closes.ensures ∙ c.if-closes.false) in
    (sym (longer-longer at 1 _) ∙ ap (longer at) (sym step) ∙ c.loop-len.invariant.0, omega arith, omega arith)

pub returns-clause-value : goal.returns-clause-value
returns-clause-value c =
    ap (longer c.loop-len.len) (sym (rest-end c.loop-len.depth c.args.z.now c.loop-len.len (omega arith))) ∙ c.loop-len.invariant.0
