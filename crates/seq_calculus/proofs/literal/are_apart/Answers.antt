use Rattle.std.proofs.Common.{◌≡◌, true, sym, ap, ◌∙◌, rules}
use Rattle.core_expr.specs.Places.{kind_of}
use Rattle.seq_calculus.specs.Literals.{is_literal}
use Rattle.seq_calculus.proofs.Lone.{apart_tested, apart_roots, apart_other}
use Rattle.seq_calculus.proofs.literal.are_apart.Goals as goal

pub returns-then-eq : goal.returns-then-eq
returns-then-eq c =
    let e : c.root.result ≡ c.root-kind.result = search rules in
    let k : is_literal (kind_of c.args.l.now) ≡ true = ap is_literal (sym c.root-kind.ensures.kind) ∙ sym c.is_literal.ensures ∙ c.if-not-is_literal.false in
    apart_tested c.args.l.now c.args.m.now c.same.result c.root-kind.ensures.formed c.root.ensures.formed k (sym c.root.ensures.kind ∙ e ∙ c.root-kind.ensures.kind) c.same.ensures

pub returns-else-eq : goal.returns-else-eq
returns-else-eq c =
    let n : ¬ (c.root.result ≡ c.root-kind.result) = search rules in
    let k = apart_roots c.args.l.now c.args.m.now (λ e. n (c.root.ensures.kind ∙ e ∙ sym c.root-kind.ensures.kind)) in
    rw (sym c.if-eq.false) at k

pub returns-then-not-is_literal : goal.returns-then-not-is_literal
returns-then-not-is_literal c = apart_other c.args.l.now c.args.m.now (ap is_literal (sym c.root-kind.ensures.kind) ∙ sym c.is_literal.ensures ∙ c.if-not-is_literal.true)
