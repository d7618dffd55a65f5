use Rattle.std.proofs.Common.{◌≡◌, Option, IfOk, sym, subst, ◌∙◌}
use Rattle.core_expr.specs.Tree.{Tree}
use Rattle.seq_calculus.proofs.Dispatch.{named_instance, nameless_instance}
use Rattle.seq_calculus.proofs.instance.instance_of.Goals as goal

pub returns-in-Some : goal.returns-in-Some
returns-in-Some c =
    let k = rw c.as_slice.ensures.value at c.for_schema.ensures in
    subst (λ (y : Option Tree). IfOk c.for_schema.result (λ o. o ≡ y)) (named_instance c.args.schema c.args.number c.args.params.now.items c.in-Some.schema (sym c.schema_at.ensures ∙ c.in-Some.is)) k

pub returns-in-None : goal.returns-in-None
returns-in-None c = nameless_instance c.args.schema c.args.number c.args.params.now.items (sym c.schema_at.ensures ∙ c.in-None.is)
