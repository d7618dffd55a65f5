-- Replacing by an equation.
use Rattle.core_expr.specs.Tree.{Tree, eq_}
use Rattle.core_expr.specs.Terms.{same}
use Rattle.seq_calculus.specs.Calculus.{Proof}
use Rattle.term_patterns.specs.Abstracted.{abstracted}
use Rattle.search_definition.specs.Terms.{if_so}
use Rattle.search_definition.specs.Plain.{Rewrite}
use Rattle.proof_writer.specs.Shapes.{replaced, mirror, with_schema}

-- s = t stands: t for s in f
abbrev pub put_for : Tree → Tree → Tree → Proof → Proof
put_for s t f p = replaced (abstracted s 0 f) s t p

-- the equation q stands, which says s = t or t = s
abbrev pub replace_by : Tree → Tree → Tree → Tree → Proof → Proof
replace_by q s t f p = if_so (same q (eq_ s t)) (put_for s t f p) (mirror t s (put_for s t f p))

-- the equation of a schema
abbrev pub rewrite_by : Rewrite → Tree → Proof → Proof
rewrite_by r f p = with_schema r.schema r.z r.params (put_for r.from r.to f p)
