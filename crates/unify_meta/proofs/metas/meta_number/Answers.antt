use Rattle.std.proofs.Common.{arith, sym, ◌∙◌}
use Rattle.std.proofs.lemmas.Bool.Decides.{nat_tests}
use Rattle.term_bank.specs.Slots.{node_of}
use Rattle.unify_meta.specs.Metas.{symbols}
use Rattle.unify_meta.proofs.MetaLaws.{no_symbol, no_constant}
use Rattle.unify_meta.proofs.metas.meta_number.Goals as goal

pub returns-then-node-ne-SYMBOL : goal.returns-then-node-ne-SYMBOL
returns-then-node-ne-SYMBOL c =
    λ ts i g. no_symbol (symbols c.args.metas.now) ts i (node_of c.args.node.now) g c.if-node-ne-SYMBOL.true

pub returns-then-not-is_empty : goal.returns-then-not-is_empty
returns-then-not-is_empty c =
    let e = sym c.is_empty.ensures ∙ c.if-not-is_empty.true in
    λ ts i g. no_constant (symbols c.args.metas.now) ts i (node_of c.args.node.now) g (λ z. grind (arith, nat_tests, e, z))
