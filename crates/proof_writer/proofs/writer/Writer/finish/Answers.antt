use Rattle.std.proofs.Common.{◌∙◌, sym, ap, subst, refl}
use Rattle.proof_writer.specs.Written.{Written, IsLast}
use Rattle.proof_writer.specs.Seen.{seen}
use Rattle.seq_calculus.specs.Steps.{proof_of}
use Rattle.proof_writer.proofs.WrittenLaws.{last_lists, finished}
use Rattle.proof_writer.proofs.TableLaws.{table_length}
use Rattle.proof_writer.proofs.writer.Writer.finish.Goals as goal

pub of-requires : goal.of-requires
of-requires c =
    let f = c.self.inside.fields in
    let ns = c.in_ok-nodes.nodes.items in
    last_lists (seen f) (record { nodes = ns; steps = f.steps.items }) refl (table_length ns f.bank c.in_ok-nodes.ensures.trees) c.in_ok-nodes.ensures.nodes c.self.invariant (subst IsLast (sym c.self.view_is) c.requires)

pub returns-clause-proof : goal.returns-clause-proof
returns-clause-proof c =
    let f = c.self.inside.fields in
    let ns = c.in_ok-nodes.nodes.items in
    ap proof_of c.of.ensures ∙ finished c.args.self (record { nodes = ns; steps = f.steps.items }) (ap (λ (w : Written). w.steps) c.self.view_is) (c.in_ok-nodes.ensures.trees ∙ ap (λ (w : Written). w.trees) c.self.view_is) c.requires
