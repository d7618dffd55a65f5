-- A proof that is missing has no step names.
use Rattle.std.proofs.Common.{◌≡◌, [], ap}
use Rattle.std.specs.Prelude.{Ok}
use Rattle.tla_ast.specs.declared.unit.Proof.{Proof as source}
use Rattle.plain_syntax.specs.Syntax.{proof_of as plain_proof}
use Rattle.proof_outline.specs.Outline.{outline}
use Rattle.theorem_leaves.proofs.Proofs.{is-missing}

pub none_cited : (p : source) → p ≡ source.Missing → outline (plain_proof p) ≡ Ok []
unfolding outline
none_cited p e = ap outline (is-missing p e)
