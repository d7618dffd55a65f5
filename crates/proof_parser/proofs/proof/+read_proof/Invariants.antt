use Rattle.proof_parser.proofs.proof.+read_proof.Given as goal

abbrev pub decreases-read_proof : goal.decreases-read_proof
decreases-read_proof l = l.left
