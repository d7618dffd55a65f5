use Rattle.leaf_prover.proofs.Fresh.{above_is, unused_is}
use Rattle.leaf_prover.proofs.unused.unused_symbols.Goals as goal

pub returns-clause-fresh : goal.returns-clause-fresh
returns-clause-fresh c =
    unused_is c.args.canon.now.facts c.args.canon.now.goal c.in_ok-symbols.symbols.keys c.len-spare.result c.larger.result c.in_ok-above.above c.in_ok-symbols.ensures c.len-spare.ensures.len c.in_ok-above.ensures
    c.larger.ensures

pub returns-clause-above : goal.returns-clause-above
returns-clause-above c = above_is c.args.canon.now.facts c.args.canon.now.goal c.in_ok-symbols.symbols.keys c.in_ok-above.above c.in_ok-symbols.ensures c.in_ok-above.ensures
