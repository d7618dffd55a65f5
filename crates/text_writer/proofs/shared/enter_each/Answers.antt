use Rattle.proof_text.proofs.TableTrees.{below-at}
use Rattle.text_writer.proofs.shared.enter_each.Goals as goal

pub enter_at-requires-clause-root : goal.enter_at-requires-clause-root
enter_at-requires-clause-root c = below-at _ c.args.roots.now c.loop-root.root-index c.requires.roots c.loop-root-test.true
