use Rattle.unify_meta.proofs.GroundLaws.{ground_ok}
use Rattle.unify_meta.proofs.ground.grounded.Goals as goal

pub returns-clause-ok : goal.returns-clause-ok
returns-clause-ok c = ground_ok c.moved.result c.args.bank.now c.ground_images.new.bank c.moved.new.bank c.args.metas.now c.args.spare c.args.e c.in_ok-images.images.entries c.ground_images.ensures.distinct c.ground_images.ensures.extends c.requires.spare c.requires.term c.in_ok-images.ensures.ok c.moved.ensures.ok
