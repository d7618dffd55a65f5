use Rattle.std.proofs.Common.{[], sym, append-nil}
use Rattle.term_bank.proofs.InstLaws.{Extends-trans}
use Rattle.unify_meta.proofs.GroundLaws.{ground_none, ground_more, ground_all}
use Rattle.unify_meta.proofs.ground.ground_images.Goals as goal

pub loop-meta-init : goal.loop-meta-init
loop-meta-init c =
    record {
      ground = ground_none c.args.bank.now c.args.metas.now c.args.spare c.new-images.result.entries c.requires c.new-images.ensures.empty;
      extends = ([], sym (append-nil c.args.bank.now));
      distinct = c.count.ensures.distinct;
    }

pub loop-meta-preserved : goal.loop-meta-preserved
loop-meta-preserved c =
    record {
      ground = ground_more c.loop-meta.bank c.make.new.self c.args.metas.now c.loop-meta.meta-index c.in_ok-node.node c.args.spare c.loop-meta.images.entries c.keep.new.images.entries c.make.ensures.extends c.loop-meta-test.true c.in_ok-node.ensures.ok c.in_ok-keep.ensures c.loop-meta.invariant.ground;
      extends = Extends-trans c.args.bank.now c.loop-meta.bank c.make.new.self c.loop-meta.invariant.extends c.make.ensures.extends;
      distinct = c.make.ensures.distinct;
    }

pub returns-clause-ok : goal.returns-clause-ok
returns-clause-ok c = ground_all c.loop-meta.bank c.args.metas.now c.loop-meta.meta-index c.args.spare c.loop-meta.images.entries c.loop-meta-test.false c.loop-meta.invariant.ground
