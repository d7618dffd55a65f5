use Rattle.std.proofs.Common.{take}
use Rattle.term_bank.specs.Banks.{IsDistinct, Extends}
use Rattle.unify_meta.specs.Grounds.{AreGround}
use Rattle.unify_meta.proofs.ground.ground_images.Given as goal

abbrev pub invariant-loop-meta : goal.invariant-loop-meta
invariant-loop-meta l =
    record {
      ground : AreGround l.bank (take l.meta-index l.metas) l.spare l.images.entries;
      extends : Extends l.initial.bank l.bank;
      distinct : IsDistinct l.bank;
    }
