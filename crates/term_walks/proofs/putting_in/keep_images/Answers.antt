use Rattle.std.proofs.Common.{arith, [], length, ◌-◌, drop, get_or, append-nil, sym}
use Rattle.std.proofs.lemmas.List.{drop_all}
use Rattle.term_bank.proofs.InstLaws.{Extends-trans}
use Rattle.term_walks.specs.Walks.{given}
use Rattle.term_walks.proofs.MoveLaws.{moved_first, moved_turn, kept_within, kept_still, node_at}
use Rattle.term_walks.proofs.putting_in.keep_images.Goals as goal

pub loop-k-init : goal.loop-k-init
loop-k-init c =
    record {
      moved = moved_first c.args.bank.now c.args.images.entries (drop (length c.args.done.now - 0) c.args.done.now) c.count.ensures.distinct c.requires.images (drop_all (length c.args.done.now - 0) c.args.done.now (omega arith));
      within = c.requires.images;
      extends = ([], sym (append-nil c.args.bank.now));
      distinct = c.count.ensures.distinct;
      still = λ q h. h;
    }

pub keep_image-requires-clause-node : goal.keep_image-requires-clause-node
keep_image-requires-clause-node c =
    let l = c.loop-k-test.true in
    node_at c.args.bank.now c.loop-k.bank c.args.images.entries c.args.e c.args.done.now (length c.args.done.now - 1 - c.loop-k.k) c.loop-k.invariant.extends c.requires.walk (omega (arith, l))

pub loop-k-preserved : goal.loop-k-preserved
loop-k-preserved c =
    let l = c.loop-k-test.true in
    let i = get_or c.args.done.now (length c.args.done.now - 1 - c.loop-k.k) 0 in
    let ts = c.args.bank.now in
    let now = c.loop-k.bank in
    let new = c.keep_image.new.bank in
    let old = c.loop-k.images.entries in
    let next = c.keep_image.new.images.entries in
    record {
      moved = moved_turn ts now new (given ts c.args.images.entries) c.args.images.entries old next c.args.e c.args.done.now c.loop-k.k c.loop-k.invariant.extends c.keep_image.ensures.extends c.requires.walk c.loop-k.invariant.still l c.loop-k.invariant.moved c.in_ok-keep_image.ensures.ok;
      within = kept_within now new i old next c.keep_image.ensures.extends (node_at ts now c.args.images.entries c.args.e c.args.done.now (length c.args.done.now - 1 - c.loop-k.k) c.loop-k.invariant.extends c.requires.walk (omega (arith, l))) c.loop-k.invariant.within c.in_ok-keep_image.ensures.ok;
      extends = Extends-trans ts now new c.loop-k.invariant.extends c.keep_image.ensures.extends;
      distinct = c.keep_image.ensures.distinct;
      still = λ q h. c.loop-k.invariant.still q (kept_still now new i old next c.in_ok-keep_image.ensures.ok q h);
    }
