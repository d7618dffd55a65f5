use Rattle.std.proofs.Common.{◌<◌, ◌++◌, ◌∷◌, [], ◌∙◌, length, ap, sym, arith, append_assoc}
use Rattle.std.proofs.lemmas.List.{length-append}
use Rattle.cache_file.proofs.read.keep_all.Goals as goal

pub loop-read-preserved : goal.loop-read-preserved
loop-read-preserved c =
    let inv = c.loop-read.invariant in
    let ys = c.loop-read.yielded in
    let few : length ys < 18446744073709551615 = omega (arith, c.args.reads.ok, c.args.reads.small, ap length inv.rest, length-append ys c.loop-read.read-iterator.rest.items) in
    record {
      rest = append_assoc ys (c.in-Some.read ∷ []) _ ∙ ap (λ zs. ys ++ zs) (sym c.in-Some.ensures.steps.0) ∙ inv.rest;
      held = c.in_ok-keep.ensures ys few inv.held;
    }
