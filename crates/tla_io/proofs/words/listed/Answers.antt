use Rattle.std.proofs.Common.{subst, sym, List, String, Global, Ok}
use Rattle.std.specs.Iterator.{DrainsIf}
use Rattle.std.specs.Vec.Iter.{into_iter_steps}
use Rattle.tla_io.specs.Files.{HasWords}
use Rattle.tla_io.proofs.words.listed.Goals as goal

pub returns-in_ok-collect-in-Ok : goal.returns-in_ok-collect-in-Ok
returns-in_ok-collect-in-Ok c =
    let ran = c.in_ok-collect-in-Ok.ensures.ran in
    let drained = subst (λ (xs : List (String Global)). DrainsIf into_iter_steps (Unit {0}) c.in-Ok.words xs) (sym ran.2.0) ran.1 in
    subst (λ words. HasWords words (Ok c.in_ok-collect-in-Ok.field-0)) (sym c.in-Ok.is) drained
