use Rattle.std.proofs.Common.{ap, ◌∙◌}
use Rattle.rayon.proofs.ToStd.{slice-AllZip}
use Rattle.rayon.proofs.ListFacts.{AllZip-through}
use Rattle.cache_file.specs.Records.{IsAnswered}
use Rattle.cache_file.proofs.Keeping.{lines_read}
use Rattle.cache_file.proofs.read.read_all.Goals as goal

pub returns : goal.returns
returns g c =
    let slice = ap (λ it. it.slice.now) c.map.ensures.base ∙ c.par_iter.ensures in
    let h = c.in_ok-collect.ensures in
    let answers = slice-AllZip h.1.0 c.args.lines.now (h.1.1 ∙ slice) (λ l r. IsAnswered l.now r) h.0 h.1.2 in
    lines_read _ h.0 _ c.in_ok-collect.field-0 (AllZip-through (λ l. l.now) _ IsAnswered (λ l r p. p) _ _ answers) h.2
