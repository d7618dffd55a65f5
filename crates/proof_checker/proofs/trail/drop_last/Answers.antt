use Rattle.std.proofs.Common.{◌≡◌, ◌∷◌, [], ◌++◌, rules}
use Rattle.proof_checker.proofs.LatestLaws.{kept_pop}
use Rattle.proof_checker.proofs.trail.drop_last.Goals as goal

pub returns-in-Some-clause-kept : goal.returns-in-Some-clause-kept
returns-in-Some-clause-kept c =
    let e : c.args.kept.now.items ≡ c.pop.new.self.items ++ c.in-Some.field-0 ∷ [] = search rules in
    kept_pop c.args.kept.now.items c.pop.new.self.items c.args.latest.now.items c.in-Some.field-0 e c.requires.kept
