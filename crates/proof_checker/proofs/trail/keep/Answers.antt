use Rattle.std.proofs.Common.{◌≡◌, ◌∷◌, [], ◌++◌, rules, length, get_or}
use Rattle.std.proofs.lemmas.List.{get_or_read}
use Rattle.proof_checker.specs.declared.trail.Kept.{Kept}
use Rattle.proof_checker.proofs.LatestLaws.{kept_push}
use Rattle.proof_checker.proofs.trail.keep.Goals as goal

pub returns-clause-kept : goal.returns-clause-kept
returns-clause-kept c =
    let k : Kept = record { item = c.args.item; before = c.index-before.result.now } in
    let e : c.push.new.self.items ≡ c.args.kept.now.items ++ k ∷ [] = search rules in
    let n : c.len.result ≡ length c.args.kept.now.items = search rules in
    let b : c.index-before.result.now ≡ get_or c.args.latest.now.items c.args.item 0 = get_or_read c.args.latest.now.items c.args.item _ c.requires.room (search rules) 0 in
    kept_push c.args.kept.now.items c.push.new.self.items c.args.latest.now.items c.len.result k e n b c.requires.room c.requires.kept
