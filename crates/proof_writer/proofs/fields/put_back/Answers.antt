use Rattle.std.proofs.Common.{◌≡◌, ◌++◌, ◌∷◌, [], sym, subst, rules}
use Rattle.proof_writer.specs.Written.{IsWritten}
use Rattle.proof_writer.proofs.WrittenLaws.{back_seen, unchanged_held}
use Rattle.proof_writer.proofs.fields.put_back.Goals as goal

pub returns-in_err-push-clause-held : goal.returns-in_err-push-clause-held
returns-in_err-push-clause-held c =
    let f = c.args.fields.now in
    let e : c.push.new.self.items ≡ f.unused.items = search rules in
    unchanged_held f.bank f.steps.items f.unused.items c.push.new.self.items (c.args.step ∷ []) e c.requires

pub returns-clause-held : goal.returns-clause-held
returns-clause-held c =
    let f = c.args.fields.now in
    let e : c.push.new.self.items ≡ f.unused.items ++ c.args.step ∷ [] = search rules in
    subst IsWritten (sym (back_seen f.bank f.steps.items f.unused.items c.push.new.self.items c.args.step e)) c.requires

pub returns-clause-ok : goal.returns-clause-ok
returns-clause-ok c =
    let f = c.args.fields.now in
    let e : c.push.new.self.items ≡ f.unused.items ++ c.args.step ∷ [] = search rules in
    back_seen f.bank f.steps.items f.unused.items c.push.new.self.items c.args.step e
