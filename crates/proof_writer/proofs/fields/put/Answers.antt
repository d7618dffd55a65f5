use Rattle.std.proofs.Common.{◌≡◌, ◌++◌, ◌∷◌, [], length, rules}
use Rattle.seq_calculus.specs.declared.lists.ProofStep.{ProofStep}
use Rattle.proof_writer.proofs.WrittenLaws.{put_fewer, put_alone, put_held, grown_seen}
use Rattle.proof_writer.proofs.fields.put.Goals as goal

pub returns-in_err-push-clause-held : goal.returns-in_err-push-clause-held
returns-in_err-push-clause-held c =
    let f = c.args.fields.now in
    let e : c.push.new.self.items ≡ f.steps.items = search rules in
    put_fewer f.bank f.steps.items c.push.new.self.items f.unused.items c.args.premises e c.requires.held

pub returns-in_err-push-2-clause-held : goal.returns-in_err-push-2-clause-held
returns-in_err-push-2-clause-held c =
    let f = c.args.fields.now in
    let s : ProofStep = record { rule = c.args.rule; numbers = c.args.numbers; exprs = c.args.exprs; premises = c.args.premises } in
    let e : c.push.new.self.items ≡ f.steps.items ++ s ∷ [] = search rules in
    let g : c.push-2.new.self.items ≡ f.unused.items = search rules in
    put_alone f.bank f.steps.items c.push.new.self.items f.unused.items c.push-2.new.self.items s e g c.requires.held c.requires.form c.requires.below

pub returns-clause-held : goal.returns-clause-held
returns-clause-held c =
    let f = c.args.fields.now in
    let s : ProofStep = record { rule = c.args.rule; numbers = c.args.numbers; exprs = c.args.exprs; premises = c.args.premises } in
    let e : c.push.new.self.items ≡ f.steps.items ++ s ∷ [] = search rules in
    let n : c.len-at.result ≡ length f.steps.items = search rules in
    let g : c.push-2.new.self.items ≡ f.unused.items ++ c.len-at.result ∷ [] = search rules in
    put_held f.bank f.steps.items c.push.new.self.items f.unused.items c.push-2.new.self.items c.len-at.result s e n g c.requires.held c.requires.form c.requires.below

pub returns-clause-ok : goal.returns-clause-ok
returns-clause-ok c =
    let f = c.args.fields.now in
    let s : ProofStep = record { rule = c.args.rule; numbers = c.args.numbers; exprs = c.args.exprs; premises = c.args.premises } in
    let e : c.push.new.self.items ≡ f.steps.items ++ s ∷ [] = search rules in
    let n : c.len-at.result ≡ length f.steps.items = search rules in
    let g : c.push-2.new.self.items ≡ f.unused.items ++ c.len-at.result ∷ [] = search rules in
    grown_seen f.bank f.steps.items c.push.new.self.items f.unused.items c.push-2.new.self.items c.len-at.result s e n g
