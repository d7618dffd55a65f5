use Rattle.std.proofs.Common.{◌≡◌, ◌++◌, ◌∷◌, [], ◌-◌, take, rules, sym, ap, ◌∙◌, subst}
use Rattle.proof_writer.specs.Written.{IsWritten}
use Rattle.proof_writer.proofs.WrittenLaws.{fewer, taken_seen, last_taken}
use Rattle.proof_writer.specs.Written.{seen_of}
use Rattle.proof_writer.proofs.fields.take.Goals as goal

pub returns-clause-held : goal.returns-clause-held
returns-clause-held c =
    let f = c.args.fields.now in
    let e : f.unused.items ≡ c.pop.new.self.items ++ c.index-step.result.now ∷ [] = last_taken f.unused.items c.pop.new.self.items c.index-step.result.now c.len-last.result (search rules) c.requires.some (c.pop.ensures.rest ∙ ap (λ k. take (k - 1) f.unused.items) (sym c.len-last.ensures)) c.index-step.ensures in
    fewer (seen_of f.bank f.steps.items c.pop.new.self.items) (c.index-step.result.now ∷ []) (subst IsWritten (taken_seen f.bank f.steps.items f.unused.items c.pop.new.self.items c.index-step.result.now e) c.requires.held)

pub returns-clause-taken : goal.returns-clause-taken
returns-clause-taken c =
    let f = c.args.fields.now in
    let e : f.unused.items ≡ c.pop.new.self.items ++ c.index-step.result.now ∷ [] = last_taken f.unused.items c.pop.new.self.items c.index-step.result.now c.len-last.result (search rules) c.requires.some (c.pop.ensures.rest ∙ ap (λ k. take (k - 1) f.unused.items) (sym c.len-last.ensures)) c.index-step.ensures in
    taken_seen f.bank f.steps.items f.unused.items c.pop.new.self.items c.index-step.result.now e
