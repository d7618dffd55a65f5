use Rattle.std.proofs.Common.{◌≡◌, ap, sym, ◌∙◌, take, map, length}
use Rattle.std.proofs.lemmas.List.{take-map}
use Rattle.branch_book.specs.States.{undone, Seen}
use Rattle.branch_state.specs.Parts.{core_of}
use Rattle.branch_state.proofs.parts.take_back.Goals as goal

pub returns : goal.returns
returns c =
    let k = core_of c.args.parts.now in
    let p : c.undo.new.self ≡ undone k.book c.args.mark = c.undo.ensures in
    let n = c.length-length.ensures ∙ ap (λ (b : Seen). length b.now) p in
    let q : c.truncate.new.self.items ≡ take (length (undone k.book c.args.mark).now) k.links = c.truncate.ensures.items ∙ ap (λ m. take m k.links) n in
    let r : map (λ v. v.items) c.truncate-2.new.self.items ≡ take c.args.sets k.sets = ap (map (λ v. v.items)) c.truncate-2.ensures.items ∙ sym (take-map (λ v. v.items) c.args.sets c.args.parts.now.sets.items) in
    λ i. record { book = p i; links = q i; sets = r i; waits = k.waits }
