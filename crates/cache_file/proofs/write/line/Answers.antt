use Rattle.std.proofs.Common.{◌≡◌, ◌∙◌, ap, subst, sym}
use Rattle.std.specs.Str.{IsUtf8}
use Rattle.proof_text.specs.Key.{key_of}
use Rattle.cache_line.specs.declared.line.Line.{Line}
use Rattle.proof_cache.specs.declared.record.Record.{Record}
use Rattle.cache_file.specs.Written.{written_parts}
use Rattle.cache_file.proofs.KeyText.{key_text, text_read}
use Rattle.cache_file.proofs.WriteLaws.{written_by}
use Rattle.cache_file.proofs.write.line.Goals as goal

pub unwrap-key-requires : goal.unwrap-key-requires
unwrap-key-requires c = text_read _ _ _ c.from_utf8.result c.from_utf8.ensures.cases (subst IsUtf8 (sym (c.bytes.ensures ∙ c.in_ok-key.ensures)) (key_text _))

pub returns : goal.returns
returns c =
    let form = c.in_ok-form.ensures in
    let text = (rw c.unwrap-key.ensures at c.from_utf8.ensures.cases).0 in
    let key = text ∙ c.bytes.ensures ∙ c.in_ok-key.ensures ∙ ap key_of (c.as_slice.ensures ∙ form) in
    let obligation = c.as_slice-2.ensures ∙ form in
    let proof = c.as_slice-3.ensures ∙ c.in_ok-list.ensures in
    let r : Record = record { canon = c.args.job.now; proof = c.args.proof.now } in
    let l : Line = record { key = c.unwrap-key.result.now; obligation = c.as_slice-2.result.now; proof = c.as_slice-3.result.now } in
    let same : l ≡ written_parts r = λ i. record { key = key i; obligation = obligation i; proof = proof i } in
    written_by r l same c.nodes.ensures.lists c.write_line.result c.write_line.ensures.text c.write_line.ensures.one_line c.write_line.ensures.read
