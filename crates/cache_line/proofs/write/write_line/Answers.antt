use Rattle.std.proofs.Common.{◌≡◌, ◌≤◌, ◌∙◌, ap, sym, subst}
use Rattle.std.specs.Prelude.{option_and_then}
use Rattle.serde_json.specs.Data.{Data, depth}
use Rattle.serde_json.specs.Read.{max_depth}
use Rattle.serde_json.specs.View.{view}
use Rattle.serde_json.specs.Written.{compact_text, has_float}
use Rattle.cache_line.specs.declared.line.Line.{Line}
use Rattle.cache_line.specs.Lines.{data_for, is_one_line, line_of, line_text}
use Rattle.cache_line.proofs.OneLine.{text_one}
use Rattle.cache_line.proofs.Texts.{no_float, shallow, line_back}
use Rattle.cache_line.proofs.write.write_line.Goals as goal

pub returns : goal.returns
unfolding line_text
returns c =
    let l : Line = record { key = c.args.key.now; obligation = c.args.obligation.now; proof = c.args.proof.now } in
    let is : view c.in_ok-value.value ≡ data_for l = c.in_ok-value.ensures in
    let said = c.in_ok-bytes.ensures in
    let back = said.reads_back (subst (λ (d : Data). depth d ≤ max_depth) (sym is) (shallow l)) in
    let text = said.text (ap has_float is ∙ no_float l) ∙ ap compact_text is in
    record {
      text = text;
      one_line = ap is_one_line text ∙ text_one l;
      read = record { utf8 = said.utf8; parts = ap (option_and_then line_of) back ∙ ap line_of is ∙ line_back l };
    }
