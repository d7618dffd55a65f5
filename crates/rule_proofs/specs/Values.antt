-- Values and reasons as code has them.
use Rattle.std.specs.Prelude.{Bool, true, false}
use Rattle.core_expr.specs.Tree.{Tree, not_, num_, str_}
use Rattle.search_definition.specs.Terms.{if_so}
use Rattle.search_definition.specs.Branches.{Branch, has}
use Rattle.search_definition.specs.Values.{Truth, Whole, is_plainly_false, has_not_mirror}
use Rattle.search_definition.specs.Values.Truth.{Yes as TheYes, No as TheNo, Unknown as TheUnknown}
use Rattle.search_definition.specs.Values.Whole.{Stands as TheStands, ByItself as TheByItself, Mirrored as TheMirrored, NotStands as TheNotStands, FalseItself as TheFalseItself, NotMirrored as TheNotMirrored, Undecided as TheUndecided}
use Rattle.rule_proofs.specs.declared.value.Value.{Value}
use Rattle.rule_proofs.specs.declared.value.Value.TheVariants.{Yes, No, Unknown}
use Rattle.rule_proofs.specs.declared.value.Reason.{Reason}
use Rattle.rule_proofs.specs.declared.value.Reason.TheVariants.{Stands, ByItself, Mirrored, NotStands, FalseItself, NotMirrored, Undecided}

-- the value
abbrev pub truth_of : Value → Truth
truth_of Yes = TheYes
truth_of No = TheNo
truth_of Unknown = TheUnknown

-- the reason
abbrev pub whole_of : Reason → Whole
whole_of Stands = TheStands
whole_of ByItself = TheByItself
whole_of Mirrored = TheMirrored
whole_of NotStands = TheNotStands
whole_of FalseItself = TheFalseItself
whole_of NotMirrored = TheNotMirrored
whole_of Undecided = TheUndecided

-- the first reason against the formula that fits
abbrev pub whole_against : Branch → Tree → Whole
whole_against b f = if_so (has b (not_ f)) TheNotStands (if_so (is_plainly_false f) TheFalseItself (if_so (has_not_mirror b f) TheNotMirrored TheUndecided))

-- the kinds of literals
abbrev pub is_numeral : Tree → Bool
is_numeral (num_ a b) = true
is_numeral _ = false

abbrev pub is_text : Tree → Bool
is_text (str_ a) = true
is_text _ = false
