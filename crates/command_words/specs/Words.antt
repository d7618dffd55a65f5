-- The command, as clap reads it, when it takes the words, and the texts and numbers in them.
use Rattle.std.specs.Prelude.{◌≡◌, ℕ, ◌≤◌, pos, true, false, List, [], codes, Some, None, Option}
use Rattle.std.specs.Str.Parse.{IsNumeral, digits_value, without_leading_plus}
use Rattle.clap.specs.Words.{App, Rule, Row, Text, new_app, new_rule, rule_of, with_rule, matches_of, fault_of}
use Rattle.clap.specs.declared.builder.arg.Arg.{Arg}
use Rattle.clap.specs.declared.builder.action.ArgAction.TheVariants.{Set, SetTrue}
use Rattle.clap.specs.declared.builder.value_parser.ValueParser.TheVariants as vp
use Rattle.clap.specs.declared.builder.value_parser.ValueParser.{ValueParser}

-- the argument follows the rule
abbrev pub IsRule : Rule → Arg → Type 0
IsRule rule arg = (rule_of arg ≡ rule) × (arg.global ≡ false)

-- an option with a number
abbrev pub number_rule : Text → ValueParser → Rule
number_rule name parser = record (new_rule name) { long = Some name; action = Some Set; parser = Some parser }

-- an option with a text
abbrev pub text_rule : Text → Rule
text_rule name = record (new_rule name) { long = Some name; action = Some Set }

-- an option that is there or not
abbrev pub flag_rule : Text → Rule
flag_rule name = record (new_rule name) { long = Some name; action = Some SetTrue }

-- the module, which has to be there
abbrev pub module_rule : Rule
module_rule = record (new_rule (codes "module")) { action = Some Set; required = true }

-- a command without arguments, with help and version off
abbrev pub bare_app : App
bare_app = let a = new_app (codes "tla_prove") in record a { top = record a.top { disable_help_flag = true; disable_version_flag = true } }

-- an option with a number from 1 to the greatest
abbrev pub number : Text → ℕ → Rule
number name greatest = number_rule name (vp.Signed (pos 1) (pos greatest))

-- the command: MODULE [--turns N] [--workers N] [--demo N] [--stop] [--json] [--cache FILE]
unfoldable pub command_app : App
command_app =
    with_rule (with_rule (with_rule (with_rule (with_rule (with_rule (with_rule bare_app module_rule) (number (codes "turns") 1000000)) (number (codes "workers") 64)) (number (codes "demo") 1000)) (flag_rule (codes "stop"))) (flag_rule (codes "json")))
    (text_rule (codes "cache"))

-- the command has matches for the words
unfoldable pub IsTaken : List Text → Type 0
IsTaken words = fault_of command_app words ≡ []

-- what the command finds in the words
unfoldable pub rows : List Text → List Row
rows = matches_of command_app

-- the number that a text gives: a decimal numeral, perhaps behind a plus, from 1 to the greatest; without a text the other one
abbrev pub IsNumber : ℕ → ℕ → Option (List ℕ) → ℕ → Type 0
IsNumber other greatest None n = n ≡ other
IsNumber other greatest (Some t) n = IsNumeral 10 (without_leading_plus t) × (digits_value 10 (without_leading_plus t) ≡ n) × (1 ≤ n) × (n ≤ greatest)
