-- The rules by name.
use Rattle.std.specs.Prelude.{ℕ, Bool, true, false}
use Rattle.std.proofs.Common.{get_or}
use Rattle.core_expr.specs.Tree.{Tree}
use Rattle.seq_calculus.specs.Calculus.{Rule, Rule as rule}
use Rattle.seq_calculus.specs.Steps.{Reading, alone, of_one, of_two, of_three, of_lists, of_schema}
use Rattle.proof_checker.specs.declared.rule.Connective.{Connective}
use Rattle.proof_checker.specs.declared.rule.Connective.TheVariants.{AndL, AndR, OrL, OrR, ImpL, ImpR, IffL, IffR}
use Rattle.proof_checker.specs.declared.rule.RuleName.{RuleName}
use Rattle.proof_checker.specs.declared.rule.RuleName.TheVariants as name
use Rattle.proof_checker.specs.declared.rule.Plain.{Plain}
use Rattle.proof_checker.specs.declared.rule.Plain.TheVariants.{TrueR, FalseL, One, Two, AllL, ExR, Repl}
use Rattle.proof_checker.specs.declared.rule.Unary.{Unary}
use Rattle.proof_checker.specs.declared.rule.Unary.TheVariants.{Ax, Cut, NotL, NotR, AllR, ExL, Refl}
use Rattle.proof_checker.specs.declared.rule.TheConstants.{RULES}

-- the rule with this number
abbrev pub name_of : ℕ → RuleName
name_of r = get_or RULES r (name.Plain TrueR)

abbrev pub connective_rule : Connective → Tree → Tree → Rule
connective_rule AndL = rule.AndL
connective_rule AndR = rule.AndR
connective_rule OrL = rule.OrL
connective_rule OrR = rule.OrR
connective_rule ImpL = rule.ImpL
connective_rule ImpR = rule.ImpR
connective_rule IffL = rule.IffL
connective_rule IffR = rule.IffR

abbrev pub unary_rule : Unary → Tree → Rule
unary_rule Ax = rule.Ax
unary_rule Cut = rule.Cut
unary_rule NotL = rule.NotL
unary_rule NotR = rule.NotR
unary_rule AllR = rule.AllR
unary_rule ExL = rule.ExL
unary_rule Refl = rule.Refl

-- how a rule reads the numbers and expressions of its step
abbrev pub plain_reading : Plain → Reading
plain_reading TrueR = alone rule.TrueR
plain_reading FalseL = alone rule.FalseL
plain_reading (One u) = of_one (unary_rule u)
plain_reading (Two c) = of_two (connective_rule c)
plain_reading AllL = of_two rule.AllL
plain_reading ExR = of_two rule.ExR
plain_reading Repl = of_three rule.Repl

abbrev pub reading_of : RuleName → Reading
reading_of name.Weak = of_lists
reading_of name.Schema = of_schema
reading_of (name.Plain p) = plain_reading p

-- how many expressions a rule has
abbrev pub count_of : Plain → ℕ
count_of TrueR = 0
count_of FalseL = 0
count_of (One u) = 1
count_of (Two c) = 2
count_of AllL = 2
count_of ExR = 2
count_of Repl = 3

abbrev pub operand_count : RuleName → ℕ
operand_count (name.Plain p) = count_of p
operand_count _ = 0

abbrev pub is_weak : RuleName → Bool
is_weak name.Weak = true
is_weak _ = false

abbrev pub is_schema : RuleName → Bool
is_schema name.Schema = true
is_schema _ = false

-- the head number of the formula that a rule of a connective takes apart
abbrev pub head_of : Connective → ℕ
head_of AndL = 8
head_of AndR = 8
head_of OrL = 9
head_of OrR = 9
head_of ImpL = 10
head_of ImpR = 10
head_of IffL = 11
head_of IffR = 11

-- whether that formula stands on the left
abbrev pub is_left : Connective → Bool
is_left AndL = true
is_left OrL = true
is_left ImpL = true
is_left IffL = true
is_left _ = false
