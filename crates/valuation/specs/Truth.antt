-- Propositional formulas and their truth values.
use Rattle.std.specs.Prelude.{◌≡◌, Bool, true, false, List, [], ◌∷◌}
use Rattle.std.proofs.Common.{get_or}
use Rattle.core_expr.specs.declared.head.Sym.{Sym}
use Rattle.core_expr.specs.Tree.{Tree, true_, false_, not_, and_, or_, imp_, iff_}
use Rattle.core_expr.specs.Tree.Tree.{app}
use Rattle.core_expr.specs.Tree.Parts.{end}

abbrev pub both : Bool → Bool → Bool
both true y = y
both false y = false

-- built from TRUE, FALSE and symbols without arguments by the five connectives
abbrev pub is_propositional : Tree → Bool
is_propositional true_ = true
is_propositional false_ = true
is_propositional (app s end) = true
is_propositional (not_ a) = is_propositional a
is_propositional (and_ a b) = both (is_propositional a) (is_propositional b)
is_propositional (or_ a b) = both (is_propositional a) (is_propositional b)
is_propositional (imp_ a b) = both (is_propositional a) (is_propositional b)
is_propositional (iff_ a b) = both (is_propositional a) (is_propositional b)
is_propositional _ = false

abbrev pub are_propositional : List Tree → Bool
are_propositional [] = true
are_propositional (f ∷ fs) = both (is_propositional f) (are_propositional fs)

-- truth values
abbrev pub negated : Bool → Bool
negated true = false
negated false = true

abbrev pub one_holds : Bool → Bool → Bool
one_holds true y = true
one_holds false y = y

abbrev pub agreeing : Bool → Bool → Bool
agreeing true y = y
agreeing false y = negated y

-- a truth value for each symbol
abbrev pub Valuation : Type 0
Valuation = Sym → Bool

-- the truth value of a propositional formula under a valuation; another formula is taken as false
abbrev pub value_under : Valuation → Tree → Bool
value_under v true_ = true
value_under v false_ = false
value_under v (app s end) = v s
value_under v (not_ a) = negated (value_under v a)
value_under v (and_ a b) = both (value_under v a) (value_under v b)
value_under v (or_ a b) = one_holds (value_under v a) (value_under v b)
value_under v (imp_ a b) = one_holds (negated (value_under v a)) (value_under v b)
value_under v (iff_ a b) = agreeing (value_under v a) (value_under v b)
value_under v _ = false

abbrev pub AllHold : Valuation → List Tree → Type 0
AllHold v [] = Unit {0}
AllHold v (f ∷ fs) = (value_under v f ≡ true) × AllHold v fs

-- every fact is true and the goal is false
abbrev pub Falsifies : Valuation → List Tree → Tree → Type 0
Falsifies v facts goal = AllHold v facts × (value_under v goal ≡ false)

-- the test of the same
abbrev pub all_hold : Valuation → List Tree → Bool
all_hold v [] = true
all_hold v (f ∷ fs) = both (value_under v f) (all_hold v fs)

abbrev pub falsifies : Valuation → List Tree → Tree → Bool
falsifies v facts goal = both (all_hold v facts) (negated (value_under v goal))

-- the valuation that gives the i-th value to the symbol with the number i
abbrev pub by_number : List Bool → Valuation
by_number values s = get_or values s.number false
