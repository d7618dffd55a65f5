-- The order and the texts of the kinds of fault.
use Rattle.std.specs.Prelude.{ℕ, List, ◌∷◌, ◌++◌, Option, Some, None, codes}
use Rattle.tla_ast.specs.declared.fault.Kind.{Kind}
use Rattle.tla_ast.specs.declared.fault.Kind.TheVariants as kind

-- the number of a kind in the order of kinds
abbrev pub rank : Kind → ℕ
rank kind.TooLong = 0
rank kind.NoModule = 1
rank kind.BadByte = 2
rank kind.OpenComment = 3
rank kind.OpenString = 4
rank kind.NumberTooLarge = 5
rank kind.Expected = 6
rank kind.Precedence = 7
rank kind.TooDeep = 8
rank (kind.Unsupported w) = 9
rank kind.StepLevel = 10
rank kind.NoQed = 11
rank kind.NameMismatch = 12
rank (kind.Cycle w) = 13
rank kind.TooMany = 14
rank kind.UnknownStep = 15
rank kind.StepOutOfScope = 16
rank kind.DuplicateStep = 17
rank (kind.Unknown w) = 18
rank (kind.Redeclared w) = 19
rank (kind.Arity w) = 20
rank kind.Level = 21
rank kind.AssumeLevel = 22

-- the name of a kind
abbrev pub name_of : Kind → List ℕ
name_of kind.TooLong = codes "TooLong"
name_of kind.NoModule = codes "NoModule"
name_of kind.BadByte = codes "BadByte"
name_of kind.OpenComment = codes "OpenComment"
name_of kind.OpenString = codes "OpenString"
name_of kind.NumberTooLarge = codes "NumberTooLarge"
name_of kind.Expected = codes "Expected"
name_of kind.Precedence = codes "Precedence"
name_of kind.TooDeep = codes "TooDeep"
name_of (kind.Unsupported w) = codes "Unsupported"
name_of kind.StepLevel = codes "StepLevel"
name_of kind.NoQed = codes "NoQed"
name_of kind.NameMismatch = codes "NameMismatch"
name_of (kind.Cycle w) = codes "Cycle"
name_of kind.TooMany = codes "TooMany"
name_of kind.UnknownStep = codes "UnknownStep"
name_of kind.StepOutOfScope = codes "StepOutOfScope"
name_of kind.DuplicateStep = codes "DuplicateStep"
name_of (kind.Unknown w) = codes "Unknown"
name_of (kind.Redeclared w) = codes "Redeclared"
name_of (kind.Arity w) = codes "Arity"
name_of kind.Level = codes "Level"
name_of kind.AssumeLevel = codes "AssumeLevel"

-- the name that a kind carries
abbrev pub carried : Kind → Option (List ℕ)
carried (kind.Unsupported w) = Some w
carried (kind.Cycle w) = Some w
carried (kind.Unknown w) = Some w
carried (kind.Redeclared w) = Some w
carried (kind.Arity w) = Some w
carried _ = None

-- a name, then a space and what it carries
abbrev pub spelled : List ℕ → Option (List ℕ) → List ℕ
spelled name None = name
spelled name (Some w) = name ++ 32 ∷ w

-- the text of a kind
abbrev pub kind_text : Kind → List ℕ
kind_text k = spelled (name_of k) (carried k)
