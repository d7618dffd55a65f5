-- What the code keeps of names, as levels and weights speak of it.
use Rattle.std.specs.Prelude.{◌≡◌, ℕ, Bool, List, [], Option, Some, None, get_or}
use Rattle.std.specs.Borrow.{Bor}
use Rattle.symbol_table.specs.declared.entry.Entry.{Entry}
use Rattle.symbol_table.specs.Scoped.{entry_of}
use Rattle.expression_level.specs.declared.weight.Use.{Use}
use Rattle.expression_level.specs.declared.weight.Change.{Change}
use Rattle.expression_level.specs.declared.weight.Change.TheVariants as change
use Rattle.expression_level.specs.Levels.{Levels}
use Rattle.expression_level.specs.Weights.{Known, depth_of, function_of, kept, capped_use, raised_use, unlimited, primed_use, named, passed}
use Rattle.expression_level.specs.Weights.Known.{arguments, defined}
use Rattle.expression_level.specs.declared.known.Definition.{Definition}

-- what a change makes of a use
abbrev pub changed : Change → Use → Use
changed change.Kept u = kept u
changed (change.Capped k) u = capped_use k u
changed change.Raised u = raised_use u
changed change.Unlimited u = unlimited u
changed change.Primed u = primed_use u
changed change.Named u = named u
changed (change.Passed v) u = passed v u

abbrev pub known_of : Option Definition → Known
known_of None = arguments
known_of (Some d) = defined d.depth d.least d.uses.items d.has_fault

-- what each number has, where these are kept
abbrev pub levels_of : List Known → Levels
levels_of ks n = function_of [] (get_or ks n arguments)

-- no parameters are bound round what is kept
abbrev pub AllClosed : List Known → Type 0
AllClosed ks = (n : ℕ) → depth_of (get_or ks n arguments) ≡ 0

-- which parameters the entry of a number primes
abbrev pub flags_of : List Entry → Option ℕ → List Bool
flags_of es None = []
flags_of es (Some n) = (entry_of es n).primed

-- a name that was found; one that was not has the level of its arguments
abbrev pub found : Option (Bor Known) → Known
found None = arguments
found (Some k) = k.now
