-- The values of symbols, as a report shows them.
use Rattle.std.specs.Prelude.{Bool, true, false, List, [], ◌∷◌, ◌++◌, codes}
use Rattle.core_expr.specs.declared.head.Sym.{Sym}
use Rattle.core_expr.specs.declared.head.SymKind.{SymKind}
use Rattle.core_expr.specs.declared.head.SymKind.TheVariants as sym
use Rattle.symbol_table.specs.declared.entry.Entry.{Entry}
use Rattle.symbol_table.specs.Scoped.{entry_of}
use Rattle.tla_io.specs.Told.{Bytes}

abbrev pub truth_text : Bool → Bytes
truth_text true = codes "TRUE"
truth_text false = codes "FALSE"

-- what is printed behind the name of a symbol
abbrev pub prime_text : SymKind → Bytes
prime_text sym.Primed = codes "'"
prime_text sym.DefinedPrimed = codes "'"
prime_text _ = []

-- a symbol's name, with `'` where it is primed
abbrev pub symbol_text : List Entry → Sym → Bytes
symbol_text es s = (entry_of es s.number).name ++ prime_text s.kind

-- a symbol's name and its value
abbrev pub value_text : Bytes → Bool → Bytes
value_text name value = name ++ codes " = " ++ truth_text value

-- names and their values, each after a comma and a blank
abbrev pub more_values : List Bytes → List Bool → Bytes
more_values [] values = []
more_values (name ∷ names) [] = []
more_values (name ∷ names) (value ∷ values) = codes ", " ++ value_text name value ++ more_values names values

-- names and their values, with a comma and a blank between each two
abbrev pub valuation_text : List Bytes → List Bool → Bytes
valuation_text [] values = []
valuation_text (name ∷ names) [] = []
valuation_text (name ∷ names) (value ∷ values) = value_text name value ++ more_values names values
