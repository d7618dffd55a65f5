-- The schemas by name.
use Rattle.std.specs.Prelude.{ℕ, zero, suc, Option, None, slice_get}
use Rattle.core_expr.specs.Tree.{Tree}
use Rattle.seq_calculus.specs.Schemas.{Row, unnumbered, of_one, of_two, of_three, of_four, about_boolean, about_choice, about_power, about_union, about_subset, about_extensionality, about_domain, about_cup, about_cap, about_difference, about_filter, about_image, about_then, about_otherwise, about_application, about_function_set, about_except, about_functions, row1, row20, row21, row22}
use Rattle.seq_calculus.specs.declared.schema.OfOne.{OfOne}
use Rattle.seq_calculus.specs.declared.schema.OfOne.TheVariants.{Boolean, Choice}
use Rattle.seq_calculus.specs.declared.schema.OfTwo.{OfTwo}
use Rattle.seq_calculus.specs.declared.schema.OfTwo.TheVariants.{Power, Union, Subset, Extensionality, Domain}
use Rattle.seq_calculus.specs.declared.schema.OfThree.{OfThree}
use Rattle.seq_calculus.specs.declared.schema.OfThree.TheVariants.{Cup, Cap, Difference, Filter, Image, Then, Otherwise, Application, FunctionSet, Except}
use Rattle.seq_calculus.specs.declared.schema.Schema.{Schema}
use Rattle.seq_calculus.specs.declared.schema.Schema.TheVariants.{Enumeration, One, Two, Three, FunctionEquality, TupleEquality, TupleEntry, Literals}
use Rattle.seq_calculus.specs.declared.schema.TheConstants.{SCHEMAS}

-- the schema with this number, from 1
abbrev pub schema_numbered : ℕ → Option Schema
schema_numbered zero = None
schema_numbered (suc k) = slice_get SCHEMAS k

-- the formulas of the schemas
abbrev pub formula_of_one : OfOne → Tree → Tree
formula_of_one Boolean = about_boolean
formula_of_one Choice = about_choice

abbrev pub formula_of_two : OfTwo → Tree → Tree → Tree
formula_of_two Power = about_power
formula_of_two Union = about_union
formula_of_two Subset = about_subset
formula_of_two Extensionality = about_extensionality
formula_of_two Domain = about_domain

abbrev pub formula_of_three : OfThree → Tree → Tree → Tree → Tree
formula_of_three Cup = about_cup
formula_of_three Cap = about_cap
formula_of_three Difference = about_difference
formula_of_three Filter = about_filter
formula_of_three Image = about_image
formula_of_three Then = about_then
formula_of_three Otherwise = about_otherwise
formula_of_three Application = about_application
formula_of_three FunctionSet = about_function_set
formula_of_three Except = about_except

-- the rows of the schemas
abbrev pub row_of : Schema → Row
row_of Enumeration = unnumbered row1
row_of (One s) = unnumbered (of_one (formula_of_one s))
row_of (Two s) = unnumbered (of_two (formula_of_two s))
row_of (Three s) = unnumbered (of_three (formula_of_three s))
row_of FunctionEquality = unnumbered (of_four about_functions)
row_of TupleEquality = row20
row_of TupleEntry = row21
row_of Literals = unnumbered row22
