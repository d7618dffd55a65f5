-- Schemas by how many parameters there are.
use Rattle.std.specs.Prelude.{◌≡◌, ℕ, zero, suc, Some, None, List, [], ◌∷◌, length}
use Rattle.std.proofs.Common.{refl, ap, sym, ◌∙◌, arith, get_or}
use Rattle.core_expr.specs.Tree.{Tree}
use Rattle.seq_calculus.specs.Schemas.{Row, if_closed, closed_instance, of_one, of_two, of_three, of_four, row22}
use Rattle.seq_calculus.specs.Families.{schema_numbered, row_of}
use Rattle.seq_calculus.specs.declared.schema.Schema.{Schema}
use Rattle.seq_calculus.specs.declared.schema.Schema.TheVariants.{Enumeration, One, Two, Three, FunctionEquality, TupleEquality, TupleEntry, Literals}
use Rattle.seq_calculus.proofs.Named.{instance_named, row_if}

-- the row of so many parameters at a list of as many, and at any other
pub one_row : (f : Tree → Tree) (ps : List Tree) (x : Tree) → length ps ≡ 1 → x ≡ get_or ps 0 x → of_one f 0 ps ≡ Some (f x)
one_row f [] x h e = absurd (omega arith)
one_row f (a ∷ []) x h e = ap (λ y. Some (f y)) (sym e)
one_row f (a ∷ b ∷ ps) x h e = absurd (omega arith)

pub one_other : (f : Tree → Tree) (ps : List Tree) → ¬ (length ps ≡ 1) → of_one f 0 ps ≡ None
one_other f [] n = refl
one_other f (a ∷ []) n = absurd (n refl)
one_other f (a ∷ b ∷ ps) n = refl

pub two_row : (f : Tree → Tree → Tree) (ps : List Tree) (x y : Tree) → length ps ≡ 2 → x ≡ get_or ps 0 x → y ≡ get_or ps 1 y → of_two f 0 ps ≡ Some (f x y)
two_row f [] x y h e g = absurd (omega arith)
two_row f (a ∷ []) x y h e g = absurd (omega arith)
two_row f (a ∷ b ∷ []) x y h e g = λ i. Some (f (sym e i) (sym g i))
two_row f (a ∷ b ∷ c ∷ ps) x y h e g = absurd (omega arith)

pub two_other : (f : Tree → Tree → Tree) (ps : List Tree) → ¬ (length ps ≡ 2) → of_two f 0 ps ≡ None
two_other f [] n = refl
two_other f (a ∷ []) n = refl
two_other f (a ∷ b ∷ []) n = absurd (n refl)
two_other f (a ∷ b ∷ c ∷ ps) n = refl

pub three_row : (f : Tree → Tree → Tree → Tree) (ps : List Tree) (x y z : Tree) → length ps ≡ 3 → x ≡ get_or ps 0 x → y ≡ get_or ps 1 y → z ≡ get_or ps 2 z → of_three f 0 ps ≡ Some (f x y z)
three_row f [] x y z h e g k = absurd (omega arith)
three_row f (a ∷ []) x y z h e g k = absurd (omega arith)
three_row f (a ∷ b ∷ []) x y z h e g k = absurd (omega arith)
three_row f (a ∷ b ∷ c ∷ []) x y z h e g k = λ i. Some (f (sym e i) (sym g i) (sym k i))
three_row f (a ∷ b ∷ c ∷ d ∷ ps) x y z h e g k = absurd (omega arith)

pub three_other : (f : Tree → Tree → Tree → Tree) (ps : List Tree) → ¬ (length ps ≡ 3) → of_three f 0 ps ≡ None
three_other f [] n = refl
three_other f (a ∷ []) n = refl
three_other f (a ∷ b ∷ []) n = refl
three_other f (a ∷ b ∷ c ∷ []) n = absurd (n refl)
three_other f (a ∷ b ∷ c ∷ d ∷ ps) n = refl

pub four_row : (f : Tree → Tree → Tree → Tree → Tree) (ps : List Tree) (x y z w : Tree) → length ps ≡ 4 → x ≡ get_or ps 0 x → y ≡ get_or ps 1 y → z ≡ get_or ps 2 z → w ≡ get_or ps 3 w → of_four f 0 ps ≡ Some (f x y z w)
four_row f [] x y z w h e g k l = absurd (omega arith)
four_row f (a ∷ []) x y z w h e g k l = absurd (omega arith)
four_row f (a ∷ b ∷ []) x y z w h e g k l = absurd (omega arith)
four_row f (a ∷ b ∷ c ∷ []) x y z w h e g k l = absurd (omega arith)
four_row f (a ∷ b ∷ c ∷ d ∷ []) x y z w h e g k l = λ i. Some (f (sym e i) (sym g i) (sym k i) (sym l i))
four_row f (a ∷ b ∷ c ∷ d ∷ u ∷ ps) x y z w h e g k l = absurd (omega arith)

pub four_other : (f : Tree → Tree → Tree → Tree → Tree) (ps : List Tree) → ¬ (length ps ≡ 4) → of_four f 0 ps ≡ None
four_other f [] n = refl
four_other f (a ∷ []) n = refl
four_other f (a ∷ b ∷ []) n = refl
four_other f (a ∷ b ∷ c ∷ []) n = refl
four_other f (a ∷ b ∷ c ∷ d ∷ []) n = absurd (n refl)
four_other f (a ∷ b ∷ c ∷ d ∷ e ∷ ps) n = refl

pub literals_row : (ps : List Tree) (x y : Tree) → length ps ≡ 2 → x ≡ get_or ps 0 x → y ≡ get_or ps 1 y → row22 0 ps ≡ row22 0 (x ∷ y ∷ [])
literals_row [] x y h e g = absurd (omega arith)
literals_row (a ∷ []) x y h e g = absurd (omega arith)
literals_row (a ∷ b ∷ []) x y h e g = λ i. row22 0 (sym e i ∷ sym g i ∷ [])
literals_row (a ∷ b ∷ c ∷ ps) x y h e g = absurd (omega arith)

pub literals_other : (ps : List Tree) → ¬ (length ps ≡ 2) → row22 0 ps ≡ None
literals_other [] n = refl
literals_other (a ∷ []) n = refl
literals_other (a ∷ b ∷ []) n = absurd (n refl)
literals_other (a ∷ b ∷ c ∷ ps) n = refl

-- a number where the row has none
pub numbered_none : (s : Schema) (z : ℕ) (ps : List Tree) → ¬ (z ≡ 0) → ¬ (s ≡ TupleEquality) → ¬ (s ≡ TupleEntry) → if_closed (row_of s z ps) ≡ None
numbered_none s zero ps n h k = absurd (n refl)
numbered_none Enumeration (suc z) ps n h k = refl
numbered_none (One s) (suc z) ps n h k = refl
numbered_none (Two s) (suc z) ps n h k = refl
numbered_none (Three s) (suc z) ps n h k = refl
numbered_none FunctionEquality (suc z) ps n h k = refl
numbered_none TupleEquality (suc z) ps n h k = absurd (h refl)
numbered_none TupleEntry (suc z) ps n h k = absurd (k refl)
numbered_none Literals (suc z) ps n h k = refl

-- the closed instance of a schema that has a name, and of a number that has none
pub named_instance : (k z : ℕ) (ps : List Tree) (s : Schema) → schema_numbered k ≡ Some s → if_closed (row_of s z ps) ≡ closed_instance k z ps
named_instance k z ps s e = sym (ap (λ (r : Row). if_closed (r z ps)) (instance_named k ∙ ap row_if e))

pub nameless_instance : (k z : ℕ) (ps : List Tree) → schema_numbered k ≡ None → None ≡ closed_instance k z ps
nameless_instance k z ps e = sym (ap (λ (r : Row). if_closed (r z ps)) (instance_named k ∙ ap row_if e))
