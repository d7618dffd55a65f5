-- The order in which operators are met. A text may join any number of expressions by operators without a bracket, so a tree may be
-- as deep as its text is long; all other forms are as deep as brackets and keywords nest.
use Rattle.std.specs.Prelude.{Bool, true, false, if◌then◌else◌, List, [], ◌∷◌, ◌++◌}
use Rattle.tla_ast.specs.declared.tree.Node.{Node, out-Node}
use Rattle.tla_ast.specs.declared.tree.Form.{Form, out-Form}
use Rattle.tla_ast.specs.declared.tree.Form.TheOpen.{Form-F}
use Rattle.plain_syntax.specs.Plain.{Term, Terms, Shape}
use Rattle.plain_syntax.specs.Plain.Term.{term}
use Rattle.plain_syntax.specs.Plain.Terms.{none, part}
use Rattle.plain_syntax.specs.Plain.Shape.{prefixed, infixed, prime, index, field}

-- prefix, infix and postfix operators, `f[e]` and `r.h`
abbrev pub is_operator : Shape → Bool
is_operator (prefixed o) = true
is_operator (infixed o) = true
is_operator prime = true
is_operator index = true
is_operator (field h) = true
is_operator s = false

-- The operands of an expression's operators, from left to right, and each operator behind its operands.
abbrev mutual
  pub order : Term → List Term
  order (term (prefixed o) ts p) = orders ts ++ term (prefixed o) ts p ∷ []
  order (term (infixed o) ts p) = orders ts ++ term (infixed o) ts p ∷ []
  order (term prime ts p) = orders ts ++ term prime ts p ∷ []
  order (term index ts p) = orders ts ++ term index ts p ∷ []
  order (term (field h) ts p) = orders ts ++ term (field h) ts p ∷ []
  order t = t ∷ []

  pub orders : Terms → List Term
  orders none = []
  orders (part t ts) = order t ++ orders ts

-- ---- on the nodes of the source

abbrev pub joined_by : {A B C D E F : Type 0} → Form-F A B C D E F → Bool
joined_by (Form-F.Prefix o) = true
joined_by (Form-F.Infix o) = true
joined_by Form-F.Prime = true
joined_by Form-F.Index = true
joined_by (Form-F.Form::Field h) = true
joined_by f = false

abbrev pub joins : Form → Bool
joins f = joined_by (out-Form f)

-- the operands of a node that is an operator
abbrev pub operands : Node → List Node
operands n = if joins (out-Node n).form then (out-Node n).parts else []
