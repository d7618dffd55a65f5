-- TAKE, PICK and WITNESS in the source, as the moves of the code.
use Rattle.std.specs.Prelude.{ℕ, if◌then◌else◌, List, [], ◌∷◌, ◌++◌, map, Option, Some, None, codes}
use Rattle.std.specs.Borrow.{Bor}
use Rattle.tla_ast.specs.declared.tree.Decl.{Decl}
use Rattle.tla_ast.specs.declared.tree.Node.{Node}
use Rattle.tla_ast.specs.declared.tree.Group.{Group, out-Group}
use Rattle.core_expr.specs.declared.head.SymKind.{SymKind}
use Rattle.core_expr.specs.declared.head.SymKind.TheVariants.{Constant}
use Rattle.core_expr.specs.Tree.{Tree}
use Rattle.plain_syntax.specs.Plain.{Term}
use Rattle.plain_syntax.specs.Plain.Term.{term}
use Rattle.plain_syntax.specs.Plain.Terms.{none, part}
use Rattle.plain_syntax.specs.Plain.Shape.{infixed}
use Rattle.plain_syntax.specs.Syntax.{set_of, term_of}
use Rattle.prime_expand.specs.Symbols.{is_word}
use Rattle.known_facts.specs.declared.item.NewSymbol.{NewSymbol}
use Rattle.known_facts.specs.declared.item.Item.{Item}
use Rattle.known_facts.specs.declared.item.Item.TheVariants as items
use Rattle.proof_leaves.specs.declared.step.Move.{Move}
use Rattle.proof_leaves.specs.declared.step.Move.TheVariants.{Take, TakeIn, Witness, WitnessIn}
use Rattle.usable_facts.specs.Proofs.{core, domain}
use Rattle.theorem_leaves.specs.declared.home.Home.{Home}
use Rattle.theorem_leaves.specs.Homes.{means, entries}

-- a new symbol by what its name means; its number is 0 where the text was not resolved
abbrev pub numbered : SymKind → Option ℕ → NewSymbol
numbered k None = record { kind = k; number = 0 }
numbered k (Some n) = record { kind = k; number = n }

-- the two sides of \in
abbrev pub sides : Term → Option (Term × Term)
sides (term (infixed o) (part a (part b none)) p) = if is_word o (codes "\\in") then Some (a, b) else None
sides t = None

-- two nodes, where there are no more
abbrev pub two : List Node → Option (Term × Term)
two (a ∷ b ∷ []) = Some (term_of a, term_of b)
two ns = None

-- two nodes that are borrowed
abbrev pub pair_of : Option (Bor Node × Bor Node) → Option (Term × Term)
pair_of None = None
pair_of (Some p) = Some (term_of p.0.now, term_of p.1.now)

module _ (h : Home) where
  -- the core of an expression that stands here
  abbrev pub meant : Term → Tree
  meant = core (means h) (entries h)

  -- a new constant
  abbrev pub constant : Decl → NewSymbol
  constant d = numbered Constant (means h d.place)

  -- the core of a group's set
  abbrev pub group_set : Group → Option Tree
  group_set g = domain (means h) (entries h) (set_of (out-Group g).domain)

  abbrev pub take : Option Tree → Decl → Move
  take None d = Take (constant d)
  take (Some s) d = TakeIn (constant d) s

  -- TAKE of the names of a group
  abbrev pub group_takes : Group → List Move
  group_takes g = map (take (group_set g)) (out-Group g).names

  abbrev pub takes : List Group → List Move
  takes [] = []
  takes (g ∷ gs) = group_takes g ++ takes gs

  abbrev pub choice : Option Tree → Decl → Item
  choice None d = items.New (constant d)
  choice (Some s) d = items.NewIn (constant d) s

  -- the names of a group that PICK chooses
  abbrev pub group_choices : Group → List Item
  group_choices g = map (choice (group_set g)) (out-Group g).names

  abbrev pub choices : List Group → List Item
  choices [] = []
  choices (g ∷ gs) = group_choices g ++ choices gs

  abbrev pub by_sides : Option (Term × Term) → Term → Move
  by_sides None t = Witness (meant t)
  by_sides (Some s) t = WitnessIn (meant s.0) (meant s.1)

  -- a witness is bounded where its uppermost operator is \in
  abbrev pub witness : Term → Move
  witness t = by_sides (sides t) t
