-- What an atom of a universal gives, kind of partner by kind, as the definition has it.
use Rattle.std.specs.Prelude.{Option, None, List}
use Rattle.core_expr.specs.Tree.{Tree}
use Rattle.search_definition.specs.Terms.{if_so, or_else, after, first_some}
use Rattle.search_definition.specs.Branches.{Branch, alive}
use Rattle.search_definition.specs.Instances.{Fresh, Universal, Signed, sides_term, new_term, at_literal, at_universal, at_side, at_sides, by_atom}
use Rattle.instance_ranks.specs.Seeking.{Aim}

-- the term of the first new instance by a side of an equation that is to hold
abbrev pub of_side : Fresh → Aim → Tree → Option Tree
of_side w x l = at_side x.branch w x.universal x.atom l

-- by the side l, or else by the side r
abbrev pub of_sides : Fresh → Aim → Tree → Tree → Option Tree
of_sides w x l r = or_else (of_side w x l) (of_side w x r)

-- by a side of the atom, where that is to hold
abbrev pub where_held : Fresh → Aim → Option Tree
where_held w x = if_so x.atom.holds (at_sides x.branch w x.universal x.atom x.atom.atom) None

-- by an atom of a live universal, or else by a side
abbrev pub from_universals : Fresh → Aim → Option Tree
from_universals w x = or_else (first_some (at_universal x.branch w x.universal x.atom) (alive x.branch)) (where_held w x)

-- by a live literal, or else by one of those
abbrev pub from_literals : Fresh → Aim → Option Tree
from_literals w x = or_else (first_some (at_literal x.branch w x.universal x.atom) (alive x.branch)) (from_universals w x)

-- by the two sides of the atom, where that is an equation and is to fail
abbrev pub where_failed : Fresh → Aim → Option Tree
where_failed w x = after (new_term x.branch x.universal) (sides_term w x.atom)

-- by a partner of the atom
abbrev pub of_atom : Fresh → Aim → Option Tree
of_atom w x = by_atom x.branch w x.universal x.atom

-- by a partner of one of these atoms
abbrev pub of_atoms : Fresh → Branch → Universal → List Signed → Option Tree
of_atoms w b u as' = first_some (by_atom b w u) as'
