-- What the partners of an atom give, as the definition has it.
use Rattle.std.specs.Prelude.{ℕ, ◌<◌, Option, None, List, length}
use Rattle.core_expr.specs.Tree.{Tree}
use Rattle.term_bank.specs.Banks.{tree_at}
use Rattle.search_definition.specs.Terms.{if_so, first_some}
use Rattle.search_definition.specs.Instances.{Fresh, Universal, Signed, at_literal, at_atom, by_universal, at_universal, at_subterm, at_subterms}
use Rattle.branch_state.specs.Shown.{Placed, placed_at}
use Rattle.instance_ranks.specs.declared.partners.Sought.{Sought}
use Rattle.instance_ranks.specs.declared.entries.Partner.{Partner}
use Rattle.instance_ranks.specs.declared.entries.Partner.TheVariants.{Literal, Opposite, Side}
use Rattle.instance_ranks.specs.Seeking.{Aim, aim_of}

-- the term of the new instance by a literal
abbrev pub literal_at : Fresh → Aim → Tree → Option Tree
literal_at w x f = at_literal x.branch w x.universal x.atom f

-- the term of the new instance by an atom of opposite sign
abbrev pub atom_at : Fresh → Aim → Signed → Option Tree
atom_at w x c = at_atom x.branch w x.universal x.atom c

-- the term of the first new instance by one of these atoms
abbrev pub by_atoms : Fresh → Aim → List Signed → Option Tree
by_atoms w x cs = first_some (atom_at w x) cs

-- the term of the first new instance by an atom of the universal
abbrev pub universal_by : Fresh → Aim → Universal → Option Tree
universal_by w x v = by_universal x.branch w x.universal x.atom v

-- the same, where the formula is a universal
abbrev pub universal_at : Fresh → Aim → Tree → Option Tree
universal_at w x f = at_universal x.branch w x.universal x.atom f

-- the term of the new instance by a term, for the side l
abbrev pub subterm_at : Fresh → Aim → Tree → Tree → Option Tree
subterm_at w x l t = at_subterm x.branch w x.universal x.atom l t

-- the term of the first new instance by one of these terms, for the side l
abbrev pub by_terms : Fresh → Aim → Tree → List Tree → Option Tree
by_terms w x l ts = first_some (subterm_at w x l) ts

-- the term of the first new instance by a closed subterm of a literal, for the side l
abbrev pub subterms_at : Fresh → Aim → Tree → Tree → Option Tree
subterms_at w x l f = at_subterms x.branch w x.universal x.atom l f

-- what a formula gives as a partner of this kind
abbrev pub partner_at : List Tree → Fresh → Partner → Aim → Tree → Option Tree
partner_at ts w Literal x f = literal_at w x f
partner_at ts w Opposite x f = universal_at w x f
partner_at ts w (Side l) x f = subterms_at w x (tree_at ts l) f

-- the side is in the bank
abbrev pub IsPartner : List Tree → Partner → Type 0
IsPartner ts Literal = Unit {0}
IsPartner ts Opposite = Unit {0}
IsPartner ts (Side l) = l < length ts

-- what the i-th entry gives as a partner of this kind, where it is live
abbrev pub entry_gives : List Tree → List Placed → Fresh → Sought → Partner → ℕ → Option Tree
entry_gives ts es w s k i =
    if_so (placed_at es i).live (partner_at ts w k (aim_of ts es s) (tree_at ts (placed_at es i).formula)) None
