-- Fresh symbols and signed atoms by numbers and indices.
use Rattle.std.specs.Prelude.{ℕ, ◌+◌, ◌*◌, List, ◌++◌}
use Rattle.core_expr.specs.declared.head.Sym.{Sym}
use Rattle.core_expr.specs.Tree.{Tree}
use Rattle.core_expr.specs.Nodes.{canon_sym}
use Rattle.search_definition.specs.Instances.{Fresh, Signed, own_meta, partner_meta, first_metas}
use Rattle.term_bank.specs.Banks.{tree_at}
use Rattle.instance_terms.specs.declared.fresh.FreshNumbers.{FreshNumbers}
use Rattle.instance_terms.specs.declared.fresh.SignedAtom.{SignedAtom}

-- the fresh symbols with these numbers
abbrev pub fresh_of : FreshNumbers → Fresh
fresh_of w = record { spare = w.spare; metas = w.metas }

-- the signed atom whose tree stands at this index
abbrev pub signed_of : List Tree → SignedAtom → Signed
signed_of ts a = record { holds = a.holds; atom = tree_at ts a.atom; metas = a.metas }

-- the metavariable with an index, where every other number from this one on is that of one
abbrev pub meta_from : ℕ → ℕ → Sym
meta_from first i = canon_sym (first + 2 * i) 0

-- so many metavariables of the universal that is instantiated, and so many of its partner
abbrev pub both_of : Fresh → ℕ → ℕ → List Sym
both_of w n m = first_metas (own_meta w) n ++ first_metas (partner_meta w) m
