-- The definitions of all modules, those of DEFINE steps among them, each with its body, in order of declaration.
use Rattle.std.specs.Prelude.{ℕ, zero, suc, ◌+◌, List, [], ◌∷◌, ◌++◌, length, Option, Some, None}
use Rattle.tla_ast.specs.declared.place.Place.{Place}
use Rattle.tla_ast.specs.declared.tree.Decl.{Decl}
use Rattle.core_expr.specs.declared.head.SymKind.{SymKind}
use Rattle.core_expr.specs.declared.head.SymKind.TheVariants as kinds
use Rattle.core_expr.specs.Tree.{Tree}
use Rattle.obligation.specs.declared.obligation.Definition.{Definition}
use Rattle.symbol_table.specs.declared.entry.Entry.{Entry}
use Rattle.symbol_table.specs.Scoped.{Table, entry_of, symbol}
use Rattle.plain_syntax.specs.Plain.{Term, Defs, Move as move, Proof, Steps, Unit, UnitKind as u, Module}
use Rattle.plain_syntax.specs.Plain.Defs.{end_defs, def}
use Rattle.plain_syntax.specs.Plain.Proof.{missing, obvious, omitted, by_facts, steps}
use Rattle.plain_syntax.specs.Plain.Steps.{end_steps, step}
use Rattle.prime_expand.specs.declared.both.Both.{Both}
use Rattle.prime_expand.specs.Core.{bodies, flags_in}

-- what the names of a module mean
abbrev pub Means : Type 0
Means = Place → Option ℕ

abbrev pub a_definition : SymKind → ℕ → ℕ → Tree → Definition
a_definition k n a t = record { symbol = record { kind = k; number = n; arity = a }; body = t }

-- A definition of level 1 has a second symbol, that of its prime. One of a lower level is its own prime, and one of a higher level is
-- never primed.
abbrev pub of_level : ℕ → ℕ → ℕ → Both → List Definition
of_level (suc zero) n a b = a_definition kinds.Defined n a b.plain ∷ a_definition kinds.DefinedPrimed n a b.primed ∷ []
of_level l n a b = a_definition kinds.Defined n a b.plain ∷ []

module _ (entries : List Entry) where
  -- a definition, where its name means this number
  abbrev pub numbered : Means → Option ℕ → List Decl → Term → List Definition
  numbered means None ps t = []
  numbered means (Some n) ps t =
      let e = entry_of entries n in
      of_level e.level n (length ps + flags_in means entries e.primed) (bodies means entries e ps t)

  abbrev pub each_definition : Means → Defs → List Definition
  each_definition means end_defs = []
  each_definition means (def w ps t p ds) = numbered means (means p) ps t ++ each_definition means ds

  abbrev pub in_move : Means → move → List Definition
  in_move means (move.define ds) = each_definition means ds
  in_move means m = []

  abbrev mutual
    pub in_proof : Means → Proof → List Definition
    in_proof means missing = []
    in_proof means (obvious p) = []
    in_proof means (omitted p) = []
    in_proof means (by_facts p only fs us) = []
    in_proof means (steps ss) = in_steps means ss

    pub in_steps : Means → Steps → List Definition
    in_steps means end_steps = []
    in_steps means (step p l w m proof ss) = in_move means m ++ (in_proof means proof ++ in_steps means ss)

  abbrev pub in_unit : Means → u → List Definition
  in_unit means (u.definition ds) = each_definition means ds
  in_unit means (u.theorem w s proof) = in_proof means proof
  in_unit means _ = []

  abbrev pub in_units : Means → List Unit → List Definition
  in_units means [] = []
  in_units means (x ∷ xs) = in_unit means x.kind ++ in_units means xs

-- of modules, of which the first has the number m
abbrev pub in_modules : Table → ℕ → List Module → List Definition
in_modules t m [] = []
in_modules t m (x ∷ xs) = in_units t.entries (symbol t m) x.units ++ in_modules t (suc m) xs

abbrev pub definitions_of : List Module → Table → List Definition
definitions_of ms t = in_modules t 0 ms
