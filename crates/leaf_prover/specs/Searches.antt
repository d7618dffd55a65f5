-- What a search on a form came to.
use Rattle.std.specs.Prelude.{◌≡◌, ℕ, [], length}
use Rattle.core_expr.specs.declared.canon.Canon.{Canon}
use Rattle.term_bank.specs.Banks.{HasTree}
use Rattle.search_definition.specs.Search.{search, steps}
use Rattle.search_trace.specs.Traces.{moves_of, TurnsUnder}
use Rattle.search_loop.specs.Turns.{StepsAre}
use Rattle.tableau_search.specs.Entries.{ItemsUnder}
use Rattle.tableau_search.specs.Boards.{IsEnd}
use Rattle.propositional_laws.specs.Formulas.{symbol_count}
use Rattle.leaf_prover.specs.declared.search.Searched.{Searched}

-- the search on the form, with at most n turns, came to this
pub record IsSearched (n : ℕ) (c : Canon) (s : Searched) : Type 0 where
  pub symbols : s.symbols ≡ symbol_count c
  pub goal : HasTree s.bank s.goal c.goal
  pub branch : ItemsUnder (length s.bank) s.branch.items
  pub turns : TurnsUnder (length s.bank) s.turns.items
  pub ends : IsEnd s.bank s.branch.items s.ending (search c.facts c.goal n)
  pub steps : StepsAre s.ending (steps c.facts c.goal n) [] (moves_of s.bank s.turns.items)
