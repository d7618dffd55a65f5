use Rattle.std.proofs.Common.{◌≡◌, ◌++◌, refl, ap}
use Rattle.symbol_table.specs.Symbols.{symbol_at}
use Rattle.plain_syntax.specs.Syntax.{statement_of}
use Rattle.plain_syntax.specs.Syntax.{proof_of as plain_proof}
use Rattle.known_facts.specs.Shown.{context_of}
use Rattle.usable_facts.specs.Theorems.{chosen_keys}
use Rattle.theorem_leaves.specs.Citations.{keys_in}
use Rattle.theorem_leaves.specs.Theorems.{table, means, entries, is_theorem}
use Rattle.theorem_leaves.proofs.Theorems.{reported-is}
use Rattle.theorem_leaves.proofs.units.Setting.theorem.Goals as goal

pub returns-clause-reported : goal.returns-clause-reported
returns-clause-reported c = λ ks base.
    let s = c.args.self.now in let t = c.args.theorem in let names = c.in_ok-names.names in
    let keys = chosen_keys (is_theorem s) (keys_in (means s) (symbol_at names) (entries s) (plain_proof t.proof.now)) in
    let none : c.new-cited.result ++ keys ≡ keys = ap (λ l. l ++ keys) c.new-cited.ensures in
    let cited : c.cited.inside.items.items ≡ keys = cc (c.cited.view_is, c.in_ok-proof.ensures) in
    reported-is (table s) (is_theorem s) (entries s) (means s) c.args.before ks t.name.now t.place (statement_of t.statement.now) (plain_proof t.proof.now)
    _ names c.in_ok-statement.statement (context_of c.args.context.now) base c.in_ok-names.ensures c.in_ok-statement.ensures
    c.in_ok-theorem_key.ensures c.in_ok-name_of.ensures refl cited c.in_ok-leaves.ensures.leaves
