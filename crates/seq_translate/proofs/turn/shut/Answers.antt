use Rattle.std.proofs.Common.{◌≡◌, rules, ◌∷◌, sym, subst, Bool, List, map}
use Rattle.core_expr.specs.Nodes.{picked}
use Rattle.term_bank.specs.Banks.{tree_at as at}
use Rattle.proof_writer.specs.Written.{opens}
use Rattle.proof_trees.specs.Closings.{entries_by}
use Rattle.proof_trees.specs.Machine.{shut_by}
use Rattle.seq_translate.specs.Marks.{set_marks}
use Rattle.seq_translate.specs.States.{IsState}
use Rattle.seq_translate.proofs.Stepped.{shut_state}
use Rattle.seq_translate.proofs.turn.shut.Goals as goal

pub returns-clause-ok : goal.returns-clause-ok
returns-clause-ok g c =
    let w = c.args.w.now in
    let v = c.close.new.w in
    let es = c.args.entries.now in
    let e : c.set_all.new.marks.items ≡ set_marks c.args.marks.now.items es = search rules in
    let o : opens v ≡ entries_by c.args.case (picked w.trees es) ∷ opens w = search rules in
    λ ts ss s distinct under h.
    subst (λ (l : List Bool). IsState ts l ss v (shut_by (record { clash = c.args.case; entries = map (at ts) es }) s)) (sym e)
    (shut_state ts distinct c.args.case es c.args.marks.now.items ss w v s under h c.close.ensures.more c.close.ensures.same o)
