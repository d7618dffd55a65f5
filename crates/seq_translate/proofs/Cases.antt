-- A turn by its form.
use Rattle.std.specs.Prelude.{◌≡◌, ℕ, Option, List, length, map}
use Rattle.std.specs.Global.{Vec}
use Rattle.std.proofs.Common.{sym, subst}
use Rattle.core_expr.specs.Tree.{Tree}
use Rattle.term_bank.specs.Banks.{tree_at as at}
use Rattle.search_definition.specs.declared.rule.Clash.{Clash}
use Rattle.search_definition.specs.Rules.Sides.{Alone, Both}
use Rattle.search_trace.specs.declared.turn.Added.{Added}
use Rattle.search_trace.specs.declared.turn.Used.{Used}
use Rattle.search_trace.specs.declared.turn.Turn.{Turn}
use Rattle.search_trace.specs.declared.turn.Turn.TheVariants.{Shut, Alone as One, Split}
use Rattle.search_trace.specs.Traces.{AreUnder, UsedUnder, AddedUnder, TurnUnder, added_trees, result_of, move_of, moves_of}
use Rattle.proof_trees.specs.Machine.{State, picks, is_of, resumed, shut_by, one_by, split_by, turned}
use Rattle.seq_translate.specs.States.{flags}

module _ (ts : List Tree) (turns : List Turn) (n : ℕ) (t : Turn) (s : State) (P : State → Type 0) where
  pub shut_turned :
      (k : Clash) (es : Vec ℕ) (next : Option ℕ) (is : List ℕ) → t ≡ Shut k es next → is ≡ es.items → TurnUnder (length ts) t
      → (AreUnder (length ts) is → P (shut_by (record { clash = k; entries = map (at ts) is }) (resumed (moves_of ts turns) next s)))
      → P (turned (moves_of ts turns) n (move_of ts t) s)
  shut_turned k es next is e f under h =
      subst (λ x. P (turned (moves_of ts turns) n (move_of ts x) s)) (sym e)
      (subst (λ l. P (shut_by (record { clash = k; entries = map (at ts) l }) (resumed (moves_of ts turns) next s))) f
      (h (subst (λ l. AreUnder (length ts) l) (sym f) (subst (λ x. TurnUnder (length ts) x) e under))))

  pub one_turned :
      (u : Used) (fs : Vec Added) (as' : List Added) → t ≡ One u fs → as' ≡ fs.items → TurnUnder (length ts) t
      → (UsedUnder (length ts) u → AddedUnder (length ts) as' → P (one_by (result_of ts u (Alone (added_trees ts as'))) (picks (added_trees ts as') (flags as')) s))
      → P (turned (moves_of ts turns) n (move_of ts t) s)
  one_turned u fs as' e f under h =
      let b = subst (λ x. TurnUnder (length ts) x) e under in
      subst (λ x. P (turned (moves_of ts turns) n (move_of ts x) s)) (sym e)
      (subst (λ l. P (one_by (result_of ts u (Alone (added_trees ts l))) (picks (added_trees ts l) (flags l)) s)) f
      (h b.0 (subst (λ l. AddedUnder (length ts) l) (sym f) b.1)))

  pub split_turned :
      (u : Used) (fs gs : Vec Added) (as' bs : List Added) → t ≡ Split u fs gs → as' ≡ fs.items → bs ≡ gs.items → TurnUnder (length ts) t
      → (UsedUnder (length ts) u → AddedUnder (length ts) as' → AddedUnder (length ts) bs
      → P (split_by (is_of s.parts.seconds n) (result_of ts u (Both (added_trees ts as') (added_trees ts bs))) (picks (added_trees ts as') (flags as')) s))
      → P (turned (moves_of ts turns) n (move_of ts t) s)
  split_turned u fs gs as' bs e f g under h =
      let b = subst (λ x. TurnUnder (length ts) x) e under in
      subst (λ x. P (turned (moves_of ts turns) n (move_of ts x) s)) (sym e)
      (subst (λ l. P (split_by (is_of s.parts.seconds n) (result_of ts u (Both (added_trees ts l) (added_trees ts gs.items))) (picks (added_trees ts l) (flags l)) s)) f
      (subst (λ l. P (split_by (is_of s.parts.seconds n) (result_of ts u (Both (added_trees ts as') (added_trees ts l))) (picks (added_trees ts as') (flags as')) s)) g
      (h b.0 (subst (λ l. AddedUnder (length ts) l) (sym f) b.1) (subst (λ l. AddedUnder (length ts) l) (sym g) b.2))))
