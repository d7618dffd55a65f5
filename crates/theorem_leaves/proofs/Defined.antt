-- Definitions of a part of a module, one after another.
use Rattle.std.proofs.Common.{◌≡◌, ℕ, Bool, true, false, zero, suc, ◌+◌, List, [], ◌∷◌, ◌++◌, map, length, Option, Some, refl, sym, ap, ◌∙◌, append-nil, append_assoc, arith}
use Rattle.tla_ast.specs.declared.tree.Def.{Def, out-Def}
use Rattle.tla_ast.specs.declared.unit.Step.{Step, out-Step, fold-Step}
use Rattle.tla_ast.specs.declared.unit.Proof.{Proof, out-Proof, roll-Proof, roll-out-Proof}
use Rattle.tla_ast.specs.declared.unit.Proof.TheFolds.{fold-roll-Proof, fold_out-Step}
use Rattle.tla_ast.specs.declared.unit.Proof.TheOpen.{Proof-F}
use Rattle.tla_ast.specs.declared.unit.Proof.TheVariants as proof
use Rattle.obligation.specs.declared.obligation.Definition.{Definition}
use Rattle.symbol_table.specs.Scoped.{entry_of}
use Rattle.plain_syntax.specs.Plain as plain
use Rattle.plain_syntax.specs.Plain.{Defs, Steps}
use Rattle.plain_syntax.specs.Plain.Defs.{end_defs}
use Rattle.plain_syntax.specs.Plain.Proof.{steps}
use Rattle.plain_syntax.specs.Plain.Steps.{end_steps, step}
use Rattle.plain_syntax.specs.Syntax.{term_of, defs_of, move_of, proof_of, proof_step, step_step, joined}
use Rattle.plain_syntax.proofs.Forms.{is-def}
use Rattle.prime_expand.specs.Core.{bodies, flags_in, half, kind_of}
use Rattle.prime_expand.specs.Symbols.{second_kind}
use Rattle.prime_expand.specs.declared.both.Both.{Both}
use Rattle.core_expr.specs.declared.head.SymKind.TheVariants as kinds
use Rattle.prime_expand.specs.Bodies.{number_of}
use Rattle.usable_facts.specs.Definitions as spec
use Rattle.theorem_leaves.specs.declared.home.Home.{Home}
use Rattle.theorem_leaves.specs.Homes.{means, entries}
use Rattle.theorem_leaves.specs.Definitions as own

unfoldable steps_of : Step → Steps → Steps
steps_of = fold-Step plain.Proof (Steps → Steps) proof_step step_step

is-steps : (p : Proof) (ss : List Step) → p ≡ proof.Steps ss → proof_of p ≡ steps (joined end_steps (map steps_of ss))
unfolding proof_of steps_of
is-steps p ss e = ap proof_of (e ∙ sym (proof.rolls-Steps ss)) ∙ fold-roll-Proof _ _ proof_step step_step (Proof-F.Steps ss)

is-step : (s : Step) → steps_of s ≡ step (out-Step s).place (out-Step s).level (out-Step s).label (move_of (out-Step s).kind) (proof_of (out-Step s).proof)
unfolding proof_of steps_of
is-step s = fold_out-Step _ _ proof_step step_step s

by-level : (l n a : ℕ) (b : Both) → l ≡ 1 → spec.of_level l n a b ≡ spec.a_definition kinds.Defined n a b.plain ∷ spec.a_definition (second_kind l) n a b.primed ∷ []
by-level zero n a b e = absurd (omega arith)
by-level (suc zero) n a b e = refl
by-level (suc (suc l)) n a b e = absurd (omega arith)

module _ (h : Home) where
  made-is : (d : Def) (n : ℕ) (p : Bool) → means h (out-Def d).place ≡ Some n
      → own.made h p d ≡ spec.a_definition (kind_of (means h) (entries h) (entry_of (entries h) n) p) n (length (out-Def d).params + flags_in (means h) (entries h) (entry_of (entries h) n).primed)
      (half p (bodies (means h) (entries h) (entry_of (entries h) n) (out-Def d).params (term_of (out-Def d).body)))
  made-is d n p e =
      ap (λ (o : Option ℕ). spec.a_definition (kind_of (means h) (entries h) (entry_of (entries h) (number_of o)) p) (number_of o) (length (out-Def d).params + flags_in (means h) (entries h) (entry_of (entries h) (number_of o)).primed)
      (half p (bodies (means h) (entries h) (entry_of (entries h) (number_of o)) (out-Def d).params (term_of (out-Def d).body)))) e

  own-is : (d : Def) (n : ℕ) → means h (out-Def d).place ≡ Some n
      → own.own h d ≡ spec.numbered (entries h) (means h) (Some n) (out-Def d).params (term_of (out-Def d).body)
  own-is d n e = ap (λ o. spec.numbered (entries h) (means h) o (out-Def d).params (term_of (out-Def d).body)) e

  -- a definition of level 1, with its prime
  pub level_one : (d : Def) (n : ℕ) → means h (out-Def d).place ≡ Some n → (entry_of (entries h) n).level ≡ 1 → own.own h d ≡ own.made h false d ∷ own.made h true d ∷ []
  level_one d n e l = own-is d n e ∙ by-level (entry_of (entries h) n).level n _ _ l ∙ (λ i. sym (made-is d n false e) i ∷ sym (made-is d n true e) i ∷ [])

  pub with_prime : (d : Def) (n : ℕ) (xs ys zs : List Definition) → means h (out-Def d).place ≡ Some n → (entry_of (entries h) n).level ≡ 1
      → ys ≡ xs ++ own.made h false d ∷ [] → zs ≡ ys ++ own.made h true d ∷ [] → zs ≡ xs ++ own.own h d
  with_prime d n xs ys zs e l p q =
      q ∙ ap (λ x. x ++ own.made h true d ∷ []) p ∙ append_assoc xs (own.made h false d ∷ []) (own.made h true d ∷ []) ∙ ap (λ x. xs ++ x) (sym (level_one d n e l))

  pub definition_first : (d : Def) (ds : Defs) → spec.each_definition (entries h) (means h) (defs_of d ds) ≡ own.own h d ++ spec.each_definition (entries h) (means h) ds
  definition_first d ds = ap (λ (f : Defs → Defs). spec.each_definition (entries h) (means h) (f ds)) (is-def d)

  pub lone_definition : (d : Def) → spec.each_definition (entries h) (means h) (defs_of d end_defs) ≡ own.own h d
  lone_definition d = definition_first d end_defs ∙ append-nil (own.own h d)

  steps-are : (ss : List Step) → spec.in_steps (entries h) (means h) (joined end_steps (map steps_of ss)) ≡ own.in_each h ss
  steps-are [] = refl
  steps-are (s ∷ ss) =
      let m = spec.in_move (entries h) (means h) (move_of (out-Step s).kind) in
      let p = spec.in_proof (entries h) (means h) (proof_of (out-Step s).proof) in
      ap (λ (f : Steps → Steps). spec.in_steps (entries h) (means h) (f (joined end_steps (map steps_of ss)))) (is-step s)
      ∙ ap (λ x. m ++ (p ++ x)) (steps-are ss)
      ∙ sym (append_assoc m p (own.in_each h ss))

  pub in_steps_is : (p : Proof) (ss : List Step) → p ≡ proof.Steps ss → own.in_each h ss ≡ spec.in_proof (entries h) (means h) (proof_of p)
  in_steps_is p ss e = sym (ap (spec.in_proof (entries h) (means h)) (is-steps p ss e) ∙ steps-are ss)

  pub in_other_is : (p : Proof) → ((ss : List Step) → p ≡ proof.Steps ss → ⊥) → [] ≡ spec.in_proof (entries h) (means h) (proof_of p)
  unfolding proof_of
  in_other_is p none =
      (elim (out-Proof p) as (λ x. out-Proof p ≡ x → [] ≡ spec.in_proof (entries h) (means h) (proof_of p)) [
        | Proof-F.Steps ss ↦ λ e. absurd (none ss (sym (roll-out-Proof p) ∙ ap roll-Proof e ∙ proof.rolls-Steps ss))
        | _ ↦ λ e. sym (ap (spec.in_proof (entries h) (means h)) (ap proof_of (sym (roll-out-Proof p) ∙ ap roll-Proof e) ∙ fold-roll-Proof _ _ proof_step step_step _))
      ]) refl
