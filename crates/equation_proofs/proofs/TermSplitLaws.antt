-- Term splits by the term that is split.
use Rattle.std.specs.Prelude.{◌≡◌, true, false, List, [], ◌∷◌}
use Rattle.std.proofs.Common.{refl}
use Rattle.core_expr.specs.Tree.{Tree, apply_, if_, fun_}
use Rattle.seq_calculus.specs.Calculus.{Proof}
use Rattle.seq_calculus.specs.Calculus.Rule.{TrueR, Cut}
use Rattle.proof_writer.specs.Shapes.{leaf, join, neg_left}
use Rattle.proof_trees.specs.Cuts.{term_split_by}
use Rattle.equation_proofs.specs.TermSplits.{is_split, condition_of, when_so, when_not, settled_by}

pub none_split : (u f : Tree) (gs : List Tree) (ps : List Proof) → is_split u ≡ false → term_split_by u f gs ps ≡ leaf TrueR
none_split (if_ p x y) f gs ps h = absurd (never h)
  where
    never : true ≡ false → ⊥
    never e = cc
none_split (apply_ (fun_ s e) a) f gs ps h = absurd (never h)
  where
    never : true ≡ false → ⊥
    never e = cc
none_split _ f gs ps h = refl

pub one_split : (u f : Tree) (gs : List Tree) (c : Proof) → is_split u ≡ true → term_split_by u f gs (c ∷ []) ≡ settled_by u f gs c
one_split (if_ p x y) f gs c h = refl
one_split (apply_ (fun_ s e) a) f gs c h = refl
one_split _ f gs c h = cc

pub both_split : (u f : Tree) (gs : List Tree) (c d : Proof) → is_split u ≡ true → term_split_by u f gs (c ∷ d ∷ []) ≡ join (Cut (condition_of u)) (neg_left (condition_of u) (when_not u f d)) (when_so u f c)
both_split (if_ p x y) f gs c d h = refl
both_split (apply_ (fun_ s e) a) f gs c d h = refl
both_split _ f gs c d h = cc
