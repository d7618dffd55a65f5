-- The proof trees of closings.
use Rattle.std.specs.Prelude.{List, [], ◌∷◌}
use Rattle.core_expr.specs.Tree.{Tree, true_, false_, not_, eq_}
use Rattle.core_expr.specs.Tree.Tree.{bound}
use Rattle.seq_calculus.specs.Calculus.{Proof}
use Rattle.seq_calculus.specs.Calculus.Rule.{Ax, TrueR, FalseL, Cut, NotL, Refl, Repl}
use Rattle.search_definition.specs.declared.rule.Clash.{Clash}
use Rattle.search_definition.specs.declared.rule.Clash.TheVariants.{Falsehood, DeniedTruth, Denied, DeniedIdentity, DeniedMirror, Literals, Truths}
use Rattle.search_definition.specs.Terms.{if_so}
use Rattle.search_definition.specs.Branches.{Closing, is_not_of, is_mirror_not}
use Rattle.proof_writer.specs.Shapes.{leaf, over, join, clash, mirror, with_schema}

-- s = t stands, with ~(t = s)
abbrev pub mirror_clash : Tree → Proof
mirror_clash (eq_ s t) = over (NotL (eq_ t s)) (mirror s t (leaf (Ax (eq_ t s))))
mirror_clash f = leaf FalseL

-- ~(t = t) stands
abbrev pub unequal : Tree → Proof
unequal (not_ (eq_ s t)) = over (NotL (eq_ s t)) (leaf (Refl s))
unequal f = leaf FalseL

-- an equation of two different literals stands
abbrev pub apart : Tree → Proof
apart (eq_ s t) = with_schema 22 0 (s ∷ t ∷ []) (clash (eq_ s t))
apart f = leaf FalseL

-- TRUE = FALSE stands
abbrev pub true_is_false : Proof
true_is_false = join (Cut true_) (leaf TrueR) (over (Repl (bound 0) true_ false_) (leaf FalseL))

-- TRUE = FALSE or FALSE = TRUE stands
abbrev pub truths : Tree → Proof
truths (eq_ true_ t) = true_is_false
truths f = mirror false_ true_ true_is_false

-- the closing of the formula f by itself
abbrev pub lone_by : Clash → Tree → Proof
lone_by Falsehood f = leaf FalseL
lone_by DeniedTruth f = over (NotL true_) (leaf TrueR)
lone_by DeniedIdentity f = unequal f
lone_by Literals f = apart f
lone_by Truths f = truths f
lone_by _ f = leaf FalseL

-- the closing of f with g
abbrev pub pair_by : Clash → Tree → Tree → Proof
pair_by Denied f g = if_so (is_not_of f g) (clash g) (clash f)
pair_by DeniedMirror f g = if_so (is_mirror_not f g) (mirror_clash f) (mirror_clash g)
pair_by _ f g = leaf FalseL

abbrev pub entries_by : Clash → List Tree → Proof
entries_by k (f ∷ []) = lone_by k f
entries_by k (f ∷ g ∷ []) = pair_by k f g
entries_by k fs = leaf FalseL

-- the proof of a closing
abbrev pub closing_by : Closing → Proof
closing_by c = entries_by c.clash c.entries
