-- The proof trees of values, and rank settle.
use Rattle.std.specs.Prelude.{true, Option, Some, None, List, [], ◌∷◌}
use Rattle.core_expr.specs.Tree.{Tree, true_, not_, and_, or_, imp_, iff_, eq_}
use Rattle.seq_calculus.specs.Schemas.{are_apart}
use Rattle.seq_calculus.specs.Calculus.{Proof}
use Rattle.seq_calculus.specs.Calculus.Rule.{Ax, TrueR, FalseL, NotL, NotR, AndL, AndR, OrL, OrR, ImpL, ImpR, IffL, IffR, Refl}
use Rattle.search_definition.specs.Terms.{if_so}
use Rattle.search_definition.specs.Branches.{Branch}
use Rattle.search_definition.specs.Values.{Truth, Whole, whole, truth, is_no}
use Rattle.search_definition.specs.Values.Truth.{Yes, No, Unknown}
use Rattle.search_definition.specs.Values.Whole.{Stands, ByItself, Mirrored, NotStands, FalseItself, NotMirrored, Undecided}
use Rattle.search_definition.specs.Splits.{Splitting}
use Rattle.proof_writer.specs.Shapes.{leaf, over, join, clash, mirror}
use Rattle.proof_trees.specs.Closings.{mirror_clash, apart, truths}
use Rattle.proof_trees.specs.Simple.{split_by}

-- TRUE or t = t
abbrev pub itself_by : Tree → Proof
itself_by (eq_ s t) = leaf (Refl s)
itself_by f = leaf TrueR

-- s = t, where t = s stands
abbrev pub mirrored_by : Tree → Proof
mirrored_by (eq_ s t) = mirror t s (leaf (Ax (eq_ s t)))
mirrored_by f = leaf TrueR

-- FALSE, an equation of different literals, or one of TRUE and FALSE
abbrev pub false_by : Tree → Proof
false_by (eq_ s t) = if_so (are_apart s t) (apart (eq_ s t)) (truths (eq_ s t))
false_by f = leaf FalseL

-- by the reason for a formula's value as a whole, or else by p
abbrev pub whole_by : Whole → Tree → Proof → Proof
whole_by Stands f p = leaf (Ax f)
whole_by ByItself f p = itself_by f
whole_by Mirrored f p = mirrored_by f
whole_by NotStands f p = clash f
whole_by FalseItself f p = false_by f
whole_by NotMirrored f p = mirror_clash f
whole_by Undecided f p = p

-- the value of a connective by those of its parts, whose proofs are p and q
abbrev pub not_by : Truth → Tree → Proof → Proof
not_by Yes a p = over (NotL a) p
not_by No a p = over (NotR a) p
not_by Unknown a p = p

abbrev pub and_by : Truth → Truth → Tree → Tree → Proof → Proof → Proof
and_by No y a b p q = over (AndL a b) p
and_by Yes Yes a b p q = join (AndR a b) p q
and_by Yes y a b p q = over (AndL a b) q
and_by Unknown y a b p q = over (AndL a b) q

abbrev pub or_by : Truth → Truth → Tree → Tree → Proof → Proof → Proof
or_by Yes y a b p q = over (OrR a b) p
or_by No No a b p q = join (OrL a b) p q
or_by No y a b p q = over (OrR a b) q
or_by Unknown y a b p q = over (OrR a b) q

abbrev pub imp_by : Truth → Truth → Tree → Tree → Proof → Proof → Proof
imp_by No y a b p q = over (ImpR a b) p
imp_by Yes No a b p q = join (ImpL a b) p q
imp_by Yes y a b p q = over (ImpR a b) q
imp_by Unknown y a b p q = over (ImpR a b) q

abbrev pub iff_by : Truth → Truth → Tree → Tree → Proof → Proof → Proof
iff_by Yes Yes a b p q = join (IffR a b) q p
iff_by No No a b p q = join (IffR a b) p q
iff_by Yes y a b p q = join (IffL a b) q p
iff_by x y a b p q = join (IffL a b) p q

-- the proof of a formula that is true on the branch, or of the contradiction of one that is false there
unfoldable pub shows : Branch → Tree → Proof
shows b (not_ a) = whole_by (whole b (not_ a)) (not_ a) (not_by (truth b a) a (shows b a))
shows b (and_ x y) = whole_by (whole b (and_ x y)) (and_ x y) (and_by (truth b x) (truth b y) x y (shows b x) (shows b y))
shows b (or_ x y) = whole_by (whole b (or_ x y)) (or_ x y) (or_by (truth b x) (truth b y) x y (shows b x) (shows b y))
shows b (imp_ x y) = whole_by (whole b (imp_ x y)) (imp_ x y) (imp_by (truth b x) (truth b y) x y (shows b x) (shows b y))
shows b (iff_ x y) = whole_by (whole b (iff_ x y)) (iff_ x y) (iff_by (truth b x) (truth b y) x y (shows b x) (shows b y))
shows b f = whole_by (whole b f) f (leaf TrueR)

-- a branch of these formulas
abbrev pub entries_of : List Tree → Branch
entries_of [] = []
entries_of (g ∷ gs) = record { formula = g; live = true; count = 0 } ∷ entries_of gs

-- the first formula that is false on the branch
abbrev pub first_false : Branch → List Tree → Tree
first_false b [] = true_
first_false b (f ∷ fs) = if_so (is_no (truth b f)) f (first_false b fs)

-- the contradiction of a side by the grounds gs
abbrev pub side_by : List Tree → List Tree → Proof
side_by gs fs = shows (entries_of gs) (first_false (entries_of gs) fs)

-- a split whose left side, or whose right side, is contradictory by the grounds gs
abbrev pub false_left_by : Tree → List Tree → Proof → Option Splitting → Proof
false_left_by f gs p None = p
false_left_by f gs p (Some s) = split_by f (side_by gs s.left) p

abbrev pub false_right_by : Tree → List Tree → Proof → Option Splitting → Proof
false_right_by f gs p None = p
false_right_by f gs p (Some s) = split_by f p (side_by gs s.right)
