-- The proof trees of the ranks plain, choice, split, instance and spare.
use Rattle.std.specs.Prelude.{Option, Some, None}
use Rattle.core_expr.specs.Tree.{Tree, not_, and_, or_, imp_, iff_, all_, ex_, choose_}
use Rattle.core_expr.specs.Put.{inst}
use Rattle.seq_calculus.specs.Calculus.{Proof}
use Rattle.seq_calculus.specs.Calculus.Rule.{NotL, NotR, AndL, AndR, OrL, OrR, ImpL, ImpR, IffL, IffR, AllL, AllR, ExL, ExR}
use Rattle.search_definition.specs.Plain.{Left, left_side}
use Rattle.proof_writer.specs.Shapes.{over, join, neg_left, iff_left, iff_not}

-- f is on the left; p has the right side of its schema there, or f itself
abbrev pub by_left : Tree → Option Left → Proof → Proof
by_left f None p = p
by_left f (Some l) p = iff_left l.schema l.z l.params f l.right p

-- ~f is on the left; p has the Not of the right side there
abbrev pub by_not_left : Tree → Option Left → Proof → Proof
by_not_left f None p = p
by_not_left f (Some l) p = iff_not l.schema l.z l.params f l.right p

-- rank plain at connectives
abbrev pub plain_by : Tree → Proof → Proof
plain_by (not_ (not_ a)) p = over (NotL (not_ a)) (over (NotR a) p)
plain_by (and_ a b) p = over (AndL a b) p
plain_by (not_ (or_ a b)) p = over (NotL (or_ a b)) (over (OrR a b) (neg_left a (neg_left b p)))
plain_by (not_ (imp_ a b)) p = over (NotL (imp_ a b)) (over (ImpR a b) (neg_left b p))
plain_by f p = p

-- f is the left side of a schema, or the Not of one
abbrev pub left_side_by : Tree → Proof → Proof
left_side_by f p = by_left f (left_side f) p

abbrev pub denied_side_by : Tree → Proof → Proof
denied_side_by (not_ a) p = by_not_left a (left_side a) p
denied_side_by f p = p

-- ranks settle and split
abbrev pub split_by : Tree → Proof → Proof → Proof
split_by (or_ a b) p q = join (OrL a b) p q
split_by (not_ (and_ a b)) p q = over (NotL (and_ a b)) (join (AndR a b) (neg_left a p) (neg_left b q))
split_by (imp_ a b) p q = join (ImpL a b) (neg_left a p) q
split_by (iff_ a b) p q = join (IffL a b) p (neg_left a (neg_left b q))
split_by (not_ (iff_ a b)) p q = over (NotL (iff_ a b)) (join (IffR a b) (neg_left b p) (neg_left a q))
split_by f p q = p

-- rank choice
abbrev pub choice_by : Tree → Proof → Proof
choice_by (ex_ q) p = over (ExL q) p
choice_by (not_ (all_ q)) p = over (NotL (all_ q)) (over (AllR q) (neg_left (inst q (choose_ (not_ q))) p))
choice_by f p = p

-- ranks instance and spare, by the term t
abbrev pub instance_by : Tree → Tree → Proof → Proof
instance_by t (all_ q) p = over (AllL q t) p
instance_by t (not_ (ex_ q)) p = over (NotL (ex_ q)) (over (ExR q t) (neg_left (inst q t) p))
instance_by t f p = p
