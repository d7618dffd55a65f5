-- Proof trees by how many premises their last rule has, and the shapes that every translation uses.
use Rattle.std.specs.Prelude.{ℕ, zero, suc, List, [], ◌∷◌}
use Rattle.core_expr.specs.Tree.{Tree, not_, eq_}
use Rattle.core_expr.specs.Tree.Tree.{bound}
use Rattle.seq_calculus.specs.Calculus.{Rule, Proof, Proofs}
use Rattle.seq_calculus.specs.Calculus.Rule.{Ax, TrueR, Cut, NotL, NotR, IffL, Refl, Repl, Schema}
use Rattle.seq_calculus.specs.Calculus.Proof.{step}
use Rattle.seq_calculus.specs.Calculus.Proofs.{no_more, more}

-- a rule without premises, over one and over two
abbrev pub leaf : Rule → Proof
leaf r = step r no_more

abbrev pub over : Rule → Proof → Proof
over r p = step r (more p no_more)

abbrev pub join : Rule → Proof → Proof → Proof
join r p q = step r (more p (more q no_more))

-- the first of some proofs, the second, and all but the first
abbrev pub first_of : List Proof → Proof
first_of [] = leaf TrueR
first_of (p ∷ ps) = p

abbrev pub rest_of : List Proof → List Proof
rest_of [] = []
rest_of (p ∷ ps) = ps

abbrev pub second_of : List Proof → Proof
second_of ps = first_of (rest_of ps)

-- the first n proofs as premises, and the proofs behind them
abbrev pub firsts : ℕ → List Proof → Proofs
firsts zero ps = no_more
firsts (suc n) ps = more (first_of ps) (firsts n (rest_of ps))

abbrev pub behind : ℕ → List Proof → List Proof
behind zero ps = ps
behind (suc n) ps = behind n (rest_of ps)

-- the rule over the first n of the proofs takes their place
abbrev pub applied : Rule → ℕ → List Proof → List Proof
applied r n ps = step r (firsts n ps) ∷ behind n ps

-- a is on the right; p has ~a on the left
abbrev pub neg_left : Tree → Proof → Proof
neg_left a p = join (Cut (not_ a)) (over (NotR a) (leaf (Ax a))) p

-- a and ~a are on the left
abbrev pub clash : Tree → Proof
clash a = over (NotL a) (leaf (Ax a))

-- the schema's instance i is on the left of p
abbrev pub with_schema : ℕ → ℕ → List Tree → Proof → Proof
with_schema k z ps p = over (Schema k z ps) p

-- the schema's instance is l <=> r, and l is on the left; p has r on the left
abbrev pub iff_left : ℕ → ℕ → List Tree → Tree → Tree → Proof → Proof
iff_left k z ps l r p = with_schema k z ps (join (IffL l r) p (leaf (Ax l)))

-- the schema's instance is l <=> r, and ~l is on the left; p has ~r on the left
abbrev pub iff_not : ℕ → ℕ → List Tree → Tree → Tree → Proof → Proof
iff_not k z ps l r p = with_schema k z ps (join (IffL l r) (clash l) (neg_left r p))

-- the schema's instance is l <=> r, and l is on the right; p has r on the right
abbrev pub iff_right : ℕ → ℕ → List Tree → Tree → Tree → Proof → Proof
iff_right k z ps l r p = with_schema k z ps (join (IffL l r) (leaf (Ax l)) p)

-- s = t is on the left; p has t = s on the left
abbrev pub mirror : Tree → Tree → Proof → Proof
mirror s t p = join (Cut (eq_ s s)) (leaf (Refl s)) (over (Repl (eq_ (bound 0) s) s t) p)

-- s is replaced by t in h, over the equation s = t
abbrev pub replaced : Tree → Tree → Tree → Proof → Proof
replaced h s t p = over (Repl h s t) p
