-- What the root of an expression says of its form.
use Rattle.std.proofs.Common.{◌≡◌, ℕ, suc, ◌+◌, ◌<◌, ◌&&◌, nat_eq, nat_lt, Bool, true, false, [], ◌∷◌, ◌++◌, length, slice_index_or, cond, refl, sym, ap, ◌∙◌, arith}
use Rattle.std.specs.Prelude.{Some, None}
use Rattle.core_expr.specs.declared.head.Head.TheVariants.{And, Imp, In}
use Rattle.core_expr.specs.declared.head.Binder.TheVariants as binder
use Rattle.core_expr.specs.declared.row.RowKind.TheVariants.{Plain}
use Rattle.core_expr.specs.Tree.{Tree, Parts, size, true_}
use Rattle.core_expr.specs.Tree.Tree.{bound, app, node, bind}
use Rattle.core_expr.specs.Tree.Parts.{end, part}
use Rattle.core_expr.specs.Heads.{subtrees, list_of, parts_of, IsWellFormed}
use Rattle.core_expr.specs.Put.{put}
use Rattle.core_expr.specs.Equal.{nat-same}
use Rattle.std.proofs.lemmas.Bool.{and_parts}
use Rattle.std.proofs.lemmas.Bool.Decides.{nat_tests}
use Rattle.obligation.specs.Nodes.{is_symbol}
use Rattle.obligation.specs.declared.obligation.Definition.{Definition}
use Rattle.proof_contexts.specs.Expansion.{unfold_top}
use Rattle.core_expr.specs.Places.{kind_of}
use Rattle.proof_contexts.specs.Contexts.{Pair, as_imp, as_and, as_in}
use Rattle.known_facts.specs.declared.item.Quantifier.{Quantifier}
use Rattle.known_facts.specs.declared.item.Quantifier.TheVariants.{All, Exists}
use Rattle.known_facts.specs.Forms.{is_root_of, as_quantified}

-- three parts or more are too many for a head of two
too-many : (n : ℕ) (b : Bool) → (nat_eq (suc (suc (suc n))) 2 && b) ≡ true → ⊥
too-many n b h = absurd (omega (arith, nat-same (suc (suc (suc n))) 2 (and_parts (nat_eq (suc (suc (suc n))) 2) b h).0))

too-bound : (n : ℕ) (b : Bool) → (nat_eq (suc n + 1) 1 && b) ≡ true → ⊥
too-bound n b h = absurd (omega (arith, nat-same (suc n + 1) 1 (and_parts (nat_eq (suc n + 1) 1) b h).0))

less : (m n : ℕ) → nat_lt m n ≡ true → m < n
less m n h = grind (arith, nat_tests)

abbrev two : Tree → Pair
two e = record { first = slice_index_or (subtrees e) 0 true_; second = slice_index_or (subtrees e) 1 true_ }

pub imp_here : (e : Tree) → kind_of e ≡ Plain Imp → IsWellFormed e → Some (two e) ≡ as_imp e
imp_here (node Imp [] (part a (part b end))) k w = refl
imp_here (node Imp [] end) k w = cc
imp_here (node Imp [] (part a end)) k w = cc
imp_here (node Imp [] (part a (part b (part c ps)))) k w = absurd (too-many (size ps) _ w)
imp_here (node Imp (n ∷ ns) ps) k w = cc
imp_here e k w = cc

imp_test : (e : Tree) → kind_of e ≡ Plain Imp → IsWellFormed e → nat_lt 1 (length (subtrees e)) ≡ true
imp_test (node Imp [] (part a (part b end))) k w = refl
imp_test (node Imp [] end) k w = cc
imp_test (node Imp [] (part a end)) k w = cc
imp_test (node Imp [] (part a (part b (part c ps)))) k w = absurd (too-many (size ps) _ w)
imp_test (node Imp (n ∷ ns) ps) k w = cc
imp_test e k w = cc

pub imp_fits : (e : Tree) → kind_of e ≡ Plain Imp → IsWellFormed e → 1 < length (subtrees e)
imp_fits e k w = less 1 (length (subtrees e)) (imp_test e k w)

pub imp_other : (e : Tree) → (kind_of e ≡ Plain Imp → ⊥) → None ≡ as_imp e
imp_other (node Imp [] (part a (part b end))) h = absurd (h refl)
imp_other e h = refl

pub and_here : (e : Tree) → kind_of e ≡ Plain And → IsWellFormed e → Some (two e) ≡ as_and e
and_here (node And [] (part a (part b end))) k w = refl
and_here (node And [] end) k w = cc
and_here (node And [] (part a end)) k w = cc
and_here (node And [] (part a (part b (part c ps)))) k w = absurd (too-many (size ps) _ w)
and_here (node And (n ∷ ns) ps) k w = cc
and_here e k w = cc

and_test : (e : Tree) → kind_of e ≡ Plain And → IsWellFormed e → nat_lt 1 (length (subtrees e)) ≡ true
and_test (node And [] (part a (part b end))) k w = refl
and_test (node And [] end) k w = cc
and_test (node And [] (part a end)) k w = cc
and_test (node And [] (part a (part b (part c ps)))) k w = absurd (too-many (size ps) _ w)
and_test (node And (n ∷ ns) ps) k w = cc
and_test e k w = cc

pub and_fits : (e : Tree) → kind_of e ≡ Plain And → IsWellFormed e → 1 < length (subtrees e)
and_fits e k w = less 1 (length (subtrees e)) (and_test e k w)

pub and_other : (e : Tree) → (kind_of e ≡ Plain And → ⊥) → None ≡ as_and e
and_other (node And [] (part a (part b end))) h = absurd (h refl)
and_other e h = refl

pub in_here : (e : Tree) → kind_of e ≡ Plain In → IsWellFormed e → Some (two e) ≡ as_in e
in_here (node In [] (part a (part b end))) k w = refl
in_here (node In [] end) k w = cc
in_here (node In [] (part a end)) k w = cc
in_here (node In [] (part a (part b (part c ps)))) k w = absurd (too-many (size ps) _ w)
in_here (node In (n ∷ ns) ps) k w = cc
in_here e k w = cc

in_test : (e : Tree) → kind_of e ≡ Plain In → IsWellFormed e → nat_lt 1 (length (subtrees e)) ≡ true
in_test (node In [] (part a (part b end))) k w = refl
in_test (node In [] end) k w = cc
in_test (node In [] (part a end)) k w = cc
in_test (node In [] (part a (part b (part c ps)))) k w = absurd (too-many (size ps) _ w)
in_test (node In (n ∷ ns) ps) k w = cc
in_test e k w = cc

pub in_fits : (e : Tree) → kind_of e ≡ Plain In → IsWellFormed e → 1 < length (subtrees e)
in_fits e k w = less 1 (length (subtrees e)) (in_test e k w)

pub in_other : (e : Tree) → (kind_of e ≡ Plain In → ⊥) → None ≡ as_in e
in_other (node In [] (part a (part b end))) h = absurd (h refl)
in_other e h = refl

-- ---- definitions at the head

-- the parts of a root that is a symbol are its arguments
args-are : (ps : Parts) → parts_of (list_of ps) ≡ ps
args-are end = refl
args-are (part e ps) = ap (part e) (args-are ps)

pub top_here : (d : Definition) (e : Tree) → is_symbol d.symbol (kind_of e) ≡ true → put 0 (parts_of (subtrees e)) d.body ≡ unfold_top d e
top_here d (bound i) h = cc
top_here d (app f ps) h = ap (λ qs. put 0 qs d.body) (args-are ps) ∙ sym (ap (λ b. cond b (put 0 ps d.body) (app f ps)) h)
top_here d (node m ns ps) h = cc
top_here d (bind b ps e) h = cc

pub top_other : (d : Definition) (e : Tree) → is_symbol d.symbol (kind_of e) ≡ false → e ≡ unfold_top d e
top_other d (bound i) h = refl
top_other d (app f ps) h = sym (ap (λ b. cond b (put 0 ps d.body) (app f ps)) h)
top_other d (node m ns ps) h = refl
top_other d (bind b ps e) h = refl

-- ---- quantifiers

pub quantified_here : (q : Quantifier) (e : Tree) → is_root_of q (kind_of e) ≡ true → IsWellFormed e → Some (slice_index_or (subtrees e) 0 true_) ≡ as_quantified q e
quantified_here All (bind binder.All end p) k w = refl
quantified_here All (bind binder.All (part a ps) p) k w = absurd (too-bound (size ps) _ w)
quantified_here Exists (bind binder.Ex end p) k w = refl
quantified_here Exists (bind binder.Ex (part a ps) p) k w = absurd (too-bound (size ps) _ w)
quantified_here q e k w = cc

quantified_test : (q : Quantifier) (e : Tree) → is_root_of q (kind_of e) ≡ true → nat_lt 0 (length (subtrees e)) ≡ true
quantified_test q (bind b end p) k = refl
quantified_test q (bind b (part a ps) p) k = let n : length (a ∷ (list_of ps ++ p ∷ [])) ≡ suc (length (list_of ps ++ p ∷ [])) = refl in grind (arith, nat_tests, n)
quantified_test All e k = cc
quantified_test Exists e k = cc

pub quantified_fits : (q : Quantifier) (e : Tree) → is_root_of q (kind_of e) ≡ true → 0 < length (subtrees e)
quantified_fits q e k = less 0 (length (subtrees e)) (quantified_test q e k)

pub quantified_other : (q : Quantifier) (e : Tree) → is_root_of q (kind_of e) ≡ false → None ≡ as_quantified q e
quantified_other All (bind binder.All end p) k = cc
quantified_other All e k = refl
quantified_other Exists (bind binder.Ex end p) k = cc
quantified_other Exists e k = refl
