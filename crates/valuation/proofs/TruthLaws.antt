-- A formula by its root and its parts.
use Rattle.std.proofs.Common.{◌≡◌, ℕ, zero, suc, Bool, true, false, ◌&&◌, nat_eq, List, [], ◌∷◌, length, get_or, ◌+◌, ◌++◌, refl, ap, sym, ◌∙◌, arith, rules, IsTrue}
use Rattle.std.proofs.lemmas.Bool.Decides.{nat_tests}
use Rattle.std.proofs.lemmas.Bool.{and_parts}
use Rattle.core_expr.specs.declared.head.Head.{Head}
use Rattle.core_expr.specs.declared.head.Head.TheVariants.{True, False, Not, And, Or, Imp, Iff}
use Rattle.core_expr.specs.declared.head.Sym.{Sym}
use Rattle.core_expr.specs.declared.row.RowKind.TheVariants.{Symbol, Plain}
use Rattle.core_expr.specs.Tree.{Tree, Parts, size, true_}
use Rattle.core_expr.specs.Tree.Tree.{bound, app, node, bind}
use Rattle.core_expr.specs.Tree.Parts.{end, part}
use Rattle.core_expr.specs.Heads.{plain_fits, table_numbers, list_of, subtrees, binder_arity, is_well_formed, are_well_formed}
use Rattle.core_expr.specs.Places.{kind_of}
use Rattle.valuation.specs.Truth.{Valuation, value_under}
use Rattle.valuation.specs.Forms.{part_of, combined}

pub is_true : (b : Bool) → IsTrue b → b ≡ true
is_true b h = search rules

pub true_is : (b : Bool) → b ≡ true → IsTrue b
true_is b h = search rules

formed-at : (ps : Parts) (k : ℕ) → are_well_formed ps ≡ true → is_well_formed (get_or (list_of ps) k true_) ≡ true
formed-at end k w = refl
formed-at (part e ps) zero w = (and_parts (is_well_formed e) (are_well_formed ps) w).0
formed-at (part e ps) (suc k) w = formed-at ps k (and_parts (is_well_formed e) (are_well_formed ps) w).1

formed-last : (ps : Parts) (e : Tree) (k : ℕ) → are_well_formed ps ≡ true → is_well_formed e ≡ true → is_well_formed (get_or (list_of ps ++ e ∷ []) k true_) ≡ true
formed-last end e zero w v = v
formed-last end e (suc k) w v = refl
formed-last (part t ps) e zero w v = (and_parts (is_well_formed t) (are_well_formed ps) w).0
formed-last (part t ps) e (suc k) w v = formed-last ps e k (and_parts (is_well_formed t) (are_well_formed ps) w).1 v

-- the parts of a well-formed tree are well formed
pub part-formed : (t : Tree) (k : ℕ) → is_well_formed t ≡ true → is_well_formed (part_of t k) ≡ true
part-formed (bound i) k w = refl
part-formed (app f ps) k w = formed-at ps k (and_parts (nat_eq (size ps) f.arity) (are_well_formed ps) w).1
part-formed (node g ns ps) k w = formed-at ps k (and_parts (plain_fits g (table_numbers g ns (size ps)) (size ps)) (are_well_formed ps) w).1
part-formed (bind b ps e) k w =
    let v = and_parts (are_well_formed ps) (is_well_formed e) (and_parts (nat_eq (size ps + 1) (binder_arity b)) (are_well_formed ps && is_well_formed e) w).1 in formed-last ps e k v.0 v.1

-- more parts than a head takes
pub some-part : (n : ℕ) → nat_eq (suc n) 0 ≡ false
some-part n = grind (arith, nat_tests)

pub over-none : (n : ℕ) → nat_eq (suc n) 0 ≡ true → ⊥
over-none n e = grind (arith, nat_tests)

pub over-one : (n : ℕ) → nat_eq (suc (suc n)) 1 ≡ true → ⊥
over-one n e = grind (arith, nat_tests)

pub over-two : (n : ℕ) → nat_eq (suc (suc (suc n))) 2 ≡ true → ⊥
over-two n e = grind (arith, nat_tests)

-- the value of a node, by those of its parts
of-node : (v : Valuation) (h : Head) (ns : List ℕ) (ps : Parts) → plain_fits h (table_numbers h ns (size ps)) (size ps) ≡ true
    → value_under v (node h ns ps) ≡ combined h (value_under v (part_of (node h ns ps) 0)) (value_under v (part_of (node h ns ps) 1))
of-node v True [] end f = refl
of-node v True [] (part e ps) f = absurd (over-none (size ps) f)
of-node v True (n ∷ ns) ps f = cc
of-node v False [] end f = refl
of-node v False [] (part e ps) f = absurd (over-none (size ps) f)
of-node v False (n ∷ ns) ps f = cc
of-node v Not [] (part a end) f = refl
of-node v Not [] end f = cc
of-node v Not [] (part a (part b ps)) f = absurd (over-one (size ps) f)
of-node v Not (n ∷ ns) ps f = cc
of-node v And [] (part a (part b end)) f = refl
of-node v And [] end f = cc
of-node v And [] (part a end) f = cc
of-node v And [] (part a (part b (part c ps))) f = absurd (over-two (size ps) f)
of-node v And (n ∷ ns) ps f = cc
of-node v Or [] (part a (part b end)) f = refl
of-node v Or [] end f = cc
of-node v Or [] (part a end) f = cc
of-node v Or [] (part a (part b (part c ps))) f = absurd (over-two (size ps) f)
of-node v Or (n ∷ ns) ps f = cc
of-node v Imp [] (part a (part b end)) f = refl
of-node v Imp [] end f = cc
of-node v Imp [] (part a end) f = cc
of-node v Imp [] (part a (part b (part c ps))) f = absurd (over-two (size ps) f)
of-node v Imp (n ∷ ns) ps f = cc
of-node v Iff [] (part a (part b end)) f = refl
of-node v Iff [] end f = cc
of-node v Iff [] (part a end) f = cc
of-node v Iff [] (part a (part b (part c ps))) f = absurd (over-two (size ps) f)
of-node v Iff (n ∷ ns) ps f = cc
of-node v h ns ps f = refl

pub value-plain : (v : Valuation) (t : Tree) (h : Head) → is_well_formed t ≡ true → kind_of t ≡ Plain h
    → value_under v t ≡ combined h (value_under v (part_of t 0)) (value_under v (part_of t 1))
value-plain v (bound i) h w e = cc
value-plain v (app f ps) h w e = cc
value-plain v (node g ns ps) h w e =
    let same : g ≡ h = cc in
    of-node v g ns ps (and_parts (plain_fits g (table_numbers g ns (size ps)) (size ps)) (are_well_formed ps) w).0
    ∙ ap (λ l. combined l (value_under v (part_of (node g ns ps) 0)) (value_under v (part_of (node g ns ps) 1))) same
value-plain v (bind b ps q) h w e = cc

pub value-symbol : (v : Valuation) (t : Tree) (s : Sym) → kind_of t ≡ Symbol s → value_under v t ≡ (nat_eq (length (subtrees t)) 0 && v s)
value-symbol v (bound i) s e = cc
value-symbol v (app f end) s e = let same : f ≡ s = cc in ap v same
value-symbol v (app f (part a ps)) s e = ap (λ b. b && v s) (sym (some-part (length (list_of ps))))
value-symbol v (node g ns ps) s e = cc
value-symbol v (bind b ps q) s e = cc

pub value-other : (v : Valuation) (t : Tree) → ((s : Sym) → kind_of t ≡ Symbol s → ⊥) → ((h : Head) → kind_of t ≡ Plain h → ⊥) → value_under v t ≡ false
value-other v (bound i) ns np = refl
value-other v (app f ps) ns np = absurd (ns f refl)
value-other v (node g ms ps) ns np = absurd (np g refl)
value-other v (bind b ps q) ns np = refl
