-- Putting in and moving variables leave trees well formed.
use Rattle.std.proofs.Common.{◌≡◌, ℕ, suc, ◌-◌, Bool, true, false, ◌&&◌, cond, nat_lt, nat_eq, refl, ◌∙◌}
use Rattle.std.proofs.lemmas.Bool.{and_parts, and_from}
use Rattle.core_expr.specs.Tree.{Tree, Parts, size}
use Rattle.core_expr.specs.Tree.Tree.{bound, app, node, bind}
use Rattle.core_expr.specs.Tree.Parts.{end, part}
use Rattle.core_expr.specs.Put.{shift, shifts, argument, put, puts, inst}
use Rattle.core_expr.specs.Heads.{is_well_formed, are_well_formed}
use Rattle.core_expr.proofs.Laws.{size-puts, size-shifts}

mutual
  pub formed-shift : (c k : ℕ) (e : Tree) → is_well_formed (shift c k e) ≡ is_well_formed e
  formed-shift c k (bound i) = refl
  formed-shift c k (app f ps) = rw (size-shifts c k ps, formed-shifts c k ps)
  formed-shift c k (node h ns ps) = rw (size-shifts c k ps, formed-shifts c k ps)
  formed-shift c k (bind b ps e) = rw (size-shifts c k ps, formed-shifts c k ps, formed-shift (suc c) k e)

  formed-shifts : (c k : ℕ) (ps : Parts) → are_well_formed (shifts c k ps) ≡ are_well_formed ps
  formed-shifts c k end = refl
  formed-shifts c k (part e ps) = rw (formed-shift c k e, formed-shifts c k ps)

formed_cond : (b : Bool) (x y : Tree) → is_well_formed x ≡ true → is_well_formed y ≡ true → is_well_formed (cond b x y) ≡ true
formed_cond true x y p q = p
formed_cond false x y p q = q

argument-formed : (ts : Parts) (j : ℕ) → are_well_formed ts ≡ true → is_well_formed (argument ts j) ≡ true
argument-formed end j h = refl
argument-formed (part e ts) j h =
    let k = and_parts (is_well_formed e) (are_well_formed ts) h in formed_cond (nat_eq j (size ts)) e (argument ts j) k.0 (argument-formed ts j k.1)

mutual
  pub formed-put : (d : ℕ) (ts : Parts) (e : Tree) → are_well_formed ts ≡ true → is_well_formed e ≡ true → is_well_formed (put d ts e) ≡ true
  formed-put d ts (bound i) h k =
      formed_cond (nat_lt i d) (bound i) (shift 0 d (argument ts (i - d))) refl (formed-shift 0 d (argument ts (i - d)) ∙ argument-formed ts (i - d) h)
  formed-put d ts (app f ps) h k =
      let q = and_parts _ (are_well_formed ps) k in rw (size-puts d ts ps) (and_from _ _ q.0 (formed-puts d ts ps h q.1))
  formed-put d ts (node f ns ps) h k =
      let q = and_parts _ (are_well_formed ps) k in rw (size-puts d ts ps) (and_from _ _ q.0 (formed-puts d ts ps h q.1))
  formed-put d ts (bind b ps e) h k =
      let q = and_parts _ (are_well_formed ps && is_well_formed e) k in
      let r = and_parts (are_well_formed ps) (is_well_formed e) q.1 in
      rw (size-puts d ts ps) (and_from _ _ q.0 (and_from _ _ (formed-puts d ts ps h r.0) (formed-put (suc d) ts e h r.1)))

  pub formed-puts : (d : ℕ) (ts ps : Parts) → are_well_formed ts ≡ true → are_well_formed ps ≡ true → are_well_formed (puts d ts ps) ≡ true
  formed-puts d ts end h k = refl
  formed-puts d ts (part e ps) h k =
      let q = and_parts (is_well_formed e) (are_well_formed ps) k in and_from _ _ (formed-put d ts e h q.0) (formed-puts d ts ps h q.1)

pub formed-inst : (p t : Tree) → is_well_formed p ≡ true → is_well_formed t ≡ true → is_well_formed (inst p t) ≡ true
formed-inst p t h k = formed-put 0 (part t end) p (and_from _ _ k refl) h
