-- Unfolding leaves no symbol of a definition.
use Rattle.std.proofs.Common.{◌≡◌, ℕ, suc, ◌-◌, Bool, true, false, ◌||◌, cond, nat_lt, nat_eq, Option, Some, None, List, [], ◌∷◌, refl, subst}
use Rattle.core_expr.specs.declared.head.Sym.{Sym}
use Rattle.core_expr.specs.Tree.{Tree, Parts, size}
use Rattle.core_expr.specs.Tree.Tree.{bound, app, node, bind}
use Rattle.core_expr.specs.Tree.Parts.{end, part}
use Rattle.core_expr.specs.Terms.{same_sym}
use Rattle.core_expr.specs.Put.{shift, shifts, argument, put, puts, apply_body, sub, subs}
use Rattle.core_expr.specs.Rename.{named}
use Rattle.obligation.specs.declared.obligation.Definition.{Definition}
use Rattle.obligation.specs.Unfolding.{put_in, unfolded, is_defined, Avoids, AllAvoid, NoneIsLeft}

module _ (among : Sym → Bool) where
  mutual
    shifted : (c k : ℕ) (e : Tree) → Avoids among e → Avoids among (shift c k e)
    shifted c k (bound i) h = tt
    shifted c k (app f ps) h = (h.0, all-shifted c k ps h.1)
    shifted c k (node g ns ps) h = all-shifted c k ps h
    shifted c k (bind b ps e) h = (all-shifted c k ps h.0, shifted (suc c) k e h.1)

    all-shifted : (c k : ℕ) (ps : Parts) → AllAvoid among ps → AllAvoid among (shifts c k ps)
    all-shifted c k end h = tt
    all-shifted c k (part e ps) h = (shifted c k e h.0, all-shifted c k ps h.1)

  chosen : (b : Bool) (x y : Tree) → Avoids among x → Avoids among y → Avoids among (cond b x y)
  chosen true x y h k = h
  chosen false x y h k = k

  argument-avoids : (ts : Parts) (j : ℕ) → AllAvoid among ts → Avoids among (argument ts j)
  argument-avoids end j h = tt
  argument-avoids (part e ts) j h = chosen (nat_eq j (size ts)) e (argument ts j) h.0 (argument-avoids ts j h.1)

  mutual
    put-avoids : (d : ℕ) (ts : Parts) (e : Tree) → AllAvoid among ts → Avoids among e → Avoids among (put d ts e)
    put-avoids d ts (bound i) h k = chosen (nat_lt i d) (bound i) (shift 0 d (argument ts (i - d))) tt (shifted 0 d (argument ts (i - d)) (argument-avoids ts (i - d) h))
    put-avoids d ts (app f ps) h k = (k.0, puts-avoid d ts ps h k.1)
    put-avoids d ts (node g ns ps) h k = puts-avoid d ts ps h k
    put-avoids d ts (bind b ps e) h k = (puts-avoid d ts ps h k.0, put-avoids (suc d) ts e h k.1)

    puts-avoid : (d : ℕ) (ts ps : Parts) → AllAvoid among ts → AllAvoid among ps → AllAvoid among (puts d ts ps)
    puts-avoid d ts end h k = tt
    puts-avoid d ts (part e ps) h k = (put-avoids d ts e h k.0, puts-avoid d ts ps h k.1)

  -- what is put in avoids them, and of what stays none is among them
  module _ (among_these : Sym → Bool) (s : Sym → Option Tree) (body : (f : Sym) (b : Tree) → s f ≡ Some b → Avoids among b) (stays : (f : Sym) → among_these f ≡ false → s f ≡ None → among f ≡ false) where
    applied : (o : Option Tree) (f : Sym) (ps : Parts) → s f ≡ o → among_these f ≡ false → AllAvoid among ps → Avoids among (apply_body o f ps)
    applied None f ps e h k = (stays f h e, k)
    applied (Some b) f ps e h k = put-avoids 0 ps b k (body f b e)

    mutual
      pub sub-avoids : (e : Tree) → Avoids among_these e → Avoids among (sub s e)
      sub-avoids (bound i) h = tt
      sub-avoids (app f ps) h = applied (s f) f (subs s ps) refl h.0 (subs-avoid ps h.1)
      sub-avoids (node g ns ps) h = subs-avoid ps h
      sub-avoids (bind b ps e) h = (subs-avoid ps h.0, sub-avoids e h.1)

      subs-avoid : (ps : Parts) → AllAvoid among_these ps → AllAvoid among (subs s ps)
      subs-avoid end h = tt
      subs-avoid (part e ps) h = (sub-avoids e h.0, subs-avoid ps h.1)

-- one definition, with the symbols of those that are unfolded already
one-put : (d : Definition) (ds : List Definition) (e : Tree) → Avoids (is_defined (d ∷ ds)) d.body → Avoids (is_defined ds) e → Avoids (is_defined (d ∷ ds)) (put_in d e)
one-put d ds e own h = sub-avoids (is_defined (d ∷ ds)) (is_defined ds) (named ((d.symbol, d.body) ∷ [])) (λ f b. of-pair (same_sym d.symbol f) b) (λ f k. of-none (same_sym d.symbol f) (is_defined ds f) k) e h
  where
    of-pair : (x : Bool) (b : Tree) → elim x as (λ _. Option Tree) [ true ↦ Some d.body | false ↦ None ] ≡ Some b → Avoids (is_defined (d ∷ ds)) b
    of-pair true b e = subst (Avoids (is_defined (d ∷ ds))) (let same : d.body ≡ b = cc in same) own
    of-pair false b e = absurd (cc)

    of-none : (x y : Bool) → y ≡ false → elim x as (λ _. Option Tree) [ true ↦ Some d.body | false ↦ None ] ≡ None → (x || y) ≡ false
    of-none true y k e = absurd (cc)
    of-none false y k e = k

mutual
  anywhere : (e : Tree) → Avoids (λ f. false) e
  anywhere (bound i) = tt
  anywhere (app f ps) = (refl, anywhere-in ps)
  anywhere (node g ns ps) = anywhere-in ps
  anywhere (bind b ps e) = (anywhere-in ps, anywhere e)

  anywhere-in : (ps : Parts) → AllAvoid (λ f. false) ps
  anywhere-in end = tt
  anywhere-in (part e ps) = (anywhere e, anywhere-in ps)

pub none_is_left : NoneIsLeft
none_is_left [] e h = anywhere e
none_is_left (d ∷ ds) e h = one-put d ds (unfolded ds e) h.0 (none_is_left ds e h.1)
