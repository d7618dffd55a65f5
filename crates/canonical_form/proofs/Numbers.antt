-- Renaming numbers the symbols of an expression that they cover.
use Rattle.std.proofs.Common.{◌≡◌, ℕ, suc, ◌+◌, Bool, true, false, ◌||◌, ◌&&◌, cond, nat_eq, List, [], ◌∷◌, refl, sym, ap, ◌∙◌, arith}
use Rattle.std.specs.Prelude.{Option, Some}
use Rattle.std.proofs.lemmas.Bool.{and_parts}
use Rattle.core_expr.specs.declared.head.Sym.{Sym}
use Rattle.core_expr.specs.Tree.{Tree, Parts, size}
use Rattle.core_expr.specs.Tree.Tree.{bound, app, node, bind}
use Rattle.core_expr.specs.Tree.Parts.{end, part}
use Rattle.core_expr.specs.Heads.{plain_fits, table_numbers, binder_arity, is_well_formed, are_well_formed, IsWellFormed}
use Rattle.core_expr.specs.Nodes.{canon_sym}
use Rattle.core_expr.specs.Put.{apply_body, sub, subs}
use Rattle.core_expr.specs.Rename.{named}
use Rattle.core_expr.specs.Terms.{same_sym}
use Rattle.core_expr.specs.Equal.{sym-same, nat-same}
use Rattle.proof_contexts.specs.Canonical.{is_listed, place_of, numbered, all_numbered}
use Rattle.canonical_form.specs.Named.{own, pairs_from, Covers, CoversParts}
use Rattle.canonical_form.proofs.Variables.{put-own}

named-place : (n k : ℕ) (xs : List Sym) (f : Sym) → is_listed xs f ≡ true → k ≡ n + place_of xs f → named (pairs_from n xs) f ≡ Some (app (canon_sym k f.arity) (own f.arity))
named-place n k [] f h e = cc
named-place n k (x ∷ xs) f h e = go (same_sym x f) refl (λ h e. named-place (suc n) k xs f h e) h e
  where
    go : (b : Bool) → same_sym x f ≡ b → (is_listed xs f ≡ true → k ≡ suc n + place_of xs f → named (pairs_from (suc n) xs) f ≡ Some (app (canon_sym k f.arity) (own f.arity))) → (b || is_listed xs f) ≡ true → k ≡ n + cond b 0 (suc (place_of xs f))
        → elim b [ true ↦ Some (app (canon_sym n x.arity) (own x.arity)) | false ↦ named (pairs_from (suc n) xs) f ] ≡ Some (app (canon_sym k f.arity) (own f.arity))
    go true s g h e = let q : n ≡ k = omega (arith, e) in λ i. Some (app (canon_sym (q i) (sym-same x f s i).arity) (own (sym-same x f s i).arity))
    go false s g h e = g h (omega (arith, e))

size-subs : (s : Sym → Option Tree) (ps : Parts) → size (subs s ps) ≡ size ps
size-subs s end = refl
size-subs s (part e ps) = ap suc (size-subs s ps)

mutual
  renamed : (xs : List Sym) (e : Tree) → IsWellFormed e → Covers xs e → sub (named (pairs_from 0 xs)) e ≡ numbered xs e
  renamed xs (bound i) w h = refl
  renamed xs (app f ps) w h =
      let p = and_parts (nat_eq (size ps) f.arity) (are_well_formed ps) w in
      let s = named (pairs_from 0 xs) in
      let a = nat-same (size ps) f.arity p.0 in
      let n = named-place 0 (place_of xs f) xs f h.0 (omega arith) in
      ap (λ o. apply_body o f (subs s ps)) n ∙ put-own (canon_sym (place_of xs f) f.arity) f.arity (subs s ps) (sym a ∙ sym (size-subs s ps))
      ∙ (λ i. app (canon_sym (place_of xs f) (sym a i)) (renamed-parts xs ps p.1 h.1 i))
  renamed xs (node m ns ps) w h = ap (node m ns) (renamed-parts xs ps (and_parts (plain_fits m (table_numbers m ns (size ps)) (size ps)) (are_well_formed ps) w).1 h)
  renamed xs (bind b ps e) w h =
      let p = and_parts (are_well_formed ps) (is_well_formed e) (and_parts (nat_eq (size ps + 1) (binder_arity b)) (are_well_formed ps && is_well_formed e) w).1 in
      λ i. bind b (renamed-parts xs ps p.0 h.0 i) (renamed xs e p.1 h.1 i)

  renamed-parts : (xs : List Sym) (ps : Parts) → are_well_formed ps ≡ true → CoversParts xs ps → subs (named (pairs_from 0 xs)) ps ≡ all_numbered xs ps
  renamed-parts xs end w h = refl
  renamed-parts xs (part e ps) w h =
      let p = and_parts (is_well_formed e) (are_well_formed ps) w in λ i. part (renamed xs e p.0 h.0 i) (renamed-parts xs ps p.1 h.1 i)

pub renamed_is : (xs : List Sym) (by : List (Sym × Tree)) (e : Tree) → by ≡ pairs_from 0 xs → IsWellFormed e → Covers xs e → sub (named by) e ≡ numbered xs e
renamed_is xs by e h w c = ap (λ b. sub (named b) e) h ∙ renamed xs e w c
