-- A map from symbols takes an instance of a schema to an instance of it.
use Rattle.std.specs.Prelude.{◌≡◌, ℕ, zero, suc, ◌+◌, Bool, true, false, cond, nat_le, nat_eq, Option, Some, None, List, [], ◌∷◌, length, take, drop, map}
use Rattle.std.proofs.Common.{refl, ap, sym, ◌∙◌}
use Rattle.std.proofs.lemmas.List.{take-map, drop-map, length-map}
use Rattle.core_expr.specs.declared.head.Sym.{Sym}
use Rattle.core_expr.specs.Tree.{Tree, true_, false_, not_, and_, or_, iff_, eq_, tuple_, num_, str_, choose_}
use Rattle.core_expr.specs.Tree.Parts.{part}
use Rattle.core_expr.specs.Put.{sub, subs}
use Rattle.core_expr.proofs.Laws.{sub-inst, sub-shift}
use Rattle.seq_calculus.specs.Schemas.{parts, join_from, join, equals_each, equal_pairs, nth, about_nth, are_apart, unnumbered, of_one, of_two, of_three, of_four, about_cup, about_cap, about_difference, about_power, about_union, about_filter, about_image, about_boolean, about_subset, about_extensionality, about_choice, about_then, about_otherwise, about_domain, about_application, about_functions, about_function_set, about_except, row1, row20, row21, row22, no_row, Row, rows, row_at, instance_of}

abbrev lift : (Tree → Tree) → Option Tree → Option Tree
lift f None = None
lift f (Some e) = Some (f e)

module _ (s : Sym → Option Tree) where
  subs-parts : (es : List Tree) → parts (map (sub s) es) ≡ subs s (parts es)
  subs-parts [] = refl
  subs-parts (e ∷ es) = ap (part (sub s e)) (subs-parts es)

  sub-join_or_from : (x : Tree) (es : List Tree) → sub s (join_from (λ a b. or_ a b) x es) ≡ join_from (λ a b. or_ a b) (sub s x) (map (sub s) es)
  sub-join_or_from x [] = refl
  sub-join_or_from x (e ∷ es) = sub-join_or_from (or_ x e) es

  sub-join_or : (es : List Tree) → sub s (join (λ a b. or_ a b) false_ es) ≡ join (λ a b. or_ a b) false_ (map (sub s) es)
  sub-join_or [] = refl
  sub-join_or (e ∷ es) = sub-join_or_from e es

  sub-join_and_from : (x : Tree) (es : List Tree) → sub s (join_from (λ a b. and_ a b) x es) ≡ join_from (λ a b. and_ a b) (sub s x) (map (sub s) es)
  sub-join_and_from x [] = refl
  sub-join_and_from x (e ∷ es) = sub-join_and_from (and_ x e) es

  sub-join_and : (es : List Tree) → sub s (join (λ a b. and_ a b) true_ es) ≡ join (λ a b. and_ a b) true_ (map (sub s) es)
  sub-join_and [] = refl
  sub-join_and (e ∷ es) = sub-join_and_from e es

  map-equals_each : (t : Tree) (es : List Tree) → map (sub s) (equals_each t es) ≡ equals_each (sub s t) (map (sub s) es)
  map-equals_each t [] = refl
  map-equals_each t (e ∷ es) = ap (λ l. eq_ (sub s t) (sub s e) ∷ l) (map-equals_each t es)

  abbrev Commutes : Row → Type 0
  Commutes r = (z : ℕ) (ps : List Tree) (i : Tree) → r z ps ≡ Some i → r z (map (sub s) ps) ≡ Some (sub s i)

  of_one-sub : (f : Tree → Tree) → ((a : Tree) → f (sub s a) ≡ sub s (f a)) → Commutes (of_one f)
  of_one-sub f h z (a ∷ []) i e = ap Some (h a) ∙ ap (lift (sub s)) e
  of_one-sub f h z _ i e = cc

  of_two-sub : (f : Tree → Tree → Tree) → ((a b : Tree) → f (sub s a) (sub s b) ≡ sub s (f a b)) → Commutes (of_two f)
  of_two-sub f h z (a ∷ b ∷ []) i e = ap Some (h a b) ∙ ap (lift (sub s)) e
  of_two-sub f h z _ i e = cc

  of_three-sub : (f : Tree → Tree → Tree → Tree) → ((a b c : Tree) → f (sub s a) (sub s b) (sub s c) ≡ sub s (f a b c)) → Commutes (of_three f)
  of_three-sub f h z (a ∷ b ∷ c ∷ []) i e = ap Some (h a b c) ∙ ap (lift (sub s)) e
  of_three-sub f h z _ i e = cc

  functions-sub : Commutes (of_four about_functions)
  functions-sub z (a ∷ b ∷ c ∷ d ∷ []) i e = rw (← sub-shift s 0 1 a) (ap (lift (sub s)) e)
  functions-sub z _ i e = cc

  row1-sub : (z : ℕ) (ps : List Tree) (i : Tree) → row1 z ps ≡ Some i → row1 z (map (sub s) ps) ≡ Some (sub s i)
  row1-sub z [] i e = cc
  row1-sub z (t ∷ es) i e =
      rw (subs-parts es, ← map-equals_each t es, ← sub-join_or (equals_each t es)) (ap (lift (sub s)) e)

  map-equal_pairs : (as' bs : List Tree) → map (sub s) (equal_pairs as' bs) ≡ equal_pairs (map (sub s) as') (map (sub s) bs)
  map-equal_pairs [] bs = refl
  map-equal_pairs (a ∷ as') [] = refl
  map-equal_pairs (a ∷ as') (b ∷ bs) = ap (λ l. eq_ (sub s a) (sub s b) ∷ l) (map-equal_pairs as' bs)

  push : (b : Bool) (x y : Tree) → sub s (cond b x y) ≡ cond b (sub s x) (sub s y)
  push true x y = refl
  push false x y = refl

  push_some : (b : Bool) (x i : Tree) (y : Tree) → sub s x ≡ y → cond b (Some x) None ≡ Some i → cond b (Some y) None ≡ Some (sub s i)
  push_some true x i y h e = ap Some (sym h) ∙ ap (lift (sub s)) e
  push_some false x i y h e = cc

  row20-sub : (z : ℕ) (ps : List Tree) (i : Tree) → row20 z ps ≡ Some i → row20 z (map (sub s) ps) ≡ Some (sub s i)
  row20-sub z ps i e =
      rw (length-map ps (sub s), take-map (sub s) z ps, drop-map (sub s) z ps, subs-parts (take z ps), subs-parts (drop z ps), ← map-equal_pairs (take z ps) (drop z ps), ← sub-join_and (equal_pairs (take z ps) (drop z ps)))
      (push_some (nat_le z (length ps)) _ i _ (ap (λ y. iff_ (eq_ (tuple_ (subs s (parts (take z ps)))) (tuple_ (subs s (parts (drop z ps))))) y) (push (nat_eq (z + z) (length ps)) (join (λ a b. and_ a b) true_ (equal_pairs (take z ps) (drop z ps))) false_)) e)

  nth-map : (es : List Tree) (j : ℕ) → nth (map (sub s) es) j ≡ lift (sub s) (nth es j)
  nth-map [] j = refl
  nth-map (e ∷ es) zero = refl
  nth-map (e ∷ es) (suc j) = nth-map es j

  about_nth-sub : (es : List Tree) (z : ℕ) (o : Option Tree) (i : Tree) → about_nth es z o ≡ Some i → about_nth (map (sub s) es) z (lift (sub s) o) ≡ Some (sub s i)
  about_nth-sub es z None i e = cc
  about_nth-sub es z (Some x) i e = rw (subs-parts es) (ap (lift (sub s)) e)

  row21-sub : (z : ℕ) (ps : List Tree) (i : Tree) → row21 z ps ≡ Some i → row21 z (map (sub s) ps) ≡ Some (sub s i)
  row21-sub zero es i e = cc
  row21-sub (suc z) es i e = rw (nth-map es z) (about_nth-sub es (suc z) (nth es z) i e)

  row22-case : (l m i : Tree) → cond (are_apart l m) (Some (not_ (eq_ l m))) None ≡ Some i → cond (are_apart (sub s l) (sub s m)) (Some (not_ (eq_ (sub s l) (sub s m)))) None ≡ Some (sub s i)
  row22-case (num_ a b) (num_ c d) i e = push_some (are_apart (num_ a b) (num_ c d)) _ i _ refl e
  row22-case (str_ a) (str_ b) i e = push_some (are_apart (str_ a) (str_ b)) _ i _ refl e
  row22-case _ _ i e = cc

  row22-sub : (z : ℕ) (ps : List Tree) (i : Tree) → row22 z ps ≡ Some i → row22 z (map (sub s) ps) ≡ Some (sub s i)
  row22-sub z (l ∷ m ∷ []) i e = row22-case l m i e
  row22-sub z _ i e = cc

  no_row-sub : (z : ℕ) (ps : List Tree) (i : Tree) → no_row z ps ≡ Some i → no_row z (map (sub s) ps) ≡ Some (sub s i)
  no_row-sub z ps i e = cc

  unnumbered-sub : (r : Row) → Commutes r → Commutes (unnumbered r)
  unnumbered-sub r h zero ps i e = h 0 ps i e
  unnumbered-sub r h (suc z) ps i e = cc

  abbrev EachCommutes : List Row → Type 0
  EachCommutes [] = Unit {0}
  EachCommutes (r ∷ rs) = Commutes r × EachCommutes rs

  row_at-sub : (rs : List Row) → EachCommutes rs → (k : ℕ) → Commutes (row_at rs k)
  row_at-sub [] h k z ps i e = no_row-sub z ps i e
  row_at-sub (r ∷ rs) h zero z ps i e = h.0 z ps i e
  row_at-sub (r ∷ rs) h (suc k) z ps i e = row_at-sub rs h.1 k z ps i e

  -- each row of the table
  rows-sub : EachCommutes rows
  rows-sub = (
    no_row-sub,
    (
      unnumbered-sub row1 row1-sub,
      (
        three about_cup (λ t a b. refl),
        (
          three about_cap (λ t a b. refl),
          (
            three about_difference (λ t a b. refl),
            (
              two about_power (λ t a. refl),
              (
                two about_union (λ t a. rw (← sub-shift s 0 1 a, ← sub-shift s 0 1 t)),
                (
                  three about_filter (λ t a p. rw (← sub-inst s p t)),
                  (
                    three about_image (λ t a e. rw (← sub-shift s 0 1 a, ← sub-shift s 0 1 t)),
                    (
                      one about_boolean (λ t. refl),
                      (
                        two about_subset (λ a b. rw (← sub-shift s 0 1 a, ← sub-shift s 0 1 b)),
                        (
                          two about_extensionality (λ a b. rw (← sub-shift s 0 1 a, ← sub-shift s 0 1 b)),
                          (
                            one about_choice (λ p. rw (← sub-inst s p (choose_ p))),
                            (
                              three about_then (λ p a b. refl),
                              (
                                three about_otherwise (λ p a b. refl),
                                (
                                  two about_domain (λ d e. refl),
                                  (
                                    three about_application (λ a d e. rw (← sub-inst s e a)),
                                    (
                                      unnumbered-sub (of_four about_functions) functions-sub,
                                      (
                                        three about_function_set (λ f d t. rw (← sub-shift s 0 1 f, ← sub-shift s 0 1 d, ← sub-shift s 0 1 t)),
                                        (
                                          three about_except (λ f a b. rw (← sub-shift s 0 1 f, ← sub-shift s 0 1 a, ← sub-shift s 0 1 b)),
                                          (row20-sub, (row21-sub, (unnumbered-sub row22 row22-sub, tt))),
                                        ),
                                      ),
                                    ),
                                  ),
                                ),
                              ),
                            ),
                          ),
                        ),
                      ),
                    ),
                  ),
                ),
              ),
            ),
          ),
        ),
      ),
    ),
  )
    where
      one : (f : Tree → Tree) → ((a : Tree) → f (sub s a) ≡ sub s (f a)) → Commutes (unnumbered (of_one f))
      one f h = unnumbered-sub (of_one f) (of_one-sub f h)

      two : (f : Tree → Tree → Tree) → ((a b : Tree) → f (sub s a) (sub s b) ≡ sub s (f a b)) → Commutes (unnumbered (of_two f))
      two f h = unnumbered-sub (of_two f) (of_two-sub f h)

      three : (f : Tree → Tree → Tree → Tree) → ((a b c : Tree) → f (sub s a) (sub s b) (sub s c) ≡ sub s (f a b c)) → Commutes (unnumbered (of_three f))
      three f h = unnumbered-sub (of_three f) (of_three-sub f h)

  -- an instance of the substituted parameters
  pub instance_of-sub : (k z : ℕ) (ps : List Tree) (i : Tree) → instance_of k z ps ≡ Some i → instance_of k z (map (sub s) ps) ≡ Some (sub s i)
  instance_of-sub = row_at-sub rows rows-sub
