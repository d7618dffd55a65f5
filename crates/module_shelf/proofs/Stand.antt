-- The order of the modules, along the walk.
use Rattle.std.proofs.Common.{◌≡◌, ℕ, ◌<◌, ◌≤◌, ◌+◌, inl, inr, Bool, true, false, ◌||◌, List, [], ◌∷◌, ◌++◌, length, slice_index_or, refl, ap, sym, subst, ◌∙◌, arith, length-append, true≢false, eq-or-lt_of_le, Ok, Err, OnOk}
use Rattle.std.specs.List.{All, list_any}
use Rattle.std.specs.Str.{bytes_eq}
use Rattle.std.proofs.lemmas.Bool.{or_left, or_right, or_from, or_cases, false_from_ne_true}
use Rattle.std.proofs.lemmas.List.{append-nil}
use Rattle.std.proofs.lemmas.List.Folds.{list_any-append}
use Rattle.std.proofs.lemmas.Slice.Eq.{bytes_eq-Decides}
use Rattle.std.proofs.Math.Bool.{or-false}
use Rattle.std.proofs.Math.Seq.{append_snoc}
use Rattle.tla_ast.specs.Word.{is_among}
use Rattle.tla_ast.specs.declared.place.Place.{Place}
use Rattle.tla_ast.specs.declared.unit.Module.{Module}
use Rattle.module_shelf.specs.Loading.{Text, Outcome, has}
use Rattle.module_shelf.specs.Order.{IsMet, StandBehind, Fine, MayBegin, Still, Reached, Visited, IsOrdered}

-- ---- one behind others

-- the last passes a test, or one before it
any-last : {X : Type 0} (p : X → Bool) (xs : List X) (x : X) → list_any p (xs ++ x ∷ []) ≡ (list_any p xs || p x)
any-last p xs x = list_any-append p xs (x ∷ []) ∙ ap (λ b. list_any p xs || b) (or-false (p x))

any-front : {X : Type 0} (p : X → Bool) (xs : List X) (x : X) → list_any p xs ≡ true → list_any p (xs ++ x ∷ []) ≡ true
any-front p xs x a = any-last p xs x ∙ or_left _ _ a

has-last : (ms : List Module) (m : Module) → has (ms ++ m ∷ []) m.name ≡ true
has-last ms m = any-last (λ x. bytes_eq x.name m.name) ms m ∙ or_right _ _ ((bytes_eq-Decides m.name m.name).1 refl)

-- ---- modules behind modules

pub stand-last : (before ms : List Module) (m : Module) → StandBehind before ms → All (IsMet (before ++ ms)) m.extends → has (before ++ ms) m.name ≡ false
    → StandBehind before (ms ++ m ∷ [])
stand-last before [] m s a f =
    let e = append-nil before in
    (subst (λ l. All (IsMet l) m.extends) e a, ap (λ l. has l m.name) (sym e) ∙ f, tt)
stand-last before (x ∷ ms) m s a f =
    let e : before ++ x ∷ ms ≡ before ++ (x ∷ []) ++ ms = sym (append_snoc before x ms) in
    (s.0, s.1, stand-last (before ++ x ∷ []) ms m s.2 (subst (λ l. All (IsMet l) m.extends) e a) (ap (λ l. has l m.name) (sym e) ∙ f))

-- one further name is met
pub met-more : (P : Text × Place → Type 0) (es : List (Text × Place)) (i : ℕ) → ((k : ℕ) (d : Text × Place) → k < i → P (slice_index_or es k d))
    → ((d : Text × Place) → P (slice_index_or es i d)) → (k : ℕ) (d : Text × Place) → k < i + 1 → P (slice_index_or es k d)
met-more P es i below here k d h = elim (eq-or-lt_of_le (let within : k ≤ i = omega arith in within)) [ inl e ↦ subst (λ j. P (slice_index_or es j d)) (sym e) (here d) | inr l ↦ below k d l ]

-- ---- the walk

-- a module that may begin stands on the path
pub fine-next : (path : List Text) (done : List Module) (name : Text) → Fine path done → MayBegin path done name → Fine (path ++ name ∷ []) done
fine-next path done name f b = record {
  order = f.order;
  apart = λ x h. elim (or_cases _ _ (sym (any-last (λ n. bytes_eq n x) path name) ∙ h)) [ inl a ↦ f.apart x a | inr e ↦ let same : name ≡ x = (bytes_eq-Decides name x).0 e in ap (has done) (sym same) ∙ b.1 ];
  few = let n : length (path ++ name ∷ []) ≡ length path + 1 = length-append path (name ∷ []) in omega (arith, b.2, n);
}

-- the visit of a name whose module was loaded
pub visited-next : {T : Type 0} (r : Outcome T) (path : List Text) (done new : List Module) (e : Text × Place) (next : Module) → next.name ≡ e.0 → OnOk r (Reached path next done new) → OnOk r (Visited path e done new)
visited-next (Ok x) path done new e next same r = record {
  fine = r.fine;
  met = inr (ap (has new) (sym same) ∙ ap (λ ms. has ms next.name) r.last.1 ∙ has-last r.last.0 next);
  kept = r.kept;
}
visited-next (Err x) path done new e next same r = tt

-- the module is complete behind all that it extends
pub reached : (path : List Text) (m : Module) (old done : List Module) → Fine (path ++ m.name ∷ []) done → is_among path m.name ≡ false
    → ((k : ℕ) (d : Text × Place) → k < length m.extends → IsMet done (slice_index_or m.extends k d))
    → Still old done → Reached path m old (done ++ m ∷ [])
reached path m old done f off met kept = record {
  fine = record {
    order = stand-last [] done m f.order met (f.apart m.name (any-last (λ n. bytes_eq n m.name) path m.name ∙ or_right _ _ ((bytes_eq-Decides m.name m.name).1 refl)));
    apart = λ x h. any-last (λ y. bytes_eq y.name x) done m ∙ or_from _ _ (f.apart x (any-front (λ n. bytes_eq n x) path m.name h)) (other x h);
    few = let n : length (path ++ m.name ∷ []) ≡ length path + 1 = length-append path (m.name ∷ []) in
        let d : length (done ++ m ∷ []) ≡ length done + 1 = length-append done (m ∷ []) in omega (arith, f.few, n, d);
  };
  last = (done, refl);
  kept = λ x h. any-front (λ y. bytes_eq y.name x) done m (kept x h);
}
  where
    other : (x : Text) → is_among path x ≡ true → bytes_eq m.name x ≡ false
    other x h = false_from_ne_true _ (λ e. let same : m.name ≡ x = (bytes_eq-Decides m.name x).0 e in true≢false (sym h ∙ ap (is_among path) (sym same) ∙ off))

-- the root is the last of all
pub ordered : (root : Text) (m : Module) (new : List Module) → m.name ≡ root → Reached [] m [] new → IsOrdered root new
ordered root m new e r = record { order = r.fine.order; last = (r.last.0, m, r.last.1, e); few = let f = r.fine.few in omega (arith, f) }
