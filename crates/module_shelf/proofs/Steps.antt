-- A turn of the walk, by the definition.
use Rattle.std.proofs.Common.{◌≡◌, ℕ, suc, ◌<◌, ◌≤◌, ◌+◌, ◌-◌, inl, inr, List, [], ◌∷◌, ◌++◌, length, Some, Ok, Err, IsErrAnd, refl, ap, sym, subst, ◌∙◌, arith, length-append, drop, slice_index_or}
use Rattle.std.proofs.lemmas.List.{get_or_default}
use Rattle.std.proofs.Math.Seq.{drop-cons}
use Rattle.std.proofs.Math.ListN.{drop_of_length-le}
use Rattle.std.proofs.Math.Numerals.{add-one}
use Rattle.tla_ast.specs.declared.place.Place.{Place}
use Rattle.tla_ast.specs.declared.unit.Module.{Module}
use Rattle.tla_io.specs.Told.{Folder}
use Rattle.module_shelf.specs.Loading.{Text, Outcome, followed, visit, visited, completed}
use Rattle.module_shelf.specs.Order.{IsMet, Fine, MayBegin, Still, Reached, Visited}
use Rattle.module_shelf.specs.Causes.{Seen, Loads}
use Rattle.module_shelf.specs.declared.fault.LoadFault.{LoadFault}
use Rattle.module_shelf.proofs.Told.{stops-then, stops-as, passed-on, same-seen}
use Rattle.module_shelf.proofs.Stand.{met-more, fine-next, reached}

-- the visit of a name that a module extends, where these stand on the path
abbrev pub visiting : Folder → List Text → Module → List Module → Text × Place → Outcome (List Module)
visiting f now m = visit f now m.name (completed (64 - length now) f now)

-- what is still to be done for a module that has begun, where these extended names are left
abbrev pub left : Folder → List Text → Module → List (Text × Place) → List Module → Outcome (List Module)
left f now m es done = followed (visited (visiting f now m) es done) (λ ms. Ok (ms ++ m ∷ []))

-- Where the walk of a module stands, from the path, the complete modules and the shelf at its begin: so many of its extended names
-- were visited, and these are complete.
pub record Walks (path : List Text) (m : Module) (old : List Module) (before now : Seen) (i : ℕ) (longer : List Text) (done : List Module) : Type 0 where
  pub same : longer ≡ path ++ m.name ∷ []
  pub seen : now ≡ before
  pub ahead : (f : Folder) → before.0 ≡ Some f → completed (64 - length path) f path m old ≡ left f longer m (drop i m.extends) done
  pub fine : Fine longer done
  pub met : (k : ℕ) (d : Text × Place) → k < i → IsMet done (slice_index_or m.extends k d)
  pub kept : Still old done

pub walks-first : (path longer : List Text) (m : Module) (done : List Module) (s : Seen) → Fine path done → MayBegin path done m.name → longer ≡ path ++ m.name ∷ [] → Walks path m done s s 0 longer done
walks-first path longer m done s h b e = record {
  same = e;
  seen = refl;
  ahead = λ f q.
      let few = b.2 in let deeper : 64 - length path ≡ suc (64 - length (path ++ m.name ∷ [])) = omega (arith, few, length-append path (m.name ∷ [])) in
      ap (λ n. completed n f path m done) deeper ∙ ap (λ n. left f n m m.extends done) (sym e);
  fine = subst (λ n. Fine n done) (sym e) (fine-next path done m.name h b);
  met = λ k d l. absurd (omega (arith, l));
  kept = λ name h. h;
}

pub one-deeper : {path longer : List Text} {m : Module} {old done : List Module} {before now : Seen} {i : ℕ} → Walks path m old before now i longer done → length longer ≡ length path + 1
one-deeper {path} {m = m} w = ap length w.same ∙ length-append path (m.name ∷ [])

-- the walk at one further name
module _ {path : List Text} {m : Module} {old : List Module} {before now : Seen} {i : ℕ} {longer : List Text} {done : List Module} {es : List (Text × Place)} {e : Text × Place}
    (w : Walks path m old before now i longer done) (items : es ≡ m.extends) (within : i < length es) (item : e ≡ slice_index_or es i e) where
  here : (f : Folder) → before.0 ≡ Some f → completed (64 - length path) f path m old ≡ left f longer m (e ∷ drop (i + 1) es) done
  here f q = w.ahead f q ∙ ap (λ l. left f longer m l done) (ap (drop i) (sym items) ∙ drop-cons es i e within ∙ ap (λ x. x ∷ drop (suc i) es) (sym item) ∙ ap (λ n. e ∷ drop n es) (sym (add-one i)))

  pub walks-on : {x : Unit {0}} {new : List Module} {t : Seen} → Loads (Ok x) (λ _. new) (λ f. visiting f longer m done e) now t → Visited longer e done new → Walks path m old before t (i + 1) longer new
  walks-on {new = new} h v = record {
    same = w.same;
    seen = same-seen h ∙ w.seen;
    ahead = λ f q. here f q ∙ ap (λ o. followed (followed o (visited (visiting f longer m) (drop (i + 1) es))) (λ ms. Ok (ms ++ m ∷ []))) (h.told f (ap (λ s. s.0) w.seen ∙ q)) ∙ ap (λ l. left f longer m (drop (i + 1) l) new) items;
    fine = v.fine;
    met = met-more (IsMet new) m.extends i (λ k d l. elim (w.met k d l) [ inl library ↦ inl library | inr complete ↦ inr (v.kept _ complete) ])
        (λ d. subst (IsMet new) (item ∙ get_or_default es i e d within ∙ ap (λ l. slice_index_or l i d) items) v.met);
    kept = λ name h. v.kept name (w.kept name h);
  }

  pub walks-stop : {x : LoadFault} {r : Outcome (Unit {0})} {new : List Module} {t : Seen} → IsErrAnd r (λ y. y ≡ x) → Loads {T = Unit {0}} (Err x) (λ _. new) (λ f. visiting f longer m done e) now t
      → Loads r (λ _. new) (λ f. completed (64 - length path) f path m old) before t
  walks-stop {x} {new = new} {t = t} is h = passed-on is (subst (λ s. Loads {T = Unit {0}} (Err x) (λ _. new) (λ f. visiting f longer m done e) s t) w.seen h)
      (λ f q k. stops-as x (here f q) (stops-then x _ _ (stops-then x (visiting f longer m done e) (visited (visiting f longer m) (drop (i + 1) es)) k)))

-- the walk at its end
module _ {path : List Text} {m : Module} {old : List Module} {before now : Seen} {i : ℕ} {longer : List Text} {done new : List Module} {es : List (Text × Place)}
    (w : Walks path m old before now i longer done) (items : es ≡ m.extends) (all : length es ≤ i) (is : new ≡ done ++ m ∷ []) where
  pub walks-last : {x : Unit {0}} → Loads (Ok x) (λ _. new) (λ f. completed (64 - length path) f path m old) before now
  walks-last = record {
    told = λ f q. w.ahead f q ∙ ap (λ l. left f longer m l done) (ap (drop i) (sym items) ∙ drop_of_length-le es all) ∙ ap Ok (sym is);
    cause = ap (λ s. s.1) w.seen;
    kept = ap (λ s. s.0) w.seen;
  }

  pub walks-reached : MayBegin path old m.name → Reached path m old new
  walks-reached b = subst (Reached path m old) (sym is) (reached path m old done (subst (λ n. Fine n done) w.same w.fine) b.0
      (λ k d l. w.met k d (let n : length es ≡ length m.extends = ap length items in omega (arith, l, all, n))) w.kept)
