-- How a parameter of a definition stands in its body, by the text: whether it stands there at all, and whether it is primed there. It
-- is where it stands under a prime, in what UNCHANGED or a subscript of an action is applied to, or in an argument that the applied
-- definition primes. The name of a definition round the place, and `@`, stand for all that the body, or the result so far, holds.
use Rattle.std.specs.Prelude.{ℕ, Bool, true, false, ◌||◌, if◌then◌else◌, List, [], ◌∷◌, Option, Some, None, codes}
use Rattle.tla_ast.specs.declared.place.Place.{Place}
use Rattle.tla_ast.specs.declared.tree.Decl.{Decl}
use Rattle.expression_level.specs.Levels.{is_word, bind}
use Rattle.plain_syntax.specs.Plain.{Term, Terms, Updates, Keys, Groups, Defs}
use Rattle.plain_syntax.specs.Plain.Term.{term}
use Rattle.plain_syntax.specs.Plain.Terms.{none, part}
use Rattle.plain_syntax.specs.Plain.Shape.{name, call, prefixed, prime, except, box, angle, quantifier, choice, local, at}
use Rattle.plain_syntax.specs.Plain.Updates.{end_updates, update}
use Rattle.plain_syntax.specs.Plain.Keys.{end_keys, key, field_key}
use Rattle.plain_syntax.specs.Plain.Groups.{end_groups, free, within}
use Rattle.plain_syntax.specs.Plain.Defs.{end_defs, def}

pub record Occurrence : Type 0 where
  pub held : Bool
  pub primed : Bool

abbrev pub nowhere : Occurrence
nowhere = record { held = false; primed = false }

-- it stands at this place, or does not
abbrev pub here : Bool → Occurrence
here b = record { held = b; primed = false }

abbrev pub beside : Occurrence → Occurrence → Occurrence
beside x y = record { held = x.held || y.held; primed = x.primed || y.primed }

-- where all that stands in an expression is primed, if so
abbrev pub primed_if : Bool → Occurrence → Occurrence
primed_if b x = if b then record { held = x.held; primed = x.held } else x

-- which names stand for what holds the parameter, by number
abbrev pub Holders : Type 0
Holders = ℕ → Bool

abbrev pub is_holder : Holders → Option ℕ → Bool
is_holder hs None = false
is_holder hs (Some n) = hs n

module _ (means : Place → Option ℕ) where
  -- other parameters hold nothing of it
  abbrev pub others : List Decl → Holders → Holders
  others [] hs = hs
  others (d ∷ ds) hs = others ds (bind (means d.place) false hs)

module _ (means : Place → Option ℕ) (flags : Option ℕ → List Bool) where
  -- the parameter in an expression, where these names hold it and `@` does or does not
  abbrev mutual
    pub occurs : Holders → Bool → Term → Occurrence
    occurs hs a (term (name w) ts p) = beside (in_each hs a (flags (means p)) ts) (here (is_holder hs (means p)))
    occurs hs a (term (call w) ts p) = beside (in_each hs a (flags (means p)) ts) (here (is_holder hs (means p)))
    occurs hs a (term prime ts p) = primed_if true (in_each hs a [] ts)
    occurs hs a (term (prefixed o) ts p) = primed_if (is_word o (codes "UNCHANGED")) (in_each hs a [] ts)
    occurs hs a (term box none p) = nowhere
    occurs hs a (term box (part t ts) p) = beside (occurs hs a t) (primed_if true (in_each hs a [] ts))
    occurs hs a (term angle none p) = nowhere
    occurs hs a (term angle (part t ts) p) = beside (occurs hs a t) (primed_if true (in_each hs a [] ts))
    occurs hs a (term at ts p) = here a
    occurs hs a (term (except us) none p) = nowhere
    occurs hs a (term (except us) (part t ts) p) = in_updates hs a (occurs hs a t) us
    occurs hs a (term (quantifier all gs) ts p) = beside (in_sets hs a gs) (in_each hs a [] ts)
    occurs hs a (term (choice gs) ts p) = beside (in_sets hs a gs) (in_each hs a [] ts)
    occurs hs a (term (local ds) ts p) = beside (in_bodies hs a ds) (in_each (with_definitions hs a ds) a [] ts)
    occurs hs a (term s ts p) = in_each hs a [] ts

    -- expressions side by side, of which those with a flag are primed
    pub in_each : Holders → Bool → List Bool → Terms → Occurrence
    in_each hs a fs none = nowhere
    in_each hs a [] (part t ts) = beside (occurs hs a t) (in_each hs a [] ts)
    in_each hs a (f ∷ fs) (part t ts) = beside (primed_if f (occurs hs a t)) (in_each hs a fs ts)

    pub in_sets : Holders → Bool → Groups → Occurrence
    in_sets hs a end_groups = nowhere
    in_sets hs a (free ds gs) = in_sets hs a gs
    in_sets hs a (within ds t gs) = beside (occurs hs a t) (in_sets hs a gs)

    -- the result of the updates so far, which `@` stands for, and the updates after them
    pub in_updates : Holders → Bool → Occurrence → Updates → Occurrence
    in_updates hs a x end_updates = x
    in_updates hs a x (update ks t us) = let y = beside x (in_keys hs a ks) in in_updates hs a (beside y (occurs hs y.held t)) us

    pub in_keys : Holders → Bool → Keys → Occurrence
    in_keys hs a end_keys = nowhere
    in_keys hs a (key t ks) = beside (occurs hs a t) (in_keys hs a ks)
    in_keys hs a (field_key h ks) = in_keys hs a ks

    pub with_definitions : Holders → Bool → Defs → Holders
    with_definitions hs a end_defs = hs
    with_definitions hs a (def w ps t p ds) = with_definitions (bind (means p) (occurs (others means ps hs) a t).held hs) a ds

    -- the bodies of LET definitions, used or not
    pub in_bodies : Holders → Bool → Defs → Occurrence
    in_bodies hs a end_defs = nowhere
    in_bodies hs a (def w ps t p ds) =
        let x = occurs (others means ps hs) a t in
        beside x (in_bodies (bind (means p) x.held hs) a ds)

  -- for each parameter of a definition, whether its body primes it
  abbrev pub primed_parameters : List Decl → Term → List Bool
  primed_parameters [] t = []
  primed_parameters (d ∷ ds) t = (occurs (others means ds (bind (means d.place) true (λ n. false))) false t).primed ∷ primed_parameters ds t
