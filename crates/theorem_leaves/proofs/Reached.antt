-- Names of modules, what an extended name leads to, and what modules bring.
use Rattle.std.proofs.Common.{◌≡◌, ℕ, ◌+◌, ◌<◌, Bool, true, false, ◌||◌, if◌then◌else◌, List, [], ◌∷◌, ◌++◌, map, drop, length, slice_index_or, append_assoc, refl, sym, ap, subst, ◌∙◌}
use Rattle.std.specs.Prelude.{Option, Some, None}
use Rattle.std.proofs.Math.Bool.{or_comm, or_assoc, or-false}
use Rattle.std.proofs.lemmas.List.{append-nil}
use Rattle.std_names.specs.Libraries.{is_library}
use Rattle.tla_ast.specs.declared.place.Place.{Place}
use Rattle.plain_syntax.specs.Plain.{Text}
use Rattle.prime_expand.specs.Symbols.{is_word}
use Rattle.proof_contexts.specs.Contexts.{Context, Entry, add}
use Rattle.proof_contexts.specs.Theorems.{entry_of}
use Rattle.theorem_leaves.specs.declared.unit.Known.{Known}
use Rattle.theorem_leaves.specs.Additions.{known_of}
use Rattle.usable_facts.specs.Theorems as usable
use Rattle.usable_facts.specs.Theorems.{is_done, reached_by, reaches, is_reached, brought}
use Rattle.theorem_leaves.specs.declared.modules.Done.{Done}
use Rattle.theorem_leaves.specs.Passing.{HasNames, IsDone, AreDone}
use Rattle.theorem_leaves.specs.Modules.{found, led, told, brings}
use Rattle.theorem_leaves.proofs.Runs.{next-one}

-- ---- names

pub reached-append : (vs ws : List Text) (w : Text) → is_reached (vs ++ ws) w ≡ (is_reached vs w || is_reached ws w)
reached-append [] ws w = refl
reached-append (v ∷ vs) ws w = ap (λ b. is_word v w || b) (reached-append vs ws w) ∙ sym (or_assoc (is_word v w) (is_reached vs w) (is_reached ws w))

-- a name that is put behind
pub name-behind : (ws : List Text) (v : Text) → HasNames (ws ++ v ∷ []) (v ∷ ws)
name-behind ws v w = reached-append ws (v ∷ []) w ∙ ap (λ b. is_reached ws w || b) (or-false (is_word v w)) ∙ or_comm (is_reached ws w) (is_word v w)

-- one more of several names
pub names-step : (old more now new : List Text) (i : ℕ) (v w : Text) → HasNames (now ++ drop i more) (old ++ more) → HasNames new (w ∷ now) → w ≡ v
    → i < length more → v ≡ slice_index_or more i v → HasNames (new ++ drop (i + 1) more) (old ++ more)
names-step old more now new i v w all one same within is u =
    reached-append new (drop (i + 1) more) u
    ∙ ap (λ b. b || is_reached (drop (i + 1) more) u) (one u ∙ ap (λ x. is_reached (x ∷ now) u) same ∙ or_comm (is_word v u) (is_reached now u))
    ∙ or_assoc (is_reached now u) (is_word v u) (is_reached (drop (i + 1) more) u)
    ∙ sym (reached-append now (v ∷ drop (i + 1) more) u)
    ∙ ap (λ l. is_reached (now ++ l) u) (sym (next-one more i v within is))
    ∙ all u

-- ---- modules that were read

-- what is kept of the module with a name, if it was read; b: whether it was, ws: what it reaches
abbrev pub Held : Option Done → Bool → List Text → Type 0
Held None b ws = b ≡ false
Held (Some d) b ws = (b ≡ true) × HasNames d.reaches ws

pub found-done : (done : List Done) (ds : List usable.Done) (w : Text) → AreDone done ds → Held (found done w) (is_done ds w) (reached_by ds w)
found-done [] [] w h = refl
found-done [] (e ∷ es) w h = absurd h
found-done (d ∷ ds) [] w h = absurd h
found-done (d ∷ ds) (e ∷ es) w h =
    subst (λ (c : Bool). Held (if is_word d.name w then Some d else found ds w) (c || is_done es w) (if c then e.reaches else reached_by es w)) (ap (λ n. is_word n w) h.0.name)
    (by (is_word d.name w) (found-done ds es w h.1))
  where
    by : (b : Bool) → Held (found ds w) (is_done es w) (reached_by es w)
        → Held (if b then Some d else found ds w) (b || is_done es w) (if b then e.reaches else reached_by es w)
    by true k = (refl, h.0.reaches)
    by false k = k

-- what an extended name leads to: a module that was not read, and one that was
pub led-none : (ws : List Text) (done : List Done) (ds : List usable.Done) (w : Text) → AreDone done ds → found done w ≡ None → HasNames ws (ws ++ led ds w)
led-none ws done ds w h e = subst (HasNames ws) (sym (append-nil ws) ∙ ap (λ l. ws ++ l) (nothing (is_library w))) (λ u. refl)
  where
    none : is_done ds w ≡ false
    none = subst (λ o. Held o (is_done ds w) (reached_by ds w)) e (found-done done ds w h)

    nothing : (l : Bool) → [] ≡ (if l then [] else (if is_done ds w then w ∷ reached_by ds w else []))
    nothing true = refl
    nothing false = ap (λ (b : Bool). if b then w ∷ reached_by ds w else []) (sym none)

pub led-some : (old one new : List Text) (done : List Done) (ds : List usable.Done) (w : Text) (d : Done) → is_library w ≡ false → AreDone done ds → found done w ≡ Some d
    → HasNames one (w ∷ old) → HasNames new (one ++ d.reaches) → HasNames new (old ++ led ds w)
led-some old one new done ds w d l h e first all u =
    all u ∙ reached-append one d.reaches u
    ∙ (λ i. first u i || here.1 u i)
    ∙ ap (λ b. b || is_reached (reached_by ds w) u) (or_comm (is_word w u) (is_reached old u))
    ∙ or_assoc (is_reached old u) (is_word w u) (is_reached (reached_by ds w) u)
    ∙ sym (reached-append old (w ∷ reached_by ds w) u)
    ∙ ap (λ (b : Bool). is_reached (old ++ (if b then w ∷ reached_by ds w else [])) u) (sym here.0)
    ∙ ap (λ (b : Bool). is_reached (old ++ (if b then [] else (if is_done ds w then w ∷ reached_by ds w else []))) u) (sym l)
  where
    here : (is_done ds w ≡ true) × HasNames d.reaches (reached_by ds w)
    here = subst (λ o. Held o (is_done ds w) (reached_by ds w)) e (found-done done ds w h)

-- the names of EXTENDS, one after another
reaches-led : (ds : List usable.Done) (e : Text × Place) (es : List (Text × Place)) → reaches ds (e ∷ es) ≡ led ds e.0 ++ reaches ds es
reaches-led ds e es = by (is_library e.0) (is_done ds e.0)
  where
    by : (l b : Bool)
        → (if l then reaches ds es else (if b then e.0 ∷ (reached_by ds e.0 ++ reaches ds es) else reaches ds es))
        ≡ (if l then [] else (if b then e.0 ∷ reached_by ds e.0 else [])) ++ reaches ds es
    by true b = refl
    by false true = refl
    by false false = refl

pub reaches-step : (ds : List usable.Done) (es : List (Text × Place)) (now new : List Text) (i : ℕ) (e : Text × Place) (w : Text)
    → HasNames (now ++ reaches ds (drop i es)) (reaches ds es) → HasNames new (now ++ led ds w) → w ≡ e.0 → i < length es → e ≡ slice_index_or es i e
    → HasNames (new ++ reaches ds (drop (i + 1) es)) (reaches ds es)
reaches-step ds es now new i e w all one same within is u =
    reached-append new (reaches ds (drop (i + 1) es)) u
    ∙ ap (λ b. b || is_reached (reaches ds (drop (i + 1) es)) u) (one u ∙ ap (λ x. is_reached (now ++ led ds x) u) same)
    ∙ sym (reached-append (now ++ led ds e.0) (reaches ds (drop (i + 1) es)) u)
    ∙ ap (λ l. is_reached l u)
    (append_assoc now (led ds e.0) (reaches ds (drop (i + 1) es)) ∙ ap (λ l. now ++ l) (sym (reaches-led ds e (drop (i + 1) es))) ∙ ap (λ l. now ++ reaches ds l) (sym (next-one es i e within is)))
    ∙ all u

-- ---- what modules bring

pub told-all : (ks : List Known) (c : Context) → told ks c ≡ record { known = c.known ++ map entry_of (map known_of ks); defs = c.defs; goal = c.goal }
told-all [] c = ap (λ k. record { known = k; defs = c.defs; goal = c.goal }) (sym (append-nil c.known))
told-all (k ∷ ks) c =
    told-all ks (add c (entry_of (known_of k)))
    ∙ ap (λ k. record { known = k; defs = c.defs; goal = c.goal }) (append_assoc c.known (entry_of (known_of k) ∷ []) (map entry_of (map known_of ks)))

map-append : {A B : Type 0} (f : A → B) (xs ys : List A) → map f (xs ++ ys) ≡ map f xs ++ map f ys
map-append f [] ys = refl
map-append f (x ∷ xs) ys = ap (λ l. f x ∷ l) (map-append f xs ys)

pub brings-done : (done : List Done) (ds : List usable.Done) (vs ws : List Text) → AreDone done ds → HasNames vs ws → brings done vs ≡ map entry_of (brought ds ws)
brings-done [] [] vs ws h n = refl
brings-done [] (e ∷ es) vs ws h n = absurd h
brings-done (d ∷ ds) [] vs ws h n = absurd h
brings-done (d ∷ ds) (e ∷ es) vs ws h n =
    ap (λ (b : Bool). if b then map entry_of (map known_of d.adds) ++ brings ds vs else brings ds vs) (n d.name ∙ ap (is_reached ws) h.0.name)
    ∙ by (is_reached ws e.name) (brings-done ds es vs ws h.1 n)
  where
    by : (b : Bool) → brings ds vs ≡ map entry_of (brought es ws)
        → (if b then map entry_of (map known_of d.adds) ++ brings ds vs else brings ds vs) ≡ map entry_of (if b then e.adds ++ brought es ws else brought es ws)
    by true r = (λ i. map entry_of (h.0.adds i) ++ r i) ∙ sym (map-append entry_of e.adds (brought es ws))
    by false r = r

-- one more module
pub brings-told : (done : List Done) (vs : List Text) (now new : List Entry) (i : ℕ) (d : Done) (all : List Entry)
    → now ++ brings (drop i done) vs ≡ all → is_reached vs d.name ≡ true → new ≡ now ++ map entry_of (map known_of d.adds) → i < length done → d ≡ slice_index_or done i d
    → new ++ brings (drop (i + 1) done) vs ≡ all
brings-told done vs now new i d all before r more within is =
    ap (λ l. l ++ brings (drop (i + 1) done) vs) more
    ∙ append_assoc now (map entry_of (map known_of d.adds)) (brings (drop (i + 1) done) vs)
    ∙ ap (λ (b : Bool). now ++ (if b then map entry_of (map known_of d.adds) ++ brings (drop (i + 1) done) vs else brings (drop (i + 1) done) vs)) (sym r)
    ∙ ap (λ l. now ++ brings l vs) (sym (next-one done i d within is))
    ∙ before

pub brings-none : (done : List Done) (vs : List Text) (now : List Entry) (i : ℕ) (d : Done) (all : List Entry)
    → now ++ brings (drop i done) vs ≡ all → is_reached vs d.name ≡ false → i < length done → d ≡ slice_index_or done i d
    → now ++ brings (drop (i + 1) done) vs ≡ all
brings-none done vs now i d all before r within is =
    ap (λ (b : Bool). now ++ (if b then map entry_of (map known_of d.adds) ++ brings (drop (i + 1) done) vs else brings (drop (i + 1) done) vs)) (sym r)
    ∙ ap (λ l. now ++ brings l vs) (sym (next-one done i d within is))
    ∙ before

-- ---- one more module is read

pub more-done : (done : List Done) (ds : List usable.Done) (d : Done) (e : usable.Done) → AreDone done ds → IsDone d e → AreDone (done ++ d ∷ []) (ds ++ e ∷ [])
more-done [] [] d e h one = (one, tt)
more-done [] (x ∷ xs) d e h one = absurd h
more-done (x ∷ xs) [] d e h one = absurd h
more-done (x ∷ xs) (y ∷ ys) d e h one = (h.0, more-done xs ys d e h.1 one)
