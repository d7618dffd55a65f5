-- Laws of maps from symbols, of definitions unfolded, of a symbol turned into a variable, and of ranks.
use Rattle.std.specs.Prelude.{◌≡◌, ℕ, suc, ◌+◌, ◌-◌, ◌<◌, ◌≤◌, Bool, true, false, ◌||◌, cond, nat_lt, nat_eq, Option, Some, None, List, [], ◌∷◌, map}
use Rattle.std.proofs.Common.{refl, ap, sym, ◌∙◌, arith, subst}
use Rattle.std.proofs.lemmas.Bool.Decides.{nat_tests}
use Rattle.core_expr.specs.declared.head.Sym.{Sym}
use Rattle.core_expr.specs.Tree.{Tree, Parts, size, true_}
use Rattle.core_expr.specs.Tree.Tree.{bound, app, node, bind}
use Rattle.core_expr.specs.Tree.Parts.{end, part}
use Rattle.core_expr.specs.Put.{shift, shifts, argument, put, puts, inst, apply_body, sub, subs, IsScoped, AreScoped}
use Rattle.core_expr.specs.Rename.{named}
use Rattle.core_expr.specs.Terms.{same_sym}
use Rattle.core_expr.proofs.Laws.{sub-put}
use Rattle.core_expr.proofs.Equal.{sym-same, sym-refl}
use Rattle.obligation.specs.declared.obligation.Definition.{Definition}
use Rattle.obligation.specs.Unfolding.{put_in, unfolded, is_defined}
use Rattle.proof_contexts.specs.Expansion.{has_number, chosen, unfold_top, unfold_head, abstract_at, abstracts_at, abstract, name, IsBelow, AreBelow}
use Rattle.proof_contexts.specs.Contexts.{unfolded_by}
use Rattle.proof_contexts.specs.Right.{IsFirst, AreOrdered}
use Rattle.proof_contexts.specs.Laws.{ExpansionIsFinal}

-- nothing is shifted by 0
mutual
  pub shift_nothing : (c : ℕ) (e : Tree) → shift c 0 e ≡ e
  shift_nothing c (bound i) = ap bound (var c i)
    where
      var : (c i : ℕ) → cond (nat_lt i c) i (i + 0) ≡ i
      var c i = grind (arith, nat_tests)
  shift_nothing c (app f ps) = ap (app f) (shifts_nothing c ps)
  shift_nothing c (node h ns ps) = ap (node h ns) (shifts_nothing c ps)
  shift_nothing c (bind b ps e) = λ i. bind b (shifts_nothing c ps i) (shift_nothing (suc c) e i)

  shifts_nothing : (c : ℕ) (ps : Parts) → shifts c 0 ps ≡ ps
  shifts_nothing c end = refl
  shifts_nothing c (part e ps) = λ i. part (shift_nothing c e i) (shifts_nothing c ps i)

-- ---- maps

-- the map with the one symbol c
abbrev pub at : Sym → Tree → Sym → Option Tree
at c t = named ((c, t) ∷ [])

abbrev if_there : Bool → Tree → Option Tree
if_there b t = elim b [ true ↦ Some t | false ↦ None ]

-- one map after another
abbrev then_map : (Sym → Option Tree) → Option Tree → Option Tree → Option Tree
then_map s None o = o
then_map s (Some b) o = Some (sub s b)

abbrev after_map : (Sym → Option Tree) → (Sym → Option Tree) → Sym → Option Tree
after_map s r f = then_map s (r f) (s f)

sub-body : (s : Sym → Option Tree) (o : Option Tree) (f : Sym) (ps : Parts) → sub s (apply_body o f ps) ≡ apply_body (then_map s o (s f)) f (subs s ps)
sub-body s None f ps = refl
sub-body s (Some b) f ps = sub-put s 0 ps b

mutual
  sub-sub : (s r : Sym → Option Tree) (e : Tree) → sub s (sub r e) ≡ sub (after_map s r) e
  sub-sub s r (bound i) = refl
  sub-sub s r (app f ps) = sub-body s (r f) f (subs r ps) ∙ ap (apply_body (after_map s r f) f) (subs-subs s r ps)
  sub-sub s r (node h ns ps) = ap (node h ns) (subs-subs s r ps)
  sub-sub s r (bind b ps e) = λ i. bind b (subs-subs s r ps i) (sub-sub s r e i)

  subs-subs : (s r : Sym → Option Tree) (ps : Parts) → subs s (subs r ps) ≡ subs (after_map s r) ps
  subs-subs s r end = refl
  subs-subs s r (part e ps) = λ i. part (sub-sub s r e i) (subs-subs s r ps i)

-- the map of no symbol
abbrev no_symbol : Sym → Option Tree
no_symbol f = None

mutual
  sub-none : (e : Tree) → sub no_symbol e ≡ e
  sub-none (bound i) = refl
  sub-none (app f ps) = ap (app f) (subs-none ps)
  sub-none (node h ns ps) = ap (node h ns) (subs-none ps)
  sub-none (bind b ps e) = λ i. bind b (subs-none ps i) (sub-none e i)

  subs-none : (ps : Parts) → subs no_symbol ps ≡ ps
  subs-none end = refl
  subs-none (part e ps) = λ i. part (sub-none e i) (subs-none ps i)

-- ---- definitions unfolded

-- the body of each definition after the earlier ones are unfolded in it
abbrev pub expansion : List Definition → Sym → Option Tree
expansion [] = no_symbol
expansion (d ∷ ds) = after_map (at d.symbol d.body) (expansion ds)

-- full expansion, as one map
abbrev pub whole : List Definition → Tree → Tree
whole table e = sub (expansion table) e

pub unfolded-whole : (ds : List Definition) (e : Tree) → unfolded ds e ≡ whole ds e
unfolded-whole [] e = sym (sub-none e)
unfolded-whole (d ∷ ds) e = ap (put_in d) (unfolded-whole ds e) ∙ sub-sub (at d.symbol d.body) (expansion ds) e

-- the map expands the definition
abbrev pub Expands : (Sym → Option Tree) → Definition → Type 0
Expands s d = s d.symbol ≡ Some (sub s d.body)

abbrev pub ExpandsAll : (Sym → Option Tree) → List Definition → Type 0
ExpandsAll s [] = Unit {0}
ExpandsAll s (d ∷ ds) = Expands s d × ExpandsAll s ds

pub chosen-expands : (s : Sym → Option Tree) (u : List ℕ) (ds : List Definition) → ExpandsAll s ds → ExpandsAll s (chosen u ds)
chosen-expands s u [] h = tt
chosen-expands s u (d ∷ ds) h = go (has_number u d.symbol.number) (chosen-expands s u ds h.1)
  where
    go : (b : Bool) → ExpandsAll s (chosen u ds) → ExpandsAll s (cond b (d ∷ chosen u ds) (chosen u ds))
    go true k = (h.0, k)
    go false k = k

sub-put_in : (s : Sym → Option Tree) (d : Definition) (e : Tree) → Expands s d → sub s (put_in d e) ≡ sub s e
sub-put_in s d e h = sub-sub s (at d.symbol d.body) e ∙ (λ i. sub (λ f. absorb f (same_sym d.symbol f) refl i) e)
  where
    absorb : (f : Sym) (b : Bool) → same_sym d.symbol f ≡ b → then_map s (if_there b d.body) (s f) ≡ s f
    absorb f true e = sym h ∙ ap s (sym-same d.symbol f e)
    absorb f false e = refl

-- what is unfolded partly has the same full expansion
pub sub-unfolded : (s : Sym → Option Tree) (ds : List Definition) (e : Tree) → ExpandsAll s ds → sub s (unfolded ds e) ≡ sub s e
sub-unfolded s [] e h = refl
sub-unfolded s (d ∷ ds) e h = sub-put_in s d (unfolded ds e) h.0 ∙ sub-unfolded s ds e h.1

sub-top : (s : Sym → Option Tree) (d : Definition) (e : Tree) → Expands s d → sub s (unfold_top d e) ≡ sub s e
sub-top s d (app f ps) h = go (same_sym d.symbol f) refl
  where
    go : (b : Bool) → same_sym d.symbol f ≡ b → sub s (cond b (put 0 ps d.body) (app f ps)) ≡ apply_body (s f) f (subs s ps)
    go true e =
        let w : s f ≡ Some (sub s d.body) = ap s (sym (sym-same d.symbol f e)) ∙ h in
        sub-put s 0 ps d.body ∙ sym (ap (λ (o : Option Tree). apply_body o f (subs s ps)) w)
    go false e = refl
sub-top s d (bound i) h = refl
sub-top s d (node k ns ps) h = refl
sub-top s d (bind b ps e) h = refl

pub sub-head : (s : Sym → Option Tree) (ds : List Definition) (e : Tree) → ExpandsAll s ds → sub s (unfold_head ds e) ≡ sub s e
sub-head s [] e h = refl
sub-head s (d ∷ ds) e h = sub-top s d (unfold_head ds e) h.0 ∙ sub-head s ds e h.1

pub undefined-none : (ds : List Definition) (f : Sym) → is_defined ds f ≡ false → expansion ds f ≡ None
undefined-none [] f h = refl
undefined-none (d ∷ ds) f h = go (same_sym d.symbol f) (is_defined ds f) h (undefined-none ds f)
  where
    go : (a b : Bool) → a || b ≡ false → (b ≡ false → expansion ds f ≡ None) → then_map (at d.symbol d.body) (expansion ds f) (if_there a d.body) ≡ None
    go true b h k = absurd (differ h)
      where
        differ : true ≡ false → ⊥
        differ h = cc
    go false b h k = ap (λ (o : Option Tree). then_map (at d.symbol d.body) o None) (k h)

-- ---- a symbol turned into a variable

-- putting the symbol back for the variable
abstract_app : (c : Sym) (d : ℕ) (f : Sym) (b : Bool) → same_sym c f ≡ b → put d (part (name c) end) (cond b (bound d) (app f end)) ≡ app f end
abstract_app c d f true e =
    let q : c ≡ f = sym-same c f e in
    here d (name c) ∙ ap name q
  where
    here : (d : ℕ) (t : Tree) → cond (nat_lt d d) (bound d) (shift 0 d (cond (nat_eq (d - d) 0) (name c) true_)) ≡ name c
    here d t = grind (arith, nat_tests)
abstract_app c d f false e = refl

low : (d i : ℕ) (x : Tree) → i < d → cond (nat_lt i d) (bound i) x ≡ bound i
low d i x h = grind (arith, nat_tests)

mutual
  put-abstract : (c : Sym) (d : ℕ) (e : Tree) → IsScoped d e → put d (part (name c) end) (abstract_at c d e) ≡ e
  put-abstract c d (bound i) h = low d i (shift 0 d (argument (part (name c) end) (i - d))) h
  put-abstract c d (app f end) h = abstract_app c d f (same_sym c f) refl
  put-abstract c d (app f (part e ps)) h = λ i. app f (part (put-abstract c d e h.0 i) (puts-abstracts c d ps h.1 i))
  put-abstract c d (node k ns ps) h = ap (node k ns) (puts-abstracts c d ps h)
  put-abstract c d (bind b ps e) h = λ i. bind b (puts-abstracts c d ps h.0 i) (put-abstract c (suc d) e h.1 i)

  puts-abstracts : (c : Sym) (d : ℕ) (ps : Parts) → AreScoped d ps → puts d (part (name c) end) (abstracts_at c d ps) ≡ ps
  puts-abstracts c d end h = refl
  puts-abstracts c d (part e ps) h = λ i. part (put-abstract c d e h.0 i) (puts-abstracts c d ps h.1 i)

pub inst-abstract : (c : Sym) (e : Tree) → IsScoped 0 e → inst (abstract c e) (name c) ≡ e
inst-abstract c e h = put-abstract c 0 e h

-- ---- ranks

module _ (rank : Sym → ℕ) where
  mutual
    pub Below-more : (n m : ℕ) (e : Tree) → n ≤ m → IsBelow rank n e → IsBelow rank m e
    Below-more n m (bound i) q h = tt
    Below-more n m (app f ps) q h = (more n m (rank f) q h.0, AreBelow-more n m ps q h.1)
      where
        more : (n m k : ℕ) → n ≤ m → k < n → k < m
        more n m k q h = omega arith
    Below-more n m (node k ns ps) q h = AreBelow-more n m ps q h
    Below-more n m (bind b ps e) q h = (AreBelow-more n m ps q h.0, Below-more n m e q h.1)

    AreBelow-more : (n m : ℕ) (ps : Parts) → n ≤ m → AreBelow rank n ps → AreBelow rank m ps
    AreBelow-more n m end q h = tt
    AreBelow-more n m (part e ps) q h = (Below-more n m e q h.0, AreBelow-more n m ps q h.1)

  mutual
    Below-shift : (n b c : ℕ) (e : Tree) → IsBelow rank n e → IsBelow rank n (shift b c e)
    Below-shift n b c (bound i) h = tt
    Below-shift n b c (app f ps) h = (h.0, AreBelow-shifts n b c ps h.1)
    Below-shift n b c (node k ns ps) h = AreBelow-shifts n b c ps h
    Below-shift n b c (bind o ps e) h = (AreBelow-shifts n b c ps h.0, Below-shift n (suc b) c e h.1)

    AreBelow-shifts : (n b c : ℕ) (ps : Parts) → AreBelow rank n ps → AreBelow rank n (shifts b c ps)
    AreBelow-shifts n b c end h = tt
    AreBelow-shifts n b c (part e ps) h = (Below-shift n b c e h.0, AreBelow-shifts n b c ps h.1)

  below_cond : (n : ℕ) (b : Bool) (x y : Tree) → IsBelow rank n x → IsBelow rank n y → IsBelow rank n (cond b x y)
  below_cond n true x y p q = p
  below_cond n false x y p q = q

  below_argument : (n : ℕ) (ts : Parts) (j : ℕ) → AreBelow rank n ts → IsBelow rank n (argument ts j)
  below_argument n end j h = tt
  below_argument n (part e ts) j h = below_cond n (nat_eq j (size ts)) e (argument ts j) h.0 (below_argument n ts j h.1)

  mutual
    pub Below-put : (n d : ℕ) (ts : Parts) (e : Tree) → AreBelow rank n ts → IsBelow rank n e → IsBelow rank n (put d ts e)
    Below-put n d ts (bound i) q h =
        below_cond n (nat_lt i d) (bound i) (shift 0 d (argument ts (i - d))) tt (Below-shift n 0 d (argument ts (i - d)) (below_argument n ts (i - d) q))
    Below-put n d ts (app f ps) q h = (h.0, AreBelow-puts n d ts ps q h.1)
    Below-put n d ts (node k ns ps) q h = AreBelow-puts n d ts ps q h
    Below-put n d ts (bind b ps e) q h = (AreBelow-puts n d ts ps q h.0, Below-put n (suc d) ts e q h.1)

    AreBelow-puts : (n d : ℕ) (ts ps : Parts) → AreBelow rank n ts → AreBelow rank n ps → AreBelow rank n (puts d ts ps)
    AreBelow-puts n d ts end q h = tt
    AreBelow-puts n d ts (part e ps) q h = (Below-put n d ts e q h.0, AreBelow-puts n d ts ps q h.1)

  -- a map whose bodies have only symbols below their own
  abbrev pub IsFalling : (Sym → Option Tree) → Type 0
  IsFalling s = (f : Sym) (b : Tree) → s f ≡ Some b → IsBelow rank (rank f) b

  module _ (s : Sym → Option Tree) (falling : IsFalling s) where
    below_body : (n : ℕ) (o : Option Tree) (f : Sym) (ps : Parts) → s f ≡ o → rank f < n → AreBelow rank n ps → IsBelow rank n (apply_body o f ps)
    below_body n None f ps e q h = (q, h)
    below_body n (Some b) f ps e q h = Below-put n 0 ps b h (Below-more (rank f) n b (omega arith) (falling f b e))

    mutual
      pub Below-sub : (n : ℕ) (e : Tree) → IsBelow rank n e → IsBelow rank n (sub s e)
      Below-sub n (bound i) h = tt
      Below-sub n (app f ps) h = below_body n (s f) f (subs s ps) refl h.0 (AreBelow-subs n ps h.1)
      Below-sub n (node k ns ps) h = AreBelow-subs n ps h
      Below-sub n (bind b ps e) h = (AreBelow-subs n ps h.0, Below-sub n e h.1)

      AreBelow-subs : (n : ℕ) (ps : Parts) → AreBelow rank n ps → AreBelow rank n (subs s ps)
      AreBelow-subs n end h = tt
      AreBelow-subs n (part e ps) h = (Below-sub n e h.0, AreBelow-subs n ps h.1)

  -- a map without symbols below n leaves what is below n
  mutual
    sub-low : (s : Sym → Option Tree) (n : ℕ) (e : Tree) → ((f : Sym) → rank f < n → s f ≡ None) → IsBelow rank n e → sub s e ≡ e
    sub-low s n (bound i) h b = refl
    sub-low s n (app f ps) h b = λ i. apply_body (h f b.0 i) f (subs-low s n ps h b.1 i)
    sub-low s n (node k ns ps) h b = ap (node k ns) (subs-low s n ps h b)
    sub-low s n (bind o ps e) h b = λ i. bind o (subs-low s n ps h b.0 i) (sub-low s n e h b.1 i)

    subs-low : (s : Sym → Option Tree) (n : ℕ) (ps : Parts) → ((f : Sym) → rank f < n → s f ≡ None) → AreBelow rank n ps → subs s ps ≡ ps
    subs-low s n end h b = refl
    subs-low s n (part e ps) h b = λ i. part (sub-low s n e h b.0 i) (subs-low s n ps h b.1 i)

  at-low : (n : ℕ) (c : Sym) (t : Tree) (f : Sym) → n ≤ rank c → rank f < n → at c t f ≡ None
  at-low n c t f q h = go (same_sym c f) refl
    where
      go : (b : Bool) → same_sym c f ≡ b → if_there b t ≡ None
      go true e =
          let w : rank c ≡ rank f = ap rank (sym-same c f e) in
          absurd (omega arith)
      go false e = refl

  -- a symbol of a higher rank is not there
  pub sub_absent : (n : ℕ) (c : Sym) (t e : Tree) → n ≤ rank c → IsBelow rank n e → sub (at c t) e ≡ e
  sub_absent n c t e q h = sub-low (at c t) n e (λ f k. at-low n c t f q k) h

  -- ---- definitions in order

  at-falls : (d : Definition) → IsBelow rank (rank d.symbol) d.body → IsFalling (at d.symbol d.body)
  at-falls d o f b e = go (same_sym d.symbol f) refl e
    where
      go : (c : Bool) → same_sym d.symbol f ≡ c → if_there c d.body ≡ Some b → IsBelow rank (rank f) b
      go true q e =
          let w : d.body ≡ b = cc in
          subst (λ (x : Sym). IsBelow rank (rank x) b) (sym-same d.symbol f q) (subst (IsBelow rank (rank d.symbol)) w o)
      go false q e = absurd (differ e)
        where
          differ : None ≡ Some b → ⊥
          differ e = cc

  pub falls : (ds : List Definition) → AreOrdered rank ds → IsFalling (expansion ds)
  falls [] o f b e = absurd (differ e)
    where
      differ : None ≡ Some b → ⊥
      differ e = cc
  falls (d ∷ ds) o f b e = go (expansion ds f) (falls ds o.2 f) e
    where
      go : (x : Option Tree) → ((a : Tree) → x ≡ Some a → IsBelow rank (rank f) a) → then_map (at d.symbol d.body) x (at d.symbol d.body f) ≡ Some b → IsBelow rank (rank f) b
      go None k e = at-falls d o.0 f b e
      go (Some a) k e =
          let w : sub (at d.symbol d.body) a ≡ b = cc in
          subst (IsBelow rank (rank f)) w (Below-sub (at d.symbol d.body) (at-falls d o.0) (rank f) a (k a refl))

  -- later definitions have no symbol below the first one's, and not its symbol
  later-low : (d : Definition) (ds : List Definition) (f : Sym) → IsFirst rank d ds → rank f < rank d.symbol → expansion ds f ≡ None
  later-low d [] f h q = refl
  later-low d (e ∷ ds) f h q =
      ap (λ (o : Option Tree). then_map (at e.symbol e.body) o (at e.symbol e.body f)) (later-low d ds f h.2 q)
      ∙ at-low (rank d.symbol) e.symbol e.body f h.1 q

  first-none : (d : Definition) (ds : List Definition) → IsFirst rank d ds → expansion ds d.symbol ≡ None
  first-none d [] h = refl
  first-none d (e ∷ ds) h =
      ap (λ (o : Option Tree). then_map (at e.symbol e.body) o (at e.symbol e.body d.symbol)) (first-none d ds h.2)
      ∙ go (same_sym e.symbol d.symbol) refl
    where
      go : (b : Bool) → same_sym e.symbol d.symbol ≡ b → if_there b e.body ≡ None
      go true q = absurd (differ (same_sym d.symbol e.symbol) h.0 (ap (same_sym d.symbol) (sym-same e.symbol d.symbol q) ∙ sym-refl d.symbol))
        where
          differ : (b : Bool) → b ≡ false → b ≡ true → ⊥
          differ b p q = cc
      go false q = refl

  keep : (d : Definition) (ds es : List Definition) → ExpandsAll (expansion ds) es → ExpandsAll (expansion (d ∷ ds)) es
  keep d ds [] h = tt
  keep d ds (e ∷ es) h = (
    ap (λ (o : Option Tree). then_map (at d.symbol d.body) o (at d.symbol d.body e.symbol)) h.0
        ∙ ap Some (sub-sub (at d.symbol d.body) (expansion ds) e.body),
    keep d ds es h.1,
  )

  pub expands : (ds : List Definition) → AreOrdered rank ds → ExpandsAll (expansion ds) ds
  expands [] o = tt
  expands (d ∷ ds) o = (here, keep d ds ds (expands ds o.2))
    where
      low_at : (f : Sym) → rank f < rank d.symbol → expansion (d ∷ ds) f ≡ None
      low_at f q =
          ap (λ (o : Option Tree). then_map (at d.symbol d.body) o (at d.symbol d.body f)) (later-low d ds f o.1 q)
          ∙ at-low (rank d.symbol) d.symbol d.body f (omega arith) q

      here : Expands (expansion (d ∷ ds)) d
      here =
          ap (λ (o : Option Tree). then_map (at d.symbol d.body) o (at d.symbol d.body d.symbol)) (first-none d ds o.1)
          ∙ ap (λ (b : Bool). if_there b d.body) (sym-refl d.symbol)
          ∙ ap Some (sym (sub-low (expansion (d ∷ ds)) (rank d.symbol) d.body low_at o.0))

-- a map over a list of formulas
pub map-whole : (ds : List Definition) (es : List Tree) → map (unfolded ds) es ≡ map (whole ds) es
map-whole ds [] = refl
map-whole ds (e ∷ es) = λ i. unfolded-whole ds e i ∷ map-whole ds es i

pub expansion_final : ExpansionIsFinal
expansion_final rank table o u e =
    let x = chosen-expands (expansion table) u table (expands rank table o) in (
      unfolded-whole table (unfolded_by table u e) ∙ sub-unfolded (expansion table) (chosen u table) e x ∙ sym (unfolded-whole table e),
      unfolded-whole table (unfold_head (chosen u table) e) ∙ sub-head (expansion table) (chosen u table) e x ∙ sym (unfolded-whole table e),
    )
