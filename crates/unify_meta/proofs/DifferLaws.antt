-- The first difference of two nodes of a bank.
use Rattle.std.proofs.Common.{◌≡◌, ℕ, zero, suc, ◌<◌, min, Bool, true, false, cond, nat_eq, None, List, [], ◌∷◌, length, get_or, refl, ap, sym, ◌∙◌, arith, subst, inl, inr, IsTrue}
use Rattle.std.specs.Prelude.{◌⊎◌}
use Rattle.std.proofs.lemmas.Bool.{and_parts, eqb-true}
use Rattle.core_expr.specs.declared.head.Sym.{Sym}
use Rattle.core_expr.specs.declared.head.Head.{Head}
use Rattle.core_expr.specs.declared.head.Head.TheVariants.{Str, Enum, Tuple}
use Rattle.core_expr.specs.declared.row.RowKind.{RowKind}
use Rattle.core_expr.specs.declared.row.RowKind.TheVariants.{Bound, Symbol, Plain, Binding}
use Rattle.core_expr.specs.Tree.{Tree, true_}
use Rattle.core_expr.specs.Tree.Tree.{app, node}
use Rattle.core_expr.specs.Terms.{head_code, binder_code, lists_equal, same_sym}
use Rattle.core_expr.specs.Heads.{kind_at, kind_table, kind_number, kind_symbol, HasBody, make_kind, parts_of, front, back, kept_numbers, table_numbers, plain_fits, binder_arity, first, after_first, is_empty}
use Rattle.core_expr.specs.Nodes.{Node, canon_sym, node_kind, node_fits, numbers_fit, picked}
use Rattle.core_expr.proofs.Equal.{lists-same, nat-same, sym-same}
use Rattle.core_expr.proofs.NodeLaws.{node_numbers_fit, node_below, kind_number-node, node-body}
use Rattle.core_expr.proofs.BuildLaws.{no_numbers, one_number, table-kept}
use Rattle.core_expr.proofs.Shown.{kind_at-symbol}
use Rattle.unifier_definition.specs.Metas.{meta_of}
use Rattle.unifier_definition.specs.Unify.{Difference, then, met_by, met, difference, differences}
use Rattle.unifier_definition.specs.Unify.Difference.{Same, Clash, Bind}
use Rattle.unifier_definition.specs.Walk.{first_difference, DifferenceByParts}
use Rattle.unifier_definition.proofs.Differs.{Says, difference-says, says-self}
use Rattle.term_bank.specs.Banks.{IsDistinct, HasNode}
use Rattle.term_bank.proofs.TableLaws.{fits-picked, is_true}
use Rattle.term_walks.specs.Places.{AgreeBefore}
use Rattle.term_walks.proofs.PlaceLaws.{kind-count, two_numbers, only-kept}
use Rattle.unify_meta.specs.Disagreements.{is_listing}

-- the parts of two nodes
then_other : (d e : Difference) → (d ≡ Same → ⊥) → then d e ≡ d
then_other Same e h = absurd (h refl)
then_other Clash e h = refl
then_other (Bind m u) e h = refl

not_same : (ms : List Sym) (ts : List Tree) (p q : ℕ) → IsDistinct ts → p < length ts → q < length ts → (p ≡ q → ⊥) → difference ms (get_or ts p true_) (get_or ts q true_) ≡ Same → ⊥
not_same ms ts p q d l m ne h =
    ne (d p q l m (subst (Says ms (get_or ts p true_) (get_or ts q true_)) h (difference-says ms (get_or ts p true_) (get_or ts q true_))))

skip : (ms : List Sym) (ts : List Tree) (p q : ℕ) (e : Difference) → p ≡ q → then (difference ms (get_or ts p true_) (get_or ts q true_)) e ≡ e
skip ms ts p q e z =
    ap (λ d. then d e) (ap (λ x. difference ms (get_or ts p true_) (get_or ts x true_)) (sym z) ∙ says-self ms (get_or ts p true_))

-- the first parts with different indices have the first difference
pub parts_apart : (ms : List Sym) (ts : List Tree) (ps qs : List ℕ) (k : ℕ) → IsDistinct ts → get_or ps k 0 < length ts → get_or qs k 0 < length ts → k < length ps → k < length qs → AgreeBefore ps qs k → (get_or ps k 0 ≡ get_or qs k 0 → ⊥)
    → first_difference ms (picked ts ps) (picked ts qs) ≡ difference ms (get_or ts (get_or ps k 0) true_) (get_or ts (get_or qs k 0) true_)
parts_apart ms ts [] qs k d a b l m f ne = absurd (omega arith)
parts_apart ms ts (p ∷ ps) [] k d a b l m f ne = absurd (omega arith)
parts_apart ms ts (p ∷ ps) (q ∷ qs) zero d a b l m f ne =
    then_other (difference ms (get_or ts p true_) (get_or ts q true_)) (first_difference ms (picked ts ps) (picked ts qs)) (not_same ms ts p q d a b ne)
parts_apart ms ts (p ∷ ps) (q ∷ qs) (suc k) d a b l m f ne =
    skip ms ts p q (first_difference ms (picked ts ps) (picked ts qs)) (f 0 (omega arith))
    ∙ parts_apart ms ts ps qs k d a b (omega arith) (omega arith) (λ j h. f (suc j) (omega arith)) ne

-- where none differ, one list is longer
pub parts_short : (ms : List Sym) (ts : List Tree) (ps qs : List ℕ) → AgreeBefore ps qs (min (length ps) (length qs)) → (length ps ≡ length qs → ⊥) → first_difference ms (picked ts ps) (picked ts qs) ≡ Clash
parts_short ms ts [] [] f ne = absurd (ne refl)
parts_short ms ts [] (q ∷ qs) f ne = refl
parts_short ms ts (p ∷ ps) [] f ne = refl
parts_short ms ts (p ∷ ps) (q ∷ qs) f ne =
    skip ms ts p q (first_difference ms (picked ts ps) (picked ts qs)) (f 0 (omega arith))
    ∙ parts_short ms ts ps qs (λ j h. f (suc j) (omega arith)) (λ e. ne (ap suc e))

-- lists of any length, of one head that counts them
by-list : (ms : List Sym) (ss ts : List Tree) → differences ms (parts_of ss) (parts_of ts) ≡ first_difference ms ss ts
by-list ms [] [] = refl
by-list ms [] (t ∷ ts) = refl
by-list ms (s ∷ ss) [] = refl
by-list ms (s ∷ ss) (t ∷ ts) = ap (then (difference ms s t)) (by-list ms ss ts)

listing_differs : (ms : List Sym) (k : RowKind) (ns ls : List ℕ) (ss ts : List Tree) → is_listing k ≡ true → numbers_fit k ns (length ss) ≡ true → numbers_fit k ls (length ts) ≡ true → difference ms (make_kind k ns ss) (make_kind k ls ts) ≡ first_difference ms ss ts
listing_differs ms (Plain Enum) ns ls ss ts e v w =
    ap (λ xs. difference ms (node Enum xs (parts_of ss)) (node Enum (after_first ls) (parts_of ts))) (only-kept (length ss) ns v)
    ∙ ap (λ xs. difference ms (node Enum [] (parts_of ss)) (node Enum xs (parts_of ts))) (only-kept (length ts) ls w) ∙ by-list ms ss ts
listing_differs ms (Plain Tuple) ns ls ss ts e v w =
    ap (λ xs. difference ms (node Tuple xs (parts_of ss)) (node Tuple (after_first ls) (parts_of ts))) (only-kept (length ss) ns v)
    ∙ ap (λ xs. difference ms (node Tuple [] (parts_of ss)) (node Tuple xs (parts_of ts))) (only-kept (length ts) ls w) ∙ by-list ms ss ts
listing_differs ms k ns ls ss ts e v w = cc

-- nodes that differ by themselves
abbrev Unlike : RowKind → List ℕ → RowKind → List ℕ → Type 0
Unlike Bound ns Bound ls = nat_eq (first ns) (first ls) ≡ false
Unlike (Symbol f) ns (Symbol g) ls = same_sym f g ≡ false
Unlike (Plain h) ns (Plain k) ls = (nat_eq (head_code h) (head_code k) ≡ false) ⊎ (lists_equal (kept_numbers h ns) (kept_numbers k ls) ≡ false)
Unlike (Binding b) ns (Binding c) ls = nat_eq (binder_code b) (binder_code c) ≡ false
Unlike _ ns _ ls = Unit {0}

abbrev select : {A : Type 0} → Bool → A → A → A
select b x y = elim b [ true ↦ x | false ↦ y ]

met_none : (ms : List Sym) (s t : Tree) (d : Difference) → meta_of ms s ≡ None → meta_of ms t ≡ None → met ms s t d ≡ d
met_none ms s t d a b = (λ i. met_by (a i) (b i) s t d)

differ_unlike : (ms : List Sym) (k l : RowKind) (ns ls : List ℕ) (ss ts : List Tree) → meta_of ms (make_kind k ns ss) ≡ None → meta_of ms (make_kind l ls ts) ≡ None → Unlike k ns l ls → difference ms (make_kind k ns ss) (make_kind l ls ts) ≡ Clash
differ_unlike ms Bound Bound ns ls ss ts a b u = ap (λ x. select x Same Clash) u
differ_unlike ms (Symbol f) (Symbol g) ns ls ss ts a b u =
    met_none ms (app f (parts_of ss)) (app g (parts_of ts)) (select (same_sym f g) (differences ms (parts_of ss) (parts_of ts)) Clash) a b
    ∙ ap (λ x. select x (differences ms (parts_of ss) (parts_of ts)) Clash) u
differ_unlike ms (Plain h) (Plain k) ns ls ss ts a b (inl u) =
    ap (λ x. select x (select (lists_equal (kept_numbers h ns) (kept_numbers k ls)) (differences ms (parts_of ss) (parts_of ts)) Clash) Clash) u
differ_unlike ms (Plain h) (Plain k) ns ls ss ts a b (inr u) =
    ap (λ x. select (nat_eq (head_code h) (head_code k)) (select x (differences ms (parts_of ss) (parts_of ts)) Clash) Clash) u ∙ both (nat_eq (head_code h) (head_code k))
  where
    both : (x : Bool) → select x Clash Clash ≡ Clash
    both true = refl
    both false = refl
differ_unlike ms (Binding p) (Binding q) ns ls ss ts a b u =
    ap (λ x. select x (then (differences ms (parts_of (front ss)) (parts_of (front ts))) (difference ms (back ss) (back ts))) Clash) u
differ_unlike ms k l ns ls ss ts a b u = met_none ms (make_kind k ns ss) (make_kind l ls ts) Clash a b

-- what makes two nodes unlike
other_number : (m n : ℕ) → (m ≡ n → ⊥) → nat_eq m n ≡ false
other_number m n ne = go (nat_eq m n) refl
  where
    go : (b : Bool) → nat_eq m n ≡ b → nat_eq m n ≡ false
    go true e = absurd (ne (nat-same m n e))
    go false e = e

other_lists : (ms ns : List ℕ) → (ms ≡ ns → ⊥) → lists_equal ms ns ≡ false
other_lists ms ns ne = go (lists_equal ms ns) refl
  where
    go : (b : Bool) → lists_equal ms ns ≡ b → lists_equal ms ns ≡ false
    go true e = absurd (ne (lists-same ms ns e))
    go false e = e

unlike_heads : (k l : RowKind) (ns ls : List ℕ) → (kind_number k ≡ kind_number l → ⊥) → Unlike k ns l ls
unlike_heads Bound Bound ns ls ne = absurd (ne refl)
unlike_heads (Symbol f) (Symbol g) ns ls ne = absurd (ne refl)
unlike_heads (Plain h) (Plain k) ns ls ne = inl (other_number (head_code h) (head_code k) ne)
unlike_heads (Binding b) (Binding c) ns ls ne = other_number (binder_code b) (binder_code c) ne
unlike_heads _ _ ns ls ne = tt

-- a head that counts no parts tells its numbers by those that the tree keeps
kept_alike : (h : Head) (ns ls : List ℕ) (a b : ℕ) → is_listing (Plain h) ≡ false → plain_fits h ns a ≡ true → plain_fits h ls b ≡ true → kept_numbers h ns ≡ kept_numbers h ls → ns ≡ ls
kept_alike h ns ls a b e v w k = sym (table-kept h ns a v) ∙ table h (kept_numbers h ns) (kept_numbers h ls) e k ∙ table-kept h ls b w
  where
    table : (h : Head) (xs ys : List ℕ) → is_listing (Plain h) ≡ false → xs ≡ ys → table_numbers h xs a ≡ table_numbers h ys b
    table Enum xs ys e z = cc
    table Tuple xs ys e z = cc
    table Str xs ys e z = ap (λ zs. length zs ∷ zs) z
    table _ xs ys e z = z

unlike_numbers : (k : RowKind) (ns ls : List ℕ) (a b : ℕ) → kind_symbol k ≡ None → is_listing k ≡ false → (ns ≡ ls → ⊥) → numbers_fit k ns a ≡ true → numbers_fit k ls b ≡ true → Unlike k ns k ls
unlike_numbers Bound ns ls a b o e ne v w =
    other_number (first ns) (first ls) (λ z. ne (one_number ns (eqb-true (length ns) 1 (and_parts (nat_eq (length ns) 1) (nat_eq a 0) v).0) ∙ ap (λ n. n ∷ []) z ∙ sym (one_number ls (eqb-true (length ls) 1 (and_parts (nat_eq (length ls) 1) (nat_eq b 0) w).0))))
unlike_numbers (Symbol f) ns ls a b o e ne v w = cc
unlike_numbers (Plain h) ns ls a b o e ne v w =
    inr (other_lists (kept_numbers h ns) (kept_numbers h ls) (λ z. ne (kept_alike h ns ls a b e v w z)))
unlike_numbers (Binding g) ns ls a b o e ne v w =
    absurd (ne (no_numbers ns (and_parts (is_empty ns) (nat_eq a (binder_arity g)) v).0 ∙ sym (no_numbers ls (and_parts (is_empty ls) (nat_eq b (binder_arity g)) w).0)))

abbrev symbol_of : List ℕ → Sym
symbol_of ns = canon_sym (first ns) (first (after_first ns))

unlike_symbols : (ns ls : List ℕ) → (ns ≡ ls → ⊥) → nat_eq (length ns) 2 ≡ true → nat_eq (length ls) 2 ≡ true → same_sym (symbol_of ns) (symbol_of ls) ≡ false
unlike_symbols ns ls ne v w = go (same_sym (symbol_of ns) (symbol_of ls)) refl
  where
    go : (b : Bool) → same_sym (symbol_of ns) (symbol_of ls) ≡ b → same_sym (symbol_of ns) (symbol_of ls) ≡ false
    go true e = let z = sym-same (symbol_of ns) (symbol_of ls) e in absurd (ne (sym (two_numbers ns v) ∙ (λ i. (z i).number ∷ (z i).arity ∷ []) ∙ two_numbers ls w))
    go false e = e

unlike_nodes : (h : ℕ) (ns ls : List ℕ) (a b : ℕ) → node_fits h ns a ≡ true → node_fits h ls b ≡ true → is_listing (kind_at h) ≡ false → (ns ≡ ls → ⊥) → Unlike (node_kind h ns) ns (node_kind h ls) ls
unlike_nodes h ns ls a b v w e ne =
    go (nat_eq h 6) (node_numbers_fit h ns a v) (node_numbers_fit h ls b w)
  where
    below : h < 34
    below = let l = node_below h ns a v in omega arith

    go : (x : Bool) → numbers_fit (cond x (Symbol (symbol_of ns)) (kind_at h)) ns a ≡ true → numbers_fit (cond x (Symbol (symbol_of ls)) (kind_at h)) ls b ≡ true
        → Unlike (cond x (Symbol (symbol_of ns)) (kind_at h)) ns (cond x (Symbol (symbol_of ls)) (kind_at h)) ls
    go true p q = unlike_symbols ns ls ne (and_parts (nat_eq (length ns) 2) (nat_eq a (first (after_first ns))) p).0 (and_parts (nat_eq (length ls) 2) (nat_eq b (first (after_first ls))) q).0
    go false p q = unlike_numbers (kind_at h) ns ls a b (kind_at-symbol h below) e ne p q

-- nodes of one kind
abbrev ByParts : List Sym → Tree → Tree → List Tree → List Tree → Type 0
ByParts ms s t ss ts = (s ≡ t) ⊎ ((difference ms s t ≡ first_difference ms ss ts) × (ss ≡ ts → s ≡ t))

same_numbers : DifferenceByParts → (ms : List Sym) (k : RowKind) (ns : List ℕ) (ss ts : List Tree) → length ss ≡ length ts → HasBody k (length ss) → ByParts ms (make_kind k ns ss) (make_kind k ns ts) ss ts
same_numbers law ms Bound ns ss ts e h = inl refl
same_numbers law ms (Symbol f) ns ss ts e h = inr (law ms (Symbol f) ns ss ts tt e h, ap (make_kind (Symbol f) ns))
same_numbers law ms (Plain g) ns ss ts e h = inr (law ms (Plain g) ns ss ts tt e h, ap (make_kind (Plain g) ns))
same_numbers law ms (Binding b) ns ss ts e h = inr (law ms (Binding b) ns ss ts tt e h, ap (make_kind (Binding b) ns))

listing_same : (k : RowKind) (ns ls : List ℕ) (ss : List Tree) → is_listing k ≡ true → numbers_fit k ns (length ss) ≡ true → numbers_fit k ls (length ss) ≡ true → make_kind k ns ss ≡ make_kind k ls ss
listing_same (Plain Enum) ns ls ss e v w =
    ap (λ xs. node Enum xs (parts_of ss)) (only-kept (length ss) ns v ∙ sym (only-kept (length ss) ls w))
listing_same (Plain Tuple) ns ls ss e v w =
    ap (λ xs. node Tuple xs (parts_of ss)) (only-kept (length ss) ns v ∙ sym (only-kept (length ss) ls w))
listing_same k ns ls ss e v w = cc

-- a listing head is no symbol's
listing_kind : (h : ℕ) (ns : List ℕ) → is_listing (kind_at h) ≡ true → node_kind h ns ≡ kind_at h
unfolding kind_at kind_table
listing_kind h ns e = go (nat_eq h 6) refl
  where
    go : (b : Bool) → nat_eq h 6 ≡ b → cond b (Symbol (symbol_of ns)) (kind_at h) ≡ kind_at h
    go true z = cc (ap (λ n. is_listing (kind_at n)) (sym (eqb-true h 6 z)) ∙ e)
    go false z = refl

module _ (ts : List Tree) (ms : List Sym) (i j : ℕ) (n m : Node) (gi : HasNode ts i n) (gj : HasNode ts j m) where
  si : List Tree
  si = picked ts n.parts

  fi : node_fits n.head n.numbers (length (picked ts n.parts)) ≡ true
  fi = fits-picked ts n gi.node.0

  fj : node_fits m.head m.numbers (length (picked ts m.parts)) ≡ true
  fj = fits-picked ts m gj.node.0

  trees : (x y : Tree) → x ≡ get_or ts i true_ → y ≡ get_or ts j true_ → (ss us : List Tree) → ByParts ms x y ss us → ByParts ms (get_or ts i true_) (get_or ts j true_) ss us
  trees x y a b ss us h = subst (λ z. ByParts ms z (get_or ts j true_) ss us) a (subst (λ z. ByParts ms x z ss us) b h)

  -- nodes with one head and the same numbers, or that list their parts
  pub by_parts : DifferenceByParts → n.head ≡ m.head → (n.numbers ≡ m.numbers) ⊎ IsTrue (is_listing (kind_at n.head)) → ByParts ms (get_or ts i true_) (get_or ts j true_) (picked ts n.parts) (picked ts m.parts)
  by_parts law eh (inl en) =
      let kinds : node_kind m.head m.numbers ≡ node_kind n.head n.numbers = λ x. node_kind (sym eh x) (sym en x) in
      let fit : node_fits n.head n.numbers (length (picked ts m.parts)) ≡ true = (λ x. node_fits (eh x) (en x) (length (picked ts m.parts))) ∙ fj in
      trees (make_kind (node_kind n.head n.numbers) n.numbers (picked ts n.parts)) (make_kind (node_kind n.head n.numbers) n.numbers (picked ts m.parts)) (sym gi.tree) ((λ x. make_kind (sym kinds x) (en x) (picked ts m.parts)) ∙ sym gj.tree) (picked ts n.parts) (picked ts m.parts)
      (same_numbers law ms (node_kind n.head n.numbers) n.numbers (picked ts n.parts) (picked ts m.parts) (kind-count (node_kind n.head n.numbers) n.numbers (length (picked ts n.parts)) (length (picked ts m.parts)) (node_numbers_fit n.head n.numbers _ fi) (node_numbers_fit n.head n.numbers _ fit)) (node-body n.head n.numbers _ fi))
  by_parts law eh (inr l) =
      trees (make_kind k n.numbers (picked ts n.parts)) (make_kind k m.numbers (picked ts m.parts)) (sym (gi.tree ∙ ap (λ x. make_kind x n.numbers (picked ts n.parts)) ki)) (sym (gj.tree ∙ ap (λ x. make_kind x m.numbers (picked ts m.parts)) kj)) (picked ts n.parts) (picked ts m.parts)
      (inr (listing_differs ms k n.numbers m.numbers (picked ts n.parts) (picked ts m.parts) e vi vj, λ z. same z))
    where
      k : RowKind
      k = kind_at n.head

      e : is_listing (kind_at n.head) ≡ true
      e = is_true (is_listing (kind_at n.head)) l

      ki : node_kind n.head n.numbers ≡ kind_at n.head
      ki = listing_kind n.head n.numbers e

      kj : node_kind m.head m.numbers ≡ kind_at n.head
      kj = ap (λ x. node_kind x m.numbers) (sym eh) ∙ listing_kind n.head m.numbers e

      vi : numbers_fit (kind_at n.head) n.numbers (length (picked ts n.parts)) ≡ true
      vi = ap (λ x. numbers_fit x n.numbers (length (picked ts n.parts))) (sym ki) ∙ node_numbers_fit n.head n.numbers _ fi

      vj : numbers_fit (kind_at n.head) m.numbers (length (picked ts m.parts)) ≡ true
      vj = ap (λ x. numbers_fit x m.numbers (length (picked ts m.parts))) (sym kj) ∙ node_numbers_fit m.head m.numbers _ fj

      same : picked ts n.parts ≡ picked ts m.parts → make_kind (kind_at n.head) n.numbers (picked ts n.parts) ≡ make_kind (kind_at n.head) m.numbers (picked ts m.parts)
      same z =
          listing_same (kind_at n.head) n.numbers m.numbers (picked ts n.parts) e vi (ap (λ xs. numbers_fit (kind_at n.head) m.numbers (length xs)) z ∙ vj)
          ∙ ap (make_kind (kind_at n.head) m.numbers) z

  -- other nodes clash
  clash_of : meta_of ms (get_or ts i true_) ≡ None → meta_of ms (get_or ts j true_) ≡ None → Unlike (node_kind n.head n.numbers) n.numbers (node_kind m.head m.numbers) m.numbers → difference ms (get_or ts i true_) (get_or ts j true_) ≡ Clash
  clash_of a b u =
      (λ x. difference ms (gi.tree x) (gj.tree x))
      ∙ differ_unlike ms (node_kind n.head n.numbers) (node_kind m.head m.numbers) n.numbers m.numbers (picked ts n.parts) (picked ts m.parts) (ap (meta_of ms) (sym gi.tree) ∙ a) (ap (meta_of ms) (sym gj.tree) ∙ b) u

  pub other_heads : meta_of ms (get_or ts i true_) ≡ None → meta_of ms (get_or ts j true_) ≡ None → (n.head ≡ m.head → ⊥) → difference ms (get_or ts i true_) (get_or ts j true_) ≡ Clash
  other_heads a b ne =
      clash_of a b (unlike_heads (node_kind n.head n.numbers) (node_kind m.head m.numbers) n.numbers m.numbers (λ z. ne (sym (number n.head n.numbers _ fi) ∙ z ∙ number m.head m.numbers _ fj)))
    where
      number : (h : ℕ) (ns : List ℕ) (c : ℕ) → node_fits h ns c ≡ true → kind_number (node_kind h ns) ≡ h
      number h ns c w = kind_number-node h ns (let l = node_below h ns c w in omega arith)

  pub other_numbers : meta_of ms (get_or ts i true_) ≡ None → meta_of ms (get_or ts j true_) ≡ None → n.head ≡ m.head → (((n.numbers ≡ m.numbers) ⊎ IsTrue (is_listing (kind_at n.head))) → ⊥) → difference ms (get_or ts i true_) (get_or ts j true_) ≡ Clash
  other_numbers a b eh ne =
      clash_of a b (subst (λ h. Unlike (node_kind n.head n.numbers) n.numbers (node_kind h m.numbers) m.numbers) eh (unlike_nodes n.head n.numbers m.numbers (length (picked ts n.parts)) (length (picked ts m.parts)) fi (ap (λ h. node_fits h m.numbers (length (picked ts m.parts))) eh ∙ fj) (none (is_listing (kind_at n.head)) refl) (λ z. ne (inl z))))
    where
      none : (b : Bool) → is_listing (kind_at n.head) ≡ b → is_listing (kind_at n.head) ≡ false
      none true e = absurd (ne (inr e))
      none false e = e
