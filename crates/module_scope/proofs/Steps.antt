-- One step of a loop, and what stands round it.
use Rattle.std.proofs.Common.{◌≡◌, ◌<◌, ◌≤◌, ℕ, zero, suc, List, [], ◌∷◌, length, map, drop, fold, slice_index_or, refl, sym, ap, subst, ◌∙◌, arith}
use Rattle.tla_ast.specs.declared.tree.Node.{Node}
use Rattle.tla_ast.specs.declared.tree.Path.{Path, out-Path}
use Rattle.plain_syntax.specs.Plain.{Text, Term, Keys}
use Rattle.plain_syntax.specs.Syntax.{term_of, terms_of, keys_of, updates_of}
use Rattle.module_scope.specs.Names.{Book, Walk, inside, left, scope_of, names, update_names, field_names, with_head, head_names}
use Rattle.module_scope.specs.Visits.{key_step, except_names}
use Rattle.module_scope.proofs.Visits.{keys-all}

from : {A : Type 0} (xs : List A) (i : ℕ) (x : A) → i < length xs → x ≡ slice_index_or xs i x → drop i xs ≡ x ∷ drop (suc i) xs
from [] i x h e = absurd (omega arith)
from (y ∷ xs) zero x h e = ap (λ z. z ∷ xs) (sym e)
from (y ∷ xs) (suc i) x h e = from xs i x (omega arith) e

-- the item at an index stands before those behind it
pub next : {A : Type 0} (xs : List A) (i j : ℕ) (x : A) → j ≡ suc i → i < length xs → x ≡ slice_index_or xs i x → drop i xs ≡ x ∷ drop j xs
next xs i j x e h s = subst (λ k. drop i xs ≡ x ∷ drop k xs) (sym e) (from xs i x h s)

-- past the end nothing is left
pub all-past : {A : Type 0} (xs : List A) (i : ℕ) → length xs ≤ i → drop i xs ≡ []
all-past [] zero h = refl
all-past [] (suc i) h = refl
all-past (x ∷ xs) zero h = absurd (omega arith)
all-past (x ∷ xs) (suc i) h = all-past xs i (omega arith)

-- what a walk inside did, step by step
pub inside-is : (f : Walk) (b c d : Book) (n : ℕ) → n ≡ length (scope_of b) → c ≡ f b → d ≡ left n c → d ≡ inside f b
inside-is f b c d n m e h = h ∙ (λ i. left (m i) (e i))

pub folded : {A : Type 0} (step : Book → A → Book) (start b after : Book) (xs rest : List A) (x : A) → start ≡ fold step b xs → xs ≡ x ∷ rest → after ≡ step b x → start ≡ fold step after rest
folded step start b after xs rest x h e s = h ∙ ap (fold step b) e ∙ ap (λ c. fold step c rest) (sym s)

pub update-step : (ps ps2 : List Path) (vs vs2 : List Node) (p : Path) (v : Node) (start b keyed after : Book) → start ≡ update_names (updates_of (map keys_of ps) (map term_of vs)) b
    → ps ≡ p ∷ ps2 → vs ≡ v ∷ vs2 → keyed ≡ fold key_step b (out-Path p).keys → after ≡ names (term_of v) keyed → start ≡ update_names (updates_of (map keys_of ps2) (map term_of vs2)) after
update-step ps ps2 vs vs2 p v start b keyed after h e f k a =
    h ∙ (λ i. update_names (updates_of (map keys_of (e i)) (map term_of (f i))) b)
    ∙ ap (λ c. update_names (updates_of (map keys_of ps2) (map term_of vs2)) (names (term_of v) c)) (keys-all p (out-Path p).keys b refl ∙ sym k)
    ∙ ap (update_names (updates_of (map keys_of ps2) (map term_of vs2))) (sym a)

no-values : (ks : List Keys) (b : Book) → update_names (updates_of ks []) b ≡ b
no-values [] b = refl
no-values (k ∷ ks) b = refl

no-keys : (ts : List Term) (b : Book) → update_names (updates_of [] ts) b ≡ b
no-keys ts b = refl

pub updates-end : (ps ps2 : List Path) (vs vs2 : List Node) (start b : Book) → start ≡ update_names (updates_of (map keys_of ps2) (map term_of vs2)) b → vs2 ≡ [] → start ≡ b
updates-end ps ps2 vs vs2 start b h e = h ∙ ap (λ l. update_names (updates_of (map keys_of ps2) (map term_of l)) b) e ∙ no-values (map keys_of ps2) b

pub updates-over : (ps2 : List Path) (vs2 : List Node) (start b : Book) → start ≡ update_names (updates_of (map keys_of ps2) (map term_of vs2)) b → ps2 ≡ [] → start ≡ b
updates-over ps2 vs2 start b h e = h ∙ ap (λ l. update_names (updates_of (map keys_of l) (map term_of vs2)) b) e ∙ no-keys (map term_of vs2) b

-- the function of an EXCEPT before its updates
pub except-start : (ks : List Keys) (ns vs : List Node) (f : Node) (b c after : Book) → ns ≡ f ∷ vs → c ≡ names (term_of f) b → update_names (updates_of ks (map term_of vs)) c ≡ after → after ≡ except_names ks (map term_of ns) b
except-start ks ns vs f b c after e h u = sym u ∙ ap (update_names (updates_of ks (map term_of vs))) h ∙ sym (ap (λ l. except_names ks (map term_of l) b) e)

pub except-none : (ks : List Keys) (ns : List Node) (b : Book) → length ns ≡ 0 → b ≡ except_names ks (map term_of ns) b
except-none ks [] b e = refl
except-none ks (n ∷ ns) b e = absurd (omega arith)

pub field-step : (ns rest : List Node) (x y : Node) (seen more : List Text) (start b c after : Book) → start ≡ field_names seen (terms_of (map term_of ns)) b → ns ≡ x ∷ y ∷ rest
    → more ≡ with_head seen (term_of x) → c ≡ head_names seen (term_of x) b → after ≡ names (term_of y) c → start ≡ field_names more (terms_of (map term_of rest)) after
field-step ns rest x y seen more start b c after h e w f a =
    h ∙ ap (λ l. field_names seen (terms_of (map term_of l)) b) e
    ∙ (λ i. field_names (sym w i) (terms_of (map term_of rest)) ((ap (names (term_of y)) (sym f) ∙ sym a) i))
