-- What a name has among parameters and definitions.
use Rattle.std.proofs.Common.{◌≡◌, ℕ, suc, ◌≤◌, Bool, true, false, nat_eq, if◌then◌else◌, List, [], ◌∷◌, ◌++◌, take, length, get_or, Option, Some, None, refl, sym, ap, ◌∙◌, arith, length-append}
use Rattle.std.proofs.lemmas.List.{take-append-le, take_all}
use Rattle.tla_ast.specs.declared.place.Place.{Place}
use Rattle.tla_ast.specs.declared.tree.Decl.{Decl}
use Rattle.plain_syntax.specs.Plain.{Defs}
use Rattle.plain_syntax.specs.Plain.Defs.{end_defs, def}
use Rattle.symbol_table.specs.Symbols.{symbol_at}
use Rattle.expression_level.specs.Weights.{Known, parameter}
use Rattle.expression_level.specs.Weights.Known.{arguments}
use Rattle.std.specs.Option.{is_some, IfSome}
use Rattle.std.proofs.Math.Dec.{ltb}
use Rattle.std.proofs.lemmas.Bool.Decides.{nat_tests}
use Rattle.std.specs.Borrow.{Bor}
use Rattle.expression_level.specs.Store.{found}
use Rattle.std.proofs.Math.Seq.{take-suc}
use Rattle.std.proofs.lemmas.Grind.{common_steps}
use Rattle.expression_level.specs.declared.names.Local.{Local}
use Rattle.expression_level.specs.Scope.{Env, Names, newest, or_else, at_number, known, with_local, with_parameters, with_definitions, means_in, flags_in, at_place, left, with_more, with_all}

local-last : (xs : List Local) (x : Local) (n : ℕ) → newest (xs ++ x ∷ []) n ≡ (if nat_eq x.number n then Some x.known else newest xs n)
local-last [] x n = refl
local-last (y ∷ ys) x n = grind (arith, local-last ys x n)

pub at-bound : (env : Env) (m : ℕ) (k : Known) (n : ℕ) → at_number (with_local (Some m) k env) n ≡ (if nat_eq m n then k else at_number env n)
at-bound env m k n = ap (λ o. or_else o (get_or env.declared n arguments)) (local-last env.locals (record { number = m; known = k }) n) ∙ by-test (nat_eq m n)
  where
    by-test : (t : Bool) → or_else (if t then Some k else newest env.locals n) (get_or env.declared n arguments) ≡ (if t then k else at_number env n)
    by-test true = refl
    by-test false = refl

pub local-next : (xs ys : List Local) (m i n : ℕ) (x : Local) → ys ≡ xs → x ≡ get_or ys i x → m ≡ suc i → m ≤ length xs
    → newest (take m xs) n ≡ (if nat_eq x.number n then Some x.known else newest (take i xs) n)
local-next xs ys m i n x e a q h = let s = take-suc xs i x (omega (arith, q, h)) in let l = local-last (take i xs) (get_or xs i x) n in grind (arith, s, l)

pub at-local : (s : Names) (o : Option ℕ) (p : Place) (n : ℕ) (k : Known) → Some n ≡ o → o ≡ symbol_at s.symbols p → Some k ≡ newest s.env.locals n → k ≡ at_place s p
at-local s o p n k a b e = sym (ap (known s.env) (sym (a ∙ b)) ∙ ap (λ x. or_else x (get_or s.env.declared n arguments)) (sym e))

pub at-declared : (s : Names) (o : Option ℕ) (p : Place) (n : ℕ) → Some n ≡ o → o ≡ symbol_at s.symbols p → None ≡ newest s.env.locals n → get_or s.env.declared n arguments ≡ at_place s p
at-declared s o p n a b e = sym (ap (known s.env) (sym (a ∙ b)) ∙ ap (λ x. or_else x (get_or s.env.declared n arguments)) (sym e))

pub get-found : (o : Option (Bor Known)) (xs : List Known) (n : ℕ) → is_some o ≡ ltb n (length xs) → IfSome o (λ x. x.now ≡ get_or xs n x.now) → found o ≡ get_or xs n arguments
get-found None xs n e h = grind (arith, nat_tests, common_steps)
get-found (Some k) xs n e h = grind (arith, nat_tests, common_steps)

-- ---- the locals round a place stay as they are

abbrev Begins : Env → Env → Type 0
Begins s t = (length s.locals ≤ length t.locals) × (record t { locals = take (length s.locals) t.locals } ≡ s)

begins-itself : (s : Env) → Begins s s
begins-itself s = (omega arith, λ i. record s { locals = take_all (length s.locals) s.locals (omega arith) i })

begins-local : (s t : Env) (o : Option ℕ) (k : Known) → Begins s t → Begins s (with_local o k t)
begins-local s t None k b = b
begins-local s t (Some n) k b = (
  (let e = length-append t.locals (record { number = n; known = k } ∷ []) in let h = b.0 in omega (arith, e, h)),
  (λ i. record t { locals = take-append-le (length s.locals) t.locals (record { number = n; known = k } ∷ []) b.0 i }) ∙ b.1,
)

begins-parameters : (m : Place → Option ℕ) (d : ℕ) (ps : List Decl) (s t : Env) → Begins s t → Begins s (with_parameters m d t ps)
begins-parameters m d [] s t b = b
begins-parameters m d (p ∷ ps) s t b = begins-parameters m (suc d) ps s (with_local (m p.place) (parameter d) t) (begins-local s t (m p.place) (parameter d) b)

begins-definitions : (m : Place → Option ℕ) (fs : Option ℕ → List Bool) (d : ℕ) (k : Known) (ds : Defs) (s t : Env) → Begins s t → Begins s (with_definitions m fs d t k ds)
begins-definitions m fs d k end_defs s t b = b
begins-definitions m fs d k (def n ps e p ds) s t b = begins-definitions m fs d k ds s _ (begins-local s t (m p) _ b)

pub parameters-left : (d : ℕ) (ps : List Decl) (s : Names) → left (length s.env.locals) (with_more d ps s) ≡ s
parameters-left d ps s i = record s { env = (begins-parameters (means_in s) d ps s.env s.env (begins-itself s.env)).1 i }

pub definitions-left : (d : ℕ) (k : Known) (ds : Defs) (s : Names) → left (length s.env.locals) (with_all d k ds s) ≡ s
definitions-left d k ds s i = record s { env = (begins-definitions (means_in s) (flags_in s) d k ds s.env s.env (begins-itself s.env)).1 i }
