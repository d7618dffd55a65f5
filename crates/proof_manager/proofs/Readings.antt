-- What the modules say, and how their reading ends.
use Rattle.std.specs.Prelude.{◌≡◌, ℕ, zero, suc, List, [], ◌∷◌, map, take, Option, None, Some, Result, Ok, Err, IsErrAnd}
use Rattle.std.proofs.Common.{refl, ap, sym, subst, ◌∙◌}
use Rattle.tla_io.specs.Told.{Bytes, Folder}
use Rattle.tla_ast.specs.declared.unit.Loaded.{Loaded}
use Rattle.tla_ast.specs.declared.fault.ScopeFault.{ScopeFault}
use Rattle.tla_ast.specs.declared.fault.ScopeFault.TheVariants as fault
use Rattle.plain_syntax.specs.Plain.{Module}
use Rattle.plain_syntax.specs.Syntax.{module_of}
use Rattle.symbol_table.specs.Scoped.{Table}
use Rattle.module_scope.specs.Resolution.{resolution}
use Rattle.module_shelf.specs.declared.fault.LoadFault.{LoadFault}
use Rattle.module_shelf.specs.declared.fault.LoadFault.TheVariants as load
use Rattle.module_shelf.specs.Loading.{followed, loading}
use Rattle.module_shelf.specs.Causes as shelf
use Rattle.proof_manager.specs.declared.load.Checked.{Checked}
use Rattle.proof_manager.specs.Reading.{Answer, and_then, modules_fault, resolved, checked, read_of, load_fault, as_outcome, reading}
use Rattle.proof_manager.specs.Causes.{Answers, Reads, read_in}

-- ---- names

pub map-take : {A B : Type 0} (f : A → B) (n : ℕ) (xs : List A) → map f (take n xs) ≡ take n (map f xs)
map-take f zero xs = refl
map-take f (suc n) [] = refl
map-take f (suc n) (x ∷ xs) = ap (λ l. f x ∷ l) (map-take f n xs)

pub answers-fault : {T A : Type 0} (view : T → A) (e : ScopeFault) (defined : Answer A) → defined ≡ Err e → Answers view (Err e) defined
answers-fault view fault.Memory defined h = tt
answers-fault view (fault.At owner place kind) defined h = h

-- the names of the modules before the first fault of step names have a fault
pub names-stop : {U A B : Type 0} (view : U → B) (r : Answer U) (e : ScopeFault) (one : Answer A) (next : A → Answer B) → IsErrAnd r (λ x. x ≡ e) → ((e ≡ fault.Memory → ⊥) → one ≡ Err e) → Answers view r (and_then one next)
names-stop view (Ok u) e one next is h = absurd is
names-stop {U = U} view (Err x) e one next is h = subst (λ y. Answers {T = U} view (Err y) (and_then one next)) (sym is) (same e h)
  where
    same : (y : ScopeFault) → ((y ≡ fault.Memory → ⊥) → one ≡ Err y) → Answers {T = U} view (Err y) (and_then one next)
    same fault.Memory h = tt
    same (fault.At owner place kind) h = ap (λ r. and_then r next) (h (λ q. cc))

-- the first fault of step names stands behind what is said of the modules before it
pub first-fault : (ms front : List Module) (n : ℕ) (e : ScopeFault) → modules_fault ms ≡ Some (n, e) → front ≡ take n ms → checked ms ≡ and_then (resolution front) (λ t. Err e)
first-fault ms front n e h f = ap (λ o. resolved o ms) h ∙ ap (λ ns. and_then (resolution ns) (λ t. Err e)) (sym f)

-- ---- what is read

-- the names have a fault, and so has what is read
pub reading-stops : (ms : List Module) (r : Answer Checked) (e : ScopeFault) → IsErrAnd r (λ x. x ≡ e) → Answers {T = Table} (λ s. s) (Err e) (checked ms) → Answers read_in r (read_of ms)
unfolding read_of
reading-stops ms (Ok c) e is h = absurd is
reading-stops ms (Err x) e is h = subst (λ y. Answers {T = Checked} read_in (Err y) (read_of ms)) (sym is) (same e h)
  where
    same : (y : ScopeFault) → Answers {T = Table} (λ s. s) (Err y) (checked ms) → Answers {T = Checked} read_in (Err y) (read_of ms)
    same fault.Memory h = tt
    same (fault.At owner place kind) h = ap (λ r. and_then r (λ t. Ok (record { modules = ms; table = t }))) h

pub reading-ends : (ms : List Module) (t : Table) (c : Checked) → checked ms ≡ Ok t → map module_of c.loaded.modules ≡ ms → c.scoped ≡ t → read_of ms ≡ Ok (read_in c)
unfolding read_of
reading-ends ms t c h m s = ap (λ r. and_then r (λ t. Ok (record { modules = ms; table = t }))) h ∙ (λ i. Ok (record { modules = sym m i; table = sym s i }))

-- the loading stops
pub loading-stops : (held : Option Folder) (given : Option Bytes) (root : Bytes) (r : Result Checked LoadFault) (e : LoadFault) → IsErrAnd r (λ x. x ≡ e)
    → shelf.WhereTold held (λ folder. shelf.Ends {T = Loaded} (λ loaded. loaded.modules) (Err e) (loading given folder root)) → Reads r held given root
unfolding reading
loading-stops held given root (Ok o) e is h = absurd is
loading-stops held given root (Err x) e is h = subst (λ y. Reads (Err y) held given root) (sym is) (same held e h)
  where
    same : (held : Option Folder) (y : LoadFault) → shelf.WhereTold held (λ folder. shelf.Ends {T = Loaded} (λ loaded. loaded.modules) (Err y) (loading given folder root)) → Reads (Err y) held given root
    same None (load.NotFound name) h = tt
    same None (load.Refused owner place kind) h = tt
    same (Some folder) (load.NotFound name) h = ap (λ r. followed r (λ ms. as_outcome (read_of (map module_of ms)))) h
    same (Some folder) (load.Refused owner place kind) h = ap (λ r. followed r (λ ms. as_outcome (read_of (map module_of ms)))) h
    same held load.ReadFault h = tt
    same held load.Memory h = tt

-- the modules are loaded, and what they say is read
pub loading-read : (held : Option Folder) (given : Option Bytes) (root : Bytes) (l : Loaded) (c : Checked) → shelf.WhereTold held (λ folder. shelf.Ends {T = Loaded} (λ loaded. loaded.modules) (Ok l) (loading given folder root))
    → Answers read_in (Ok c) (read_of (map module_of l.modules)) → Reads (Ok c) held given root
unfolding reading
loading-read None given root l c h e = tt
loading-read (Some folder) given root l c h e = ap (λ r. followed r (λ ms. as_outcome (read_of (map module_of ms)))) h ∙ ap as_outcome e

-- the modules are loaded, and what they say has a fault
pub loading-refused : (held : Option Folder) (given : Option Bytes) (root : Bytes) (l : Loaded) (e : ScopeFault) (x : LoadFault) → shelf.WhereTold held (λ folder. shelf.Ends {T = Loaded} (λ loaded. loaded.modules) (Ok l) (loading given folder root))
    → Answers {T = Checked} read_in (Err e) (read_of (map module_of l.modules)) → x ≡ load_fault e → Reads (Err x) held given root
unfolding reading
loading-refused held given root l e x h a is = subst (λ y. Reads (Err y) held given root) (sym is) (same held e h a)
  where
    same : (held : Option Folder) (e : ScopeFault) → shelf.WhereTold held (λ folder. shelf.Ends {T = Loaded} (λ loaded. loaded.modules) (Ok l) (loading given folder root)) → Answers {T = Checked} read_in (Err e) (read_of (map module_of l.modules))
        → Reads (Err (load_fault e)) held given root
    same held fault.Memory h a = tt
    same None (fault.At owner place kind) h a = tt
    same (Some folder) (fault.At owner place kind) h a = ap (λ r. followed r (λ ms. as_outcome (read_of (map module_of ms)))) h ∙ ap as_outcome a
