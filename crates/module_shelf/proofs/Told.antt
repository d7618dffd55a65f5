-- What calls that load from a shelf answer.
use Rattle.std.proofs.Common.{◌≡◌, ◌≢◌, ℕ, ◌<◌, true, if◌then◌else◌, Option, None, Some, Ok, Err, Vec, option_map, IfErr, IsErrAnd, take, refl, ap, sym, subst, ◌∙◌}
use Rattle.std.specs.declared.alloc.Global.{Global}
use Rattle.tla_ast.specs.Word.{is_identifier}
use Rattle.tla_ast.specs.declared.unit.Module.{Module}
use Rattle.tla_io.specs.Told.{Bytes, Folder, Fetches}
use Rattle.module_shelf.specs.Loading.{Text, Outcome, followed, find, module_at, read_as}
use Rattle.module_shelf.specs.Causes.{WhereTold, Stops, Ends, LoadCause, Seen, Loads}
use Rattle.module_shelf.specs.declared.fault.LoadFault.{LoadFault}
use Rattle.module_shelf.specs.declared.fault.LoadFault.TheVariants as load
use Rattle.module_shelf.proofs.Names.{front-module}

-- where the first part stops, the whole stops so
pub stops-then : {A B : Type 0} (e : LoadFault) (o : Outcome A) (next : A → Outcome B) → Stops e o → Stops e (followed o next)
stops-then (load.NotFound name) o next h = ap (λ r. followed r next) h
stops-then (load.Refused name place kind) o next h = ap (λ r. followed r next) h
stops-then load.ReadFault o next h = tt
stops-then load.Memory o next h = tt

pub stops-as : {A : Type 0} (e : LoadFault) {o p : Outcome A} → p ≡ o → Stops e o → Stops e p
stops-as {A = A} e q h = subst (λ (r : Outcome A). Stops e r) (sym q) h

-- ---- calls one after another

-- the shelf stays, where the answer is no read fault
pub never-rose : {T : Type 0} (r : Outcome T) (before now : ℕ) → IfErr r (λ e. e ≢ load.ReadFault) → now ≡ before → LoadCause r before now
never-rose (Ok x) before now h e = e
never-rose (Err load.ReadFault) before now h e = absurd (h refl)
never-rose (Err _) before now h e = e

-- an answer that passes a fault on, at which the whole stops too
pub passed-on : {T U A B : Type 0} {x : LoadFault} {r : Outcome U} {view : T → A} {view2 : U → B} {first : Folder → Outcome A} {whole : Folder → Outcome B} {s t : Seen}
    → IsErrAnd r (λ y. y ≡ x) → Loads {T = T} (Err x) view first s t → ((f : Folder) → s.0 ≡ Some f → Stops x (first f) → Stops x (whole f)) → Loads r view2 whole s t
passed-on {r = Ok y} is h go = absurd is
passed-on {U = U} {r = Err y} {view2 = view2} {whole = whole} {s = s} {t = t} is h go =
    subst (λ e. Loads {T = U} (Err e) view2 whole s t) (sym is) (record { told = λ f q. go f q (h.told f q); cause = h.cause; kept = h.kept })

-- an answer after a value
pub after : {T U A B : Type 0} {a : T} {r : Outcome U} {view : T → A} {view2 : U → B} {first : Folder → Outcome A} {rest whole : Folder → Outcome B} {s t u : Seen}
    → Loads (Ok a) view first s t → Loads r view2 rest t u → ((f : Folder) → s.0 ≡ Some f → first f ≡ Ok (view a) → whole f ≡ rest f) → Loads r view2 whole s u
after {r = r} {view2 = view2} {u = u} h k go = record {
  told = λ f q. subst (Ends view2 r) (sym (go f q (h.told f q))) (k.told f (h.kept ∙ q));
  cause = subst (λ n. LoadCause r n u.1) h.cause k.cause;
  kept = k.kept ∙ h.kept;
}

-- a value leaves what is seen of the shelf
pub same-seen : {T A : Type 0} {a : T} {view : T → A} {first : Folder → Outcome A} {s t : Seen} → Loads (Ok a) view first s t → t ≡ s
same-seen h = λ i. (h.kept i, h.cause i)

-- want of memory
pub lacking : {U B : Type 0} {r : Outcome U} {view : U → B} {whole : Folder → Outcome B} {s t : Seen} → IsErrAnd r (λ y. y ≡ load.Memory) → t ≡ s → Loads r view whole s t
lacking {s = s} {t = t} is e =
    let h : Loads {T = Unit {0}} {A = Unit {0}} (Err load.Memory) (λ u. u) (λ f. Ok tt) s t = record { told = λ f q. tt; cause = ap (λ x. x.1) e; kept = ap (λ x. x.0) e } in passed-on is h (λ f q k. tt)

-- where the folder is told
pub told-of : {T A : Type 0} {r : Outcome T} {view : T → A} {defined : Folder → Outcome A} {s t : Seen} → Loads r view defined s t → WhereTold s.0 (λ f. Ends view r (defined f))
told-of {s = (None, count)} h = tt
told-of {s = (Some folder, count)} h = h.told folder refl

-- ---- a fetch

same-module : (most : ℕ) (name : Text) (found o : Option Bytes) → 1048576 < most → found ≡ option_map (take most) o → module_at name found ≡ module_at name o
same-module most name found None l h = ap (module_at name) h
same-module most name found (Some text) l h = ap (module_at name) h ∙ ap (read_as name) (front-module most name text l)

-- where no text is given, what is read of the fetched one is the module that the folder has
pub fetched : (r : Outcome Module) (given : Option Bytes) (told : Option Folder) (most : ℕ) (name : Text) (v : Option (Vec ℕ Global)) → given ≡ None → 1048576 < most → is_identifier name ≡ true
    → Fetches told name most (Ok v) → Ends (λ m. m) r (module_at name (option_map (λ x. x.items) v)) → (f : Folder) → told ≡ Some f → Ends (λ m. m) r (find given f name)
fetched r given told most name v is l i h k f q =
    subst (λ g. Ends (λ m. m) r (find g f name)) (sym is) (subst (λ b. Ends (λ m. m) r (module_at name (if b then f name else None))) (sym i)
    (subst (Ends (λ m. m) r) (same-module most name _ (f name) l (subst (λ w. Fetches w name most (Ok v)) q h)) k))
