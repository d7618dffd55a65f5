-- Reading lists of numbers from the left.
use Rattle.std.specs.Prelude.{◌≡◌, ℕ, zero, suc, ◌-◌, ◌≤◌, ◌<◌, Bool, true, false, List, [], ◌∷◌, ◌++◌, length, take, Option, Some, None, Result, Ok, Err}
use Rattle.proof_text.specs.declared.fault.TextFault.{TextFault}
use Rattle.proof_text.specs.declared.fault.TextFault.TheVariants.{BadText}
use Rattle.proof_text.specs.declared.fault.TextFault.TheVariants.{Memory as NoMemory}
use Rattle.proof_text.specs.declared.cursor.Fault.{Fault}
use Rattle.proof_text.specs.declared.cursor.Fault.TheVariants.{Bad, Memory}

-- what a reader answers: a value and the numbers behind it, or the numbers from the first one on that no value goes on with
pub data Answer (A : Type 0) : Type 0 where
  took : A → List ℕ → Answer A
  bad : List ℕ → Answer A

abbrev pub Reader : Type 0 → Type 0
Reader A = List ℕ → Answer A

-- what is read behind a value
abbrev pub after : {A B : Type 0} → Answer A → (A → Reader B) → Answer B
after (took a l) f = f a l
after (bad l) f = bad l

-- the same, with the value seen another way
abbrev pub seen : {A B : Type 0} → (A → B) → Answer A → Answer B
seen f (took a l) = took (f a) l
seen f (bad l) = bad l

-- the number in front is read where a test was passed
abbrev pub tested : Bool → ℕ → List ℕ → Answer ℕ
tested true x l = took x l
tested false x l = bad (x ∷ l)

-- a number that passes a test
abbrev pub number : (ℕ → Bool) → Reader ℕ
number p [] = bad []
number p (x ∷ l) = tested (p x) x l

-- a value and then one that may depend on it, made into one
abbrev pub pair : {A B C : Type 0} → (A → B → C) → Reader A → (A → Reader B) → Reader C
pair mk r s l = after (r l) (λ a m. seen (mk a) (s a m))

-- so many items, each by a reader for the state that the items before it lead to
abbrev pub many : {S A : Type 0} → (S → Reader A) → (S → A → S) → ℕ → S → Reader (List A)
many r next zero s = λ l. took [] l
many r next (suc c) s = pair (λ a rest. a ∷ rest) (r s) (λ a. many r next c (next s a))

-- each item is one of the state that the items before it lead to
abbrev pub AllFrom : {S A : Type 0} → (S → A → Type 0) → (S → A → S) → S → List A → Type 0
AllFrom V next s [] = Unit {0}
AllFrom V next s (a ∷ rest) = V s a × AllFrom V next (next s a) rest

-- so many items, each one of the state that the items before it lead to
pub record AreFrom (S A : Type 0) (V : S → A → Type 0) (next : S → A → S) (c : ℕ) (s : S) (items : List A) : Type 0 where
  pub count : length items ≡ c
  pub all : AllFrom V next s items

-- the numbers but the first
abbrev pub rest_of : List ℕ → List ℕ
rest_of [] = []
rest_of (x ∷ l) = l

-- how many numbers are left at a fault
abbrev pub fault_at : {A : Type 0} → Answer A → Option ℕ
fault_at (took a l) = None
fault_at (bad l) = Some (length l)

-- the fault is this one, unless memory was not found
abbrev pub FaultIs : Fault → Option ℕ → Type 0
FaultIs (Bad n) o = o ≡ Some n
FaultIs Memory o = Unit {0}

-- the value, seen like this, with what is left behind it, or the fault, is what the reader answers, unless memory was not
-- found
abbrev pub ReadsAs : {R A : Type 0} → Result R Fault → (R → A) → Answer A → List ℕ → Type 0
ReadsAs (Ok r) view x m = x ≡ took (view r) m
ReadsAs (Err e) view x m = FaultIs e (fault_at x)

-- the same, for a value that is seen as itself
abbrev pub Reads : {A : Type 0} → Result A Fault → Answer A → List ℕ → Type 0
Reads r x m = ReadsAs r (λ a. a) x m

-- i is the first place such that no list of this kind goes on with the numbers up to and with it; the length where the list
-- only ends early
pub record IsFirstBad (P : List ℕ → Type 0) (l : List ℕ) (i : ℕ) : Type 0 where
  pub none : ¬ P l
  pub within : i ≤ length l
  pub before : (rest : List ℕ) × P (take i l ++ rest)
  pub at : i < length l → (rest : List ℕ) → ¬ P (take (suc i) l ++ rest)

-- the fault of a list of so many numbers
abbrev pub text_fault : ℕ → Fault → TextFault
text_fault n (Bad left) = BadText (n - left)
text_fault n Memory = NoMemory

-- a list that is not read is none of this kind, and the place is the first bad one
abbrev pub IsBadText : (List ℕ → Type 0) → List ℕ → TextFault → Type 0
IsBadText P l (BadText i) = IsFirstBad P l i
IsBadText P l NoMemory = Unit {0}
