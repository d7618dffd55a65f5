-- What a function answers that may lack memory: the value or the fault that is defined, or want of memory.
use Rattle.std.specs.Prelude.{◌≡◌, ◌≢◌, Result, Ok, Err}
use Rattle.tla_ast.specs.declared.fault.Fault.{Fault}
use Rattle.tla_ast.specs.declared.fault.Fault.TheVariants as fault

-- the fault is this one, unless memory was not found
abbrev pub Told : Fault → Fault → Type 0
Told told e = e ≢ fault.Memory → e ≡ told

-- the answer, seen as this value, is the one that is defined, unless memory was not found
abbrev pub AnswersAs : {R A : Type 0} → (R → A) → Result R Fault → Result A Fault → Type 0
AnswersAs value (Ok r) defined = defined ≡ Ok (value r)
AnswersAs value (Err e) defined = e ≢ fault.Memory → defined ≡ Err e

-- the answer is the one that is defined, unless memory was not found
abbrev pub Answers : {A : Type 0} → Result A Fault → Result A Fault → Type 0
Answers = AnswersAs (λ a. a)

-- the answer, with what is then left of the input, is the one that is defined, unless memory was not found
abbrev pub Reads : {A B : Type 0} → Result (A × B) Fault → Result A Fault → B → Type 0
Reads defined r left = AnswersAs (λ a. (a, left)) r defined

-- what follows from a value, or the fault
abbrev pub and_then : {A B : Type 0} → Result A Fault → (A → Result B Fault) → Result B Fault
and_then (Ok a) next = next a
and_then (Err e) next = Err e
