-- Which expressions are a name alone, and which a membership: those that facts and WITNESS treat in their own way.
use Rattle.std.specs.Prelude.{◌≡◌, ℕ, List, Option, None}
use Rattle.std.proofs.Common.{refl}
use Rattle.tla_ast.specs.declared.place.Place.{Place}
use Rattle.plain_syntax.specs.Plain.{Text, Term}
use Rattle.plain_syntax.specs.Plain.Term.{term}
use Rattle.plain_syntax.specs.Plain.Terms.{none, part}
use Rattle.plain_syntax.specs.Plain.Shape.{name, call, number, text, prefixed, infixed, prime, index, field, enum, filter, image, tuple, function, functions, except, fields, field_sets, box, angle, junction, quantifier, choice, conditional, cases, local, at, fair}
use Rattle.symbol_table.specs.declared.entry.Entry.{Entry}
use Rattle.module_scope.specs.Names.{Book, named_fact}
use Rattle.proof_contexts.specs.Steps.{Step as act}
use Rattle.usable_facts.specs.Proofs.{core, witness}

-- neither
pub record IsOther (t : Term) : Type 0 where
  pub no_fact : (b : Book) → named_fact b t ≡ None
  pub no_member : (means cite : Place → Option ℕ) (entries : List Entry) (l : Option ℕ) → witness means cite entries l t ≡ act.Witness (core means entries t)

pub data Shaped : Term → Type 0 where
  a_name : (w : Text) (p : Place) → Shaped (term (name w) none p)
  an_infix : (o : Text) (a b : Term) (p : Place) → Shaped (term (infixed o) (part a (part b none)) p)
  other : (t : Term) → IsOther t → Shaped t

pub shaped : (t : Term) → Shaped t
shaped (term (name w) none p) = a_name w p
shaped (term (name w) (part t ts) p) = other (term (name w) (part t ts) p) (record { no_fact = λ b. refl; no_member = λ m c e l. refl })
shaped (term (infixed o) none p) = other (term (infixed o) none p) (record { no_fact = λ b. refl; no_member = λ m c e l. refl })
shaped (term (infixed o) (part a none) p) = other (term (infixed o) (part a none) p) (record { no_fact = λ b. refl; no_member = λ m c e l. refl })
shaped (term (infixed o) (part a (part b none)) p) = an_infix o a b p
shaped (term (infixed o) (part a (part b (part c ts))) p) = other (term (infixed o) (part a (part b (part c ts))) p) (record { no_fact = λ b. refl; no_member = λ m c e l. refl })
shaped (term (call w) ts p) = other (term (call w) ts p) (record { no_fact = λ b. refl; no_member = λ m c e l. refl })
shaped (term (number n) ts p) = other (term (number n) ts p) (record { no_fact = λ b. refl; no_member = λ m c e l. refl })
shaped (term (text s) ts p) = other (term (text s) ts p) (record { no_fact = λ b. refl; no_member = λ m c e l. refl })
shaped (term (prefixed o) ts p) = other (term (prefixed o) ts p) (record { no_fact = λ b. refl; no_member = λ m c e l. refl })
shaped (term prime ts p) = other (term prime ts p) (record { no_fact = λ b. refl; no_member = λ m c e l. refl })
shaped (term index ts p) = other (term index ts p) (record { no_fact = λ b. refl; no_member = λ m c e l. refl })
shaped (term (field h) ts p) = other (term (field h) ts p) (record { no_fact = λ b. refl; no_member = λ m c e l. refl })
shaped (term enum ts p) = other (term enum ts p) (record { no_fact = λ b. refl; no_member = λ m c e l. refl })
shaped (term (filter x) ts p) = other (term (filter x) ts p) (record { no_fact = λ b. refl; no_member = λ m c e l. refl })
shaped (term (image x) ts p) = other (term (image x) ts p) (record { no_fact = λ b. refl; no_member = λ m c e l. refl })
shaped (term tuple ts p) = other (term tuple ts p) (record { no_fact = λ b. refl; no_member = λ m c e l. refl })
shaped (term (function x) ts p) = other (term (function x) ts p) (record { no_fact = λ b. refl; no_member = λ m c e l. refl })
shaped (term functions ts p) = other (term functions ts p) (record { no_fact = λ b. refl; no_member = λ m c e l. refl })
shaped (term (except us) ts p) = other (term (except us) ts p) (record { no_fact = λ b. refl; no_member = λ m c e l. refl })
shaped (term (fields hs) ts p) = other (term (fields hs) ts p) (record { no_fact = λ b. refl; no_member = λ m c e l. refl })
shaped (term (field_sets hs) ts p) = other (term (field_sets hs) ts p) (record { no_fact = λ b. refl; no_member = λ m c e l. refl })
shaped (term box ts p) = other (term box ts p) (record { no_fact = λ b. refl; no_member = λ m c e l. refl })
shaped (term angle ts p) = other (term angle ts p) (record { no_fact = λ b. refl; no_member = λ m c e l. refl })
shaped (term (junction all) ts p) = other (term (junction all) ts p) (record { no_fact = λ b. refl; no_member = λ m c e l. refl })
shaped (term (quantifier all gs) ts p) = other (term (quantifier all gs) ts p) (record { no_fact = λ b. refl; no_member = λ m c e l. refl })
shaped (term (choice gs) ts p) = other (term (choice gs) ts p) (record { no_fact = λ b. refl; no_member = λ m c e l. refl })
shaped (term conditional ts p) = other (term conditional ts p) (record { no_fact = λ b. refl; no_member = λ m c e l. refl })
shaped (term (cases o) ts p) = other (term (cases o) ts p) (record { no_fact = λ b. refl; no_member = λ m c e l. refl })
shaped (term (local ds) ts p) = other (term (local ds) ts p) (record { no_fact = λ b. refl; no_member = λ m c e l. refl })
shaped (term at ts p) = other (term at ts p) (record { no_fact = λ b. refl; no_member = λ m c e l. refl })
shaped (term fair ts p) = other (term fair ts p) (record { no_fact = λ b. refl; no_member = λ m c e l. refl })
