-- Texts behind one another.
use Rattle.std.proofs.Common.{◌≡◌, ◌++◌, ap, ◌∙◌, append_assoc}
use Rattle.std.specs.Prelude.{Result, Ok, Err, OnOk}
use Rattle.status_report.specs.Texts.{Bytes}

pub on_ok_along : {A E : Type 0} (r : Result A E) (P Q : Type 0) → (P → Q) → OnOk r P → OnOk r Q
on_ok_along (Ok x) P Q f h = f h
on_ok_along (Err x) P Q f h = h

-- two texts behind a first
pub two_pieces : (out a b one new : Bytes) → one ≡ out ++ a → new ≡ one ++ b → new ≡ out ++ (a ++ b)
two_pieces out a b one new p q = q ∙ ap (λ x. x ++ b) p ∙ append_assoc out a b
