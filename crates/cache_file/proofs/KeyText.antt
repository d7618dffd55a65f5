-- A key is text.
use Rattle.std.proofs.Common.{ℕ, List, nat_lt, refl, ltb-true}
use Rattle.std.specs.Prelude.{Result, Ok, Err, MatchResult, IsOk}
use Rattle.std.specs.Str.{IsAscii, IsUtf8}
use Rattle.std.proofs.lemmas.Str.{IsUtf8-from_ascii}
use Rattle.std.proofs.lemmas.List.Sums.{AllPass-from_list_all}
use Rattle.std.proofs.lemmas.Str.Ascii.{IsAscii-from_all}
use Rattle.hex.specs.Hex.{lower_digits}
use Rattle.hex.proofs.HexLemmas.{IsAscii-encode_with}
use Rattle.proof_text.specs.Key.{key_of}

digits : IsAscii lower_digits
digits = IsAscii-from_all lower_digits (λ k d h. ltb-true _ _ (AllPass-from_list_all (λ b. nat_lt b 128) lower_digits refl k d h))

pub key_text : (ns : List ℕ) → IsUtf8 (key_of ns)
key_text ns = IsUtf8-from_ascii _ (IsAscii-encode_with lower_digits _ digits)

-- bytes that are text are read as one
pub text_read : {S E : Type 0} (U : Type 0) (P : S → Type 0) (Q : E → Type 0) (r : Result S E) → MatchResult r P (λ e. ¬ U × Q e) → U → IsOk r
text_read U P Q (Ok s) h u = refl
text_read U P Q (Err e) h u = absurd (h.0 u)
