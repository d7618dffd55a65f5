-- One more of what was read is kept or skipped.
use Rattle.std.proofs.Common.{◌≡◌, ℕ, ◌+◌, ◌<◌, ◌≤◌, List, [], ◌∷◌, ◌++◌, map, length, min, refl, ap, sym, ◌∙◌, subst, arith, append-nil}
use Rattle.std.specs.Prelude.{Option, Some, None, Result, Ok, Err, IfOk, MatchResult, Vec}
use Rattle.std.specs.declared.alloc.Global.{Global}
use Rattle.std.specs.List.{AllZip}
use Rattle.core_expr.specs.declared.memory.Memory.{Memory}
use Rattle.proof_cache.specs.Records.{Kept, Keeps}
use Rattle.proof_cache.specs.declared.record.Record.{Record}
use Rattle.cache_file.specs.Records.{Holds, IsAnswered, IsRead, records_in, skipped_in}

records-append : (os ps : List (Option Record)) → records_in (os ++ ps) ≡ records_in os ++ records_in ps
records-append [] ps = refl
records-append (Some r ∷ os) ps = ap (λ rs. r ∷ rs) (records-append os ps)
records-append (None ∷ os) ps = records-append os ps

skipped-append : (os ps : List (Option Record)) → skipped_in (os ++ ps) ≡ skipped_in os + skipped_in ps
skipped-append [] ps = omega arith
skipped-append (Some r ∷ os) ps = skipped-append os ps
skipped-append (None ∷ os) ps = omega (arith, skipped-append os ps)

skipped-most : (os : List (Option Record)) → skipped_in os ≤ length os
skipped-most [] = omega arith
skipped-most (Some r ∷ os) = omega (arith, skipped-most os)
skipped-most (None ∷ os) = omega (arith, skipped-most os)

pub one_kept : (old new : Kept) (os : List (Option Record)) (r : Record) → Holds old os → ((rs : List Record) → Keeps old rs → Keeps new (rs ++ r ∷ [])) → new.skipped ≡ old.skipped
    → Holds new (os ++ Some r ∷ [])
one_kept old new os r h keeps skipped = record {
  keeps = subst (Keeps new) (sym (records-append os (Some r ∷ []))) (keeps (records_in os) h.keeps);
  skipped = omega (arith, skipped, h.skipped, skipped-append os (Some r ∷ []));
}

pub one_skipped : (old new : Kept) (os : List (Option Record)) → Holds old os → ((rs : List Record) → Keeps old rs → Keeps new rs) → new.skipped ≡ min (old.skipped + 1) 18446744073709551615
    → length os < 18446744073709551615 → Holds new (os ++ None ∷ [])
one_skipped old new os h keeps skipped few = record {
  keeps = subst (Keeps new) (sym (records-append os (None ∷ []) ∙ append-nil (records_in os))) (keeps (records_in os) h.keeps);
  skipped = omega (arith, skipped, h.skipped, skipped-most os, few, skipped-append os (None ∷ []));
}

all_read : (ls : List (List ℕ)) (os : List (Option Record)) → AllZip IsAnswered ls (map Ok os) → AllZip IsRead ls os
all_read [] [] h = tt
all_read [] (o ∷ os) h = absurd h
all_read (l ∷ ls) [] h = absurd h
all_read (l ∷ ls) (o ∷ os) h = (h.0, all_read ls os h.1)

-- where no line wants memory, all are read
pub lines_read : (ls : List (List ℕ)) (xs : List (Result (Option Record) Memory)) (E : Memory → Type 0) (r : Result (Vec (Option Record) Global) Memory) → AllZip IsAnswered ls xs
    → MatchResult r (λ v. (os : List (Option Record)) × (xs ≡ map Ok os) × (v.items ≡ os)) E → IfOk r (λ v. AllZip IsRead ls v.items)
lines_read ls xs E (Err e) h m = tt
lines_read ls xs E (Ok v) h m = subst (AllZip IsRead ls) (sym m.2) (all_read ls m.0 (subst (AllZip IsAnswered ls) m.1 h))
