use Rattle.std.proofs.Common.{◌≡◌, ℕ, drop, length, ◌-◌, None}
use Rattle.term_bank.specs.Banks.{IsDistinct, Extends}
use Rattle.term_bank.specs.Images.{found}
use Rattle.term_walks.specs.Walks.{given, AreWithin, AreMoved}
use Rattle.term_walks.proofs.putting_in.keep_images.Given as goal

abbrev pub invariant-loop-k : goal.invariant-loop-k
invariant-loop-k l =
    record {
      moved : AreMoved l.initial.bank l.bank (given l.initial.bank l.initial.images.entries) l.images.entries (drop (length l.done - l.k) l.done);
      within : AreWithin (length l.bank) l.images.entries;
      extends : Extends l.initial.bank l.bank;
      distinct : IsDistinct l.bank;
      still : (q : ℕ) → found q l.images.entries ≡ None → found q l.initial.images.entries ≡ None;
    }
