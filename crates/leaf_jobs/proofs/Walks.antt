-- A walk over a list that may stop early: what is found so far, and behind it what is still to come.
use Rattle.std.specs.Prelude.{Bool, List, ◌++◌}

abbrev pub behind : {S Y : Type 0} → List Y → (List Y × Bool) × S → (List Y × Bool) × S
behind found r = ((found ++ r.0.0, r.0.1), r.1)
