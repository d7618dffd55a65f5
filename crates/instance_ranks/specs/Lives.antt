-- Live universals by numbers.
use Rattle.std.specs.Prelude.{◌≡◌, ℕ, ◌<◌, true, false, nat_le, Option, Some, None, List, [], ◌∷◌, length, map}
use Rattle.std.proofs.Common.{get_or}
use Rattle.core_expr.specs.Tree.{Tree}
use Rattle.core_expr.specs.Put.{IsScoped}
use Rattle.term_bank.specs.Banks.{tree_at}
use Rattle.search_definition.specs.declared.rule.Rule.{Rule}
use Rattle.search_definition.specs.Terms.{if_so}
use Rattle.search_definition.specs.Rules.{Result}
use Rattle.search_definition.specs.Instances.{Universal, universal, Place, insert, instance_step}
use Rattle.branch_state.specs.Shown.{Placed, placed_at}
use Rattle.formula_rules.specs.Answers.{universal_of}
use Rattle.instance_ranks.specs.declared.live.LiveUniversal.{LiveUniversal}
use Rattle.instance_ranks.specs.declared.ranks.Instance.{Instance}
use Rattle.instance_ranks.specs.Seeking.{IsBody}

-- the place that the numbers stand for
abbrev pub place_of : List Tree → LiveUniversal → Place
place_of ts x = record { entry = x.entry; count = x.count; formula = tree_at ts x.formula; universal = universal_of ts x.universal }

abbrev pub places_of : List Tree → List LiveUniversal → List Place
places_of ts xs = map (place_of ts) xs

-- the numbers are those of a live entry, and its universal is in the bank
pub record IsLive (ts : List Tree) (es : List Placed) (x : LiveUniversal) : Type 0 where
  pub within : x.entry < length es
  pub lives : (placed_at es x.entry).live ≡ true
  pub formula : x.formula < length ts
  pub body : IsBody ts x.universal

abbrev pub AreLive : List Tree → List Placed → List LiveUniversal → Type 0
AreLive ts es [] = Unit {0}
AreLive ts es (x ∷ xs) = IsLive ts es x × AreLive ts es xs

-- the place of the entry with the index i, where its formula is a universal
abbrev pub place_with : ℕ → ℕ → Tree → Option Universal → Option Place
place_with i n f None = None
place_with i n f (Some u) = Some (record { entry = i; count = n; formula = f; universal = u })

-- the place of the i-th entry, where it is live and a universal
abbrev pub entry_place : List Tree → List Placed → ℕ → Option Place
entry_place ts es i =
    let e = placed_at es i in
    if_so e.live (place_with i e.count (tree_at ts e.formula) (universal (tree_at ts e.formula))) None

-- a live universal exactly where there is a place, and it is that one
abbrev pub HasPlace : List Tree → Option LiveUniversal → Option Place → Type 0
HasPlace ts None o = o ≡ None
HasPlace ts (Some x) o = o ≡ Some (place_of ts x)

-- what stands past the last universal
abbrev pub no_universal : LiveUniversal
no_universal = record { entry = 0; count = 0; formula = 0; universal = record { holds = false; body = 0 } }

-- the k-th universal
abbrev pub live_at : List LiveUniversal → ℕ → LiveUniversal
live_at xs k = get_or xs k no_universal

-- x put in before the first with at least its count
abbrev pub put_in : LiveUniversal → List LiveUniversal → List LiveUniversal
put_in x [] = x ∷ []
put_in x (y ∷ ys) = if_so (nat_le x.count y.count) (x ∷ y ∷ ys) (y ∷ put_in x ys)

-- the place, if there is one, put in before the first with at least its count
abbrev pub with_place : Option Place → List Place → List Place
with_place None ps = ps
with_place (Some p) ps = insert p ps

-- the instance is one of a live universal, by a closed term
pub record IsInstance (ts : List Tree) (es : List Placed) (x : Instance) : Type 0 where
  pub place : IsLive ts es x.place
  pub term : x.term < length ts
  pub closed : IsScoped 0 (tree_at ts x.term)

-- the result of the rule by an instance
abbrev pub result_by : List Tree → Rule → Instance → Result
result_by ts rule x = instance_step rule (place_of ts x.place) (tree_at ts x.term)

-- an instance exactly where there is a result, and it is that one
abbrev pub HasInstance : List Tree → List Placed → Rule → Option Result → Option Instance → Type 0
HasInstance ts es rule o None = o ≡ None
HasInstance ts es rule o (Some x) = (o ≡ Some (result_by ts rule x)) × IsInstance ts es x
