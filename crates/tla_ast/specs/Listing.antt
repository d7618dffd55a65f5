-- What every list of tokens is: the places rise, and the last token and no other ends it.
use Rattle.std.specs.Prelude.{◌≡◌, Bool, true, false, List, [], ◌∷◌}
use Rattle.tla_ast.specs.declared.place.Place.{Place}
use Rattle.tla_ast.specs.declared.token.Token.{Token}
use Rattle.tla_ast.specs.declared.token.Tok.{Tok}
use Rattle.tla_ast.specs.declared.token.Tok.TheVariants.{End, Eof}
use Rattle.tla_ast.specs.Place.{before}

-- the end token, or the end of the bytes
abbrev pub is_last : Tok → Bool
is_last End = true
is_last Eof = true
is_last _ = false

-- each token stands behind the one before it, the first behind this place
abbrev pub RiseFrom : Place → List Token → Type 0
RiseFrom p [] = Unit {0}
RiseFrom p (t ∷ ts) = (before p t.place ≡ true) × RiseFrom t.place ts

-- the places rise
abbrev pub Rise : List Token → Type 0
Rise [] = Unit {0}
Rise (t ∷ ts) = RiseFrom t.place ts

-- the last token is End or Eof, and no other is
abbrev pub Ends : List Token → Type 0
Ends [] = ⊥
Ends (t ∷ []) = is_last t.tok ≡ true
Ends (t ∷ u ∷ ts) = (is_last t.tok ≡ false) × Ends (u ∷ ts)

-- a list of tokens that the readers take
abbrev pub IsTokenList : List Token → Type 0
IsTokenList ts = Rise ts × Ends ts
