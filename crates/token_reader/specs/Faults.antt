-- Where a reader's fault stands, and which tokens a reader leaves.
use Rattle.std.specs.Prelude.{◌≡◌, Bool, true, false, ◌∷◌, ◌++◌, Ok, Err}
use Rattle.tla_ast.specs.declared.place.Place.{Place}
use Rattle.tla_ast.specs.declared.token.Token.{Token}
use Rattle.tla_ast.specs.declared.fault.Fault.{Fault}
use Rattle.tla_ast.specs.declared.fault.Fault.TheVariants as fault
use Rattle.tla_ast.specs.declared.fault.Kind.{Kind}
use Rattle.tla_ast.specs.declared.fault.Kind.TheVariants.{Expected, Precedence, TooDeep, Unsupported}
use Rattle.tla_ast.specs.Listing.{Ends}
use Rattle.token_reader.specs.Input.{Tokens, Outcome}

-- the place is that of a token of the list
pub record StandsIn (ts : Tokens) (p : Place) : Type 0 where
  pub before : Tokens
  pub token : Token
  pub after : Tokens
  pub is : ts ≡ before ++ token ∷ after
  pub at : token.place ≡ p

-- the kinds of fault that an expression may have
abbrev pub is_of_expressions : Kind → Bool
is_of_expressions Expected = true
is_of_expressions Precedence = true
is_of_expressions TooDeep = true
is_of_expressions (Unsupported sign) = true
is_of_expressions _ = false

-- The fault has one of these kinds and stands at a token of the list.
pub record FaultIn (allowed : Kind → Bool) (ts : Tokens) (e : Fault) : Type 0 where
  pub place : Place
  pub kind : Kind
  pub is : e ≡ fault.At place kind
  pub stands : StandsIn ts place
  pub may : allowed kind ≡ true

-- these tokens are left of a list, which goes on there up to the token that ends it
pub record LeftOf (ts rest : Tokens) : Type 0 where
  pub used : Tokens
  pub is : ts ≡ used ++ rest
  pub ends : Ends rest

-- what a reader owes at a list of tokens: it leaves a part of the list, or its fault stands in it
abbrev pub Keeps : {A : Type 0} → (Kind → Bool) → Tokens → Outcome A → Type 0
Keeps allowed ts (Ok p) = LeftOf ts p.1
Keeps allowed ts (Err e) = FaultIn allowed ts e
