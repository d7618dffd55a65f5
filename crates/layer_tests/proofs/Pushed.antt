-- A chain that is made piece by piece.
use Rattle.std.proofs.Common.{◌≡◌, Bool, true, false, List, [], ◌∷◌, ◌++◌, refl, sym, subst}
use Rattle.operator_chain.specs.declared.chain.Piece.{Piece}
use Rattle.operator_chain.specs.declared.chain.Piece.TheVariants as piece
use Rattle.operator_chain.specs.Chain.{IsChain, is_waiting}
use Rattle.operator_chain.specs.Listed.{IsListed, AreListed}

-- an operand must come after these pieces
abbrev pub after : Bool → List Piece → Bool
after e [] = e
after e (x ∷ c) = after (is_waiting x) c

pub record Grows (c : List Piece) (waits : Bool) : Type 0 where
  pub chain : IsChain true c
  pub listed : AreListed c
  pub next : after true c ≡ waits

chain-push : (e : Bool) (c : List Piece) (x : Piece) → IsChain e c → IsChain (after e c) (x ∷ []) → IsChain e (c ++ x ∷ [])
chain-push e [] x h k = k
chain-push true (piece.Operand a ∷ c) x h k = chain-push false c x h k
chain-push true (piece.Prefix p ∷ c) x h k = chain-push true c x h k
chain-push true (piece.Infix o ∷ c) x h k = h
chain-push true (piece.Postfix q ∷ c) x h k = h
chain-push false (piece.Operand a ∷ c) x h k = h
chain-push false (piece.Prefix p ∷ c) x h k = h
chain-push false (piece.Infix o ∷ c) x h k = chain-push true c x h k
chain-push false (piece.Postfix q ∷ c) x h k = chain-push false c x h k

after-push : (e : Bool) (c : List Piece) (x : Piece) → after e (c ++ x ∷ []) ≡ is_waiting x
after-push e [] x = refl
after-push e (y ∷ c) x = after-push (is_waiting y) c x

listed-push : (c : List Piece) (x : Piece) → AreListed c → IsListed x → AreListed (c ++ x ∷ [])
listed-push [] x l k = (k, tt)
listed-push (y ∷ c) x l k = (l.0, listed-push c x l.1 k)

pub pushed : (c : List Piece) (waits : Bool) (x : Piece) → Grows c waits → IsChain waits (x ∷ []) → IsListed x → Grows (c ++ x ∷ []) (is_waiting x)
pushed c waits x g h l =
    record {
      chain = chain-push true c x g.chain (subst (λ b. IsChain b (x ∷ [])) (sym g.next) h);
      listed = listed-push c x g.listed l;
      next = after-push true c x;
    }
