use Rattle.std.proofs.Common.{◌≡◌, ◌+◌, ◌-◌, ◌≤◌, ◌⊎◌, inl, inr, ◌++◌, ◌∷◌, [], length, take, drop, ap, ◌∙◌, arith, rules}
use Rattle.std.proofs.lemmas.List.{append_assoc, take_rest}
use Rattle.search_definition.specs.Needs.{union}
use Rattle.search_loop.proofs.SetLaws.{union_step, union_end}
use Rattle.search_loop.proofs.sets.union.Goals as goal
use Rattle.search_loop.proofs.sets.union.Goals.{then-loop-i-test+else-j-right, else-loop-i-test}

pub loop-i-preserved : goal.loop-i-preserved
loop-i-preserved c =
    let xs = c.args.left.now in
    let ys = c.args.right.now in
    let i = c.loop-i.i in
    let j = c.loop-i.j in
    let t = c.greater-taken.result in
    let e : c.push.new.self.items ≡ c.loop-i.both.items ++ t.number ∷ [] = search rules in
    record {
      lefts = omega (arith, c.greater-taken.ensures.lefts, c.loop-i-test.true);
      rights = omega (arith, c.greater-taken.ensures.rights, c.if-j-right.true);
      both =
          ap (λ us. us ++ union (drop (i + t.lefts) xs) (drop (j + t.rights) ys)) e
          ∙ union_step xs ys c.loop-i.both.items i j t.lefts t.rights t.number c.loop-i-test.true c.if-j-right.true c.greater-taken.ensures.first
          ∙ c.loop-i.invariant.both;
    }

pub returns : goal.returns
returns c =
    let xs = c.args.left.now in
    let ys = c.args.right.now in
    let i = c.loop-i.i in
    let j = c.loop-i.j in
    let e : c.extend_from_slice-2.new.self.items ≡ c.loop-i.both.items ++ drop i xs ++ drop j ys =
    c.in_ok-extend_from_slice-2.ensures.items
    ∙ ap (λ us. us ++ take (length ys - j) (drop j ys)) c.in_ok-extend_from_slice.ensures.items
    ∙ (λ t. c.loop-i.both.items ++ take_rest xs i t ++ take_rest ys j t) in
    let k : length xs ≤ i ⊎ length ys ≤ j = elim c.loop-i-test.branch [ then-loop-i-test+else-j-right w ↦ inr (omega arith) | else-loop-i-test w ↦ inl (omega arith) ] in
    e ∙ append_assoc c.loop-i.both.items (drop i xs) (drop j ys) ∙ ap (λ us. c.loop-i.both.items ++ us) (union_end xs ys i j k) ∙ c.loop-i.invariant.both
