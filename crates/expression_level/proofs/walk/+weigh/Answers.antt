use Rattle.std.proofs.Common.{◌≡◌, ◌≤◌, ◌<◌, ◌+◌, ◌++◌, [], ◌∷◌, map, take, drop, fold, length, slice_index_or, get_or, refl, sym, ap, subst, ◌∙◌, arith, append-nil}
use Rattle.tla_ast.specs.declared.tree.Node.{out-Node, size-Node}
use Rattle.tla_ast.specs.declared.tree.Def.{out-Def}
use Rattle.tla_ast.specs.declared.tree.Group.{out-Group}
use Rattle.tla_ast.specs.declared.tree.Path.{out-Path}
use Rattle.plain_syntax.proofs.Forms.{is-at, is-quantifier, is-local}
use Rattle.plain_syntax.specs.Syntax.{term_of, terms_of, each_group, each_key, each_def}
use Rattle.expression_level.specs.Levels.{has_fault}
use Rattle.expression_level.specs.Weights.{at_name, primed_if, join, total, acted, action_weight, all_primed, asked_round}
use Rattle.expression_level.specs.Weights.Known.{defined}
use Rattle.expression_level.specs.Scope.{turned, at_place, weight_of, weights_of, sets_of, keys_on, bodies_of, updates_on, domain_weight, by_form, left, with_name, with_more, with_all}
use Rattle.expression_level.proofs.Locals.{definitions-left, parameters-left}
use Rattle.expression_level.proofs.Walks.{in-order, weighs-name, weighs-action, turns-operator, turns-leaf, turn-next, weighs-choose, weighs-plain, rest-next, rest-ends, sets-group, keys-split, weighs-key, weighs-field-key, each-next, updates-next, no-more-values, except-begins, except-empty, bodies-step, known-step, next-one, all-past, last-one, because, in-any-case}
use Rattle.expression_level.proofs.walk.+weigh.Goals as goal
use Rattle.expression_level.proofs.walk.+weigh.Goals.{weigh-then-is_operator+in_ok-weight, weigh-else-is_operator+in_ok-weight-2}

pub weigh-loop-next-init : goal.weigh-loop-next-init
weigh-loop-next-init t c =
    let n = c.args.names.now in
    record {
      same = refl;
      order =
          (λ i. fold (turned n c.args.depth c.args.at.now) (c.new-stack.ensures.items i) (map (λ m. term_of m.now) (c.as_slice-next-items.ensures.value i)))
          ∙ ap (fold (turned n c.args.depth c.args.at.now) []) c.in_ok-nodes.ensures.ordered
          ∙ in-order n c.args.depth c.args.at.now (term_of c.args.node.now) [];
    }

pub weigh-leaf-requires : goal.weigh-leaf-requires
weigh-leaf-requires t c =
    let r = c.next-item.result in
    let is : r ≡ slice_index_or c.in_ok-nodes.nodes.items c.loop-next.next-index r = c.next-item.is ∙ ap (λ l. slice_index_or l c.loop-next.next-index r) c.as_slice-next-items.ensures.value in
    let within : c.loop-next.next-index < length c.in_ok-nodes.nodes.items = subst (λ l. c.loop-next.next-index < length l) c.as_slice-next-items.ensures.value c.loop-next-test.true in
    let h : size-Node r.now ≤ size-Node c.args.node.now = subst (λ x. size-Node x.now ≤ size-Node c.args.node.now) (sym is) (c.in_ok-nodes.ensures.no_deeper c.loop-next.next-index r within) in
    let d = c.decreases in (omega (arith, h, d), tt)

pub weigh-loop-next-preserved : goal.weigh-loop-next-preserved
weigh-loop-next-preserved t c =
    let n = c.args.names.now in let d = c.args.depth in let k = c.args.at.now in let x = c.loop-next.invariant in let node = c.next-item.result.now in
    let stack = c.loop-next.stack.items in
    let order = turn-next n d k _ stack c.push.new.self.items c.as_slice-next-items.result.now c.loop-next.next-index c.next-item.result x.order c.loop-next-test.true c.next-item.is in
    elim c.if-is_operator.branch [
      | weigh-then-is_operator+in_ok-weight w ↦ record {
        same = w.names-is ∙ x.same;
        order = order (turns-operator n d k node stack w.operate.new.stack.items _ w.in_ok-weight.weight (sym c.is_operator.ensures ∙ w.if-is_operator.true) w.in_ok-weight.ensures.taken w.in_ok-weight.ensures.weight
            (c.in_ok-push.ensures.items ∙ (λ i. (w.stack-is i).items ++ w.weight-is i ∷ [])));
      }
      | weigh-else-is_operator+in_ok-weight-2 w ↦ record {
        same = w.names-is ∙ w.in_ok-weight-2.ensures.same ∙ x.same;
        order = order (turns-leaf n d k node stack _ w.in_ok-weight-2.weight (sym c.is_operator.ensures ∙ w.if-is_operator.false) (w.in_ok-weight-2.ensures.weight ∙ ap (λ s. weight_of s d k (term_of node)) x.same)
            (c.in_ok-push.ensures.items ∙ (λ i. (w.stack-is i).items ++ w.weight-is i ∷ [])));
      }
    ]

pub weigh-returns-in-Some : goal.weigh-returns-in-Some
weigh-returns-in-Some t c =
    let n = c.args.names.now in
    record {
      same = c.loop-next.invariant.same;
      weight = last-one _ c.in-Some.weight _
          (sym c.in-Some.ensures.items
          ∙ sym (ap (λ l. fold (turned n c.args.depth c.args.at.now) c.loop-next.stack.items (map (λ m. term_of m.now) l)) (all-past c.as_slice-next-items.result.now c.loop-next.next-index c.loop-next-test.false))
          ∙ c.loop-next.invariant.order);
    }

pub leaf-returns-in_ok-args-in-Name-clause-weight : goal.leaf-returns-in_ok-args-in-Name-clause-weight
leaf-returns-in_ok-args-in-Name-clause-weight t c =
    let n = c.args.names.now in let d = c.args.depth in let k = c.args.at.now in let p = (out-Node c.args.node.now).place in let e = c.in_ok-args-in-Name.ensures in
    let args = e.weights ∙ (λ i. weights_of n d k (c.flags-flags.ensures i) (terms_of (map term_of (c.as_slice-in-Name.ensures i)))) in
    because _ _ c.at_name-in-Name.result (weighs-name n d k c.args.node.now c.in-Name.is ∙ sym (λ i. at_name p ((c.at.ensures ∙ ap (λ s. at_place s p) e.same) i) (args i))) c.at_name-in-Name.ensures

pub leaf-returns-in-BoxAct-clause-weight : goal.leaf-returns-in-BoxAct-clause-weight
leaf-returns-in-BoxAct-clause-weight t c = because _ _ c.action.result (weighs-action c.args.names.now c.args.depth c.args.at.now c.args.node.now c.in-BoxAct.is) c.action.ensures.weight

pub leaf-returns-in-At-clause-weight : goal.leaf-returns-in-At-clause-weight
leaf-returns-in-At-clause-weight t c =
    let p = (out-Node c.args.node.now).place in
    because _ _ c.at_name.result (ap (weight_of c.args.names.now c.args.depth c.args.at.now) (is-at c.args.node.now c.in-At.is) ∙ ap (at_name p c.args.at.now) (sym c.new-none.ensures.items)) c.at_name.ensures

pub leaf-returns-in-Except-clause-weight : goal.leaf-returns-in-Except-clause-weight
leaf-returns-in-Except-clause-weight t c = c.except.ensures.weight (_, c.in-Except.is)

pub leaf-returns-in_ok-before-in-Quant-clause-weight : goal.leaf-returns-in_ok-before-in-Quant-clause-weight
leaf-returns-in_ok-before-in-Quant-clause-weight t c =
    let n = c.args.names.now in let d = c.args.depth in let k = c.args.at.now in
    let s = c.in_ok-before-in-Quant.ensures.weight ∙ ap (λ l. sets_of n d k (each_group l)) c.as_slice.ensures in
    because _ _ c.behind.result
    (ap (weight_of n d k) (is-quantifier c.args.node.now _ _ c.in-Quant.is)
    ∙ sym (λ i. join (s i) (total (weights_of (c.in_ok-before-in-Quant.ensures.same i) d k [] (terms_of (map term_of (out-Node c.args.node.now).parts))))))
    c.behind.ensures.weight

pub leaf-returns-in_ok-before-in-Choose-clause-weight : goal.leaf-returns-in_ok-before-in-Choose-clause-weight
leaf-returns-in_ok-before-in-Choose-clause-weight t c =
    let n = c.args.names.now in let d = c.args.depth in let k = c.args.at.now in
    because _ _ c.behind-in-Choose.result
    (weighs-choose n d k c.args.node.now _ c.in-Choose.is
    ∙ sym (λ i. join (c.in_ok-before-in-Choose.ensures.weight i) (total (weights_of (c.in_ok-before-in-Choose.ensures.same i) d k [] (terms_of (map term_of (out-Node c.args.node.now).parts))))))
    c.behind-in-Choose.ensures.weight

pub leaf-returns-in_ok-all-in-Let-clause-same : goal.leaf-returns-in_ok-all-in-Let-clause-same
leaf-returns-in_ok-all-in-Let-clause-same t c =
    let n = c.args.names.now in let d = c.args.depth in let k = c.args.at.now in
    c.leave.ensures
    ∙ (λ i. left (c.mark-mark.ensures i) ((c.in_ok-all-in-Let.ensures.same ∙ c.in_ok-before-in-Let.ensures.known) i))
    ∙ definitions-left d k (each_def c.as_slice-in-Let.result.now) n

pub leaf-returns-in_ok-all-in-Let-clause-weight : goal.leaf-returns-in_ok-all-in-Let-clause-weight
leaf-returns-in_ok-all-in-Let-clause-weight t c =
    let n = c.args.names.now in let d = c.args.depth in let k = c.args.at.now in
    let s = c.in_ok-before-in-Let.ensures.weight ∙ ap (λ l. bodies_of n d k (each_def l)) c.as_slice-in-Let.ensures in
    let m = c.in_ok-before-in-Let.ensures.known ∙ ap (λ l. with_all d k (each_def l) n) c.as_slice-in-Let.ensures in
    c.in_ok-all-in-Let.ensures.weight
    ∙ (λ i. join (s i) (total (weights_of (m i) d k [] (terms_of (map term_of (out-Node c.args.node.now).parts)))))
    ∙ sym (ap (weight_of n d k) (is-local c.args.node.now _ c.in-Let.is))

pub leaf-returns-in_ok-apply-in_default : goal.leaf-returns-in_ok-apply-in_default
leaf-returns-in_ok-apply-in_default t c =
    let n = c.args.names.now in let d = c.args.depth in let k = c.args.at.now in let o = c.in_default in
    record {
      same = c.in_ok-parts-in_default.ensures.same;
      weight =
          c.in_ok-apply-in_default.ensures
          ∙ ap (by_form (out-Node c.args.node.now).form (out-Node c.args.node.now).place)
          (c.in_ok-all-in_default.ensures ∙ ap total (c.in_ok-parts-in_default.ensures.weights ∙ ap (λ l. weights_of n d k [] (terms_of (map term_of l))) c.as_slice-in_default.ensures))
          ∙ sym (weighs-plain n d k c.args.node.now (o.not-Name, o.not-Call, o.not-BoxAct, o.not-AngleAct, o.not-At, o.not-Except, o.not-Quant, o.not-Choose, o.not-Let));
    }

pub each-loop-index-preserved : goal.each-loop-index-preserved
each-loop-index-preserved t c =
    let n = c.args.names.now in let d = c.args.depth in let k = c.args.at.now in let x = c.loop-index.invariant in
    let weight = c.in_ok-weight.ensures.weight ∙ ap (λ s. weight_of s d k (term_of c.index-nodes-index.result)) x.same in
    record {
      same = c.in_ok-weight.ensures.same ∙ x.same;
      rest = each-next n d k _ c.loop-index.found.items c.push.new.self.items c.prime.new.self c.args.flags.now c.args.nodes.now c.loop-index.index c.index-nodes-index.result x.rest c.loop-index-test.true
          c.index-nodes-index.is (c.prime.ensures ∙ (λ i. primed_if (c.is_flagged.ensures i) (weight i))) c.in_ok-push.ensures.items;
    }

pub each-returns : goal.each-returns
each-returns t c =
    let x = c.loop-index.invariant in
    record {
      same = x.same;
      weights = sym (append-nil c.loop-index.found.items)
          ∙ ap (λ l. c.loop-index.found.items ++ weights_of c.args.names.now c.args.depth c.args.at.now (drop c.loop-index.index c.args.flags.now) (terms_of (map term_of l))) (sym (all-past c.args.nodes.now c.loop-index.index c.loop-index-test.false))
          ∙ x.rest;
    }

pub action-returns : goal.action-returns
action-returns t c =
    let n = c.args.names.now in let d = c.args.depth in let k = c.args.at.now in let p = (out-Node c.args.node.now).place in
    let s = c.in_ok-subscript.ensures ∙ ap total (c.in_ok-others.ensures.weights ∙ ap (λ m. weights_of m d k [] (terms_of (map term_of c.in-Some.rest.now))) c.in_ok-taken.ensures.same) in
    record {
      same = in-any-case c.act.result (c.in_ok-others.ensures.same ∙ c.in_ok-taken.ensures.same);
      weight = because _ _ c.act.result
          (ap (λ l. acted p (weights_of n d k [] (terms_of (map term_of l)))) (sym c.as_slice.ensures ∙ c.in-Some.ensures.cases.0)
          ∙ sym (λ i. action_weight p (c.in_ok-taken.ensures.weight i) (all_primed (s i))))
          c.act.ensures;
    }

pub sets-loop-group-preserved : goal.sets-loop-group-preserved
sets-loop-group-preserved t c =
    let n = c.args.names.now in let d = c.args.depth in let k = c.args.at.now in let x = c.loop-group.invariant in
    record {
      same = c.in_ok-weight.ensures.same ∙ x.same;
      rest = rest-next (λ g. domain_weight n d k (out-Group g).domain) (λ l. sets_of n d k (each_group l)) (λ g l. sets-group n d k g (each_group l)) _ _ _ _ c.args.groups.now _ _
          x.rest c.loop-group-test.true c.group-item.is (c.in_ok-weight.ensures.weight ∙ ap (λ s. domain_weight s d k (out-Group c.group-item.result).domain) x.same) c.in_ok-join.ensures;
    }

pub sets-returns : goal.sets-returns
sets-returns t c = record {
  same = c.loop-group.invariant.same;
  weight = rest-ends (λ l. sets_of c.args.names.now c.args.depth c.args.at.now (each_group l)) refl _ _ c.args.groups.now _ c.loop-group.invariant.rest c.loop-group-test.false;
}

pub key-returns-in-At-clause-weight : goal.key-returns-in-At-clause-weight
key-returns-in-At-clause-weight t c = because _ _ c.weigh.result (weighs-key c.args.names.now c.args.depth c.args.at.now c.args.key.now _ c.in-At.is) c.weigh.ensures.weight

pub key-returns-in-Field-clause-weight : goal.key-returns-in-Field-clause-weight
key-returns-in-Field-clause-weight t c = c.nothing-none.ensures ∙ sym (weighs-field-key c.args.names.now c.args.depth c.args.at.now c.args.key.now _ c.in-Field.is)

pub keys-loop-part-preserved : goal.keys-loop-part-preserved
keys-loop-part-preserved t c =
    let n = c.args.names.now in let d = c.args.depth in let k = c.args.at.now in let x = c.loop-part.invariant in let e = c.as_slice-part-items.ensures in
    record {
      same = c.in_ok-weight.ensures.same ∙ x.same;
      rest = rest-next (λ y. keys_on n d k (each_key (y ∷ []))) (λ l. keys_on n d k (each_key l)) (λ y l. keys-split n d k y (each_key l)) _ _ _ _ (out-Path c.args.path.now).keys _ _
          x.rest (subst (λ l. c.loop-part.part-index < length l) e c.loop-part-test.true) (c.part-item.is ∙ ap (λ l. get_or l c.loop-part.part-index c.part-item.result) e)
          (c.in_ok-weight.ensures.weight ∙ ap (λ s. keys_on s d k (each_key (c.part-item.result ∷ []))) x.same) c.in_ok-join.ensures;
    }

pub keys-returns : goal.keys-returns
keys-returns t c = record {
  same = c.loop-part.invariant.same;
  weight = rest-ends (λ l. keys_on c.args.names.now c.args.depth c.args.at.now (each_key l)) refl _ _ (out-Path c.args.path.now).keys _ c.loop-part.invariant.rest
      (subst (λ l. length l ≤ c.loop-part.part-index) c.as_slice-part-items.ensures c.loop-part-test.false);
}

pub except-returns-in_default-split_first-clause-weight : goal.except-returns-in_default-split_first-clause-weight
except-returns-in_default-split_first-clause-weight t c = λ h.
    let none = c.in_default-split_first.ensures.cases in
    except-empty c.args.names.now c.args.depth c.args.at.now c.args.node.now c.in-Except.paths _ c.in-Except.is (sym (ap length c.as_slice.ensures) ∙ none) c.nothing-empty.ensures

pub except-loop-index-preserved : goal.except-loop-index-preserved
except-loop-index-preserved t c =
    let n = c.args.names.now in let d = c.args.depth in let k = c.args.at.now in
    let same = c.in_ok-found.ensures.same ∙ c.loop-index.invariant.same in
    record {
      same = c.in_ok-weight.ensures.same ∙ same;
      rest = updates-next n d k _ c.loop-index.all c.join.new.self c.join-in-loop-index.new.self c.in_ok-found.found c.in_ok-weight.weight _ _ _ _ c.index-paths-index.result c.index-values-index.result c.loop-index.invariant.rest
          (next-one c.as_slice-paths.result.now c.loop-index.index (c.loop-index.index + 1) c.index-paths-index.result refl c.if-index-paths.false c.index-paths-index.is)
          (next-one c.in-Some.values.now c.loop-index.index (c.loop-index.index + 1) c.index-values-index.result refl c.loop-index-test.true c.index-values-index.is)
          (c.in_ok-found.ensures.weight ∙ ap (λ s. keys_on s d k (each_key (out-Path c.index-paths-index.result).keys)) c.loop-index.invariant.same)
          c.in_ok-join.ensures
          (c.in_ok-weight.ensures.weight ∙ (λ i. weight_of (same i) d (c.in_ok-now.ensures i) (term_of c.index-values-index.result)))
          c.in_ok-join-2.ensures;
    }

pub except-returns-then-index-paths-clause-weight : goal.except-returns-then-index-paths-clause-weight
except-returns-then-index-paths-clause-weight t c = λ h.
    let n = c.args.names.now in let d = c.args.depth in let k = c.args.at.now in
    sym (ap (λ l. updates_on n d k l (drop c.loop-index.index c.in-Some.values.now) c.loop-index.all) (all-past c.as_slice-paths.result.now c.loop-index.index c.if-index-paths.true))
    ∙ c.loop-index.invariant.rest
    ∙ except-begins n d k c.args.node.now c.in-Except.paths c.as_slice-paths.result.now c.in-Some.values.now c.in-Some.function.now c.in_ok-all.all c.in-Except.is c.as_slice-paths.ensures
    (sym c.as_slice.ensures ∙ c.in-Some.ensures.cases.0) c.in_ok-all.ensures.weight

pub except-returns : goal.except-returns
except-returns t c =
    let n = c.args.names.now in let d = c.args.depth in let k = c.args.at.now in
    record {
      same = c.loop-index.invariant.same;
      weight = λ h.
          sym (ap (λ l. updates_on n d k (drop c.loop-index.index c.as_slice-paths.result.now) l c.loop-index.all) (all-past c.in-Some.values.now c.loop-index.index c.loop-index-test.false)
          ∙ no-more-values n d k (drop c.loop-index.index c.as_slice-paths.result.now) c.loop-index.all)
          ∙ c.loop-index.invariant.rest
          ∙ except-begins n d k c.args.node.now c.in-Except.paths c.as_slice-paths.result.now c.in-Some.values.now c.in-Some.function.now c.in_ok-all.all c.in-Except.is c.as_slice-paths.ensures
          (sym c.as_slice.ensures ∙ c.in-Some.ensures.cases.0) c.in_ok-all.ensures.weight;
    }

pub definitions-loop-def-preserved : goal.definitions-loop-def-preserved
definitions-loop-def-preserved t c =
    let d = c.args.depth in let k = c.args.at.now in
    let next = next-one c.args.defs.now c.loop-def.def-index (c.loop-def.def-index + 1) c.def-item.result refl c.loop-def-test.true c.def-item.is in
    record {
      known = known-step d k _ c.loop-def.names c.definition.new.names _ _ c.def-item.result c.loop-def.invariant.known next c.in_ok-asked.ensures.known;
      rest = bodies-step d k _ c.loop-def.all c.join.new.self c.in_ok-asked.asked c.loop-def.names c.definition.new.names _ _ c.def-item.result c.loop-def.invariant.rest next c.in_ok-asked.ensures.known c.in_ok-asked.ensures.weight c.in_ok-join.ensures;
    }

pub definitions-returns : goal.definitions-returns
definitions-returns t c =
    let d = c.args.depth in let k = c.args.at.now in let x = c.loop-def.invariant in
    record {
      known = ap (λ l. with_all d k (each_def l) c.loop-def.names) (sym (all-past c.args.defs.now c.loop-def.def-index c.loop-def-test.false)) ∙ x.known;
      weight = rest-ends (λ l. bodies_of c.loop-def.names d k (each_def l)) refl _ _ c.args.defs.now _ x.rest c.loop-def-test.false;
    }

pub definition-returns : goal.definition-returns
definition-returns t c =
    let n = c.args.names.now in let d = c.args.depth in let k = c.args.at.now in let x = out-Def c.args.def.now in
    let bound = c.in_ok-inner.ensures.bound ∙ ap (λ l. with_more d l n) c.as_slice.ensures in
    let inner = c.in_ok-inner.ensures.depth ∙ ap (λ l. d + length l) c.as_slice.ensures in
    let body = c.in_ok-body.ensures.weight ∙ (λ i. weight_of (bound i) (inner i) k (term_of (c.get.ensures i))) in
    let before = c.leave.ensures ∙ (λ i. left (c.mark-mark.ensures i) ((c.in_ok-body.ensures.same ∙ bound) i)) ∙ parameters-left d x.params n in
    let known = c.in_ok-known.ensures.known ∙ (λ i. defined d (body i).least (take (inner i) (body i).uses) (has_fault (body i).faults)) in
    record {
      known = c.in_ok-bind.ensures ∙ (λ i. with_name x.place (known i) (before i));
      weight = c.in_ok-known.ensures.asked ∙ ap (asked_round d) body;
    }
