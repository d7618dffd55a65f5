use Rattle.std.proofs.Common.{rules, ◌∷◌, ◌++◌, [], map, ap, sym, ◌∙◌}
use Rattle.tla_ast.specs.declared.tree.Node.{out-Node}
use Rattle.core_expr.specs.declared.head.Binder.TheVariants.{Choose}
use Rattle.plain_syntax.specs.Plain.{Term}
use Rattle.plain_syntax.specs.Syntax.{term_of, terms_of, keys_of, except_of, each_group, each_def}
use Rattle.plain_syntax.proofs.Forms.{parts_in, is-filter, is-image, is-function, is-except, is-quantifier, is-choice, is-local}
use Rattle.prime_expand.specs.declared.both.Both.{Both}
use Rattle.prime_expand.specs.Walk.{point, deeper, under_groups, with_local, finish, core_from, cores_from, first_from, bound_groups}
use Rattle.prime_expand.proofs.Nodes.{core-joined}
use Rattle.prime_expand.proofs.env.Names.push_node.Goals as goal

pub returns-in_ok-push_range-in-Filter : goal.returns-in_ok-push_range-in-Filter
returns-in_ok-push_range-in-Filter c vs =
    let s = c.args.self.now in let q = point s c.args.spot in let n = c.args.node.now in
    c.in_ok-push_range-in-Filter.ensures vs ∙ ap (λ (t : Term). finish s c.args.tasks.now.items (vs ++ core_from s q t ∷ [])) (sym (is-filter n _ c.in-Filter.is))

pub returns-in_ok-push_range-in-Image : goal.returns-in_ok-push_range-in-Image
returns-in_ok-push_range-in-Image c vs =
    let s = c.args.self.now in let q = point s c.args.spot in let n = c.args.node.now in
    c.in_ok-push_range-in-Image.ensures vs ∙ ap (λ (t : Term). finish s c.args.tasks.now.items (vs ++ core_from s q t ∷ [])) (sym (is-image n _ c.in-Image.is))

pub returns-in_ok-push_range-in-Function : goal.returns-in_ok-push_range-in-Function
returns-in_ok-push_range-in-Function c vs =
    let s = c.args.self.now in let q = point s c.args.spot in let n = c.args.node.now in
    c.in_ok-push_range-in-Function.ensures vs ∙ ap (λ (t : Term). finish s c.args.tasks.now.items (vs ++ core_from s q t ∷ [])) (sym (is-function n _ c.in-Function.is))

pub returns-in_ok-push_except-in-Except : goal.returns-in_ok-push_except-in-Except
returns-in_ok-push_except-in-Except c vs =
    let s = c.args.self.now in let q = point s c.args.spot in let n = c.args.node.now in
    c.in_ok-push_except-in-Except.ensures vs
    ∙ ap (λ (t : Term). finish s c.args.tasks.now.items (vs ++ core_from s q t ∷ [])) (ap (λ ps. except_of (map keys_of ps) (map term_of (out-Node n).parts) (out-Node n).place) c.as_slice.ensures ∙ sym (is-except n _ c.in-Except.is))

pub returns-in_ok-push_under-in-Record : goal.returns-in_ok-push_under-in-Record
returns-in_ok-push_under-in-Record c vs =
    let s = c.args.self.now in let q = point s c.args.spot in let n = c.args.node.now in
    c.in_ok-push_under-in-Record.ensures vs
    ∙ ap (λ (b : Both). finish s c.args.tasks.now.items (vs ++ b ∷ [])) (sym (core-joined s q n (cores_from s (deeper q) (parts_in n)) (search rules)))

pub returns-in_ok-push_twice-in-RecordSet : goal.returns-in_ok-push_twice-in-RecordSet
returns-in_ok-push_twice-in-RecordSet c vs =
    let s = c.args.self.now in let q = point s c.args.spot in let n = c.args.node.now in
    c.in_ok-push_twice-in-RecordSet.ensures vs
    ∙ ap (λ (b : Both). finish s c.args.tasks.now.items (vs ++ b ∷ []))
    (sym (core-joined s q n (cores_from s q (parts_in n) ++ cores_from s (deeper q) (parts_in n)) (search rules)))

pub returns-in_ok-push_quantified-in-Quant : goal.returns-in_ok-push_quantified-in-Quant
returns-in_ok-push_quantified-in-Quant c vs =
    let s = c.args.self.now in let q = point s c.args.spot in let n = c.args.node.now in
    c.in_ok-push_quantified-in-Quant.ensures vs
    ∙ (λ i. finish s c.args.tasks.now.items (vs ++ bound_groups s q (c.quantifier-binder.ensures i) (each_group (c.as_slice-in-Quant.ensures i))
    (first_from s (under_groups s (each_group (c.as_slice-in-Quant.ensures i)) q) (terms_of (map term_of (c.as_slice-parts.ensures i)))) ∷ []))
    ∙ ap (λ (t : Term). finish s c.args.tasks.now.items (vs ++ core_from s q t ∷ [])) (sym (is-quantifier n _ _ c.in-Quant.is))

pub returns-in_ok-push_quantified-in-Choose : goal.returns-in_ok-push_quantified-in-Choose
returns-in_ok-push_quantified-in-Choose c vs =
    let s = c.args.self.now in let q = point s c.args.spot in let n = c.args.node.now in
    c.in_ok-push_quantified-in-Choose.ensures vs
    ∙ (λ i. finish s c.args.tasks.now.items (vs ++ bound_groups s q Choose (each_group (c.from_ref-groups.ensures.value i))
    (first_from s (under_groups s (each_group (c.from_ref-groups.ensures.value i)) q) (terms_of (map term_of (c.as_slice-parts.ensures i)))) ∷ []))
    ∙ ap (λ (t : Term). finish s c.args.tasks.now.items (vs ++ core_from s q t ∷ [])) (sym (is-choice n _ c.in-Choose.is))

pub returns-in_ok-push_under-in-Case : goal.returns-in_ok-push_under-in-Case
returns-in_ok-push_under-in-Case c vs =
    let s = c.args.self.now in let q = point s c.args.spot in let n = c.args.node.now in
    c.in_ok-push_under-in-Case.ensures vs
    ∙ ap (λ (b : Both). finish s c.args.tasks.now.items (vs ++ b ∷ [])) (sym (core-joined s q n (cores_from s (deeper q) (parts_in n)) (search rules)))

pub returns-in_ok-push_local-in-Let : goal.returns-in_ok-push_local-in-Let
returns-in_ok-push_local-in-Let c vs =
    let s = c.args.self.now in let q = point s c.args.spot in let n = c.args.node.now in
    c.in_ok-push_local-in-Let.ensures vs
    ∙ (λ i. finish s c.args.tasks.now.items (vs ++ first_from s (with_local s (each_def (c.as_slice-in-Let.ensures i)) q) (terms_of (map term_of (c.as_slice-parts.ensures i))) ∷ []))
    ∙ ap (λ (t : Term). finish s c.args.tasks.now.items (vs ++ core_from s q t ∷ [])) (sym (is-local n _ c.in-Let.is))

pub returns-in_ok-push_plain-in_default : goal.returns-in_ok-push_plain-in_default
returns-in_ok-push_plain-in_default c vs =
    let s = c.args.self.now in let q = point s c.args.spot in let n = c.args.node.now in
    c.in_ok-push_plain-in_default.ensures vs ∙ ap (λ (b : Both). finish s c.args.tasks.now.items (vs ++ b ∷ [])) (sym (core-joined s q n (cores_from s q (parts_in n)) (search rules)))
