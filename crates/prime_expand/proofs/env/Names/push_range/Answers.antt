use Rattle.std.proofs.Common.{◌≡◌, ◌∷◌, ◌++◌, [], suc, map, length, refl, ap, sym, ◌∙◌, append-nil, append_assoc}
use Rattle.tla_ast.specs.declared.tree.Node.{out-Node}
use Rattle.plain_syntax.specs.Syntax.{term_of, terms_of}
use Rattle.prime_expand.specs.Both.{part_at, ranged}
use Rattle.prime_expand.specs.Walk.{ranged_by, point, under, finish, core_from, cores_from, over_from}
use Rattle.prime_expand.proofs.Tasks.{reads-last, joins}
use Rattle.prime_expand.proofs.Nodes.{count-read, over-empty}
use Rattle.prime_expand.proofs.env.Names.push_range.Goals as goal

pub returns-in_default : goal.returns-in_default
returns-in_default c vs =
    let s = c.args.self.now in
    let n = c.args.node.now in
    let none : length (out-Node n).parts ≡ 0 = sym (ap length c.as_slice-parts.ensures) ∙ c.in_default.ensures.cases in
    ap (finish s c.push.new.self.items) (sym (append-nil vs))
    ∙ joins s c.args.tasks.now.items c.push.new.self.items _ 0 (part_at 0) vs [] _ c.in_ok-push.ensures.items (λ ws. refl) refl refl
    ∙ ap (λ b. finish s c.args.tasks.now.items (vs ++ b ∷ [])) (sym (over-empty s (point s c.args.spot) (ranged_by c.args.binder) (out-Node n).place (out-Node n).parts none))

pub returns : goal.returns
returns c vs =
    let s = c.args.self.now in
    let q = point s c.args.spot in
    let n = c.args.node.now in
    let p = (out-Node n).place in
    let x = core_from s q (term_of c.in-Some.set.now) in
    let ts = terms_of (map term_of c.in-Some.rest.now) in
    let all = c.in-Some.ensures.cases.0 in
    let ys = cores_from s (under s p q) ts in
    reads-last s c.push_reads.new.tasks.items c.push-3.new.self.items _ q c.in-Some.set.now vs c.in_ok-push-3.ensures.items (λ ws. refl)
    ∙ c.in_ok-push_reads.ensures s (vs ++ x ∷ [])
    ∙ ap (λ r. finish s c.push-2.new.self.items ((vs ++ x ∷ []) ++ cores_from s r ts)) c.in_ok-inner.ensures
    ∙ ap (finish s c.push-2.new.self.items) (append_assoc vs (x ∷ []) ys)
    ∙ joins s c.args.tasks.now.items c.push-2.new.self.items _ (length c.as_slice-parts.result.now) (λ bs. ranged (ranged_by c.args.binder) (part_at 0 bs) (part_at 1 bs)) vs (x ∷ ys) _
    c.in_ok-push-2.ensures.items (λ ws. refl) (ap suc (count-read s (under s p q) c.in-Some.rest.now) ∙ sym (ap length all)) refl
    ∙ ap (λ l. finish s c.args.tasks.now.items (vs ++ over_from s q (ranged_by c.args.binder) p (terms_of (map term_of l)) ∷ [])) (sym all ∙ c.as_slice-parts.ensures)
