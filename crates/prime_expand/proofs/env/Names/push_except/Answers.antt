use Rattle.std.proofs.Common.{◌≡◌, ◌∷◌, ◌++◌, [], map, length, refl, ap, sym, ◌∙◌, append-nil}
use Rattle.tla_ast.specs.declared.tree.Node.{out-Node}
use Rattle.plain_syntax.specs.Syntax.{term_of, keys_of, except_of}
use Rattle.prime_expand.specs.Both.{part_at}
use Rattle.prime_expand.specs.Walk.{point, finish, core_from}
use Rattle.prime_expand.proofs.Tasks.{reads-last, joins}
use Rattle.prime_expand.proofs.Nodes.{except-empty}
use Rattle.prime_expand.proofs.env.Names.push_except.Goals as goal

pub returns-in_default : goal.returns-in_default
returns-in_default c vs =
    let s = c.args.self.now in
    let n = c.args.node.now in
    let none : length (out-Node n).parts ≡ 0 = sym (ap length c.as_slice.ensures) ∙ c.in_default.ensures.cases in
    ap (finish s c.push.new.self.items) (sym (append-nil vs))
    ∙ joins s c.args.tasks.now.items c.push.new.self.items _ 0 (part_at 0) vs [] _ c.in_ok-push.ensures.items (λ ws. refl) refl refl
    ∙ ap (λ b. finish s c.args.tasks.now.items (vs ++ b ∷ [])) (sym (except-empty s (point s c.args.spot) c.args.paths.now (out-Node n).parts (out-Node n).place none))

pub returns : goal.returns
returns c vs =
    let s = c.args.self.now in
    let q = point s c.args.spot in
    let n = c.args.node.now in
    let v = c.in-Some.value.now in
    reads-last s c.push_updates.new.tasks.items c.push-2.new.self.items _ q v vs c.in_ok-push-2.ensures.items (λ ws. refl)
    ∙ c.in_ok-push_updates.ensures vs (core_from s q (term_of v))
    ∙ ap (λ l. finish s c.args.tasks.now.items (vs ++ core_from s q (except_of (map keys_of c.args.paths.now) (map term_of l) (out-Node n).place) ∷ [])) (sym c.in-Some.ensures.cases.0 ∙ c.as_slice.ensures)
