use Rattle.std.proofs.Common.{map, sym, ap, subst, ◌∙◌}
use Rattle.plain_syntax.specs.Syntax.{module_of}
use Rattle.theorem_leaves.specs.Citations.{HasKeys, modules_keys}
use Rattle.theorem_leaves.specs.Keeping.{Kept, kept_of, keep_modules}
use Rattle.theorem_leaves.proofs.Gathered.{all_kept}
use Rattle.theorem_leaves.proofs.Runs.{all-past}
use Rattle.theorem_leaves.proofs.keys.theorem_keys.Goals as goal

pub returns : goal.returns
returns c =
    let t = c.args.scoped.now in let ms = map module_of c.args.modules.now in let l = c.loop-number in
    let rest = ap (λ xs. keep_modules t l.number (map module_of xs) (kept_of l.keys)) (all-past c.args.modules.now l.number c.loop-number-test.false) in
    subst (λ (s : Kept). HasKeys s.found (modules_keys t 0 0 ms)) (sym l.invariant ∙ rest) (all_kept t ms)
