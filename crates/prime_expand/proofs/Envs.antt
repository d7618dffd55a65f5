-- What names mean, once names, groups and definitions were met.
use Rattle.std.proofs.Common.{◌≡◌, ℕ, ◌+◌, List, [], ◌∷◌, ◌++◌, map, fold, length, Option, Some, None, refl, ap, sym, ◌∙◌}
use Rattle.std.specs.Borrow.{Bor}
use Rattle.std.specs.Global.{Vec, Global}
use Rattle.std.specs.declared.rc.Rc.{Rc}
use Rattle.tla_ast.specs.declared.tree.Decl.{Decl}
use Rattle.tla_ast.specs.declared.tree.Node.{Node}
use Rattle.tla_ast.specs.declared.tree.Group.{Group, out-Group}
use Rattle.tla_ast.specs.declared.tree.Def.{Def, out-Def}
use Rattle.plain_syntax.specs.Plain.{Groups, Defs}
use Rattle.plain_syntax.specs.Syntax.{each_group, each_def, with_domain, set_of, term_of}
use Rattle.plain_syntax.proofs.Forms.{is-group, is-def}
use Rattle.prime_expand.specs.declared.both.Both.{Both}
use Rattle.prime_expand.specs.declared.env.Names.{Names}
use Rattle.prime_expand.specs.declared.env.Known.{Known}
use Rattle.prime_expand.specs.declared.env.Env as env
use Rattle.prime_expand.specs.declared.env.Env.TheFolds.{fold-roll-Env}
use Rattle.prime_expand.specs.declared.env.Env.TheOpen.{Env-F}
use Rattle.prime_expand.specs.declared.env.Env.TheVariants as variants
use Rattle.prime_expand.specs.declared.env.Standing as code
use Rattle.prime_expand.specs.Core.{Meaning, Env, Standing, lookup, known_as, names_in}
use Rattle.prime_expand.specs.Core.Meaning.{given}
use Rattle.prime_expand.specs.Env.{means, naming, grouping, defining, env_of, env_step, pushed, pick, entry_of, standing_of, applied_def, core_at, arguing}

-- what is found among entries is what the last of them tells, or what was found before
pub lookup-pushed : (n : ℕ) (es : List (ℕ × Meaning)) (e : Env) → lookup (pushed es e) n ≡ fold (pick n) (lookup e n) es
lookup-pushed n [] e = refl
lookup-pushed n (x ∷ es) e = lookup-pushed n es (x ∷ e)

group-step : (c : Names) (d : ℕ) (ns : List Decl) (o : Option Node) (rest : Groups) (e : Env)
    → grouping c d (with_domain ns (set_of o) rest) e ≡ grouping c (d + length ns) rest (naming c d ns e)
group-step c d ns None rest e = refl
group-step c d ns (Some n) rest e = refl

pub grouping_first : (c : Names) (d : ℕ) (g : Group) (gs : List Group) (e : Env)
    → grouping c d (each_group (g ∷ gs)) e ≡ grouping c (d + length (out-Group g).names) (each_group gs) (naming c d (out-Group g).names e)
grouping_first c d g gs e = ap (λ (f : Groups → Groups). grouping c d (f (each_group gs)) e) (is-group g) ∙ group-step c d (out-Group g).names (out-Group g).domain (each_group gs) e

-- the definitions and one more
pub defining_last : (c : Names) (a : Standing) (ds : List Def) (d : Def) (e : Env)
    → defining c a (each_def (ds ++ d ∷ [])) e ≡ known_as (means c (out-Def d).place) (given (applied_def c d ds a e)) (defining c a (each_def ds) e)
defining_last c a [] d e = ap (λ (f : Defs → Defs). defining c a (f (each_def [])) e) (is-def d)
defining_last c a (b ∷ ds) d e =
    ap (λ (f : Defs → Defs). defining c a (f (each_def (ds ++ d ∷ []))) e) (is-def b)
    ∙ defining_last c a ds d _
    ∙ (λ i. known_as (means c (out-Def d).place) (given (λ k args. applied_round k args (sym (is-def b) i))) (defining c a (sym (is-def b) i (each_def ds)) e))
  where
    applied_round : ℕ → List Both → (Defs → Defs) → Both
    applied_round k args f = core_at c (arguing c k (out-Def d).params args (defining c a (f (each_def ds)) e)) a k (term_of (out-Def d).body)

pub defined-more : (c : Names) (a : Standing) (ds : List Def) (d : Def) (e : Env) (n : ℕ) (o : Option ℕ) → means c (out-Def d).place ≡ o
    → lookup (defining c a (each_def (ds ++ d ∷ [])) e) n ≡ lookup (known_as o (given (applied_def c d ds a e)) (defining c a (each_def ds) e)) n
defined-more c a ds d e n o h = ap (λ l. lookup l n) (defining_last c a ds d e ∙ ap (λ p. known_as p (given (applied_def c d ds a e)) (defining c a (each_def ds) e)) h)

-- ---- environments of the code

pub env-empty : (c : Names) → env_of c variants.Empty ≡ []
unfolding env_of
env-empty c = ap (env_of c) (sym variants.rolls-Empty) ∙ fold-roll-Env Env (env_step c) Env-F.Empty

pub env-known : (c : Names) (ks : Vec Known) (o : Rc env.Env Global) → env_of c (variants.Known ks o) ≡ pushed (map entry_of ks.items) (env_of c o.value)
unfolding env_of
env-known c ks o = ap (env_of c) (sym (variants.rolls-Known ks o)) ∙ fold-roll-Env Env (env_step c) (Env-F.Known ks o)

pub env-definitions : (c : Names) (ds : Bor (List Def)) (a : Rc code.Standing Global) (o : Rc env.Env Global)
    → env_of c (variants.Definitions ds a o) ≡ defining c (standing_of a.value) (each_def ds.now) (env_of c o.value)
unfolding env_of
env-definitions c ds a o = ap (env_of c) (sym (variants.rolls-Definitions ds a o)) ∙ fold-roll-Env Env (env_step c) (Env-F.Definitions ds a o)

names-step : (ns : List Decl) (o : Option Node) (rest : Groups) → names_in (with_domain ns (set_of o) rest) ≡ length ns + names_in rest
names-step ns None rest = refl
names-step ns (Some n) rest = refl

pub names_first : (g : Group) (gs : List Group) → names_in (each_group (g ∷ gs)) ≡ length (out-Group g).names + names_in (each_group gs)
names_first g gs = ap (λ (f : Groups → Groups). names_in (f (each_group gs))) (is-group g) ∙ names-step (out-Group g).names (out-Group g).domain (each_group gs)
