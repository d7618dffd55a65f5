-- Nodes over the cores of what they hold, form by form.
use Rattle.std.proofs.Common.{◌≡◌, ◌⊎◌, ℕ, suc, ◌+◌, List, [], ◌∷◌, ◌++◌, map, length, take, drop, Option, Some, None, IfSome, refl, ap, sym, subst, ◌∙◌, arith}
use Rattle.std.proofs.Math.Seq.{take-append_seam, drop-append_seam}
use Rattle.tla_ast.specs.declared.place.Place.{Place}
use Rattle.tla_ast.specs.declared.tree.Node.{Node, out-Node}
use Rattle.tla_ast.specs.declared.tree.Form.{Form, out-Form, roll-Form, roll-out-Form}
use Rattle.tla_ast.specs.declared.tree.Form.TheFolds.{fold-roll-Form}
use Rattle.tla_ast.specs.declared.tree.Form.TheOpen.{Form-F}
use Rattle.tla_ast.specs.declared.tree.Path.{Path}
use Rattle.tla_ast.specs.declared.tree.Key.{Key}
use Rattle.tla_ast.specs.declared.tree.Group.{Group, out-Group}
use Rattle.tla_ast.specs.declared.tree.Decl.{Decl}
use Rattle.core_expr.specs.declared.head.Binder.{Binder}
use Rattle.core_expr.specs.Tree.{true_}
use Rattle.tla_ast.specs.declared.tree.Def.{Def}
use Rattle.plain_syntax.specs.Plain.{Text, Term, Groups}
use Rattle.plain_syntax.specs.Syntax.{Held, shape_of, key_of, def_of, group_of, node_of, path_of, term_of, terms_of, each_group, with_domain, set_of, keys_of, except_of, updates_of}
use Rattle.plain_syntax.proofs.Forms.{held, by-form, parts_in, is-group}
use Rattle.prime_expand.specs.declared.both.Both.{Both}
use Rattle.prime_expand.specs.declared.env.Names.{Names}
use Rattle.prime_expand.specs.Symbols.{head_in, values}
use Rattle.prime_expand.specs.Core.{Env, lookup, known, by_name, by_value}
use Rattle.prime_expand.specs.Core.Meaning.{given}
use Rattle.prime_expand.specs.Env.{means, entries, used_at}
use Rattle.prime_expand.specs.Both.{same, part_at, seconds}
use Rattle.prime_expand.specs.Forms.{records_of}
use Rattle.prime_expand.specs.Walk.{Point, deeper, core_from, cores_from, joined_by, joined, parts_by, placed, over_from, bound_once, bound_names, bound_groups, updates_from}

count-cores : (c : Names) (q : Point) (ts : List Term) → length (cores_from c q (terms_of ts)) ≡ length ts
count-cores c q [] = refl
count-cores c q (t ∷ ts) = ap suc (count-cores c q ts)

abbrev Unrolled : Type 0
Unrolled = Form-F Form Key Def Group Node Path

-- the two halves of a list
halves : (hs : List Text) (n : ℕ) (xs ys : List Both) → length xs ≡ n → records_of hs (seconds xs) (seconds ys) ≡ records_of hs (seconds (take n (xs ++ ys))) (seconds (drop n (xs ++ ys)))
halves hs n xs ys e =
    sym ((λ i. records_of hs (seconds (take (sym e i) (xs ++ ys))) (seconds (drop (sym e i) (xs ++ ys)))) ∙ (λ i. records_of hs (seconds (take-append_seam xs ys i)) (seconds (drop-append_seam xs ys i))))

rolled : (c : Names) (q : Point) (ts : List Term) (p : Place) (x : Unrolled)
    → IfSome (parts_by c q x (terms_of ts)) (λ bs. core_from c q (held (roll-Form x) ts p) ≡ joined_by c q x p (length ts) bs)
unfolding held
rolled c q ts p (Form-F.Filter x) = tt
rolled c q ts p (Form-F.Image x) = tt
rolled c q ts p (Form-F.Function x) = tt
rolled c q ts p (Form-F.Except ps) = tt
rolled c q ts p (Form-F.Quant all gs) = tt
rolled c q ts p (Form-F.Choose g) = tt
rolled c q ts p (Form-F.Let ds) = tt
rolled c q ts p (Form-F.RecordSet hs) =
    ap (λ (h : Held). core_from c q (h ts p)) (fold-roll-Form _ _ _ _ _ _ shape_of key_of def_of group_of node_of path_of (Form-F.RecordSet hs))
    ∙ halves hs (length ts) (cores_from c q (terms_of ts)) (cores_from c (deeper q) (terms_of ts)) (count-cores c q ts)
rolled c q ts p x = ap (λ (h : Held). core_from c q (h ts p)) (fold-roll-Form _ _ _ _ _ _ shape_of key_of def_of group_of node_of path_of x)

count-parts : (ns : List Node) → length (map term_of ns) ≡ length ns
count-parts [] = refl
count-parts (n ∷ ns) = ap suc (count-parts ns)

pub count-read : (c : Names) (q : Point) (ns : List Node) → length (cores_from c q (terms_of (map term_of ns))) ≡ length ns
count-read c q ns = count-cores c q (map term_of ns) ∙ count-parts ns

-- the core of a node that binds no name
pub core-joined : (c : Names) (q : Point) (n : Node) (bs : List Both) → parts_by c q (out-Form (out-Node n).form) (parts_in n) ≡ Some bs → core_from c q (term_of n) ≡ joined c q n bs
core-joined c q n bs e =
    let f = (out-Node n).form in let ts = map term_of (out-Node n).parts in let p = (out-Node n).place in
    ap (core_from c q) (by-form n (held f) refl)
    ∙ ap (λ g. core_from c q (held g ts p)) (sym (roll-out-Form f))
    ∙ subst (λ o. IfSome o (λ b. core_from c q (held (roll-Form (out-Form f)) ts p) ≡ joined_by c q (out-Form f) p (length ts) b)) e (rolled c q ts p (out-Form f))
    ∙ ap (λ k. joined_by c q (out-Form f) p k bs) (count-parts (out-Node n).parts)

pub over-empty : (c : Names) (q : Point) (b : Binder) (p : Place) (ns : List Node) → length ns ≡ 0 → over_from c q b p (terms_of (map term_of ns)) ≡ same true_
over-empty c q b p [] e = refl
over-empty c q b p (n ∷ ns) e = grind arith

-- one more name of a group
pub one-more-name : (c : Names) (q : Point) (b : Binder) (o : Option Node) (d k e : ℕ) (p : Both) → e ≡ d + suc k
    → bound_names c (placed d q) b o k (bound_once c q b o e p) ≡ bound_names c (placed d q) b o (suc k) p
one-more-name c q b None d k e p h = refl
one-more-name c q b (Some s) d k e p h = ap (λ i. bound_names c (placed d q) b (Some s) k (bound_once c q b (Some s) i p)) h

-- the names of one group, and then of the others
pub groups-first : (c : Names) (q : Point) (b : Binder) (g : Group) (gs : List Group) (p : Both)
    → bound_groups c q b (each_group (g ∷ gs)) p ≡ bound_names c q b (out-Group g).domain (length (out-Group g).names) (bound_groups c (placed (q.depth + length (out-Group g).names) q) b (each_group gs) p)
groups-first c q b g gs p = ap (λ (f : Groups → Groups). bound_groups c q b (f (each_group gs)) p) (is-group g) ∙ by-domain (out-Group g).names (out-Group g).domain
  where
    by-domain : (ns : List Decl) (o : Option Node) → bound_groups c q b (with_domain ns (set_of o) (each_group gs)) p ≡ bound_names c q b o (length ns) (bound_groups c (placed (q.depth + length ns) q) b (each_group gs) p)
    by-domain ns None = refl
    by-domain ns (Some n) = refl

pub except-empty : (c : Names) (q : Point) (ps : List Path) (ns : List Node) (p : Place) → length ns ≡ 0 → core_from c q (except_of (map keys_of ps) (map term_of ns) p) ≡ part_at 0 []
except-empty c q ps [] p e = refl
except-empty c q ps (n ∷ ns) p e = grind arith

-- no update is left
pub no-update : (c : Names) (q : Point) (r : Both) (ps : List Path) (ns : List Node) → ((length ps ≡ 0) ⊎ (length ns ≡ 0)) → updates_from c q r (updates_of (map keys_of ps) (map term_of ns)) ≡ r
no-update c q r [] ns e = refl
no-update c q r (p ∷ ps) [] e = refl
no-update c q r (p ∷ ps) (n ∷ ns) e = grind arith

-- a name of a definition of a LET
pub used-local : (c : Names) (w : Text) (e : Env) (p : Place) (d n : ℕ) (args : List Both) (f : ℕ → List Both → Both) → head_in values w ≡ None → means c p ≡ Some n → lookup e n ≡ Some (given f)
    → used_at c w e p d args ≡ f d args
used-local c w e p d n args f h m l =
    ap (λ o. by_value (means c) (entries c) o e p d args) h
    ∙ ap (λ o. by_name (means c) (entries c) o (known e o) d args) m
    ∙ ap (λ o. by_name (means c) (entries c) (Some n) o d args) l
