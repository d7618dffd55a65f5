-- What tasks do, one by one and together.
use Rattle.std.proofs.Common.{◌≡◌, ℕ, suc, ◌+◌, ◌-◌, List, [], ◌∷◌, ◌++◌, length, take, drop, refl, ap, sym, subst, ◌∙◌, arith, append_assoc, length-append, slice_index_or, remove, ◌<◌, ◌≤◌}
use Rattle.std.proofs.lemmas.List.{drop_more}
use Rattle.std.proofs.Math.Seq.{take-append_seam, drop-append_seam}
use Rattle.tla_ast.specs.declared.tree.Node.{Node}
use Rattle.tla_ast.specs.declared.tree.Form.{Form}
use Rattle.tla_ast.specs.declared.tree.Form.TheFolds.{fold-roll-Key}
use Rattle.tla_ast.specs.declared.tree.Form.TheOpen.{Key-F}
use Rattle.tla_ast.specs.declared.tree.Path.{Path}
use Rattle.tla_ast.specs.declared.tree.Key.{Key, out-Key, roll-Key, roll-out-Key}
use Rattle.tla_ast.specs.declared.tree.Group.{Group}
use Rattle.tla_ast.specs.declared.tree.Def.{Def}
use Rattle.plain_syntax.specs.Plain.{Terms, Keys}
use Rattle.plain_syntax.specs.Plain.Terms.{part}
use Rattle.plain_syntax.specs.Plain.Keys.{end_keys}
use Rattle.plain_syntax.specs.Syntax.{shape_of, key_of, def_of, group_of, node_of, path_of, term_of, each_key, key_keys}
use Rattle.prime_expand.specs.declared.both.Both.{Both}
use Rattle.prime_expand.specs.declared.env.Names.{Names}
use Rattle.prime_expand.specs.declared.task.Task.{Task}
use Rattle.prime_expand.specs.Forms.{string}
use Rattle.prime_expand.specs.Walk.{Point, core_from, cores_from, keys_from, taken, run, finish}

-- the tasks on top come first
pub finish-more : (c : Names) (ts us : List Task) (vs : List Both) → finish c (ts ++ us) vs ≡ finish c ts (finish c us vs)
finish-more c [] us vs = refl
finish-more c (t ∷ ts) us vs = ap (run c t) (finish-more c ts us vs)

-- what is taken is all that came last
pub taken-on : (k : ℕ) (vs bs : List Both) (f : List Both → Both) → length bs ≡ k → taken k (vs ++ bs) f ≡ vs ++ f bs ∷ []
taken-on k vs bs f e =
    let n : length (vs ++ bs) - k ≡ length vs = omega (arith, length-append vs bs, e) in
    (λ i. take (n i) (vs ++ bs) ++ f (drop (n i) (vs ++ bs)) ∷ []) ∙ (λ i. take-append_seam vs bs i ++ f (drop-append_seam vs bs i) ∷ [])

-- an expression that is read next
pub reads-next : (c : Names) (ts : List Task) (t : Task) (s : Point) (n : Node) (vs : List Both) (rest : Terms)
    → ((ws : List Both) → run c t ws ≡ ws ++ core_from c s (term_of n) ∷ [])
    → (goal : List Both → List Both) → ((ws : List Both) → finish c ts ws ≡ goal (ws ++ cores_from c s rest))
    → finish c (ts ++ t ∷ []) vs ≡ goal (vs ++ cores_from c s (part (term_of n) rest))
reads-next c ts t s n vs rest r goal f =
    finish-more c ts (t ∷ []) vs ∙ ap (finish c ts) (r vs) ∙ f (vs ++ core_from c s (term_of n) ∷ []) ∙ ap goal (append_assoc vs (core_from c s (term_of n) ∷ []) (cores_from c s rest))

-- the last item of those that are left, from behind
pub one-more : {A : Type 0} (l : List A) (i : ℕ) (x : A) → 0 < i → i ≤ length l → x ≡ slice_index_or l (i - 1) x → drop (i - 1) l ≡ x ∷ drop i l
one-more l i x p q e =
    let n : (i - 1) + 1 ≡ i = omega (arith, p) in
    drop_more l (i - 1) x (omega (arith, p, q)) ∙ (λ j. sym e j ∷ drop (n j) l)

-- a key is one core
key-core : (c : Names) (q : Point) (k : Key) → (b : Both) × ((ks : Keys) → keys_from c q (key_keys k ks) ≡ b ∷ keys_from c q ks)
unfolding key_keys term_of
key-core c q k = subst HasCore (roll-out-Key k) (rolled (out-Key k))
  where
    HasCore : Key → Type 0
    HasCore j = (b : Both) × ((ks : Keys) → keys_from c q (key_keys j ks) ≡ b ∷ keys_from c q ks)

    rolled : (x : Key-F Form Key Def Group Node Path) → HasCore (roll-Key x)
    rolled (Key-F.Key::At n) = (core_from c q (term_of n), λ ks. ap (λ (f : Keys → Keys). keys_from c q (f ks)) (fold-roll-Key _ _ _ _ _ _ shape_of key_of def_of group_of node_of path_of (Key-F.Key::At n)))
    rolled (Key-F.Key::Field h) = (string h, λ ks. ap (λ (f : Keys → Keys). keys_from c q (f ks)) (fold-roll-Key _ _ _ _ _ _ shape_of key_of def_of group_of node_of path_of (Key-F.Key::Field h)))

-- a key alone, before others
keys-one : (c : Names) (q : Point) (k : Key) (ks : Keys) → keys_from c q (key_keys k end_keys) ++ keys_from c q ks ≡ keys_from c q (key_keys k ks)
keys-one c q k ks = let h = key-core c q k in ap (λ l. l ++ keys_from c q ks) (h.1 end_keys) ∙ sym (h.1 ks)

pub count-keys : (c : Names) (q : Point) (ks : List Key) → length (keys_from c q (each_key ks)) ≡ length ks
count-keys c q [] = refl
count-keys c q (k ∷ ks) = ap length ((key-core c q k).1 (each_key ks)) ∙ ap suc (count-keys c q ks)

-- a key that is read next
pub key-next : (c : Names) (ts us : List Task) (s : Point) (k : Key) (vs : List Both) (rest : List Key) (goal : List Both → List Both)
    → ((ws : List Both) → finish c us ws ≡ finish c ts (ws ++ keys_from c s (each_key (k ∷ []))))
    → ((ws : List Both) → finish c ts ws ≡ goal (ws ++ keys_from c s (each_key rest)))
    → finish c us vs ≡ goal (vs ++ keys_from c s (each_key (k ∷ rest)))
key-next c ts us s k vs rest goal r f = r vs ∙ f (vs ++ keys_from c s (each_key (k ∷ []))) ∙ ap goal (append_assoc vs (keys_from c s (each_key (k ∷ []))) (keys_from c s (each_key rest)) ∙ ap (λ l. vs ++ l) (keys-one c s k (each_key rest)))

-- the last task, where it takes all that came last
pub joins : (c : Names) (ts us : List Task) (t : Task) (k : ℕ) (f : List Both → Both) (vs bs : List Both) (v : Both) → us ≡ ts ++ t ∷ [] → ((ws : List Both) → run c t ws ≡ taken k ws f) → length bs ≡ k → f bs ≡ v
    → finish c us (vs ++ bs) ≡ finish c ts (vs ++ v ∷ [])
joins c ts us t k f vs bs v u r e h =
    ap (λ l. finish c l (vs ++ bs)) u ∙ finish-more c ts (t ∷ []) (vs ++ bs) ∙ ap (finish c ts) (r (vs ++ bs) ∙ taken-on k vs bs f e ∙ ap (λ b. vs ++ b ∷ []) h)

-- an expression that is read next, and nothing else
pub reads-last : (c : Names) (ts us : List Task) (t : Task) (q : Point) (n : Node) (vs : List Both) → us ≡ ts ++ t ∷ [] → ((ws : List Both) → run c t ws ≡ ws ++ core_from c q (term_of n) ∷ [])
    → finish c us vs ≡ finish c ts (vs ++ core_from c q (term_of n) ∷ [])
reads-last c ts us t q n vs u r = ap (λ l. finish c l vs) u ∙ finish-more c ts (t ∷ []) vs ∙ ap (finish c ts) (r vs)

-- the first item of a list, which is taken from it
pub taken-first : (l : List Both) (x : Both) (rest : List Both) → 0 < length l → x ≡ slice_index_or l 0 x → rest ≡ remove l 0 → l ≡ x ∷ rest
taken-first [] x rest p e r = grind arith
taken-first (y ∷ ys) x rest p e r = λ i. sym e i ∷ sym r i
