-- The walk that takes a universal apart into signed atoms.
use Rattle.std.proofs.Common.{◌≡◌, ℕ, suc, ◌+◌, ◌-◌, ◌*◌, ◌^◌, ◌<◌, ◌≤◌, List, [], ◌∷◌, ◌++◌, length, refl, ap, sym, ◌∙◌, arith, subst, append-nil, append_assoc}
use Rattle.core_expr.specs.declared.head.Sym.{Sym}
use Rattle.core_expr.specs.Tree.{Tree}
use Rattle.core_expr.specs.Tree.Tree.{app}
use Rattle.core_expr.specs.Tree.Parts.{end}
use Rattle.core_expr.specs.Put.{IsScoped, inst}
use Rattle.core_expr.specs.Terms.{nodes}
use Rattle.core_expr.specs.Nodes.{canon_sym}
use Rattle.search_definition.specs.Instances.{Universal, atoms, signed_atoms}
use Rattle.search_definition.specs.Laws.{AtomsHaveRoom}
use Rattle.search_definition.proofs.Lefts.{put_scoped}
use Rattle.formula_rules.specs.declared.quantified.Quantified.{Quantified}
use Rattle.formula_rules.specs.Answers.{universal_of}
use Rattle.term_bank.specs.Banks.{IsDistinct, Extends, HasTree, tree_at}
use Rattle.term_bank.proofs.InstLaws.{same_tree, longer, Extends-trans}
use Rattle.instance_terms.specs.declared.fresh.SignedAtom.{SignedAtom}
use Rattle.instance_terms.specs.declared.expand.Part.{Part}
use Rattle.instance_terms.specs.declared.expand.Expansion.{Expansion}
use Rattle.instance_terms.specs.declared.expand.Expansion.TheVariants.{Nothing, Atom, One, Two, Four}
use Rattle.instance_terms.specs.declared.atoms.Task.{Task}
use Rattle.instance_terms.specs.Fresh.{meta_from, signed_of}
use Rattle.instance_terms.specs.Atoms.{IsPart, part_atoms, expanded, HasParts}
use Rattle.instance_terms.specs.Tasks.{task_of, tasks_pushed, atoms_noted, signeds, AtomsBelow, IsTurn, to_do, AreTasks, room_for, IsListing}

to_do-push : (ts : List Tree) (name : ℕ → Sym) (room : ℕ) (stack : List Task) (t : Task) → to_do ts name room (stack ++ t ∷ []) ≡ part_atoms ts name (room - t.steps) t.part ++ to_do ts name room stack
to_do-push ts name room [] t = sym (append-nil (part_atoms ts name (room - t.steps) t.part))
to_do-push ts name room (s ∷ stack) t =
    ap (λ xs. xs ++ part_atoms ts name (room - s.steps) s.part) (to_do-push ts name room stack t) ∙ append_assoc (part_atoms ts name (room - t.steps) t.part) (to_do ts name room stack) (part_atoms ts name (room - s.steps) s.part)

signeds-push : (ts : List Tree) (found : List SignedAtom) (a : SignedAtom) → signeds ts (found ++ a ∷ []) ≡ signeds ts found ++ signed_of ts a ∷ []
signeds-push ts [] a = refl
signeds-push ts (b ∷ found) a = ap (λ xs. signed_of ts b ∷ xs) (signeds-push ts found a)

-- what stays when the bank grows
signeds-more : (ts now : List Tree) (found : List SignedAtom) → Extends ts now → AtomsBelow (length ts) found → signeds now found ≡ signeds ts found
signeds-more ts now [] x b = refl
signeds-more ts now (a ∷ found) x b = λ i. record { holds = a.holds; atom = same_tree ts now a.atom x b.0 i; metas = a.metas } ∷ signeds-more ts now found x b.1 i

part-more : (ts now : List Tree) (p : Part) → Extends ts now → IsPart ts p → IsPart now p
part-more ts now p x h =
    record { within = let l = longer ts now x in let w = h.within in omega (arith, l, w); closed = subst (IsScoped 0) (sym (same_tree ts now p.formula x h.within)) h.closed }

to_do-more : (ts now : List Tree) (name : ℕ → Sym) (room n : ℕ) (stack : List Task) → Extends ts now → AreTasks ts n stack → to_do now name room stack ≡ to_do ts name room stack
to_do-more ts now name room n [] x a = refl
to_do-more ts now name room n (t ∷ stack) x a =
    λ i. to_do-more ts now name room n stack x a.2 i ++ atoms name (room - t.steps) t.part.metas t.part.holds (same_tree ts now t.part.formula x a.0.within i)

tasks-more : (ts now : List Tree) (n m : ℕ) (stack : List Task) → Extends ts now → n ≤ m → AreTasks ts n stack → AreTasks now m stack
tasks-more ts now n m [] x l a = tt
tasks-more ts now n m (t ∷ stack) x l a = (part-more ts now t.part x a.0, (let s = a.1 in omega (arith, l, s)), tasks-more ts now n m stack x l a.2)

atoms-more : (n m : ℕ) (found : List SignedAtom) → n ≤ m → AtomsBelow n found → AtomsBelow m found
atoms-more n m [] l b = tt
atoms-more n m (a ∷ found) l b = (let w = b.0 in omega (arith, l, w), atoms-more n m found l b.1)

atoms-push : (n : ℕ) (found : List SignedAtom) (a : SignedAtom) → AtomsBelow n found → a.atom < n → AtomsBelow n (found ++ a ∷ [])
atoms-push n [] a b l = (l, tt)
atoms-push n (c ∷ found) a b l = (b.0, atoms-push n found a b.1 l)

tasks-push : (ts : List Tree) (n : ℕ) (stack : List Task) (p : Part) (steps : ℕ) → AreTasks ts n stack → IsPart ts p → steps ≤ n → AreTasks ts n (stack ++ task_of p steps ∷ [])
tasks-push ts n [] p steps a h l = (h, l, tt)
tasks-push ts n (t ∷ stack) p steps a h l = (a.0, a.1, tasks-push ts n stack p steps a.2 h l)

tasks-last : (ts : List Tree) (n : ℕ) (stack : List Task) (t : Task) → AreTasks ts n (stack ++ t ∷ []) → AreTasks ts n stack × IsPart ts t.part × (t.steps ≤ n)
tasks-last ts n [] t a = (tt, a.0, a.1)
tasks-last ts n (s ∷ stack) t a = let r = tasks-last ts n stack t a.2 in ((a.0, a.1, r.0), r.1, r.2)

pub taken_task : (ts now : List Tree) (name : ℕ → Sym) (u : Universal) (n : ℕ) (found : List SignedAtom) (stack mid : List Task) (t : Task) → stack ≡ mid ++ t ∷ [] → IsListing ts now name u n found stack → AreTasks now n mid × IsPart now t.part × (t.steps ≤ n)
taken_task ts now name u n found stack mid t z h = tasks-last now n mid t (subst (AreTasks now n) z h.tasks)

-- the tasks that an expansion leaves
tasks_next : (ts : List Tree) (n steps : ℕ) (stack : List Task) (e : Expansion) → AreTasks ts n stack → HasParts ts e → steps ≤ n → AreTasks ts n (tasks_pushed stack e steps)
tasks_next ts n steps stack Nothing a h l = a
tasks_next ts n steps stack Atom a h l = a
tasks_next ts n steps stack (One p) a h l = tasks-push ts n stack p steps a h l
tasks_next ts n steps stack (Two p q) a h l =
    tasks-push ts n (stack ++ task_of q steps ∷ []) p steps (tasks-push ts n stack q steps a h.1 l) h.0 l
tasks_next ts n steps stack (Four p q r s) a h l =
    tasks-push ts n (((stack ++ task_of s steps ∷ []) ++ task_of r steps ∷ []) ++ task_of q steps ∷ []) p steps
    (tasks-push ts n ((stack ++ task_of s steps ∷ []) ++ task_of r steps ∷ []) q steps (tasks-push ts n (stack ++ task_of s steps ∷ []) r steps (tasks-push ts n stack s steps a h.3 l) h.2 l) h.1 l) h.0 l

noted_below : (n : ℕ) (found : List SignedAtom) (p : Part) (e : Expansion) → AtomsBelow n found → p.formula < n → AtomsBelow n (atoms_noted found p e)
noted_below n found p Nothing b l = b
noted_below n found p Atom b l = atoms-push n found (record { holds = p.holds; atom = p.formula; metas = p.metas }) b l
noted_below n found p (One a) b l = b
noted_below n found p (Two a c) b l = b
noted_below n found p (Four a c d e) b l = b

-- what an expansion adds and leaves is what it stands for
expansion_lists : (ts : List Tree) (name : ℕ → Sym) (room steps : ℕ) (found : List SignedAtom) (mid : List Task) (p : Part) (t : Tree) (e : Expansion) → tree_at ts p.formula ≡ t → signeds ts found ++ (expanded ts name (room - steps) p t e ++ to_do ts name room mid) ≡ signeds ts (atoms_noted found p e) ++ to_do ts name room (tasks_pushed mid e steps)
expansion_lists ts name room steps found mid p t Nothing h = refl
expansion_lists ts name room steps found mid p t Atom h =
    sym (append_assoc (signeds ts found) (record { holds = p.holds; atom = t; metas = p.metas } ∷ []) (to_do ts name room mid))
    ∙ ap (λ xs. xs ++ to_do ts name room mid) ((λ i. signeds ts found ++ record { holds = p.holds; atom = sym h i; metas = p.metas } ∷ []) ∙ sym (signeds-push ts found (record { holds = p.holds; atom = p.formula; metas = p.metas })))
expansion_lists ts name room steps found mid p t (One a) h = ap (λ xs. signeds ts found ++ xs) (sym (to_do-push ts name room mid (task_of a steps)))
expansion_lists ts name room steps found mid p t (Two a b) h =
    let r = room - steps in
    ap (λ xs. signeds ts found ++ xs)
    (append_assoc (part_atoms ts name r a) (part_atoms ts name r b) (to_do ts name room mid) ∙ ap (λ xs. part_atoms ts name r a ++ xs) (sym (to_do-push ts name room mid (task_of b steps)))
    ∙ sym (to_do-push ts name room (mid ++ task_of b steps ∷ []) (task_of a steps)))
expansion_lists ts name room steps found mid p t (Four a b c d) h =
    let r = room - steps in
    let one : List Task = mid ++ task_of d steps ∷ [] in
    let two : List Task = one ++ task_of c steps ∷ [] in
    let three : List Task = two ++ task_of b steps ∷ [] in
    ap (λ xs. signeds ts found ++ xs)
    (append_assoc (part_atoms ts name r a ++ part_atoms ts name r b) (part_atoms ts name r c ++ part_atoms ts name r d) (to_do ts name room mid)
    ∙ append_assoc (part_atoms ts name r a) (part_atoms ts name r b) ((part_atoms ts name r c ++ part_atoms ts name r d) ++ to_do ts name room mid)
    ∙ ap (λ xs. part_atoms ts name r a ++ (part_atoms ts name r b ++ xs)) (append_assoc (part_atoms ts name r c) (part_atoms ts name r d) (to_do ts name room mid) ∙ ap (λ xs. part_atoms ts name r c ++ xs) (sym (to_do-push ts name room mid (task_of d steps))) ∙ sym (to_do-push ts name room one (task_of c steps)))
    ∙ ap (λ xs. part_atoms ts name r a ++ xs) (sym (to_do-push ts name room two (task_of b steps)))
    ∙ sym (to_do-push ts name room three (task_of a steps)))

-- the walk's turns
pub listing_turn : (ts now new : List Tree) (name : ℕ → Sym) (u : Universal) (n : ℕ) (found more : List SignedAtom) (stack mid next : List Task) (t : Task) → stack ≡ mid ++ t ∷ [] → t.steps < room_for u.body → Extends now new → IsDistinct new → IsTurn now new name t found more mid next → IsListing ts now name u n found stack → IsListing ts new name u (n + 1) more next
listing_turn ts now new name u n found more stack mid next t z room x d v h =
    record {
      atoms = h.atoms ∙ ap (λ xs. signeds now found ++ to_do now name (room_for u.body) xs) z
          ∙ ap (λ xs. signeds now found ++ xs) (to_do-push now name (room_for u.body) mid t ∙ ap (λ xs. xs ++ to_do now name (room_for u.body) mid) (ap (λ r. part_atoms now name r t.part) left ∙ v.expands.same (room_for u.body - (t.steps + 1))))
          ∙ (λ i. sym (signeds-more now new found x h.below) i ++ (expanded new name (room_for u.body - (t.steps + 1)) t.part (tree_at now t.part.formula) v.expansion ++ sym (to_do-more now new name (room_for u.body) n mid x rest.0) i))
          ∙ expansion_lists new name (room_for u.body) (t.steps + 1) found mid t.part (tree_at now t.part.formula) v.expansion (same_tree now new t.part.formula x rest.1.within)
          ∙ (λ i. signeds new (sym v.found_is i) ++ to_do new name (room_for u.body) (sym v.stack_is i));
      tasks = subst (AreTasks new (n + 1)) (sym v.stack_is) (tasks_next new (n + 1) (t.steps + 1) mid v.expansion (tasks-more now new n (n + 1) mid x (omega arith) rest.0) v.expands.parts (let s = rest.2 in omega (arith, s)));
      below = subst (AtomsBelow (length new)) (sym v.found_is) (noted_below (length new) found t.part v.expansion (atoms-more (length now) (length new) found (longer now new x) h.below) (let l = longer now new x in let w = rest.1.within in omega (arith, l, w)));
      extends = Extends-trans ts now new h.extends x;
      distinct = d;
    }
  where
    rest : AreTasks now n mid × IsPart now t.part × (t.steps ≤ n)
    rest = taken_task ts now name u n found stack mid t z h

    left : room_for u.body - t.steps ≡ suc (room_for u.body - (t.steps + 1))
    left = fewer (room_for u.body) t.steps room
      where
        fewer : (a b : ℕ) → b < a → a - b ≡ suc (a - (b + 1))
        fewer a b l = omega arith

pub listing_start : AtomsHaveRoom → (ts two now : List Tree) (first number meta formula : ℕ) (q : Quantified) (found : List SignedAtom) (none stack : List Task) → IsDistinct now → Extends ts two → Extends two now → q.body < length ts → number ≡ first + 2 * 0 → HasTree two meta (app (canon_sym number 0) end) → HasTree now formula (inst (tree_at two q.body) (tree_at two meta)) → found ≡ [] → none ≡ [] → stack ≡ none ++ task_of (record { holds = q.holds; formula = formula; metas = 1 }) 0 ∷ []
    → IsListing ts now (meta_from first) (universal_of ts q) 0 found stack
listing_start law ts two now first number meta formula q found none stack d x y l en g h ef eo es =
    subst (λ f. IsListing ts now (meta_from first) (universal_of ts q) 0 f stack) (sym ef) (subst (IsListing ts now (meta_from first) (universal_of ts q) 0 []) (sym (es ∙ ap (λ xs. xs ++ task_of (record { holds = q.holds; formula = formula; metas = 1 }) 0 ∷ []) eo)) (record {
      atoms = sym (law (meta_from first) (room_for (tree_at ts q.body)) (universal_of ts q) (enough (4 * nodes (tree_at ts q.body)) (2 ^ 64))) ∙ (λ i. atoms (meta_from first) (whole (room_for (tree_at ts q.body)) i) 1 q.holds (sym (h.tree ∙ opened) i));
      tasks = (record { within = h.within; closed = subst (IsScoped 0) (sym (h.tree ∙ opened)) (put_scoped 0 (tree_at ts q.body) (app (meta_from first 0) end) tt) }, omega arith, tt);
      below = tt;
      extends = Extends-trans ts two now x y;
      distinct = d;
    }))
  where
    enough : (a b : ℕ) → a ≤ a + b
    enough a b = omega arith

    whole : (a : ℕ) → a ≡ a - 0
    whole a = omega arith

    opened : inst (tree_at two q.body) (tree_at two meta) ≡ inst (tree_at ts q.body) (app (meta_from first 0) end)
    opened = λ i. inst (same_tree ts two q.body x l i) ((g.tree ∙ ap (λ n. app (canon_sym n 0) end) en) i)

pub listing_end : (ts now : List Tree) (name : ℕ → Sym) (u : Universal) (n : ℕ) (found : List SignedAtom) (stack : List Task) → stack ≡ [] → IsListing ts now name u n found stack → signeds now found ≡ signed_atoms name u
listing_end ts now name u n found stack z h =
    sym (h.atoms ∙ ap (λ xs. signeds now found ++ to_do now name (room_for u.body) xs) z ∙ append-nil (signeds now found))

pub in_room : (steps n : ℕ) → steps < 18446744073709551615 → steps < 4 * n + 2 ^ 64
in_room steps n h = omega arith
