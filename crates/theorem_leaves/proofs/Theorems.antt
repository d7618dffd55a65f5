-- The context of a theorem's proof, what is told of a theorem, and what units do.
use Rattle.std.proofs.Common.{◌≡◌, ℕ, Bool, List, [], ◌∷◌, ◌++◌, take, length, append_assoc, refl, sym, ap, ◌∙◌}
use Rattle.std.specs.Prelude.{Option, None}
use Rattle.std.proofs.lemmas.List.{append-nil}
use Rattle.tla_ast.specs.declared.place.Place.{Place}
use Rattle.tla_ast.specs.declared.tree.Decl.{Decl}
use Rattle.core_expr.specs.Tree.{Tree, in_}
use Rattle.obligation.specs.declared.obligation.Definition.{Definition}
use Rattle.symbol_table.specs.declared.entry.Entry.{Entry as declared}
use Rattle.symbol_table.specs.Symbols.{symbol_at}
use Rattle.plain_syntax.specs.Plain.{Statement, Proof, UnitKind as u}
use Rattle.proof_contexts.specs.Expansion.{name}
use Rattle.proof_contexts.specs.Steps.{Item}
use Rattle.proof_contexts.specs.Steps.Item.{New, NewIn, Given}
use Rattle.proof_contexts.specs.Contexts.{Entry, Context, told, usable, add, with_goal, with_known, with_items}
use Rattle.proof_contexts.specs.Leaves.{leaves}
use Rattle.proof_contexts.specs.Theorems.{Known, before_it}
use Rattle.known_facts.specs.declared.item.Statement.{Statement as kept_statement}
use Rattle.known_facts.specs.Shown.{items_of, statement_of}
use Rattle.proof_outline.specs.Outline.{outline}
use Rattle.usable_facts.specs.Keys.{theorem_key}
use Rattle.usable_facts.specs.Proofs.{statement, proof_of}
use Rattle.usable_facts.specs.Definitions.{Means}
use Rattle.usable_facts.specs.Theorems.{number_of, cites_in, theorem_of, chosen_keys}
use Rattle.theorem_leaves.specs.declared.chapter.TheoremLeaves.{TheoremLeaves}
use Rattle.theorem_leaves.specs.Citations.{keys_in}
use Rattle.theorem_leaves.specs.Chapters.{name_of, reported}
use Rattle.theorem_leaves.specs.Passing.{IsBase}
use Rattle.theorem_leaves.proofs.Cited.{proof-cites}

-- ---- contexts

-- what items add
abbrev added : Option ℕ → List Item → List Entry
added l [] = []
added l (New x ∷ is) = added l is
added l (NewIn x s ∷ is) = usable l (in_ (name x) s) ∷ added l is
added l (Given a ∷ is) = told l a ∷ added l is

abbrev behind : Context → List Entry → Context
behind c ks = record { known = c.known ++ ks; defs = c.defs; goal = c.goal }

behind-both : (c : Context) (e : Entry) (ks : List Entry) → behind (add c e) ks ≡ behind c (e ∷ ks)
behind-both c e ks = ap (λ k. record { known = k; defs = c.defs; goal = c.goal }) (append_assoc c.known (e ∷ []) ks)

-- items only add known facts behind the others
items-added : (l : Option ℕ) (is : List Item) (c : Context) → with_items l is c ≡ behind c (added l is)
items-added l [] c = ap (λ k. record { known = k; defs = c.defs; goal = c.goal }) (sym (append-nil c.known))
items-added l (New x ∷ is) c = items-added l is c
items-added l (NewIn x s ∷ is) c = items-added l is (add c (usable l (in_ (name x) s))) ∙ behind-both c (usable l (in_ (name x) s)) (added l is)
items-added l (Given a ∷ is) c = items-added l is (add c (told l a)) ∙ behind-both c (told l a) (added l is)

-- the goal before does not count
pub same-start : (l : Option ℕ) (is : List Item) (c d : Context) (g : Tree) → c.known ≡ d.known → c.defs ≡ d.defs
    → with_goal (with_items l is c) g ≡ with_goal (with_items l is d) g
same-start l is c d g k u =
    ap (λ x. with_goal x g) (items-added l is c) ∙ (λ i. record { known = k i ++ added l is; defs = u i; goal = g }) ∙ sym (ap (λ x. with_goal x g) (items-added l is d))

take-front : (xs ys : List Entry) → take (length xs) (xs ++ ys) ≡ xs
take-front [] ys = refl
take-front (x ∷ xs) ys = ap (λ l. x ∷ l) (take-front xs ys)

-- the context again, where the items' facts are taken off and the goal is put back
pub left-again : (l : Option ℕ) (is : List Item) (c : Context) (g : Tree)
    → with_goal (with_known (with_goal (with_items l is c) g) (take (length c.known) (with_items l is c).known)) (with_items l is c).goal ≡ c
left-again l is c g =
    ap (λ w. with_goal (with_known (with_goal w g) (take (length c.known) w.known)) w.goal) (items-added l is c)
    ∙ ap (λ k. record { known = k; defs = c.defs; goal = c.goal }) (take-front c.known (added l is))

pub again : (is : List Item) (c t r p l n : Context) (g b : Tree) (mark : ℕ) → t ≡ with_items None is c → r ≡ with_goal t g → b ≡ t.goal → p ≡ r
    → mark ≡ length c.known → l ≡ with_known p (take mark p.known) → n ≡ with_goal l b → n ≡ c
again is c t r p l n g b mark told goal before kept marked left back =
    let stays : p ≡ with_goal (with_items None is c) g = kept ∙ goal ∙ ap (λ t. with_goal t g) told in
    back
    ∙ (λ i. with_goal ((left ∙ (λ j. with_known (stays j) (take (marked j) (stays j).known))) i) ((before ∙ ap (λ t. t.goal) told) i))
    ∙ left-again None is c g

-- ---- theorems

module _ (table : List Definition) (is_theorem : ℕ → Bool) (entries : List declared) (means : Means) where
  pub reported-is : (i : ℕ) (ks : List Known) (w : Option Decl) (p : Place) (s : Statement) (own : Proof) (r : TheoremLeaves) (o : List (Place × ℕ)) (st : kept_statement) (c : Context)
      → IsBase ks c → o ≡ cites_in (outline own) → statement_of st ≡ statement means entries s
      → r.key ≡ theorem_key i (number_of means w) → r.name ≡ name_of w → r.place ≡ p
      → r.cited ≡ chosen_keys is_theorem (keys_in means (symbol_at o) entries own)
      → r.leaves ≡ leaves table (proof_of means (symbol_at o) entries p 0 own) (with_goal (with_items None (items_of st.items) c) st.goal)
      → r ≡ reported table is_theorem w p (theorem_of entries means i ks p w s own)
  reported-is i ks w p s own r o st c base names same key named at cited found = λ j. record { key = key j; name = named j; place = at j; cited = cites j; leaves = shown j }
    where
      cites : r.cited ≡ (reported table is_theorem w p (theorem_of entries means i ks p w s own)).cited
      cites =
          cited ∙ ap (λ o. chosen_keys is_theorem (keys_in means (symbol_at o) entries own)) names
          ∙ ap (chosen_keys is_theorem) (sym (proof-cites means (symbol_at (cites_in (outline own))) entries own p 0))

      shown : r.leaves ≡ (reported table is_theorem w p (theorem_of entries means i ks p w s own)).leaves
      shown =
          found ∙ ap (λ o. leaves table (proof_of means (symbol_at o) entries p 0 own) (with_goal (with_items None (items_of st.items) c) st.goal)) names
          ∙ ap (λ t. leaves table (proof_of means (symbol_at (cites_in (outline own))) entries p 0 own) (with_goal (with_items None t.items c) t.goal)) same
          ∙ ap (leaves table (proof_of means (symbol_at (cites_in (outline own))) entries p 0 own))
          (same-start None (statement means entries s).items c (before_it (theorem_of entries means i ks p w s own)) (statement means entries s).goal base.0 base.1)
