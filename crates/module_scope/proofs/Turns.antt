-- One module after another.
use Rattle.std.proofs.Common.{◌≡◌, ℕ, List, [], ◌∷◌, ◌++◌, Some, None, Result, Ok, Err, refl, sym, ap, ◌∙◌}
use Rattle.std.specs.Result.{IsErrAnd}
use Rattle.tla_ast.specs.declared.place.Place.{Place}
use Rattle.tla_ast.specs.declared.fault.Kind.{Kind}
use Rattle.tla_ast.specs.declared.fault.ScopeFault.{ScopeFault}
use Rattle.tla_ast.specs.declared.fault.ScopeFault.TheVariants as fault
use Rattle.plain_syntax.specs.Plain.{Text, Module}
use Rattle.symbol_table.specs.declared.entry.Entry.{Entry}
use Rattle.symbol_table.specs.Scoped.{Table}
use Rattle.expression_level.specs.Levels.{Levels}
use Rattle.module_scope.specs.Scope.{Scope}
use Rattle.module_scope.specs.Names.{Book, scope_of, symbols_of, faults_of}
use Rattle.module_scope.specs.Names.Book.{book}
use Rattle.module_scope.specs.Resolution.{Exports, module_names, least, emptied, resolved, after_module}
use Rattle.module_scope.specs.Finished.{Finished, Refused, Answers}

module _ (es : Exports) (m : Module) (b : Book) (ss : Scope) (ns : List Entry) (ls : Levels) (ys : List (Place × ℕ)) (fs : List (Place × Kind)) (walked : book ss ns ls ys fs ≡ module_names es m b) where
  pub finished-is : (export : Text × Scope) (symbols ys2 : List (Place × ℕ)) (fs2 : List (Place × Kind)) → None ≡ least fs → export ≡ (m.name, ss) → symbols ≡ ys → Finished es m b (book ss ns ls ys2 fs2) export symbols
  finished-is export symbols ys2 fs2 none gives means =
      (ap (λ x. least (faults_of x)) (sym walked) ∙ sym none, gives ∙ ap (λ x. (m.name, scope_of x)) walked, means ∙ ap symbols_of walked, ap emptied walked)

  pub refused-is : (f : Place × Kind) (e : ScopeFault) → Some f ≡ least fs → e ≡ fault.At m.name f.0 f.1 → Refused es m b e
  refused-is f e some is = λ _. (f, ap (λ x. least (faults_of x)) (sym walked) ∙ sym some, is)

-- a module begins with what was declared and nothing else
resolved-emptied : (es : Exports) (ss : List (List (Place × ℕ))) (ms : List Module) (b : Book) → resolved es ss ms b ≡ resolved es ss ms (emptied b)
unfolding module_names
resolved-emptied es ss [] (book xs ns ls ys fs) = refl
resolved-emptied es ss (m ∷ ms) (book xs ns ls ys fs) = refl

module _ (es : Exports) (ss : List (List (Place × ℕ))) (m : Module) (ms : List Module) (b : Book) (total : Result Table ScopeFault) (so_far : total ≡ resolved es ss (m ∷ ms) b) where
  pub module-done : (after : Book) (export : Text × Scope) (symbols : List (Place × ℕ)) → Finished es m b after export symbols → total ≡ resolved (es ++ export ∷ []) (ss ++ symbols ∷ []) ms after
  module-done after export symbols (none, gives, means, same) =
      let c = module_names es m b in
      so_far ∙ ap (λ o. after_module m.name c o (resolved (es ++ (m.name, scope_of c) ∷ []) (ss ++ symbols_of c ∷ []) ms)) none
      ∙ (λ i. resolved (es ++ sym gives i ∷ []) (ss ++ sym means i ∷ []) ms c)
      ∙ resolved-emptied (es ++ export ∷ []) (ss ++ symbols ∷ []) ms c ∙ ap (resolved (es ++ export ∷ []) (ss ++ symbols ∷ []) ms) (sym same)
      ∙ sym (resolved-emptied (es ++ export ∷ []) (ss ++ symbols ∷ []) ms after)

  pub module-refused : (e : ScopeFault) → Refused es m b e → (e ≡ fault.Memory → ⊥) → total ≡ Err e
  module-refused e refused here =
      let r = refused here in
      let c = module_names es m b in
      so_far ∙ ap (λ o. after_module m.name c o (resolved (es ++ (m.name, scope_of c) ∷ []) (ss ++ symbols_of c ∷ []) ms)) r.1 ∙ ap Err (sym r.2)

-- a fault is passed on as it is
pub err-answers : (r : Result Table ScopeFault) (e : ScopeFault) (defined : Result Table ScopeFault) → IsErrAnd r (λ x. x ≡ e) → ((e ≡ fault.Memory → ⊥) → defined ≡ Err e) → Answers r defined
err-answers (Ok t) e defined h f = absurd h
err-answers (Err x) e defined h f = λ n. f (λ q. n (h ∙ q)) ∙ ap Err (sym h)
