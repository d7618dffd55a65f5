-- A line is one record at most.
use Rattle.std.proofs.Common.{◌≡◌, ℕ, List, [], ◌∷◌, ap, sym, refl, ◌∙◌, subst}
use Rattle.std.specs.Prelude.{Option, Some, None}
use Rattle.std.specs.List.{AllZip}
use Rattle.std.proofs.lemmas.Option.{same_Some}
use Rattle.core_expr.specs.declared.canon.Canon.{Canon}
use Rattle.proof_text.specs.Texts.{Shows, ProofsDiffer, ObligationsDiffer, canon_of}
use Rattle.cache_line.specs.declared.line.Line.{Line}
use Rattle.cache_line.specs.Lines.{IsLine}
use Rattle.proof_cache.specs.declared.record.Record.{Record}
use Rattle.cache_file.specs.Records.{IsRead, IsShown, records_in, skipped_in, parts_of}
use Rattle.cache_file.specs.Laws.{RecordsAreOne}

-- a list shows one form
form_once : ObligationsDiffer → (l : List ℕ) (a b : Canon) → Shows l a → Shows l b → a ≡ b
form_once differ l a b p q = p.3 ∙ ap canon_of (differ p.0 q.0 p.1 q.1 (p.2 ∙ sym q.2)) ∙ sym q.3

-- a line has parts once
parts_once : (bytes : List ℕ) (l m : Line) → IsLine bytes l → IsLine bytes m → l ≡ m
parts_once bytes l m p q = same_Some l m (sym p.parts ∙ q.parts)

-- parts keep one record
record_once : ObligationsDiffer → ProofsDiffer → (r q : Record) → IsShown r → IsShown q → parts_of r ≡ parts_of q → r ≡ q
record_once forms proofs r q a b e =
    let o = ap (λ (l : Line). l.obligation) e in
    let c = form_once forms _ r.canon q.canon (subst (λ l. Shows l r.canon) o a.form) b.form in
    let p = proofs r.proof q.proof a.proof b.proof (ap (λ (l : Line). l.proof) e) in
    λ i. record { canon = c i; proof = p i }

module _ (forms : ObligationsDiffer) (proofs : ProofsDiffer) where
  read_once : (l : List ℕ) (o p : Option Record) → IsRead l o → IsRead l p → o ≡ p
  read_once l (Some r) (Some q) a b = ap Some (record_once forms proofs r q a.shown b.shown (parts_once l _ _ a.line b.line))
  read_once l (Some r) None a b = absurd (b r a)
  read_once l None (Some q) a b = absurd (a q b)
  read_once l None None a b = refl

  reads_once : (ls : List (List ℕ)) (os ps : List (Option Record)) → AllZip IsRead ls os → AllZip IsRead ls ps → os ≡ ps
  reads_once [] [] [] a b = refl
  reads_once [] [] (p ∷ ps) a b = absurd b
  reads_once [] (o ∷ os) ps a b = absurd a
  reads_once (l ∷ ls) [] ps a b = absurd a
  reads_once (l ∷ ls) (o ∷ os) [] a b = absurd b
  reads_once (l ∷ ls) (o ∷ os) (p ∷ ps) a b = λ i. read_once l o p a.0 b.0 i ∷ reads_once ls os ps a.1 b.1 i

  pub records_once : RecordsAreOne
  records_once ls rs qs n m a b =
      let e = reads_once ls a.0 b.0 a.1 b.1 in
      (a.2 ∙ ap records_in e ∙ sym b.2, a.3 ∙ ap skipped_in e ∙ sym b.3)
