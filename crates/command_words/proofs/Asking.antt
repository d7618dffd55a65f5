-- What words ask for is what their texts ask for, and they ask for one thing at most.
use Rattle.std.specs.Prelude.{◌≡◌, Option, Some, None}
use Rattle.std.proofs.Common.{ℕ, List, ap, sym, ◌∙◌, subst}
use Rattle.clap.specs.Words.{Text}
use Rattle.command_words.specs.declared.request.Given.{Given}
use Rattle.command_words.specs.Words.{rows, IsNumber}
use Rattle.command_words.specs.Requests.{Asked, Gives, GivesAsked, IsAsked, IsDemo, IsRoot, flag_of}
use Rattle.command_words.specs.Laws.{AskedOnce}

-- lawful words give texts that ask for the same
pub texts_ask : (words : List Text) (g : Given) (a : Asked) → Gives (rows words) g → IsAsked words a → GivesAsked g a
texts_ask words g a given asked = record {
  root = subst (λ (o : Option (List ℕ)). IsRoot o a.root) (sym given.root) asked.root;
  turns = subst (λ (o : Option (List ℕ)). IsNumber 100000 1000000 o a.turns) (sym given.turns) asked.turns;
  workers = subst (λ (o : Option (List ℕ)). IsNumber 4 64 o a.workers) (sym given.workers) asked.workers;
  demo = subst (λ (o : Option (List ℕ)). IsDemo o a.demo) (sym given.demo) asked.demo;
  stop = asked.stop ∙ ap flag_of (sym given.stop);
  json = asked.json ∙ ap flag_of (sym given.json);
  cache = asked.cache ∙ sym given.cache;
}

-- a text gives one name, one number and one number of theorems
root_once : (o : Option (List ℕ)) (a b : List ℕ) → IsRoot o a → IsRoot o b → a ≡ b
root_once None a b p q = absurd p
root_once (Some word) a b p q = p.0 ∙ sym q.0

number_once : (other greatest : ℕ) (o : Option (List ℕ)) (a b : ℕ) → IsNumber other greatest o a → IsNumber other greatest o b → a ≡ b
number_once other greatest None a b p q = p ∙ sym q
number_once other greatest (Some t) a b p q = sym p.1 ∙ q.1

demo_once : (o : Option (List ℕ)) (a b : Option ℕ) → IsDemo o a → IsDemo o b → a ≡ b
demo_once None a b p q = p ∙ sym q
demo_once (Some t) None b p q = absurd p
demo_once (Some t) (Some m) None p q = absurd q
demo_once (Some t) (Some m) (Some n) p q = ap Some (number_once 1 1000 (Some t) m n p q)

pub asked_once : AskedOnce
asked_once words a b p q =
    let root = root_once _ a.root b.root p.root q.root in
    let turns = number_once 100000 1000000 _ a.turns b.turns p.turns q.turns in
    let workers = number_once 4 64 _ a.workers b.workers p.workers q.workers in
    let demo = demo_once _ a.demo b.demo p.demo q.demo in
    let stop = p.stop ∙ sym q.stop in
    let json = p.json ∙ sym q.json in
    let cache = p.cache ∙ sym q.cache in
    λ i. record { root = root i; turns = turns i; workers = workers i; demo = demo i; stop = stop i; json = json i; cache = cache i }
