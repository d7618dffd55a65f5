-- What lawful words ask for.
use Rattle.std.specs.Prelude.{◌≡◌, ℕ, Bool, true, false, List, [], ◌∷◌, codes, Some, None, Option, option_map}
use Rattle.core_expr.specs.Terms.{lists_equal}
use Rattle.tla_ast.specs.Word.{is_identifier}
use Rattle.clap.specs.Words.{Row, Text, first_of}
use Rattle.command_words.specs.declared.request.Given.{Given}
use Rattle.command_words.specs.declared.request.Request.{Request}
use Rattle.command_words.specs.Words.{IsTaken, rows, IsNumber}

-- a flag by the text of its row: set exactly where the text is `true`
abbrev pub flag_of : Option (List ℕ) → Bool
flag_of None = false
flag_of (Some t) = lists_equal t (codes "true")

-- the texts that are found
pub record Gives (rows : List Row) (g : Given) : Type 0 where
  pub root : option_map (λ s. s.now) g.root ≡ first_of (codes "module") rows
  pub turns : option_map (λ s. s.now) g.turns ≡ first_of (codes "turns") rows
  pub workers : option_map (λ s. s.now) g.workers ≡ first_of (codes "workers") rows
  pub demo : option_map (λ s. s.now) g.demo ≡ first_of (codes "demo") rows
  pub stop : option_map (λ s. s.now) g.stop ≡ first_of (codes "stop") rows
  pub json : option_map (λ s. s.now) g.json ≡ first_of (codes "json") rows
  pub cache : option_map (λ s. s.now) g.cache ≡ first_of (codes "cache") rows

-- a word without the ending .tla, where it has it
abbrev pub without_ending : List ℕ → List ℕ
without_ending [] = []
without_ending (c ∷ cs) = elim (lists_equal (c ∷ cs) (codes ".tla")) [ true ↦ [] | false ↦ c ∷ without_ending cs ]

-- the root module's name, by the word for it
abbrev pub IsRoot : Option (List ℕ) → List ℕ → Type 0
IsRoot None name = ⊥
IsRoot (Some word) name = (name ≡ without_ending word) × (is_identifier name ≡ true)

-- the number of theorems of a demonstration, by the text for it
abbrev pub IsDemo : Option (List ℕ) → Option ℕ → Type 0
IsDemo None o = o ≡ None
IsDemo (Some t) None = ⊥
IsDemo (Some t) (Some n) = IsNumber 1 1000 (Some t) n

-- What words ask for: a root module, a limit of turns, a number of workers, the number of theorems of a demonstration, whether to stop,
-- whether the report is JSON, and the file of a cache.
pub record Asked : Type 0 where
  pub root : List ℕ
  pub turns : ℕ
  pub workers : ℕ
  pub demo : Option ℕ
  pub stop : Bool
  pub json : Bool
  pub cache : Option (List ℕ)

-- what a request asks for
abbrev pub asked_by : Request → Asked
asked_by r = record { root = r.root.now; turns = r.turns; workers = r.workers; demo = r.demo; stop = r.stop; json = r.json; cache = option_map (λ s. s.now) r.cache }

-- the texts ask for this
pub record GivesAsked (g : Given) (a : Asked) : Type 0 where
  pub root : IsRoot (option_map (λ s. s.now) g.root) a.root
  pub turns : IsNumber 100000 1000000 (option_map (λ s. s.now) g.turns) a.turns
  pub workers : IsNumber 4 64 (option_map (λ s. s.now) g.workers) a.workers
  pub demo : IsDemo (option_map (λ s. s.now) g.demo) a.demo
  pub stop : a.stop ≡ flag_of (option_map (λ s. s.now) g.stop)
  pub json : a.json ≡ flag_of (option_map (λ s. s.now) g.json)
  pub cache : a.cache ≡ option_map (λ s. s.now) g.cache

-- the words are lawful and ask for this: the command takes them, the module's word is an identifier but for one ending, and the numbers are in range
pub record IsAsked (words : List Text) (a : Asked) : Type 0 where
  pub taken : IsTaken words
  pub root : IsRoot (first_of (codes "module") (rows words)) a.root
  pub turns : IsNumber 100000 1000000 (first_of (codes "turns") (rows words)) a.turns
  pub workers : IsNumber 4 64 (first_of (codes "workers") (rows words)) a.workers
  pub demo : IsDemo (first_of (codes "demo") (rows words)) a.demo
  pub stop : a.stop ≡ flag_of (first_of (codes "stop") (rows words))
  pub json : a.json ≡ flag_of (first_of (codes "json") (rows words))
  pub cache : a.cache ≡ first_of (codes "cache") (rows words)

-- the words ask for nothing
abbrev pub Unlawful : List Text → Type 0
Unlawful words = (a : Asked) → IsAsked words a → ⊥
