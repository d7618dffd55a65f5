-- What words ask for. The statement is the contract of a function of src/laws.rt.
use Rattle.std.specs.Prelude.{◌≡◌, List}
use Rattle.clap.specs.Words.{Text}
use Rattle.command_words.specs.Requests.{Asked, IsAsked}

-- words ask for one thing at most
abbrev pub AskedOnce : Type 0
AskedOnce = (words : List Text) (a b : Asked) → IsAsked words a → IsAsked words b → a ≡ b
