-- Lists of items: what every rule with a comma, a bullet or a further name is made of.
use Rattle.std.specs.Prelude.{ℕ, zero, suc, Bool, if◌then◌else◌, List, [], ◌∷◌, ◌++◌, length, Ok, Err}
use Rattle.tla_ast.specs.declared.tree.Decl.{Decl}
use Rattle.token_reader.specs.declared.mark.Mark.{Mark}
use Rattle.token_reader.specs.declared.mark.Mark.TheVariants as m
use Rattle.token_reader.specs.declared.setting.Setting.{Setting}
use Rattle.token_reader.specs.declared.setting.Stop.{Stop}
use Rattle.token_reader.specs.Input.{Tokens, Reader, ◌>>=◌, pure, eat, declared, exhausted}

-- One or more items, each put to what was found before it; after each it is asked whether a further one comes. The number bounds
-- the turns, and each turn takes a token.
unfoldable pub gathered_from : {A B : Type 0} → ℕ → Reader Bool → Reader A → (B → A → B) → B → Reader B
gathered_from zero goes_on item put found = λ ts. Err (exhausted ts)
gathered_from (suc n) goes_on item put found = do
  x ← item
  more ← goes_on
  if more then gathered_from n goes_on item put (put found x) else pure (put found x)

-- as many items as there are
unfoldable pub gathered : {A B : Type 0} → Reader Bool → Reader A → (B → A → B) → B → Reader B
gathered goes_on item put found = λ ts. gathered_from (length ts) goes_on item put found ts

-- the items with one more behind them
abbrev pub put_last : {A : Type 0} → List A → A → List A
put_last xs x = xs ++ x ∷ []

-- one or more items with this mark between, after those found
abbrev pub separated : {A : Type 0} → Setting → Mark → Reader A → List A → Reader (List A)
separated s k item = gathered (eat s k) item put_last

-- a further item comes where the next token is so; no token is read
abbrev pub ask : (Tokens → Bool) → Reader Bool
ask test = λ ts. Ok (test ts, ts)

-- one or more names that are bound or are parameters, with commas between
abbrev pub names : Setting → Stop → Reader (List Decl)
names s before = separated s m.Comma (declared s before) []
