-- The written search, second edition: turns, dropping, the run and its steps.
use Rattle.std.specs.Prelude.{◌≡◌, ℕ, zero, suc, Bool, not, nat_eq, nat_le, Option, Some, None, List, [], ◌∷◌, ◌++◌, length}
use Rattle.core_expr.specs.declared.head.Sym.{Sym}
use Rattle.core_expr.specs.Tree.{Tree, Parts, not_}
use Rattle.core_expr.specs.Tree.Tree.{bound, app, node, bind}
use Rattle.core_expr.specs.Tree.Parts.{end, part}
use Rattle.unifier_definition.specs.Metas.{listed}
use Rattle.search_definition.specs.declared.rule.Rank.{Rank}
use Rattle.search_definition.specs.declared.rule.Rank.TheVariants as rank
use Rattle.search_definition.specs.Terms.{if_so, first_some}
use Rattle.search_definition.specs.Branches.{Branch, has, add_all, news, used, Closing, closing}
use Rattle.search_definition.specs.Rules.{Sides, Result, oldest, stays, stays_second, rises}
use Rattle.search_definition.specs.Rules.Sides.{Alone, Both}
use Rattle.search_definition.specs.Plain.{plain, rewrite, choice}
use Rattle.search_definition.specs.Equations.{derive, replace_rule, extension}
use Rattle.search_definition.specs.Splits.{settle, split, term_split, take_up}
use Rattle.search_definition.specs.Instances.{Fresh, instance_rule, spare_rule}
use Rattle.search_definition.specs.Needs.{contains, union, without, needs_of, with_news}

-- what the rule of a rank gives on a branch
abbrev pub by_rank : Fresh → Branch → Rank → Option Result
by_rank w b rank.Plain = oldest plain 0 b
by_rank w b rank.Rewrite = oldest rewrite 0 b
by_rank w b rank.Derive = oldest (derive b) 0 b
by_rank w b rank.Replace = replace_rule b
by_rank w b rank.Settle = oldest (settle b) 0 b
by_rank w b rank.Choice = oldest choice 0 b
by_rank w b rank.Split = oldest split 0 b
by_rank w b rank.TermSplit = oldest (term_split b) 0 b
by_rank w b rank.Extension = oldest extension 0 b
by_rank w b rank.Instance = instance_rule w b
by_rank w b rank.Spare = spare_rule w b
by_rank w b rank.TakeUp = oldest (take_up b) 0 b

-- the ranks in order
abbrev pub ranks : List Rank
ranks =
    rank.Plain ∷ rank.Rewrite ∷ rank.Derive ∷ rank.Replace ∷ rank.Settle ∷ rank.Choice ∷ rank.Split ∷ rank.TermSplit ∷ rank.Extension ∷ rank.Instance ∷ rank.Spare ∷ rank.TakeUp ∷ []

-- the rule that applies to a branch: that of the first rank that gives one
unfoldable pub first_rule : Fresh → Branch → Option Result
first_rule w b = first_some (by_rank w b) ranks

-- the rule applies to the branch: the rule of some rank gives just this
abbrev pub Applies : Fresh → Branch → Result → Type 0
Applies w b r = (k : Rank) × (by_rank w b k ≡ Some r)

-- What a branch knows of a split on its path: it is on the first side; it waits on the second side; or it is on the second side, and the first closed with these needs.
pub data Mark : Type 0 where
  Left Waiting : Mark
  Needed : List ℕ → Mark

-- A split on a path: its number, which is that of its turn, and the mark.
pub record Turning : Type 0 where
  pub number : ℕ
  pub mark : Mark

-- An open branch, with the needs of each entry beside it, and its path: the splits that lead to it, the latest first.
pub record Open : Type 0 where
  pub branch : Branch
  pub needs : List (List ℕ)
  pub path : List Turning

-- the number of the turn where it is a split
abbrev pub split_number : ℕ → Sides → List ℕ
split_number n (Both l r) = n ∷ []
split_number n (Alone l) = []

-- what a rule's additions need in the turn n: the split's number and what all formulas need that the rule names
abbrev pub added_needs : ℕ → Result → Branch → List (List ℕ) → List ℕ
added_needs n r b needs = union (split_number n r.step.sides) (needs_of b needs r.step.named)

-- the branch after a rule used the entry and added these formulas
abbrev pub side_branch : Bool → Result → Branch → List Tree → Branch
side_branch live r b fs = add_all (used live (rises r.step.rule) b r.entry) fs

-- the open branch after these formulas are added, those that are new with the needs u
abbrev pub grown : Branch → List (List ℕ) → List ℕ → List Turning → List Tree → Open
grown b needs u path fs = record { branch = add_all b fs; needs = with_news needs u (news b fs); path = path }

-- the open branch of a side, with the path
abbrev pub side_open : Bool → Result → List ℕ → List Turning → Branch → List (List ℕ) → List Tree → Open
side_open live r u path b needs fs = grown (used live (rises r.step.rule) b r.entry) needs u path fs

-- the resulting open branches, with the needs u for what is added: of two, the first is marked left and the second waiting; one alone keeps the path
abbrev pub sides_open : ℕ → Result → List ℕ → Open → Sides → List Open
sides_open n r u o (Alone fs) = side_open (stays r.step.rule) r u o.path o.branch o.needs fs ∷ []
sides_open n r u o (Both fs gs) =
    side_open (stays r.step.rule) r u (record { number = n; mark = Left } ∷ o.path) o.branch o.needs fs
    ∷ side_open (stays_second r.step.rule) r u (record { number = n; mark = Waiting } ∷ o.path) o.branch o.needs gs
    ∷ []

-- the open branches that the rule gives in the turn n
unfoldable pub apply : ℕ → Result → Open → List Open
apply n r o = sides_open n r (added_needs n r o.branch o.needs) o r.step.sides

-- the path with the mark of the split n replaced by the set
abbrev pub set_mark : ℕ → List ℕ → List Turning → List Turning
set_mark n ks [] = []
set_mark n ks (t ∷ ts) = if_so (nat_eq t.number n) (record { number = n; mark = Needed ks } ∷ ts) (t ∷ set_mark n ks ts)

-- the next open branch takes up what its split's first side needed
abbrev pub mark_next : ℕ → List ℕ → List Open → List Open
mark_next n ks [] = []
mark_next n ks (o ∷ os) = record { branch = o.branch; needs = o.needs; path = set_mark n ks o.path } ∷ os

-- all but the next open branch
abbrev pub rest : List Open → List Open
rest [] = []
rest (o ∷ os) = os

-- What is left behind a branch that closed: the open branches, and the split whose second side is worked on next.
pub record Leaving : Type 0 where
  pub opens : List Open
  pub resumed : Option ℕ

abbrev pub leaving : List Open → Option ℕ → Leaving
leaving os r = record { opens = os; resumed = r }

-- what is left by the mark of the split n, the latest of the path; earlier goes on with the earlier splits
abbrev pub taken_by : Mark → ℕ → List ℕ → List Open → (List ℕ → List Open → Leaving) → Leaving
taken_by Left n u os earlier = if_so (contains u n) (leaving (mark_next n (without u n) os) (Some n)) (earlier u (rest os))
taken_by Waiting n u os earlier = leaving os None
taken_by (Needed k) n u os earlier = earlier (without (union u k) n) os

-- What is left behind a branch that closed with the needs u. Its path is gone through from the latest split. Where it was on the first side and needed the split, the second side is next, with these needs but the split's number; where it did not need the split, the second side is dropped; where it was on the second side, the needs of both sides are joined.
abbrev pub taken : List Turning → List ℕ → List Open → Leaving
taken [] u os = leaving os None
taken (t ∷ ts) u os = taken_by t.mark t.number u os (taken ts)

-- for each of the formulas, whether it is not on the branch yet
abbrev pub lacking : Branch → List Tree → List Bool
lacking b [] = []
lacking b (f ∷ fs) = not (has b f) ∷ lacking b fs

-- A step of the search: the closing of a branch, with the number of the split whose second side begins with the next step, if there is one; or a rule, with whether each formula that it adds on the first side, and on the second, was not on the branch yet.
pub data Move : Type 0 where
  Shuts : Closing → Option ℕ → Move
  Applied : Result → List Bool → List Bool → Move

-- what is new on the sides
abbrev pub applied : Result → Branch → Sides → Move
applied r b (Alone fs) = Applied r (lacking b fs) []
applied r b (Both fs gs) = Applied r (lacking b fs) (lacking b gs)

-- What a turn gives: the branch that no rule fits, or the step and the open branches after it.
pub data Next : Type 0 where
  Stuck : Branch → Next
  Goes : Move → List Open → Next

-- the branch closes
abbrev pub shut : Closing → Leaving → Next
shut c l = Goes (Shuts c l.resumed) l.opens

-- the turn n by the closing of the first open branch, or by its first rule, whose results take its place
abbrev pub turn_by_rule : ℕ → Open → List Open → Option Result → Next
turn_by_rule n o os None = Stuck o.branch
turn_by_rule n o os (Some r) = Goes (applied r o.branch r.step.sides) (apply n r o ++ os)

abbrev pub turn_by : Fresh → ℕ → Open → List Open → Option Closing → Next
turn_by w n o os (Some c) = shut c (taken o.path (needs_of o.branch o.needs c.entries) os)
turn_by w n o os None = turn_by_rule n o os (first_rule w o.branch)

-- the turn n on the first open branch
unfoldable pub turn : Fresh → ℕ → Open → List Open → Next
turn w n o os = turn_by w n o os (closing o.branch)

-- How the search ends, with the turns used: all branches closed; a branch that does not close and that no rule fits; or the limit reached.
pub data End : Type 0 where
  Closed : ℕ → End
  Saturated : Branch → ℕ → End
  Spent : ℕ → End

-- the end where the limit is reached
abbrev pub last : ℕ → Next → End
last used (Stuck b) = Saturated b used
last used (Goes m os) = Spent used

-- the end after a turn, where run goes on
abbrev pub then_run : (List Open → End) → ℕ → Next → End
then_run run used (Stuck b) = Saturated b used
then_run run used (Goes m os) = run os

-- the search with n turns left, of which used are used
abbrev pub run : Fresh → ℕ → ℕ → List Open → End
run w n used [] = Closed used
run w zero used (o ∷ os) = last used (turn w (suc used) o os)
run w (suc n) used (o ∷ os) = then_run (run w n (suc used)) used (turn w (suc used) o os)

-- the step of a turn before the others
abbrev pub then_moves : (List Open → List Move) → Next → List Move
then_moves moves (Stuck b) = []
then_moves moves (Goes m os) = m ∷ moves os

-- the steps of the search with n turns left, in the order of turns
abbrev pub moves : Fresh → ℕ → ℕ → List Open → List Move
moves w n used [] = []
moves w zero used (o ∷ os) = []
moves w (suc n) used (o ∷ os) = then_moves (moves w n (suc used)) (turn w (suc used) o os)

-- the facts in order and then the goal's Not
abbrev pub denied : List Tree → Tree → List Tree
denied facts goal = facts ++ not_ goal ∷ []

-- the branch that the search starts with
abbrev pub start_branch : List Tree → Tree → Branch
start_branch facts goal = add_all [] (denied facts goal)

-- the start: one branch, all live and without needs
abbrev pub start : List Tree → Tree → List Open
start facts goal = grown [] [] [] [] (denied facts goal) ∷ []

abbrev mutual
  -- the symbols of the term that are not in the list, each once, before the list
  pub symbols_before : Tree → List Sym → List Sym
  symbols_before (bound i) l = l
  symbols_before (app f ps) l = all_symbols_before ps (if_so (listed l f) l (f ∷ l))
  symbols_before (node h ns ps) l = all_symbols_before ps l
  symbols_before (bind b ps e) l = symbols_before e (all_symbols_before ps l)

  pub all_symbols_before : Parts → List Sym → List Sym
  all_symbols_before end l = l
  all_symbols_before (part e ps) l = all_symbols_before ps (symbols_before e l)

-- the different symbols of the formulas, by kind, number and arity together
abbrev pub symbols_of : List Tree → List Sym → List Sym
symbols_of [] l = l
symbols_of (f ∷ fs) l = symbols_of fs (symbols_before f l)

-- the greater number
abbrev pub larger : ℕ → ℕ → ℕ
larger m n = if_so (nat_le m n) n m

-- the first number above the numbers of all these symbols
abbrev pub above : List Sym → ℕ
above [] = 0
above (f ∷ fs) = larger (suc f.number) (above fs)

-- the symbols that an obligation does not have: the spare symbol is numbered by how many symbols the obligation has, and the metavariables are above it and above all symbols
abbrev pub fresh_by : List Sym → Fresh
fresh_by symbols = record { spare = length symbols; metas = larger (suc (length symbols)) (above symbols) }

abbrev pub fresh : List Tree → Tree → Fresh
fresh facts goal = fresh_by (symbols_of (goal ∷ facts) [])

-- The written search on an obligation with these facts and this goal, and the limit of turns n.
unfoldable pub search : List Tree → Tree → ℕ → End
search facts goal n = run (fresh facts goal) n 0 (start facts goal)

-- The steps of that search, in the order of turns.
unfoldable pub steps : List Tree → Tree → ℕ → List Move
steps facts goal n = moves (fresh facts goal) n 0 (start facts goal)
