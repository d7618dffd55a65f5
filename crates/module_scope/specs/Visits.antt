-- The walk in the steps of the code: operators one after another, and the parts of forms on the trees of the source.
use Rattle.std.specs.Prelude.{◌≡◌, List, [], ◌∷◌, Option, Some, None}
use Rattle.tla_ast.specs.declared.tree.Node.{Node, out-Node}
use Rattle.tla_ast.specs.declared.tree.Form.TheVariants as form
use Rattle.tla_ast.specs.declared.tree.Path.{Path}
use Rattle.tla_ast.specs.declared.tree.Group.{Group, out-Group}
use Rattle.tla_ast.specs.declared.tree.Def.{Def, out-Def}
use Rattle.tla_ast.specs.declared.tree.Key.{Key}
use Rattle.tla_ast.specs.declared.unit.Step.{Step, out-Step}
use Rattle.plain_syntax.specs.Plain.{Term, Keys}
use Rattle.plain_syntax.specs.Plain.Term.{term}
use Rattle.plain_syntax.specs.Plain.Shape.{prefixed, infixed, prime, index, field}
use Rattle.plain_syntax.specs.Plain.Keys.{end_keys}
use Rattle.plain_syntax.specs.Syntax.{term_of, key_keys, updates_of, set_of, move_of, proof_of}
use Rattle.symbol_table.specs.declared.entry.EntrySort.{EntrySort}
use Rattle.symbol_table.specs.declared.entry.EntrySort.TheVariants as sorts
use Rattle.module_scope.specs.Names.{Book, Walk, each, inside, ◌>>◌, declare_name, names, prefix_name, infix_name, key_names, update_names, fresh, defined, judged, domain, move_names, proof_names}

-- an expression, where the operands of an operator are walked already
abbrev pub visited : Book → Term → Book
visited b (term (prefixed o) ts p) = prefix_name o p b
visited b (term (infixed o) ts p) = infix_name o p b
visited b (term prime ts p) = b
visited b (term index ts p) = b
visited b (term (field h) ts p) = b
visited b t = names t b

abbrev pub bind_group : EntrySort → Book → Group → Book
bind_group s b g = each (declare_name s 0) (out-Group g).names b

abbrev pub domain_names : Option Node → Walk
domain_names None b = b
domain_names (Some n) b = names (term_of n) b

abbrev pub set_group : Book → Group → Book
set_group b g = domain_names (out-Group g).domain b

abbrev pub define_step : Book → Def → Book
define_step b d =
    defined (out-Def d).name (out-Def d).params (term_of (out-Def d).body) (out-Def d).place
    (inside (each (declare_name sorts.Bound 0) (out-Def d).params >> names (term_of (out-Def d).body)) (fresh (out-Def d).name (out-Def d).place b))

abbrev pub key_step : Book → Key → Book
key_step b k = key_names (key_keys k end_keys) b

-- the function of an EXCEPT, and its updates
abbrev pub except_names : List Keys → List Term → Walk
except_names ks [] b = b
except_names ks (t ∷ ts) b = update_names (updates_of ks ts) (names t b)

-- an EXCEPT
abbrev pub IsExcept : Node → Type 0
IsExcept n = (ps : List Path) × ((out-Node n).form ≡ form.Except ps)

-- the level of a definition's body
abbrev pub body_step : Book → Def → Book
body_step b d = judged (term_of (out-Def d).body) b

-- the set of the names that TAKE or PICK chooses
abbrev pub choice_set : Book → Group → Book
choice_set b g = domain (set_of (out-Group g).domain) b

-- a step, with its proof
abbrev pub step_names : Book → Step → Book
step_names b s = move_names (move_of (out-Step s).kind) (proof_names (proof_of (out-Step s).proof)) b
