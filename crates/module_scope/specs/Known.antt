-- What the code keeps of all that is known at a place.
use Rattle.std.specs.Prelude.{ℕ, List, [], map}
use Rattle.std.specs.Borrow.{Bor}
use Rattle.indexmap.specs.IndexSet.{IndexSet}
use Rattle.tla_ast.specs.declared.tree.Node.{Node, out-Node}
use Rattle.plain_syntax.specs.Plain.{Text, Terms}
use Rattle.plain_syntax.specs.Syntax.{term_of, terms_of}
use Rattle.expression_level.specs.Store as store
use Rattle.symbol_table.specs.declared.entry.Entry.{Entry}
use Rattle.symbol_table.specs.declared.entry.EntrySort.{EntrySort}
use Rattle.module_scope.specs.declared.extend.Export.{Export}
use Rattle.module_scope.specs.declared.walker.Walker.{Walker}
use Rattle.module_scope.specs.Scope.{Scope, seen}
use Rattle.module_scope.specs.Names.{Book}
use Rattle.module_scope.specs.Names.Book.{book}

-- what is known at a place, as the definitions see it
abbrev pub book_of : Walker → Book
book_of w = book w.scope w.entries.items (store.levels_of w.levels) w.symbols w.faults.items

-- the texts that are known
abbrev pub texts : {S : Type 0} → IndexSet (Bor (List ℕ)) S → List Text
texts known = map (λ k. k.now) known.keys

-- the parts of a node
abbrev pub parts_in : Node → Terms
parts_in n = terms_of (map term_of (out-Node n).parts)

-- the entry of a row of the libraries' names
abbrev pub row_entry : Bor (List ℕ) × EntrySort × ℕ → Entry
row_entry r = record { name = r.0.now; sort = r.1; arity = r.2; level = 0; primed = [] }

-- what a module gives to others
abbrev pub export_of : Export → Text × Scope
export_of e = (e.name.now, map seen e.names.items)

abbrev pub exports_of : List Export → List (Text × Scope)
exports_of es = map export_of es
