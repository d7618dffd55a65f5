-- What the code keeps, as the definitions see it.
use Rattle.std.specs.Prelude.{List, map}
use Rattle.core_expr.specs.declared.head.Sym.{Sym}
use Rattle.known_facts.specs.declared.item.NewSymbol.{NewSymbol}
use Rattle.known_facts.specs.declared.item.Item.{Item as kept_item}
use Rattle.known_facts.specs.declared.item.Item.TheVariants as kept
use Rattle.known_facts.specs.declared.item.Statement.{Statement as kept_statement}
use Rattle.known_facts.specs.declared.fact.Fact.{Fact as kept_fact}
use Rattle.known_facts.specs.declared.fact.Fact.TheVariants as fact
use Rattle.known_facts.specs.declared.known.Known.{Known}
use Rattle.proof_contexts.specs.Steps.{Item, Statement, Fact}
use Rattle.proof_contexts.specs.Steps.Item.{New, NewIn, Given}
use Rattle.proof_contexts.specs.Steps.Fact.{Cited, Plain}
use Rattle.known_facts.specs.declared.context.Context.{Context as kept_context}
use Rattle.proof_contexts.specs.Contexts.{Entry, Context, names_of}

-- a new symbol has no arguments
abbrev pub sym_of : NewSymbol → Sym
sym_of x = record { kind = x.kind; number = x.number; arity = 0 }

abbrev pub item_of : kept_item → Item
item_of (kept.New x) = New (sym_of x)
item_of (kept.NewIn x s) = NewIn (sym_of x) s
item_of (kept.Given a) = Given a

abbrev pub items_of : List kept_item → List Item
items_of = map item_of

abbrev pub statement_of : kept_statement → Statement
statement_of s = record { items = items_of s.items; goal = s.goal }

abbrev pub fact_of : kept_fact → Fact
fact_of (fact.Cited k) = Cited k
fact_of (fact.Plain p e) = Plain p e

abbrev pub facts_of : List kept_fact → List Fact
facts_of = map fact_of

abbrev pub entry_of : Known → Entry
entry_of k = record { formula = k.formula; keys = names_of k.key; marks = k.marks.items; usable = k.usable }

abbrev pub entries_of : List Known → List Entry
entries_of = map entry_of

abbrev pub context_of : kept_context → Context
context_of c = record { known = entries_of c.known.items; defs = c.defs.items; goal = c.goal }
