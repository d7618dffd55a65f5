use Rattle.std.proofs.Common.{sym, ap, ◌∙◌}
use Rattle.tla_ast.specs.declared.tree.Node.{out-Node}
use Rattle.tla_ast.specs.declared.tree.Form.TheVariants as form
use Rattle.tla_ast.specs.declared.fault.Kind.TheVariants as kind
use Rattle.module_scope.specs.Known.{book_of, texts}
use Rattle.module_scope.specs.Names.{refused}
use Rattle.module_scope.proofs.Fields.{no-head, texts-with, field-new, field-again}
use Rattle.module_scope.proofs.walker.Walker.field.Goals as goal

pub returns-in_default : goal.returns-in_default
returns-in_default c =
    let h = no-head c.args.node.now (texts c.args.seen.now) (book_of c.args.self.now) c.in_default.not-Name in record { names = h.0; fields = h.1 }

pub returns-then-branch-clause-names : goal.returns-then-branch-clause-names
returns-then-branch-clause-names c =
    field-new c.args.node.now c.bytes.result c.args.seen.now.keys c.insert.new.self.keys (book_of c.args.self.now) (c.in-Name.is ∙ ap form.Name (sym c.bytes.ensures)) c.in_ok-insert.field-0
    c.in_ok-insert.ensures.added c.if-branch.true

pub returns-then-branch-clause-fields : goal.returns-then-branch-clause-fields
returns-then-branch-clause-fields c =
    texts-with c.args.node.now c.bytes.result c.args.seen.now.keys c.insert.new.self.keys (book_of c.args.self.now) (c.in-Name.is ∙ ap form.Name (sym c.bytes.ensures)) c.in_ok-insert.ensures.keys

pub returns-clause-names : goal.returns-clause-names
returns-clause-names c =
    c.in_ok-refuse.ensures
    ∙ ap (λ w. refused (kind.Redeclared w) (out-Node c.args.node.now).place (book_of c.args.self.now)) (c.in_ok-name.ensures ∙ c.bytes-2.ensures ∙ sym c.bytes.ensures)
    ∙ field-again c.args.node.now c.bytes.result c.args.seen.now.keys c.insert.new.self.keys (book_of c.args.self.now) (c.in-Name.is ∙ ap form.Name (sym c.bytes.ensures)) c.in_ok-insert.field-0
    c.in_ok-insert.ensures.added c.if-branch.false

pub returns-clause-fields : goal.returns-clause-fields
returns-clause-fields c =
    texts-with c.args.node.now c.bytes.result c.args.seen.now.keys c.insert.new.self.keys (book_of c.args.self.now) (c.in-Name.is ∙ ap form.Name (sym c.bytes.ensures)) c.in_ok-insert.ensures.keys
