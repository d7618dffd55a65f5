use Rattle.std.proofs.Common.{◌∙◌, ap, sym, subst}
use Rattle.tla_ast.specs.Answers.{Answers}
use Rattle.tla_lexer.specs.Tokens.{tokens_by}
use Rattle.tla_lexer.proofs.Tokens.{too-long, by-header}
use Rattle.tla_lexer.proofs.Laid.{list-of}
use Rattle.tla_lexer.proofs.lexer.lex.Goals as goal

pub returns-then-bytes-gt-MOST_BYTES-clause-gives : goal.returns-then-bytes-gt-MOST_BYTES-clause-gives
returns-then-bytes-gt-MOST_BYTES-clause-gives c = λ _. too-long c.args.bytes.now c.if-bytes-gt-MOST_BYTES.true

pub returns-in-None-clause-gives : goal.returns-in-None-clause-gives
returns-in-None-clause-gives c = λ _. by-header c.args.bytes.now c.if-bytes-gt-MOST_BYTES.false ∙ ap (tokens_by c.args.bytes.now) (sym c.in_ok-find.ensures.value ∙ c.in-None.is)

pub returns-in-Some : goal.returns-in-Some
returns-in-Some c =
    let e = by-header c.args.bytes.now c.if-bytes-gt-MOST_BYTES.false ∙ ap (tokens_by c.args.bytes.now) (sym c.in_ok-find.ensures.value ∙ c.in-Some.is) in
    let gives = subst (Answers c.tokens_of.result) (sym e) c.tokens_of.ensures in
    record { gives = gives; list = list-of c.args.bytes.now c.tokens_of.result gives }
