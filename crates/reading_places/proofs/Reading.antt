-- No two names of a module that is read stand at one place.
use Rattle.std.proofs.Common.{◌≡◌, [], ◌∷◌, Ok, ap, arith}
use Rattle.tla_ast.specs.declared.token.Tokens.{Tokens}
use Rattle.tla_ast.specs.declared.unit.Module.{Module}
use Rattle.tla_ast.specs.Listing.{Rise}
use Rattle.tla_lexer.specs.Law.{TokensLie}
use Rattle.token_reader.specs.declared.mark.Mark.TheVariants as m
use Rattle.proof_parser.specs.Modules as read
use Rattle.proof_parser.specs.Spelling.{units}
use Rattle.proof_parser.specs.Laws.{ReadInOrder}
use Rattle.plain_syntax.specs.Syntax.{module_of}
use Rattle.name_places.specs.Places.{AllApart, module_places}
use Rattle.reading_places.specs.Laws.{ReadPlacesDiffer}
use Rattle.reading_places.proofs.Counting.{apart, met-once, met}
use Rattle.reading_places.proofs.Expressions.{met-append}
use Rattle.reading_places.proofs.Modules.{of-units, spelled, of-names-after}

read-apart : ReadInOrder → (ts : Tokens) (m : Module) → Rise ts.list → read.module_of ts.name ts.header ts.list ≡ Ok m → AllApart (module_places (module_of m))
read-apart in-order ts u rise e =
    let h = in-order ts.name ts.header ts.list u e in
    let used = h.0 in
    let rest = h.1 in
    let s = h.6 in
    apart (module_places (module_of u)) (λ p.
    omega (arith, of-units p u.units, of-names-after p m.Extends s.0 (units u.units ∷ []), spelled p s.2, met-append p used rest, ap (met p) h.2, met-once p ts.list rise))

pub reads-apart : TokensLie → ReadInOrder → ReadPlacesDiffer
reads-apart lie in-order text ts u t e = let l = lie text ts t in read-apart in-order ts u l.5.0 e
