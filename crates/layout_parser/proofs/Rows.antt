-- The definition on small texts.
use Rattle.std.proofs.Common.{◌≡◌, ℕ, List, [], ◌∷◌, Err, refl}
use Rattle.std.specs.Prelude.{codes}
use Rattle.std_names.specs.Operators.{operator, prefix_rows, infix_rows}
use Rattle.tla_ast.specs.declared.token.Token.{Token}
use Rattle.tla_ast.specs.declared.token.Tok.TheVariants as tok
use Rattle.tla_ast.specs.declared.place.Place.{Place}
use Rattle.tla_ast.specs.declared.fault.Fault.TheVariants as fault
use Rattle.tla_ast.specs.declared.fault.Kind.TheVariants as kind
use Rattle.tla_ast.specs.declared.tree.Form.TheVariants as form
use Rattle.token_reader.specs.Marks.{words, signs, same_mark}
use Rattle.token_reader.specs.Input.{mark, sees, sees_second, refusal, after, expect, name, declared, opening, begins, too_deep}
use Rattle.token_reader.specs.Lists.{gathered, gathered_from}
use Rattle.layout_parser.specs.Reading.{finished, operator_in, field, value, literal, part, arguments, named, parenthesized, tuple, subscript, angle_end, angle, fair, image, filter, elements, brace_end, member_brace, tuple_brace_after, tuple_brace, brace_from, brace, field_of, record_of, record_set, function_set, index, key_of, update, except, square_end, function, member_square, square_name, square_from, square, bound_set, bound, bounds, groups_of, quantifier, domain, choose, conditional, further_arm, arm, other_arm, case_end, cases, parameters, head, definition, local, bulleted, junction, at, operand, indexed, step_before, step_after, chain_from, nested, reading}

abbrev spot : ℕ → ℕ → Place
spot line column = record { line = line; column = column }

abbrev word : ℕ → ℕ → List ℕ → Token
word line column text = record { tok = tok.Word text; place = spot line column }

abbrev sign : ℕ → ℕ → List ℕ → Token
sign line column text = record { tok = tok.Sign text; place = spot line column }

abbrev end : ℕ → Token
end line = record { tok = tok.End; place = spot line 1 }

-- What is read where one bullet stands a column to the left: it goes on with the expression before it. A wrong operator of a set
-- before a `:` is a fault of the set's own chain, unless a fault stands inside the set. A `|->` after the subscript of `WF_`.
rows : (reading (sign 1 3 (codes "/\\") ∷ word 1 6 (codes "A") ∷ sign 2 2 (codes "/\\") ∷ word 2 5 (codes "B") ∷ sign 2 7 (codes "\\/") ∷ word 2 10 (codes "C") ∷ end 3 ∷ []) 0 0 0
    ≡ Err (fault.At (spot 2 7) kind.Precedence))
    × (reading (sign 2 1 (codes "{") ∷ word 2 2 (codes "x") ∷ sign 2 4 (codes "\\in") ∷ word 2 8 (codes "a") ∷ sign 2 10 (codes "=") ∷ word 2 12 (codes "b") ∷ sign 2 14 (codes "=") ∷ word 2 16 (codes "c")
    ∷ sign 2 18 (codes ":") ∷ word 2 20 (codes "P") ∷ sign 2 21 (codes "}") ∷ end 3 ∷ []) 0 0 0 ≡ Err (fault.At (spot 2 14) kind.Precedence))
    × (reading (sign 2 1 (codes "{") ∷ word 2 2 (codes "x") ∷ sign 2 4 (codes "\\in") ∷ word 2 8 (codes "S") ∷ sign 2 10 (codes "=") ∷ sign 2 12 (codes "(") ∷ word 2 13 (codes "a") ∷ sign 2 15 (codes "=")
    ∷ word 2 17 (codes "b") ∷ sign 2 19 (codes "=") ∷ word 2 21 (codes "c") ∷ sign 2 22 (codes ")") ∷ sign 2 24 (codes ":") ∷ word 2 26 (codes "P") ∷ sign 2 27 (codes "}") ∷ end 3 ∷ []) 0 0 0
    ≡ Err (fault.At (spot 2 10) kind.Precedence))
    × (reading (sign 2 1 (codes "[") ∷ sign 2 2 (codes "WF_") ∷ word 2 5 (codes "a") ∷ sign 2 7 (codes "|->") ∷ word 2 11 (codes "b") ∷ sign 2 12 (codes "]") ∷ end 3 ∷ []) 0 0 0
    ≡ Err (fault.At (spot 2 7) (kind.Unsupported (codes "|->"))))
unfolding operator prefix_rows infix_rows words signs same_mark mark sees sees_second refusal after expect name declared opening begins too_deep gathered gathered_from finished operator_in field value literal part arguments named parenthesized tuple subscript angle_end angle fair image filter elements brace_end member_brace tuple_brace_after tuple_brace brace_from brace field_of record_of record_set function_set index key_of update except square_end function member_square square_name square_from square bound_set bound bounds groups_of quantifier domain choose conditional further_arm arm other_arm case_end cases parameters head definition local bulleted junction at operand indexed step_before step_after chain_from nested reading
rows = (refl, refl, refl, refl)
