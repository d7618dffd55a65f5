use Rattle.std.proofs.Common.{◌≡◌, ◌++◌, ◌∷◌, [], sym, ◌∙◌, ap}
use Rattle.std.specs.Option.{option_to_list}
use Rattle.std.specs.Prelude.{List, Option}
use Rattle.core_expr.specs.Tree.{Tree}
use Rattle.core_expr.specs.declared.forest.Forest.{Forest}
use Rattle.core_expr.specs.Heads.{parts_of, front, back, are_well_formed}
use Rattle.core_expr.specs.Flat.{rows_at}
use Rattle.core_expr.specs.Spans.{rows_in, spans_in}
use Rattle.core_expr.specs.Rows.{raised}
use Rattle.core_expr.proofs.BuildLaws.{body_rows, spans_in-push, formed-push, ok_map}
use Rattle.core_expr.proofs.expr.joined_under.Goals as goal

all_parts : (c : goal.After-with_body) → c.args.parts.items ≡ c.pop.new.self.items ++ c.unwrap-body.result ∷ []
all_parts c = c.pop.ensures.items ∙ ap (λ (o : Option Tree). c.pop.new.self.items ++ option_to_list o) c.unwrap-body.ensures

pub returns-clause-rows : goal.returns-clause-rows
returns-clause-rows c =
    ok_map c.with_body.result (λ (f : Forest). f.rows ≡ c.in_ok-forest.forest.rows ++ raised 1 c.into_forest.result.rows) (λ (f : Forest). f.rows ≡ rows_in (front c.args.parts.items) ++ rows_at 1 (back c.args.parts.items))
    (λ f h. body_rows c.pop.new.self.items c.args.parts.items c.unwrap-body.result c.in_ok-forest.forest.rows c.into_forest.result.rows f.rows (all_parts c) c.in_ok-forest.ensures.rows c.into_forest.ensures.rows h)
    c.with_body.ensures.rows

pub returns-clause-spans : goal.returns-clause-spans
returns-clause-spans c =
    ok_map c.with_body.result (λ (f : Forest). f.spans ≡ c.in_ok-forest.forest.spans ++ c.into_forest.result.spans) (λ (f : Forest). f.spans ≡ spans_in c.args.parts.items)
    (λ f h. spans_in-push c.pop.new.self.items c.unwrap-body.result c.in_ok-forest.forest.spans c.into_forest.result.spans f.spans c.in_ok-forest.ensures.spans c.into_forest.ensures.spans h ∙ ap spans_in (sym (all_parts c)))
    c.with_body.ensures.spans

pub returns-clause-formed : goal.returns-clause-formed
returns-clause-formed c =
    ok_map c.with_body.result (λ (f : Forest). f.spans ≡ c.in_ok-forest.forest.spans ++ c.into_forest.result.spans) _
    (λ f h. ap (λ (l : List Tree). are_well_formed (parts_of l)) (all_parts c) ∙ formed-push c.pop.new.self.items c.unwrap-body.result c.in_ok-forest.ensures.formed c.into_forest.ensures.formed)
    c.with_body.ensures.spans
