-- The example of a flat proof, evaluated.
use Rattle.std.specs.Prelude.{[], ◌∷◌}
use Rattle.std.proofs.Common.{refl, inl, inr, lit<}
use Rattle.core_expr.specs.Tree.{imp_, or_}
use Rattle.seq_calculus.specs.Calculus.{Has}
use Rattle.seq_calculus.specs.Lists.{AreLists, step_fits, written, expression_counts, premise_counts}
use Rattle.seq_calculus.specs.Steps.{proof_of, readings}
use Rattle.seq_calculus.specs.Example.{first_symbol, two_steps, FlatExample}

allowed_12 : AreLists (two_steps 12)
unfolding step_fits expression_counts premise_counts
allowed_12 = record {
  nodes = ((refl, tt), tt);
  steps = (record { form = refl; exprs = (lit< tt, tt); premises = tt }, (record { form = refl; exprs = (lit< tt, (lit< tt, tt)); premises = (lit< tt, tt) }, tt));
  once = (tt, tt);
  some = lit< tt;
}

allowed_10 : AreLists (two_steps 10)
unfolding step_fits expression_counts premise_counts
allowed_10 = record {
  nodes = ((refl, tt), tt);
  steps = (record { form = refl; exprs = (lit< tt, tt); premises = tt }, (record { form = refl; exprs = (lit< tt, (lit< tt, tt)); premises = (lit< tt, tt) }, tt));
  once = (tt, tt);
  some = lit< tt;
}

-- another head
not_or : Has (imp_ first_symbol first_symbol ∷ []) (or_ first_symbol first_symbol) → ⊥
not_or (inl e) = cc
not_or (inr h) = h

pub flat_example : FlatExample
unfolding written proof_of readings
flat_example = (
  (refl, allowed_12, (tt, ((tt, (tt, tt)), tt), inl refl, (((tt, tt), (tt, ((tt, (tt, tt)), tt)), (inl refl, inl refl), tt), tt))),
  (refl, allowed_10, λ h. not_or h.2),
)
