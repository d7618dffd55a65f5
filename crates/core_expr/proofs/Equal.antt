-- What the tests say.
pub use Rattle.core_expr.specs.Equal.{and-both, nat-same, lists-same, head-same, binder-same, kind-same, sym-same, same-true, sames-true, scoped-true, all_scoped, true-scoped, true-all_scoped, nat-refl, lists-refl, sym-refl, same-refl, sames-refl, true-same}
