-- The names of the syntax and of marks, passed on from one place.
pub use Rattle.tla_ast.specs.declared.place.Place.{Place}
pub use Rattle.tla_ast.specs.declared.token.Token.{Token}
pub use Rattle.tla_ast.specs.declared.token.Tok.{Tok}
pub use Rattle.tla_ast.specs.declared.fault.Kind.{Kind}
pub use Rattle.tla_ast.specs.declared.fault.Kind.TheVariants.{Expected, StepLevel, NoQed, TooDeep}
pub use Rattle.tla_ast.specs.declared.fault.Fault.{Fault}
pub use Rattle.tla_ast.specs.declared.tree.Node.{Node, out-Node}
pub use Rattle.tla_ast.specs.declared.tree.Form.{Form, out-Form}
pub use Rattle.tla_ast.specs.declared.tree.Form.TheOpen.{Form-F}
pub use Rattle.tla_ast.specs.declared.tree.Decl.{Decl}
pub use Rattle.tla_ast.specs.declared.tree.Group.{Group}
pub use Rattle.tla_ast.specs.declared.tree.Def.{Def, roll-Def}
pub use Rattle.tla_ast.specs.declared.unit.Sort.{Sort}
pub use Rattle.tla_ast.specs.declared.unit.Item.{Item}
pub use Rattle.tla_ast.specs.declared.unit.Statement.{Statement}
pub use Rattle.tla_ast.specs.declared.unit.Fact.{Fact}
pub use Rattle.tla_ast.specs.declared.unit.Proof.{Proof, out-Proof}
pub use Rattle.tla_ast.specs.declared.unit.Proof.TheOpen.{Proof-F}
pub use Rattle.tla_ast.specs.declared.unit.Step.{Step, roll-Step, out-Step}
pub use Rattle.tla_ast.specs.declared.unit.StepKind.{StepKind}
pub use Rattle.tla_ast.specs.declared.unit.Unit.{Unit as ModuleUnit}
pub use Rattle.tla_ast.specs.declared.unit.UnitKind.{UnitKind}
pub use Rattle.tla_ast.specs.declared.unit.Module.{Module}
pub use Rattle.tla_ast.specs.Listing.{is_last}
pub use Rattle.token_reader.specs.declared.mark.Mark.{Mark}
pub use Rattle.token_reader.specs.declared.setting.Setting.{Setting}
pub use Rattle.token_reader.specs.declared.setting.Stop.{Stop}
pub use Rattle.token_reader.specs.Marks.{Text}
