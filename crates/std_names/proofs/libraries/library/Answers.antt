use Rattle.std_names.specs.Libraries.{library, names}
use Rattle.std_names.proofs.libraries.library.Goals as goal

pub returns : goal.returns
unfolding library names
returns c = c.arity_in.ensures
