use Rattle.cache_file.proofs.RecordLaws.{records_once}
use Rattle.cache_file.proofs.laws.records_are_one.Goals as goal

pub returns : goal.returns
returns c = records_once c.obligations_differ.ensures c.proofs_differ.ensures
