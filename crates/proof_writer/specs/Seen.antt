-- What contracts see of the fields.
use Rattle.proof_writer.specs.declared.fields.Fields.{Fields}
use Rattle.proof_writer.specs.Written.{Written, seen_of}

-- what is written
abbrev pub seen : Fields → Written
seen f = seen_of f.bank f.steps.items f.unused.items
