use Rattle.std.proofs.Common.{refl}
use Rattle.prime_expand.proofs.Ways.{first_values}
use Rattle.prime_expand.proofs.forms.field_value.Goals as goal

pub loop-value-init : goal.loop-value-init
loop-value-init c =
    let p = first_values c.args.fields.now c.args.values.items c.truncate.new.self.items c.pop.new.self.items c.in-Some.rest _ refl c.truncate.ensures.items c.in-Some.ensures.items in
    record { value = p.0; count = p.1 }
