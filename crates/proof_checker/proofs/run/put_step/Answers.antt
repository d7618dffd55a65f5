use Rattle.std.proofs.Common.{Some, None, refl, rules}
use Rattle.proof_checker.proofs.run.put_step.Goals as goal

pub returns-in_ok-put-in-Some : goal.returns-in_ok-put-in-Some
returns-in_ok-put-in-Some c = record { plan = Some c.in-Some.plan; moves = rw c.in-Some.is at c.in_ok-found.ensures; put = search rules }

pub returns-in-None : goal.returns-in-None
returns-in-None c = record { plan = None; moves = rw c.in-None.is at c.in_ok-found.ensures; put = refl }
