use Rattle.proof_manager.proofs.Meant.{reads_are_just}
use Rattle.proof_manager.proofs.laws.reports_are_just.Goals as goal

pub returns : goal.returns
returns c =
    reads_are_just c.read_places_differ.ensures c.statuses_are_justified.ensures c.statuses_agree.ensures c.chapters_report.ensures c.fronts_are_proved.ensures c.answered_derives.ensures.derives
    c.answered_derives.ensures.searched c.cache_keeps_proved.ensures.proved c.values_are_right.ensures.valid
    c.values_are_right.ensures.falsified c.enough_turns_decide.ensures.enough c.few_connectives.ensures c.leaves_are_forms.ensures
