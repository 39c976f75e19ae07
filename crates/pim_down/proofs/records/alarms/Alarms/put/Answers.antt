use Rattle.pim_down.proofs.Words.{ap, ◌∙◌, AlarmList}
use Rattle.pim_down.proofs.records.alarms.Alarms.put.Goals as goal

pub returns-clause-alarms : goal.returns-clause-alarms
returns-clause-alarms g c timers known kept = c.insert_within-stands.ensures.items ∙ c.slot_of-place.ensures.slot timers known (ap (λ (l : AlarmList). l.alarms) c.self.view_is ∙ kept)
