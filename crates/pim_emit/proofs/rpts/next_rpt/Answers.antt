use Rattle.pim_emit.proofs.Words.{◌∙◌, Some, None, ap, Rpt, what_seen, record_of_seen, RptsLeft}
use Rattle.pim_emit.proofs.NextMachines.{no_rpt_next, rpt_next, rpt_state, other_than_rpt_next, no_rpt_seen, told_next, left_of}
use Rattle.pim_emit.proofs.rpts.next_rpt.Goals as goal

pub returns-in_err-record-clause-least : goal.returns-in_err-record-clause-least
returns-in_err-record-clause-least g c = rw c.from_residual.ensures
    (λ port group are.
    let bound = c.args.rpts.now.bound in
    let was = ap (λ (r : RptsLeft). r.left) c.rpts.view_is ∙ are in
    no_rpt_next c.keys_are_distinct.ensures g.F.Family.family c.args.ports.now c.is_sound.ensures port group bound
    (told_next c.args.ports.now port group (Rpt bound) c.rpts.inside.left was g.F.Family.bytes_of c.next_machine.result None c.next_machine.ensures.reported c.in_err-record.was))

pub returns-in_default : goal.returns-in_default
returns-in_default g c = record {
  least = λ port group are.
      let bound = c.args.rpts.now.bound in
      let was = ap (λ (r : RptsLeft). r.left) c.rpts.view_is ∙ are in
      let reported = c.in_ok-record.record in
      other_than_rpt_next c.keys_are_distinct.ensures g.F.Family.family c.args.ports.now c.is_sound.ensures port group bound (record_of_seen g.F.Family.bytes_of reported)
      (told_next c.args.ports.now port group (Rpt bound) c.rpts.inside.left was g.F.Family.bytes_of c.next_machine.result (Some reported) c.next_machine.ensures.reported c.in_ok-record.was)
      (no_rpt_seen g.F.Family.bytes_of reported.key.what c.in_default.not-Rpt);
  state = λ port group are. tt;
  left = λ port group are. tt;
  bound = tt;
}

pub returns-clause-least : goal.returns-clause-least
returns-clause-least g c = λ port group are.
    let bytes_of = g.F.Family.bytes_of in
    let bound = c.args.rpts.now.bound in
    let was = ap (λ (r : RptsLeft). r.left) c.rpts.view_is ∙ are in
    let reported = c.in_ok-record.record in
    rpt_next c.keys_are_distinct.ensures g.F.Family.family c.args.ports.now c.is_sound.ensures port group bound (record_of_seen bytes_of reported) (bytes_of c.in-Rpt.source)
    (told_next c.args.ports.now port group (Rpt bound) c.rpts.inside.left was bytes_of c.next_machine.result (Some reported) c.next_machine.ensures.reported c.in_ok-record.was)
    (ap (λ w. what_seen bytes_of w) c.in-Rpt.is)

pub returns-clause-state : goal.returns-clause-state
returns-clause-state g c = λ port group are.
    let bytes_of = g.F.Family.bytes_of in
    let bound = c.args.rpts.now.bound in
    let was = ap (λ (r : RptsLeft). r.left) c.rpts.view_is ∙ are in
    let reported = c.in_ok-record.record in
    rpt_state c.keys_are_distinct.ensures g.F.Family.family c.args.ports.now c.is_sound.ensures port group bound (record_of_seen bytes_of reported) (bytes_of c.in-Rpt.source)
    (told_next c.args.ports.now port group (Rpt bound) c.rpts.inside.left was bytes_of c.next_machine.result (Some reported) c.next_machine.ensures.reported c.in_ok-record.was)
    (ap (λ w. what_seen bytes_of w) c.in-Rpt.is)

pub returns-clause-left : goal.returns-clause-left
returns-clause-left g c = λ port group are.
    let bytes_of = g.F.Family.bytes_of in
    let bound = c.args.rpts.now.bound in
    let was = ap (λ (r : RptsLeft). r.left) c.rpts.view_is ∙ are in
    let reported = c.in_ok-record.record in
    left_of c.args.ports.now port group (Rpt bound) c.rpts.inside.left was c.keys_are_distinct.ensures c.next_machine.new.self (record_of_seen bytes_of reported) (Rpt (bytes_of c.in-Rpt.source)) c.next_machine.ensures.left
    (told_next c.args.ports.now port group (Rpt bound) c.rpts.inside.left was bytes_of c.next_machine.result (Some reported) c.next_machine.ensures.reported c.in_ok-record.was)
    (ap (λ w. what_seen bytes_of w) c.in-Rpt.is)
