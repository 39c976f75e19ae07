use Rattle.pim_emit.proofs.Words.{Some, None, ap, what_seen, record_of_seen, Source, passed}
use Rattle.pim_emit.proofs.NextMachines.{no_source_next, source_next, other_next, no_source_seen, told_next, left_of}
use Rattle.pim_emit.proofs.ahead.next_source.Goals as goal

pub returns-in_err-source : goal.returns-in_err-source
returns-in_err-source g c = rw c.from_residual.ensures
    (λ state port group bound sound was. (
      no_source_next c.keys_are_distinct.ensures g.F.Family.family state sound port group bound
          (told_next state port group (passed bound) c.args.left.now was g.F.Family.bytes_of c.next_machine.result None c.next_machine.ensures.reported c.in_err-source.was),
      tt,
    ))

pub returns-in-Source : goal.returns-in-Source
returns-in-Source g c = λ state port group bound sound was.
    let bytes_of = g.F.Family.bytes_of in
    let next = told_next state port group (passed bound) c.args.left.now was bytes_of c.next_machine.result (Some c.in_ok-source.field-0) c.next_machine.ensures.reported c.in_ok-source.was in
    let is = ap (λ w. what_seen bytes_of w) c.in-Source.is in (
      source_next c.keys_are_distinct.ensures g.F.Family.family state sound port group bound (record_of_seen bytes_of c.in_ok-source.field-0) (bytes_of c.in-Source.source) next is,
      left_of state port group (passed bound) c.args.left.now was c.keys_are_distinct.ensures c.next_machine.new.self (record_of_seen bytes_of c.in_ok-source.field-0) (Source (bytes_of c.in-Source.source)) c.next_machine.ensures.left next is,
    )

pub returns-in_default : goal.returns-in_default
returns-in_default g c = λ state port group bound sound was.
    let bytes_of = g.F.Family.bytes_of in
    let next = told_next state port group (passed bound) c.args.left.now was bytes_of c.next_machine.result (Some c.in_ok-source.field-0) c.next_machine.ensures.reported c.in_ok-source.was in (
      other_next c.keys_are_distinct.ensures g.F.Family.family state sound port group bound (record_of_seen bytes_of c.in_ok-source.field-0) next
          (no_source_seen bytes_of c.in_ok-source.field-0.key.what c.in_default.not-Source),
      tt,
    )
