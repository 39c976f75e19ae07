use Rattle.std.proofs.Common.{arith}
use Rattle.std.proofs.lemmas.Result.{err_from_is_err_and}
use Rattle.pim_device.specs.Device.{ConsumesAtMost}
use Rattle.pim_capture.proofs.Taken.{both_taken, none_taken, most_with_header}
use Rattle.pim_capture.proofs.capture.Capture.next.Goals as goal
use Rattle.pim_capture.proofs.capture.Capture.next.Goals.{in-Unbegun+in_ok-begin-in-Unbegun, in-Records}

pub returns-in_err-event-clause-taken : goal.returns-in_err-event-clause-taken
returns-in_err-event-clause-taken g c =
    let p = err_from_is_err_and c.from_residual-in_err-event.result c.from_residual-in_err-event.ensures.1 in
    let header : ConsumesAtMost 24 (g.R.Feed.remaining c.args.self.now.reader) (g.R.Feed.remaining c.match-state.self.reader) =
    elim c.match-state.branch [
      | in-Unbegun+in_ok-begin-in-Unbegun w ↦ rw w.self-is w.begin.ensures.taken
      | in-Records w ↦ rw w.self-is (none_taken 24 (g.R.Feed.remaining c.args.self.now.reader))
    ] in
    rw (p.1, p.2, most_with_header) (both_taken 24 _ _ _ _ _ header c.in_err-event.ensures.taken (omega arith))

pub returns-clause-taken : goal.returns-clause-taken
returns-clause-taken g c =
    let header : ConsumesAtMost 24 (g.R.Feed.remaining c.args.self.now.reader) (g.R.Feed.remaining c.match-state.self.reader) =
    elim c.match-state.branch [
      | in-Unbegun+in_ok-begin-in-Unbegun w ↦ rw w.self-is w.begin.ensures.taken
      | in-Records w ↦ rw w.self-is (none_taken 24 (g.R.Feed.remaining c.args.self.now.reader))
    ] in
    both_taken 24 _ _ _ _ _ header c.in_ok-event.ensures.taken (omega arith)
