use Rattle.pim_container.proofs.Words.{vec_capacity, vec_len, length, subst, arith, inr, Ok, Err, option_map}
use Rattle.pim_container.proofs.Words.{err_from_is_err_and, IfOk-weaker, Truncated, next_length, Ended, Failed}
use Rattle.pim_container.proofs.Words.{answers_in, Reads, behind, pieces, ReaderStep, End}
use Rattle.pim_container.proofs.Named.{grows_not, grows_next, asks_next}
use Rattle.pim_container.proofs.Taken.{front_most, next_failed, next_lost, next_taken}
use Rattle.pim_container.proofs.Needs.{next_passes}
use Rattle.pim_container.proofs.Beginnings.{end_known, bound_known, cut_known, tells_from, piece_begins}
use Rattle.pim_container.proofs.Steps.{head_some}
use Rattle.pim_container.proofs.Room.{memory_of, piece_memory}
use Rattle.pim_container.proofs.Beginnings.{all_read}
use Rattle.pim_container.proofs.reader.next_piece.Goals as goal

pub returns-then-got-eq0-clause-answer : goal.returns-then-got-eq0-clause-answer
returns-then-got-eq0-clause-answer g c =
    end_known c.args.left c.args.container c.args.interfaces.now.items (g.R.Feed.remaining c.args.device.now) (g.R.Feed.remaining c.read_up_to.new.feed) c.read_up_to.new.buffer c.in_ok-got.got
    (answers_in Ended c.args.interfaces.now.items) (omega arith) c.in_ok-got.ensures.bytes (c.in_ok-got.ensures.end (omega (arith, head_some c.args.container)))

pub returns-then-left-eq0-clause-answer : goal.returns-then-left-eq0-clause-answer
returns-then-left-eq0-clause-answer g c =
    inr (bound_known c.args.left c.args.container c.args.interfaces.now.items (g.R.Feed.remaining c.args.device.now) (g.R.Feed.remaining c.read_up_to.new.feed) c.read_up_to.new.buffer c.in_ok-got.got
    (answers_in Failed c.args.interfaces.now.items) (omega arith) (omega arith) c.in_ok-got.ensures.bound c.in_ok-got.ensures.bytes)

pub returns-then-got-head-clause-answer : goal.returns-then-got-head-clause-answer
returns-then-got-head-clause-answer g c =
    inr (cut_known c.args.left c.args.container c.args.interfaces.now.items (g.R.Feed.remaining c.args.device.now) (g.R.Feed.remaining c.read_up_to.new.feed) c.read_up_to.new.buffer c.in_ok-got.got
    (answers_in Failed c.args.interfaces.now.items) (omega arith) (omega arith) (omega arith) c.in_ok-got.ensures.bound c.in_ok-got.ensures.bytes (c.in_ok-got.ensures.end (omega arith)))

pub returns-clause-memory : goal.returns-clause-memory
returns-clause-memory g c =
    let head = c.read_up_to.new.buffer in
    memory_of c.go_on.result _ _
    (piece_memory (vec_capacity c.args.buffer.now) c.args.container (g.R.Feed.remaining c.args.device.now) (g.R.Feed.remaining c.read_up_to.new.feed) head
    (all_read _ _ head c.in_ok-got.got (omega arith) c.in_ok-got.ensures.bytes)) c.go_on.ensures.memory

pub returns-in_err-got-clause-taken : goal.returns-in_err-got-clause-taken
returns-in_err-got-clause-taken g c =
    let p = err_from_is_err_and c.from_residual.result c.from_residual.ensures.1 in
    rw (p.1, p.2) (next_failed c.args.left c.args.container (length c.read_up_to.new.buffer) (g.R.Feed.remaining c.args.device.now) (g.R.Feed.remaining c.read_up_to.new.feed) (omega arith) c.in_err-got.ensures.front)

pub returns-then-got-eq0-clause-taken : goal.returns-then-got-eq0-clause-taken
returns-then-got-eq0-clause-taken g c =
    let step : ReaderStep = record { state = Ended; event = End } in
    next_lost c.args.left c.args.container c.in_ok-got.got c.read_up_to.new.buffer (g.R.Feed.remaining c.args.device.now) (g.R.Feed.remaining c.read_up_to.new.feed) (Ok step) (omega arith) c.in_ok-got.ensures.bound c.in_ok-got.ensures.bytes
    (c.in_ok-got.ensures.end (omega (arith, head_some c.args.container)))

pub returns-then-left-eq0-clause-taken : goal.returns-then-left-eq0-clause-taken
returns-then-left-eq0-clause-taken g c =
    next_failed c.args.left c.args.container c.in_ok-got.got (g.R.Feed.remaining c.args.device.now) (g.R.Feed.remaining c.read_up_to.new.feed) (omega (arith, c.in_ok-got.ensures.bound))
    (front_most c.in_ok-got.got c.in_ok-got.got c.read_up_to.new.buffer (g.R.Feed.remaining c.args.device.now) (g.R.Feed.remaining c.read_up_to.new.feed) (omega arith) c.in_ok-got.ensures.bound c.in_ok-got.ensures.bytes)

pub returns-then-got-head-clause-taken : goal.returns-then-got-head-clause-taken
returns-then-got-head-clause-taken g c =
    next_lost c.args.left c.args.container c.in_ok-got.got c.read_up_to.new.buffer (g.R.Feed.remaining c.args.device.now) (g.R.Feed.remaining c.read_up_to.new.feed) (Err Truncated) (omega arith) c.in_ok-got.ensures.bound c.in_ok-got.ensures.bytes
    (c.in_ok-got.ensures.end (omega arith))

pub returns-clause-taken : goal.returns-clause-taken
returns-clause-taken g c =
    let head = c.read_up_to.new.buffer in
    next_taken c.args.left c.args.container head (g.R.Feed.remaining c.args.device.now) (g.R.Feed.remaining c.read_up_to.new.feed) _ c.go_on.result (omega arith) (omega arith) (all_read _ _ head c.in_ok-got.got (omega arith) c.in_ok-got.ensures.bytes) c.go_on.ensures.taken

pub returns-in_err-got-clause-grows : goal.returns-in_err-got-clause-grows
returns-in_err-got-clause-grows g c = grows_not (option_map (next_length c.args.left c.args.container) (g.R.Feed.remaining c.args.device.now)) (vec_capacity c.args.buffer.now)

pub returns-then-got-eq0-clause-grows : goal.returns-then-got-eq0-clause-grows
returns-then-got-eq0-clause-grows g c = grows_not (option_map (next_length c.args.left c.args.container) (g.R.Feed.remaining c.args.device.now)) (vec_capacity c.args.buffer.now)

pub returns-then-left-eq0-clause-grows : goal.returns-then-left-eq0-clause-grows
returns-then-left-eq0-clause-grows g c = grows_not (option_map (next_length c.args.left c.args.container) (g.R.Feed.remaining c.args.device.now)) (vec_capacity c.args.buffer.now)

pub returns-then-got-head-clause-grows : goal.returns-then-got-head-clause-grows
returns-then-got-head-clause-grows g c = grows_not (option_map (next_length c.args.left c.args.container) (g.R.Feed.remaining c.args.device.now)) (vec_capacity c.args.buffer.now)

pub returns-clause-grows : goal.returns-clause-grows
returns-clause-grows g c =
    let head = c.read_up_to.new.buffer in
    grows_next c.args.left c.args.container head (g.R.Feed.remaining c.args.device.now) (g.R.Feed.remaining c.read_up_to.new.feed) (vec_capacity c.args.buffer.now) (vec_capacity c.go_on.new.buffer) (omega arith) (omega arith) (all_read _ _ head c.in_ok-got.got (omega arith) c.in_ok-got.ensures.bytes)
    c.go_on.ensures.grows c.go_on.ensures.capacity

pub returns-clause-lacking : goal.returns-clause-lacking
returns-clause-lacking g c =
    let head = c.read_up_to.new.buffer in
    memory_of c.go_on.result _ _
    (asks_next c.args.left c.args.container head (g.R.Feed.remaining c.args.device.now) (g.R.Feed.remaining c.read_up_to.new.feed) (vec_capacity c.args.buffer.now) _ (omega arith) (omega arith) (all_read _ _ head c.in_ok-got.got (omega arith) c.in_ok-got.ensures.bytes))
    c.go_on.ensures.lacking

pub returns-clause-ahead : goal.returns-clause-ahead
returns-clause-ahead g c =
    let head = c.read_up_to.new.buffer in
    IfOk-weaker c.go_on.result _ _
    (λ step. next_passes c.args.left c.args.container (vec_len c.args.interfaces.now) c.args.interfaces.now.items head (g.R.Feed.remaining c.args.device.now) (g.R.Feed.remaining c.read_up_to.new.feed) _ step.event (all_read _ _ head c.in_ok-got.got (omega arith) c.in_ok-got.ensures.bytes))
    c.go_on.ensures.ahead

pub returns-clause-answer : goal.returns-clause-answer
returns-clause-answer g c =
    let head = c.read_up_to.new.buffer in
    let old = g.R.Feed.remaining c.args.device.now in
    let mid = g.R.Feed.remaining c.read_up_to.new.feed in
    let new = g.R.Feed.remaining c.go_on.new.device in
    let n = g.R.Feed.failures c.go_on.new.device in
    let is = c.args.interfaces.now.items in
    let is' = c.go_on.new.interfaces.items in
    let bytes = c.go_on.new.buffer.items in
    let results = pieces c.args.left c.args.container is in
    subst (λ m. Reads m n (option_map results old) new is' bytes c.go_on.result) c.in_ok-got.ensures.count
    (tells_from (g.R.Feed.failures c.read_up_to.new.feed) n old results (option_map results (behind head mid)) new is' bytes c.go_on.result
    (piece_begins c.args.left c.args.container is old mid head (all_read _ _ head c.in_ok-got.got (omega arith) c.in_ok-got.ensures.bytes))
    c.go_on.ensures.answer)
