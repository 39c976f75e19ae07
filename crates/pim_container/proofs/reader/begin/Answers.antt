use Rattle.pim_container.proofs.Words.{vec_capacity, vec_len, true, ◌≡◌, ◌≤◌, length, arith, inl, inr, subst, false, Ok, Err}
use Rattle.pim_container.proofs.Words.{option_map, err_from_is_err_and, IfOk-weaker, ClassicFormat, Failed, Pieces, Classic}
use Rattle.pim_container.proofs.Words.{Section, ReaderStep, is_section, answers_in, CountsReads, Truncated, first_length}
use Rattle.pim_container.proofs.Beginnings.{short_known, all_read, classic_fault_known}
use Rattle.pim_container.proofs.Room.{memory_passed, memory_of, blocks_memory, classic_memory}
use Rattle.pim_container.proofs.Named.{grows_not, grows_first, grows_classic, asks_first, asks_classic}
use Rattle.pim_container.proofs.Taken.{takes_passed, first_failed, first_lost, blocks_taken, classic_taken}
use Rattle.pim_container.proofs.Needs.{blocks_pass, classic_passes}
use Rattle.pim_container.proofs.reader.begin.Goals as goal

pub returns-then-got-lt12-clause-answer : goal.returns-then-got-lt12-clause-answer
returns-then-got-lt12-clause-answer g c =
    inr (short_known (g.R.Feed.remaining c.args.device.now) (g.R.Feed.remaining c.read_up_to.new.feed) c.read_up_to.new.buffer c.in_ok-got.got
    (answers_in Failed c.clear.new.self.items) (omega arith) c.in_ok-got.ensures.bound c.in_ok-got.ensures.bytes (c.in_ok-got.ensures.end (omega arith)))

pub returns-in_err-format-clause-answer : goal.returns-in_err-format-clause-answer
returns-in_err-format-clause-answer g c =
    let p = err_from_is_err_and c.from_residual-in_err-format.result c.from_residual-in_err-format.ensures.1 in
    let head = c.read_up_to.new.buffer in
    let l : length head ≡ 12 = omega arith in
    let classic : is_section head ≡ false = grind arith in
    rw (p.1, p.2) (classic_fault_known (g.R.Feed.remaining c.args.device.now) (g.R.Feed.remaining c.read_up_to.new.feed) (g.R.Feed.remaining c.begin_classic.new.device) head c.in_err-format.field-0.0
    (g.R.Feed.failures c.args.device.now) (g.R.Feed.failures c.begin_classic.new.device) (answers_in Failed c.clear.new.self.items) l classic
    (all_read _ _ head c.in_ok-got.got (omega arith) c.in_ok-got.ensures.bytes) c.in_err-format.ensures.answer
    (subst (λ n. CountsReads {A = ClassicFormat} ⊥ n (g.R.Feed.failures c.begin_classic.new.device) (Err c.in_err-format.field-0.0)) c.in_ok-got.ensures.count c.in_err-format.ensures.reads))

pub returns-then-is_section-clause-memory : goal.returns-then-is_section-clause-memory
returns-then-is_section-clause-memory g c =
    let head = c.read_up_to.new.buffer in
    let l : length head ≡ 12 = omega arith in
    let blocks : is_section head ≡ true = grind arith in
    memory_of c.go_on.result _ _
    (blocks_memory (vec_capacity c.args.buffer.now) (g.R.Feed.remaining c.args.device.now) (g.R.Feed.remaining c.read_up_to.new.feed) head l blocks
    (all_read _ _ head c.in_ok-got.got (omega arith) c.in_ok-got.ensures.bytes)) c.go_on.ensures.memory

pub returns-in_err-format-clause-memory : goal.returns-in_err-format-clause-memory
returns-in_err-format-clause-memory g c =
    let p = err_from_is_err_and c.from_residual-in_err-format.result c.from_residual-in_err-format.ensures.1 in
    let head = c.read_up_to.new.buffer in
    let l : length head ≡ 12 = omega arith in
    let classic : is_section head ≡ false = grind arith in
    rw (p.1, p.2) (memory_passed ClassicFormat ReaderStep c.in_err-format.field-0.0 _ _
    (classic_memory (vec_capacity c.args.buffer.now) (g.R.Feed.remaining c.args.device.now) (g.R.Feed.remaining c.read_up_to.new.feed) head l classic
    (all_read _ _ head c.in_ok-got.got (omega arith) c.in_ok-got.ensures.bytes)) c.in_err-format.ensures.memory)

pub returns-in_err-got-clause-taken : goal.returns-in_err-got-clause-taken
returns-in_err-got-clause-taken g c =
    let p = err_from_is_err_and c.from_residual.result c.from_residual.ensures.1 in
    rw (p.1, p.2) (first_failed (length c.read_up_to.new.buffer) (g.R.Feed.remaining c.args.device.now) (g.R.Feed.remaining c.read_up_to.new.feed) (omega arith) c.in_err-got.ensures.front)

pub returns-then-got-lt12-clause-taken : goal.returns-then-got-lt12-clause-taken
returns-then-got-lt12-clause-taken g c =
    first_lost c.in_ok-got.got c.read_up_to.new.buffer (g.R.Feed.remaining c.args.device.now) (g.R.Feed.remaining c.read_up_to.new.feed) (Err Truncated) (omega arith) c.in_ok-got.ensures.bound c.in_ok-got.ensures.bytes (c.in_ok-got.ensures.end (omega arith))

pub returns-then-is_section-clause-taken : goal.returns-then-is_section-clause-taken
returns-then-is_section-clause-taken g c =
    let head = c.read_up_to.new.buffer in
    let l : length head ≡ 12 = omega arith in
    let blocks : is_section head ≡ true = grind arith in
    blocks_taken head (g.R.Feed.remaining c.args.device.now) (g.R.Feed.remaining c.read_up_to.new.feed) _ c.go_on.result l blocks (all_read _ _ head c.in_ok-got.got (omega arith) c.in_ok-got.ensures.bytes) c.go_on.ensures.taken

pub returns-in_err-format-clause-taken : goal.returns-in_err-format-clause-taken
returns-in_err-format-clause-taken g c =
    let p = err_from_is_err_and c.from_residual-in_err-format.result c.from_residual-in_err-format.ensures.1 in
    let head = c.read_up_to.new.buffer in
    let l : length head ≡ 12 = omega arith in
    let classic : is_section head ≡ false = grind arith in
    rw (p.1, p.2) (classic_taken head (g.R.Feed.remaining c.args.device.now) (g.R.Feed.remaining c.read_up_to.new.feed) _ (Err c.in_err-format.field-0.0) l classic (all_read _ _ head c.in_ok-got.got (omega arith) c.in_ok-got.ensures.bytes)
    (takes_passed ClassicFormat ReaderStep 24 c.in_err-format.field-0.0 _ _ c.in_err-format.ensures.taken))

pub returns-clause-taken : goal.returns-clause-taken
returns-clause-taken g c =
    let head = c.read_up_to.new.buffer in
    let l : length head ≡ 12 = omega arith in
    let classic : is_section head ≡ false = grind arith in
    let step : ReaderStep = record { state = Pieces (Classic c.in_ok-format.format) 4294967295; event = Section } in
    classic_taken head (g.R.Feed.remaining c.args.device.now) (g.R.Feed.remaining c.read_up_to.new.feed) _ (Ok step) l classic (all_read _ _ head c.in_ok-got.got (omega arith) c.in_ok-got.ensures.bytes) c.in_ok-format.ensures.taken

pub returns-in_err-got-clause-grows : goal.returns-in_err-got-clause-grows
returns-in_err-got-clause-grows g c = grows_not (option_map first_length (g.R.Feed.remaining c.args.device.now)) (vec_capacity c.args.buffer.now)

pub returns-then-got-lt12-clause-grows : goal.returns-then-got-lt12-clause-grows
returns-then-got-lt12-clause-grows g c = grows_not (option_map first_length (g.R.Feed.remaining c.args.device.now)) (vec_capacity c.args.buffer.now)

pub returns-then-is_section-clause-grows : goal.returns-then-is_section-clause-grows
returns-then-is_section-clause-grows g c =
    let head = c.read_up_to.new.buffer in
    let l : length head ≡ 12 = omega arith in
    let blocks : is_section head ≡ true = grind arith in
    grows_first head (g.R.Feed.remaining c.args.device.now) (g.R.Feed.remaining c.read_up_to.new.feed) (vec_capacity c.args.buffer.now) (vec_capacity c.go_on.new.buffer) l blocks (all_read _ _ head c.in_ok-got.got (omega arith) c.in_ok-got.ensures.bytes) c.go_on.ensures.grows c.go_on.ensures.capacity

pub returns-in_err-format-clause-grows : goal.returns-in_err-format-clause-grows
returns-in_err-format-clause-grows g c =
    let head = c.read_up_to.new.buffer in
    let l : length head ≡ 12 = omega arith in
    let classic : is_section head ≡ false = grind arith in
    grows_classic head (g.R.Feed.remaining c.args.device.now) (g.R.Feed.remaining c.read_up_to.new.feed) (vec_capacity c.args.buffer.now) (vec_capacity c.begin_classic.new.buffer) l classic (all_read _ _ head c.in_ok-got.got (omega arith) c.in_ok-got.ensures.bytes) c.begin_classic.ensures.grows

pub returns-clause-grows : goal.returns-clause-grows
returns-clause-grows g c =
    let head = c.read_up_to.new.buffer in
    let l : length head ≡ 12 = omega arith in
    let classic : is_section head ≡ false = grind arith in
    grows_classic head (g.R.Feed.remaining c.args.device.now) (g.R.Feed.remaining c.read_up_to.new.feed) (vec_capacity c.args.buffer.now) (vec_capacity c.begin_classic.new.buffer) l classic (all_read _ _ head c.in_ok-got.got (omega arith) c.in_ok-got.ensures.bytes) c.begin_classic.ensures.grows

pub returns-then-is_section-clause-lacking : goal.returns-then-is_section-clause-lacking
returns-then-is_section-clause-lacking g c =
    let head = c.read_up_to.new.buffer in
    let l : length head ≡ 12 = omega arith in
    let blocks : is_section head ≡ true = grind arith in
    memory_of c.go_on.result _ _
    (asks_first head (g.R.Feed.remaining c.args.device.now) (g.R.Feed.remaining c.read_up_to.new.feed) (vec_capacity c.args.buffer.now) _ (vec_capacity c.args.interfaces.now ≤ 0)
    (λ (full : vec_capacity c.clear.new.self ≤ vec_len c.clear.new.self). omega (arith, full, c.clear.ensures.len, c.clear.ensures.capacity)) l blocks (all_read _ _ head c.in_ok-got.got (omega arith) c.in_ok-got.ensures.bytes))
    c.go_on.ensures.lacking

pub returns-in_err-format-clause-lacking : goal.returns-in_err-format-clause-lacking
returns-in_err-format-clause-lacking g c =
    let p = err_from_is_err_and c.from_residual-in_err-format.result c.from_residual-in_err-format.ensures.1 in
    let head = c.read_up_to.new.buffer in
    let l : length head ≡ 12 = omega arith in
    let classic : is_section head ≡ false = grind arith in
    rw (p.1, p.2) (memory_passed ClassicFormat ReaderStep c.in_err-format.field-0.0 _ _
    (λ less. inl (asks_classic head (g.R.Feed.remaining c.args.device.now) (g.R.Feed.remaining c.read_up_to.new.feed) (vec_capacity c.args.buffer.now) l classic (all_read _ _ head c.in_ok-got.got (omega arith) c.in_ok-got.ensures.bytes) less)) c.in_err-format.ensures.memory)

pub returns-then-is_section-clause-ahead : goal.returns-then-is_section-clause-ahead
returns-then-is_section-clause-ahead g c =
    let head = c.read_up_to.new.buffer in
    let l : length head ≡ 12 = omega arith in
    let blocks : is_section head ≡ true = grind arith in
    IfOk-weaker c.go_on.result _ _
    (λ step. blocks_pass (vec_len c.clear.new.self) c.clear.new.self.items head (g.R.Feed.remaining c.args.device.now) (g.R.Feed.remaining c.read_up_to.new.feed) _ step.event c.clear.ensures.len c.clear.ensures.items l blocks (all_read _ _ head c.in_ok-got.got (omega arith) c.in_ok-got.ensures.bytes))
    c.go_on.ensures.ahead

pub returns-clause-ahead : goal.returns-clause-ahead
returns-clause-ahead g c =
    let head = c.read_up_to.new.buffer in
    let l : length head ≡ 12 = omega arith in
    let classic : is_section head ≡ false = grind arith in
    classic_passes (vec_len c.clear.new.self) c.clear.new.self.items head (g.R.Feed.remaining c.args.device.now) (g.R.Feed.remaining c.read_up_to.new.feed) (g.R.Feed.remaining c.begin_classic.new.device) c.in_ok-format.format
    c.clear.ensures.len c.clear.ensures.items l classic (all_read _ _ head c.in_ok-got.got (omega arith) c.in_ok-got.ensures.bytes) c.in_ok-format.ensures.answer
