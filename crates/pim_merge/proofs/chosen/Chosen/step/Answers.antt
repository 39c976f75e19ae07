use Rattle.pim_merge.proofs.Words.{◌∙◌, ◌+◌, ◌*◌, ◌⊎◌, List, [], ℕ, Option, Ok, IfSome, length, inl, inr, sym}
use Rattle.pim_merge.proofs.Words.{ap, subst, vec_len, vec_capacity, option_map, err_from_is_err_and, Need, needs_of}
use Rattle.pim_merge.proofs.Words.{Event, all_known, event_given, later_of, left_of_file, cut_left, piece_capacity, places}
use Rattle.pim_merge.proofs.Words.{read_needs, SomeExceeds, GrowsWithin}
use Rattle.pim_capture.specs.Next as classic
use Rattle.pim_container.specs.Next.{coming, IsNext, pieces_left}
use Rattle.pim_container.specs.EventSeen.{event_seen}
use Rattle.pim_merge.proofs.Needing.{within_same, memory_weaker, fails_memory, uncut_needs, asks_need, grows_need, asks_record, passes_given, passes_uncut, stays_held, given_none, grows_up, list_up}
use Rattle.pim_merge.proofs.Failures.{moves}
use Rattle.pim_merge.proofs.Choosing.{reports, report_left, now_reported, is_done, stepped, stepped_fault, after_cut, after_end, fails, fails_reads, fails_left, fails_payload, fails_moment, no_reads, stepped_left}
use Rattle.pim_merge.proofs.chosen.Chosen.step.Goals as goal

-- ---- a report

pub returns-in-Some-clause-answer : goal.returns-in-Some-clause-answer
returns-in-Some-clause-answer g c =
    let self = c.args.self.now in
    let bytes = c.args.buffer.now.items in
    reports self.is_begun self.taker c.report.new.self (left_of_file g.R.Feed.remaining self)
    (all_known g.R.Feed.remaining (later_of self)) (classic.event_seen bytes c.in-Some.report)
    (sym (ap (option_map (classic.event_seen bytes)) c.in-Some.is) ∙ c.report.ensures.report bytes) c.report.ensures.reported

pub returns-in-Some-clause-left : goal.returns-in-Some-clause-left
returns-in-Some-clause-left g c =
    let self = c.args.self.now in
    report_left (pieces_left self.reader.state * 3 + cut_left self.is_cut) (length (later_of self) * 12884901890)
    self.taker
    c.report.new.self c.in-Some.report (classic.event_seen [] c.in-Some.report)
    (sym (ap (option_map (classic.event_seen [])) c.in-Some.is) ∙ c.report.ensures.report []) c.report.ensures.reported

pub returns-in-Some-clause-payload : goal.returns-in-Some-clause-payload
returns-in-Some-clause-payload g c = c.in-Some.ensures.payload c.args.buffer.now.items

-- ---- the file was cut before

pub go_on-requires-clause-reported : goal.go_on-requires-clause-reported
go_on-requires-clause-reported g c =
    is_done c.args.self.now.taker c.report.new.self
    (sym (c.report.ensures.report []) ∙ ap (option_map (classic.event_seen [])) c.in_default.is)
    c.report.ensures.reported

pub returns-then-self-clause-answer : goal.returns-then-self-clause-answer
returns-then-self-clause-answer g c =
    let self = c.args.self.now in
    after_cut self.is_begun self.is_cut self.taker c.report.new.self (coming g.R.Feed.remaining self.reader)
    (all_known g.R.Feed.remaining (later_of self)) _ _ c.if-self.true
    (sym (c.report.ensures.report []) ∙ ap (option_map (classic.event_seen [])) c.in_default.is)
    (now_reported self.taker c.report.new.self (sym (c.report.ensures.report []) ∙ ap (option_map (classic.event_seen [])) c.in_default.is) c.report.ensures.reported)
    (c.go_on.ensures.answer c.args.buffer.now.items)

pub returns-then-self-clause-payload : goal.returns-then-self-clause-payload
returns-then-self-clause-payload g c = c.go_on.ensures.payload c.args.buffer.now.items

pub returns-then-self-clause-piece : goal.returns-then-self-clause-piece
returns-then-self-clause-piece g c = rw (c.go_on.ensures.piece) (within_same (vec_capacity c.args.self.now.piece)
    (read_needs g.R.Feed.remaining c.args.self.now))

-- ---- a fault of the container

pub returns-in-Err-clause-answer : goal.returns-in-Err-clause-answer
returns-in-Err-clause-answer g c =
    let self = c.args.self.now in
    rw (c.failed.ensures) (fails (g.R.Feed.failures self.reader.device) (g.R.Feed.failures c.next.new.self.device) _ _
    self.is_cut c.is_cut-cut.result self.is_begun self.taker c.report.new.self
    (coming g.R.Feed.remaining self.reader) (coming g.R.Feed.remaining c.next.new.self)
    (all_known g.R.Feed.remaining (later_of self))
    c.in-Err.fault c.args.buffer.now.items c.if-self.false (sym c.is_cut-cut.ensures)
    (sym (c.report.ensures.report []) ∙ ap (option_map (classic.event_seen [])) c.in_default.is)
    (now_reported self.taker c.report.new.self (sym (c.report.ensures.report []) ∙ ap (option_map (classic.event_seen [])) c.in_default.is) c.report.ensures.reported)
    (moves g.R.Feed.failures self.reader.device c.next.new.self.device self.others.items) c.in-Err.ensures.answer)

pub returns-in-Err-clause-reads : goal.returns-in-Err-clause-reads
returns-in-Err-clause-reads g c =
    let self = c.args.self.now in
    rw (c.failed.ensures) (fails_reads _ _ _ _ _ c.is_cut-cut.result self.is_begun c.in-Err.fault (sym c.is_cut-cut.ensures)
    (moves g.R.Feed.failures self.reader.device c.next.new.self.device self.others.items) c.in-Err.ensures.reads)

pub returns-in-Err-clause-left : goal.returns-in-Err-clause-left
returns-in-Err-clause-left g c =
    let self = c.args.self.now in
    rw (c.failed.ensures) (fails_left (pieces_left self.reader.state) (pieces_left c.next.new.self.state) (length
    (later_of self) * 12884901890)
    self.is_cut c.is_cut-cut.result self.taker c.report.new.self c.in-Err.fault c.if-self.false (ap pieces_left
    c.in-Err.ensures.over)
    (now_reported self.taker c.report.new.self (sym (c.report.ensures.report []) ∙ ap (option_map (classic.event_seen [])) c.in_default.is) c.report.ensures.reported))

pub returns-in-Err-clause-payload : goal.returns-in-Err-clause-payload
returns-in-Err-clause-payload g c = rw (c.failed.ensures) (fails_payload c.is_cut-cut.result c.in-Err.fault _)

pub returns-in-Err-clause-moment : goal.returns-in-Err-clause-moment
returns-in-Err-clause-moment g c = rw (c.failed.ensures) (fails_moment c.is_cut-cut.result c.in-Err.fault)

pub returns-in-Err-clause-memory : goal.returns-in-Err-clause-memory
returns-in-Err-clause-memory g c =
    let self = c.args.self.now in
    let needs = needs_of g.R.Feed.remaining self.reader in
    rw (c.failed.ensures) (fails_memory c.is_cut-cut.result c.in-Err.fault _ _
    (λ asked. inr (inl (subst (λ (it : Option (List Need)). IfSome it (SomeExceeds (piece_capacity self) (places
    self))) (sym (uncut_needs self.is_cut needs c.if-self.false))
    (asks_need (piece_capacity self) (places self) self.reader.state (vec_len self.reader.interfaces)
    self.reader.interfaces.items (g.R.Feed.remaining self.reader.device) asked))))
    c.in-Err.ensures.lacking)

pub returns-in-Err-clause-piece : goal.returns-in-Err-clause-piece
returns-in-Err-clause-piece g c =
    let self = c.args.self.now in
    let needs = needs_of g.R.Feed.remaining self.reader in
    subst (λ (it : Option (List Need)). GrowsWithin (piece_capacity self) (vec_capacity c.next.new.buffer) it) (sym
    (uncut_needs self.is_cut needs c.if-self.false))
    (grows_need (piece_capacity self) (vec_capacity c.next.new.buffer) self.reader.state (vec_len
    self.reader.interfaces) self.reader.interfaces.items (g.R.Feed.remaining self.reader.device)
    c.in-Err.ensures.grows)

-- ---- a fault of the taker

pub returns-in_err-event-clause-answer : goal.returns-in_err-event-clause-answer
returns-in_err-event-clause-answer g c =
    let self = c.args.self.now in
    let old = coming g.R.Feed.remaining self.reader in
    let new = coming g.R.Feed.remaining c.next.new.self in
    let P : List ℕ → Type 0 = λ bytes. ⊥ ⊎ IsNext old (Ok (event_seen bytes c.in-Ok.event)) new in
    let p = err_from_is_err_and c.from_residual.result c.from_residual.ensures.1 in
    rw (p.1, p.2) (stepped_fault _ _ self.is_cut self.is_begun self.taker c.report.new.self c.take.new.self old new
    (all_known g.R.Feed.remaining (later_of self)) c.in-Ok.event c.as_slice.result.now c.take.new.buffer.items
    c.if-self.false
    (sym (c.report.ensures.report []) ∙ ap (option_map (classic.event_seen [])) c.in_default.is)
    (now_reported self.taker c.report.new.self (sym (c.report.ensures.report []) ∙ ap (option_map (classic.event_seen [])) c.in_default.is) c.report.ensures.reported)
    (subst P (sym c.as_slice.ensures.value) c.in-Ok.ensures.answer) c.in_err-event.field-0.0
    c.in_err-event.ensures.answer)

pub returns-in_err-event-clause-reads : goal.returns-in_err-event-clause-reads
returns-in_err-event-clause-reads g c =
    let self = c.args.self.now in
    no_reads _ _ c.from_residual.result ((moves g.R.Feed.failures self.reader.device c.next.new.self.device
    self.others.items).stays c.in-Ok.ensures.reads)

pub returns-in_err-event-clause-memory : goal.returns-in_err-event-clause-memory
returns-in_err-event-clause-memory g c =
    let self = c.args.self.now in
    let old = coming g.R.Feed.remaining self.reader in
    let new = coming g.R.Feed.remaining c.next.new.self in
    let P : List ℕ → Type 0 = λ bytes. ⊥ ⊎ IsNext old (Ok (event_seen bytes c.in-Ok.event)) new in
    let p = err_from_is_err_and c.from_residual.result c.from_residual.ensures.1 in
    rw (p.1, p.2) (memory_weaker (Option Event) (Option Event) c.in_err-event.field-0.0 _ _
    (asks_record (vec_capacity c.args.buffer.now) (piece_capacity self) (places self) self.is_cut self.is_begun
    self.taker c.report.new.self old new
    (all_known g.R.Feed.remaining (later_of self)) c.in-Ok.event c.as_slice.result.now (read_needs
    g.R.Feed.remaining self) c.if-self.false
    (sym (c.report.ensures.report []) ∙ ap (option_map (classic.event_seen [])) c.in_default.is)
    (now_reported self.taker c.report.new.self (sym (c.report.ensures.report []) ∙ ap (option_map (classic.event_seen [])) c.in_default.is) c.report.ensures.reported)
    (subst P (sym c.as_slice.ensures.value) c.in-Ok.ensures.answer))
    c.in_err-event.ensures.memory)

pub returns-in_err-event-clause-piece : goal.returns-in_err-event-clause-piece
returns-in_err-event-clause-piece g c =
    let self = c.args.self.now in
    let needs = needs_of g.R.Feed.remaining self.reader in
    subst (λ (it : Option (List Need)). GrowsWithin (piece_capacity self) (vec_capacity c.next.new.buffer) it) (sym (uncut_needs self.is_cut needs c.if-self.false))
    (grows_need (piece_capacity self) (vec_capacity c.next.new.buffer) self.reader.state (vec_len self.reader.interfaces) self.reader.interfaces.items (g.R.Feed.remaining self.reader.device)
    c.in-Ok.ensures.grows)

-- ---- the end of a file

pub go_on-requires-then-is_last-clause-reported : goal.go_on-requires-then-is_last-clause-reported
go_on-requires-then-is_last-clause-reported g c =
    ap (λ s. s.is_reported) (c.take.ensures.ended (sym c.is_end-is_last.ensures ∙ c.if-is_last.true))
    ∙ is_done c.args.self.now.taker c.report.new.self
    (sym (c.report.ensures.report []) ∙ ap (option_map (classic.event_seen [])) c.in_default.is)
    c.report.ensures.reported

pub returns-then-is_last-clause-answer : goal.returns-then-is_last-clause-answer
returns-then-is_last-clause-answer g c =
    let self = c.args.self.now in
    let old = coming g.R.Feed.remaining self.reader in
    let new = coming g.R.Feed.remaining c.next.new.self in
    let P : List ℕ → Type 0 = λ bytes. ⊥ ⊎ IsNext old (Ok (event_seen bytes c.in-Ok.event)) new in
    after_end self.is_begun self.is_cut self.taker c.report.new.self c.take.new.self old new
    (all_known g.R.Feed.remaining (later_of self)) c.in-Ok.event c.as_slice.result.now c.take.new.buffer.items _ _ _
    c.if-self.false (sym c.is_end-is_last.ensures ∙ c.if-is_last.true)
    (sym (c.report.ensures.report []) ∙ ap (option_map (classic.event_seen [])) c.in_default.is)
    (now_reported self.taker c.report.new.self (sym (c.report.ensures.report []) ∙ ap (option_map (classic.event_seen [])) c.in_default.is) c.report.ensures.reported)
    (subst P (sym c.as_slice.ensures.value) c.in-Ok.ensures.answer) c.in_ok-event.ensures.state
    c.in_ok-event.ensures.answer
    (c.go_on-then-is_last.ensures.answer c.take.new.buffer.items)

pub returns-then-is_last-clause-payload : goal.returns-then-is_last-clause-payload
returns-then-is_last-clause-payload g c = c.go_on-then-is_last.ensures.payload c.take.new.buffer.items

pub returns-then-is_last-clause-piece : goal.returns-then-is_last-clause-piece
returns-then-is_last-clause-piece g c =
    let self = c.args.self.now in
    let needs = needs_of g.R.Feed.remaining self.reader in
    rw (c.go_on-then-is_last.ensures.piece)
    (subst (λ (it : Option (List Need)). GrowsWithin (piece_capacity self) (vec_capacity c.next.new.buffer) it) (sym (uncut_needs self.is_cut needs c.if-self.false))
    (grows_need (piece_capacity self) (vec_capacity c.next.new.buffer) self.reader.state (vec_len self.reader.interfaces) self.reader.interfaces.items (g.R.Feed.remaining self.reader.device)
    c.in-Ok.ensures.grows))

-- ---- a piece

pub returns-clause-answer : goal.returns-clause-answer
returns-clause-answer g c =
    let self = c.args.self.now in
    let old = coming g.R.Feed.remaining self.reader in
    let new = coming g.R.Feed.remaining c.next.new.self in
    let P : List ℕ → Type 0 = λ bytes. ⊥ ⊎ IsNext old (Ok (event_seen bytes c.in-Ok.event)) new in
    stepped 0 0 self.is_cut self.is_begun self.taker c.report.new.self c.take.new.self old new
    (all_known g.R.Feed.remaining (later_of self)) c.in-Ok.event c.as_slice.result.now c.take.new.buffer.items
    c.if-self.false
    (sym (c.report.ensures.report []) ∙ ap (option_map (classic.event_seen [])) c.in_default.is)
    (now_reported self.taker c.report.new.self (sym (c.report.ensures.report []) ∙ ap (option_map (classic.event_seen [])) c.in_default.is) c.report.ensures.reported)
    (subst P (sym c.as_slice.ensures.value) c.in-Ok.ensures.answer) _
    (sym c.is_end-is_last.ensures ∙ c.if-is_last.false) c.in_ok-event.ensures.state c.in_ok-event.ensures.answer

pub returns-clause-reads : goal.returns-clause-reads
returns-clause-reads g c =
    let self = c.args.self.now in
    (moves g.R.Feed.failures self.reader.device c.next.new.self.device self.others.items).stays c.in-Ok.ensures.reads

pub returns-clause-left : goal.returns-clause-left
returns-clause-left g c =
    let self = c.args.self.now in
    stepped_left (pieces_left self.reader.state) (pieces_left c.next.new.self.state) (length (later_of self) *
    12884901890)
    self.is_cut self.taker c.take.new.self c.in-Ok.event (Ok _) (sym c.is_end-is_last.ensures
    ∙ c.if-is_last.false) c.in-Ok.ensures.fewer

pub returns-clause-piece : goal.returns-clause-piece
returns-clause-piece g c =
    let self = c.args.self.now in
    let needs = needs_of g.R.Feed.remaining self.reader in
    subst (λ (it : Option (List Need)). GrowsWithin (piece_capacity self) (vec_capacity c.next.new.buffer) it) (sym (uncut_needs self.is_cut needs c.if-self.false))
    (grows_need (piece_capacity self) (vec_capacity c.next.new.buffer) self.reader.state (vec_len self.reader.interfaces) self.reader.interfaces.items (g.R.Feed.remaining self.reader.device)
    c.in-Ok.ensures.grows)

pub returns-clause-needs : goal.returns-clause-needs
returns-clause-needs g c none =
    let self = c.args.self.now in
    let old = needs_of g.R.Feed.remaining self.reader in
    let new = needs_of g.R.Feed.remaining c.next.new.self in
    let seen = c.as_slice.result.now in
    passes_uncut self.is_cut old new c.if-self.false
    (passes_given c.report.new.self c.in-Ok.event seen old new
    (given_none (event_given c.report.new.self (event_seen seen c.in-Ok.event)) c.take.new.buffer.items _
    c.in_ok-event.ensures.answer none)
    (sym c.is_end-is_last.ensures ∙ c.if-is_last.false) c.in-Ok.ensures.ahead)

pub returns-clause-held : goal.returns-clause-held
returns-clause-held g c none =
    let self = c.args.self.now in
    let old = coming g.R.Feed.remaining self.reader in
    let new = coming g.R.Feed.remaining c.next.new.self in
    let seen = c.as_slice.result.now in
    let P : List ℕ → Type 0 = λ bytes. ⊥ ⊎ IsNext old (Ok (event_seen bytes c.in-Ok.event)) new in
    stays_held self.is_cut self.taker c.report.new.self c.take.new.self old new c.in-Ok.event seen c.if-self.false
    (sym (c.report.ensures.report []) ∙ ap (option_map (classic.event_seen [])) c.in_default.is)
    c.report.ensures.reported c.in_ok-event.ensures.state
    (given_none (event_given c.report.new.self (event_seen seen c.in-Ok.event)) c.take.new.buffer.items _
    c.in_ok-event.ensures.answer none)
    (sym c.is_end-is_last.ensures ∙ c.if-is_last.false) (subst P (sym c.as_slice.ensures.value) c.in-Ok.ensures.answer)

pub returns-clause-rooms : goal.returns-clause-rooms
returns-clause-rooms g c none = (
  grows_up _ _ _ c.in-Ok.ensures.grows,
  list_up c.in-Ok.event _ _ _
      c.in-Ok.ensures.list,
  c.take.ensures.room,
)
