use Rattle.pim_container.proofs.Words.{vec_capacity, subst, sym, ◌∙◌, Ok, Err, inl, refl, err_from_is_err_and, Container}
use Rattle.pim_container.proofs.Words.{FoundPiece, ContainerEvent, IsPiece, head_faults, extent_of, piece_length}
use Rattle.pim_container.proofs.Whole.{extent_is, head_fault_known, rest_fault_known, told_fault_known, told_known, is_piece}
use Rattle.pim_container.proofs.Room.{memory_passed, memory_not, room_known, described_known, lacks_known, described_first, asks_place}
use Rattle.pim_container.proofs.Named.{named_ok, named_none}
use Rattle.pim_container.proofs.Taken.{head_refused, rest_refused, piece_lost}
use Rattle.pim_container.proofs.piece.take_piece.Goals as goal

pub returns-in_err-extent-clause-answer : goal.returns-in_err-extent-clause-answer
returns-in_err-extent-clause-answer g c =
    let p = err_from_is_err_and c.from_residual.result c.from_residual.ensures.1 in
    rw (p.1, p.2) (head_fault_known c.args.container c.args.interfaces.now.items c.args.interfaces.now.items c.args.head.now c.args.buffer.now.items
    (g.R.Feed.remaining c.args.device.now) c.in_err-extent.field-0.0 c.requires c.in_err-extent.ensures.answer)

pub returns-in_err-read_after-clause-answer : goal.returns-in_err-read_after-clause-answer
returns-in_err-read_after-clause-answer g c =
    let p = err_from_is_err_and c.from_residual-in_err-read_after.result c.from_residual-in_err-read_after.ensures.1 in
    let x = extent_is c.args.container c.args.head.now c.in_ok-extent.extent c.in_ok-extent.ensures.answer in
    rw (p.1, p.2) (rest_fault_known c.args.container c.args.interfaces.now.items c.args.interfaces.now.items c.args.head.now c.read_after.new.buffer.items c.in_ok-extent.extent.length
    (g.R.Feed.remaining c.args.device.now) (g.R.Feed.remaining c.read_after.new.device) c.in_err-read_after.field-0.0 c.requires x.0 x.2 c.in_err-read_after.ensures.answer)

pub read_piece-requires : goal.read_piece-requires
read_piece-requires g c =
    let x = extent_is c.args.container c.args.head.now c.in_ok-extent.extent c.in_ok-extent.ensures.answer in
    let P : Container → Type 0 = λ it. IsPiece it c.read_after.new.buffer.items in
    subst P (sym x.1) (is_piece c.args.container c.args.head.now c.read_after.new.buffer.items c.requires x.0 (c.in_ok-read_after.ensures.answer.0 ∙ x.2) c.in_ok-read_after.ensures.answer.1)

pub returns-in_err-event-clause-answer : goal.returns-in_err-event-clause-answer
returns-in_err-event-clause-answer g c =
    let p = err_from_is_err_and c.from_residual-in_err-event.result c.from_residual-in_err-event.ensures.1 in
    let x = extent_is c.args.container c.args.head.now c.in_ok-extent.extent c.in_ok-extent.ensures.answer in
    rw (p.1, p.2) (told_fault_known c.args.container c.in_ok-extent.extent.container c.args.interfaces.now.items c.read_piece.new.interfaces.items c.args.head.now c.read_after.new.buffer.items c.read_piece.new.buffer.items
    c.in_ok-extent.extent.length (g.R.Feed.remaining c.args.device.now) (g.R.Feed.remaining c.read_after.new.device) c.in_err-event.field-0.0 c.requires x.0 x.1 x.2
    c.in_ok-read_after.ensures.answer c.in_err-event.ensures.answer)

pub returns-clause-answer : goal.returns-clause-answer
returns-clause-answer g c =
    let x = extent_is c.args.container c.args.head.now c.in_ok-extent.extent c.in_ok-extent.ensures.answer in
    let found : FoundPiece = record { container = c.in_ok-extent.extent.container; event = c.in_ok-event.event } in
    told_known c.args.container c.args.interfaces.now.items c.read_piece.new.interfaces.items c.args.head.now c.read_after.new.buffer.items c.read_piece.new.buffer.items
    c.in_ok-extent.extent.length (g.R.Feed.remaining c.args.device.now) (g.R.Feed.remaining c.read_after.new.device) found c.requires x.0 x.1 x.2
    c.in_ok-read_after.ensures.answer c.in_ok-event.ensures.answer c.in_ok-event.ensures.interfaces

pub returns-in_err-extent-clause-memory : goal.returns-in_err-extent-clause-memory
returns-in_err-extent-clause-memory g c =
    let p = err_from_is_err_and c.from_residual.result c.from_residual.ensures.1 in
    rw (p.1, p.2) (memory_not FoundPiece c.in_err-extent.field-0.0 _ c.in_err-extent.ensures.not_other)

pub returns-in_err-read_after-clause-memory : goal.returns-in_err-read_after-clause-memory
returns-in_err-read_after-clause-memory g c =
    let p = err_from_is_err_and c.from_residual-in_err-read_after.result c.from_residual-in_err-read_after.ensures.1 in
    let x = extent_is c.args.container c.args.head.now c.in_ok-extent.extent c.in_ok-extent.ensures.answer in
    rw (p.1, p.2) (memory_passed (Unit {0}) FoundPiece c.in_err-read_after.field-0.0 _ _
    (room_known (vec_capacity c.args.buffer.now) c.in_ok-extent.extent.length c.args.container c.args.head.now (g.R.Feed.remaining c.args.device.now) c.requires x.2)
    c.in_err-read_after.ensures.memory)

pub returns-in_err-event-clause-memory : goal.returns-in_err-event-clause-memory
returns-in_err-event-clause-memory g c =
    let p = err_from_is_err_and c.from_residual-in_err-event.result c.from_residual-in_err-event.ensures.1 in
    let x = extent_is c.args.container c.args.head.now c.in_ok-extent.extent c.in_ok-extent.ensures.answer in
    rw (p.1, p.2) (memory_passed ContainerEvent FoundPiece c.in_err-event.field-0.0 _ _
    (described_known (vec_capacity c.args.buffer.now) c.in_ok-extent.extent.length c.args.container c.in_ok-extent.extent.container c.args.head.now c.read_after.new.buffer.items
    (g.R.Feed.remaining c.args.device.now) (g.R.Feed.remaining c.read_after.new.device) c.requires x.0 x.1 x.2 c.in_ok-read_after.ensures.answer)
    c.in_err-event.ensures.memory)

pub returns-in_err-extent-clause-taken : goal.returns-in_err-extent-clause-taken
returns-in_err-extent-clause-taken g c =
    let p = err_from_is_err_and c.from_residual.result c.from_residual.ensures.1 in
    rw (p.1, p.2) (head_refused c.args.container c.args.head.now (g.R.Feed.remaining c.args.device.now) c.in_err-extent.field-0.0 c.in_err-extent.ensures.answer)

pub returns-in_err-read_after-clause-taken : goal.returns-in_err-read_after-clause-taken
returns-in_err-read_after-clause-taken g c =
    let p = err_from_is_err_and c.from_residual-in_err-read_after.result c.from_residual-in_err-read_after.ensures.1 in
    let x = extent_is c.args.container c.args.head.now c.in_ok-extent.extent c.in_ok-extent.ensures.answer in
    rw (p.1, p.2) (rest_refused c.args.container c.args.head.now c.in_ok-extent.extent.length (g.R.Feed.remaining c.args.device.now) (g.R.Feed.remaining c.read_after.new.device)
    c.in_err-read_after.field-0.0 x.0 x.2 c.in_err-read_after.ensures.taken)

pub returns-in_err-event-clause-taken : goal.returns-in_err-event-clause-taken
returns-in_err-event-clause-taken g c =
    let p = err_from_is_err_and c.from_residual-in_err-event.result c.from_residual-in_err-event.ensures.1 in
    let x = extent_is c.args.container c.args.head.now c.in_ok-extent.extent c.in_ok-extent.ensures.answer in
    rw (p.1, p.2) (piece_lost c.args.container c.args.head.now c.in_ok-extent.extent.length (g.R.Feed.remaining c.args.device.now) (g.R.Feed.remaining c.read_after.new.device)
    (Err c.in_err-event.field-0.0) x.0 x.2 c.in_ok-read_after.ensures.taken)

pub returns-clause-taken : goal.returns-clause-taken
returns-clause-taken g c =
    let x = extent_is c.args.container c.args.head.now c.in_ok-extent.extent c.in_ok-extent.ensures.answer in
    let found : FoundPiece = record { container = c.in_ok-extent.extent.container; event = c.in_ok-event.event } in
    piece_lost c.args.container c.args.head.now c.in_ok-extent.extent.length (g.R.Feed.remaining c.args.device.now) (g.R.Feed.remaining c.read_after.new.device)
    (Ok found) x.0 x.2 c.in_ok-read_after.ensures.taken

pub returns-in_err-extent-clause-grows : goal.returns-in_err-extent-clause-grows
returns-in_err-extent-clause-grows g c =
    let none = named_none (head_faults c.args.container c.args.head.now) (extent_of c.args.container c.args.head.now) c.in_err-extent.field-0.0 (piece_length c.args.container c.args.head.now)
    c.in_err-extent.ensures.answer in
    rw none refl

pub returns-in_err-read_after-clause-grows : goal.returns-in_err-read_after-clause-grows
returns-in_err-read_after-clause-grows g c =
    let x = extent_is c.args.container c.args.head.now c.in_ok-extent.extent c.in_ok-extent.ensures.answer in
    rw (named_ok c.args.container c.args.head.now c.in_ok-extent.extent.length x.0 x.2) c.read_after.ensures.grows

pub returns-in_err-event-clause-grows : goal.returns-in_err-event-clause-grows
returns-in_err-event-clause-grows g c =
    let x = extent_is c.args.container c.args.head.now c.in_ok-extent.extent c.in_ok-extent.ensures.answer in
    rw (named_ok c.args.container c.args.head.now c.in_ok-extent.extent.length x.0 x.2, c.read_piece.ensures.capacity) c.read_after.ensures.grows

pub returns-clause-grows : goal.returns-clause-grows
returns-clause-grows g c =
    let x = extent_is c.args.container c.args.head.now c.in_ok-extent.extent c.in_ok-extent.ensures.answer in
    rw (named_ok c.args.container c.args.head.now c.in_ok-extent.extent.length x.0 x.2, c.read_piece.ensures.capacity) c.read_after.ensures.grows

pub returns-in_err-extent-clause-lacking : goal.returns-in_err-extent-clause-lacking
returns-in_err-extent-clause-lacking g c =
    let p = err_from_is_err_and c.from_residual.result c.from_residual.ensures.1 in
    rw (p.1, p.2) (memory_not FoundPiece c.in_err-extent.field-0.0 _ c.in_err-extent.ensures.not_other)

pub returns-in_err-read_after-clause-lacking : goal.returns-in_err-read_after-clause-lacking
returns-in_err-read_after-clause-lacking g c =
    let p = err_from_is_err_and c.from_residual-in_err-read_after.result c.from_residual-in_err-read_after.ensures.1 in
    let x = extent_is c.args.container c.args.head.now c.in_ok-extent.extent c.in_ok-extent.ensures.answer in
    rw (p.1, p.2) (memory_passed (Unit {0}) FoundPiece c.in_err-read_after.field-0.0 _ _
    (λ less. inl (lacks_known (vec_capacity c.args.buffer.now) c.in_ok-extent.extent.length c.args.container c.args.head.now x.0 x.2 less))
    c.in_err-read_after.ensures.memory)

pub returns-in_err-event-clause-lacking : goal.returns-in_err-event-clause-lacking
returns-in_err-event-clause-lacking g c =
    let p = err_from_is_err_and c.from_residual-in_err-event.result c.from_residual-in_err-event.ensures.1 in
    let x = extent_is c.args.container c.args.head.now c.in_ok-extent.extent c.in_ok-extent.ensures.answer in
    rw (p.1, p.2) (asks_place ContainerEvent FoundPiece c.in_err-event.field-0.0 _ _ _ _
    (described_first c.in_ok-extent.extent.length c.args.container c.in_ok-extent.extent.container c.args.head.now c.read_after.new.buffer.items
    (g.R.Feed.remaining c.args.device.now) (g.R.Feed.remaining c.read_after.new.device) c.requires x.0 x.1 x.2 c.in_ok-read_after.ensures.answer)
    c.in_err-event.ensures.memory c.in_err-event.ensures.full)
