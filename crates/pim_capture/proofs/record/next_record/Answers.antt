use Rattle.std.proofs.Common.{◌≡◌, ◌≢◌, ◌+◌, ◌-◌, ◌≤◌, List, ℕ, length, take, ◌<◌, Ok, Err, subst, ap, sym, ◌∙◌, arith, inl, inr, vec_len, vec_capacity}
use Rattle.std.proofs.lemmas.Result.{err_from_is_err_and}
use Rattle.std.specs.Option.{option_map}
use Rattle.pim_capture.specs.declared.fault.CaptureFault.TheVariants.{TooLong}
use Rattle.pim_capture.specs.Frame.{judge_frame}
use Rattle.pim_capture.specs.Capture.{most_captured, captured_length, millis_of, event_by, records}
use Rattle.pim_capture.specs.Parts.{FillsExactly}
use Rattle.pim_capture.specs.Next.{IsNext, CountsReads, event_seen, stated_length, HasLength}
use Rattle.pim_capture.proofs.Known.{end_known, bound_known, header_cut_known, whole_header, too_long_known, frame_fault_known, record_known}
use Rattle.std.proofs.lemmas.List.{length-take-le}
use Rattle.pim_capture.proofs.Taken.{front_taken, both_taken, most_with_frame}
use Rattle.pim_capture.proofs.Room.{named_known, lacks_room, memory_passed, fits_told}
use Rattle.pim_capture.proofs.record.next_record.Goals as goal

pub returns-then-got-eq0-clause-answer : goal.returns-then-got-eq0-clause-answer
returns-then-got-eq0-clause-answer g c =
    inr (end_known c.args.left c.args.format _ _ c.read_up_to.new.buffer c.in_ok-got.got (omega arith) c.in_ok-got.ensures.bytes (c.in_ok-got.ensures.end (omega arith)))

pub returns-then-left-eq0-clause-answer : goal.returns-then-left-eq0-clause-answer
returns-then-left-eq0-clause-answer g c =
    inr (bound_known c.args.left c.args.format _ _ c.read_up_to.new.buffer c.in_ok-got.got (omega arith) (omega arith) c.in_ok-got.ensures.bound c.in_ok-got.ensures.bytes)

pub returns-then-got-lt16-clause-answer : goal.returns-then-got-lt16-clause-answer
returns-then-got-lt16-clause-answer g c =
    inr (header_cut_known c.args.left c.args.format _ _ c.read_up_to.new.buffer c.in_ok-got.got (omega arith) (omega arith) (omega arith) c.in_ok-got.ensures.bound
    c.in_ok-got.ensures.bytes (c.in_ok-got.ensures.end (omega arith)))

pub returns-then-length-gt-MOST_CAPTURED-clause-answer :
    goal.returns-then-length-gt-MOST_CAPTURED-clause-answer
returns-then-length-gt-MOST_CAPTURED-clause-answer g c =
    let header = c.read_up_to.new.buffer in
    let l : length header ≡ 16 = omega arith in
    inr (too_long_known c.args.left c.args.format _ _ header (omega arith) l
    (whole_header _ _ header c.in_ok-got.got l (omega arith) c.in_ok-got.ensures.bytes) (omega arith))

pub returns-in_err-read_frame-clause-answer : goal.returns-in_err-read_frame-clause-answer
returns-in_err-read_frame-clause-answer g c =
    let header = c.read_up_to.new.buffer in
    let l : length header ≡ 16 = omega arith in
    let size = c.read_u32_at-length.ensures in
    let new = c.read_frame.new.buffer.items in
    let p = err_from_is_err_and c.from_residual-in_err-read_frame.result c.from_residual-in_err-read_frame.ensures.1 in
    rw (p.1, p.2) (frame_fault_known c.args.left c.args.format _ _ _ header new c.in_err-read_frame.field-0.0 _ _ (omega arith) l
    (whole_header _ _ header c.in_ok-got.got l (omega arith) c.in_ok-got.ensures.bytes) (omega arith)
    (subst (λ n. FillsExactly n (g.R.Feed.remaining c.read_up_to.new.feed) (g.R.Feed.remaining c.read_frame.new.reader) new (Err c.in_err-read_frame.field-0.0)) size c.in_err-read_frame.ensures.answer)
    (subst (λ n. CountsReads {A = Unit {0}} ⊥ n (g.R.Feed.failures c.read_frame.new.reader) (Err c.in_err-read_frame.field-0.0)) c.in_ok-got.ensures.count c.in_err-read_frame.ensures.reads))

pub returns-clause-answer : goal.returns-clause-answer
returns-clause-answer g c =
    let header = c.read_up_to.new.buffer in
    let frame = c.read_frame.new.buffer.items in
    let l : length header ≡ 16 = omega arith in
    let old = g.R.Feed.remaining c.args.reader.now in
    let new = g.R.Feed.remaining c.read_frame.new.reader in
    let left = c.args.left in
    let format = c.args.format in
    let P : List ℕ → Type 0 = λ bytes. event_seen bytes c.event_of.result ≡ event_by c.millis-millis.result bytes (judge_frame format.link bytes) in
    let reported : event_seen frame c.event_of.result ≡ event_by (millis_of format header) frame (judge_frame format.link frame) =
    subst P c.as_slice.ensures.value c.event_of.ensures.event ∙ ap (λ millis. event_by millis frame (judge_frame format.link frame)) c.millis-millis.ensures.millis in
    inr (subst (λ t. IsNext (option_map (records left format) old) (Ok t) (option_map (records (left - 1) format) new)) (sym reported)
    (record_known left format old (g.R.Feed.remaining c.read_up_to.new.feed) new header frame (omega arith) l
    (whole_header _ _ header c.in_ok-got.got l (omega arith) c.in_ok-got.ensures.bytes) (omega arith)
    (c.in_ok-read_frame.ensures.answer.0 ∙ c.read_u32_at-length.ensures) c.in_ok-read_frame.ensures.answer.1))

pub returns-in_err-read_frame-clause-taken : goal.returns-in_err-read_frame-clause-taken
returns-in_err-read_frame-clause-taken g c =
    let p = err_from_is_err_and c.from_residual-in_err-read_frame.result c.from_residual-in_err-read_frame.ensures.1 in
    let header = take c.in_ok-got.got c.read_up_to.new.buffer in
    let short : length header ≤ 16 = omega (arith, c.in_ok-got.ensures.bound, length-take-le c.in_ok-got.got c.read_up_to.new.buffer c.in_ok-got.ensures.bound) in
    let fault = c.in_err-read_frame.field-0.0 in
    let other : fault ≢ TooLong = λ same. c.read_frame.ensures.not_long (c.in_err-read_frame.was ∙ ap Err same) in
    rw (p.1, p.2, most_with_frame 16 fault other)
    (both_taken 16 c.read_u32_at-length.result (16 + most_captured) _ _ _ (front_taken 16 _ _ header c.in_ok-got.ensures.bytes short) c.in_err-read_frame.ensures.taken (omega arith))

pub returns-clause-taken : goal.returns-clause-taken
returns-clause-taken g c =
    let header = take c.in_ok-got.got c.read_up_to.new.buffer in
    let short : length header ≤ 16 = omega (arith, c.in_ok-got.ensures.bound, length-take-le c.in_ok-got.got c.read_up_to.new.buffer c.in_ok-got.ensures.bound) in
    both_taken 16 c.read_u32_at-length.result (16 + most_captured) _ _ _ (front_taken 16 _ _ header c.in_ok-got.ensures.bytes short) c.in_ok-read_frame.ensures.taken (omega arith)

pub returns-clause-length : goal.returns-clause-length
returns-clause-length g c =
    let header = c.read_up_to.new.buffer in
    let l : length header ≡ 16 = omega arith in
    let next_length = named_known c.args.left c.args.format _ _ header (omega arith) l
    (whole_header _ _ header c.in_ok-got.got l (omega arith) c.in_ok-got.ensures.bytes) (omega arith) in
    let size : captured_length c.args.format header ≡ vec_len c.read_frame.new.buffer =
    omega (arith, c.as_slice.ensures.len, ap length c.as_slice.ensures.value, c.in_ok-read_frame.ensures.answer.0, c.read_u32_at-length.ensures) in
    fits_told c.event_of.result (vec_len c.args.buffer.now) (vec_len c.read_frame.new.buffer) _ c.event_of.ensures.record
    (subst (λ n. HasLength n (option_map (stated_length c.args.left c.args.format) (g.R.Feed.remaining c.args.reader.now))) size next_length)

pub returns-in_err-read_frame-clause-length : goal.returns-in_err-read_frame-clause-length
returns-in_err-read_frame-clause-length g c =
    let p = err_from_is_err_and c.from_residual-in_err-read_frame.result c.from_residual-in_err-read_frame.ensures.1 in
    let header = c.read_up_to.new.buffer in
    let l : length header ≡ 16 = omega arith in
    let next_length = named_known c.args.left c.args.format _ _ header (omega arith) l
    (whole_header _ _ header c.in_ok-got.got l (omega arith) c.in_ok-got.ensures.bytes) (omega arith) in
    let P : ℕ → Type 0 = λ n. HasLength n (option_map (stated_length c.args.left c.args.format) (g.R.Feed.remaining c.args.reader.now)) in
    rw p.1 (elim c.read_frame.ensures.length [
      | inl long ↦ inr (subst P (sym (long ∙ c.read_u32_at-length.ensures)) next_length)
      | inr kept ↦ inl kept.1
    ])

pub returns-in_err-read_frame-clause-memory : goal.returns-in_err-read_frame-clause-memory
returns-in_err-read_frame-clause-memory g c =
    let p = err_from_is_err_and c.from_residual-in_err-read_frame.result c.from_residual-in_err-read_frame.ensures.1 in
    let header = c.read_up_to.new.buffer in
    let l : length header ≡ 16 = omega arith in
    let next_length = named_known c.args.left c.args.format _ _ header (omega arith) l
    (whole_header _ _ header c.in_ok-got.got l (omega arith) c.in_ok-got.ensures.bytes) (omega arith) in
    let capacity = vec_capacity c.args.buffer.now in
    rw (p.1, p.2) (memory_passed c.in_err-read_frame.field-0.0 _ _
    (λ (less : capacity < c.read_u32_at-length.result). lacks_room capacity _ _ next_length (omega arith) (omega (arith, less, c.read_u32_at-length.ensures)))
    c.in_err-read_frame.ensures.memory)
