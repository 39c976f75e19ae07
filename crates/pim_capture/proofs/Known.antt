-- What was read of a reader that tells its bytes is the next of the answers to these bytes.
use Rattle.std.proofs.Common.{◌≡◌, ℕ, ◌+◌, ◌-◌, ◌<◌, ◌≤◌, ◌⊎◌, List, [], ◌∷◌, ◌++◌, length, take, drop, Option, Some, None, Result, Ok, Err, IfErr, ap, sym, ◌∙◌, subst, arith, refl, inl, inr}
use Rattle.std.specs.Option.{option_map}
use Rattle.std.specs.Io.KnownBytes.{Consumes, IsAtEnd}
use Rattle.std.proofs.lemmas.Grind.{common_steps}
use Rattle.std.proofs.lemmas.List.{take_all, length-append}
use Rattle.pim_addr.specs.Faults.{Answers, judged}
use Rattle.pim_capture.specs.declared.fault.CaptureFault.{CaptureFault}
use Rattle.pim_capture.specs.declared.fault.CaptureFault.TheVariants.{Magic, LinkType, Truncated, TooLong, Read, Memory, Failed, Block, Time, Vlans, Interfaces, InterfaceNames, LinkNumber, Gzip}
use Rattle.pim_capture.specs.declared.header.Format.{Format}
use Rattle.pim_capture.specs.Header.{judge_header, IsOfBytes}
use Rattle.pim_capture.specs.Frame.{Datagram, judge_frame}
use Rattle.pim_capture.specs.declared.event.Why.{Why}
use Rattle.pim_capture.specs.Capture.{EventSeen, Answer, ended, most_captured, captured_length, millis_of, frame_of, after_record, event_by, record_event, record_faults, unless_fault, records}
use Rattle.pim_capture.specs.Parts.{BeginsWith, FillsExactly}
use Rattle.pim_capture.specs.Next.{IsNext, IsRefusal, CountsReads, in_front}
use Rattle.pim_capture.proofs.Fronts.{front_is, front_reached}
use Rattle.pim_capture.proofs.Records.{records_end, records_bound, records_step, header_cut, too_long, frame_cut, whole}

-- ---- the header

header_answer : (xs ys : List ℕ) (header : List ℕ) (r : Result Format CaptureFault) → take 24 xs ≡ header → drop 24 xs ≡ ys
    → Answers (λ format. format) r (judge_header header) → IfErr r IsOfBytes → BeginsWith (Some xs) (Some ys) r
header_answer xs ys header (Ok format) e d a k = (ap judge_header e ∙ a, sym d)
header_answer xs ys header (Err Magic) e d a k = ap judge_header e ∙ a
header_answer xs ys header (Err LinkType) e d a k = ap judge_header e ∙ a
header_answer xs ys header (Err Truncated) e d a k = ap judge_header e ∙ a
header_answer xs ys header (Err TooLong) e d a k = ap judge_header e ∙ a
header_answer xs ys header (Err Read) e d a k = absurd k
header_answer xs ys header (Err Memory) e d a k = absurd k
header_answer xs ys header (Err Failed) e d a k = absurd k
header_answer xs ys header (Err Block) e d a k = ap judge_header e ∙ a
header_answer xs ys header (Err Time) e d a k = ap judge_header e ∙ a
header_answer xs ys header (Err (Vlans first other)) e d a k = ap judge_header e ∙ a
header_answer xs ys header (Err (Interfaces first other)) e d a k = ap judge_header e ∙ a
header_answer xs ys header (Err (InterfaceNames first other)) e d a k = ap judge_header e ∙ a
header_answer xs ys header (Err (LinkNumber number)) e d a k = ap judge_header e ∙ a
header_answer xs ys header (Err Gzip) e d a k = ap judge_header e ∙ a

pub header_known : (old new : Option (List ℕ)) (h : List ℕ) (got : ℕ) (r : Result Format CaptureFault) → length h ≡ 24 → got ≤ length h
    → Consumes old new (take got h) → (got < length h → IsAtEnd new)
    → Answers (λ format. format) r (judge_header (take got h)) → IfErr r IsOfBytes → BeginsWith old new r
header_known None new h got r l b e d a k = tt
header_known (Some xs) None h got r l b e d a k = absurd e
header_known (Some xs) (Some ys) h got r l b e d a k =
    let f = front_is 24 got h xs ys l b e d in header_answer xs ys (take got h) r f.0 f.1 a k

-- ---- a record: nothing is left, one too many begins, or its header isn't whole

pub end_known : (left : ℕ) (format : Format) (old new : Option (List ℕ)) (h : List ℕ) (got : ℕ) → got ≡ 0 → Consumes old new (take got h) → IsAtEnd new
    → IsNext (option_map (records left format) old) (Ok ended) (option_map (records (left - 1) format) new)
end_known left format None new h got z e d = tt
end_known left format (Some xs) None h got z e d = absurd e
end_known left format (Some xs) (Some ys) h got z e d =
    let none : xs ≡ [] = e ∙ ap (λ n. take n h ++ ys) z ∙ d in ap (records left format) none ∙ records_end left format

-- some bytes came
came : (h xs ys : List ℕ) (got : ℕ) → 0 < got → got ≤ length h → xs ≡ take got h ++ ys → (got + length ys ≡ length xs) × (0 < length xs)
came h xs ys got some b e = grind (arith, common_steps)

pub bound_known : (left : ℕ) (format : Format) (old new : Option (List ℕ)) (h : List ℕ) (got : ℕ) → left ≡ 0 → 0 < got → got ≤ length h → Consumes old new (take got h)
    → IsNext (option_map (records left format) old) (Err Read) (option_map (records (left - 1) format) new)
bound_known left format None new h got z some b e = tt
bound_known left format (Some xs) None h got z some b e = absurd e
bound_known left format (Some xs) (Some ys) h got z some b e = records_bound left format xs z (came h xs ys got some b e).1

-- the first record is at fault
at_fault : (left : ℕ) (format : Format) (xs : List ℕ) (fault : CaptureFault) → 0 < left → 0 < length xs → judged (record_faults format xs) (record_event format xs) ≡ Err fault
    → records left format xs ≡ Err fault ∷ []
at_fault left format xs fault some there e = records_step left format xs some there ∙ ap (λ r. unless_fault r (λ reported. Ok reported ∷ records (left - 1) format (after_record format xs))) e

pub header_cut_known : (left : ℕ) (format : Format) (old new : Option (List ℕ)) (h : List ℕ) (got : ℕ) → 0 < left → 0 < got → got < 16 → got ≤ length h
    → Consumes old new (take got h) → IsAtEnd new → IsNext (option_map (records left format) old) (Err Truncated) (option_map (records (left - 1) format) new)
header_cut_known left format None new h got some there cut b e d = tt
header_cut_known left format (Some xs) None h got some there cut b e d = absurd e
header_cut_known left format (Some xs) (Some ys) h got some there cut b e d =
    let n = came h xs ys got there b e in
    let short : length xs < 16 = omega (arith, ap length d) in
    at_fault left format xs Truncated some n.1 (header_cut format xs (record_event format xs) short)

-- ---- its header is whole

-- the header, what stands behind it, and how many bytes there are
pub header_is : (h xs ys : List ℕ) → length h ≡ 16 → xs ≡ h ++ ys → (take 16 xs ≡ h) × (drop 16 xs ≡ ys) × (16 ≤ length xs) × (0 < length xs)
header_is h xs ys l e =
    let n : length xs ≡ 16 + length ys = ap length e ∙ length-append h ys ∙ ap (λ k. k + length ys) l in
    let f = front_reached 16 xs h ys l e in
    (f.0, f.1, omega arith, omega arith)

-- so many bytes are the whole header
pub whole_header : (old new : Option (List ℕ)) (h : List ℕ) (got : ℕ) → length h ≡ 16 → 16 ≤ got → Consumes old new (take got h) → Consumes old new h
whole_header old new h got l b e = subst (λ bs. Consumes old new bs) (take_all got h (omega arith)) e

pub too_long_known : (left : ℕ) (format : Format) (old new : Option (List ℕ)) (h : List ℕ) → 0 < left → length h ≡ 16 → Consumes old new h
    → most_captured < captured_length format h → IsNext (option_map (records left format) old) (Err TooLong) (option_map (records (left - 1) format) new)
too_long_known left format None new h some l e long = tt
too_long_known left format (Some xs) None h some l e long = absurd e
too_long_known left format (Some xs) (Some ys) h some l e long =
    let f = header_is h xs ys l e in
    let P : List ℕ → Type 0 = λ header. most_captured < captured_length format header in
    at_fault left format xs TooLong some f.3 (too_long format xs (record_event format xs) f.2 (subst P (sym f.0) long))

frame_cut_known : (left : ℕ) (format : Format) (old mid : Option (List ℕ)) (xs ms ns : List ℕ) (h : List ℕ) → 0 < left → length h ≡ 16 → xs ≡ h ++ ms
    → captured_length format h ≤ most_captured → length ms < captured_length format h → records left format xs ≡ Err Truncated ∷ []
frame_cut_known left format old mid xs ms ns h some l e short cut =
    let f = header_is h xs ms l e in
    let P : List ℕ → Type 0 = λ header. captured_length format header ≤ most_captured in
    let Q : List ℕ → List ℕ → Type 0 = λ header rest. length rest < captured_length format header in
    at_fault left format xs Truncated some f.3
    (frame_cut format xs (record_event format xs) f.2 (subst P (sym f.0) short)
    (subst (λ rest. Q (take 16 xs) rest) (sym f.1) (subst (λ header. Q header ms) (sym f.0) cut)))

pub frame_fault_known : (left : ℕ) (format : Format) (old mid new : Option (List ℕ)) (h bytes : List ℕ) (fault : CaptureFault) (failures failures' : ℕ)
    → 0 < left → length h ≡ 16 → Consumes old mid h → captured_length format h ≤ most_captured
    → FillsExactly (captured_length format h) mid new bytes (Err fault) → CountsReads {A = Unit {0}} ⊥ failures failures' (Err fault)
    → IsRefusal {A = EventSeen} failures failures' (Err fault) ⊎ IsNext (option_map (records left format) old) (Err fault) (option_map (records (left - 1) format) new)
frame_fault_known left format None mid new h bytes fault failures failures' some l e short fills counts = inr tt
frame_fault_known left format (Some xs) None new h bytes fault failures failures' some l e short fills counts = absurd e
frame_fault_known left format (Some xs) (Some ms) None h bytes fault failures failures' some l e short fills counts = absurd fills
frame_fault_known left format (Some xs) (Some ms) (Some ns) h bytes Truncated failures failures' some l e short fills counts =
    inr (frame_cut_known left format (Some xs) (Some ms) xs ms ns h some l e short fills)
frame_fault_known left format (Some xs) (Some ms) (Some ns) h bytes Read failures failures' some l e short fills (inl counts) = inl (omega arith)
frame_fault_known left format (Some xs) (Some ms) (Some ns) h bytes Read failures failures' some l e short fills (inr counts) = absurd counts.0
frame_fault_known left format (Some xs) (Some ms) (Some ns) h bytes Memory failures failures' some l e short fills counts = inl tt
frame_fault_known left format (Some xs) (Some ms) (Some ns) h bytes Magic failures failures' some l e short fills counts = absurd fills
frame_fault_known left format (Some xs) (Some ms) (Some ns) h bytes LinkType failures failures' some l e short fills counts = absurd fills
frame_fault_known left format (Some xs) (Some ms) (Some ns) h bytes TooLong failures failures' some l e short fills counts = absurd fills
frame_fault_known left format (Some xs) (Some ms) (Some ns) h bytes Failed failures failures' some l e short fills counts = absurd fills
frame_fault_known left format (Some xs) (Some ms) (Some ns) h bytes Block failures failures' some l e short fills counts = absurd fills
frame_fault_known left format (Some xs) (Some ms) (Some ns) h bytes Time failures failures' some l e short fills counts = absurd fills
frame_fault_known left format (Some xs) (Some ms) (Some ns) h bytes (Vlans first other) failures failures' some l e short fills counts = absurd fills
frame_fault_known left format (Some xs) (Some ms) (Some ns) h bytes (Interfaces first other) failures failures' some l e short fills counts = absurd fills
frame_fault_known left format (Some xs) (Some ms) (Some ns) h bytes (InterfaceNames first other) failures failures' some l e short fills counts = absurd fills
frame_fault_known left format (Some xs) (Some ms) (Some ns) h bytes (LinkNumber number) failures failures' some l e short fills counts = absurd fills
frame_fault_known left format (Some xs) (Some ms) (Some ns) h bytes Gzip failures failures' some l e short fills counts = absurd fills

-- ---- it is whole

in_front_told : (millis : ℕ) (frame : List ℕ) (r : Result Datagram Why) (later : List Answer) → in_front (Ok (event_by millis frame r)) later ≡ Ok (event_by millis frame r) ∷ later
in_front_told millis frame (Ok datagram) later = refl
in_front_told millis frame (Err why) later = refl

record_whole : (left : ℕ) (format : Format) (xs ms ns : List ℕ) (h bytes : List ℕ) → 0 < left → length h ≡ 16 → xs ≡ h ++ ms → captured_length format h ≤ most_captured
    → length bytes ≡ captured_length format h → ms ≡ bytes ++ ns
    → records left format xs ≡ Ok (event_by (millis_of format h) bytes (judge_frame format.link bytes)) ∷ records (left - 1) format ns
record_whole left format xs ms ns h bytes some l e short size e' =
    let f = header_is h xs ms l e in
    let n : length ms ≡ captured_length format h + length ns = ap length e' ∙ length-append bytes ns ∙ ap (λ k. k + length ns) size in
    let here : captured_length format h ≤ length ms = omega arith in
    let g = front_reached (captured_length format h) ms bytes ns size e' in
    let P : List ℕ → Type 0 = λ header. captured_length format header ≤ most_captured in
    let Q : List ℕ → List ℕ → Type 0 = λ header rest. captured_length format header ≤ length rest in
    let there : captured_length format (take 16 xs) ≤ length (drop 16 xs) = subst (λ rest. Q (take 16 xs) rest) (sym f.1) (subst (λ header. Q header ms) (sym f.0) here) in
    let frame : frame_of format xs ≡ bytes =
    ap (λ header. take (captured_length format header) (drop 16 xs)) f.0 ∙ ap (take (captured_length format h)) f.1 ∙ g.0 in
    let after : after_record format xs ≡ ns =
    ap (λ header. drop (captured_length format header) (drop 16 xs)) f.0 ∙ ap (drop (captured_length format h)) f.1 ∙ g.1 in
    let reported : record_event format xs ≡ event_by (millis_of format h) bytes (judge_frame format.link bytes) =
    ap (λ header. event_by (millis_of format header) (frame_of format xs) (judge_frame format.link (frame_of format xs))) f.0
    ∙ ap (λ bs. event_by (millis_of format h) bs (judge_frame format.link bs)) frame in
    records_step left format xs some f.3
    ∙ ap (λ r. unless_fault r (λ t. Ok t ∷ records (left - 1) format (after_record format xs))) (whole format xs (record_event format xs) f.2 (subst P (sym f.0) short) there)
    ∙ ap (λ t. Ok t ∷ records (left - 1) format (after_record format xs)) reported
    ∙ ap (λ bs. Ok (event_by (millis_of format h) bytes (judge_frame format.link bytes)) ∷ records (left - 1) format bs) after

pub record_known : (left : ℕ) (format : Format) (old mid new : Option (List ℕ)) (h bytes : List ℕ) → 0 < left → length h ≡ 16 → Consumes old mid h
    → captured_length format h ≤ most_captured → length bytes ≡ captured_length format h → Consumes mid new bytes
    → IsNext (option_map (records left format) old) (Ok (event_by (millis_of format h) bytes (judge_frame format.link bytes))) (option_map (records (left - 1) format) new)
record_known left format None mid new h bytes some l e short size e' = tt
record_known left format (Some xs) None new h bytes some l e short size e' = absurd e
record_known left format (Some xs) (Some ms) None h bytes some l e short size e' = absurd e'
record_known left format (Some xs) (Some ms) (Some ns) h bytes some l e short size e' =
    record_whole left format xs ms ns h bytes some l e short size e'
    ∙ sym (in_front_told (millis_of format h) bytes (judge_frame format.link bytes) (records (left - 1) format ns))
