-- How much was taken of a reader that tells its bytes.
use Rattle.std.proofs.Common.{◌≡◌, ◌≢◌, ℕ, ◌+◌, ◌-◌, ◌≤◌, List, length, drop, Option, Some, None, Result, Ok, Err, ap, sym, ◌∙◌, arith, refl}
use Rattle.std.specs.Io.KnownBytes.{Consumes}
use Rattle.std.proofs.lemmas.List.{drop_at, drop-drop, length-append, length-drop}
use Rattle.pim_device.specs.Device.{ConsumesAtMost}
use Rattle.pim_capture.specs.declared.event.Event.{Event}
use Rattle.pim_capture.specs.declared.fault.CaptureFault.{CaptureFault}
use Rattle.pim_capture.specs.declared.fault.CaptureFault.TheVariants.{Magic, LinkType, Truncated, TooLong, Read, Memory, Failed, Block, Time, Vlans, Interfaces, InterfaceNames, LinkNumber, Gzip}
use Rattle.pim_capture.specs.Capture.{most_captured}
use Rattle.pim_capture.specs.Next.{most_taken}

pub front_taken : (most : ℕ) (old new : Option (List ℕ)) (bs : List ℕ) → Consumes old new bs → length bs ≤ most → ConsumesAtMost most old new
front_taken most None new bs e h = tt
front_taken most (Some xs) None bs e h = e
front_taken most (Some xs) (Some ys) bs e h =
    let n : length xs ≡ length bs + length ys = ap length e ∙ length-append bs ys in
    let k : length bs ≡ length xs - length ys = omega arith in
    (omega arith, sym (ap (drop (length xs - length ys)) e ∙ drop_at bs ys (length xs - length ys) k))

pub none_taken : (most : ℕ) (old : Option (List ℕ)) → ConsumesAtMost most old old
none_taken most None = tt
none_taken most (Some xs) =
    let k : length xs - length xs ≡ 0 = omega arith in
    (omega arith, sym (ap (λ i. drop i xs) k))

pub both_taken : (m n most : ℕ) (old mid new : Option (List ℕ)) → ConsumesAtMost m old mid → ConsumesAtMost n mid new → m + n ≤ most → ConsumesAtMost most old new
both_taken m n most None mid new c d h = tt
both_taken m n most (Some xs) None new c d h = absurd c
both_taken m n most (Some xs) (Some ys) None c d h = d
both_taken m n most (Some xs) (Some ys) (Some zs) c d h =
    let a = length xs - length ys in
    let b = length ys - length zs in
    let ly : length ys ≤ length xs = omega (arith, ap length c.1, length-drop a xs) in
    let lz : length zs ≤ length ys = omega (arith, ap length d.1, length-drop b ys) in
    let k : a + b ≡ length xs - length zs = omega arith in
    (omega arith, d.1 ∙ ap (drop b) c.1 ∙ drop-drop b a xs ∙ ap (λ i. drop i xs) k)

-- an answer of the reading of a frame, which is never that it is too long
pub most_with_frame : (headers : ℕ) (fault : CaptureFault) → fault ≢ TooLong → most_taken {A = Event} headers (Err fault) ≡ headers + most_captured
most_with_frame headers Magic h = refl
most_with_frame headers LinkType h = refl
most_with_frame headers Truncated h = refl
most_with_frame headers TooLong h = absurd (h refl)
most_with_frame headers Read h = refl
most_with_frame headers Memory h = refl
most_with_frame headers Failed h = refl
most_with_frame headers Block h = refl
most_with_frame headers Time h = refl
most_with_frame headers (Vlans first other) h = refl
most_with_frame headers (Interfaces first other) h = refl
most_with_frame headers (InterfaceNames first other) h = refl
most_with_frame headers (LinkNumber number) h = refl
most_with_frame headers Gzip h = refl

-- the capture's header beside the record's
pub most_with_header : (r : Result Event CaptureFault) → most_taken 40 r ≡ 24 + most_taken 16 r
most_with_header (Ok event) = refl
most_with_header (Err Magic) = refl
most_with_header (Err LinkType) = refl
most_with_header (Err Truncated) = refl
most_with_header (Err TooLong) = refl
most_with_header (Err Read) = refl
most_with_header (Err Memory) = refl
most_with_header (Err Failed) = refl
most_with_header (Err Block) = refl
most_with_header (Err Time) = refl
most_with_header (Err (Vlans first other)) = refl
most_with_header (Err (Interfaces first other)) = refl
most_with_header (Err (InterfaceNames first other)) = refl
most_with_header (Err (LinkNumber number)) = refl
most_with_header (Err Gzip) = refl
