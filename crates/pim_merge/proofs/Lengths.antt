-- No record that is told is longer than a record may be.
use Rattle.pim_merge.proofs.Words.{◌≡◌, ◌≤◌, ◌||◌, ℕ, Bool, true, false, List, Option, None, Some, Result, Ok, Err, nat_lt}
use Rattle.pim_merge.proofs.Words.{if◌then◌else◌, refl, arith, ◌==◌, take, drop, length, inl, inr, is_some, IfSome, nat_tests}
use Rattle.pim_merge.proofs.Words.{option_map, CaptureFault, Format, Event, Packet, Skipped, End, judge_header, most_captured}
use Rattle.pim_merge.proofs.Words.{captured_length, most_records, stated_length, first_length, length_in, HasLength, FitsRecord}
use Rattle.pim_capture.specs.declared.capture.CaptureState.{CaptureState}
use Rattle.pim_capture.specs.declared.capture.CaptureState.TheVariants.{Unbegun, Records, Ended, Failed}

unless_over : (a b c : Bool) (m n : ℕ) → c ≡ nat_lt most_captured m → (if a || b || c then None else Some m) ≡ Some n → n ≤ most_captured
unless_over true b c m n over is = absurd cc
unless_over false true c m n over is = absurd cc
unless_over false false true m n over is = absurd cc
unless_over false false false m n over is = grind (arith, nat_tests)

length_bound : (left : ℕ) (format : Format) (bytes : List ℕ) (n : ℕ) → stated_length left format bytes ≡ Some n → n ≤ most_captured
length_bound left format bytes n is =
    unless_over (left == 0) (nat_lt (length bytes) 16) (nat_lt most_captured (captured_length format (take 16 bytes))) (captured_length format (take 16 bytes)) n refl is

first_bound : (header : Result Format CaptureFault) (bytes : List ℕ) (n : ℕ) → first_length header bytes ≡ Some n → n ≤ most_captured
first_bound (Ok format) bytes n is = length_bound most_records format bytes n is
first_bound (Err fault) bytes n is = absurd cc

named_bound : (state : CaptureState) (bytes : List ℕ) (n : ℕ) → length_in state bytes ≡ Some n → n ≤ most_captured
named_bound Unbegun bytes n is = first_bound (judge_header (take 24 bytes)) (drop 24 bytes) n is
named_bound (Records format left) bytes n is = length_bound left format bytes n is
named_bound Ended bytes n is = absurd cc
named_bound Failed bytes n is = absurd cc

is_named_bound : (state : CaptureState) (bytes : Option (List ℕ)) (n : ℕ) → HasLength n (option_map (length_in state) bytes) → n ≤ most_captured
is_named_bound state None n is = is
is_named_bound state (Some bytes) n is = named_bound state bytes n is

-- the buffer behind a call that read a record into it
pub fits_bound : (answer : Result Event CaptureFault) (state : CaptureState) (bytes : Option (List ℕ)) (old new : ℕ) → old ≤ most_captured
    → FitsRecord answer old new (option_map (length_in state) bytes) → new ≤ most_captured
fits_bound (Ok (Packet millis ip)) state bytes old new short fits = is_named_bound state bytes new fits
fits_bound (Ok (Skipped millis why)) state bytes old new short fits = is_named_bound state bytes new fits
fits_bound (Ok End) state bytes old new short fits = rw fits short
fits_bound (Err fault) state bytes old new short (inl same) = rw same short
fits_bound (Err fault) state bytes old new short (inr named) = is_named_bound state bytes new named

-- what is said of a head, where there is none
pub of_none : {A : Type 0} (head : Option A) (P : A → Type 0) → is_some head ≡ false → IfSome head P
of_none None P is = tt
of_none (Some a) P is = absurd cc
