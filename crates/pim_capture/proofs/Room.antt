-- The length that a record's header names, and the room that a buffer has for it.
use Rattle.std.proofs.Common.{◌≡◌, ◌≢◌, ℕ, ◌<◌, ◌≤◌, List, length, take, Option, Some, None, Ok, Err, IsSomeAnd, sym, subst, arith, refl}
use Rattle.std.specs.Option.{option_map}
use Rattle.std.specs.Io.KnownBytes.{Consumes}
use Rattle.std.proofs.lemmas.Grind.{common_steps}
use Rattle.pim_capture.specs.declared.fault.CaptureFault.{CaptureFault}
use Rattle.pim_capture.specs.declared.fault.CaptureFault.TheVariants as fault
use Rattle.pim_capture.specs.declared.event.Event.{Event}
use Rattle.pim_capture.specs.declared.event.Event.TheVariants.{Packet, Skipped, End}
use Rattle.pim_capture.specs.declared.header.Format.{Format}
use Rattle.pim_capture.specs.Capture.{most_captured, captured_length}
use Rattle.pim_capture.specs.Next.{OnMemory, stated_length, LacksRoom, HasLength, FitsRecord}
use Rattle.pim_capture.proofs.Known.{header_is}

length_is : (left : ℕ) (format : Format) (xs h : List ℕ) → 0 < left → 16 ≤ length xs → take 16 xs ≡ h → captured_length format h ≤ most_captured
    → stated_length left format xs ≡ Some (captured_length format h)
length_is left format xs h some whole e short = grind (arith, common_steps)

-- what the header names
pub named_known : (left : ℕ) (format : Format) (old mid : Option (List ℕ)) (h : List ℕ) → 0 < left → length h ≡ 16 → Consumes old mid h → captured_length format h ≤ most_captured
    → HasLength (captured_length format h) (option_map (stated_length left format) old)
named_known left format None mid h some l e short = short
named_known left format (Some xs) None h some l e short = absurd e
named_known left format (Some xs) (Some ys) h some l e short =
    let f = header_is h xs ys l e in length_is left format xs h some f.2 f.0 short

pub lacks_room : (capacity size : ℕ) (next_length : Option (Option ℕ)) → HasLength size next_length → size ≤ most_captured → capacity < size → LacksRoom capacity next_length
lacks_room capacity size None h short less = omega arith
lacks_room capacity size (Some n) h short less = subst (λ o. IsSomeAnd o (λ k. capacity < k)) (sym h) less

-- a fault of a part is a fault of the whole
pub memory_passed : (f : CaptureFault) (P Q : Type 0) → (P → Q) → OnMemory {A = Unit {0}} (Err f) P → OnMemory {A = Event} (Err f) Q
memory_passed fault.Memory P Q h p = h p
memory_passed fault.Magic P Q h p = tt
memory_passed fault.LinkType P Q h p = tt
memory_passed fault.Truncated P Q h p = tt
memory_passed fault.TooLong P Q h p = tt
memory_passed fault.Read P Q h p = tt
memory_passed fault.Failed P Q h p = tt
memory_passed fault.Block P Q h p = tt
memory_passed fault.Time P Q h p = tt
memory_passed (fault.Vlans first other) P Q h p = tt
memory_passed (fault.Interfaces first other) P Q h p = tt
memory_passed (fault.InterfaceNames first other) P Q h p = tt
memory_passed (fault.LinkNumber number) P Q h p = tt
memory_passed fault.Gzip P Q h p = tt

pub fits_told : (event : Event) (old new : ℕ) (size : Option (Option ℕ)) → event ≢ End → HasLength new size → FitsRecord (Ok event) old new size
fits_told (Packet millis ip) old new size h next_length = next_length
fits_told (Skipped millis why) old new size h next_length = next_length
fits_told End old new size h next_length = absurd (h refl)
