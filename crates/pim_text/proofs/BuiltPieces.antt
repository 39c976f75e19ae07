-- A text that is read piece by piece.
use Rattle.pim_text.proofs.Words.{◌≡◌, ◌∙◌, sym, ap, refl, ℕ, ◌+◌, ◌-◌, ◌≤◌, ◌<◌, List, ◌++◌, Option, None, Some, Bool}
use Rattle.pim_text.proofs.Words.{length, drop, arith, length-append, append-nil, append_assoc, IfSome, drop-append-add}
use Rattle.pim_text.proofs.Words.{length-drop, BuildFault, Read, Memory}
use Rattle.std.specs.Io.KnownBytes.{Consumes, IsAtEnd}
use Rattle.pim_device.specs.Device.{ConsumesAtMost}
use Rattle.pim_text.specs.ReadingText.{AddsPiece, IsPieceFault, IsReadFaultOf}

-- ---- the bytes that a reader has left

consumed_also : (old mid new : Option (List ℕ)) (these those : List ℕ) → Consumes old mid these → Consumes mid new those → Consumes old new (these ++ those)
consumed_also None mid new these those one two = tt
consumed_also (Some xs) None new these those one two = absurd one
consumed_also (Some xs) (Some ms) None these those one two = absurd two
consumed_also (Some xs) (Some ms) (Some ys) these those one two = one ∙ (ap (λ (l : List ℕ). these ++ l) two ∙ sym (append_assoc these those ys))

at_most_none : (known : Option (List ℕ)) → ConsumesAtMost 0 known known
at_most_none None = tt
at_most_none (Some xs) = (omega arith, let none : length xs - length xs ≡ 0 = omega arith in rw none refl)

at_most_also : (old mid new : Option (List ℕ)) (these : List ℕ) (most all : ℕ) → Consumes old mid these → ConsumesAtMost most mid new → length these + most ≤ all → ConsumesAtMost all old new
at_most_also None mid new these most all one two fits = tt
at_most_also (Some xs) None new these most all one two fits = absurd one
at_most_also (Some xs) (Some ms) None these most all one two fits = absurd two
at_most_also (Some xs) (Some ms) (Some ys) these most all one two fits =
    let size : length xs ≡ length (these ++ ms) = ap (λ (l : List ℕ). length l) one in
    let sum = length-append these ms in
    let left : length ys ≡ length (drop (length ms - length ys) ms) = ap (λ (l : List ℕ). length l) two.1 in
    let few : length ys ≤ length ms = omega (arith, left, length-drop (length ms - length ys) ms) in
    let cut : length xs - length ys ≡ length these + (length ms - length ys) = omega (arith, size, sum, few) in
    (omega (arith, size, sum, two.0, fits), two.1 ∙ (sym (drop-append-add these ms (length ms - length ys)) ∙ sym (rw (cut, one) refl)))

-- ---- the bytes that were read so far

-- The text has the bytes that the reader gave, and is within a piece of the limit.
pub record IsSoFar (before now : Option (List ℕ)) (text : List ℕ) : Type 0 where
  pub given : Consumes before now text
  pub within : length text ≤ 8454144

pub one_more : (before old new : Option (List ℕ)) (text text' : List ℕ) (is_end : Bool) → IsSoFar before old text → length text ≤ 8388608 → AddsPiece old new 65536 text text' is_end → IsSoFar before new text'
one_more before old new text text' is_end so_far small adds = record {
  given = rw adds.adds (consumed_also before old new text adds.got so_far.given adds.consumes);
  within = let size : length text' ≡ length (text ++ adds.got) = ap (λ (l : List ℕ). length l) adds.adds in omega (arith, size, length-append text adds.got, small, adds.within);
}

-- at most this many bytes were taken
pub taken : (before now : Option (List ℕ)) (text : List ℕ) → IsSoFar before now text → ConsumesAtMost 8454144 before now
taken before now text so_far = at_most_also before now now text 0 8454144 so_far.given (at_most_none now) (omega (arith, so_far.within))

pub taken_also : (before old new : Option (List ℕ)) (text : List ℕ) (most : ℕ) → IsSoFar before old text → length text ≤ 8388608 → most ≡ 65536 → ConsumesAtMost most old new → ConsumesAtMost 8454144 before new
taken_also before old new text most so_far small size more = at_most_also before old new text most 8454144 so_far.given more (omega (arith, small, size))

-- ---- what is returned

pub stopped : (known : Option (List ℕ)) (fault : BuildFault) → IsPieceFault fault → IfSome known (λ all. IsReadFaultOf all fault)
stopped None fault is = tt
stopped (Some all) Read is = tt
stopped (Some all) Memory is = tt
stopped (Some all) fault is = absurd is

pub whole : (before now : Option (List ℕ)) (text : List ℕ) → IsSoFar before now text → IsAtEnd now → length text ≤ 8388608 → IfSome before (λ all. (all ≡ text) × (length all ≤ 8388608))
whole None now text so_far at_end small = tt
whole (Some all) None text so_far at_end small = absurd so_far.given
whole (Some all) (Some left) text so_far at_end small =
    let same : all ≡ text = so_far.given ∙ (ap (λ (l : List ℕ). text ++ l) at_end ∙ append-nil text) in
    (same, rw same small)

pub too_long : (before now : Option (List ℕ)) (text : List ℕ) → IsSoFar before now text → 8388608 < length text → IfSome before (λ all. 8388608 < length all)
too_long None now text so_far long = tt
too_long (Some all) None text so_far long = absurd so_far.given
too_long (Some all) (Some left) text so_far long =
    let size : length all ≡ length (text ++ left) = ap (λ (l : List ℕ). length l) so_far.given in
    omega (arith, size, length-append text left, long)
