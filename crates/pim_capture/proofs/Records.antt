-- The answers to the bytes of a capture, case by case.
use Rattle.std.proofs.Common.{◌≡◌, ℕ, zero, suc, ◌-◌, ◌<◌, ◌≤◌, List, [], ◌∷◌, length, take, drop, Ok, Err, ap, arith, refl}
use Rattle.std.proofs.lemmas.Grind.{common_steps}
use Rattle.pim_addr.specs.Faults.{judged}
use Rattle.pim_capture.specs.declared.fault.CaptureFault.TheVariants.{Truncated, TooLong, Read}
use Rattle.pim_capture.specs.declared.header.Format.{Format}
use Rattle.pim_capture.specs.Capture.{EventSeen, ended, most_captured, captured_length, record_faults, record_event, after_record, unless_fault, records}

pub records_end : (left : ℕ) (format : Format) → records left format [] ≡ Ok ended ∷ []
unfolding records
records_end zero format = refl
records_end (suc left) format = refl

pub records_bound : (left : ℕ) (format : Format) (bytes : List ℕ) → left ≡ 0 → 0 < length bytes → records left format bytes ≡ Err Read ∷ []
unfolding records
records_bound zero format [] e h = absurd (omega arith)
records_bound zero format (b ∷ bs) e h = refl
records_bound (suc left) format bytes e h = absurd (omega arith)

pub records_step : (left : ℕ) (format : Format) (bytes : List ℕ) → 0 < left → 0 < length bytes
    → records left format bytes ≡ unless_fault (judged (record_faults format bytes) (record_event format bytes)) (λ reported. Ok reported ∷ records (left - 1) format (after_record format bytes))
unfolding records
records_step zero format bytes e h = absurd (omega arith)
records_step (suc left) format [] e h = absurd (omega arith)
records_step (suc left) format (b ∷ bs) e h =
    let one : left ≡ suc left - 1 = omega arith in
    let bytes : List ℕ = b ∷ bs in
    ap (λ n. unless_fault (judged (record_faults format bytes) (record_event format bytes)) (λ reported. Ok reported ∷ records n format (after_record format bytes))) one

pub header_cut : (format : Format) (bytes : List ℕ) (reported : EventSeen) → length bytes < 16 → judged (record_faults format bytes) reported ≡ Err Truncated
header_cut format bytes reported h = grind (arith, common_steps)

pub too_long : (format : Format) (bytes : List ℕ) (reported : EventSeen) → 16 ≤ length bytes → most_captured < captured_length format (take 16 bytes)
    → judged (record_faults format bytes) reported ≡ Err TooLong
too_long format bytes reported h long = grind (arith, common_steps)

pub frame_cut : (format : Format) (bytes : List ℕ) (reported : EventSeen) → 16 ≤ length bytes → captured_length format (take 16 bytes) ≤ most_captured
    → length (drop 16 bytes) < captured_length format (take 16 bytes) → judged (record_faults format bytes) reported ≡ Err Truncated
frame_cut format bytes reported h short cut = grind (arith, common_steps)

pub whole : (format : Format) (bytes : List ℕ) (reported : EventSeen) → 16 ≤ length bytes → captured_length format (take 16 bytes) ≤ most_captured
    → captured_length format (take 16 bytes) ≤ length (drop 16 bytes) → judged (record_faults format bytes) reported ≡ Ok reported
whole format bytes reported h short there = grind (arith, common_steps)
