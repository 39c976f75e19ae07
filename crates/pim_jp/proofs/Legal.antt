-- A body without a fault is spelled by the value that is read from it.
use Rattle.pim_jp.proofs.Words.{◌≡◌, ℕ, ◌+◌, ◌≤◌, List, [], ◌∷◌, ◌++◌, length, take, drop, slice_index, refl, sym, ap}
use Rattle.pim_jp.proofs.Words.{subst, ◌∙◌, arith, length-drop, take-append-drop, suc, zero, big_number, AddressFamily}
use Rattle.pim_jp.proofs.Words.{AreBytes, IsUnicast, unicast_length, unicast_faults, unicast_address, Message}
use Rattle.pim_jp.proofs.Words.{set_count, head_of, after_set, sets_of, message_of, IsHead, AreSets, Spells, Part}
use Rattle.pim_jp.proofs.Words.{upstream, head, part_then, set_parts, address_kind, faults_of, faults}
use Rattle.pim_jp.proofs.Front.{map_none}
use Rattle.pim_jp.proofs.Forms.{unicast_legal}
use Rattle.pim_jp.proofs.Counts.{AreBytes-drop, count_fits, count_bytes}
use Rattle.pim_jp.proofs.EntryParts.{part_legal}
use Rattle.pim_jp.proofs.SetParts.{four_whole, sets_legal}

length-sets_of : (family : AddressFamily) (count : ℕ) (bytes : List ℕ) → length (sets_of family count bytes) ≡ count
unfolding sets_of
length-sets_of family zero bytes = refl
length-sets_of family (suc count) bytes = ap suc (length-sets_of family count (after_set family bytes))

head_front : (bytes : List ℕ) → 4 ≤ length bytes → take 4 bytes ≡ slice_index (take 4 bytes) 0 ∷ slice_index bytes 1 ∷ take 2 (drop 2 bytes)
head_front [] h = absurd (omega arith)
head_front (a ∷ []) h = absurd (omega arith)
head_front (a ∷ b ∷ []) h = absurd (omega arith)
head_front (a ∷ b ∷ c ∷ []) h = absurd (omega arith)
head_front (a ∷ b ∷ c ∷ d ∷ bytes) h = refl

head_spelled : (bytes : List ℕ) → AreBytes bytes → 4 ≤ length bytes → IsHead (slice_index bytes 1) (big_number 2 (drop 2 bytes)) (take 4 bytes)
head_spelled bytes are long =
    let are' = AreBytes-drop 2 bytes are in
    let holdtime = count_bytes (drop 2 bytes) are' (omega (arith, length-drop 2 bytes)) in
    (are 1, count_fits (drop 2 bytes) are', head_front bytes long ∙ ap (λ (xs : List ℕ). slice_index (take 4 bytes) 0 ∷ slice_index bytes 1 ∷ xs) (sym holdtime))

-- what is known of a body without a fault: its front is whole, and its sets have none
pub record IsWholeBody (family : AddressFamily) (body : List ℕ) : Type 0 where
  pub upstream_long : unicast_length family ≤ length body
  pub upstream_spelled : IsUnicast family (unicast_address family body) (take (unicast_length family) body)
  pub head_long : 4 ≤ length (head_of family body)
  pub at : ℕ
  pub sets : faults_of family (set_parts family (set_count family body) at (drop 4 (head_of family body))) ≡ []

pub body_whole : (family : AddressFamily) (body : List ℕ) → faults family body ≡ [] → IsWholeBody family body
body_whole family body h =
    let sets : ℕ → List ℕ → List Part = λ at sets. set_parts family (set_count family body) at sets in
    let first = part_legal family upstream (unicast_length family) 0 body (λ at bytes. part_then head 4 at bytes (λ at sets. set_parts family (slice_index bytes 1) at sets)) h in
    let form = unicast_legal family body (map_none address_kind (unicast_faults family body) first.0) in
    let second = part_legal family head 4 (0 + unicast_length family) (head_of family body) sets (first.1 form.0) in
    let four = four_whole (head_of family body) second.0 in
    record {
      upstream_long = form.0;
      upstream_spelled = form.1;
      head_long = four;
      at = 0 + unicast_length family + 4;
      sets = second.1 four;
    }

-- a message is spelled by its parts in a row
pub message_spelled : (family : AddressFamily) (message : Message) (front numbers sets : List ℕ) → IsUnicast family message.upstream front → IsHead (length message.sets) message.holdtime numbers → AreSets family message.sets sets
    → Spells family message (front ++ (numbers ++ sets))
message_spelled family message front numbers sets form counted are = (front, numbers ++ sets, refl, form, (numbers, sets, refl, counted, are))

pub legal_body : (family : AddressFamily) (body : List ℕ) → AreBytes body → faults family body ≡ [] → Spells family (message_of family body) body
legal_body family body are h =
    let whole = body_whole family body h in
    let behind = head_of family body in
    let are' = AreBytes-drop (unicast_length family) body are in
    let sets = sets_legal family (set_count family body) whole.at (drop 4 behind) (AreBytes-drop 4 behind are') whole.sets in
    let count = length-sets_of family (set_count family body) (drop 4 behind) in
    let numbers = subst (λ (n : ℕ). IsHead n (big_number 2 (drop 2 behind)) (take 4 behind)) (sym count) (head_spelled behind are' whole.head_long) in
    let cut : take (unicast_length family) body ++ (take 4 behind ++ drop 4 behind) ≡ body =
    ap (λ (xs : List ℕ). take (unicast_length family) body ++ xs) (take-append-drop 4 behind) ∙ take-append-drop (unicast_length family) body in
    subst (Spells family (message_of family body)) cut
    (message_spelled family (message_of family body) (take (unicast_length family) body) (take 4 behind) (drop 4 behind) whole.upstream_spelled numbers sets)
