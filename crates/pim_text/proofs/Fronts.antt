-- The lines of the front of a body: part by part, and from an offset on as from the start.
use Rattle.pim_text.proofs.Words.{◌≡◌, ◌∙◌, sym, ap, ap₂, refl, ℕ, zero, suc, ◌+◌, ◌-◌, ◌*◌, ◌≤◌, ◌<◌, ◌⊎◌, inl, inr, Bool, true, false}
use Rattle.pim_text.proofs.Words.{List, [], ◌∷◌, ◌++◌, length, drop, codes, decimal, slice_index, if◌then◌else◌, nat_le, arith}
use Rattle.pim_text.proofs.Words.{append_assoc, append-nil, length-drop, le-leb, lt-leb, big_number, AddressFamily, group_length}
use Rattle.pim_text.proofs.Words.{source_length, source_value, masked_address, address_text, Entry, GroupSet, canonical_head_length}
use Rattle.pim_text.proofs.Words.{line, entry_line, set_line, message_line}
use Rattle.std.proofs.lemmas.Bool.{cases_lt}
use Rattle.std.proofs.lemmas.Grind.{flat_map-append}
use Rattle.std.proofs.lemmas.List.{drop_all, drop-drop}
use Rattle.pim_addr.specs.Encoded.{unicast_length, unicast_address}
use Rattle.pim_jp.specs.Canonical.{canonical_set_length}
use Rattle.pim_jp.specs.Message.{entry_of, set_of, after_set, joined_count, pruned_count, joined_bytes, pruned_bytes}
use Rattle.pim_jp.specs.Message.{message_of, set_count, head_of}
unfoldable use Rattle.pim_jp.specs.Message.{entries_of, sets_of}
use Rattle.pim_text.specs.PartialText.{PlacedLine, placed_set, lines_by, partial_text}
unfoldable use Rattle.pim_text.specs.PartialText.{placed_entries, placed_sets}

-- ---- texts, one after the other

two_texts : (start one two a b : List ℕ) → one ≡ start ++ a → two ≡ one ++ b → two ≡ start ++ (a ++ b)
two_texts start one two a b p q = q ∙ ap (λ (l : List ℕ). l ++ b) p ∙ append_assoc start a b

three_texts : (start one two three a b c : List ℕ) → one ≡ start ++ a → two ≡ one ++ b → three ≡ two ++ c → three ≡ start ++ (a ++ (b ++ c))
three_texts start one two three a b c p q r = two_texts start two three (a ++ b) c (two_texts start one two a b p q) r ∙ ap (λ (l : List ℕ). start ++ l) (append_assoc a b c)

-- ---- from an offset on, with what is left there

test_by_case : (at size n end : ℕ) → end ≡ at + size → 0 < size → (n < end) ⊎ (end ≤ n) → nat_le end n ≡ nat_le size (n - at)
test_by_case at size n end e some (inl far) = lt-leb end n far ∙ sym (lt-leb size (n - at) (omega arith))
test_by_case at size n end e some (inr fits) = le-leb end n fits ∙ sym (le-leb size (n - at) (omega arith))

test_moved : (at size n end : ℕ) → end ≡ at + size → 0 < size → nat_le end n ≡ nat_le size (n - at)
test_moved at size n end e some = test_by_case at size n end e some (cases_lt n end)

module _ (family : AddressFamily) (list : List ℕ) where
  entries_moved : (at n : ℕ) (entries : List (Entry (List ℕ))) → lines_by n (placed_entries family list at entries) ≡ lines_by (n - at) (placed_entries family list 0 entries)
  unfolding placed_entries
  entries_moved at n [] = refl
  entries_moved at n (entry ∷ entries) =
      let size = source_length family in
      let test = test_moved at size n (at + size) refl (omega arith) in
      let test' = test_moved 0 size (n - at) (0 + size) refl (omega arith) in
      let all : n - at - 0 ≡ n - at = omega arith in
      let left : n - (at + size) ≡ n - at - (0 + size) = omega arith in
      rw (test, test', all, entries_moved (at + size) n entries, entries_moved (0 + size) (n - at) entries, left) refl

  entries_past : (entries : List (Entry (List ℕ))) → lines_by 0 (placed_entries family list 0 entries) ≡ []
  unfolding placed_entries
  entries_past [] = refl
  entries_past (entry ∷ entries) =
      let size = source_length family in
      let test : nat_le (0 + size) 0 ≡ false = lt-leb (0 + size) 0 (omega arith) in
      let left : 0 - (0 + size) ≡ 0 = omega arith in
      rw (test, entries_moved (0 + size) 0 entries, left) (entries_past entries)

  pub entries_end : (bytes : List ℕ) → lines_by (length bytes) (placed_entries family list 0 (entries_of family 0 bytes)) ≡ []
  unfolding placed_entries entries_of
  entries_end bytes = refl

  pub entries_step : (count : ℕ) (bytes : List ℕ) → lines_by (length bytes) (placed_entries family list 0 (entries_of family (suc count) bytes))
      ≡ (if nat_le (source_length family) (length bytes) then entry_line family list (entry_of (source_value family bytes)) else [])
      ++ lines_by (length (drop (source_length family) bytes)) (placed_entries family list 0 (entries_of family count (drop (source_length family) bytes)))
  unfolding placed_entries entries_of
  entries_step count bytes =
      let size = source_length family in
      let start : 0 + size ≡ size = omega arith in
      rw (start, length-drop size bytes, entries_moved size (length bytes) (entries_of family count (drop size bytes))) refl

  abbrev of_entries : ℕ → List ℕ → List ℕ
  of_entries count bytes = lines_by (length bytes) (placed_entries family list 0 (entries_of family count bytes))

  pub entries_on : (count done : ℕ) (left left' now now' all : List ℕ) → done < count → now ++ of_entries (count - done) left ≡ all
      → now' ≡ now ++ (if nat_le (source_length family) (length left) then entry_line family list (entry_of (source_value family left)) else [])
      → left' ≡ drop (source_length family) left → now' ++ of_entries (count - (done + 1)) left' ≡ all
  entries_on count done left left' now now' all some held added behind =
      let step : count - done ≡ suc (count - (done + 1)) = omega arith in
      let first = if nat_le (source_length family) (length left) then entry_line family list (entry_of (source_value family left)) else [] in
      let others = of_entries (count - (done + 1)) (drop (source_length family) left) in
      rw (added, behind) (append_assoc now first others ∙ ap (λ (l : List ℕ). now ++ l) (sym (entries_step (count - (done + 1)) left)) ∙ ap (λ n. now ++ of_entries n left) (sym step) ∙ held)

  pub entries_done : (count done : ℕ) (left now all : List ℕ) → count ≤ done → now ++ of_entries (count - done) left ≡ all → now ≡ all
  entries_done count done left now all over held =
      let none : count - done ≡ 0 = omega arith in
      sym (append-nil now) ∙ ap (λ (l : List ℕ). now ++ l) (sym (entries_end left)) ∙ ap (λ n. now ++ of_entries n left) (sym none) ∙ held

pub place_on : (size done : ℕ) (left left' bytes : List ℕ) → left ≡ drop (done * size) bytes → left' ≡ drop size left → left' ≡ drop ((done + 1) * size) bytes
place_on size done left left' bytes place behind = behind ∙ ap (drop size) place ∙ drop-drop size (done * size) bytes ∙ ap (λ n. drop n bytes) (omega arith)

module _ (family : AddressFamily) where
  pub entries_count : (count : ℕ) (bytes : List ℕ) → length (entries_of family count bytes) ≡ count
  unfolding entries_of
  entries_count zero bytes = refl
  entries_count (suc count) bytes = grind (arith, entries_count count (drop (source_length family) bytes))

  pub sets_count : (count : ℕ) (bytes : List ℕ) → length (sets_of family count bytes) ≡ count
  unfolding sets_of
  sets_count zero bytes = refl
  sets_count (suc count) bytes = grind (arith, sets_count count (after_set family bytes))

  -- ---- a group set

  abbrev joins : List (Entry (List ℕ)) → List PlacedLine
  joins entries = placed_entries family (codes "join ") 0 entries

  abbrev prunes : List (Entry (List ℕ)) → List PlacedLine
  prunes entries = placed_entries family (codes "prune ") 0 entries

  -- its line, its joined entries and its pruned ones
  set_parts : (at n : ℕ) (set : GroupSet) → lines_by n (placed_set family at set)
      ≡ (if nat_le (at + group_length family + 4) n then set_line family set else [])
      ++ (lines_by (n - (at + group_length family + 4)) (joins set.joined)
      ++ lines_by (n - (at + group_length family + 4 + length set.joined * source_length family)) (prunes set.pruned))
  set_parts at n set =
      let front = at + group_length family + 4 in
      let behind = front + length set.joined * source_length family in
      rw (
        flat_map-append (λ (line : PlacedLine). if nat_le line.end n then line.text else []) (placed_entries family (codes "join ") front set.joined) (placed_entries family (codes "prune ") behind set.pruned),
        entries_moved family (codes "join ") front n set.joined,
        entries_moved family (codes "prune ") behind n set.pruned,
      ) refl

  set_moved : (at n : ℕ) (set : GroupSet) → lines_by n (placed_set family at set) ≡ lines_by (n - at) (placed_set family 0 set)
  set_moved at n set =
      let g = group_length family in
      let size = length set.joined * source_length family in
      let test : nat_le (at + g + 4) n ≡ nat_le (0 + g + 4) (n - at) = test_moved at (0 + g + 4) n (at + g + 4) (omega arith) (omega arith) in
      let left : n - (at + g + 4) ≡ n - at - (0 + g + 4) = omega arith in
      let left' : n - (at + g + 4 + size) ≡ n - at - (0 + g + 4 + size) = omega arith in
      set_parts at n set ∙ rw (test, left, left') (sym (set_parts 0 (n - at) set))

  pub set_cut : (set : GroupSet) (bytes : List ℕ) → length bytes < group_length family + 4 → lines_by (length bytes) (placed_set family 0 set) ≡ []
  set_cut set bytes short =
      let g = group_length family in
      let size = length set.joined * source_length family in
      let n = length bytes in
      let test : nat_le (0 + g + 4) n ≡ false = lt-leb (0 + g + 4) n (omega arith) in
      let left : n - (0 + g + 4) ≡ 0 = omega arith in
      let left' : n - (0 + g + 4 + size) ≡ 0 = omega arith in
      set_parts 0 n set ∙ rw (test, left, left', entries_past family (codes "join ") set.joined, entries_past family (codes "prune ") set.pruned) refl

  pub set_whole : (bytes : List ℕ) → group_length family + 4 ≤ length bytes → lines_by (length bytes) (placed_set family 0 (set_of family bytes))
      ≡ set_line family (set_of family bytes)
      ++ (lines_by (length (joined_bytes family bytes)) (joins (set_of family bytes).joined)
      ++ lines_by (length (pruned_bytes family bytes)) (prunes (set_of family bytes).pruned))
  set_whole bytes whole =
      let g = group_length family in
      let count = joined_count family bytes in
      let n = length bytes in
      let test : nat_le (0 + g + 4) n ≡ true = le-leb (0 + g + 4) n (omega arith) in
      let some : length (set_of family bytes).joined ≡ count = entries_count count (joined_bytes family bytes) in
      let left : n - (0 + g + 4) ≡ length (joined_bytes family bytes) = simp length-drop (omega arith) in
      let left' : n - (0 + g + 4 + count * source_length family) ≡ length (pruned_bytes family bytes) = simp length-drop (omega arith) in
      set_parts 0 n (set_of family bytes) ∙ rw (test, some, left, left') refl

  pub after_cut : (bytes : List ℕ) → length bytes < group_length family + 4 → after_set family bytes ≡ []
  after_cut bytes short =
      drop_all (pruned_count family bytes * source_length family) (pruned_bytes family bytes)
      (let size : length (pruned_bytes family bytes) ≡ 0 = simp length-drop (omega arith) in omega arith)

  -- ---- group sets

  sets_moved : (at n : ℕ) (sets : List GroupSet) → lines_by n (placed_sets family at sets) ≡ lines_by (n - at) (placed_sets family 0 sets)
  unfolding placed_sets
  sets_moved at n [] = refl
  sets_moved at n (set ∷ sets) =
      let size = canonical_set_length family (length set.joined) (length set.pruned) in
      let left : n - (at + size) ≡ n - at - (0 + size) = omega arith in
      flat_map-append (λ (line : PlacedLine). if nat_le line.end n then line.text else []) (placed_set family at set) (placed_sets family (at + size) sets)
      ∙ ap₂ (λ (a b : List ℕ). a ++ b) (set_moved at n set) (sets_moved (at + size) n sets ∙ ap (λ m. lines_by m (placed_sets family 0 sets)) left ∙ sym (sets_moved (0 + size) (n - at) sets))
      ∙ sym (flat_map-append (λ (line : PlacedLine). if nat_le line.end (n - at) then line.text else []) (placed_set family 0 set) (placed_sets family (0 + size) sets))

  pub sets_end : (bytes : List ℕ) → lines_by (length bytes) (placed_sets family 0 (sets_of family 0 bytes)) ≡ []
  unfolding placed_sets sets_of
  sets_end bytes = refl

  pub sets_step : (count : ℕ) (bytes : List ℕ) → lines_by (length bytes) (placed_sets family 0 (sets_of family (suc count) bytes))
      ≡ lines_by (length bytes) (placed_set family 0 (set_of family bytes))
      ++ lines_by (length (after_set family bytes)) (placed_sets family 0 (sets_of family count (after_set family bytes)))
  unfolding placed_sets sets_of
  sets_step count bytes =
      let set = set_of family bytes in
      let others = sets_of family count (after_set family bytes) in
      let n = length bytes in
      let joined : length set.joined ≡ joined_count family bytes = entries_count (joined_count family bytes) (joined_bytes family bytes) in
      let pruned : length set.pruned ≡ pruned_count family bytes = entries_count (pruned_count family bytes) (pruned_bytes family bytes) in
      let size = canonical_set_length family (length set.joined) (length set.pruned) in
      let left : n - (0 + size) ≡ length (after_set family bytes) = rw (joined, pruned) (simp length-drop (omega arith)) in
      flat_map-append (λ (line : PlacedLine). if nat_le line.end n then line.text else []) (placed_set family 0 set) (placed_sets family (0 + size) others)
      ∙ ap (λ (b : List ℕ). lines_by n (placed_set family 0 set) ++ b) (sets_moved (0 + size) n others ∙ ap (λ m. lines_by m (placed_sets family 0 others)) left)

  abbrev of_sets : ℕ → List ℕ → List ℕ
  of_sets count bytes = lines_by (length bytes) (placed_sets family 0 (sets_of family count bytes))

  pub sets_on : (count done : ℕ) (left left' now now' all : List ℕ) → done < count → now ++ of_sets (count - done) left ≡ all
      → now' ≡ now ++ lines_by (length left) (placed_set family 0 (set_of family left))
      → left' ≡ after_set family left → now' ++ of_sets (count - (done + 1)) left' ≡ all
  sets_on count done left left' now now' all some held added behind =
      let step : count - done ≡ suc (count - (done + 1)) = omega arith in
      let first = lines_by (length left) (placed_set family 0 (set_of family left)) in
      let others = of_sets (count - (done + 1)) (after_set family left) in
      rw (added, behind) (append_assoc now first others ∙ ap (λ (l : List ℕ). now ++ l) (sym (sets_step (count - (done + 1)) left)) ∙ ap (λ n. now ++ of_sets n left) (sym step) ∙ held)

  pub sets_done : (count done : ℕ) (left now all : List ℕ) → count ≤ done → now ++ of_sets (count - done) left ≡ all → now ≡ all
  sets_done count done left now all over held =
      let none : count - done ≡ 0 = omega arith in
      sym (append-nil now) ∙ ap (λ (l : List ℕ). now ++ l) (sym (sets_end left)) ∙ ap (λ n. now ++ of_sets n left) (sym none) ∙ held

  -- ---- what the steps write

  pub set_written : (bytes start one two three group counts second joined pruned : List ℕ) (j p : ℕ) → group_length family + 4 ≤ length bytes
      → group ≡ masked_address family bytes → counts ≡ drop (group_length family) bytes → second ≡ drop 2 counts → joined ≡ drop 4 counts
      → j ≡ big_number 2 counts → p ≡ big_number 2 second → pruned ≡ drop (j * source_length family) joined
      → one ≡ start ++ line (codes "set " ++ address_text family group ++ codes " joined " ++ decimal j ++ codes " pruned " ++ decimal p)
      → two ≡ one ++ lines_by (length joined) (joins (entries_of family j joined))
      → three ≡ two ++ lines_by (length pruned) (prunes (entries_of family p pruned))
      → three ≡ start ++ lines_by (length bytes) (placed_set family 0 (set_of family bytes))
  set_written bytes start one two three group counts second joined pruned j p whole is_group is_counts is_second is_joined is_j is_p is_pruned first joins_added prunes_added =
      let set = set_of family bytes in
      let same_j : j ≡ joined_count family bytes = is_j ∙ ap (big_number 2) is_counts in
      let same_p : p ≡ pruned_count family bytes = is_p ∙ ap (big_number 2) (is_second ∙ ap (drop 2) is_counts) in
      let same_joined : joined ≡ joined_bytes family bytes = is_joined ∙ ap (drop 4) is_counts in
      let same_pruned : pruned ≡ pruned_bytes family bytes = is_pruned ∙ ap₂ (λ n b. drop (n * source_length family) b) same_j same_joined in
      let some : length set.joined ≡ joined_count family bytes = entries_count (joined_count family bytes) (joined_bytes family bytes) in
      let some' : length set.pruned ≡ pruned_count family bytes = entries_count (pruned_count family bytes) (pruned_bytes family bytes) in
      let own : line (codes "set " ++ address_text family group ++ codes " joined " ++ decimal j ++ codes " pruned " ++ decimal p) ≡ set_line family set =
      rw (is_group, same_j ∙ sym some, same_p ∙ sym some') refl in
      let js : lines_by (length joined) (joins (entries_of family j joined)) ≡ lines_by (length (joined_bytes family bytes)) (joins set.joined) =
      ap₂ (λ n b. lines_by (length b) (joins (entries_of family n b))) same_j same_joined in
      let ps : lines_by (length pruned) (prunes (entries_of family p pruned)) ≡ lines_by (length (pruned_bytes family bytes)) (prunes set.pruned) =
      ap₂ (λ n b. lines_by (length b) (prunes (entries_of family n b))) same_p same_pruned in
      let a = set_line family set in
      let b = lines_by (length (joined_bytes family bytes)) (joins set.joined) in
      let c = lines_by (length (pruned_bytes family bytes)) (prunes set.pruned) in
      three_texts start one two three a b c (first ∙ ap (λ (l : List ℕ). start ++ l) own) (joins_added ∙ ap (λ (l : List ℕ). one ++ l) js) (prunes_added ∙ ap (λ (l : List ℕ). two ++ l) ps)
      ∙ ap (λ (l : List ℕ). start ++ l) (sym (set_whole bytes whole))

  -- ---- a message

  sets_past : (sets : List GroupSet) → lines_by 0 (placed_sets family 0 sets) ≡ []
  unfolding placed_sets
  sets_past [] = refl
  sets_past (set ∷ sets) =
      let size = canonical_set_length family (length set.joined) (length set.pruned) in
      let left : 0 - (0 + size) ≡ 0 = omega arith in
      flat_map-append (λ (line : PlacedLine). if nat_le line.end 0 then line.text else []) (placed_set family 0 set) (placed_sets family (0 + size) sets)
      ∙ ap₂ (λ (a b : List ℕ). a ++ b) (set_cut set [] (omega arith)) (sets_moved (0 + size) 0 sets ∙ ap (λ m. lines_by m (placed_sets family 0 sets)) left ∙ sets_past sets)

  -- its line, and its sets
  front_parts : (front : List ℕ) → partial_text family front
      ≡ (if nat_le (canonical_head_length family) (length front) then message_line family (message_of family front) else [])
      ++ lines_by (length front - canonical_head_length family) (placed_sets family 0 (message_of family front).sets)
  front_parts front = ap (λ (l : List ℕ). (if nat_le (canonical_head_length family) (length front) then message_line family (message_of family front) else []) ++ l)
      (sets_moved (canonical_head_length family) (length front) (message_of family front).sets)

  pub front_cut : (front : List ℕ) → length front < canonical_head_length family → partial_text family front ≡ []
  front_cut front short =
      let test : nat_le (canonical_head_length family) (length front) ≡ false = lt-leb (canonical_head_length family) (length front) short in
      let left : length front - canonical_head_length family ≡ 0 = omega arith in
      front_parts front ∙ rw (test, left, sets_past (message_of family front).sets) refl

  pub front_written : (front start one two upstream head sets : List ℕ) (holdtime count : ℕ) → canonical_head_length family ≤ length front
      → upstream ≡ unicast_address family front → head ≡ drop (unicast_length family) front → holdtime ≡ big_number 2 (drop 2 head) → count ≡ slice_index head 1 → sets ≡ drop 4 head
      → one ≡ start ++ line (codes "join/prune upstream " ++ address_text family upstream ++ codes " holdtime " ++ decimal holdtime ++ codes " sets " ++ decimal count)
      → two ≡ one ++ lines_by (length sets) (placed_sets family 0 (sets_of family count sets))
      → two ≡ start ++ partial_text family front
  front_written front start one two upstream head sets holdtime count whole is_upstream is_head is_holdtime is_count is_sets first added =
      let message = message_of family front in
      let same_time : holdtime ≡ message.holdtime = is_holdtime ∙ ap (λ b. big_number 2 (drop 2 b)) is_head in
      let same_count : count ≡ set_count family front = is_count ∙ ap (λ b. slice_index b 1) is_head in
      let same_sets : sets ≡ drop 4 (head_of family front) = is_sets ∙ ap (drop 4) is_head in
      let some : length message.sets ≡ set_count family front = sets_count (set_count family front) (drop 4 (head_of family front)) in
      let own : line (codes "join/prune upstream " ++ address_text family upstream ++ codes " holdtime " ++ decimal holdtime ++ codes " sets " ++ decimal count) ≡ message_line family message =
      rw (is_upstream, same_time, same_count ∙ sym some) refl in
      let test : nat_le (canonical_head_length family) (length front) ≡ true = le-leb (canonical_head_length family) (length front) whole in
      let left : length (drop 4 (head_of family front)) ≡ length front - canonical_head_length family = simp length-drop (omega arith) in
      let ss : lines_by (length sets) (placed_sets family 0 (sets_of family count sets)) ≡ lines_by (length front - canonical_head_length family) (placed_sets family 0 message.sets) =
      ap₂ (λ n b. lines_by (length b) (placed_sets family 0 (sets_of family n b))) same_count same_sets ∙ ap (λ n. lines_by n (placed_sets family 0 message.sets)) left in
      let a = message_line family message in
      let b = lines_by (length front - canonical_head_length family) (placed_sets family 0 message.sets) in
      two_texts start one two a b (first ∙ ap (λ (l : List ℕ). start ++ l) own) (added ∙ ap (λ (l : List ℕ). one ++ l) ss)
      ∙ ap (λ (l : List ℕ). start ++ l) (sym (front_parts front ∙ ap (λ (t : Bool). (if t then a else []) ++ b) test))
