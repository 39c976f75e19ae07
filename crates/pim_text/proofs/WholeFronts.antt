-- A front that is a whole body without a fault: each line of its message ends within it.
use Rattle.pim_text.proofs.Words.{◌≡◌, ◌∙◌, sym, ap, ap₂, refl, ℕ, ◌+◌, ◌*◌, ◌≤◌, true, List, [], ◌∷◌, ◌++◌, length, codes}
use Rattle.pim_text.proofs.Words.{if◌then◌else◌, nat_le, arith, append_assoc, length-append, suc-mul, le-leb, flat_map, big_bytes}
use Rattle.pim_text.proofs.Words.{AddressFamily, group_length, source_length, Entry, GroupSet, canonical_head_length}
use Rattle.pim_text.proofs.Words.{entry_line, set_line, set_text, message_text}
use Rattle.std.proofs.lemmas.Grind.{flat_map-append}
use Rattle.pim_jp.specs.Canonical.{canonical_set_length}
unfoldable use Rattle.pim_jp.specs.Canonical.{canonical_sets_length}
use Rattle.pim_jp.specs.Message.{Message}
use Rattle.pim_jp.specs.Spelling.{IsEntry, IsSet, Spells}
unfoldable use Rattle.pim_jp.specs.Spelling.{AreEntries, AreSets}
use Rattle.pim_text.specs.PartialText.{PlacedLine, placed_set, placed_lines, lines_by}
unfoldable use Rattle.pim_text.specs.PartialText.{placed_entries, placed_sets}

module _ (family : AddressFamily) where
  -- ---- how long a spelling is

  entry_size : (entry : Entry (List ℕ)) (bytes : List ℕ) → IsEntry family entry bytes → length bytes ≡ source_length family
  entry_size entry bytes is = let all = ap (λ (l : List ℕ). length l) is.0.1 in omega (arith, all, is.0.0)

  entries_size : (entries : List (Entry (List ℕ))) (bytes : List ℕ) → AreEntries family entries bytes → length bytes ≡ length entries * source_length family
  unfolding AreEntries
  entries_size [] bytes are = let none = ap (λ (l : List ℕ). length l) are in omega (arith, none)
  entries_size (entry ∷ entries) bytes (first, second, same, one, others) =
      let all = ap (λ (l : List ℕ). length l) same in
      omega (arith, all, length-append first second, entry_size entry first one, entries_size entries second others, suc-mul (length entries) (source_length family))

  set_size : (set : GroupSet) (bytes : List ℕ) → IsSet family set bytes → length bytes ≡ canonical_set_length family (length set.joined) (length set.pruned)
  set_size set bytes (legal, is_group, few, few', (group, behind, same, named, (counts, lists, same', numbers, (joins, prunes, same'', joined, pruned)))) =
      let all = ap (λ (l : List ℕ). length l) same in
      let all' = ap (λ (l : List ℕ). length l) same' in
      let all'' = ap (λ (l : List ℕ). length l) same'' in
      let of_group = ap (λ (l : List ℕ). length l) named.1 in
      let of_counts = ap (λ (l : List ℕ). length l) numbers in
      let four : length (big_bytes 2 (length set.joined) ++ big_bytes 2 (length set.pruned)) ≡ 4 = refl in
      omega (arith, all, all', all'', of_group, named.0, of_counts, four, length-append group behind, length-append counts lists, length-append joins prunes, entries_size set.joined joins joined, entries_size set.pruned prunes pruned)

  sets_size : (sets : List GroupSet) (bytes : List ℕ) → AreSets family sets bytes → length bytes ≡ canonical_sets_length family sets
  unfolding AreSets canonical_sets_length
  sets_size [] bytes are = ap (λ (l : List ℕ). length l) are
  sets_size (set ∷ sets) bytes (first, second, same, one, others) =
      ap (λ (l : List ℕ). length l) same ∙ length-append first second ∙ ap₂ (λ (m n : ℕ). m + n) (set_size set first one) (sets_size sets second others)

  body_size : (message : Message) (body : List ℕ) → Spells family message body → length body ≡ canonical_head_length family + canonical_sets_length family message.sets
  body_size message body (upstream, behind, same, named, (head, sets, same', numbers, are)) =
      let all = ap (λ (l : List ℕ). length l) same in
      let all' = ap (λ (l : List ℕ). length l) same' in
      let of_upstream = ap (λ (l : List ℕ). length l) named.1 in
      let of_head = ap (λ (l : List ℕ). length l) numbers.2 in
      let two : length (big_bytes 2 message.holdtime) ≡ 2 = refl in
      omega (arith, all, all', of_upstream, named.0, of_head, two, length-append upstream behind, length-append head sets, sets_size message.sets sets are)

  -- ---- lines that all end by an offset

  entries_all : (list : List ℕ) (at n : ℕ) (entries : List (Entry (List ℕ))) → at + length entries * source_length family ≤ n
      → lines_by n (placed_entries family list at entries) ≡ flat_map (entry_line family list) entries
  unfolding placed_entries
  entries_all list at n [] within = refl
  entries_all list at n (entry ∷ entries) within =
      let size = source_length family in
      let more = suc-mul (length entries) size in
      let test : nat_le (at + size) n ≡ true = le-leb (at + size) n (omega (arith, more)) in
      rw (test, entries_all list (at + size) n entries (omega (arith, more))) refl

  set_all : (at n : ℕ) (set : GroupSet) → at + canonical_set_length family (length set.joined) (length set.pruned) ≤ n
      → lines_by n (placed_set family at set) ≡ set_text family set
  set_all at n set within =
      let front = at + group_length family + 4 in
      let behind = front + length set.joined * source_length family in
      let test : nat_le front n ≡ true = le-leb front n (omega arith) in
      let joins = flat_map (entry_line family (codes "join ")) set.joined in
      let prunes = flat_map (entry_line family (codes "prune ")) set.pruned in
      rw (
        test,
        flat_map-append (λ (line : PlacedLine). if nat_le line.end n then line.text else []) (placed_entries family (codes "join ") front set.joined) (placed_entries family (codes "prune ") behind set.pruned),
        entries_all (codes "join ") front n set.joined (omega arith),
        entries_all (codes "prune ") behind n set.pruned (omega arith),
      )
      (sym (append_assoc (set_line family set) joins prunes))

  sets_all : (at n : ℕ) (sets : List GroupSet) → at + canonical_sets_length family sets ≤ n → lines_by n (placed_sets family at sets) ≡ flat_map (set_text family) sets
  unfolding placed_sets canonical_sets_length
  sets_all at n [] within = refl
  sets_all at n (set ∷ sets) within =
      let size = canonical_set_length family (length set.joined) (length set.pruned) in
      flat_map-append (λ (line : PlacedLine). if nat_le line.end n then line.text else []) (placed_set family at set) (placed_sets family (at + size) sets)
      ∙ ap₂ (λ (a b : List ℕ). a ++ b) (set_all at n set (omega arith)) (sets_all (at + size) n sets (omega arith))

  message_all : (n : ℕ) (message : Message) → canonical_head_length family + canonical_sets_length family message.sets ≤ n
      → lines_by n (placed_lines family message) ≡ message_text family message
  message_all n message within =
      let test : nat_le (canonical_head_length family) n ≡ true = le-leb (canonical_head_length family) n (omega arith) in
      rw (test, sets_all (canonical_head_length family) n message.sets within) refl

  pub spelled_is_whole : (message : Message) (body : List ℕ) → Spells family message body → lines_by (length body) (placed_lines family message) ≡ message_text family message
  spelled_is_whole message body is = message_all (length body) message (omega (arith, body_size message body is))
