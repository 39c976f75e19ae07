-- The sets of a legal body are spelled by its bytes.
use Rattle.pim_jp.proofs.Words.{◌≡◌, ℕ, zero, suc, ◌+◌, ◌*◌, ◌≤◌, ◌<◌, ◌^◌, true, false, not, ◌&&◌, ltb, List, [], ◌++◌, length}
use Rattle.pim_jp.proofs.Words.{map, take, drop, refl, sym, ap, ap₂, ◌∙◌, arith, append_assoc, length-drop, take-append-drop}
use Rattle.pim_jp.proofs.Words.{le-ltb, ltb-false, not-false, nil_from_length, big_number, big_bytes, AddressFamily, AreBytes}
use Rattle.pim_jp.proofs.Words.{is_group, IsGroup, group_length, source_length, group_faults, masked_address, fault_if, Entry}
use Rattle.pim_jp.proofs.Words.{NotGroup, Short, Trailing, GroupSet, entries_of, counts_of, joined_count, pruned_count}
use Rattle.pim_jp.proofs.Words.{joined_bytes, pruned_bytes, after_set, set_of, sets_of, AreEntries, IsLegalSet, IsSet, AreSets}
use Rattle.pim_jp.proofs.Words.{Part, group, counts, part_then, entry_parts, set_parts, address_kind, kinds_at, faults_of}
use Rattle.pim_jp.proofs.Front.{append_none, map_none, none_if}
use Rattle.pim_jp.proofs.Forms.{group_legal}
use Rattle.pim_jp.proofs.Counts.{AreBytes-drop, count_fits, count_bytes, take_four}
use Rattle.pim_jp.proofs.EntryParts.{part_legal, entries_legal}
use Rattle.pim_jp.proofs.Lists.{legal_from_allowed}

-- ---- the parts of a set that aren't entries

group_whole : (family : AddressFamily) (bytes : List ℕ) → kinds_at family group bytes ≡ []
    → (group_length family ≤ length bytes) × IsGroup family (masked_address family bytes) (take (group_length family) bytes) × (is_group family (masked_address family bytes) ≡ true)
group_whole family bytes h =
    let parts = append_none (map address_kind (group_faults family bytes)) _ h in
    let form = group_legal family bytes (map_none address_kind _ parts.0) in
    let long : ltb (length bytes) (group_length family) ≡ false = le-ltb _ _ form.0 in
    let valid : not false && not (is_group family (masked_address family bytes)) ≡ false = rw long at (none_if _ NotGroup parts.1) in
    (form.0, form.1, not-false _ valid)

pub four_whole : (bytes : List ℕ) → fault_if (ltb (length bytes) 4) Short ≡ [] → 4 ≤ length bytes
four_whole bytes h = ltb-false _ _ (none_if _ Short h)

pub ends_there : (bytes : List ℕ) → fault_if (ltb 0 (length bytes)) Trailing ≡ [] → bytes ≡ []
ends_there bytes h = let none : length bytes ≤ 0 = ltb-false _ _ (none_if _ Trailing h) in nil_from_length bytes (omega arith)

pub length-entries_of : (family : AddressFamily) (count : ℕ) (bytes : List ℕ) → length (entries_of family count bytes) ≡ count
unfolding entries_of
length-entries_of family zero bytes = refl
length-entries_of family (suc count) bytes = ap suc (length-entries_of family count (drop (source_length family) bytes))

-- the counts stand where a set has them
counts_spelled : (bytes : List ℕ) → AreBytes bytes → 4 ≤ length bytes → take 4 bytes ≡ big_bytes 2 (big_number 2 bytes) ++ big_bytes 2 (big_number 2 (drop 2 bytes))
counts_spelled bytes are long =
    let first : take 2 bytes ≡ big_bytes 2 (big_number 2 bytes) = sym (count_bytes bytes are (omega arith)) in
    let second : take 2 (drop 2 bytes) ≡ big_bytes 2 (big_number 2 (drop 2 bytes)) = sym (count_bytes (drop 2 bytes) (AreBytes-drop 2 bytes are) (omega (arith, length-drop 2 bytes))) in
    take_four bytes long ∙ ap₂ (λ (xs ys : List ℕ). xs ++ ys) first second

-- ---- one set

-- what is known of a set that is read where no fault is, and of the sets behind it
pub record IsWholeAt (family : AddressFamily) (count : ℕ) (bytes : List ℕ) : Type 0 where
  pub long : group_length family + 4 + joined_count family bytes * source_length family + pruned_count family bytes * source_length family ≤ length bytes
  pub group_spelled : IsGroup family (masked_address family bytes) (take (group_length family) bytes)
  pub group_valid : is_group family (masked_address family bytes) ≡ true
  pub counts_long : 4 ≤ length (counts_of family bytes)
  pub legal : IsLegalSet (set_of family bytes)
  pub joined_used : List ℕ
  pub joined_cut : joined_bytes family bytes ≡ joined_used ++ pruned_bytes family bytes
  pub joined_spelled : AreEntries family (set_of family bytes).joined joined_used
  pub pruned_used : List ℕ
  pub pruned_cut : pruned_bytes family bytes ≡ pruned_used ++ after_set family bytes
  pub pruned_spelled : AreEntries family (set_of family bytes).pruned pruned_used
  pub at : ℕ
  pub behind : faults_of family (set_parts family count at (after_set family bytes)) ≡ []

pub set_whole : (family : AddressFamily) (count at : ℕ) (bytes : List ℕ) → faults_of family (set_parts family (suc count) at bytes) ≡ [] → IsWholeAt family count bytes
unfolding set_parts
set_whole family count at bytes h =
    let behind_group = counts_of family bytes in
    let joined = entries_of family (joined_count family bytes) (joined_bytes family bytes) in
    let after : List (Entry (List ℕ)) → ℕ → List ℕ → List Part = λ _ at bytes. set_parts family count at bytes in
    let second : List (Entry (List ℕ)) → ℕ → List ℕ → List Part = λ joined at entries. entry_parts family (pruned_count family bytes) joined joined at entries after in
    let third : ℕ → List ℕ → List Part = λ at entries. entry_parts family (joined_count family bytes) [] [] at entries second in
    let first = part_legal family group (group_length family) at bytes (λ at bytes. part_then counts 4 at bytes (λ at entries.
    entry_parts family (big_number 2 bytes) [] [] at entries (λ joined at entries.
    entry_parts family (big_number 2 (drop 2 bytes)) joined joined at entries (λ _ at bytes.
    set_parts family count at bytes)))) h in
    let form = group_whole family bytes first.0 in
    let numbers = part_legal family counts 4 (at + group_length family) behind_group third (first.1 form.0) in
    let four = four_whole behind_group numbers.0 in
    let joins = entries_legal family (joined_count family bytes) [] [] (at + group_length family + 4) (joined_bytes family bytes) second (numbers.1 four) in
    let prunes = entries_legal family (pruned_count family bytes) joined joined joins.at (pruned_bytes family bytes) after joins.behind in
    record {
      long = omega (arith, form.0, four, joins.long, prunes.long, length-drop (group_length family) bytes, length-drop 4 behind_group, length-drop (joined_count family bytes * source_length family) (joined_bytes family bytes));
      group_spelled = form.1;
      group_valid = form.2;
      counts_long = four;
      legal = legal_from_allowed (set_of family bytes) joins.allowed prunes.allowed;
      joined_used = joins.used;
      joined_cut = joins.cut;
      joined_spelled = joins.spelled;
      pruned_used = prunes.used;
      pruned_cut = prunes.cut;
      pruned_spelled = prunes.spelled;
      at = prunes.at;
      behind = prunes.behind;
    }

-- a set is spelled by its parts in a row
pub set_spelled : (family : AddressFamily) (set : GroupSet) (front numbers joined pruned : List ℕ) → IsLegalSet set → is_group family set.group ≡ true → length set.joined < 2 ^ 16 → length set.pruned < 2 ^ 16
    → IsGroup family set.group front → numbers ≡ big_bytes 2 (length set.joined) ++ big_bytes 2 (length set.pruned) → AreEntries family set.joined joined → AreEntries family set.pruned pruned
    → IsSet family set (front ++ (numbers ++ (joined ++ pruned)))
set_spelled family set front numbers joined pruned legal valid joined_fits pruned_fits form counted joins prunes =
    (legal, valid, joined_fits, pruned_fits, (front, numbers ++ (joined ++ pruned), refl, form, (numbers, joined ++ pruned, refl, counted, (joined, pruned, refl, joins, prunes))))

four_pieces : (a b c d e : List ℕ) → a ++ (b ++ (c ++ (d ++ e))) ≡ (a ++ (b ++ (c ++ d))) ++ e
four_pieces a b c d e = simp append_assoc

-- the bytes of a set that is read where no fault is
abbrev pub set_bytes : (family : AddressFamily) (count : ℕ) (bytes : List ℕ) → IsWholeAt family count bytes → List ℕ
set_bytes family count bytes whole = take (group_length family) bytes ++ (take 4 (counts_of family bytes) ++ (whole.joined_used ++ whole.pruned_used))

set_cut : (family : AddressFamily) (count : ℕ) (bytes : List ℕ) (whole : IsWholeAt family count bytes) → bytes ≡ set_bytes family count bytes whole ++ after_set family bytes
set_cut family count bytes whole =
    sym (take-append-drop (group_length family) bytes)
    ∙ ap (λ (xs : List ℕ). take (group_length family) bytes ++ xs) (sym (take-append-drop 4 (counts_of family bytes))
    ∙ ap (λ (xs : List ℕ). take 4 (counts_of family bytes) ++ xs) (whole.joined_cut ∙ ap (λ (xs : List ℕ). whole.joined_used ++ xs) whole.pruned_cut))
    ∙ four_pieces (take (group_length family) bytes) (take 4 (counts_of family bytes)) whole.joined_used whole.pruned_used (after_set family bytes)

set_legal : (family : AddressFamily) (count : ℕ) (bytes : List ℕ) (whole : IsWholeAt family count bytes) → AreBytes bytes → IsSet family (set_of family bytes) (set_bytes family count bytes whole)
set_legal family count bytes whole are =
    let are' = AreBytes-drop (group_length family) bytes are in
    let joined_length = length-entries_of family (joined_count family bytes) (joined_bytes family bytes) in
    let pruned_length = length-entries_of family (pruned_count family bytes) (pruned_bytes family bytes) in
    let joined_fits : length (set_of family bytes).joined < 2 ^ 16 = rw joined_length (count_fits (counts_of family bytes) are') in
    let pruned_fits : length (set_of family bytes).pruned < 2 ^ 16 = rw pruned_length (count_fits (drop 2 (counts_of family bytes)) (AreBytes-drop 2 (counts_of family bytes) are')) in
    let counted : take 4 (counts_of family bytes) ≡ big_bytes 2 (length (set_of family bytes).joined) ++ big_bytes 2 (length (set_of family bytes).pruned) =
    rw (joined_length, pruned_length) (counts_spelled (counts_of family bytes) are' whole.counts_long) in
    set_spelled family (set_of family bytes) (take (group_length family) bytes) (take 4 (counts_of family bytes)) whole.joined_used whole.pruned_used
    whole.legal whole.group_valid joined_fits pruned_fits whole.group_spelled counted whole.joined_spelled whole.pruned_spelled

-- ---- all of them

pub sets_legal : (family : AddressFamily) (count at : ℕ) (bytes : List ℕ) → AreBytes bytes → faults_of family (set_parts family count at bytes) ≡ [] → AreSets family (sets_of family count bytes) bytes
unfolding set_parts sets_of AreSets
sets_legal family zero at bytes are h =
    let parts = append_none _ _ h in
    ends_there bytes (map_none _ _ parts.0)
sets_legal family (suc count) at bytes are h =
    let whole = set_whole family count at bytes h in
    let are' = AreBytes-drop (pruned_count family bytes * source_length family) (pruned_bytes family bytes) (AreBytes-drop (joined_count family bytes * source_length family) (joined_bytes family bytes)
    (AreBytes-drop 4 (counts_of family bytes) (AreBytes-drop (group_length family) bytes are))) in
    (set_bytes family count bytes whole, after_set family bytes, set_cut family count bytes whole, set_legal family count bytes whole are, sets_legal family count whole.at (after_set family bytes) are' whole.behind)
