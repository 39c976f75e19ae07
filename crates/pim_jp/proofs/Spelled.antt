-- What spells a message is read as that message, and has no fault.
use Rattle.pim_jp.proofs.Words.{◌≡◌, ℕ, zero, suc, ◌+◌, ◌*◌, ◌≤◌, ◌<◌, ◌^◌, true, false, ltb, List, [], ◌∷◌, ◌++◌, length, drop}
use Rattle.pim_jp.proofs.Words.{slice_index, refl, sym, ap, ap₂, ◌∙◌, arith, append_assoc, append-nil, length-append, drop_at}
use Rattle.pim_jp.proofs.Words.{suc-mul, le-ltb, big_number, big_bytes, big_number-reads_back, AddressFamily, is_group, is_source}
use Rattle.pim_jp.proofs.Words.{IsUnicast, unicast_length, group_length, source_length, group_faults, unicast_faults}
use Rattle.pim_jp.proofs.Words.{unicast_address, masked_address, source_value, Entry, Star, Source, Rpt, GroupSet, Message}
use Rattle.pim_jp.proofs.Words.{entry_of, entries_of, counts_of, joined_count, pruned_count, joined_bytes, pruned_bytes}
use Rattle.pim_jp.proofs.Words.{after_set, set_of, sets_of, head_of, set_count, message_of, source_of, AreEntries, IsSet, AreSets}
use Rattle.pim_jp.proofs.Words.{IsHead, Spells, ReadsHead, Part, upstream, head, group, counts, entry, part_then, entry_of_bytes}
use Rattle.pim_jp.proofs.Words.{entry_parts, set_parts, entry_kinds, kinds_at, faults_of, faults}
use Rattle.pim_jp.proofs.Forms.{unicast_spelled, group_spelled, source_spelled}
use Rattle.pim_jp.proofs.EntryParts.{part_spelled, Allowed, AllAllowed}
use Rattle.pim_jp.proofs.Lists.{allowed_from_legal}

-- ---- entries

entry_of-source_of : (this : Entry (List ℕ)) → entry_of (source_of this) ≡ this
entry_of-source_of (Star rp) = refl
entry_of-source_of (Source source) = refl
entry_of-source_of (Rpt source) = refl

entry_of_bytes-source_of : (this : Entry (List ℕ)) → entry_of_bytes (source_of this) ≡ this ∷ []
entry_of_bytes-source_of (Star rp) = refl
entry_of_bytes-source_of (Source source) = refl
entry_of_bytes-source_of (Rpt source) = refl

no_entry_kinds : (family : AddressFamily) (earlier other : List (Entry (List ℕ))) (this : Entry (List ℕ)) → is_source family (source_of this).address ≡ true → Allowed earlier other this → entry_kinds family earlier other (source_of this) ≡ []
no_entry_kinds family earlier other (Star rp) valid allowed = rw (valid, allowed.0, allowed.1) refl
no_entry_kinds family earlier other (Source source) valid allowed = rw (valid, allowed.1) refl
no_entry_kinds family earlier other (Rpt source) valid allowed = rw (valid, allowed.1) refl

entries_size : (family : AddressFamily) (entries : List (Entry (List ℕ))) (bytes : List ℕ) → AreEntries family entries bytes → length bytes ≡ length entries * source_length family
unfolding AreEntries
entries_size family [] bytes h = rw h (omega arith)
entries_size family (this ∷ entries) bytes h =
    let one = (source_spelled family (source_of this) h.0 h.1 h.3.0).2 in
    let others = entries_size family entries h.1 h.4 in
    let sum = length-append h.0 h.1 in
    let size : length bytes ≡ length (h.0 ++ h.1) = ap (λ (xs : List ℕ). length xs) h.2 in
    omega (arith, one, others, sum, size, suc-mul (length entries) (source_length family))

entries_read : (family : AddressFamily) (entries : List (Entry (List ℕ))) (bytes behind : List ℕ) → AreEntries family entries bytes → entries_of family (length entries) (bytes ++ behind) ≡ entries
unfolding AreEntries entries_of
entries_read family [] bytes behind h = refl
entries_read family (this ∷ entries) bytes behind h =
    let one = source_spelled family (source_of this) h.0 (h.1 ++ behind) h.3.0 in
    let cut : bytes ++ behind ≡ h.0 ++ (h.1 ++ behind) = ap (λ (xs : List ℕ). xs ++ behind) h.2 ∙ append_assoc h.0 h.1 behind in
    let first : entry_of (source_value family (h.0 ++ (h.1 ++ behind))) ≡ this = ap entry_of one.1 ∙ entry_of-source_of this in
    let next : drop (source_length family) (h.0 ++ (h.1 ++ behind)) ≡ h.1 ++ behind = drop_at h.0 (h.1 ++ behind) (source_length family) one.2 in
    let others = entries_read family entries h.1 behind h.4 in
    ap (entries_of family (suc (length entries))) cut ∙ ap₂ (λ (e : Entry (List ℕ)) (es : List (Entry (List ℕ))). e ∷ es) first (ap (entries_of family (length entries)) next ∙ others)

entries_told : (family : AddressFamily) (entries earlier other : List (Entry (List ℕ))) (at : ℕ) (bytes behind : List ℕ) (next : List (Entry (List ℕ)) → ℕ → List ℕ → List Part)
    → AreEntries family entries bytes → AllAllowed earlier other entries → ((at : ℕ) → faults_of family (next (earlier ++ entries) at behind) ≡ [])
    → faults_of family (entry_parts family (length entries) earlier other at (bytes ++ behind) next) ≡ []
unfolding AreEntries entry_parts
entries_told family [] earlier other at bytes behind next h allowed last = rw h (rw append-nil at (last at))
entries_told family (this ∷ entries) earlier other at bytes behind next h allowed last =
    let size = source_length family in
    let whole = h.0 ++ (h.1 ++ behind) in
    let one = source_spelled family (source_of this) h.0 (h.1 ++ behind) h.3.0 in
    let cut : bytes ++ behind ≡ whole = ap (λ (xs : List ℕ). xs ++ behind) h.2 ∙ append_assoc h.0 h.1 behind in
    let long : size ≤ length whole = omega (arith, one.2, length-append h.0 (h.1 ++ behind)) in
    let long' : ltb (length whole) size ≡ false = le-ltb _ _ long in
    let fine : entry_kinds family earlier other (source_value family whole) ≡ [] = ap (entry_kinds family earlier other) one.1 ∙ no_entry_kinds family earlier other this h.3.1 allowed.0 in
    let none : kinds_at family (entry earlier other) whole ≡ [] = rw (one.0, long') fine in
    let kind : entry_of_bytes (source_value family whole) ≡ this ∷ [] = ap entry_of_bytes one.1 ∙ entry_of_bytes-source_of this in
    let moved : drop size whole ≡ h.1 ++ behind = drop_at h.0 (h.1 ++ behind) size one.2 in
    let last' : (at : ℕ) → faults_of family (next ((earlier ++ this ∷ []) ++ entries) at behind) ≡ [] = λ at. rw (append_assoc earlier (this ∷ []) entries) (last at) in
    let others = entries_told family entries (earlier ++ this ∷ []) other (at + size) h.1 behind next h.4 allowed.1 last' in
    let rest : faults_of family (entry_parts family (length entries) (earlier ++ entry_of_bytes (source_value family whole)) other (at + size) (drop size whole) next) ≡ [] =
    ap₂ (λ (these : List (Entry (List ℕ))) (xs : List ℕ). faults_of family (entry_parts family (length entries) (earlier ++ these) other (at + size) xs next)) kind moved ∙ others in
    let reported = part_spelled family (entry earlier other) size at whole (λ at bytes'. entry_parts family (length entries) (earlier ++ entry_of_bytes (source_value family whole)) other at bytes' next) none long rest in
    ap (λ (xs : List ℕ). faults_of family (entry_parts family (suc (length entries)) earlier other at xs next)) cut ∙ reported

-- ---- a set at the front of bytes

-- where the parts of a set that is spelled stand
record StandsAt (family : AddressFamily) (set : GroupSet) (bytes behind : List ℕ) : Type 0 where
  no_fault : group_faults family bytes ≡ []
  read : masked_address family bytes ≡ set.group
  long : group_length family ≤ length bytes
  four : 4 ≤ length (counts_of family bytes)
  joined_size : joined_count family bytes ≡ length set.joined
  pruned_size : pruned_count family bytes ≡ length set.pruned
  joined : List ℕ
  pruned : List ℕ
  joined_at : joined_bytes family bytes ≡ joined ++ (pruned ++ behind)
  pruned_at : pruned_bytes family bytes ≡ pruned ++ behind
  behind_at : after_set family bytes ≡ behind
  joined_spelled : AreEntries family set.joined joined
  pruned_spelled : AreEntries family set.pruned pruned

counts_read : (m n : ℕ) (tail : List ℕ) → m < 2 ^ 16 → n < 2 ^ 16
    → (big_number 2 (big_bytes 2 m ++ (big_bytes 2 n ++ tail)) ≡ m) × (big_number 2 (drop 2 (big_bytes 2 m ++ (big_bytes 2 n ++ tail))) ≡ n)
counts_read m n tail first second = (big_number-reads_back 2 m (big_bytes 2 n ++ tail) first, big_number-reads_back 2 n tail second)

stands_at : (family : AddressFamily) (set : GroupSet) (bytes behind : List ℕ) → IsSet family set bytes → StandsAt family set (bytes ++ behind) behind
stands_at family set bytes behind h =
    let front = h.4.0 in
    let joined = h.4.4.4.0 in
    let pruned = h.4.4.4.1 in
    let tail = joined ++ (pruned ++ behind) in
    let numbers = big_bytes 2 (length set.joined) ++ (big_bytes 2 (length set.pruned) ++ tail) in
    let whole = bytes ++ behind in
    let lists : h.4.4.1 ++ behind ≡ tail = ap (λ (xs : List ℕ). xs ++ behind) h.4.4.4.2 ∙ append_assoc joined pruned behind in
    let after_group : h.4.1 ++ behind ≡ numbers =
    ap (λ (xs : List ℕ). xs ++ behind) h.4.4.2 ∙ append_assoc h.4.4.0 h.4.4.1 behind ∙ ap₂ (λ (xs ys : List ℕ). xs ++ ys) h.4.4.3 lists in
    let cut : whole ≡ front ++ numbers = ap (λ (xs : List ℕ). xs ++ behind) h.4.2 ∙ append_assoc front h.4.1 behind ∙ ap (λ (xs : List ℕ). front ++ xs) after_group in
    let form = group_spelled family set.group front numbers h.4.3 in
    let counts_at : counts_of family whole ≡ numbers = ap (drop (group_length family)) cut ∙ drop_at front numbers (group_length family) form.2 in
    let read = counts_read (length set.joined) (length set.pruned) tail h.2 h.3 in
    let joined_size : joined_count family whole ≡ length set.joined = ap (λ (xs : List ℕ). big_number 2 xs) counts_at ∙ read.0 in
    let pruned_size : pruned_count family whole ≡ length set.pruned = ap (λ (xs : List ℕ). big_number 2 (drop 2 xs)) counts_at ∙ read.1 in
    let joined_at : joined_bytes family whole ≡ tail = ap (λ (xs : List ℕ). drop 4 xs) counts_at in
    let joined_long = entries_size family set.joined joined h.4.4.4.3 in
    let pruned_long = entries_size family set.pruned pruned h.4.4.4.4 in
    let pruned_at : pruned_bytes family whole ≡ pruned ++ behind = ap₂ (λ (n : ℕ) (xs : List ℕ). drop (n * source_length family) xs) joined_size joined_at ∙ drop_at joined (pruned ++ behind) _ joined_long in
    let behind_at : after_set family whole ≡ behind = ap₂ (λ (n : ℕ) (xs : List ℕ). drop (n * source_length family) xs) pruned_size pruned_at ∙ drop_at pruned behind _ pruned_long in
    let size : length whole ≡ length (front ++ numbers) = ap (λ (xs : List ℕ). length xs) cut in
    let counts_size : length (counts_of family whole) ≡ length numbers = ap (λ (xs : List ℕ). length xs) counts_at in
    record {
      no_fault = ap (group_faults family) cut ∙ form.0;
      read = ap (masked_address family) cut ∙ form.1;
      long = omega (arith, size, length-append front numbers, form.2);
      four = omega (arith, counts_size);
      joined_size = joined_size;
      pruned_size = pruned_size;
      joined = joined;
      pruned = pruned;
      joined_at = joined_at;
      pruned_at = pruned_at;
      behind_at = behind_at;
      joined_spelled = h.4.4.4.3;
      pruned_spelled = h.4.4.4.4;
    }

same_set : (g g' : List ℕ) (j j' p p' : List (Entry (List ℕ))) → g ≡ g' → j ≡ j' → p ≡ p' → Path GroupSet (record { group = g; joined = j; pruned = p }) (record { group = g'; joined = j'; pruned = p' })
same_set g g' j j' p p' a b c = cc

set_read : (family : AddressFamily) (set : GroupSet) (bytes behind : List ℕ) → StandsAt family set bytes behind → set_of family bytes ≡ set
set_read family set bytes behind at =
    let joined : entries_of family (joined_count family bytes) (joined_bytes family bytes) ≡ set.joined = ap₂ (entries_of family) at.joined_size at.joined_at ∙ entries_read family set.joined at.joined (at.pruned ++ behind) at.joined_spelled in
    let pruned : entries_of family (pruned_count family bytes) (pruned_bytes family bytes) ≡ set.pruned = ap₂ (entries_of family) at.pruned_size at.pruned_at ∙ entries_read family set.pruned at.pruned behind at.pruned_spelled in
    same_set _ _ _ _ _ _ at.read joined pruned

-- a set that is spelled is read, whatever stands behind it
pub set_back : (family : AddressFamily) (set : GroupSet) (bytes behind : List ℕ) → IsSet family set bytes
    → (set_of family (bytes ++ behind) ≡ set) × (after_set family (bytes ++ behind) ≡ behind)
set_back family set bytes behind h =
    let stands = stands_at family set bytes behind h in
    (set_read family set (bytes ++ behind) behind stands, stands.behind_at)

set_told : (family : AddressFamily) (set : GroupSet) (count at : ℕ) (bytes behind : List ℕ) → StandsAt family set bytes behind → is_group family set.group ≡ true
    → AllAllowed [] [] set.joined → AllAllowed set.joined set.joined set.pruned → ((at : ℕ) → faults_of family (set_parts family count at behind) ≡ [])
    → faults_of family (set_parts family (suc count) at bytes) ≡ []
unfolding set_parts
set_told family set count at bytes behind stands valid joined pruned others =
    let after : List (Entry (List ℕ)) → ℕ → List ℕ → List Part = λ _ at bytes. set_parts family count at bytes in
    let second : List (Entry (List ℕ)) → ℕ → List ℕ → List Part = λ joined at entries. entry_parts family (pruned_count family bytes) joined joined at entries after in
    let third : ℕ → List ℕ → List Part = λ at entries. entry_parts family (joined_count family bytes) [] [] at entries second in
    let prunes : (at : ℕ) → faults_of family (second set.joined at (stands.pruned ++ behind)) ≡ [] = λ at.
    ap (λ (n : ℕ). faults_of family (entry_parts family n set.joined set.joined at (stands.pruned ++ behind) after)) stands.pruned_size
    ∙ entries_told family set.pruned set.joined set.joined at stands.pruned behind after stands.pruned_spelled pruned (λ at. others at) in
    let joins : (at : ℕ) → faults_of family (third at (joined_bytes family bytes)) ≡ [] = λ at.
    ap₂ (λ (n : ℕ) (xs : List ℕ). faults_of family (entry_parts family n [] [] at xs second)) stands.joined_size stands.joined_at
    ∙ entries_told family set.joined [] [] at stands.joined (stands.pruned ++ behind) second stands.joined_spelled joined prunes in
    let four : ltb (length (counts_of family bytes)) 4 ≡ false = le-ltb _ _ stands.four in
    let numbers : kinds_at family counts (counts_of family bytes) ≡ [] = rw four refl in
    let behind_group = part_spelled family counts 4 (at + group_length family) (counts_of family bytes) third numbers stands.four (joins (at + group_length family + 4)) in
    let valid' : is_group family (masked_address family bytes) ≡ true = ap (is_group family) stands.read ∙ valid in
    let long : ltb (length bytes) (group_length family) ≡ false = le-ltb _ _ stands.long in
    let none : kinds_at family group bytes ≡ [] = rw (stands.no_fault, long, valid') refl in
    part_spelled family group (group_length family) at bytes (λ at bytes. part_then counts 4 at bytes (λ at entries.
    entry_parts family (big_number 2 bytes) [] [] at entries (λ joined at entries.
    entry_parts family (big_number 2 (drop 2 bytes)) joined joined at entries (λ _ at bytes.
    set_parts family count at bytes)))) none stands.long behind_group

-- a set that is spelled has no fault, whatever stands behind it without one
pub set_fine : (family : AddressFamily) (set : GroupSet) (count at : ℕ) (bytes behind : List ℕ) → IsSet family set bytes
    → ((at : ℕ) → faults_of family (set_parts family count at behind) ≡ []) → faults_of family (set_parts family (suc count) at (bytes ++ behind)) ≡ []
set_fine family set count at bytes behind h others =
    let allowed = allowed_from_legal set h.0 in
    set_told family set count at (bytes ++ behind) behind (stands_at family set bytes behind h) h.1 allowed.0 allowed.1 others

-- ---- the sets

sets_read : (family : AddressFamily) (sets : List GroupSet) (bytes : List ℕ) → AreSets family sets bytes → sets_of family (length sets) bytes ≡ sets
unfolding AreSets sets_of
sets_read family [] bytes h = refl
sets_read family (set ∷ sets) bytes h =
    let stands = stands_at family set h.0 h.1 h.3 in
    let one = set_read family set (h.0 ++ h.1) h.1 stands in
    let others = sets_read family sets h.1 h.4 in
    ap (sets_of family (suc (length sets))) h.2 ∙ ap₂ (λ (x : GroupSet) (xs : List GroupSet). x ∷ xs) one (ap (sets_of family (length sets)) stands.behind_at ∙ others)

no_rest : (family : AddressFamily) (at : ℕ) → faults_of family (set_parts family zero at []) ≡ []
unfolding set_parts
no_rest family at = refl

sets_told : (family : AddressFamily) (sets : List GroupSet) (at : ℕ) (bytes : List ℕ) → AreSets family sets bytes → faults_of family (set_parts family (length sets) at bytes) ≡ []
unfolding AreSets
sets_told family [] at bytes h = rw h (no_rest family at)
sets_told family (set ∷ sets) at bytes h =
    let stands = stands_at family set h.0 h.1 h.3 in
    let allowed = allowed_from_legal set h.3.0 in
    let reported = set_told family set (length sets) at (h.0 ++ h.1) h.1 stands h.3.1 allowed.0 allowed.1 (λ at. sets_told family sets at h.1 h.4) in
    ap (λ (xs : List ℕ). faults_of family (set_parts family (suc (length sets)) at xs)) h.2 ∙ reported

-- ---- the body

same_message : (u u' : List ℕ) (h h' : ℕ) (s s' : List GroupSet) → u ≡ u' → h ≡ h' → s ≡ s' → Path Message (record { upstream = u; holdtime = h; sets = s }) (record { upstream = u'; holdtime = h'; sets = s' })
same_message u u' h h' s s' a b c = cc

-- the head as it stands before the sets
head_at : (sets holdtime : ℕ) (bytes behind : List ℕ) → IsHead sets holdtime bytes
    → (slice_index (bytes ++ behind) 1 ≡ sets) × (big_number 2 (drop 2 (bytes ++ behind)) ≡ holdtime) × (drop 4 (bytes ++ behind) ≡ behind) × (4 ≤ length (bytes ++ behind))
head_at sets holdtime bytes behind h =
    let cut : bytes ++ behind ≡ slice_index bytes 0 ∷ sets ∷ (big_bytes 2 holdtime ++ behind) = ap (λ (xs : List ℕ). xs ++ behind) h.2 in
    let size : length (bytes ++ behind) ≡ suc (suc (length (big_bytes 2 holdtime ++ behind))) = ap (λ (xs : List ℕ). length xs) cut in
    (ap (λ (xs : List ℕ). slice_index xs 1) cut, ap (λ (xs : List ℕ). big_number 2 (drop 2 xs)) cut ∙ big_number-reads_back 2 holdtime behind h.1, ap (λ (xs : List ℕ). drop 4 xs) cut, omega (arith, size))

-- an upstream neighbour and a head that are spelled are read, whatever stands behind them
pub head_back : (family : AddressFamily) (neighbour front numbers behind : List ℕ) (sets holdtime : ℕ) → IsUnicast family neighbour front → IsHead sets holdtime numbers
    → ReadsHead family neighbour sets holdtime behind ((front ++ numbers) ++ behind)
head_back family neighbour front numbers behind sets holdtime form h =
    let body = (front ++ numbers) ++ behind in
    let cut : body ≡ front ++ (numbers ++ behind) = append_assoc front numbers behind in
    let first = unicast_spelled family neighbour front (numbers ++ behind) form in
    let second = head_at sets holdtime numbers behind h in
    let at : head_of family body ≡ numbers ++ behind = ap (drop (unicast_length family)) cut ∙ drop_at front (numbers ++ behind) (unicast_length family) first.2 in (
      ap (unicast_faults family) cut ∙ first.0,
      ap (unicast_address family) cut ∙ first.1,
      ap (λ (xs : List ℕ). slice_index xs 1) at ∙ second.0,
      ap (λ (xs : List ℕ). big_number 2 (drop 2 xs)) at ∙ second.1,
      ap (λ (xs : List ℕ). drop 4 xs) at ∙ second.2,
    )

-- what is known of a body that spells a message
record IsSpelled (family : AddressFamily) (message : Message) (body : List ℕ) : Type 0 where
  no_fault : unicast_faults family body ≡ []
  read : unicast_address family body ≡ message.upstream
  long : unicast_length family ≤ length body
  four : 4 ≤ length (head_of family body)
  count : set_count family body ≡ length message.sets
  holdtime : big_number 2 (drop 2 (head_of family body)) ≡ message.holdtime
  sets_at : List ℕ
  behind : drop 4 (head_of family body) ≡ sets_at
  spelled : AreSets family message.sets sets_at

is_spelled : (family : AddressFamily) (message : Message) (body : List ℕ) → Spells family message body → IsSpelled family message body
is_spelled family message body h =
    let form = unicast_spelled family message.upstream h.0 h.1 h.3 in
    let numbers = head_at (length message.sets) message.holdtime h.4.0 h.4.1 h.4.3 in
    let at : head_of family body ≡ h.4.0 ++ h.4.1 = ap (drop (unicast_length family)) h.2 ∙ drop_at h.0 h.1 (unicast_length family) form.2 ∙ h.4.2 in
    let size : length body ≡ length (h.0 ++ h.1) = ap (λ (xs : List ℕ). length xs) h.2 in
    record {
      no_fault = ap (unicast_faults family) h.2 ∙ form.0;
      read = ap (unicast_address family) h.2 ∙ form.1;
      long = omega (arith, size, length-append h.0 h.1, form.2);
      four = rw at numbers.3;
      count = ap (λ (xs : List ℕ). slice_index xs 1) at ∙ numbers.0;
      holdtime = ap (λ (xs : List ℕ). big_number 2 (drop 2 xs)) at ∙ numbers.1;
      sets_at = h.4.1;
      behind = ap (λ (xs : List ℕ). drop 4 xs) at ∙ numbers.2;
      spelled = h.4.4;
    }

pub spelled_value : (family : AddressFamily) (message : Message) (body : List ℕ) → Spells family message body → message ≡ message_of family body
spelled_value family message body h =
    let is = is_spelled family message body h in
    let sets : sets_of family (set_count family body) (drop 4 (head_of family body)) ≡ message.sets = ap₂ (sets_of family) is.count is.behind ∙ sets_read family message.sets is.sets_at is.spelled in
    sym (same_message _ _ _ _ _ _ is.read is.holdtime sets)

pub spelled_body : (family : AddressFamily) (message : Message) (body : List ℕ) → Spells family message body → faults family body ≡ []
spelled_body family message body h =
    let is = is_spelled family message body h in
    let sets : ℕ → List ℕ → List Part = λ at sets. set_parts family (set_count family body) at sets in
    let last : faults_of family (set_parts family (set_count family body) (0 + unicast_length family + 4) (drop 4 (head_of family body))) ≡ [] =
    ap₂ (λ (n : ℕ) (xs : List ℕ). faults_of family (set_parts family n (0 + unicast_length family + 4) xs)) is.count is.behind ∙ sets_told family message.sets (0 + unicast_length family + 4) is.sets_at is.spelled in
    let four : ltb (length (head_of family body)) 4 ≡ false = le-ltb _ _ is.four in
    let numbers : kinds_at family head (head_of family body) ≡ [] = rw four refl in
    let behind = part_spelled family head 4 (0 + unicast_length family) (head_of family body) sets numbers is.four last in
    let none : kinds_at family upstream body ≡ [] = rw is.no_fault refl in
    part_spelled family upstream (unicast_length family) 0 body (λ at bytes. part_then head 4 at bytes (λ at sets. set_parts family (slice_index bytes 1) at sets)) none is.long behind

pub one_value : (family : AddressFamily) (m n : Message) (body : List ℕ) → Spells family m body → Spells family n body → m ≡ n
one_value family m n body first second = spelled_value family m body first ∙ sym (spelled_value family n body second)
