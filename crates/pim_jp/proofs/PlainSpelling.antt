-- Of the spellings of a message one alone has its ignored bits as they are written.
use Rattle.pim_jp.proofs.Words.{◌≡◌, ℕ, zero, suc, ◌+◌, ◌/◌, ◌%◌, ◌<◌, Bool, List, [], ◌∷◌, ◌++◌, length, slice_index, refl, sym}
use Rattle.pim_jp.proofs.Words.{ap, ap₂, ◌∙◌, ◌↔◌, subst, arith, append_assoc, AllByRecursion, flat_map, big_bytes, AddressFamily}
use Rattle.pim_jp.proofs.Words.{mask_length, family_byte, wildcard_bit, rpt_bit, canonical_unicast, canonical_flags}
use Rattle.pim_jp.proofs.Words.{canonical_group, Entry, Star, Source, Rpt, GroupSet, Message, source_of, IsMessageEntry}
use Rattle.pim_jp.proofs.Words.{IsMessageSet, IsMessage, canonical_entry, canonical_set, canonical}
use Rattle.pim_jp.specs.Plain.{IsPlainGroup, IsPlainEntry, ArePlainEntries, IsPlainSet, ArePlainSets, SpellsPlainly}
use Rattle.pim_jp.proofs.Canonical.{entry_written, five_in_a_row, message_written}

-- ---- what is plain is what is written

plain_flags_at : (m : ℕ) (wildcard rpt : Bool) → m < 4 → wildcard ≡ wildcard_bit (4 + m) → rpt ≡ rpt_bit (4 + m) → 4 + m ≡ canonical_flags wildcard rpt
plain_flags_at zero wildcard rpt below p q = rw (p, q) refl
plain_flags_at (suc zero) wildcard rpt below p q = rw (p, q) refl
plain_flags_at (suc (suc zero)) wildcard rpt below p q = rw (p, q) refl
plain_flags_at (suc (suc (suc zero))) wildcard rpt below p q = rw (p, q) refl
plain_flags_at (suc (suc (suc (suc m)))) wildcard rpt below p q = absurd (omega arith)

plain_flags : (flags : ℕ) (wildcard rpt : Bool) → flags / 4 ≡ 1 → wildcard ≡ wildcard_bit flags → rpt ≡ rpt_bit flags → flags ≡ canonical_flags wildcard rpt
plain_flags flags wildcard rpt above p q =
    let is : flags ≡ 4 + flags % 4 = omega arith in
    is ∙ plain_flags_at (flags % 4) wildcard rpt (omega arith) (p ∙ ap wildcard_bit is) (q ∙ ap rpt_bit is)

plain_group : (family : AddressFamily) (group bytes : List ℕ) → IsPlainGroup family group bytes → bytes ≡ canonical_group family group
plain_group family group bytes h = h.0.1 ∙ ap (λ (free : ℕ). family_byte family ∷ 0 ∷ free ∷ mask_length family ∷ group) h.1

plain_entry : (family : AddressFamily) (this : Entry (List ℕ)) (bytes : List ℕ) → IsPlainEntry family this bytes → bytes ≡ canonical_entry family this
plain_entry family this bytes h =
    let flags = plain_flags (slice_index bytes 2) (source_of this).wildcard (source_of this).rpt h.1 h.0.0.2 h.0.0.3 in
    h.0.0.1 ∙ ap (λ (free : ℕ). family_byte family ∷ 0 ∷ free ∷ mask_length family ∷ (source_of this).address) flags

plain_entries : (family : AddressFamily) (entries : List (Entry (List ℕ))) (bytes : List ℕ) → ArePlainEntries family entries bytes → bytes ≡ flat_map (canonical_entry family) entries
unfolding ArePlainEntries
plain_entries family [] bytes h = h
plain_entries family (this ∷ entries) bytes h =
    h.2 ∙ ap₂ (λ (xs ys : List ℕ). xs ++ ys) (plain_entry family this h.0 h.3) (plain_entries family entries h.1 h.4)

plain_set : (family : AddressFamily) (set : GroupSet) (bytes : List ℕ) → IsPlainSet family set bytes → bytes ≡ canonical_set family set
plain_set family set bytes h =
    let group = plain_group family set.group h.0 h.3 in
    let joined = plain_entries family set.joined h.4.4.0 h.4.4.3 in
    let pruned = plain_entries family set.pruned h.4.4.1 h.4.4.4 in
    let lists : h.4.1 ≡ flat_map (canonical_entry family) set.joined ++ flat_map (canonical_entry family) set.pruned = h.4.4.2 ∙ ap₂ (λ (xs ys : List ℕ). xs ++ ys) joined pruned in
    let behind = h.4.2 ∙ ap₂ (λ (xs ys : List ℕ). xs ++ ys) h.4.3 lists in
    h.2 ∙ ap₂ (λ (xs ys : List ℕ). xs ++ ys) group behind
    ∙ five_in_a_row (canonical_group family set.group) (big_bytes 2 (length set.joined)) (big_bytes 2 (length set.pruned)) (flat_map (canonical_entry family) set.joined) (flat_map (canonical_entry family) set.pruned)

plain_sets : (family : AddressFamily) (sets : List GroupSet) (bytes : List ℕ) → ArePlainSets family sets bytes → bytes ≡ flat_map (canonical_set family) sets
unfolding ArePlainSets
plain_sets family [] bytes h = h
plain_sets family (set ∷ sets) bytes h =
    h.2 ∙ ap₂ (λ (xs ys : List ℕ). xs ++ ys) (plain_set family set h.0 h.3) (plain_sets family sets h.1 h.4)

plain_body : (family : AddressFamily) (message : Message) (body : List ℕ) → SpellsPlainly family message body → body ≡ canonical family message
plain_body family message body (spelled, h) =
    let sets = plain_sets family message.sets h.4.1 h.4.4 in
    let numbers : List ℕ = 0 ∷ length message.sets ∷ big_bytes 2 message.holdtime in
    let behind = h.4.2 ∙ ap₂ (λ (xs ys : List ℕ). xs ++ ys) h.4.3 sets in
    h.2 ∙ ap₂ (λ (xs ys : List ℕ). xs ++ ys) h.3.1 behind
    ∙ sym (append_assoc (canonical_unicast family message.upstream) numbers (flat_map (canonical_set family) message.sets))

-- ---- and what is written is plain

entry_plain : (family : AddressFamily) (this : Entry (List ℕ)) → IsMessageEntry family this → IsPlainEntry family this (canonical_entry family this)
entry_plain family (Star rp) is = (entry_written family (Star rp) is, refl)
entry_plain family (Source source) is = (entry_written family (Source source) is, refl)
entry_plain family (Rpt source) is = (entry_written family (Rpt source) is, refl)

entries_plain : (family : AddressFamily) (entries : List (Entry (List ℕ))) → AllByRecursion (IsMessageEntry family) entries → ArePlainEntries family entries (flat_map (canonical_entry family) entries)
unfolding ArePlainEntries
entries_plain family [] are = refl
entries_plain family (this ∷ entries) are = (canonical_entry family this, flat_map (canonical_entry family) entries, refl, entry_plain family this are.0, entries_plain family entries are.1)

set_plain : (family : AddressFamily) (set : GroupSet) → IsMessageSet family set → IsPlainSet family set (canonical_set family set)
set_plain family set is =
    let group = canonical_group family set.group in
    let numbers : List ℕ = big_bytes 2 (length set.joined) ++ big_bytes 2 (length set.pruned) in
    let joined = flat_map (canonical_entry family) set.joined in
    let pruned = flat_map (canonical_entry family) set.pruned in
    subst (IsPlainSet family set) (five_in_a_row group (big_bytes 2 (length set.joined)) (big_bytes 2 (length set.pruned)) joined pruned)
    (group, numbers ++ (joined ++ pruned), refl, ((is.0.0, refl), refl), (numbers, joined ++ pruned, refl, refl, (joined, pruned, refl, entries_plain family set.joined is.4, entries_plain family set.pruned is.6)))

sets_plain : (family : AddressFamily) (sets : List GroupSet) → AllByRecursion (IsMessageSet family) sets → ArePlainSets family sets (flat_map (canonical_set family) sets)
unfolding ArePlainSets
sets_plain family [] are = refl
sets_plain family (set ∷ sets) are = (canonical_set family set, flat_map (canonical_set family) sets, refl, set_plain family set are.0, sets_plain family sets are.1)

body_plain : (family : AddressFamily) (message : Message) → IsMessage family message → SpellsPlainly family message (canonical family message)
body_plain family message is =
    let front = canonical_unicast family message.upstream in
    let numbers : List ℕ = 0 ∷ length message.sets ∷ big_bytes 2 message.holdtime in
    let sets = flat_map (canonical_set family) message.sets in
    (message_written family message is, (front, numbers ++ sets, append_assoc front numbers sets, (is.0.0, refl), (numbers, sets, refl, refl, sets_plain family message.sets is.3)))

pub one_spelling : (family : AddressFamily) (message : Message) (body : List ℕ) → IsMessage family message → SpellsPlainly family message body ↔ (body ≡ canonical family message)
one_spelling family message body is = (plain_body family message body, λ e. subst (SpellsPlainly family message) (sym e) (body_plain family message is))
