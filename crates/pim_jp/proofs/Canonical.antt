-- The spelling that is written is one, and what is spelled is within the ranges of the format.
use Rattle.pim_jp.proofs.Words.{◌≡◌, ℕ, suc, ◌<◌, ◌^◌, List, [], ◌∷◌, ◌++◌, length, slice_index, refl, sym, subst, append_assoc}
use Rattle.pim_jp.proofs.Words.{AllByRecursion, flat_map, big_bytes, AddressFamily, AreBytes, IsAddress, address_length}
use Rattle.pim_jp.proofs.Words.{mask_length, family_byte, SourceValue, IsUnicast, IsGroup, IsSource, canonical_unicast, Entry}
use Rattle.pim_jp.proofs.Words.{Star, Source, Rpt, GroupSet, Message, message_of, source_of, IsEntry, AreEntries, IsSet, AreSets}
use Rattle.pim_jp.proofs.Words.{Spells, IsMessageEntry, IsMessageSet, IsMessage, canonical_entry, canonical_set, canonical_head}
use Rattle.pim_jp.proofs.Words.{canonical, set_parts, faults_of, faults, ReadsHead, ReadsSet}
use Rattle.pim_jp.proofs.Counts.{AreBytes-first, AreBytes-others}
use Rattle.pim_jp.proofs.SetParts.{set_spelled}
use Rattle.pim_jp.proofs.Legal.{message_spelled}
use Rattle.pim_jp.proofs.Spelled.{spelled_value, spelled_body, set_back, set_fine, head_back}

-- ---- the spelling that is written is one

pub entry_written : (family : AddressFamily) (this : Entry (List ℕ)) → IsMessageEntry family this → IsEntry family this (canonical_entry family this)
entry_written family (Star rp) is = ((is.0.0, refl, refl, refl), is.1)
entry_written family (Source source) is = ((is.0.0, refl, refl, refl), is.1)
entry_written family (Rpt source) is = ((is.0.0, refl, refl, refl), is.1)

entries_written : (family : AddressFamily) (entries : List (Entry (List ℕ))) → AllByRecursion (IsMessageEntry family) entries → AreEntries family entries (flat_map (canonical_entry family) entries)
unfolding AreEntries
entries_written family [] are = refl
entries_written family (this ∷ entries) are = (canonical_entry family this, flat_map (canonical_entry family) entries, refl, entry_written family this are.0, entries_written family entries are.1)

pub five_in_a_row : (a b c d e : List ℕ) → a ++ ((b ++ c) ++ (d ++ e)) ≡ a ++ b ++ c ++ d ++ e
five_in_a_row a b c d e = simp append_assoc

set_written : (family : AddressFamily) (set : GroupSet) → IsMessageSet family set → IsSet family set (canonical_set family set)
set_written family set is =
    let group : List ℕ = family_byte family ∷ 0 ∷ 0 ∷ mask_length family ∷ set.group in
    let numbers : List ℕ = big_bytes 2 (length set.joined) ++ big_bytes 2 (length set.pruned) in
    let joined = flat_map (canonical_entry family) set.joined in
    let pruned = flat_map (canonical_entry family) set.pruned in
    subst (IsSet family set) (five_in_a_row group (big_bytes 2 (length set.joined)) (big_bytes 2 (length set.pruned)) joined pruned) (set_spelled family set group numbers joined pruned
    is.2 is.1 is.3 is.5 (is.0.0, refl) refl (entries_written family set.joined is.4) (entries_written family set.pruned is.6))

sets_written : (family : AddressFamily) (sets : List GroupSet) → AllByRecursion (IsMessageSet family) sets → AreSets family sets (flat_map (canonical_set family) sets)
unfolding AreSets
sets_written family [] are = refl
sets_written family (set ∷ sets) are = (canonical_set family set, flat_map (canonical_set family) sets, refl, set_written family set are.0, sets_written family sets are.1)

pub message_written : (family : AddressFamily) (message : Message) → IsMessage family message → Spells family message (canonical family message)
message_written family message is =
    let front : List ℕ = family_byte family ∷ 0 ∷ message.upstream in
    let numbers : List ℕ = 0 ∷ length message.sets ∷ big_bytes 2 message.holdtime in
    let sets = flat_map (canonical_set family) message.sets in
    subst (Spells family message) (sym (append_assoc front numbers sets)) (message_spelled family message front numbers sets (is.0.0, refl) (is.2, is.1, refl) (sets_written family message.sets is.3))

pub written_value : (family : AddressFamily) (message : Message) → IsMessage family message → message_of family (canonical family message) ≡ message
written_value family message is = sym (spelled_value family message (canonical family message) (message_written family message is))

pub written_without_fault : (family : AddressFamily) (message : Message) → IsMessage family message → faults family (canonical family message) ≡ []
written_without_fault family message is = spelled_body family message (canonical family message) (message_written family message is)

pub set_without_fault : (family : AddressFamily) (set : GroupSet) (count at : ℕ) (behind : List ℕ) → IsMessageSet family set
    → ((at : ℕ) → faults_of family (set_parts family count at behind) ≡ []) → faults_of family (set_parts family (suc count) at (canonical_set family set ++ behind)) ≡ []
set_without_fault family set count at behind is others = set_fine family set count at (canonical_set family set) behind (set_written family set is) others

-- ---- what is written of a head, and of a set, is read, whatever stands behind it

pub head_read : (family : AddressFamily) (upstream behind : List ℕ) (sets holdtime : ℕ) → length upstream ≡ address_length family → sets < 2 ^ 8 → holdtime < 2 ^ 16
    → ReadsHead family upstream sets holdtime behind (canonical_head family upstream sets holdtime ++ behind)
head_read family upstream behind sets holdtime size few fits =
    head_back family upstream (canonical_unicast family upstream) (0 ∷ sets ∷ big_bytes 2 holdtime) behind sets holdtime (size, refl) (few, fits, refl)

pub set_read : (family : AddressFamily) (set : GroupSet) (behind : List ℕ) → IsMessageSet family set → ReadsSet family set behind (canonical_set family set ++ behind)
set_read family set behind is = set_back family set (canonical_set family set) behind (set_written family set is)

-- ---- what is spelled by bytes is in range

-- an address has the bytes that stand behind the fields before it
unicast_address : (family : AddressFamily) (address bytes : List ℕ) → AreBytes bytes → IsUnicast family address bytes → IsAddress family address
unicast_address family address bytes are is = (is.0, AreBytes-others (family_byte family ∷ 0 ∷ []) address (subst AreBytes is.1 are))

group_address : (family : AddressFamily) (address bytes : List ℕ) → AreBytes bytes → IsGroup family address bytes → IsAddress family address
group_address family address bytes are is =
    (is.0, AreBytes-others (family_byte family ∷ 0 ∷ slice_index bytes 2 ∷ mask_length family ∷ []) address (subst AreBytes is.1 are))

source_address : (family : AddressFamily) (source : SourceValue) (bytes : List ℕ) → AreBytes bytes → IsSource family source bytes → IsAddress family source.address
source_address family source bytes are is =
    (is.0, AreBytes-others (family_byte family ∷ 0 ∷ slice_index bytes 2 ∷ mask_length family ∷ []) source.address (subst AreBytes is.1 are))

entries_in_range : (family : AddressFamily) (entries : List (Entry (List ℕ))) (bytes : List ℕ) → AreBytes bytes → AreEntries family entries bytes → AllByRecursion (IsMessageEntry family) entries
unfolding AreEntries
entries_in_range family [] bytes are h = tt
entries_in_range family (this ∷ entries) bytes are h =
    let are' : AreBytes (h.0 ++ h.1) = subst AreBytes h.2 are in
    let address = source_address family (source_of this) h.0 (AreBytes-first h.0 h.1 are') h.3.0 in
    ((address, h.3.1), entries_in_range family entries h.1 (AreBytes-others h.0 h.1 are') h.4)

set_in_range : (family : AddressFamily) (set : GroupSet) (bytes : List ℕ) → AreBytes bytes → IsSet family set bytes → IsMessageSet family set
set_in_range family set bytes are (legal, valid, joined_fits, pruned_fits, (group, behind, cut, group_is, (counts, entries, cut', counts_are, (joined, pruned, cut'', joined_are, pruned_are)))) =
    let all : AreBytes (group ++ behind) = subst AreBytes cut are in
    let behind_group : AreBytes (counts ++ entries) = subst AreBytes cut' (AreBytes-others group behind all) in
    let lists : AreBytes (joined ++ pruned) = subst AreBytes cut'' (AreBytes-others counts entries behind_group) in (
      group_address family set.group group (AreBytes-first group behind all) group_is,
      valid,
      legal,
      joined_fits,
      entries_in_range family set.joined joined (AreBytes-first joined pruned lists) joined_are,
      pruned_fits,
      entries_in_range family set.pruned pruned (AreBytes-others joined pruned lists) pruned_are,
    )

sets_in_range : (family : AddressFamily) (sets : List GroupSet) (bytes : List ℕ) → AreBytes bytes → AreSets family sets bytes → AllByRecursion (IsMessageSet family) sets
unfolding AreSets
sets_in_range family [] bytes are h = tt
sets_in_range family (set ∷ sets) bytes are h =
    let are' : AreBytes (h.0 ++ h.1) = subst AreBytes h.2 are in
    (set_in_range family set h.0 (AreBytes-first h.0 h.1 are') h.3, sets_in_range family sets h.1 (AreBytes-others h.0 h.1 are') h.4)

pub message_in_range : (family : AddressFamily) (message : Message) (body : List ℕ) → AreBytes body → Spells family message body → IsMessage family message
message_in_range family message body are (front, behind, cut, upstream_is, (numbers, sets, cut', head_is, sets_are)) =
    let all : AreBytes (front ++ behind) = subst AreBytes cut are in
    let behind_front : AreBytes (numbers ++ sets) = subst AreBytes cut' (AreBytes-others front behind all) in (
      unicast_address family message.upstream front (AreBytes-first front behind all) upstream_is,
      head_is.1,
      head_is.0,
      sets_in_range family message.sets sets (AreBytes-others numbers sets behind_front) sets_are,
    )
