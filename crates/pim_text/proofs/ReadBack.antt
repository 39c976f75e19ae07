-- The canonical spelling of a message whose sizes fit is read as that message, whether it is legal or not.
use Rattle.pim_text.proofs.Words.{◌≡◌, ◌∙◌, ap, ap₂, refl, ℕ, suc, ◌+◌, ◌*◌, ◌<◌, ◌^◌, List, [], ◌∷◌, ◌++◌, length, drop, arith}
use Rattle.pim_text.proofs.Words.{append_assoc, drop_at, suc-mul, zero-mul, drop-append-add, AllByRecursion, flat_map, big_bytes}
use Rattle.pim_text.proofs.Words.{big_number, AddressFamily, address_length, canonical_group, GroupReadsBack, SourceReadsBack}
use Rattle.pim_text.proofs.Words.{group_length, source_length, masked_address, source_value, Entry, Star, Source, Rpt, canonical}
use Rattle.pim_text.proofs.Words.{canonical_entry, canonical_head, canonical_set}
use Rattle.byteorder.specs.Numbers.{big_number-reads_back}
use Rattle.pim_jp.specs.Laws.{ReadsHead, ReadsSet}
use Rattle.pim_jp.specs.Message.{GroupSet, Message, entry_of, entries_of, counts_of, joined_count, pruned_count, joined_bytes, pruned_bytes, after_set, sets_of, head_of, set_count, message_of}
use Rattle.pim_jp.specs.Spelling.{source_of}

-- The address of the entry has the length of the family.
abbrev pub HasAddress : AddressFamily → Entry (List ℕ) → Type 0
HasAddress family entry = length (source_of entry).address ≡ address_length family

-- The addresses of the set have their length, and its lists fit their counts.
pub record IsSizedSet (family : AddressFamily) (set : GroupSet) : Type 0 where
  pub group : length set.group ≡ address_length family
  pub few_joined : length set.joined < 2 ^ 16
  pub few_pruned : length set.pruned < 2 ^ 16
  pub joined : AllByRecursion (HasAddress family) set.joined
  pub pruned : AllByRecursion (HasAddress family) set.pruned

-- The same of a message, whose holdtime and sets fit their fields.
pub record IsSizedMessage (family : AddressFamily) (message : Message) : Type 0 where
  pub upstream : length message.upstream ≡ address_length family
  pub holdtime : message.holdtime < 2 ^ 16
  pub few_sets : length message.sets < 2 ^ 8
  pub sets : AllByRecursion (IsSizedSet family) message.sets

-- The canonical head of a message is read, with any bytes after it.
abbrev pub HeadReadsBack : Type 0
HeadReadsBack = (family : AddressFamily) (upstream behind : List ℕ) (sets holdtime : ℕ)
    → length upstream ≡ address_length family → sets < 2 ^ 8 → holdtime < 2 ^ 16
    → ReadsHead family upstream sets holdtime behind (canonical_head family upstream sets holdtime ++ behind)

same_entry : (entry : Entry (List ℕ)) → entry_of (source_of entry) ≡ entry
same_entry (Star rp) = refl
same_entry (Source source) = refl
same_entry (Rpt source) = refl

module _ (family : AddressFamily) (group_back : GroupReadsBack) (source_back : SourceReadsBack) where
  abbrev entries : List (Entry (List ℕ)) → List ℕ
  entries these = flat_map (canonical_entry family) these

  entry_size : (entry : Entry (List ℕ)) → HasAddress family entry → length (canonical_entry family entry) ≡ source_length family
  entry_size entry sized = omega (arith, sized)

  entries_back : (these : List (Entry (List ℕ))) (behind : List ℕ) → AllByRecursion (HasAddress family) these
      → (entries_of family (length these) (entries these ++ behind) ≡ these) × (drop (length these * source_length family) (entries these ++ behind) ≡ behind)
  unfolding entries_of
  entries_back [] behind sized = (refl, rw (zero-mul (source_length family)) refl)
  entries_back (entry ∷ these) behind sized =
      let here = canonical_entry family entry in
      let more = entries these ++ behind in
      let size = source_length family in
      let cut : entries (entry ∷ these) ++ behind ≡ here ++ more = append_assoc here (entries these) behind in
      let read = source_back family (source_of entry) more sized.0 in
      let first : entry_of (source_value family (here ++ more)) ≡ entry = ap entry_of read.1 ∙ same_entry entry in
      let next : drop size (here ++ more) ≡ more = drop_at here more size (entry_size entry sized.0) in
      let others = entries_back these behind sized.1 in
      let listed = ap (entries_of family (suc (length these))) cut ∙ ap₂ (λ (e : Entry (List ℕ)) (es : List (Entry (List ℕ))). e ∷ es) first (ap (entries_of family (length these)) next ∙ others.0) in
      let far : suc (length these) * size ≡ length here + length these * size = omega (arith, suc-mul (length these) size, entry_size entry sized.0) in
      let skipped = ap₂ (λ (n : ℕ) (xs : List ℕ). drop n xs) far cut ∙ (drop-append-add here more (length these * size) ∙ others.1) in
      (listed, skipped)

  -- ---- group sets

  five : (a b c d e f : List ℕ) → (a ++ b ++ c ++ d ++ e) ++ f ≡ a ++ (b ++ (c ++ (d ++ (e ++ f))))
  five a b c d e f = simp append_assoc

  module _ (set : GroupSet) (behind : List ℕ) (sized : IsSizedSet family set) where
    abbrev pruned_at : List ℕ
    pruned_at = entries set.pruned ++ behind

    abbrev joined_at : List ℕ
    joined_at = entries set.joined ++ pruned_at

    abbrev counts_at : List ℕ
    counts_at = big_bytes 2 (length set.joined) ++ (big_bytes 2 (length set.pruned) ++ joined_at)

    set_at : (bytes : List ℕ) → masked_address family bytes ≡ set.group → counts_of family bytes ≡ counts_at → ReadsSet family set behind bytes
    set_at bytes group at =
        let size = source_length family in
        let j : joined_count family bytes ≡ length set.joined =
        ap (λ (xs : List ℕ). big_number 2 xs) at ∙ big_number-reads_back 2 (length set.joined) (big_bytes 2 (length set.pruned) ++ joined_at) sized.few_joined in
        let p : pruned_count family bytes ≡ length set.pruned =
        ap (λ (xs : List ℕ). big_number 2 (drop 2 xs)) at ∙ big_number-reads_back 2 (length set.pruned) joined_at sized.few_pruned in
        let from_joined : joined_bytes family bytes ≡ joined_at = ap (λ (xs : List ℕ). drop 4 xs) at in
        let joined = entries_back set.joined pruned_at sized.joined in
        let pruned = entries_back set.pruned behind sized.pruned in
        let from_pruned : pruned_bytes family bytes ≡ pruned_at = ap₂ (λ (n : ℕ) (xs : List ℕ). drop (n * size) xs) j from_joined ∙ joined.1 in
        let from_behind : after_set family bytes ≡ behind = ap₂ (λ (n : ℕ) (xs : List ℕ). drop (n * size) xs) p from_pruned ∙ pruned.1 in
        let are_joined : entries_of family (joined_count family bytes) (joined_bytes family bytes) ≡ set.joined = ap₂ (entries_of family) j from_joined ∙ joined.0 in
        let are_pruned : entries_of family (pruned_count family bytes) (pruned_bytes family bytes) ≡ set.pruned = ap₂ (entries_of family) p from_pruned ∙ pruned.0 in
        ((λ i. record { group = group i; joined = are_joined i; pruned = are_pruned i }), from_behind)

    set_back : ReadsSet family set behind (canonical_set family set ++ behind)
    set_back =
        let group = canonical_group family set.group in
        let cut : canonical_set family set ++ behind ≡ group ++ counts_at =
        five group (big_bytes 2 (length set.joined)) (big_bytes 2 (length set.pruned)) (entries set.joined) (entries set.pruned) behind in
        let size : length group ≡ group_length family = omega (arith, sized.group) in
        set_at (canonical_set family set ++ behind) (ap (masked_address family) cut ∙ (group_back family set.group counts_at sized.group).1)
        (ap (drop (group_length family)) cut ∙ drop_at group counts_at (group_length family) size)

  sets_back : (sets : List GroupSet) → AllByRecursion (IsSizedSet family) sets → sets_of family (length sets) (flat_map (canonical_set family) sets) ≡ sets
  unfolding sets_of
  sets_back [] sized = refl
  sets_back (set ∷ sets) sized =
      let read = set_back set (flat_map (canonical_set family) sets) sized.0 in
      ap₂ (λ (s : GroupSet) (ss : List GroupSet). s ∷ ss) read.0 (ap (sets_of family (length sets)) read.1 ∙ sets_back sets sized.1)

  -- ---- messages

  pub message_back : HeadReadsBack → (message : Message) → IsSizedMessage family message → message_of family (canonical family message) ≡ message
  message_back head_back message sized =
      let body = canonical family message in
      let (fault, upstream, count, holdtime, behind) = head_back family message.upstream (flat_map (canonical_set family) message.sets) (length message.sets) message.holdtime sized.upstream sized.few_sets sized.holdtime in
      let sets : sets_of family (set_count family body) (drop 4 (head_of family body)) ≡ message.sets = ap₂ (sets_of family) count behind ∙ sets_back message.sets sized.sets in
      λ i. record { upstream = upstream i; holdtime = holdtime i; sets = sets i }
