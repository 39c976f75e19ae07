-- How long the spelling is that is written.
use Rattle.pim_jp.proofs.Words.{◌≡◌, ◌∙◌, ℕ, ◌+◌, ◌*◌, List, [], ◌∷◌, ◌++◌, length, refl, ap, arith, length-append}
use Rattle.pim_jp.proofs.Words.{suc-mul, AllByRecursion, flat_map, big_bytes, AddressFamily, address_length}
use Rattle.pim_jp.proofs.Words.{source_length, canonical_group, Entry, GroupSet, Message, source_of, IsMessageEntry}
use Rattle.pim_jp.proofs.Words.{IsMessageSet, IsMessage, canonical_entry, canonical_set, canonical_head, canonical}
use Rattle.pim_jp.proofs.Words.{canonical_head_length, canonical_set_length, canonical_sets_length}

pub head_size : (family : AddressFamily) (upstream : List ℕ) (sets holdtime : ℕ) → length upstream ≡ address_length family → length (canonical_head family upstream sets holdtime) ≡ canonical_head_length family
head_size family upstream sets holdtime h =
    let numbers : List ℕ = 0 ∷ sets ∷ big_bytes 2 holdtime in
    omega (arith, length-append upstream numbers, h)

entry_size : (family : AddressFamily) (this : Entry (List ℕ)) → IsMessageEntry family this → length (canonical_entry family this) ≡ source_length family
entry_size family this is = let size : length (source_of this).address ≡ address_length family = is.0.0 in omega (arith, size)

entries_size : (family : AddressFamily) (entries : List (Entry (List ℕ))) → AllByRecursion (IsMessageEntry family) entries → length (flat_map (canonical_entry family) entries) ≡ length entries * source_length family
entries_size family [] are = omega arith
entries_size family (this ∷ entries) are =
    let one = entry_size family this are.0 in
    let others = entries_size family entries are.1 in
    let both = length-append (canonical_entry family this) (flat_map (canonical_entry family) entries) in
    omega (arith, one, others, both, suc-mul (length entries) (source_length family))

pub set_size : (family : AddressFamily) (set : GroupSet) → IsMessageSet family set → length (canonical_set family set) ≡ canonical_set_length family (length set.joined) (length set.pruned)
set_size family set is =
    let group : length set.group ≡ address_length family = is.0.0 in
    let joins = entries_size family set.joined is.4 in
    let prunes = entries_size family set.pruned is.6 in
    let front = canonical_group family set.group in
    let joined_count = big_bytes 2 (length set.joined) in
    let pruned_count = big_bytes 2 (length set.pruned) in
    let joined = flat_map (canonical_entry family) set.joined in
    let pruned = flat_map (canonical_entry family) set.pruned in
    omega (
      arith,
      group,
      joins,
      prunes,
      length-append (((front ++ joined_count) ++ pruned_count) ++ joined) pruned,
      length-append ((front ++ joined_count) ++ pruned_count) joined,
      length-append (front ++ joined_count) pruned_count,
      length-append front joined_count,
    )

sets_size : (family : AddressFamily) (sets : List GroupSet) → AllByRecursion (IsMessageSet family) sets → length (flat_map (canonical_set family) sets) ≡ canonical_sets_length family sets
unfolding canonical_sets_length
sets_size family [] are = refl
sets_size family (set ∷ sets) are =
    length-append (canonical_set family set) (flat_map (canonical_set family) sets)
    ∙ ap (λ n. n + length (flat_map (canonical_set family) sets)) (set_size family set are.0)
    ∙ ap (λ n. canonical_set_length family (length set.joined) (length set.pruned) + n) (sets_size family sets are.1)

pub message_size : (family : AddressFamily) (message : Message) → IsMessage family message → length (canonical family message) ≡ canonical_head_length family + canonical_sets_length family message.sets
message_size family message is =
    length-append (canonical_head family message.upstream (length message.sets) message.holdtime) (flat_map (canonical_set family) message.sets)
    ∙ ap (λ n. n + length (flat_map (canonical_set family) message.sets)) (head_size family message.upstream (length message.sets) message.holdtime is.0.0)
    ∙ ap (λ n. canonical_head_length family + n) (sets_size family message.sets is.3)
