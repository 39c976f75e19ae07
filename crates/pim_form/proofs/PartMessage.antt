-- The message of a part of a form that fits the budget: it can be spelled, and what room it takes.
use Rattle.pim_form.proofs.Words.{◌≡◌, ◌∙◌, ◌+◌, ◌*◌, ℕ, true, List, ◌++◌, length, map, drop, sym, ap, subst, arith}
use Rattle.pim_form.proofs.Words.{Option, append_assoc, length-append, length-map, drop-append_seam, AddressFamily}
use Rattle.pim_form.proofs.Words.{all_routers, IsSealed, JoinPrune, IsMessage, canonical, canonical_head, canonical_set}
use Rattle.pim_form.proofs.Words.{canonical_head_length, canonical_sets_length, flat_map, GroupForm, IsNormal, units_of}
use Rattle.pim_form.proofs.Words.{run_entries, run_size, empty_message_size, empty_set_size, entry_size, fits, Writing}
use Rattle.pim_form.proofs.Words.{IsWriting, HaveRps, written_set, written_message}
use Rattle.pim_form.proofs.Normal.{groups_some}
use Rattle.pim_form.proofs.Units.{count_groups}
use Rattle.pim_form.proofs.Spelled.{IsPart, units_valid, parts_valid, is_message, sets_size, head_and_sets}

module _ (family : AddressFamily) (writing : Writing) (rps : List ℕ → Option (List ℕ)) (part : List GroupForm) (normal : IsNormal family part) (have : HaveRps family rps part) (fitting : fits family writing.budget (units_of part) ≡ true) where
  is_part : IsPart family writing rps part
  is_part = record {
    ascending = normal.ascending;
    some = groups_some family part normal.groups;
    valid = units_valid family rps part normal.groups have;
    fitting = fitting;
  }

  pub message_is : IsWriting family writing → IsMessage family (written_message writing rps part)
  message_is is = is_message family writing rps part is is_part

  -- header, head and sets
  pub message_room : run_size family (units_of part) ≡ 4 + (canonical_head_length family + canonical_sets_length family (map (written_set rps) part))
  message_room =
      let groups = count_groups part is_part.ascending is_part.some in
      let sets = sets_size family rps part (parts_valid family rps part is_part.some is_part.valid) in
      ap (λ (n : ℕ). empty_message_size family + n * empty_set_size family + run_entries (units_of part) * entry_size family) groups
      ∙ sym (head_and_sets family (length part) (run_entries (units_of part)) (canonical_sets_length family (map (written_set rps) part)) sets)

  pub sealed_is : (count : ℕ) (front head sets bytes : List ℕ) → length front ≡ 4 → length head ≡ canonical_head_length family → count ≡ length part
      → sets ≡ flat_map (canonical_set family) (map (written_set rps) part)
      → IsSealed family writing.own (all_routers family) JoinPrune
      (canonical_head family writing.upstream count writing.holdtime ++ drop (4 + canonical_head_length family) (front ++ (head ++ sets))) bytes
      → IsSealed family writing.own (all_routers family) JoinPrune (canonical family (written_message writing rps part)) bytes
  sealed_is count front head sets bytes long head_long counts is_sets sealed =
      let counted : count ≡ length (map (written_set rps) part) = counts ∙ sym (length-map part (written_set rps)) in
      let first : 4 + canonical_head_length family ≡ length (front ++ head) = omega (arith, long, head_long, length-append front head) in
      let behind : drop (4 + canonical_head_length family) (front ++ (head ++ sets)) ≡ sets =
      ap (λ (n : ℕ). drop n (front ++ (head ++ sets))) first ∙ ap (drop (length (front ++ head))) (sym (append_assoc front head sets)) ∙ drop-append_seam (front ++ head) sets in
      let body = ap (λ (n : ℕ). canonical_head family writing.upstream n writing.holdtime ++ drop (4 + canonical_head_length family) (front ++ (head ++ sets))) counted
      ∙ ap (λ (rest : List ℕ). canonical_head family writing.upstream (length (map (written_set rps) part)) writing.holdtime ++ rest) (behind ∙ is_sets) in
      subst (λ (body : List ℕ). IsSealed family writing.own (all_routers family) JoinPrune body bytes) body sealed
