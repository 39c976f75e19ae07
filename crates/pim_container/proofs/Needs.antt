-- What the pieces up to the next record need.
use Rattle.pim_container.proofs.Words.{◌≡◌, ℕ, zero, suc, ◌-◌, ◌<◌, true, false, List, [], ◌∷◌, ◌++◌, length, drop}
use Rattle.pim_container.proofs.Words.{Option, Some, None, Ok, ap, sym, ◌∙◌, subst, arith, if◌then◌else◌, option_map}
use Rattle.pim_container.proofs.Words.{Consumes, most_records, Big, ContainerEvent, Interface, ClassicFormat, Container}
use Rattle.pim_container.proofs.Words.{Classic, Blocks, FoundPiece, Unbegun, event_seen, is_section, head_of, piece_of}
use Rattle.pim_container.proofs.Words.{after_piece, container_after, interfaces_after, judge_piece, judge_beginning}
use Rattle.pim_container.proofs.Words.{TakesPiece, BeginsClassic, behind, Need, CountsList, PassesNeed, first_need}
use Rattle.pim_container.proofs.Words.{unless_record, needs, needs_in, classic_needs, header_need, after_header}
use Rattle.pim_container.specs.declared.event.ContainerEvent.TheVariants as event
use Rattle.pim_container.proofs.Beginnings.{section_front}

-- ---- one step

later_of : ℕ → Container → List Interface → List ℕ → ℕ → List Need
later_of left c is bytes count =
    needs left (container_after c (head_of c bytes)) count (interfaces_after (container_after c (head_of c bytes)) is (piece_of c bytes)) (after_piece c bytes)

needs_step : (left : ℕ) (c : Container) (count : ℕ) (is : List Interface) (bytes : List ℕ) → 0 < left
    → needs left c count is bytes ≡ first_need left c count bytes ∷ unless_record count (judge_piece c is bytes) (later_of (left - 1) c is bytes)
unfolding needs later_of
needs_step zero c count is bytes e = absurd (omega arith)
needs_step (suc left) c count is bytes e =
    let one : left ≡ suc left - 1 = omega arith in
    ap (λ n. first_need (suc left) c count bytes ∷ unless_record count (judge_piece c is bytes) (later_of n c is bytes)) one

passes_unknown : (e : ContainerEvent) (new : Option (List Need)) → PassesNeed e None new
passes_unknown (event.Packet millis origin ip) new = tt
passes_unknown (event.Fragment millis origin ip part) new = tt
passes_unknown (event.Skipped millis origin why) new = tt
passes_unknown event.Untimed new = tt
passes_unknown event.Section new = tt
passes_unknown (event.Interface name) new = tt
passes_unknown event.Passed new = tt
passes_unknown event.End new = tt

passes_known : (e : ContainerEvent) (bytes : List ℕ) (count count' : ℕ) (need : Need) (all later : List Need) (rest : ℕ → List Need) → all ≡ need ∷ unless_record count (Ok (event_seen bytes e)) rest
    → CountsList e count count' → later ≡ rest count' → PassesNeed e (Some all) (Some later)
passes_known (event.Packet millis origin ip) bytes count count' need all later rest a k l = tt
passes_known (event.Fragment millis origin ip part) bytes count count' need all later rest a k l = tt
passes_known (event.Skipped millis origin why) bytes count count' need all later rest a k l = tt
passes_known event.Untimed bytes count count' need all later rest a k l = tt
passes_known event.Section bytes count count' need all later rest a k l = ap Some (l ∙ ap rest k ∙ sym (ap (drop 1) a))
passes_known (event.Interface name) bytes count count' need all later rest a k l = ap Some (l ∙ ap rest k ∙ sym (ap (drop 1) a))
passes_known event.Passed bytes count count' need all later rest a k l = ap Some (l ∙ ap rest k ∙ sym (ap (drop 1) a))
passes_known event.End bytes count count' need all later rest a k l = tt

pub piece_passed : (left : ℕ) (c : Container) (count count' : ℕ) (is is' : List Interface) (head bytes : List ℕ) (old new : Option (List ℕ)) (found : FoundPiece) → 0 < left
    → TakesPiece c is (behind head old) new is' bytes (Ok found) → CountsList found.event count count'
    → PassesNeed found.event (option_map (needs left c count is) (behind head old)) (option_map (needs (left - 1) found.container count' is') new)
unfolding later_of
piece_passed left c count count' is is' head bytes None new found some t k = passes_unknown found.event (option_map (needs (left - 1) found.container count' is') new)
piece_passed left c count count' is is' head bytes (Some xs) None found some t k = absurd t
piece_passed left c count count' is is' head bytes (Some xs) (Some ys) found some t k =
    let all = head ++ xs in
    let rest = later_of (left - 1) c is all in
    let step = needs_step left c count is all some ∙ ap (λ r. first_need left c count all ∷ unless_record count r rest) t.0 in
    let later : needs (left - 1) found.container count' is' ys ≡ rest count' =
    ap (λ it. needs (left - 1) found.container count' it ys) t.2
    ∙ ap (λ it. needs (left - 1) it count' (interfaces_after it is (piece_of c all)) ys) t.1
    ∙ ap (λ it. needs (left - 1) (container_after c (head_of c all)) count' (interfaces_after (container_after c (head_of c all)) is (piece_of c all)) it) t.3 in
    passes_known found.event bytes count count' (first_need left c count all) (needs left c count is all) (needs (left - 1) found.container count' is' ys) rest step k later

-- ---- from a part of the bytes to all

pub next_passes : (left : ℕ) (c : Container) (count : ℕ) (is : List Interface) (head : List ℕ) (old mid : Option (List ℕ)) (new : Option (List Need)) (e : ContainerEvent) → Consumes old mid head
    → PassesNeed e (option_map (needs left c count is) (behind head mid)) new → PassesNeed e (option_map (needs left c count is) old) new
next_passes left c count is head None mid new e h p = passes_unknown e new
next_passes left c count is head (Some xs) None new e h p = absurd h
next_passes left c count is head (Some xs) (Some ms) new e h p = subst (λ it. PassesNeed e (Some (needs left c count is it)) new) (sym h) p

pub blocks_pass : (count : ℕ) (is : List Interface) (head : List ℕ) (old mid : Option (List ℕ)) (new : Option (List Need)) (e : ContainerEvent) → count ≡ 0 → is ≡ [] → length head ≡ 12 → is_section head ≡ true
    → Consumes old mid head → PassesNeed e (option_map (needs most_records (Blocks Big) count is) (behind head mid)) new → PassesNeed e (option_map (needs_in Unbegun 0 []) old) new
blocks_pass count is head None mid new e z i l s h p = passes_unknown e new
blocks_pass count is head (Some xs) None new e z i l s h p = absurd h
blocks_pass count is head (Some xs) (Some ms) new e z i l s h p =
    let begins : is_section xs ≡ true = ap is_section h ∙ section_front head ms (omega arith) ∙ s in
    let same : needs most_records (Blocks Big) count is (head ++ ms) ≡ needs_in Unbegun 0 [] xs =
    ap (λ n. needs most_records (Blocks Big) n is (head ++ ms)) z
    ∙ ap (λ it. needs most_records (Blocks Big) 0 it (head ++ ms)) i
    ∙ ap (λ it. needs most_records (Blocks Big) 0 [] it) (sym h)
    ∙ sym (ap (λ b. if b then needs most_records (Blocks Big) 0 [] xs else classic_needs xs) begins) in
    subst (λ it. PassesNeed e (Some it) new) same p

pub classic_passes : (count : ℕ) (is : List Interface) (head : List ℕ) (old mid new : Option (List ℕ)) (format : ClassicFormat) → count ≡ 0 → is ≡ [] → length head ≡ 12 → is_section head ≡ false
    → Consumes old mid head → BeginsClassic (behind head mid) new (Ok format)
    → PassesNeed event.Section (option_map (needs_in Unbegun 0 []) old) (option_map (needs most_records (Classic format) count is) new)
classic_passes count is head None mid new format z i l s h b = tt
classic_passes count is head (Some xs) None new format z i l s h b = absurd h
classic_passes count is head (Some xs) (Some ms) None format z i l s h b = absurd b
classic_passes count is head (Some xs) (Some ms) (Some ys) format z i l s h b =
    let begins : is_section xs ≡ false = ap is_section h ∙ section_front head ms (omega arith) ∙ s in
    let judged : judge_beginning xs ≡ Ok format = ap judge_beginning h ∙ b.0 in
    let after : ys ≡ drop 24 xs = b.1 ∙ sym (ap (drop 24) h) in
    let old : needs_in Unbegun 0 [] xs ≡ header_need xs ∷ needs most_records (Classic format) 0 [] (drop 24 xs) =
    ap (λ t. if t then needs most_records (Blocks Big) 0 [] xs else classic_needs xs) begins
    ∙ ap (λ r. header_need xs ∷ after_header r (λ it. needs most_records (Classic it) 0 [] (drop 24 xs))) judged in
    ap Some (
    ap (λ n. needs most_records (Classic format) n is ys) z
    ∙ ap (λ it. needs most_records (Classic format) 0 it ys) i
    ∙ ap (λ it. needs most_records (Classic format) 0 [] it) after
    ∙ sym (ap (drop 1) old)
    )
