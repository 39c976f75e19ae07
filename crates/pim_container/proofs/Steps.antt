-- The results for the first piece, and those after it.
use Rattle.pim_container.proofs.Words.{◌≡◌, ◌≢◌, ℕ, zero, suc, ◌+◌, ◌-◌, ◌<◌, ◌⊎◌, min, List, [], ◌∷◌, ◌++◌, length, Option, Some}
use Rattle.pim_container.proofs.Words.{None, Ok, Err, ap, sym, ◌∙◌, arith, refl, inl, inr, option_map, length-append, top_count}
use Rattle.pim_container.proofs.Words.{ContainerFault, ContainerEvent, Interface, Container, FoundPiece, ReaderStep, EventSeen}
use Rattle.pim_container.proofs.Words.{ended, event_seen, Classic, Blocks, head_length, Answer, pieces, judge_piece, unless_fault}
use Rattle.pim_container.proofs.Words.{head_of, piece_of, after_piece, container_after, interfaces_after, IsNext, IsRefusal}
use Rattle.pim_container.proofs.Words.{CountsReads, TakesPiece, in_front, behind}
use Rattle.pim_container.specs.declared.fault.ContainerFault.TheVariants as fault
use Rattle.pim_container.specs.declared.event.ContainerEvent.TheVariants as event

-- a head has some bytes
pub head_some : (c : Container) → 0 < head_length c
head_some (Classic format) = omega arith
head_some (Blocks order) = omega arith

pub pieces_end : (left : ℕ) (c : Container) (is : List Interface) → pieces left c is [] ≡ Ok ended ∷ []
unfolding pieces
pieces_end zero c is = refl
pieces_end (suc left) c is = refl

pub pieces_bound : (left : ℕ) (c : Container) (is : List Interface) (bytes : List ℕ) → left ≡ 0 → 0 < length bytes → pieces left c is bytes ≡ Err fault.Read ∷ []
unfolding pieces
pieces_bound zero c is [] e h = absurd (omega arith)
pieces_bound zero c is (b ∷ bs) e h = refl
pieces_bound (suc left) c is bytes e h = absurd (omega arith)

-- the results after the first piece
rest_of : ℕ → Container → List Interface → List ℕ → List Answer
rest_of left c is bytes =
    pieces left (container_after c (head_of c bytes)) (interfaces_after (container_after c (head_of c bytes)) is (piece_of c bytes)) (after_piece c bytes)

pieces_step : (left : ℕ) (c : Container) (is : List Interface) (bytes : List ℕ) → 0 < left → 0 < length bytes
    → pieces left c is bytes ≡ unless_fault (judge_piece c is bytes) (λ reported. Ok reported ∷ rest_of (left - 1) c is bytes)
unfolding pieces rest_of
pieces_step zero c is bytes e h = absurd (omega arith)
pieces_step (suc left) c is [] e h = absurd (omega arith)
pieces_step (suc left) c is (b ∷ bs) e h =
    let one : left ≡ suc left - 1 = omega arith in
    let bytes : List ℕ = b ∷ bs in
    ap (λ n. unless_fault (judge_piece c is bytes) (λ reported. Ok reported ∷ rest_of n c is bytes)) one

pub at_fault : (left : ℕ) (c : Container) (is : List Interface) (bytes : List ℕ) (f : ContainerFault) → 0 < left → 0 < length bytes → judge_piece c is bytes ≡ Err f
    → pieces left c is bytes ≡ Err f ∷ []
at_fault left c is bytes f some there e =
    pieces_step left c is bytes some there ∙ ap (λ r. unless_fault r (λ reported. Ok reported ∷ rest_of (left - 1) c is bytes)) e

pub reported : (left : ℕ) (c c' : Container) (is is' : List Interface) (bytes later : List ℕ) (t : EventSeen) → 0 < left → 0 < length bytes → judge_piece c is bytes ≡ Ok t
    → c' ≡ container_after c (head_of c bytes) → is' ≡ interfaces_after c' is (piece_of c bytes) → later ≡ after_piece c bytes
    → pieces left c is bytes ≡ Ok t ∷ pieces (left - 1) c' is' later
unfolding rest_of
reported left c c' is is' bytes later t some there e k i l =
    pieces_step left c is bytes some there
    ∙ ap (λ r. unless_fault r (λ t'. Ok t' ∷ rest_of (left - 1) c is bytes)) e
    ∙ ap (λ r. Ok t ∷ pieces (left - 1) r (interfaces_after r is (piece_of c bytes)) (after_piece c bytes)) (sym k)
    ∙ ap (λ r. Ok t ∷ pieces (left - 1) c' r (after_piece c bytes)) (sym i)
    ∙ ap (λ r. Ok t ∷ pieces (left - 1) c' is' r) (sym l)

in_front_event : (bytes : List ℕ) (e : ContainerEvent) (later : List Answer) → e ≢ event.End → in_front (Ok (event_seen bytes e)) later ≡ Ok (event_seen bytes e) ∷ later
in_front_event bytes (event.Packet millis origin ip) later h = refl
in_front_event bytes (event.Fragment millis origin ip part) later h = refl
in_front_event bytes (event.Skipped millis origin why) later h = refl
in_front_event bytes event.Untimed later h = refl
in_front_event bytes event.Section later h = refl
in_front_event bytes (event.Interface name) later h = refl
in_front_event bytes event.Passed later h = refl
in_front_event bytes event.End later h = absurd (h refl)

longer : (head rest : List ℕ) → 0 < length head → 0 < length (head ++ rest)
longer head rest h = omega (arith, length-append head rest)

pub found_known : (left : ℕ) (c : Container) (is is' : List Interface) (head bytes : List ℕ) (old new : Option (List ℕ)) (found : FoundPiece) → 0 < left → 0 < length head
    → found.event ≢ event.End → TakesPiece c is (behind head old) new is' bytes (Ok found)
    → IsNext (option_map (pieces left c is) (behind head old)) (Ok (event_seen bytes found.event)) (option_map (pieces (left - 1) found.container is') new)
found_known left c is is' head bytes None new found some there h t = tt
found_known left c is is' head bytes (Some xs) None found some there h t = absurd t
found_known left c is is' head bytes (Some xs) (Some ys) found some there h t =
    reported left c found.container is is' (head ++ xs) ys (event_seen bytes found.event) some (longer head xs there) t.0 t.1 t.2 t.3
    ∙ sym (in_front_event bytes found.event (pieces (left - 1) found.container is' ys) h)

-- a failed read
pub failed : (n n' : ℕ) → n' ≡ min (n + 1) top_count → IsRefusal {A = ReaderStep} n n' (Err fault.Read)
failed n n' e = omega arith

pub fault_known : (left : ℕ) (c : Container) (is is' : List Interface) (head bytes : List ℕ) (old new : Option (List ℕ)) (f : ContainerFault) (n n' : ℕ) (after : List ℕ → List Answer) → 0 < left → 0 < length head
    → TakesPiece c is (behind head old) new is' bytes (Err f) → CountsReads {A = FoundPiece} ⊥ n n' (Err f)
    → IsRefusal {A = ReaderStep} n n' (Err f) ⊎ IsNext (option_map (pieces left c is) (behind head old)) (Err f) (option_map after new)
fault_known left c is is' head bytes None new f n n' after some there t k = inr tt
fault_known left c is is' head bytes (Some xs) None f n n' after some there t k = absurd t
fault_known left c is is' head bytes (Some xs) (Some ys) fault.Read n n' after some there t (inl e) = inl (failed n n' e)
fault_known left c is is' head bytes (Some xs) (Some ys) fault.Read n n' after some there t (inr e) = absurd e.0
fault_known left c is is' head bytes (Some xs) (Some ys) fault.Memory n n' after some there t k = inl tt
fault_known left c is is' head bytes (Some xs) (Some ys) fault.Magic n n' after some there t k = inr (at_fault left c is (head ++ xs) fault.Magic some (longer head xs there) t)
fault_known left c is is' head bytes (Some xs) (Some ys) fault.Gzip n n' after some there t k = inr (at_fault left c is (head ++ xs) fault.Gzip some (longer head xs there) t)
fault_known left c is is' head bytes (Some xs) (Some ys) (fault.LinkType m) n n' after some there t k = inr (at_fault left c is (head ++ xs) (fault.LinkType m) some (longer head xs there) t)
fault_known left c is is' head bytes (Some xs) (Some ys) fault.Truncated n n' after some there t k = inr (at_fault left c is (head ++ xs) fault.Truncated some (longer head xs there) t)
fault_known left c is is' head bytes (Some xs) (Some ys) fault.TooLong n n' after some there t k = inr (at_fault left c is (head ++ xs) fault.TooLong some (longer head xs there) t)
fault_known left c is is' head bytes (Some xs) (Some ys) fault.Block n n' after some there t k = inr (at_fault left c is (head ++ xs) fault.Block some (longer head xs there) t)
fault_known left c is is' head bytes (Some xs) (Some ys) fault.Time n n' after some there t k = inr (at_fault left c is (head ++ xs) fault.Time some (longer head xs there) t)
fault_known left c is is' head bytes (Some xs) (Some ys) fault.Failed n n' after some there t k = inr (at_fault left c is (head ++ xs) fault.Failed some (longer head xs there) t)
