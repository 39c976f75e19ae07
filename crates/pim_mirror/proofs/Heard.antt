-- What a router hears in a row: deliveries, and a fresh router's whole course.
use Rattle.pim_mirror.proofs.Words.{◌≡◌, ◌≤◌, ◌<◌, ◌+◌, ◌^◌, ℕ, zero, suc, List, [], ◌∷◌, ◌++◌, length, map, drop}
use Rattle.pim_mirror.proofs.Words.{Option, None, Some, Result, Ok, Err, slice_index_or, refl, sym, subst, arith}
use Rattle.pim_mirror.proofs.Words.{add-one, AllByRecursion, flat_map, slice_get, AddressFamily, all_routers, runs_to}
use Rattle.pim_mirror.proofs.Words.{takes, IsCourse, CourseGoesOn, EveryListHasACourse, RouterState, new_router}
use Rattle.pim_mirror.proofs.Words.{Delivery, Fresh, delivery_seen, neighbours, setup_of, end_of, AreEarly, MirrorFault}
use Rattle.pim_mirror.specs.declared.config.Delivery as code
use Rattle.pim_mirror.specs.declared.mirroring.MirrorFault.TheVariants as fault
use Rattle.pim_mirror.specs.Mirror.{Passes, PassesHellos, HasReached, Mirrors, delivery_inputs, inputs_of}
use Rattle.pim_mirror.proofs.Ways.{reached_passes, then_passes, then_stops}

-- ---- the message of a number

pub no_bytes_at : (messages : List (List ℕ)) (i : ℕ) → None ≡ slice_get messages i → [] ≡ slice_index_or messages i []
no_bytes_at [] i e = refl
no_bytes_at (m ∷ messages) zero e = absurd (some e)
  where
    some : ◌≡◌ {A = Option (List ℕ)} None (Some m) → ⊥
    some f = cc
no_bytes_at (m ∷ messages) (suc i) e = no_bytes_at messages i e

abbrev IsShort : List ℕ → Type 0
IsShort message = length message < 2 ^ 32

pub each_short : (messages : List (List ℕ)) → ((i : ℕ) → i < length messages → IsShort (slice_index_or messages i [])) → AllByRecursion IsShort messages
each_short [] each = tt
each_short (m ∷ messages) each = (each 0 (omega (arith)), each_short messages (λ i within. each (suc i) (omega (arith, within))))

-- ---- deliveries

pub left_from : {X : Type 0} (xs : List X) (i : ℕ) (d : X) → i < length xs → drop i xs ≡ slice_index_or xs i d ∷ drop (suc i) xs
left_from [] i d within = absurd (omega (arith, within))
left_from (x ∷ xs) zero d within = refl
left_from (x ∷ xs) (suc i) d within = left_from xs i d (omega (arith, within))

pub left_is : {X : Type 0} (xs : List X) (i : ℕ) (d : X) → i < length xs → drop i xs ≡ slice_index_or xs i d ∷ drop (i + 1) xs
left_is xs i d within = subst (λ (k : ℕ). drop i xs ≡ slice_index_or xs i d ∷ drop k xs) (sym (add-one i)) (left_from xs i d within)

pub none_left : {X : Type 0} (xs : List X) (i : ℕ) → length xs ≤ i → drop i xs ≡ []
none_left [] zero all = refl
none_left [] (suc i) all = refl
none_left (x ∷ xs) zero all = absurd (omega (arith, all))
none_left (x ∷ xs) (suc i) all = none_left xs i (omega (arith, all))

pub early_at : (deliveries : List code.Delivery) (i : ℕ) (d : code.Delivery) → AreEarly (map delivery_seen deliveries) → i < length deliveries →
    (slice_index_or deliveries i d).moment ≤ 10 ^ 14
early_at [] i d early within = absurd (omega (arith, within))
early_at (x ∷ xs) zero d early within = early.0
early_at (x ∷ xs) (suc i) d early within = early_at xs i d early.1 (omega (arith, within))

module _ (goes_on : CourseGoesOn) (every : EveryListHasACourse) (family : AddressFamily) where
  pub one_heard : (messages : List (List ℕ)) (sender : List ℕ) (delivery : Delivery) (bytes : List ℕ) (old between now : RouterState)
      (result : Result (Unit {0}) MirrorFault) → bytes ≡ slice_index_or messages delivery.message [] → HasReached delivery.moment old between →
      Passes family (takes (record { port = 0; source = sender; destination = all_routers family; bytes = bytes }) ∷ []) between result now →
      Passes family (delivery_inputs family messages sender delivery) old result now
  one_heard messages sender delivery bytes old between now result same reached took =
      then_passes goes_on every family (runs_to delivery.moment ∷ [])
      (takes (record { port = 0; source = sender; destination = all_routers family; bytes = slice_index_or messages delivery.message [] }) ∷ []) old between now result
      (reached_passes family delivery.moment old between reached)
      (subst (λ (bs : List ℕ). Passes family (takes (record { port = 0; source = sender; destination = all_routers family; bytes = bs }) ∷ []) between result now) same took)

  -- this delivery, which stands first of those that are left, and what is left behind it
  pub more_heard : (messages : List (List ℕ)) (sender : List ℕ) (left behind : List code.Delivery) (delivery : code.Delivery) (old between now : RouterState)
      (result : Result (Unit {0}) MirrorFault) → left ≡ delivery ∷ behind →
      Passes family (delivery_inputs family messages sender (delivery_seen delivery)) old (Ok tt) between →
      Passes family (flat_map (delivery_inputs family messages sender) (map delivery_seen behind)) between result now →
      Passes family (flat_map (delivery_inputs family messages sender) (map delivery_seen left)) old result now
  more_heard messages sender left behind delivery old between now result split one more =
      subst (λ (all : List code.Delivery). Passes family (flat_map (delivery_inputs family messages sender) (map delivery_seen all)) old result now) (sym split)
      (then_passes goes_on every family (delivery_inputs family messages sender (delivery_seen delivery))
      (flat_map (delivery_inputs family messages sender) (map delivery_seen behind)) old between now result one more)

  pub stopped_there : (messages : List (List ℕ)) (sender : List ℕ) (left behind : List code.Delivery) (delivery : code.Delivery) (old now : RouterState)
      (reported : MirrorFault) → left ≡ delivery ∷ behind →
      Passes family (delivery_inputs family messages sender (delivery_seen delivery)) old (Err reported) now →
      Passes family (flat_map (delivery_inputs family messages sender) (map delivery_seen left)) old (Err reported) now
  stopped_there messages sender left behind delivery old now reported split one =
      subst (λ (all : List code.Delivery). Passes family (flat_map (delivery_inputs family messages sender) (map delivery_seen all)) old (Err reported) now) (sym split)
      (then_stops goes_on every family (delivery_inputs family messages sender (delivery_seen delivery))
      (flat_map (delivery_inputs family messages sender) (map delivery_seen behind)) old now reported one)

  -- ---- the whole course

  pub mirror_ends : (messages : List (List ℕ)) (fresh : Fresh) (met now : RouterState) →
      PassesHellos family (neighbours fresh) (new_router (setup_of fresh)) met →
      Passes family (flat_map (delivery_inputs family messages fresh.sender) fresh.deliveries ++ runs_to (end_of fresh) ∷ []) met (Ok tt) now →
      Mirrors family messages fresh (Ok now)
  mirror_ends messages fresh met now hellos deliveries =
      let all = then_passes goes_on every family (map (λ packet. takes packet) hellos.hellos)
      (flat_map (delivery_inputs family messages fresh.sender) fresh.deliveries ++ runs_to (end_of fresh) ∷ [])
      (new_router (setup_of fresh)) met now (Ok tt) hellos.passes deliveries in record {
        hellos = hellos.hellos;
        are_hellos = hellos.are_hellos;
        reported = all.reported;
        course = subst (λ (s : RouterState). IsCourse family (inputs_of family messages fresh hellos.hellos) all.reported (new_router (setup_of fresh)) s) (sym all.passed.1) all.course;
        needed_is = all.passed.0;
      }

  pub mirror_stops : (messages : List (List ℕ)) (fresh : Fresh) (met now : RouterState) (reported : MirrorFault) →
      PassesHellos family (neighbours fresh) (new_router (setup_of fresh)) met →
      Passes family (flat_map (delivery_inputs family messages fresh.sender) fresh.deliveries ++ runs_to (end_of fresh) ∷ []) met (Err reported) now →
      Mirrors family messages fresh (Err reported)
  mirror_stops messages fresh met now fault.Memory hellos deliveries = tt
  mirror_stops messages fresh met now (fault.Full needed) hellos deliveries =
      let all = then_passes goes_on every family (map (λ packet. takes packet) hellos.hellos)
      (flat_map (delivery_inputs family messages fresh.sender) fresh.deliveries ++ runs_to (end_of fresh) ∷ [])
      (new_router (setup_of fresh)) met now (Err (fault.Full needed)) hellos.passes deliveries in (
        all.after,
        record {
          hellos = hellos.hellos;
          are_hellos = hellos.are_hellos;
          reported = all.reported;
          course = all.course;
          needed_is = all.passed;
        },
      )
