-- The conditions of a mirror, and the tests that tell them.
use Rattle.pim_mirror.proofs.Words.{◌≡◌, ◌≢◌, ◌∙◌, ℕ, ◌<◌, ◌≤◌, ◌^◌, Bool, true, false, ◌==◌, leb, ltb, List, [], ◌∷◌, length}
use Rattle.pim_mirror.proofs.Words.{map, Option, None, refl, sym, ap, subst, arith, length-map, nat_eq, AllByRecursion}
use Rattle.pim_mirror.proofs.Words.{IsDistinct, list_all, list_any, pointwise, leb-true, ltb-true, le-leb, lt-ltb, lifetime}
use Rattle.pim_mirror.proofs.Words.{Delivery, IsShorter, IsTimely, is_delivered, OtherNeighbour, Neighbour, neighbour_seen}
use Rattle.pim_mirror.proofs.Words.{delivery_seen, is_shorter, is_kept, is_in_order, are_different, AreEarly}
use Rattle.pim_mirror.specs.declared.config.Delivery as code
use Rattle.pim_mirror.proofs.Finals.{newest, delivered_newest}
use Rattle.pim_mirror.proofs.Listed.{each_seen_is, all_seen_pass, none_seen_is, none_seen_pass, they_differ, test_tells, other_address, another_address}
use Rattle.pim_mirror.proofs.Timely.{shorter, is_less, timely, in_order, each_kept}

-- a test that failed and has to hold
pub clash : (result test : Bool) → result ≡ test → result ≡ false → test ≡ true → false ≡ true
clash result test is failed holds = sym failed ∙ is ∙ holds

-- a test that was met and must not be
pub clash_met : (result test : Bool) → result ≡ test → result ≡ true → test ≡ false → false ≡ true
clash_met result test is met fails = sym fails ∙ sym is ∙ met

-- ---- the other neighbours

module _ {A : Type 0} (bytes_of : A → List ℕ) where
  same_addresses : (others : List (OtherNeighbour A)) →
      map (λ (neighbour : Neighbour). neighbour.address) (map (neighbour_seen bytes_of) others) ≡ map (λ (other : OtherNeighbour A). bytes_of other.address) others
  same_addresses [] = refl
  same_addresses (other ∷ others) = ap (λ addresses. bytes_of other.address ∷ addresses) (same_addresses others)

  pub differ : (others : List (OtherNeighbour A)) → are_different (map (λ (other : OtherNeighbour A). bytes_of other.address) others) ≡ true →
      IsDistinct (pointwise nat_eq) (map (λ (neighbour : Neighbour). neighbour.address) (map (neighbour_seen bytes_of) others))
  differ others e = they_differ _ (ap are_different (same_addresses others) ∙ e)

  pub differ_test : (others : List (OtherNeighbour A)) →
      IsDistinct (pointwise nat_eq) (map (λ (neighbour : Neighbour). neighbour.address) (map (neighbour_seen bytes_of) others)) →
      are_different (map (λ (other : OtherNeighbour A). bytes_of other.address) others) ≡ true
  differ_test others d = sym (ap are_different (same_addresses others)) ∙ test_tells _ d

  pub few : (others : List (OtherNeighbour A)) → length others ≤ 1023 → length (map (neighbour_seen bytes_of) others) ≤ 1023
  few others short = let same = length-map others (neighbour_seen bytes_of) in omega (arith, same, short)

  pub apart : (others : List (OtherNeighbour A)) (address : List ℕ) →
      list_any (λ (other : OtherNeighbour A). pointwise nat_eq address (bytes_of other.address)) others ≡ false →
      AllByRecursion (λ (neighbour : Neighbour). neighbour.address ≢ address) (map (neighbour_seen bytes_of) others)
  apart others address e =
      none_seen_is (neighbour_seen bytes_of) (λ (other : OtherNeighbour A). pointwise nat_eq address (bytes_of other.address))
      (λ (neighbour : Neighbour). neighbour.address ≢ address) (λ other f. other_address address (bytes_of other.address) f) others e

  pub apart_test : (others : List (OtherNeighbour A)) (address : List ℕ) →
      AllByRecursion (λ (neighbour : Neighbour). neighbour.address ≢ address) (map (neighbour_seen bytes_of) others) →
      list_any (λ (other : OtherNeighbour A). pointwise nat_eq address (bytes_of other.address)) others ≡ false
  apart_test others address all =
      none_seen_pass (neighbour_seen bytes_of) (λ (other : OtherNeighbour A). pointwise nat_eq address (bytes_of other.address))
      (λ (neighbour : Neighbour). neighbour.address ≢ address) (λ other f. another_address address (bytes_of other.address) f) others all

  pub stay : (others : List (OtherNeighbour A)) (end : ℕ) → list_all (λ (other : OtherNeighbour A). is_shorter end (lifetime other.hello.holdtime)) others ≡ true →
      AllByRecursion (λ (neighbour : Neighbour). IsShorter end (lifetime neighbour.hello.holdtime)) (map (neighbour_seen bytes_of) others)
  stay others end e =
      each_seen_is (neighbour_seen bytes_of) (λ (other : OtherNeighbour A). is_shorter end (lifetime other.hello.holdtime))
      (λ (neighbour : Neighbour). IsShorter end (lifetime neighbour.hello.holdtime)) (λ other t. shorter end (lifetime other.hello.holdtime) t) others e

  pub stay_test : (others : List (OtherNeighbour A)) (end : ℕ) →
      AllByRecursion (λ (neighbour : Neighbour). IsShorter end (lifetime neighbour.hello.holdtime)) (map (neighbour_seen bytes_of) others) →
      list_all (λ (other : OtherNeighbour A). is_shorter end (lifetime other.hello.holdtime)) others ≡ true
  stay_test others end all =
      all_seen_pass (neighbour_seen bytes_of) (λ (other : OtherNeighbour A). is_shorter end (lifetime other.hello.holdtime))
      (λ (neighbour : Neighbour). IsShorter end (lifetime neighbour.hello.holdtime)) (λ other t. is_less end (lifetime other.hello.holdtime) t) others all

-- ---- the deliveries

pub listed : (deliveries : List code.Delivery) (count : ℕ) → list_all (λ (delivery : code.Delivery). ltb delivery.message count) deliveries ≡ true →
    AllByRecursion (λ (delivery : Delivery). delivery.message < count) (map delivery_seen deliveries)
listed deliveries count e =
    each_seen_is delivery_seen (λ (delivery : code.Delivery). ltb delivery.message count) (λ (delivery : Delivery). delivery.message < count)
    (λ delivery t. ltb-true delivery.message count t) deliveries e

pub named_test : (deliveries : List code.Delivery) (count : ℕ) → AllByRecursion (λ (delivery : Delivery). delivery.message < count) (map delivery_seen deliveries) →
    list_all (λ (delivery : code.Delivery). ltb delivery.message count) deliveries ≡ true
named_test deliveries count all =
    all_seen_pass delivery_seen (λ (delivery : code.Delivery). ltb delivery.message count) (λ (delivery : Delivery). delivery.message < count)
    (λ delivery t. lt-ltb delivery.message count t) deliveries all

pub early : (deliveries : List code.Delivery) → list_all (λ (delivery : code.Delivery). leb delivery.moment (10 ^ 14)) deliveries ≡ true → AreEarly (map delivery_seen deliveries)
early deliveries e =
    each_seen_is delivery_seen (λ (delivery : code.Delivery). leb delivery.moment (10 ^ 14)) (λ (delivery : Delivery). delivery.moment ≤ 10 ^ 14)
    (λ delivery t. leb-true delivery.moment (10 ^ 14) t) deliveries e

pub early_test : (deliveries : List code.Delivery) → AreEarly (map delivery_seen deliveries) → list_all (λ (delivery : code.Delivery). leb delivery.moment (10 ^ 14)) deliveries ≡ true
early_test deliveries all =
    all_seen_pass delivery_seen (λ (delivery : code.Delivery). leb delivery.moment (10 ^ 14)) (λ (delivery : Delivery). delivery.moment ≤ 10 ^ 14)
    (λ delivery t. le-leb delivery.moment (10 ^ 14) t) deliveries all

pub delivered : (deliveries : List code.Delivery) (count : ℕ) →
    ((message : ℕ) → message < count → list_any (λ (delivery : code.Delivery). delivery.message == message) deliveries ≡ true) →
    (message : ℕ) → message < count → is_delivered message (newest deliveries) ≡ true
delivered deliveries count each message below = delivered_newest message deliveries ∙ each message below

pub delivered_test : (deliveries : List code.Delivery) (count : ℕ) →
    ((message : ℕ) → message < count → is_delivered message (newest deliveries) ≡ true) →
    (message : ℕ) → message < count → list_any (λ (delivery : code.Delivery). delivery.message == message) deliveries ≡ true
delivered_test deliveries count each message below = sym (delivered_newest message deliveries) ∙ each message below

-- ---- the same at an end, and an expiry time, that are told by a call

module _ {A : Type 0} (bytes_of : A → List ℕ) (others : List (OtherNeighbour A)) where
  pub at_address : (address other : List ℕ) → address ≡ other →
      list_any (λ (this : OtherNeighbour A). pointwise nat_eq other (bytes_of this.address)) others ≡ false →
      list_any (λ (this : OtherNeighbour A). pointwise nat_eq address (bytes_of this.address)) others ≡ false
  at_address address other same e =
      subst (λ (a : List ℕ). list_any (λ (this : OtherNeighbour A). pointwise nat_eq a (bytes_of this.address)) others ≡ false) (sym same) e

  pub stay_at : (end last : ℕ) → end ≡ last → list_all (λ (other : OtherNeighbour A). is_shorter end (lifetime other.hello.holdtime)) others ≡ true →
      AllByRecursion (λ (neighbour : Neighbour). IsShorter last (lifetime neighbour.hello.holdtime)) (map (neighbour_seen bytes_of) others)
  stay_at end last same e =
      subst (λ (n : ℕ). AllByRecursion (λ (neighbour : Neighbour). IsShorter n (lifetime neighbour.hello.holdtime)) (map (neighbour_seen bytes_of) others)) same (stay bytes_of others end e)

  pub stay_test_at : (end last : ℕ) → end ≡ last →
      AllByRecursion (λ (neighbour : Neighbour). IsShorter last (lifetime neighbour.hello.holdtime)) (map (neighbour_seen bytes_of) others) →
      list_all (λ (other : OtherNeighbour A). is_shorter end (lifetime other.hello.holdtime)) others ≡ true
  stay_test_at end last same all =
      stay_test bytes_of others end
      (subst (λ (n : ℕ). AllByRecursion (λ (neighbour : Neighbour). IsShorter n (lifetime neighbour.hello.holdtime)) (map (neighbour_seen bytes_of) others)) (sym same) all)

module _ (deliveries : List code.Delivery) (end last : ℕ) where
  pub timely_at : (count : ℕ) (expiry time : Option ℕ) → expiry ≡ time → end ≡ last → is_in_order end 0 (map delivery_seen deliveries) ≡ true →
      AllByRecursion (λ (delivery : Delivery). delivery.message < count) (map delivery_seen deliveries) →
      ((message : ℕ) → message < count → is_kept expiry end message None (map delivery_seen deliveries) ≡ true) → IsTimely time last (newest deliveries)
  timely_at count expiry time same ends order listed each =
      subst (λ (t : Option ℕ). IsTimely t last (newest deliveries)) same
      (subst (λ (n : ℕ). IsTimely expiry n (newest deliveries)) ends (timely expiry end count (map delivery_seen deliveries) order listed each))

  pub order_test_at : (time : Option ℕ) → end ≡ last → IsTimely time last (newest deliveries) → is_in_order end 0 (map delivery_seen deliveries) ≡ true
  order_test_at time ends t = in_order time end (map delivery_seen deliveries) (subst (λ (n : ℕ). IsTimely time n (newest deliveries)) (sym ends) t)

  pub kept_test_at : (count : ℕ) (expiry time : Option ℕ) → expiry ≡ time → end ≡ last → IsTimely time last (newest deliveries) →
      (message : ℕ) → message < count → is_kept expiry end message None (map delivery_seen deliveries) ≡ true
  kept_test_at count expiry time same ends t message below =
      each_kept expiry end (map delivery_seen deliveries)
      (subst (λ (x : Option ℕ). IsTimely x end (newest deliveries)) (sym same) (subst (λ (n : ℕ). IsTimely time n (newest deliveries)) (sym ends) t)) message
