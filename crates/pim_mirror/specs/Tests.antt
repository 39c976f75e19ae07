-- Tests of the private functions of `fits`, and the conditions of `Fits` in four parts. Lists of
-- deliveries have the oldest first.
use Rattle.std.specs.Prelude.{◌≡◌, ◌≢◌, ◌≤◌, ◌<◌, ◌^◌, ℕ, ◌-◌, ◌==◌, Bool, true, not, ◌&&◌, nat_lt, nat_le, nat_eq}
use Rattle.std.specs.Prelude.{if◌then◌else◌, List, [], ◌∷◌, length, map, Option, None, Some}
use Rattle.std.specs.List.{list_any, AllByRecursion}
use Rattle.std.specs.Cmp.Lexicographic.{pointwise}
use Rattle.pim_addr.specs.Routes.{RouteTable}
use Rattle.pim_form.specs.Messages.{Writing}
use Rattle.pim_fresh.specs.Demanding.{AreDifferent}
use Rattle.pim_fresh.specs.Deliveries.{Delivery, IsTimely, is_delivered}
use Rattle.pim_mirror.specs.Config.{Neighbour, Fresh, port_of, newest_first, end_of}
use Rattle.pim_mirror.specs.Fits.{OthersStay, expiry_of}

-- `passed` milliseconds are less than this time; `None` is without end.
abbrev pub is_shorter : ℕ → Option ℕ → Bool
is_shorter passed None = true
is_shorter passed (Some time) = nat_lt passed time

-- A message that came last at `last`, if it came at all, hasn't expired at this moment.
abbrev pub is_alive : Option ℕ → ℕ → Option ℕ → Bool
is_alive expiry moment None = true
is_alive expiry moment (Some last) = is_shorter (moment - last) expiry

-- The moment at which the message came last, this delivery included.
abbrev pub last_with : ℕ → Option ℕ → Delivery → Option ℕ
last_with message last delivery = if delivery.message == message then Some delivery.moment else last

-- The message hasn't expired at any of these deliveries, nor at the end.
unfoldable pub is_kept : Option ℕ → ℕ → ℕ → Option ℕ → List Delivery → Bool
is_kept expiry end message last [] = is_alive expiry end last
is_kept expiry end message last (delivery ∷ later) =
    is_alive expiry delivery.moment last && is_kept expiry end message (last_with message last delivery) later

-- The moments don't fall, from `previous` on up to the end.
unfoldable pub is_in_order : ℕ → ℕ → List Delivery → Bool
is_in_order end previous [] = nat_le previous end
is_in_order end previous (delivery ∷ later) =
    nat_le previous delivery.moment && is_in_order end delivery.moment later

-- No address is in the list twice.
unfoldable pub are_different : List (List ℕ) → Bool
are_different [] = true
are_different (address ∷ others) = not (list_any (pointwise nat_eq address) others) && are_different others

-- ---- the conditions of `Fits` in four parts

-- No delivery comes after 10^14 ms.
abbrev pub AreEarly : List Delivery → Type 0
AreEarly deliveries = AllByRecursion (λ (delivery : Delivery). delivery.moment ≤ 10 ^ 14) deliveries

-- The conditions on the router: one port with the messages' destination, their sender, the table,
-- and numbers in their ranges.
pub record RouterFits (writing : Writing) (table : RouteTable) (fresh : Fresh) : Type 0 where
  pub one_port : length fresh.ports ≡ 1
  pub address : (port_of fresh).address ≡ writing.upstream
  pub sender : fresh.sender ≡ writing.own
  pub routes : fresh.routes ≡ table
  pub propagation : (port_of fresh).propagation ≤ 32767
  pub limit_least : 1 ≤ fresh.limit
  pub limit_most : fresh.limit ≤ 100000

-- The conditions on the addresses and the number of the other neighbours.
pub record OthersFit (fresh : Fresh) : Type 0 where
  pub count : length fresh.others ≤ 1023
  pub differ : AreDifferent (map (λ (other : Neighbour). other.address) fresh.others)
  pub not_fresh : AllByRecursion (λ (other : Neighbour). other.address ≢ (port_of fresh).address) fresh.others
  pub not_sender : AllByRecursion (λ (other : Neighbour). other.address ≢ fresh.sender) fresh.others

-- The conditions on the deliveries of `count` messages but those on their order and distance.
pub record DeliveriesFit (count : ℕ) (fresh : Fresh) : Type 0 where
  pub listed : AllByRecursion (λ (delivery : Delivery). delivery.message < count) fresh.deliveries
  pub delivered : (message : ℕ) → message < count → is_delivered message (newest_first fresh) ≡ true
  pub early : AreEarly fresh.deliveries

-- The conditions on times: the other neighbours stay up to the final moment, and no message of this
-- holdtime, in seconds, expires by then.
pub record TimesFit (holdtime : ℕ) (fresh : Fresh) : Type 0 where
  pub others_stay : OthersStay fresh (end_of fresh)
  pub timely : IsTimely (expiry_of holdtime) (end_of fresh) (newest_first fresh)
