-- The conditions on a fresh router and its deliveries under which it mirrors the sender, given room
-- for the records (RFC 7761, 4.3 and 4.5).
use Rattle.std.specs.Prelude.{◌≡◌, ◌≢◌, ℕ, ◌≤◌, ◌<◌, ◌^◌, ◌*◌, ◌==◌, true, List, length, map, Option, None, Some}
use Rattle.std.specs.Prelude.{if◌then◌else◌}
use Rattle.std.specs.List.{AllByRecursion}
use Rattle.pim_addr.specs.Routes.{RouteTable}
use Rattle.pim_hello.specs.Neighbours.{lifetime}
use Rattle.pim_form.specs.Messages.{Writing}
use Rattle.pim_fresh.specs.Demanding.{AreDifferent}
use Rattle.pim_fresh.specs.Deliveries.{Delivery, IsShorter, IsTimely, is_delivered}
use Rattle.pim_mirror.specs.Config.{Neighbour, Fresh, port_of, newest_first, end_of}

-- The duration of the Expiry Timer by J/P_HoldTime in seconds, in milliseconds; `None` is without
-- end, for 65,535 (RFC 7761, 4.9.5 and 4.11).
abbrev pub expiry_of : ℕ → Option ℕ
expiry_of holdtime = if holdtime == 65535 then None else Some (holdtime * 1000)

-- At this moment each neighbour beside the sender has time left (RFC 7761, 4.3.2).
abbrev pub OthersStay : Fresh → ℕ → Type 0
OthersStay fresh last =
    AllByRecursion (λ (other : Neighbour). IsShorter last (lifetime other.hello.holdtime)) fresh.others

-- The conditions on a fresh router for messages of this writer under this route table. A time that
-- ends exactly at the final moment is too short. Nothing is said of room for the records, nor of
-- what the messages are.
pub record Fits (messages : List (List ℕ)) (writing : Writing) (table : RouteTable) (fresh : Fresh) : Type 0 where
  pub one_port : length fresh.ports ≡ 1
  -- The messages are for the fresh router and come from its sender, and both have one table.
  pub address : (port_of fresh).address ≡ writing.upstream
  pub sender : fresh.sender ≡ writing.own
  pub routes : fresh.routes ≡ table
  -- The propagation delay and the limit of records are in their ranges.
  pub propagation : (port_of fresh).propagation ≤ 32767
  pub limit_least : 1 ≤ fresh.limit
  pub limit_most : fresh.limit ≤ 100000
  -- The other neighbours have different addresses, which are neither the router's nor the sender's,
  -- and the port has room for them.
  pub others_differ : AreDifferent (map (λ (other : Neighbour). other.address) fresh.others)
  pub others_are_not_fresh : AllByRecursion
      (λ (other : Neighbour). other.address ≢ (port_of fresh).address) fresh.others
  pub others_are_not_sender : AllByRecursion (λ (other : Neighbour). other.address ≢ fresh.sender) fresh.others
  pub others_count : length fresh.others ≤ 1023
  -- At the final moment each of them has time left.
  pub others_stay : OthersStay fresh (end_of fresh)
  -- Each delivery is of a message of the list, each message is delivered, and no delivery comes
  -- after 10^14 ms.
  pub listed : AllByRecursion (λ (delivery : Delivery). delivery.message < length messages) fresh.deliveries
  pub delivered : (message : ℕ) → message < length messages → is_delivered message (newest_first fresh) ≡ true
  pub early : AllByRecursion (λ (delivery : Delivery). delivery.moment ≤ 10 ^ 14) fresh.deliveries
  -- The moments don't fall. After each delivery of a message its next delivery, or the final moment
  -- where there is none, comes before the message's records expire.
  pub timely : IsTimely (expiry_of writing.holdtime) (end_of fresh) (newest_first fresh)
