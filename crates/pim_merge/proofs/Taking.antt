-- The turn that takes the head that was found.
use Rattle.pim_merge.proofs.Words.{◌≡◌, ◌<◌, ◌≤◌, ◌∙◌, [], ℕ, List, Option, None, Some, Ok, length, get_or, set, map, refl, sym}
use Rattle.pim_merge.proofs.Words.{ap, subst, arith, AllByRecursion, map-set, set-get_or, get_or-map, get_or-set_same}
use Rattle.pim_merge.proofs.Words.{get_or_default, length-set, Bool, Event, Packet, Skipped, End, Why, Cut, NotIp, BadHeader, NotPim}
use Rattle.pim_merge.proofs.Words.{Fragment, Part, NoTime, LinkType, NotChosen, Copy, CutShort, NextFile, OfLink, Incomplete, EventSeen, packet, skipped, ended}
use Rattle.pim_merge.proofs.Words.{Answer, in_front, event_seen, IsBy, behind_head, event_time, time_by, event_rank}
use Rattle.pim_merge.proofs.Words.{earliest_from, taken, rank_of, turn_ranked, takes, ends, after_turn, LaneState, with_head, IsComing, IsLooked}
use Rattle.pim_merge.proofs.Words.{rank_at, head_rank, time_at, head_time, without_head, counted, records_to_come, no_lane}
use Rattle.pim_merge.proofs.Words.{lane_at, failures_of, KeepRooms, tallies_of, tallies_with, AddressFamily}
use Rattle.pim_merge.specs.Lane.{with_census, census_at}
use Rattle.std.specs.Option.{option_map, IfSome}
use Rattle.pim_merge.proofs.Tallies.{tallies_moved}
use Rattle.pim_merge.proofs.Looking.{one_comes, set_comes, total_with, set_keeps}
use Rattle.pim_merge.proofs.Turning.{some_list, told_comes, turns_by_ranks, Stands, found_stands}

-- no head is taken where all captures are at their ends
pub no_turn : (past : ℕ → Bool) (lanes : List LaneState) (captures : List (List Answer)) →
    AllByRecursion IsLooked lanes → None ≡ earliest_from 0 (map (head_rank past) lanes) → IsComing lanes captures
    → (turn_ranked (rank_of past) captures ≡ ends) × IsComing lanes captures
no_turn past lanes captures looked none coming = (turns_by_ranks past lanes captures None looked coming none, coming)

-- what is behind a head that is a record
behind_comes : (past : ℕ → Bool) (reported : EventSeen) (behind : Option (List Answer)) (capture : List Answer)
    (rank : ℕ) → event_rank past reported ≡ Some rank → option_map (in_front (Ok reported)) behind ≡ Some capture
    → behind ≡ Some (behind_head capture)
behind_comes past reported None capture rank ranked comes = absurd cc
behind_comes past (packet millis frame datagram) (Some later) capture rank ranked comes = ap (λ o. Some (behind_head
    (some_list o))) comes
behind_comes past (skipped millis why) (Some later) capture rank ranked comes = ap (λ o. Some (behind_head
    (some_list o))) comes
behind_comes past ended (Some later) capture rank ranked comes = absurd cc

counts_one : (past : ℕ → Bool) (reported : EventSeen) (rank : ℕ) → event_rank past reported ≡ Some rank →
    counted (Some reported) ≡ 1
counts_one past (packet millis frame datagram) rank ranked = refl
counts_one past (skipped millis why) rank ranked = refl
counts_one past ended rank ranked = absurd cc

skipped_by : (why : Why) (millis latest : ℕ) → millis ≤ latest → IfSome (time_by why millis) (λ time. time ≤ latest)
skipped_by Cut millis latest by = by
skipped_by NotIp millis latest by = by
skipped_by BadHeader millis latest by = by
skipped_by NotPim millis latest by = by
skipped_by Fragment millis latest by = by
skipped_by NoTime millis latest by = tt
skipped_by (LinkType number) millis latest by = by
skipped_by (NotChosen link) millis latest by = tt
skipped_by CutShort millis latest by = tt
skipped_by Copy millis latest by = tt
skipped_by Part millis latest by = by
skipped_by NextFile millis latest by = tt
skipped_by (OfLink link) millis latest by = tt
skipped_by (Incomplete packets) millis latest by = tt

-- the time of a record is within the bound of its event
pub by_then : (event : Event) (bytes : List ℕ) (time : Option ℕ) (latest : ℕ) → time ≡ event_time (event_seen bytes event) → IsBy latest event → IfSome time (λ it. it ≤ latest)
by_then (Packet millis ip) bytes time latest is by = subst (λ it. IfSome it (λ t. t ≤ latest)) (sym is) by
by_then (Skipped millis why) bytes time latest is by = subst (λ it. IfSome it (λ t. t ≤ latest)) (sym is) (skipped_by why millis latest by)
by_then End bytes time latest is by = subst (λ it. IfSome it (λ t. t ≤ latest)) (sym is) tt

-- the head that was found is that of a capture, and this is its rank
module _ (past : ℕ → Bool) (lanes : List LaneState) (capture rank : ℕ) (found : Some (capture, rank) ≡ earliest_from
    0 (map (head_rank past) lanes)) where
  stands : Stands past 0 lanes (capture, rank)
  stands = found_stands past 0 lanes (capture, rank) (sym found)

  pub found_within : capture < length lanes
  found_within = omega (arith, stands.is, stands.within)

  pub found_rank : head_rank past (lane_at capture lanes) ≡ Some rank
  found_rank = let same : stands.place ≡ capture = omega (arith, stands.is) in subst (λ n. head_rank past (get_or
      lanes n no_lane) ≡ Some rank) same (stands.there no_lane)

  pub found_head : (lane_at capture lanes).head ≡ None → ⊥
  found_head none = let ranked : rank_at past None ≡ Some rank = subst (λ h. rank_at past h ≡ Some rank) none
      found_rank in cc

  module _ (new : List LaneState) (event : Event) (head : option_map (event_seen (lane_at capture lanes).bytes) (Some event) ≡ (lane_at capture lanes).head)
      (is : new ≡ set lanes capture (without_head (lane_at capture lanes))) where
    pub same_bytes : (lane_at capture new).bytes ≡ (lane_at capture lanes).bytes
    same_bytes = ap (λ l. (lane_at capture l).bytes) is ∙ ap (λ (l : LaneState). l.bytes) (get_or-set_same lanes capture (without_head (lane_at capture lanes)) no_lane found_within)

    told_head : (lane_at capture lanes).head ≡ Some (event_seen (lane_at capture new).bytes event)
    told_head = sym (ap (λ bytes. Some (event_seen bytes event)) same_bytes ∙ head)

    pub ranked : event_rank past (event_seen (lane_at capture new).bytes event) ≡ Some rank
    ranked = sym (ap (rank_at past) told_head) ∙ found_rank

    -- its time
    pub stamped : head_time (lane_at capture lanes) ≡ event_time (event_seen (lane_at capture new).bytes event)
    stamped = ap time_at told_head

    comes : (captures : List (List Answer)) → IsComing lanes captures → option_map (in_front (Ok (event_seen (lane_at capture new).bytes event))) (lane_at capture lanes).behind ≡ Some (get_or captures capture [])
    comes captures coming = ap (λ h. with_head h (lane_at capture lanes).behind) (sym told_head) ∙ one_comes lanes captures capture no_lane [] found_within coming

    pub takes_turn : (captures : List (List Answer)) → AllByRecursion IsLooked lanes → IsComing lanes captures
        → (turn_ranked (rank_of past) captures ≡ takes capture (event_seen (lane_at capture new).bytes event)) ×
        IsComing new (after_turn capture captures)
    takes_turn captures looked coming = (
      turns_by_ranks past lanes captures (Some (capture, rank)) looked coming found
          ∙ ap (taken capture) (told_comes _ _ _ (comes captures coming)),
      subst (λ l. IsComing l (after_turn capture captures)) (sym is)
          (set_comes lanes captures capture (without_head (lane_at capture lanes)) (behind_head (get_or captures
          capture [])) coming (behind_comes past _ _ _ rank ranked (comes captures coming))),
    )

    pub takes_one : records_to_come new < records_to_come lanes
    takes_one =
        let total = total_with lanes capture (without_head (lane_at capture lanes)) no_lane found_within in
        let one : counted (lane_at capture lanes).head ≡ 1 = ap counted told_head ∙ counts_one past _ rank ranked in
        let same : records_to_come new ≡ records_to_come (set lanes capture (without_head (lane_at capture lanes))) = ap records_to_come is in
        omega (arith, total, one, same)

    pub reads_none : failures_of new ≡ failures_of lanes
    reads_none = ap failures_of is ∙ (map-set (λ (l : LaneState). l.failures) lanes capture (without_head (lane_at capture lanes))
        ∙ (ap (set (failures_of lanes) capture) (sym (get_or-map (λ (l : LaneState). l.failures) lanes capture no_lane 0 found_within)) ∙ set-get_or (failures_of lanes) capture 0))

    pub moves_tally : tallies_of new ≡ tallies_with capture (event_seen (lane_at capture new).bytes event) (tallies_of lanes)
    moves_tally = ap tallies_of is ∙ tallies_moved lanes capture _ told_head

    pub same_length : length new ≡ length lanes
    same_length = ap length is ∙ length-set lanes capture (without_head (lane_at capture lanes))

    pub keeps_rooms : (old : List LaneState) → KeepRooms old lanes → KeepRooms old new
    keeps_rooms old rooms = subst (KeepRooms old) (sym is) (set_keeps old lanes capture (without_head (lane_at capture lanes)) found_within rooms (rooms capture))

-- ---- the head of a lane that was taken

pub lane_there : (inside lanes : List LaneState) (number : ℕ) (lane : LaneState) → number < length lanes →
    lane ≡ get_or inside number lane → inside ≡ lanes → lane ≡ lane_at number lanes
lane_there inside lanes number lane below is same =
    is ∙ ap (λ l. get_or l number lane) same ∙ get_or_default lanes number lane no_lane below

-- a census of the capture begins
pub census_there : (inside lanes : List LaneState) (number : ℕ) (lane begun : LaneState) (family : AddressFamily) (own : List ℕ) → number < length lanes →
    lane ≡ get_or inside number lane → inside ≡ lanes → begun ≡ with_census family own lane → set inside number begun ≡ census_at family own number lanes
census_there inside lanes number lane begun family own below is same made =
    ap (λ (l : List LaneState). set l number begun) same
    ∙ ap (set lanes number) (made ∙ ap (with_census family own) (lane_there inside lanes number lane below is same))

pub bytes_of_lane : (there lane taken : LaneState) → lane ≡ there → taken ≡ without_head lane → taken.bytes ≡ there.bytes
bytes_of_lane there lane taken same rest =
    ap (λ (l : LaneState). l.bytes) rest ∙ ap (λ (l : LaneState). l.bytes) same

pub head_of_lane : (there lane taken : LaneState) (result : Option Event) → lane ≡ there →
    option_map (event_seen taken.bytes) result ≡ lane.head → taken ≡ without_head lane →
    option_map (event_seen there.bytes) result ≡ there.head
head_of_lane there lane taken result same head rest =
    ap (λ b. option_map (event_seen b) result) (sym (bytes_of_lane there lane taken same rest)) ∙ head
    ∙ ap (λ (l : LaneState). l.head) same
