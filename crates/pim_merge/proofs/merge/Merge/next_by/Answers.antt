use Rattle.pim_merge.proofs.Words.{◌≤◌, ◌∙◌, sym, ap, subst, arith, [], length, most_captured, latest_moment, PayloadLiesIn}
use Rattle.pim_merge.proofs.Words.{earliest_from, head_rank, map, event_seen, tallies_with, clock_after, moment_of, is_past, past_at, rank_of, turn_ranked, head_time, lane_at}
use Rattle.pim_merge.proofs.Taking.{no_turn, by_then, found_within, found_head, same_bytes, stamped, takes_turn, takes_one, reads_none, same_length, keeps_rooms, moves_tally}
use Rattle.pim_merge.proofs.Until.{ends_by, takes_by, passes_turn}
use Rattle.pim_merge.proofs.merge.Merge.next_by.Goals as goal

pub returns-in_default-clause-turn : goal.returns-in_default-clause-turn
returns-in_default-clause-turn g c captures coming =
    let none = no_turn (past_at c.args.last c.args.self.now.clock) c.look.new.self.lanes captures
    c.in_ok-look.ensures.looked
    (sym c.in_default.is ∙ c.earliest.ensures ∙ ap (λ k. earliest_from 0 (map (head_rank (past_at c.args.last k))
    c.look.new.self.lanes)) c.look.ensures.clock) (c.in_ok-look.ensures.coming captures coming) in (
      ends_by c.args.last c.args.self.now.clock (turn_ranked (rank_of (past_at c.args.last c.args.self.now.clock))
          captures) none.0,
      none.1,
    )

pub returns-then-is_past-clause-turn : goal.returns-then-is_past-clause-turn
returns-then-is_past-clause-turn g c captures coming =
    passes_turn c.args.last c.args.self.now.clock c.look.new.self.lanes c.in-Some.capture c.in-Some._rank
    (sym c.in-Some.is ∙ c.earliest.ensures ∙ ap (λ k. earliest_from 0 (map (head_rank (past_at c.args.last k))
    c.look.new.self.lanes)) c.look.ensures.clock)
    (ap (λ k. is_past c.args.last (clock_after k (head_time (lane_at c.in-Some.capture c.look.new.self.lanes)))) (sym c.look.ensures.clock) ∙ (sym c.is_past.ensures ∙ c.if-is_past.true))
    captures c.in_ok-look.ensures.looked (c.in_ok-look.ensures.coming captures coming)

pub is_past-requires : goal.is_past-requires
is_past-requires g c = found_within (past_at c.args.last c.look.new.self.clock) c.look.new.self.lanes
    c.in-Some.capture c.in-Some._rank (sym c.in-Some.is ∙ c.earliest.ensures)

pub take-requires : goal.take-requires
take-requires g c = found_within (past_at c.args.last c.look.new.self.clock) c.look.new.self.lanes c.in-Some.capture
    c.in-Some._rank (sym c.in-Some.is ∙ c.earliest.ensures)

pub unreachable-requires : goal.unreachable-requires
unreachable-requires g c = found_head (past_at c.args.last c.look.new.self.clock) c.look.new.self.lanes
    c.in-Some.capture c.in-Some._rank (sym c.in-Some.is ∙ c.earliest.ensures) (sym c.in_default-take.ensures.head)

pub tick-moment-requires : goal.tick-moment-requires
tick-moment-requires g c = by_then c.in-Some-take.event [] c.time_of.result latest_moment (c.time_of.ensures []) c.in-Some-take.ensures.moment

pub returns-clause-turn : goal.returns-clause-turn
returns-clause-turn g c captures coming =
    let one = takes_turn (past_at c.args.last c.args.self.now.clock) c.look.new.self.lanes c.in-Some.capture
    c.in-Some._rank
    (sym c.in-Some.is ∙ c.earliest.ensures ∙ ap (λ k. earliest_from 0 (map (head_rank (past_at c.args.last k))
    c.look.new.self.lanes)) c.look.ensures.clock) c.tick-moment.new.self.lanes c.in-Some-take.event
    c.in-Some-take.ensures.head (c.tick-moment.ensures.lanes ∙ c.take.ensures.lanes)
    captures c.in_ok-look.ensures.looked (c.in_ok-look.ensures.coming captures coming) in
    let time = stamped (past_at c.args.last c.look.new.self.clock) c.look.new.self.lanes c.in-Some.capture
    c.in-Some._rank (sym c.in-Some.is ∙ c.earliest.ensures) c.tick-moment.new.self.lanes c.in-Some-take.event
    c.in-Some-take.ensures.head (c.tick-moment.ensures.lanes ∙ c.take.ensures.lanes) in
    let by = ap (λ k. is_past c.args.last (clock_after k (head_time (lane_at c.in-Some.capture c.look.new.self.lanes)))) (sym c.look.ensures.clock) ∙ (sym c.is_past.ensures ∙ c.if-is_past.false) in (
      takes_by c.args.last c.args.self.now.clock c.in-Some.capture _ (turn_ranked (rank_of (past_at c.args.last
          c.args.self.now.clock)) captures) one.0 (ap (λ t. is_past c.args.last (clock_after c.args.self.now.clock t))
          (sym time) ∙ by),
      one.1,
    )

pub returns-clause-reads : goal.returns-clause-reads
returns-clause-reads g c =
    reads_none (past_at c.args.last c.look.new.self.clock) c.look.new.self.lanes c.in-Some.capture c.in-Some._rank
    (sym c.in-Some.is ∙ c.earliest.ensures) c.tick-moment.new.self.lanes c.in-Some-take.event
    c.in-Some-take.ensures.head (c.tick-moment.ensures.lanes ∙ c.take.ensures.lanes)
    ∙ c.in_ok-look.ensures.reads

pub returns-clause-clock : goal.returns-clause-clock
returns-clause-clock g c = (
  c.tick-moment.ensures.clock ∙ (ap (λ clock. clock_after clock c.time_of.result) (c.take.ensures.clock ∙ c.look.ensures.clock)
      ∙ ap (clock_after c.args.self.now.clock) (c.time_of.ensures (lane_at c.in-Some.capture c.tick-moment.new.self.lanes).bytes)),
  c.tick-moment.ensures.moment ∙ sym (ap moment_of c.tick-moment.ensures.clock),
)

pub returns-clause-bytes : goal.returns-clause-bytes
returns-clause-bytes g c =
    subst (λ bytes. PayloadLiesIn bytes c.in-Some-take.event × (length bytes ≤ most_captured))
    (sym (same_bytes (past_at c.args.last c.look.new.self.clock) c.look.new.self.lanes c.in-Some.capture
    c.in-Some._rank (sym c.in-Some.is ∙ c.earliest.ensures) c.tick-moment.new.self.lanes c.in-Some-take.event
    c.in-Some-take.ensures.head (c.tick-moment.ensures.lanes ∙ c.take.ensures.lanes)))
    (c.in-Some-take.ensures.payload, c.take.ensures.bytes)

pub returns-clause-capture : goal.returns-clause-capture
returns-clause-capture g c =
    let same = same_length (past_at c.args.last c.look.new.self.clock) c.look.new.self.lanes c.in-Some.capture
    c.in-Some._rank (sym c.in-Some.is ∙ c.earliest.ensures) c.tick-moment.new.self.lanes c.in-Some-take.event
    c.in-Some-take.ensures.head (c.tick-moment.ensures.lanes ∙ c.take.ensures.lanes) in
    omega (
      arith,
      same,
      found_within (past_at c.args.last c.look.new.self.clock) c.look.new.self.lanes
          c.in-Some.capture c.in-Some._rank (sym c.in-Some.is ∙ c.earliest.ensures),
    )

pub returns-clause-lanes : goal.returns-clause-lanes
returns-clause-lanes g c =
    same_length (past_at c.args.last c.look.new.self.clock) c.look.new.self.lanes c.in-Some.capture c.in-Some._rank
    (sym c.in-Some.is ∙ c.earliest.ensures) c.tick-moment.new.self.lanes c.in-Some-take.event
    c.in-Some-take.ensures.head (c.tick-moment.ensures.lanes ∙ c.take.ensures.lanes)
    ∙ c.look.ensures.length

pub returns-clause-nearer : goal.returns-clause-nearer
returns-clause-nearer g c =
    let one = takes_one (past_at c.args.last c.look.new.self.clock) c.look.new.self.lanes c.in-Some.capture
    c.in-Some._rank (sym c.in-Some.is ∙ c.earliest.ensures) c.tick-moment.new.self.lanes c.in-Some-take.event
    c.in-Some-take.ensures.head (c.tick-moment.ensures.lanes ∙ c.take.ensures.lanes) in
    omega (arith, one, c.look.ensures.left)

pub returns-clause-left : goal.returns-clause-left
returns-clause-left g c =
    let one = takes_one (past_at c.args.last c.look.new.self.clock) c.look.new.self.lanes c.in-Some.capture
    c.in-Some._rank (sym c.in-Some.is ∙ c.earliest.ensures) c.tick-moment.new.self.lanes c.in-Some-take.event
    c.in-Some-take.ensures.head (c.tick-moment.ensures.lanes ∙ c.take.ensures.lanes) in
    omega (arith, one, c.look.ensures.left)

pub returns-clause-rooms : goal.returns-clause-rooms
returns-clause-rooms g c =
    keeps_rooms (past_at c.args.last c.look.new.self.clock) c.look.new.self.lanes c.in-Some.capture c.in-Some._rank
    (sym c.in-Some.is ∙ c.earliest.ensures) c.tick-moment.new.self.lanes c.in-Some-take.event
    c.in-Some-take.ensures.head (c.tick-moment.ensures.lanes ∙ c.take.ensures.lanes)
    _ c.look.ensures.rooms

pub returns-clause-tallies : goal.returns-clause-tallies
returns-clause-tallies g c =
    moves_tally (past_at c.args.last c.look.new.self.clock) c.look.new.self.lanes c.in-Some.capture c.in-Some._rank
    (sym c.in-Some.is ∙ c.earliest.ensures) c.tick-moment.new.self.lanes c.in-Some-take.event
    c.in-Some-take.ensures.head (c.tick-moment.ensures.lanes ∙ c.take.ensures.lanes)
    ∙ ap (tallies_with c.in-Some.capture (event_seen (lane_at c.in-Some.capture c.tick-moment.new.self.lanes).bytes c.in-Some-take.event)) c.look.ensures.tallies
