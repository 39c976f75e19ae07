use Rattle.pim_down.proofs.Words.{ℕ, ◌≡◌, ◌+◌, ◌++◌, ◌∷◌, [], List, ap, sym, subst, ◌∙◌, map, take, drop, arith, Record, Event, key_of, on_own, on_rpts, act, StayButListed, entry_of_event, IsAscending, each_changed, start_seen, records_seen, event_seen, is_pruned_by}
use Rattle.pim_down.proofs.Each.{act_star, act_other}
use Rattle.pim_down.proofs.Listing.{seen_more, none_seen}
use Rattle.pim_down.proofs.Map.{IsAscending-changed}
use Rattle.pim_down.proofs.Stays.{stay_more, stay_none, stay_own}
use Rattle.pim_down.proofs.hearing.listed.act_listed.Goals as goal

pub returns-then-not-is_star_join-clause-last : goal.returns-then-not-is_star_join-clause-last
returns-then-not-is_star_join-clause-last g c =
    let bytes_of = g.F.Family.bytes_of in
    let port = c.args.arrival.port in
    let start = start_seen c.args.arrival.start in
    let event = event_seen bytes_of c.args.this.event in
    let seen = records_seen bytes_of c.args.records.now.items in
    let new = records_seen bytes_of c.act_on_own.new.records.items in
    let events = c.args.events.now in
    let i = c.args.this.index in
    let behind = c.args.last.behind in
    let named = map (event_seen bytes_of) (drop behind (take i events)) in
    let acted : new ≡ act port start event seen = c.act_on_own.ensures.records ∙ sym (act_other port start event seen (sym (c.is_star_join.ensures bytes_of) ∙ c.if-not-is_star_join.true)) in
    let more = seen_more bytes_of events i behind c.args.this.event c.requires.last.0 c.requires.within c.requires.event in (
      omega (arith, c.requires.last.0),
      λ group is.
          subst (λ (es : List Event). StayButListed port (bytes_of group) es new) (sym more)
          (subst (λ (rs : List (Record (List ℕ))). StayButListed port (bytes_of group) (named ++ event ∷ []) rs) (sym acted)
          (stay_more port start event seen c.requires.ascending (bytes_of group) named (c.requires.last.1 group is))),
    )

pub join_listed-requires-clause-ascending : goal.join_listed-requires-clause-ascending
join_listed-requires-clause-ascending g c =
    let bytes_of = g.F.Family.bytes_of in
    let event = event_seen bytes_of c.args.this.event in
    subst IsAscending (sym c.act_on_own.ensures.records) (IsAscending-changed (key_of c.args.arrival.port event) (on_own event.joins event.what (start_seen c.args.arrival.start)) (records_seen bytes_of c.args.records.now.items) c.requires.ascending)

pub join_listed-requires-clause-stay : goal.join_listed-requires-clause-stay
join_listed-requires-clause-stay g c other is =
    let bytes_of = g.F.Family.bytes_of in
    let port = c.args.arrival.port in
    let event = event_seen bytes_of c.args.this.event in
    let named = map (event_seen bytes_of) (drop c.args.last.behind (take c.args.this.index c.args.events.now)) in
    let star = sym (c.is_star_join.ensures bytes_of) ∙ c.if-not-is_star_join.false in
    rw (c.split_at-2.ensures.back, c.split_at.ensures.front) (stay_own port (bytes_of other) (λ key. is_pruned_by port (bytes_of other) (map entry_of_event named) key) event (on_own event.joins event.what (start_seen c.args.arrival.start)) (records_seen bytes_of c.args.records.now.items) (records_seen bytes_of c.act_on_own.new.records.items) star c.act_on_own.ensures.records (c.requires.last.1 other is))

pub returns-clause-records : goal.returns-clause-records
returns-clause-records g c =
    let bytes_of = g.F.Family.bytes_of in
    let event = event_seen bytes_of c.args.this.event in
    c.join_listed.ensures.records ∙ ap (each_changed (on_rpts c.args.arrival.port event.group)) c.act_on_own.ensures.records
    ∙ sym (act_star c.args.arrival.port (start_seen c.args.arrival.start) event (records_seen bytes_of c.args.records.now.items) (sym (c.is_star_join.ensures bytes_of) ∙ c.if-not-is_star_join.false))

pub returns-clause-last : goal.returns-clause-last
returns-clause-last g c =
    let bytes_of = g.F.Family.bytes_of in
    let port = c.args.arrival.port in
    let start = start_seen c.args.arrival.start in
    let event = event_seen bytes_of c.args.this.event in
    let seen = records_seen bytes_of c.args.records.now.items in
    let new = records_seen bytes_of c.join_listed.new.records.items in
    let star = sym (c.is_star_join.ensures bytes_of) ∙ c.if-not-is_star_join.false in
    let acted : new ≡ act port start event seen = c.join_listed.ensures.records ∙ ap (each_changed (on_rpts port event.group)) c.act_on_own.ensures.records ∙ sym (act_star port start event seen star) in (
      omega arith,
      λ group is.
          let same : c.args.this.event.group ≡ group = cc in
          subst (λ (other : List ℕ). StayButListed port other (map (event_seen bytes_of) (drop (c.args.this.index + 1) (take (c.args.this.index + 1) c.args.events.now))) new) (ap bytes_of same)
          (subst (λ (es : List Event). StayButListed port event.group es new) (sym (none_seen bytes_of c.args.events.now (c.args.this.index + 1)))
          (subst (λ (rs : List (Record (List ℕ))). StayButListed port event.group [] rs) (sym acted) (stay_none port start event seen c.requires.ascending star))),
    )
