use Rattle.pim_down.proofs.Words.{◌≡◌, ◌≢◌, ◌<◌, ℕ, List, refl, sym, ap, subst, arith, on_ok_weaker, Key, machine_at, Downstream, downstream_at, rp_of, start_seen, records_seen, events_of}
use Rattle.pim_down.proofs.Late.{late_heard}
use Rattle.pim_down.proofs.Kept.{ascending_back, settled_back}
use Rattle.pim_down.proofs.Origin.{count_on_later}
use Rattle.pim_down.proofs.Hears.{heard_is, within_is, others_are, memory_is, sound_is, on_err}
use Rattle.pim_down.proofs.ports.Ports.hear.Goals as goal

pub hear_message-requires-clause-ascending : goal.hear_message-requires-clause-ascending
hear_message-requires-clause-ascending g c =
    let p = c.self.inside in
    ascending_back p.moment (records_seen g.F.Family.bytes_of p.records.items) c.self.invariant.0.ascending

pub hear_message-requires-clause-settled : goal.hear_message-requires-clause-settled
hear_message-requires-clause-settled g c =
    let p = c.self.inside in
    settled_back p.moment (records_seen g.F.Family.bytes_of p.records.items) c.self.invariant.0.settled

pub hear_message-requires-clause-port : goal.hear_message-requires-clause-port
hear_message-requires-clause-port g c =
    let there = subst (λ (s : Downstream). c.args.port < s.ports) (sym c.self.view_is) c.requires.port in
    omega (arith, there, c.self.invariant.0.ports)

pub hear_message-requires-clause-within : goal.hear_message-requires-clause-within
hear_message-requires-clause-within g c =
    let p = c.self.inside in
    let same = count_on_later p.moment c.args.port (records_seen g.F.Family.bytes_of p.records.items) in
    let within = c.self.invariant.0.within c.args.port in
    omega (arith, c.self.invariant.0.limit)

pub invariant_of-self : goal.invariant_of-self
invariant_of-self g c =
    let p = c.self.inside in
    let bytes_of = g.F.Family.bytes_of in
    let known = rp_of g.F.Family.family c.args.routes.now in
    let message = c.args.message.now in
    let old = downstream_at bytes_of p.ports p.limit p.moment p.records.items in
    let new = downstream_at bytes_of p.ports p.limit p.moment c.hear_message.new.records.items in
    let starts = rw c.holdtime.ensures at c.start_at-start.ensures.starts in
    let ok = on_ok_weaker c.hear_message.result (heard_is bytes_of p.ports p.limit p.moment c.args.port message known c.args.timing (start_seen c.start_at-start.result) p.records.items c.hear_message.new.records.items old starts refl) c.hear_message.ensures.ok in
    let err = on_err c.hear_message.result (ap (downstream_at bytes_of p.ports p.limit p.moment)) c.hear_message.ensures.err in
    let within = within_is bytes_of p.ports p.limit p.moment c.args.port message known c.args.timing c.hear_message.result p.records.items old refl c.hear_message.ensures.room in
    (sound_is bytes_of p.ports p.limit p.moment c.args.port message known c.args.timing g.F.Family.family c.hear_message.result old new c.self.invariant.0 (subst (λ (s : Downstream). c.args.port < s.ports) (sym c.self.view_is) c.requires.port) c.is_legal.ensures ok err within, late_heard p.moment bytes_of c.args.port (start_seen c.start_at-start.result) (events_of known message) c.hear_message.result p.records.items c.hear_message.new.records.items c.start_at-start.ensures.late c.hear_message.ensures.ok c.hear_message.ensures.err c.self.invariant.1)

pub returns-clause-ok : goal.returns-clause-ok
returns-clause-ok g c =
    let p = c.self.inside in
    let starts = rw c.holdtime.ensures at c.start_at-start.ensures.starts in
    on_ok_weaker c.hear_message.result (heard_is g.F.Family.bytes_of p.ports p.limit p.moment c.args.port c.args.message.now (rp_of g.F.Family.family c.args.routes.now) c.args.timing (start_seen c.start_at-start.result) p.records.items c.hear_message.new.records.items c.args.self.now starts c.self.view_is) c.hear_message.ensures.ok

pub returns-clause-room : goal.returns-clause-room
returns-clause-room g c =
    let p = c.self.inside in
    within_is g.F.Family.bytes_of p.ports p.limit p.moment c.args.port c.args.message.now (rp_of g.F.Family.family c.args.routes.now) c.args.timing c.hear_message.result p.records.items c.args.self.now c.self.view_is c.hear_message.ensures.room

pub returns-clause-memory : goal.returns-clause-memory
returns-clause-memory g c =
    let p = c.self.inside in
    memory_is g.F.Family.bytes_of p.ports p.limit p.moment c.args.port c.args.message.now (rp_of g.F.Family.family c.args.routes.now) c.args.timing c.hear_message.result p.records.items c.args.self.now c.self.view_is c.hear_message.ensures.memory

pub returns-clause-others : goal.returns-clause-others
returns-clause-others g c =
    let p = c.self.inside in
    let bytes_of = g.F.Family.bytes_of in
    let known = rp_of g.F.Family.family c.args.routes.now in
    let message = c.args.message.now in
    let old = downstream_at bytes_of p.ports p.limit p.moment p.records.items in
    let new = downstream_at bytes_of p.ports p.limit p.moment c.hear_message.new.records.items in
    let starts = rw c.holdtime.ensures at c.start_at-start.ensures.starts in
    let ok = on_ok_weaker c.hear_message.result (heard_is bytes_of p.ports p.limit p.moment c.args.port message known c.args.timing (start_seen c.start_at-start.result) p.records.items c.hear_message.new.records.items old starts refl) c.hear_message.ensures.ok in
    let err = on_err c.hear_message.result (ap (downstream_at bytes_of p.ports p.limit p.moment)) c.hear_message.ensures.err in
    let all = others_are bytes_of p.ports p.limit p.moment c.args.port message known c.args.timing c.hear_message.result old new c.self.invariant.0.ascending ok err in
    subst (λ (s : Downstream). (key : Key (List ℕ)) → key.port ≢ c.args.port → machine_at key new.records ≡ machine_at key s.records) c.self.view_is all
