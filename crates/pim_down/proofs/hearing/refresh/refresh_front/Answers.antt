use Rattle.pim_down.proofs.Words.{◌≡◌, ◌<◌, List, ℕ, true, ap, subst, length, drop, arith, at, Entry, AreJoinedUntil, start_seen, records_seen}
use Rattle.pim_down.proofs.Refreshed.{joined_within, all_end, fit, run_refreshed}
use Rattle.pim_down.proofs.hearing.refresh.refresh_front.Goals as goal

pub put_off-done-requires-clause-within : goal.put_off-done-requires-clause-within
put_off-done-requires-clause-within g c =
    let bytes_of = g.F.Family.bytes_of in
    let list = c.args.records.now in
    fit bytes_of c.args.arrival.port (bytes_of c.args.group) c.in-Some-expires_at.from (at list c.in-Some-front_place.place) c.count_refreshed-count.result list.items c.again-2.result c.in-Some-front_place.ensures.1 c.count_refreshed-count.ensures

pub put_off-done-requires-clause-ends : goal.put_off-done-requires-clause-ends
put_off-done-requires-clause-ends g c =
    let bytes_of = g.F.Family.bytes_of in
    let list = c.args.records.now in
    all_end bytes_of c.args.arrival.port (bytes_of c.args.group) c.in-Some-expires_at.from c.count_refreshed-count.result (drop (at list c.in-Some-front_place.place) list.items) c.again-2.result c.count_refreshed-count.ensures

pub pass-requires : goal.pass-requires
pass-requires g c =
    let bytes_of = g.F.Family.bytes_of in
    let list = c.args.records.now in
    let few = joined_within c.args.arrival.port (bytes_of c.args.group) c.in-Some-expires_at.from c.count_refreshed-count.result (records_seen bytes_of (drop (at list c.in-Some-front_place.place) list.items)) c.again-2.result c.count_refreshed-count.ensures in
    let same : length c.again-2.result ≡ length c.args.entries.now = ap length c.again-2.ensures in
    omega (arith, c.put_off-done.ensures.count)

pub returns-clause-within : goal.returns-clause-within
returns-clause-within g c =
    let bytes_of = g.F.Family.bytes_of in
    let list = c.args.records.now in
    let few = joined_within c.args.arrival.port (bytes_of c.args.group) c.in-Some-expires_at.from c.count_refreshed-count.result (records_seen bytes_of (drop (at list c.in-Some-front_place.place) list.items)) c.again-2.result c.count_refreshed-count.ensures in
    let same : length c.again-2.result ≡ length c.args.entries.now = ap length c.again-2.ensures in
    omega (arith, c.put_off-done.ensures.count)

pub returns-clause-records : goal.returns-clause-records
returns-clause-records g c = λ known.
    let bytes_of = g.F.Family.bytes_of in
    let list = c.args.records.now in
    let place = at list c.in-Some-front_place.place in
    let count = c.count_refreshed-count.result in
    let longer : c.in-Some-expires_at.from < c.in-Some.to = c.if-from-to.false in
    let are = subst (λ (entries : List (Entry (List ℕ))). AreJoinedUntil c.args.arrival.port (bytes_of c.args.group) c.in-Some-expires_at.from count (records_seen bytes_of (drop place list.items)) entries) c.again-2.ensures c.count_refreshed-count.ensures in
    let joined : c.args.joins ≡ true = c.if-not-joins.false in
    rw joined (run_refreshed bytes_of c.args.arrival.port (start_seen c.args.arrival.start) known (bytes_of c.args.group) c.in-Some-expires_at.from c.in-Some.to place count c.put_off-done.result list.items c.put_off-done.new.self.items c.args.entries.now longer c.in-Some.is c.requires.ascending are c.put_off-done.ensures.count c.put_off-done.ensures.items)
