use Rattle.pim_down.proofs.Words.{◌≡◌, ℕ, ◌+◌, suc, true, length, take, drop, sym, ap, subst, ◌∙◌, arith, at, entry_seen, names_joined, AreJoinedUntil, record_seen, records_seen}
use Rattle.pim_down.proofs.Refreshed.{joined_before, one_more_joined, so_far}
use Rattle.pim_down.proofs.hearing.refresh.count_refreshed.Goals as goal

pub loop-held-init : goal.loop-held-init
loop-held-init g c =
    let bytes_of = g.F.Family.bytes_of in
    let left = drop (at c.args.records.now c.args.place) c.args.records.now.items in
    let walk : c.into_iter-held-iterator.result ≡ take c.from-most.result left = cc in
    record {
      joined = λ n are.
          let same : n ≡ 0 + n = omega arith in
          subst (λ (k : ℕ). AreJoinedUntil c.args.port (bytes_of c.args.group) c.args.from k (records_seen bytes_of left) c.args.entries) same
          (joined_before bytes_of c.args.port (bytes_of c.args.group) c.args.from c.from-most.result n c.into_iter-held-iterator.result left c.args.entries walk are);
      left = omega arith;
    }

pub returns-in_default : goal.returns-in_default
returns-in_default g c =
    let bytes_of = g.F.Family.bytes_of in
    so_far c.args.port (bytes_of c.args.group) c.args.from c.loop-held.count (records_seen bytes_of c.loop-held.held-iterator) (records_seen bytes_of (drop (at c.args.records.now c.args.place) c.args.records.now.items)) c.loop-held.left c.args.entries c.loop-held.invariant.joined

pub returns-then-not-names_joined : goal.returns-then-not-names_joined
returns-then-not-names_joined g c =
    let bytes_of = g.F.Family.bytes_of in
    so_far c.args.port (bytes_of c.args.group) c.args.from c.loop-held.count (records_seen bytes_of c.loop-held.held-iterator) (records_seen bytes_of (drop (at c.args.records.now c.args.place) c.args.records.now.items)) c.loop-held.left c.args.entries c.loop-held.invariant.joined

pub loop-held-preserved : goal.loop-held-preserved
loop-held-preserved g c =
    let bytes_of = g.F.Family.bytes_of in
    let group = bytes_of c.args.group in
    let held = record_seen bytes_of c.in-Some.held.now in
    let named = entry_seen bytes_of c.in-Some-next.entry in
    let all = records_seen bytes_of (drop (at c.args.records.now c.args.place) c.args.records.now.items) in
    let is : names_joined c.args.port group c.args.from held named ≡ true = sym c.names_joined.ensures ∙ c.if-not-names_joined.false in
    let one = ap length c.in-Some-next.ensures.steps in
    record {
      joined = λ n are.
          let next : c.loop-held.count + suc n ≡ c.loop-held.count + 1 + n = omega arith in
          subst (λ (k : ℕ). AreJoinedUntil c.args.port group c.args.from k all c.args.entries) next
          (c.loop-held.invariant.joined (suc n) (one_more_joined c.args.port group c.args.from n held named (records_seen bytes_of c.loop-held.held-iterator) (records_seen bytes_of c.next.new.self) c.loop-held.left c.next-in-loop-held.new.self (ap (records_seen bytes_of) c.in-Some.ensures.steps) c.in-Some-next.ensures.steps is are));
      left = omega (arith, c.loop-held.invariant.left);
    }

pub returns : goal.returns
returns g c =
    let bytes_of = g.F.Family.bytes_of in
    so_far c.args.port (bytes_of c.args.group) c.args.from c.loop-held.count (records_seen bytes_of c.loop-held.held-iterator) (records_seen bytes_of (drop (at c.args.records.now c.args.place) c.args.records.now.items)) c.loop-held.left c.args.entries c.loop-held.invariant.joined
