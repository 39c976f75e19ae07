use Rattle.pim_audit.proofs.Changing.{fresh_on, order_on, with_on}
use Rattle.pim_audit.proofs.look.add_new.Goals as goal

pub loop-entry-preserved : goal.loop-entry-preserved
loop-entry-preserved g c =
    let bytes_of = g.F.Family.bytes_of in
    let new = c.args.new.now in
    let i = c.loop-entry.entry-index in
    let this = c.entry-item.result in
    let within = c.loop-entry-test.true in
    let adds = c.in_ok-add.ensures.added in
    record {
      dues = with_on bytes_of c.args.moment new i this within c.entry-item.is c.loop-entry.dues c.add.new.self adds _
          c.loop-entry.invariant.dues;
      order = order_on bytes_of c.args.moment new i this within c.entry-item.is c.loop-entry.dues c.add.new.self adds
          c.loop-entry.invariant.order;
      fresh = fresh_on bytes_of c.args.moment new i this within c.entry-item.is c.loop-entry.dues c.add.new.self adds
          c.loop-entry.invariant.order c.loop-entry.invariant.fresh;
    }
