use Rattle.pim_emit.proofs.Words.{◌∙◌, Some, sym, subst, arith, length-set, IsAheadOn}
use Rattle.pim_emit.proofs.NextAhead.{each_set, left_set}
use Rattle.pim_emit.proofs.Room.{place_fits}
use Rattle.pim_emit.proofs.ahead.pass_all.Goals as goal

pub offset_bounds-nexts-port : goal.offset_bounds-nexts-port
offset_bounds-nexts-port g c =
    place_fits _ c.loop-port.port _ (omega (arith, c.requires, c.port_count-count.ensures, c.loop-port-test.true)) c.well_formed.1.1.0.1

pub loop-port-preserved : goal.loop-port-preserved
loop-port-preserved g c =
    let state = c.args.ports.now in
    let port = c.loop-port.port in
    let nexts = c.loop-port.nexts in
    let kept = c.loop-port.invariant in
    let next = c.index-nexts-port.result in
    let new = c.pass_on.new.next in
    record {
      long = length-set nexts port new ∙ kept.long;
      left = left_set nexts port new c.args.nexts.now kept.left;
      next = λ group bound are least.
          each_set nexts port new (IsAheadOn state group (Some (g.F.Family.bytes_of c.args.passed)))
          (omega (arith, c.requires, kept.long, c.port_count-count.ensures, c.loop-port-test.true)) (kept.next group bound are least)
          (c.pass_on.ensures group bound
          (subst (IsAheadOn state group bound port) (sym (kept.left port next (omega arith)))
          (are port next (omega (arith, c.port_count-count.ensures, c.loop-port-test.true))))
          least);
    }

pub returns-clause-next : goal.returns-clause-next
returns-clause-next g c = λ group bound are least place other below.
    c.loop-port.invariant.next group bound are least place other (omega (arith, below, c.port_count-count.ensures, c.loop-port-test.false))
