use Rattle.pim_files.proofs.Words.{subst, ap, arith, ◌+◌, suc, List, length, map, take, drop, length-drop}
use Rattle.pim_files.proofs.Words.{err_from_is_err_and, RequestsFor, PortFiles, all_files, files_from, files_of}
use Rattle.pim_files.proofs.Words.{first_file, further_file, names_of, with_more, HoldFiles}
use Rattle.pim_files.specs.declared.fault.OpenFault.TheVariants as opening
use Rattle.pim_files.proofs.Asked.{asks_none, all_in_front}
use Rattle.pim_files.proofs.Several.{asks_both, front_within, none_present, more_present, present_of, stops_first, stops_within}
use Rattle.pim_files.proofs.Opened.{new_untaken, one_untaken, lanes_more, none_held, one_more_files, files_around, one_more_lane, all_ports}
use Rattle.pim_files.proofs.captures.open_all.Goals as goal

pub loop-port-init : goal.loop-port-init
loop-port-init g c = record {
  at = omega arith;
  each = omega (arith, ap length c.new-merge.ensures.lanes);
  untaken = new_untaken c.new-merge.result c.new-merge.ensures.lanes c.new-merge.ensures.clock;
  requested = asks_none (g.O.Opener.known c.args.opener.now);
  present = none_present (g.O.Opener.known c.args.opener.now).files;
  held = none_held g.row.A.Denot (g.O.Opener.known c.args.opener.now).files c.new-merge.result.lanes c.new-merge.ensures.lanes;
}

pub loop-port-preserved : goal.loop-port-preserved
loop-port-preserved g c =
    let all = files_from 0 c.args.further.now c.args.ports.now in
    let it = with_more c.loop-port.number c.args.further.now c.port-item.result in
    let more = one_more_files c.args.further.now c.args.ports.now c.loop-port.port-index c.loop-port.number c.port-item.result c.loop-port.invariant.at c.loop-port-test.true c.port-item.is
    (c.loop-port.port-index + 1) (omega arith) in
    record {
      at = omega (arith, c.loop-port.invariant.at);
      each = omega (
        arith,
        lanes_more c.loop-port.merge.lanes c.add_by.new.merge.lanes _ c.in-Ok.ensures.coming,
        length-drop c.loop-port.port-index c.args.ports.now,
        length-drop (c.loop-port.port-index + 1) c.args.ports.now,
        c.loop-port.invariant.each,
        c.loop-port-test.true,
      );
      untaken = one_untaken c.loop-port.merge c.add_by.new.merge c.loop-port.invariant.untaken c.in-Ok.ensures.clock c.in-Ok.ensures.tallies;
      requested = asks_both (g.O.Opener.known c.args.opener.now) (g.O.Opener.known c.loop-port.opener) (g.O.Opener.known c.open_port.new.opener) (all_files (take c.loop-port.port-index all))
          (files_of it) (all_files (take (c.loop-port.port-index + 1) all)) more c.loop-port.invariant.requested c.in_ok-readers.ensures.requested;
      present = more_present (g.O.Opener.known c.args.opener.now).files (g.O.Opener.known c.loop-port.opener).files (all_files (take c.loop-port.port-index all)) (files_of it)
          (all_files (take (c.loop-port.port-index + 1) all)) c.loop-port.invariant.requested.files more c.loop-port.invariant.present
          (present_of g.O.Reader.Feed.remaining (g.O.Opener.known c.loop-port.opener).files (files_of it) c.in_ok-readers.readers.items c.in_ok-readers.ensures.opened);
      held = one_more_lane g.O.Reader.Feed.remaining (g.O.Opener.known c.args.opener.now).files (g.O.Opener.known c.loop-port.opener).files c.loop-port.invariant.requested.files c.args.further.now
          c.args.ports.now c.loop-port.port-index (c.loop-port.port-index + 1) c.loop-port.number c.port-item.result (omega arith) c.loop-port.invariant.at c.loop-port-test.true c.port-item.is
          c.in_ok-readers.readers.items c.loop-port.merge.lanes c.add_by.new.merge.lanes c.in_ok-readers.ensures.opened c.loop-port.invariant.held c.in-Ok.ensures.coming;
    }

pub returns-in_err-readers-clause-fault : goal.returns-in_err-readers-clause-fault
returns-in_err-readers-clause-fault g c =
    let p = err_from_is_err_and c.from_residual.result c.from_residual.ensures.1 in
    let all = files_from 0 c.args.further.now c.args.ports.now in
    rw (p.1, p.2)
    (stops_within (g.O.Opener.known c.args.opener.now).files (g.O.Opener.known c.loop-port.opener).files (all_files (take c.loop-port.port-index all))
    (files_of (with_more c.loop-port.number c.args.further.now c.port-item.result)) (all_files (drop (suc c.loop-port.port-index) all)) (all_files all) c.in_err-readers.field-0.0
    c.loop-port.invariant.requested.files
    (files_around c.args.further.now c.args.ports.now c.loop-port.port-index c.loop-port.number c.port-item.result c.loop-port.invariant.at c.loop-port-test.true c.port-item.is)
    c.loop-port.invariant.present c.in_err-readers.ensures.fault)

pub returns-in_err-readers-clause-requested : goal.returns-in_err-readers-clause-requested
returns-in_err-readers-clause-requested g c =
    let p = err_from_is_err_and c.from_residual.result c.from_residual.ensures.1 in
    let all = files_from 0 c.args.further.now c.args.ports.now in
    rw (p.1)
    (front_within (g.O.Opener.known c.args.opener.now) (g.O.Opener.known c.loop-port.opener) (g.O.Opener.known c.open_port.new.opener) (all_files (take c.loop-port.port-index all))
    (files_of (with_more c.loop-port.number c.args.further.now c.port-item.result)) (all_files (drop (suc c.loop-port.port-index) all)) (all_files all)
    (files_around c.args.further.now c.args.ports.now c.loop-port.port-index c.loop-port.number c.port-item.result c.loop-port.invariant.at c.loop-port-test.true c.port-item.is)
    c.loop-port.invariant.requested c.in_err-readers.ensures.requested)

pub returns-in_default-clause-fault : goal.returns-in_default-clause-fault
returns-in_default-clause-fault g c =
    let all = files_from 0 c.args.further.now c.args.ports.now in
    let it = with_more c.loop-port.number c.args.further.now c.port-item.result in
    stops_within (g.O.Opener.known c.args.opener.now).files (g.O.Opener.known c.loop-port.opener).files (all_files (take c.loop-port.port-index all)) (files_of it)
    (all_files (drop (suc c.loop-port.port-index) all)) (all_files all) opening.Memory c.loop-port.invariant.requested.files
    (files_around c.args.further.now c.args.ports.now c.loop-port.port-index c.loop-port.number c.port-item.result c.loop-port.invariant.at c.loop-port-test.true c.port-item.is)
    c.loop-port.invariant.present
    (stops_first (g.O.Opener.known c.loop-port.opener).files (first_file c.port-item.result) (map further_file it.more) opening.Memory tt)

pub returns-in_default-clause-requested : goal.returns-in_default-clause-requested
returns-in_default-clause-requested g c =
    let all = files_from 0 c.args.further.now c.args.ports.now in
    let it = with_more c.loop-port.number c.args.further.now c.port-item.result in
    front_within (g.O.Opener.known c.args.opener.now) (g.O.Opener.known c.loop-port.opener) (g.O.Opener.known c.open_port.new.opener) (all_files (take c.loop-port.port-index all))
    (files_of it) (all_files (drop (suc c.loop-port.port-index) all)) (all_files all)
    (files_around c.args.further.now c.args.ports.now c.loop-port.port-index c.loop-port.number c.port-item.result c.loop-port.invariant.at c.loop-port-test.true c.port-item.is)
    c.loop-port.invariant.requested (all_in_front (g.O.Opener.known c.loop-port.opener) (g.O.Opener.known c.open_port.new.opener) (names_of (files_of it)) c.in_ok-readers.ensures.requested)

pub returns-clause-opened : goal.returns-clause-opened
returns-clause-opened g c =
    subst (λ (ports : List (PortFiles g.row.A.Denot)). HoldFiles (g.O.Opener.known c.args.opener.now).files ports c.loop-port.merge.lanes)
    (all_ports c.args.further.now c.args.ports.now c.loop-port.port-index c.loop-port-test.false) c.loop-port.invariant.held

pub returns-clause-requested : goal.returns-clause-requested
returns-clause-requested g c =
    subst (λ (ports : List (PortFiles g.row.A.Denot)). RequestsFor (g.O.Opener.known c.args.opener.now) (g.O.Opener.known c.loop-port.opener) (names_of (all_files ports)))
    (all_ports c.args.further.now c.args.ports.now c.loop-port.port-index c.loop-port-test.false) c.loop-port.invariant.requested
