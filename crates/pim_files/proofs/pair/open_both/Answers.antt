use Rattle.pim_files.proofs.Words.{subst, ap, arith, ◌+◌, suc, List, length, map, take, drop, err_from_is_err_and, A, B}
use Rattle.pim_files.proofs.Words.{RequestsFor, PortFiles, all_files, files_from, files_of, first_file, further_file}
use Rattle.pim_files.proofs.Words.{names_of, of_router, with_more, HoldFiles}
use Rattle.pim_files.specs.declared.fault.OpenFault.TheVariants as opening
use Rattle.pim_files.proofs.Asked.{asks_none, all_in_front}
use Rattle.pim_files.proofs.Several.{asks_both, front_within, none_present, more_present, present_of, stops_first, stops_within}
use Rattle.pim_files.proofs.Opened.{new_untaken, untaken_if, none_held, one_less_of, one_more_files, files_around, one_more_of, all_ports}
use Rattle.pim_files.proofs.pair.open_both.Goals as goal

pub loop-port-init : goal.loop-port-init
loop-port-init g c = record {
  at = omega arith;
  each_of_a = omega (arith, ap length c.new.ensures.lanes);
  each_of_b = omega (arith, ap length c.new-2.ensures.lanes);
  untaken_of_a = new_untaken c.new.result c.new.ensures.lanes c.new.ensures.clock;
  untaken_of_b = new_untaken c.new-2.result c.new-2.ensures.lanes c.new-2.ensures.clock;
  requested = asks_none (g.O.Opener.known c.args.opener.now);
  present = none_present (g.O.Opener.known c.args.opener.now).files;
  held_of_a = none_held g.row.A.Denot (g.O.Opener.known c.args.opener.now).files c.new.result.lanes c.new.ensures.lanes;
  held_of_b = none_held g.row.A.Denot (g.O.Opener.known c.args.opener.now).files c.new-2.result.lanes c.new-2.ensures.lanes;
}

pub loop-port-preserved : goal.loop-port-preserved
loop-port-preserved g c =
    let all = files_from 0 c.args.further.now c.args.ports.now in
    let it = with_more c.loop-port.number c.args.further.now c.port-item.result in
    let more = one_more_files c.args.further.now c.args.ports.now c.loop-port.port-index c.loop-port.number c.port-item.result c.loop-port.invariant.at c.loop-port-test.true c.port-item.is
    (c.loop-port.port-index + 1) (omega arith) in
    record {
      at = omega (arith, c.loop-port.invariant.at);
      each_of_a = omega (
        arith,
        one_less_of A c.args.ports.now c.loop-port.port-index (c.loop-port.port-index + 1) c.port-item.result (omega arith) c.loop-port-test.true c.port-item.is,
        c.in-Ok.ensures.a,
        c.loop-port.invariant.each_of_a,
      );
      each_of_b = omega (
        arith,
        one_less_of B c.args.ports.now c.loop-port.port-index (c.loop-port.port-index + 1) c.port-item.result (omega arith) c.loop-port-test.true c.port-item.is,
        c.in-Ok.ensures.b,
        c.loop-port.invariant.each_of_b,
      );
      untaken_of_a = untaken_if A c.port-item.result.side c.loop-port.pair.a c.add_to.new.pair.a c.loop-port.invariant.untaken_of_a c.add_to.ensures.clock_of_a c.in-Ok.ensures.tallies_of_a;
      untaken_of_b = untaken_if B c.port-item.result.side c.loop-port.pair.b c.add_to.new.pair.b c.loop-port.invariant.untaken_of_b c.add_to.ensures.clock_of_b c.in-Ok.ensures.tallies_of_b;
      requested = asks_both (g.O.Opener.known c.args.opener.now) (g.O.Opener.known c.loop-port.opener) (g.O.Opener.known c.open_port.new.opener) (all_files (take c.loop-port.port-index all))
          (files_of it) (all_files (take (c.loop-port.port-index + 1) all)) more c.loop-port.invariant.requested c.in_ok-readers.ensures.requested;
      present = more_present (g.O.Opener.known c.args.opener.now).files (g.O.Opener.known c.loop-port.opener).files (all_files (take c.loop-port.port-index all)) (files_of it)
          (all_files (take (c.loop-port.port-index + 1) all)) c.loop-port.invariant.requested.files more c.loop-port.invariant.present
          (present_of g.O.Reader.Feed.remaining (g.O.Opener.known c.loop-port.opener).files (files_of it) c.in_ok-readers.readers.items c.in_ok-readers.ensures.opened);
      held_of_a = one_more_of g.O.Reader.Feed.remaining (g.O.Opener.known c.args.opener.now).files (g.O.Opener.known c.loop-port.opener).files c.loop-port.invariant.requested.files
          c.args.further.now c.args.ports.now c.loop-port.port-index (c.loop-port.port-index + 1) c.loop-port.number c.port-item.result (omega arith) c.loop-port.invariant.at
          c.loop-port-test.true c.port-item.is c.in_ok-readers.readers.items c.loop-port.pair.a.lanes c.add_to.new.pair.a.lanes c.in_ok-readers.ensures.opened A
          c.loop-port.invariant.held_of_a c.in-Ok.ensures.lanes_of_a;
      held_of_b = one_more_of g.O.Reader.Feed.remaining (g.O.Opener.known c.args.opener.now).files (g.O.Opener.known c.loop-port.opener).files c.loop-port.invariant.requested.files
          c.args.further.now c.args.ports.now c.loop-port.port-index (c.loop-port.port-index + 1) c.loop-port.number c.port-item.result (omega arith) c.loop-port.invariant.at
          c.loop-port-test.true c.port-item.is c.in_ok-readers.readers.items c.loop-port.pair.b.lanes c.add_to.new.pair.b.lanes c.in_ok-readers.ensures.opened B
          c.loop-port.invariant.held_of_b c.in-Ok.ensures.lanes_of_b;
    }

pub returns-in_err-readers-clause-fault : goal.returns-in_err-readers-clause-fault
returns-in_err-readers-clause-fault g c =
    let p = err_from_is_err_and c.from_residual.result c.from_residual.ensures.1 in
    let all = files_from 0 c.args.further.now c.args.ports.now in
    rw (p.1, p.2)
    (stops_within (g.O.Opener.known c.args.opener.now).files (g.O.Opener.known c.loop-port.opener).files (all_files (take c.loop-port.port-index all))
    (files_of (with_more c.loop-port.number c.args.further.now c.port-item.result)) (all_files (drop (suc c.loop-port.port-index) all)) (all_files all) c.in_err-readers.field-0.0
    c.loop-port.invariant.requested.files
    (files_around c.args.further.now c.args.ports.now c.loop-port.port-index c.loop-port.number c.port-item.result c.loop-port.invariant.at c.loop-port-test.true c.port-item.is)
    c.loop-port.invariant.present c.in_err-readers.ensures.fault)

pub returns-in_err-readers-clause-requested : goal.returns-in_err-readers-clause-requested
returns-in_err-readers-clause-requested g c =
    let p = err_from_is_err_and c.from_residual.result c.from_residual.ensures.1 in
    let all = files_from 0 c.args.further.now c.args.ports.now in
    rw (p.1)
    (front_within (g.O.Opener.known c.args.opener.now) (g.O.Opener.known c.loop-port.opener) (g.O.Opener.known c.open_port.new.opener) (all_files (take c.loop-port.port-index all))
    (files_of (with_more c.loop-port.number c.args.further.now c.port-item.result)) (all_files (drop (suc c.loop-port.port-index) all)) (all_files all)
    (files_around c.args.further.now c.args.ports.now c.loop-port.port-index c.loop-port.number c.port-item.result c.loop-port.invariant.at c.loop-port-test.true c.port-item.is)
    c.loop-port.invariant.requested c.in_err-readers.ensures.requested)

pub returns-in_default-clause-fault : goal.returns-in_default-clause-fault
returns-in_default-clause-fault g c =
    let all = files_from 0 c.args.further.now c.args.ports.now in
    let it = with_more c.loop-port.number c.args.further.now c.port-item.result in
    stops_within (g.O.Opener.known c.args.opener.now).files (g.O.Opener.known c.loop-port.opener).files (all_files (take c.loop-port.port-index all)) (files_of it)
    (all_files (drop (suc c.loop-port.port-index) all)) (all_files all) opening.Memory c.loop-port.invariant.requested.files
    (files_around c.args.further.now c.args.ports.now c.loop-port.port-index c.loop-port.number c.port-item.result c.loop-port.invariant.at c.loop-port-test.true c.port-item.is)
    c.loop-port.invariant.present
    (stops_first (g.O.Opener.known c.loop-port.opener).files (first_file c.port-item.result) (map further_file it.more) opening.Memory tt)

pub returns-in_default-clause-requested : goal.returns-in_default-clause-requested
returns-in_default-clause-requested g c =
    let all = files_from 0 c.args.further.now c.args.ports.now in
    let it = with_more c.loop-port.number c.args.further.now c.port-item.result in
    front_within (g.O.Opener.known c.args.opener.now) (g.O.Opener.known c.loop-port.opener) (g.O.Opener.known c.open_port.new.opener) (all_files (take c.loop-port.port-index all))
    (files_of it) (all_files (drop (suc c.loop-port.port-index) all)) (all_files all)
    (files_around c.args.further.now c.args.ports.now c.loop-port.port-index c.loop-port.number c.port-item.result c.loop-port.invariant.at c.loop-port-test.true c.port-item.is)
    c.loop-port.invariant.requested (all_in_front (g.O.Opener.known c.loop-port.opener) (g.O.Opener.known c.open_port.new.opener) (names_of (files_of it)) c.in_ok-readers.ensures.requested)

pub returns-clause-opened_of_a : goal.returns-clause-opened_of_a
returns-clause-opened_of_a g c =
    subst (λ (ports : List (PortFiles g.row.A.Denot)). HoldFiles (g.O.Opener.known c.args.opener.now).files (of_router A ports) c.loop-port.pair.a.lanes)
    (all_ports c.args.further.now c.args.ports.now c.loop-port.port-index c.loop-port-test.false) c.loop-port.invariant.held_of_a

pub returns-clause-opened_of_b : goal.returns-clause-opened_of_b
returns-clause-opened_of_b g c =
    subst (λ (ports : List (PortFiles g.row.A.Denot)). HoldFiles (g.O.Opener.known c.args.opener.now).files (of_router B ports) c.loop-port.pair.b.lanes)
    (all_ports c.args.further.now c.args.ports.now c.loop-port.port-index c.loop-port-test.false) c.loop-port.invariant.held_of_b

pub returns-clause-requested : goal.returns-clause-requested
returns-clause-requested g c =
    subst (λ (ports : List (PortFiles g.row.A.Denot)). RequestsFor (g.O.Opener.known c.args.opener.now) (g.O.Opener.known c.loop-port.opener) (names_of (all_files ports)))
    (all_ports c.args.further.now c.args.ports.now c.loop-port.port-index c.loop-port-test.false) c.loop-port.invariant.requested
