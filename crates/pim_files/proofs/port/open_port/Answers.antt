use Rattle.pim_files.proofs.Words.{◌∙◌, List, map, sym, subst, arith, err_from_is_err_and, RequestsFor, FileOfName}
use Rattle.pim_files.proofs.Words.{first_file, further_file, names_of, with_more, HaveFiles}
use Rattle.pim_files.specs.declared.fault.OpenFault.TheVariants as opening
use Rattle.pim_files.proofs.Several.{front_of_first, stops_first}
use Rattle.pim_files.proofs.Further.{same_files, asks_further, front_further, have_further, stops_further, all_by}
use Rattle.pim_files.proofs.port.open_port.Goals as goal

pub returns-in_err-readers-clause-fault : goal.returns-in_err-readers-clause-fault
returns-in_err-readers-clause-fault g c =
    let p = err_from_is_err_and c.from_residual.result c.from_residual.ensures.1 in
    rw (p.1, p.2) (stops_first (g.O.Opener.known c.args.opener.now).files (first_file c.args.port.now) (map further_file (with_more c.args.number c.args.further.now c.args.port.now).more)
    c.in_err-readers.field-0.0 c.in_err-readers.ensures.fault)

pub returns-in_err-readers-clause-requested : goal.returns-in_err-readers-clause-requested
returns-in_err-readers-clause-requested g c =
    let p = err_from_is_err_and c.from_residual.result c.from_residual.ensures.1 in
    rw (p.1) (front_of_first (g.O.Opener.known c.args.opener.now) (g.O.Opener.known c.open_first.new.opener) (first_file c.args.port.now)
    (map further_file (with_more c.args.number c.args.further.now c.args.port.now).more) c.in_err-readers.ensures.requested)

pub loop-one-init : goal.loop-one-init
loop-one-init g c = record { some = c.in_ok-readers.ensures.some; requested = c.in_ok-readers.ensures.requested; held = c.in_ok-readers.ensures.opened }

pub loop-one-preserved-then-not-is_further : goal.loop-one-preserved-then-not-is_further
loop-one-preserved-then-not-is_further g c =
    let same = same_files c.args.number c.args.port.now c.args.further.now c.loop-one.one-index _ c.loop-one-test.true (sym c.is_further.ensures ∙ c.if-not-is_further.true) in
    record {
      some = c.loop-one.invariant.some;
      requested = subst (λ (l : List FileOfName). RequestsFor (g.O.Opener.known c.args.opener.now) (g.O.Opener.known c.loop-one.opener) (names_of l)) same c.loop-one.invariant.requested;
      held = subst (λ (l : List FileOfName). HaveFiles g.O.Reader.Feed.remaining (g.O.Opener.known c.args.opener.now).files l c.loop-one.readers.items) same c.loop-one.invariant.held;
    }

pub loop-one-preserved : goal.loop-one-preserved
loop-one-preserved g c = record {
  some = omega (arith, c.loop-one.invariant.some, c.in-Ok.ensures.lower_bound);
  requested = asks_further c.args.number c.args.port.now c.args.further.now c.loop-one.one-index _ c.loop-one-test.true (sym c.is_further.ensures ∙ c.if-not-is_further.false)
      (g.O.Opener.known c.args.opener.now) (g.O.Opener.known c.loop-one.opener) (g.O.Opener.known c.open_further.new.opener) c.loop-one.invariant.requested c.in_ok-reader.ensures.requested;
  held = have_further c.args.number c.args.port.now c.args.further.now c.loop-one.one-index _ c.loop-one-test.true (sym c.is_further.ensures ∙ c.if-not-is_further.false)
      g.O.Reader.Feed.remaining (g.O.Opener.known c.args.opener.now).files (g.O.Opener.known c.loop-one.opener).files c.loop-one.readers.items c.loop-one.invariant.requested.files c.loop-one.invariant.held
      c.push.new.self.items c.in_ok-reader.reader c.in-Ok.ensures.items c.in_ok-reader.ensures.opened;
}

pub returns-in_err-reader-clause-fault : goal.returns-in_err-reader-clause-fault
returns-in_err-reader-clause-fault g c =
    let p = err_from_is_err_and c.from_residual-in_err-reader.result c.from_residual-in_err-reader.ensures.1 in
    rw (p.1, p.2)
    (stops_further c.args.number c.args.port.now c.args.further.now c.loop-one.one-index _ c.loop-one-test.true (sym c.is_further.ensures ∙ c.if-not-is_further.false)
    g.O.Reader.Feed.remaining (g.O.Opener.known c.args.opener.now).files (g.O.Opener.known c.loop-one.opener).files c.loop-one.readers.items c.loop-one.invariant.requested.files c.loop-one.invariant.held
    c.in_err-reader.field-0.0 c.in_err-reader.ensures.opened)

pub returns-in_err-reader-clause-requested : goal.returns-in_err-reader-clause-requested
returns-in_err-reader-clause-requested g c =
    let p = err_from_is_err_and c.from_residual-in_err-reader.result c.from_residual-in_err-reader.ensures.1 in
    rw (p.1)
    (front_further c.args.number c.args.port.now c.args.further.now c.loop-one.one-index _ c.loop-one-test.true (sym c.is_further.ensures ∙ c.if-not-is_further.false)
    (g.O.Opener.known c.args.opener.now) (g.O.Opener.known c.loop-one.opener) (g.O.Opener.known c.open_further.new.opener) c.loop-one.invariant.requested c.in_err-reader.ensures.requested)

pub returns-in_default-clause-fault : goal.returns-in_default-clause-fault
returns-in_default-clause-fault g c =
    stops_further c.args.number c.args.port.now c.args.further.now c.loop-one.one-index _ c.loop-one-test.true (sym c.is_further.ensures ∙ c.if-not-is_further.false)
    g.O.Reader.Feed.remaining (g.O.Opener.known c.args.opener.now).files (g.O.Opener.known c.loop-one.opener).files c.loop-one.readers.items c.loop-one.invariant.requested.files c.loop-one.invariant.held
    opening.Memory tt

pub returns-in_default-clause-requested : goal.returns-in_default-clause-requested
returns-in_default-clause-requested g c =
    front_further c.args.number c.args.port.now c.args.further.now c.loop-one.one-index _ c.loop-one-test.true (sym c.is_further.ensures ∙ c.if-not-is_further.false)
    (g.O.Opener.known c.args.opener.now) (g.O.Opener.known c.loop-one.opener) (g.O.Opener.known c.open_further.new.opener) c.loop-one.invariant.requested c.in_ok-reader.ensures.requested

pub returns-clause-opened : goal.returns-clause-opened
returns-clause-opened g c =
    subst (λ (l : List FileOfName). HaveFiles g.O.Reader.Feed.remaining (g.O.Opener.known c.args.opener.now).files l c.loop-one.readers.items)
    (all_by c.args.number c.args.port.now c.args.further.now c.loop-one.one-index c.loop-one-test.false) c.loop-one.invariant.held

pub returns-clause-requested : goal.returns-clause-requested
returns-clause-requested g c =
    subst (λ (l : List FileOfName). RequestsFor (g.O.Opener.known c.args.opener.now) (g.O.Opener.known c.loop-one.opener) (names_of l))
    (all_by c.args.number c.args.port.now c.args.further.now c.loop-one.one-index c.loop-one-test.false) c.loop-one.invariant.requested
