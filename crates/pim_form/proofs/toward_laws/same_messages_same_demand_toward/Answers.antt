use Rattle.pim_form.proofs.Words.{rp_of, via_of, wants, demand_toward}
use Rattle.pim_form.proofs.AskedForAll.{asked_is_toward}
use Rattle.pim_form.proofs.TableRps.{have_rps}
use Rattle.pim_form.proofs.toward_laws.same_messages_same_demand_toward.Goals as goal

pub returns : goal.returns
returns c = λ family table writing this that one other first second sound is_writing of_this of_that told_first told_second.
    let rps = rp_of family table in
    let via = via_of family table in
    let have_one = have_rps family table sound via writing.upstream one (asked_is_toward rps via writing.upstream family (wants this) one of_this) in
    let have_other = have_rps family table sound via writing.upstream other (asked_is_toward rps via writing.upstream family (wants that) other of_that) in
    c.same_messages_same_demand.ensures family writing rps (demand_toward family table writing.upstream this) (demand_toward family table writing.upstream that)
    one other first second is_writing of_this of_that have_one have_other told_first told_second
