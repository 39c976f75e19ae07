use Rattle.pim_frame.specs.declared.frame.MessageType.TheVariants.{JoinPrune}
use Rattle.pim_form.proofs.Told.{Reads}
use Rattle.pim_form.proofs.Headline.{same_messages}
use Rattle.pim_form.proofs.laws.same_messages_same_demand.Goals as goal

pub returns : goal.returns
returns c = λ family writing rps this that one other first second is_writing of_this of_that have_one have_other told_first told_second.
    let reads : Reads family writing.own = record {
      opened = λ body bytes sealed. (c.sealed_opens.ensures family writing.own JoinPrune body bytes sealed).1;
      read = λ message is. c.canonical_is_read.ensures.message family message is;
    } in
    same_messages family writing rps this that one other first second is_writing reads c.one_checksum.ensures of_this of_that have_one have_other told_first told_second
