use Rattle.pim_frame.specs.declared.frame.MessageType.TheVariants.{JoinPrune}
use Rattle.pim_form.proofs.Told.{Reads, messages_tell}
use Rattle.pim_form.proofs.laws.messages_carry_the_form.Goals as goal

pub returns : goal.returns
returns c = λ family writing rps one other messages is_writing is_one is_other have_one have_other told_one told_other.
    let reads : Reads family writing.own = record {
      opened = λ body bytes sealed. (c.sealed_opens.ensures family writing.own JoinPrune body bytes sealed).1;
      read = λ message is. c.canonical_is_read.ensures.message family message is;
    } in
    messages_tell family writing rps is_writing reads one other messages is_one is_other have_one have_other told_one told_other
