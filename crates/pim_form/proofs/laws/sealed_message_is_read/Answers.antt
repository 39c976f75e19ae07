use Rattle.pim_form.proofs.Words.{JoinPrune, canonical}
use Rattle.pim_form.proofs.laws.sealed_message_is_read.Goals as goal

pub returns : goal.returns
returns c = λ family source message bytes is_message sealed.
    let opens = c.sealed_opens.ensures family source JoinPrune (canonical family message) bytes sealed in
    record {
      body = canonical family message;
      opened = opens.0;
      holds = opens.1;
      legal = c.canonical_is_read.ensures.no_fault family message is_message;
      reads = c.canonical_is_read.ensures.message family message is_message;
    }
