use Rattle.pim_session.proofs.OneDialog.{one_answer_to_item}
use Rattle.pim_session.proofs.laws.item_has_one_answer.Goals as goal

pub returns : goal.returns
returns c =
    one_answer_to_item
    (record {
      command = c.line_states_one_command.ensures;
      words = c.line_has_one_fault.ensures.one;
      no_words = c.line_has_one_fault.ensures.none;
      sender = c.line_states_one_sender.ensures;
      sender_fault = c.sender_has_one_fault.ensures.one;
      no_sender_fault = c.sender_has_one_fault.ensures.none;
      read = c.text_is_read_in_one_way.ensures;
      wrong_line = c.text_has_one_wrong_line.ensures;
      no_wrong_line = c.stated_text_has_no_wrong_line.ensures;
    })
    (record {
      run = c.run_has_one_answer.ensures;
      packet = c.packet_has_one_answer.ensures.packet;
      from = c.packet_has_one_answer.ensures.text;
      keep = c.demand_has_one_answer.ensures.keep;
      next = c.demand_has_one_answer.ensures.next;
      wants = c.demand_has_one_answer.ensures.wants;
      messages = c.messages_have_one_answer.ensures.messages;
      change = c.messages_have_one_answer.ensures.change;
      same = c.messages_have_one_answer.ensures.same;
    })
