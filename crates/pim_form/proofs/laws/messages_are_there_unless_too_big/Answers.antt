use Rattle.pim_form.proofs.SomeMessages.{messages_unless_too_big}
use Rattle.pim_form.proofs.laws.messages_are_there_unless_too_big.Goals as goal

pub returns : goal.returns
returns c = λ family writing rps form is normal. messages_unless_too_big family writing rps c.some_message_is_sealed.ensures form is normal
