use Rattle.std.specs.Prelude.{codes}
use Rattle.std.specs.Option.{option_map}
use Rattle.pim_hello.specs.Delays.{delays_seen}
use Rattle.pim_text.specs.HelloText.{number_text, delays_text}
use Rattle.pim_text.proofs.Lines.{four_texts}
use Rattle.pim_text.proofs.hello_lines.push_parameters.Goals as goal

pub returns : goal.returns
returns c =
    four_texts c.args.text.now.items c.push_holdtime.new.text.items c.push_delays.new.text.items c.push_option.new.text.items c.push_option-2.new.text.items
    (number_text (codes "holdtime ") c.args.parameters.holdtime) (delays_text (option_map delays_seen c.args.parameters.lan))
    (number_text (codes "dr-priority ") c.args.parameters.priority) (number_text (codes "generation ") c.args.parameters.generation)
    c.in_ok-push_holdtime.ensures c.in_ok-push_delays.ensures c.in_ok-push_option.ensures c.in_ok-push_option-2.ensures
