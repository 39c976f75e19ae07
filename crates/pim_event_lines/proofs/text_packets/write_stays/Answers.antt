use Rattle.pim_event_lines.proofs.text_packets.write_stays.Goals as goal

pub returns-clause-bytes : goal.returns-clause-bytes
returns-clause-bytes g c = c.write_all.ensures.bytes
