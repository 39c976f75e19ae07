use Rattle.pim_down.proofs.Words.{get_or, ap, ◌∙◌, at, key_seen, records_seen}
use Rattle.pim_down.proofs.Lists.{replaced_some, replaced_none}
use Rattle.pim_down.proofs.records.edits.replace_at.Goals as goal

pub returns-in-Some-clause-left : goal.returns-in-Some-clause-left
returns-in-Some-clause-left g c bytes_of d =
    let items = c.args.records.now.items in
    let i = at c.args.records.now c.args.place in
    ap (records_seen bytes_of) (c.set_machine.ensures.items d) ∙ replaced_some bytes_of items i (get_or items i d).key c.in-Some.machine c.args.machine c.requires.1 c.in-Some.is

pub returns-in-None-clause-left : goal.returns-in-None-clause-left
returns-in-None-clause-left g c bytes_of d =
    let items = c.args.records.now.items in
    let i = at c.args.records.now c.args.place in
    replaced_none bytes_of items c.remove.new.self.items i (key_seen bytes_of (get_or items i d).key) c.args.machine c.remove.ensures.items c.in-None.is
