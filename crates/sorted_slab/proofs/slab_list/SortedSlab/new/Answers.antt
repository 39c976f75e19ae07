use Rattle.sorted_slab.proofs.Words.{ap, items}
use Rattle.sorted_slab.proofs.Found.{sound_none, found_none}
use Rattle.sorted_slab.proofs.slab_list.SortedSlab.new.Goals as goal

pub invariant_of-result : goal.invariant_of-result
invariant_of-result g c =
    let none = sound_none (items c.new.result) (ap items c.new.ensures) c.new-2.result c.new-2.ensures.empty in
    record { differ = none.0; held = none.1; nothing_else = none.2 }

pub returns : goal.returns
returns g c = found_none (items c.new.result) (ap items c.new.ensures) c.new-2.result
