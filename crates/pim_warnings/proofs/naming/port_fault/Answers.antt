use Rattle.pim_warnings.proofs.Named.{same_words}
use Rattle.pim_warnings.proofs.naming.port_fault.Goals as goal

pub returns : goal.returns
returns g c =
    let same = same_words c.args.side c.deref-2.result.now c.args.captures.now.more.items c.deref.result.now c.args.captures.now.ports.items c.deref-2.ensures.value c.deref.ensures.value in
    rw (← c.is_memory.ensures, c.if-is_memory.false, ← same, ← c.file_at.ensures) c.in_file.ensures
