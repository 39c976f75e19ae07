use Rattle.pim_merge.proofs.Advancing.{advances, tallied}
use Rattle.pim_merge.proofs.merge.Merge.advance.Goals as goal

pub returns-clause-run : goal.returns-clause-run
returns-clause-run g c start taken has =
    advances c.args.end start taken c.args.self.now c.next_by.new.self has c.last.result c.next_by.result
    c.last.ensures c.next_by.ensures.turn c.next_by.ensures.cause c.next_by.ensures.reads c.next_by.ensures.clock
    c.next_by.ensures.tallies c.next_by.ensures.record

pub returns-clause-tallied : goal.returns-clause-tallied
returns-clause-tallied g c start taken has =
    tallied c.args.end start taken c.args.self.now c.next_by.new.self c.next_by.result has
    (advances c.args.end start taken c.args.self.now c.next_by.new.self has c.last.result c.next_by.result
    c.last.ensures c.next_by.ensures.turn c.next_by.ensures.cause c.next_by.ensures.reads c.next_by.ensures.clock
    c.next_by.ensures.tallies c.next_by.ensures.record)
    c.next_by.ensures.tallies
