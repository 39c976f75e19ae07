use Rattle.std.proofs.Common.{arith}
use Rattle.pim_merge.proofs.Lengths.{fits_bound}
use Rattle.pim_merge.proofs.Needing.{memory_of}
use Rattle.pim_merge.proofs.source.Source.next.Goals as goal

pub returns-in-Classic-clause-length : goal.returns-in-Classic-clause-length
returns-in-Classic-clause-length g c =
    fits_bound c.next.result c.in-Classic.capture.state (g.R.Feed.remaining c.in-Classic.capture.reader) _ _ c.requires.length c.next.ensures.length

pub returns-in-Classic-clause-memory : goal.returns-in-Classic-clause-memory
returns-in-Classic-clause-memory g c = rw (c.in-Classic.is) (memory_of c.next.result _ _ (λ lacks. (lacks, tt)) c.next.ensures.memory)

pub returns-in-Classic-clause-piece : goal.returns-in-Classic-clause-piece
returns-in-Classic-clause-piece g c = rw (c.in-Classic.is) (omega arith)

pub returns-in-Any-clause-memory : goal.returns-in-Any-clause-memory
returns-in-Any-clause-memory g c = rw (c.in-Any.is) (memory_of c.next-in-Any.result _ _ (λ asks. (omega arith, asks)) c.next-in-Any.ensures.memory)
