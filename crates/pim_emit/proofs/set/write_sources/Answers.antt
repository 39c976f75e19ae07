use Rattle.std.proofs.Common.{rules, arith}
use Rattle.pim_emit.proofs.Room.{few_fit}
use Rattle.pim_emit.proofs.set.write_sources.Goals as goal

pub from_fn-nexts-requires : goal.from_fn-nexts-requires
from_fn-nexts-requires g c = (few_fit 8 _ c.size_of_val.result c.size_of_val.ensures c.if-size_of_val-gt-LARGEST.false (omega arith), search rules)

pub whole_as_slice-write_sources_ahead-then-port_count-le-FEW :
    goal.whole_as_slice-write_sources_ahead-then-port_count-le-FEW
whole_as_slice-write_sources_ahead-then-port_count-le-FEW g c = few_fit 8 _ c.size_of_val.result c.size_of_val.ensures c.if-size_of_val-gt-LARGEST.false (omega arith)

pub array_drop-nexts-requires : goal.array_drop-nexts-requires
array_drop-nexts-requires g c = few_fit 8 _ c.size_of_val.result c.size_of_val.ensures c.if-size_of_val-gt-LARGEST.false (omega arith)

pub from_fn-nexts-requires-2 : goal.from_fn-nexts-requires-2
from_fn-nexts-requires-2 g c = (few_fit 64 _ c.size_of_val.result c.size_of_val.ensures c.if-size_of_val-gt-LARGEST.false (omega arith), search rules)

pub whole_as_slice-write_sources_ahead-2 : goal.whole_as_slice-write_sources_ahead-2
whole_as_slice-write_sources_ahead-2 g c = few_fit 64 _ c.size_of_val.result c.size_of_val.ensures c.if-size_of_val-gt-LARGEST.false (omega arith)

pub array_drop-nexts-requires-2 : goal.array_drop-nexts-requires-2
array_drop-nexts-requires-2 g c = few_fit 64 _ c.size_of_val.result c.size_of_val.ensures c.if-size_of_val-gt-LARGEST.false (omega arith)
