use Rattle.std.proofs.Common.{arith}
use Rattle.pim_emit.proofs.SharedTree.{wanted_there, none_up_to}
use Rattle.pim_emit.proofs.stars.wants_shared.Goals as goal

pub returns-then-not-is_pruned : goal.returns-then-not-is_pruned
returns-then-not-is_pruned g c =
    let bytes_of = g.F.Family.bytes_of in
    wanted_there c.args.ports.now (bytes_of c.args.held.now.source) (bytes_of c.args.group) c.args.first c.args.held.now.state c.requires.first c.requires.state
    c.if-not-is_pruned.ensures

pub wants_from-requires : goal.wants_from-requires
wants_from-requires g c =
    let bytes_of = g.F.Family.bytes_of in
    record {
      stars = c.requires.stars;
      within = omega (arith, c.requires.first.0);
      none = none_up_to c.args.ports.now (bytes_of c.args.held.now.source) (bytes_of c.args.group) c.args.first c.args.held.now.state c.requires.first c.requires.state
          c.if-not-is_pruned.ensures;
    }

pub overflow_add-first : goal.overflow_add-first
overflow_add-first g c = omega (arith, c.requires.first.0, c.is_sound.ensures.ports)
