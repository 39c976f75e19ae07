use Rattle.std.proofs.Common.{length, sym, ap, ◌∙◌}
use Rattle.pim_frame.specs.Folded.{folded}
use Rattle.pim_frame.specs.Sum.{words_sum, pseudo_header}
use Rattle.pim_frame.proofs.Sums.{folded-add, words_sum-append}
use Rattle.pim_frame.proofs.checksum.folded_sum.Goals as goal

pub returns-clause-sum : goal.returns-clause-sum
returns-clause-sum g c =
    let header = pseudo_header g.F.Family.family (g.F.Family.bytes_of c.args.src) (g.F.Family.bytes_of c.args.dst) (length c.args.message.now) in
    rw (c.add_bytes.ensures, c.pseudo_header_sum-start.ensures.sum)
    (folded-add (words_sum header) (words_sum c.args.message.now) ∙ ap folded (sym (words_sum-append header c.args.message.now c.pseudo_header_sum-start.ensures.whole)))
