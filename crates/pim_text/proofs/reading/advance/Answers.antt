use Rattle.std.proofs.Common.{ap, ◌&&◌}
use Rattle.pim_text.proofs.reading.advance.Goals as goal

pub returns : goal.returns
returns c = record {
  line = c.in_ok-found.found.line;
  is = c.in_ok-found.ensures.read.0;
  expects = c.in_ok-found.ensures.read.1;
  only = λ other next expects is. c.in_ok-found.ensures.only other next expects is;
  ipv4 = ap (λ b. c.args.progress.all_ipv4 && b) c.line_is_in-ipv4.ensures;
  ipv6 = ap (λ b. c.args.progress.all_ipv6 && b) c.line_is_in-ipv6.ensures;
}
