use Rattle.pim_files.specs.Captures.{first_file}
use Rattle.pim_files.proofs.Several.{first_reader}
use Rattle.pim_files.proofs.port.open_first.Goals as goal

pub returns-clause-opened : goal.returns-clause-opened
returns-clause-opened g c =
    first_reader g.O.Reader.Feed.remaining (g.O.Opener.known c.args.opener.now).files (first_file c.args.port.now) c.new-readers.result.items c.push.new.self.items c.in_ok-reader.reader
    c.new-readers.ensures.items c.in-Ok.ensures.items c.in_ok-reader.ensures.opened
