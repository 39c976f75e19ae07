use Rattle.pim_files.proofs.Words.{◌<◌, vec_len, RequestsFor, names_of, HaveFiles}
use Rattle.pim_files.proofs.Further.{files_by}
use Rattle.pim_files.proofs.port.open_port.Given as goal

-- the port's file and those of its further files that come before this one are open
abbrev pub invariant-loop-one : goal.invariant-loop-one
invariant-loop-one g l = record {
  some : 0 < vec_len l.readers;
  requested : RequestsFor (g.O.Opener.known l.fn.opener) (g.O.Opener.known l.opener) (names_of (files_by l.number l.port l.further l.one-index));
  held : HaveFiles g.O.Reader.Feed.remaining (g.O.Opener.known l.fn.opener).files (files_by l.number l.port l.further l.one-index) l.readers.items;
}
