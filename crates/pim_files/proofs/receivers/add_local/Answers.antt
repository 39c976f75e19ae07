use Rattle.pim_files.proofs.receivers.add_local.Goals as goal

pub returns-in-Ok-read_local-clause-joins : goal.returns-in-Ok-read_local-clause-joins
returns-in-Ok-read_local-clause-joins g c = record {
  before = c.in-Ok.reader;
  after = c.read_local.new.reader;
  opened = c.in-Ok.ensures.opened;
  reads = c.in-Ok-read_local.ensures.reads;
  failed = c.in-Ok-read_local.ensures.failed;
}

pub returns-clause-joins : goal.returns-clause-joins
returns-clause-joins g c = (
  c.read_local.new.joins,
  record {
    before = c.in-Ok.reader;
    after = c.read_local.new.reader;
    opened = c.in-Ok.ensures.opened;
    reads = c.in-Err.ensures.reads;
    failed = c.in-Err.ensures.failed;
  },
)
