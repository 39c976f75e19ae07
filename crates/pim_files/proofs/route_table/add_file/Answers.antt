use Rattle.pim_files.proofs.route_table.add_file.Goals as goal

pub returns-in-Ok-read_routes-clause-rows : goal.returns-in-Ok-read_routes-clause-rows
returns-in-Ok-read_routes-clause-rows g c = record {
  before = c.in-Ok.reader;
  after = c.read_routes.new.reader;
  opened = c.in-Ok.ensures.opened;
  reads = c.in-Ok-read_routes.ensures.reads;
  failed = c.in-Ok-read_routes.ensures.failed;
}

pub returns-clause-rows : goal.returns-clause-rows
returns-clause-rows g c = (
  c.read_routes.new.routes,
  record {
    before = c.in-Ok.reader;
    after = c.read_routes.new.reader;
    opened = c.in-Ok.ensures.opened;
    reads = c.in-Err.ensures.reads;
    failed = c.in-Err.ensures.failed;
  },
)
