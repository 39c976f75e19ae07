use Rattle.pim_commands.proofs.build.build_task.Goals as goal

pub returns-clause-builds : goal.returns-clause-builds
returns-clause-builds g c = rw c.in-Build.is c.build_into.ensures.builds
