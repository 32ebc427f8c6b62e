use Rattle.words.proofs.operations.push_command.Goals as goal

pub returns-in-Nothing-clause-says : goal.returns-in-Nothing-clause-says
returns-in-Nothing-clause-says c = rw c.in-Nothing.is c.push.ensures

pub returns-in-LatchCount-clause-says : goal.returns-in-LatchCount-clause-says
returns-in-LatchCount-clause-says c = rw c.in-LatchCount.is c.push_latch.ensures.says

pub returns-in-SetMode-clause-says : goal.returns-in-SetMode-clause-says
returns-in-SetMode-clause-says c = rw c.in-SetMode.is c.push_mode_set.ensures.says
