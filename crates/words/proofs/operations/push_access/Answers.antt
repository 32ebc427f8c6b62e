use Rattle.words.proofs.operations.push_access.Goals as goal

pub returns-in-Msb-clause-says : goal.returns-in-Msb-clause-says
returns-in-Msb-clause-says c = rw c.in-Msb.is c.push-in-Msb.ensures

pub returns-in-LsbMsb-clause-says : goal.returns-in-LsbMsb-clause-says
returns-in-LsbMsb-clause-says c = rw c.in-LsbMsb.is c.push-in-LsbMsb.ensures
