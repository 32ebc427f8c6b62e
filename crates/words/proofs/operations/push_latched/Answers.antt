use Rattle.words.proofs.operations.push_latched.Goals as goal

pub returns-in-true-true-clause-says : goal.returns-in-true-true-clause-says
returns-in-true-true-clause-says c = rw (c.in-true-true.is-0, c.in-true-true.is-1) c.push.ensures
