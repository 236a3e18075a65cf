use Rattle.desk_tests.proofs.in_memory.InMemoryWorld.open.Goals as goal

-- what the files hold is what is found in them
pub returns-in-Ok-clause-found : goal.returns-in-Ok-clause-found
returns-in-Ok-clause-found g c = λ clean. let found = c.in-Ok.ensures.found clean in record { holds = found.holds; reads = found.reads }
