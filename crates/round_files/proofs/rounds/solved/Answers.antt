use Rattle.round_files.proofs.rounds.solved.Goals as goal

pub write_round-requires-clause-supervisors : goal.write_round-requires-clause-supervisors
write_round-requires-clause-supervisors c = c.in_ok-parts.ensures.reading.0.instance.supervisors.rise

pub write_round-requires-clause-projects : goal.write_round-requires-clause-projects
write_round-requires-clause-projects c = c.in_ok-parts.ensures.reading.0.instance.projects.rise

pub write_round-requires-clause-students : goal.write_round-requires-clause-students
write_round-requires-clause-students c = c.in_ok-parts.ensures.reading.0.instance.students.rise

pub returns : goal.returns
returns c = record {
  round = c.in_ok-parts.parts;
  solved = c.in_ok-solved.solved;
  read = c.in_ok-parts.ensures.reading;
  best = c.in_ok-solved.ensures.proved;
  is = c.in_ok-write_round.ensures.text;
}
