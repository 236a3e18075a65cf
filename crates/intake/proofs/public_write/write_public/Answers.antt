use Rattle.std.proofs.Common.{length, arith, string_bytes}
use Rattle.intake.proofs.Posting.{known_all}
use Rattle.intake.proofs.RestOfText.{posted_written}
use Rattle.intake.proofs.public_write.write_public.Goals as goal

pub write_assigned-requires-clause-known : goal.write_assigned-requires-clause-known
write_assigned-requires-clause-known c = known_all c.args.posted.now.students.items c.deref-3.result.now (length c.args.posted.now.projects.items) (length c.args.projects.now) c.deref-3.ensures.value (omega (arith, c.requires.projects)) c.requires.known.known

pub returns : goal.returns
returns c = record {
  text = posted_written c.args.aim c.args.supervisors.now c.args.projects.now c.args.students.now c.args.posted.now (string_bytes c.new-out.result) _ _ _ _ _ _ c.requires.supervisors c.requires.projects
      c.new-out.ensures.bytes c.in_ok-write_aim.ensures.text (rw c.deref.ensures.value at c.in_ok-write_supervisors.ensures.text) (rw c.deref-2.ensures.value at c.in_ok-write_projects.ensures.text)
      (rw c.deref-3.ensures.value at c.in_ok-write_assigned.ensures) (rw c.deref-4.ensures.value at c.in_ok-write_prices.ensures.text) (rw c.deref-5.ensures.value at c.in_ok-write_prices-2.ensures.text);
}
