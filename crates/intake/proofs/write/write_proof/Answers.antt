use Rattle.std.proofs.Common.{string_bytes}
use Rattle.intake.proofs.RestOfText.{four_written}
use Rattle.intake.proofs.write.write_proof.Goals as goal

pub returns : goal.returns
returns c = record {
  text = λ aim. four_written c.args.instance.now aim c.args.matching.now.places.items c.args.prices.now (string_bytes c.args.out.now)
      (string_bytes c.write_pairs.new.out) (string_bytes c.write_prices.new.out) (string_bytes c.write_prices-2.new.out) (string_bytes c.write_prices-3.new.out)
      c.student_codes.ensures.fit
      (rw c.deref.ensures.value at c.in_ok-write_pairs.ensures)
      (rw (c.student_codes.ensures.codes, c.deref-2.ensures.value) at c.in_ok-write_prices.ensures.text)
      (rw (c.project_codes.ensures.codes, c.deref-3.ensures.value) at c.in_ok-write_prices-2.ensures.text)
      (rw (c.supervisor_codes.ensures.codes, c.deref-4.ensures.value) at c.in_ok-write_prices-3.ensures.text);
  students = rw c.deref-2.ensures.value at c.in_ok-write_prices.ensures.numbers;
  projects = rw c.deref-3.ensures.value at c.in_ok-write_prices-2.ensures.numbers;
  supervisors = rw c.deref-4.ensures.value at c.in_ok-write_prices-3.ensures.numbers;
}
