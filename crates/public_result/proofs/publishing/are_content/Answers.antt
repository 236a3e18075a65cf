use Rattle.std.proofs.Common.{ℕ, List, [], get_or, None, arith, below_more, refl, subst}
use Rattle.public_result.proofs.Common.{IsContent, order}
use Rattle.public_result.proofs.publishing.are_content.Goals as goal

pub loop-student-init : goal.loop-student-init
loop-student-init c = λ s h. absurd (omega arith)

pub loop-student-preserved : goal.loop-student-preserved
loop-student-preserved c =
    let t = c.args.posted.now in
    let lists : List (List ℕ) = c.args.instance.now.shape.students in
    let accepts = rw c.if-is_err.false at c.is_err.ensures.negation in
    below_more (λ s. IsContent (order c.args.aim) t (get_or lists s []) (get_or t.students.items s None)) c.loop-student.student c.loop-student.invariant
    (subst (λ (xs : List ℕ). IsContent (order c.args.aim) t xs (get_or t.students.items c.loop-student.student None)) c.list.ensures (c.check_own.ensures.accepted.0 accepts))

pub returns : goal.returns
returns c = (
  λ _. record {
    one_each = let e = c.student_count.ensures.count in let same = c.if-len-student_count.false in omega (arith, e, same, c.len.ensures);
    each = λ s h. let e = c.student_count-student-end.ensures.count in c.loop-student.invariant s (omega (arith, h, e, c.loop-student-test.false));
  },
  λ _. refl,
)
