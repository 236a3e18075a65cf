use Rattle.std.proofs.Common.{◌≡◌, ◌∙◌, ℕ, ◌+◌, ◌<◌, ◌≤◌, ◌==◌, cond, eqb, arith, length, ap, slice_index}
use Rattle.spa.proofs.Common.{Shape, list_of, choice_at, supervisor_of, Pair, in_project, with_supervisor}
use Rattle.spa.proofs.OneMore.{one_at_most}
use Rattle.spa.proofs.Places.{rest_end, count_none, count_some}
use Rattle.spa.proofs.matching.counted.Goals as goal
use Rattle.spa.proofs.matching.counted.Goals.{in-Some, in_default}

pub loop-student-init : goal.loop-student-init
loop-student-init c = record {
  projects = λ p. let e = c.new-counts.ensures.projects p in omega (arith, e);
  supervisors = λ r. let e = c.new-counts.ensures.supervisors r in omega (arith, e);
  few_in_project = λ p. let e = c.new-counts.ensures.projects p in omega (arith, e);
  few_with_supervisor = λ r. let e = c.new-counts.ensures.supervisors r in omega (arith, e);
}

pub add-requires-clause-in_project : goal.add-requires-clause-in_project
add-requires-clause-in_project c =
    let few = c.loop-student.invariant.few_in_project c.choice-project.result in
    let many = c.student_count-student-end.ensures.fit.limits.students in
    let each = c.requires.one_each in
    omega (arith, few, many, each, c.loop-student-test.true)

pub add-requires-clause-with_supervisor : goal.add-requires-clause-with_supervisor
add-requires-clause-with_supervisor c =
    let few = c.loop-student.invariant.few_with_supervisor c.supervisor_of.result in
    let many = c.student_count-student-end.ensures.fit.limits.students in
    let each = c.requires.one_each in
    omega (arith, few, many, each, c.loop-student-test.true)

pub loop-student-preserved : goal.loop-student-preserved
loop-student-preserved c =
    let i : Shape = c.args.instance.now.shape in
    let s : ℕ = c.loop-student.student in
    let each = c.requires.one_each in
    let known : s < length i.students = omega arith in
    let placed : s < length c.args.places.now = omega (arith, known, each) in
    let inv = c.loop-student.invariant in
    elim c.match-places-student.branch [
      | in-Some w ↦
          let chosen : ℕ = choice_at (list_of i s) w.in-Some.place in
          let project : w.choice-project.result ≡ chosen = w.choice-project.ensures.choice in
          let offerer : w.supervisor_of.result ≡ supervisor_of i chosen = w.supervisor_of.ensures ∙ ap (supervisor_of i) project in
          record {
            projects = λ p. rw w.counts-is
                (count_some (λ (e : Pair). e.project == p) s w.in-Some.place _ _ (in_project i c.args.places.now p) i.students c.args.places.now known placed (inv.projects p) w.in-Some.is
                (w.add.ensures.projects p ∙ ap (λ (x : ℕ). slice_index c.loop-student.counts.projects p + cond (eqb x p) 1 0) project));
            supervisors = λ r. rw w.counts-is
                (count_some (λ (e : Pair). supervisor_of i e.project == r) s w.in-Some.place _ _ (with_supervisor i c.args.places.now r) i.students c.args.places.now known placed (inv.supervisors r) w.in-Some.is
                (w.add.ensures.supervisors r ∙ ap (λ (x : ℕ). slice_index c.loop-student.counts.supervisors r + cond (eqb x r) 1 0) offerer));
            few_in_project = λ p. rw w.counts-is (let b = inv.few_in_project p in omega (arith, w.add.ensures.projects p, one_at_most (eqb w.choice-project.result p), b));
            few_with_supervisor = λ r. rw w.counts-is (let b = inv.few_with_supervisor r in omega (arith, w.add.ensures.supervisors r, one_at_most (eqb w.supervisor_of.result r), b));
          }
      | in_default w ↦
          record {
            projects = λ p. rw w.counts-is (count_none (λ (e : Pair). e.project == p) s _ _ i.students c.args.places.now known placed (inv.projects p) w.in_default.is);
            supervisors = λ r. rw w.counts-is (count_none (λ (e : Pair). supervisor_of i e.project == r) s _ _ i.students c.args.places.now known placed (inv.supervisors r) w.in_default.is);
            few_in_project = λ p. rw w.counts-is (let b = inv.few_in_project p in omega (arith, b));
            few_with_supervisor = λ r. rw w.counts-is (let b = inv.few_with_supervisor r in omega (arith, b));
          }
    ]

pub returns : goal.returns
returns c =
    let i : Shape = c.args.instance.now.shape in
    let each = c.requires.one_each in
    let past : length i.students ≤ c.loop-student.student = omega arith in
    record {
      projects = λ p. let left = rest_end (λ (e : Pair). e.project == p) c.loop-student.student i.students c.args.places.now past in let so = c.loop-student.invariant.projects p in omega (arith, left, so);
      supervisors = λ r. let left = rest_end (λ (e : Pair). supervisor_of i e.project == r) c.loop-student.student i.students c.args.places.now past in let so = c.loop-student.invariant.supervisors r in omega (arith, left, so);
    }
