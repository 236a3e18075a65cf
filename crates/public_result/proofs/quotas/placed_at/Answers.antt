use Rattle.std.proofs.Common.{◌≡◌, ◌<◌, ◌+◌, ◌==◌, ℕ, List, length, cond, Bool, Option, None, get_or, arith, sym, ◌∙◌, ap, eqb, true, false, eq-eqb, ne_eqb}
use Rattle.public_result.proofs.Common.{Pair, in_project, get_or_default}
use Rattle.public_result.proofs.Counts.{count_none, count_some, rest_end}
use Rattle.public_result.proofs.quotas.placed_at.Goals as goal
use Rattle.public_result.proofs.quotas.placed_at.Goals.{in-Some+then-assigned-project, in-Some+else-assigned-project, in_default}

pub loop-student-preserved : goal.loop-student-preserved
loop-student-preserved c =
    let ps : List (Option ℕ) = c.args.posted.now.students.items in
    let s : ℕ = c.loop-student.student in
    let m : ℕ = c.loop-student.placed in
    let h : s < length ps = omega (arith, c.loop-student-test.true, c.len-student-end.ensures) in
    let read : get_or ps s None ≡ c.index.result.now = get_or_default ps s None c.index.result.now h ∙ sym c.index.ensures in
    let so = c.loop-student.invariant.counted in
    let few = c.loop-student.invariant.few in
    elim c.match-index.branch [
      | in-Some+then-assigned-project w ↦
          let e : eqb w.in-Some.assigned c.args.project ≡ true = eq-eqb w.in-Some.assigned c.args.project w.if-assigned-project.true in
          record {
            counted = rw w.placed-is (count_some (λ (e : Pair). e.project == c.args.project) s w.in-Some.assigned m (m + 1) (in_project c.args.posted.now c.args.project) ps h so (read ∙ w.in-Some.is) (ap (λ (b : Bool). m + cond b 1 0) (sym e)));
            few = rw w.placed-is (omega (arith, few));
          }
      | in-Some+else-assigned-project w ↦
          let e : eqb w.in-Some.assigned c.args.project ≡ false = ne_eqb w.in-Some.assigned c.args.project w.if-assigned-project.false in
          record {
            counted = rw w.placed-is (count_some (λ (e : Pair). e.project == c.args.project) s w.in-Some.assigned m m (in_project c.args.posted.now c.args.project) ps h so (read ∙ w.in-Some.is) (omega arith ∙ ap (λ (b : Bool). m + cond b 1 0) (sym e)));
            few = rw w.placed-is (omega (arith, few));
          }
      | in_default w ↦
          record {
            counted = rw w.placed-is (count_none (λ (e : Pair). e.project == c.args.project) s m (in_project c.args.posted.now c.args.project) ps h so (read ∙ w.in_default.is));
            few = rw w.placed-is (omega (arith, few));
          }
    ]

pub returns : goal.returns
returns c =
    let ps : List (Option ℕ) = c.args.posted.now.students.items in
    let left = rest_end (λ (e : Pair). e.project == c.args.project) c.loop-student.student ps (omega (arith, c.len-student-end.ensures)) in
    let so = c.loop-student.invariant.counted in
    omega (arith, left, so)
