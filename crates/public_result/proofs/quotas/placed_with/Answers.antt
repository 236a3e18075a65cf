use Rattle.std.proofs.Common.{◌≡◌, ◌<◌, ◌+◌, ◌==◌, ℕ, List, length, cond, Bool, Option, Some, None, get_or, arith, sym, ◌∙◌, ap, eqb, true, false, eq-eqb, ne_eqb}
use Rattle.public_result.proofs.Common.{Pair, offerer, with_supervisor, get_or_default}
use Rattle.public_result.proofs.Counts.{count_none, count_some, rest_end}
use Rattle.public_result.proofs.quotas.placed_with.Goals as goal
use Rattle.public_result.proofs.quotas.placed_with.Goals.{in-Some+then-index-supervisor, in-Some+else-index-supervisor, in_default}

pub index-requires-in-Some : goal.index-requires-in-Some
index-requires-in-Some c =
    let ps : List (Option ℕ) = c.args.posted.now.students.items in
    let s : ℕ = c.loop-student.student in
    let h : s < length ps = omega (arith, c.loop-student-test.true, c.len-student-end.ensures) in
    let read : get_or ps s None ≡ Some c.in-Some.assigned = get_or_default ps s None c.index.result.now h ∙ sym c.index.ensures ∙ c.in-Some.is in
    let known = c.requires.known s c.in-Some.assigned h read in omega (arith, known)

pub loop-student-preserved : goal.loop-student-preserved
loop-student-preserved c =
    let ps : List (Option ℕ) = c.args.posted.now.students.items in
    let s : ℕ = c.loop-student.student in
    let m : ℕ = c.loop-student.placed in
    let h : s < length ps = omega (arith, c.loop-student-test.true, c.len-student-end.ensures) in
    let read : get_or ps s None ≡ c.index.result.now = get_or_default ps s None c.index.result.now h ∙ sym c.index.ensures in
    let so = c.loop-student.invariant.counted in
    let few = c.loop-student.invariant.few in
    let of : ℕ → ℕ = offerer c.args.posted.now in
    elim c.match-index.branch [
      | in-Some+then-index-supervisor w ↦
          let known = c.requires.known s w.in-Some.assigned h (read ∙ w.in-Some.is) in
          let whose : w.index-in-Some.result.now.0 ≡ of w.in-Some.assigned = ap (λ (e : ℕ × ℕ). e.0) (w.index-in-Some.ensures ∙ get_or_default c.args.posted.now.projects.items w.in-Some.assigned w.index-in-Some.result.now (0, 0) known) in
          let e : eqb (of w.in-Some.assigned) c.args.supervisor ≡ true = eq-eqb (of w.in-Some.assigned) c.args.supervisor (sym whose ∙ w.if-index-supervisor.true) in
          record {
            counted = rw w.placed-is (count_some (λ (e : Pair). of e.project == c.args.supervisor) s w.in-Some.assigned m (m + 1) (with_supervisor c.args.posted.now c.args.supervisor) ps h so (read ∙ w.in-Some.is) (ap (λ (b : Bool). m + cond b 1 0) (sym e)));
            few = rw w.placed-is (omega (arith, few));
          }
      | in-Some+else-index-supervisor w ↦
          let known = c.requires.known s w.in-Some.assigned h (read ∙ w.in-Some.is) in
          let whose : w.index-in-Some.result.now.0 ≡ of w.in-Some.assigned = ap (λ (e : ℕ × ℕ). e.0) (w.index-in-Some.ensures ∙ get_or_default c.args.posted.now.projects.items w.in-Some.assigned w.index-in-Some.result.now (0, 0) known) in
          let e : eqb (of w.in-Some.assigned) c.args.supervisor ≡ false = ne_eqb (of w.in-Some.assigned) c.args.supervisor (λ x. w.if-index-supervisor.false (whose ∙ x)) in
          record {
            counted = rw w.placed-is (count_some (λ (e : Pair). of e.project == c.args.supervisor) s w.in-Some.assigned m m (with_supervisor c.args.posted.now c.args.supervisor) ps h so (read ∙ w.in-Some.is) (omega arith ∙ ap (λ (b : Bool). m + cond b 1 0) (sym e)));
            few = rw w.placed-is (omega (arith, few));
          }
      | in_default w ↦
          record {
            counted = rw w.placed-is (count_none (λ (e : Pair). of e.project == c.args.supervisor) s m (with_supervisor c.args.posted.now c.args.supervisor) ps h so (read ∙ w.in_default.is));
            few = rw w.placed-is (omega (arith, few));
          }
    ]

pub returns : goal.returns
returns c =
    let ps : List (Option ℕ) = c.args.posted.now.students.items in
    let left = rest_end (λ (e : Pair). offerer c.args.posted.now e.project == c.args.supervisor) c.loop-student.student ps (omega (arith, c.len-student-end.ensures)) in
    let so = c.loop-student.invariant.counted in
    omega (arith, left, so)
