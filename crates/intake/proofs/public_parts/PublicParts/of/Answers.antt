use Rattle.std.proofs.Common.{◌≡◌, ℕ, ◌-◌, ◌++◌, length, map, replicate, refl, sym, ap, subst, ◌∙◌, arith, rules}
use Rattle.intake.proofs.Common.{IsRoll, length-map, zeros}
use Rattle.public_result.specs.declared.posted.Posted.{Posted}
use Rattle.intake.specs.declared.public_parts.PublicParts.{PublicParts}
use Rattle.intake.proofs.Posting.{IsMade, listed_read, made_lines, made_parts, offered_read, project_prices_few, supervisor_prices_few}
use Rattle.intake.proofs.Rolls.{project_keys, supervisor_keys}
use Rattle.intake.proofs.public_parts.PublicParts.of.Goals as goal

pub post_projects-requires-clause-roll : goal.post_projects-requires-clause-roll
post_projects-requires-clause-roll c = subst IsRoll (supervisor_keys c.args.draft.supervisors.items ∙ ap (map (λ e. e.0)) (sym c.deref-2.ensures.value)) c.requires.instance.supervisors

pub post_projects-requires-clause-known : goal.post_projects-requires-clause-known
post_projects-requires-clause-known c = offered_read c.args.draft c.requires _ _ c.deref-2.ensures.value c.deref-3.ensures.value

pub post_students-requires-clause-roll : goal.post_students-requires-clause-roll
post_students-requires-clause-roll c = subst IsRoll (project_keys c.args.draft.projects.items ∙ ap (map (λ e. e.0)) (sym c.deref-4.ensures.value)) c.requires.instance.projects

pub post_students-requires-clause-lists : goal.post_students-requires-clause-lists
post_students-requires-clause-lists c = listed_read c.args.draft c.requires _ _ c.deref-4.ensures.value c.deref-5.ensures.value

pub fill-requires : goal.fill-requires
fill-requires c =
    let len : c.len.result ≡ length c.in_ok-projects.projects.items = search rules in
    omega (arith, len, ap length c.in_ok-projects.ensures.code, length-map c.deref-3.result.now (λ e. e.0), ap length c.deref-3.ensures.value, project_prices_few c.args.draft c.requires)

pub fill-requires-2 : goal.fill-requires-2
fill-requires-2 c =
    let len : c.len-2.result ≡ length c.in_ok-supervisors.supervisors.items = search rules in
    omega (arith, len, ap length c.in_ok-supervisors.ensures.code, length-map c.deref.result.now (λ e. e.0), ap length c.deref.ensures.value, supervisor_prices_few c.args.draft c.requires)

pub returns : goal.returns
returns c =
    let d = c.args.draft in
    let first : c.len.result ≡ length c.in_ok-projects.projects.items = search rules in
    let second : c.len-2.result ≡ length c.in_ok-supervisors.supervisors.items = search rules in
    let posted : Posted = record { supervisors = c.in_ok-supervisors.quotas; projects = c.in_ok-projects.offers; students = c.in_ok-students.assigned; project_prices = c.fill.new.list; supervisor_prices = c.fill-2.new.list } in
    let r : PublicParts = record { aim = d.aim; supervisors = c.in_ok-supervisors.supervisors; projects = c.in_ok-projects.projects; students = c.in_ok-students.students; posted = posted } in
    let m : IsMade d r = record {
      aim = refl;
      supervisors = rw c.deref.ensures.value at c.in_ok-supervisors.ensures;
      projects = rw (c.deref-2.ensures.value, c.deref-3.ensures.value) at c.in_ok-projects.ensures;
      students = rw (c.deref-4.ensures.value, c.deref-5.ensures.value) at c.in_ok-students.ensures;
      project_prices = c.in_ok-fill.ensures ∙ ap (λ (n : ℕ). d.prices.projects.items ++ replicate (n - length d.prices.projects.items) zeros) first;
      supervisor_prices = c.in_ok-fill-2.ensures ∙ ap (λ (n : ℕ). d.prices.supervisors.items ++ replicate (n - length d.prices.supervisors.items) zeros) second;
    } in
    record { parts = made_parts d r c.requires m; lines = made_lines d r c.requires m }
