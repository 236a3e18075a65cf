use Rattle.std.proofs.Common.{◌≡◌, ◌<◌, ◌≤◌, ℕ, List, [], length, get_or, take, Option, Some, None, ap, sym, ◌∙◌, arith}
use Rattle.std.proofs.lemmas.List.{take_all}
use Rattle.std.proofs.lemmas.Option.{slice_get-get_or}
use Rattle.public_result.proofs.Common.{chosen, assigned_at, get_or_default}
use Rattle.public_result.proofs.Chosen.{chosen_more}
use Rattle.public_result.proofs.posting.projects_of.Goals as goal

pub project_at-requires : goal.project_at-requires
project_at-requires c =
    let ks : List (Option ℕ) = c.args.matching.now.places.items in
    let s : ℕ = c.loop-student.student in
    let h : s < length ks = omega (arith, c.loop-student-test.true, c.len-student-end.ensures) in
    λ k e. c.requires.in_list s k (slice_get-get_or ks s c.index.result.now h ∙ ap Some (sym c.index.ensures ∙ e))

pub loop-student-preserved : goal.loop-student-preserved
loop-student-preserved c =
    let ks : List (Option ℕ) = c.args.matching.now.places.items in
    let lists : List (List ℕ) = c.args.instance.now.shape.students in
    let s : ℕ = c.loop-student.student in
    let h : s < length ks = omega (arith, c.loop-student-test.true, c.len-student-end.ensures) in
    let each = c.requires.one_each in
    let g : s < length lists = omega (arith, h, each) in
    let is : c.project_at.result ≡ assigned_at (get_or lists s []) (get_or ks s None) = c.project_at.ensures ∙ ap (assigned_at (get_or lists s [])) (c.index.ensures ∙ get_or_default ks s c.index.result.now None h) in
    let grown = c.in_ok-push.ensures in
    grown.items ∙ chosen_more c.loop-student.assigned.items s lists ks c.project_at.result g h c.loop-student.invariant is

pub returns : goal.returns
returns c =
    let ks : List (Option ℕ) = c.args.matching.now.places.items in
    let lists : List (List ℕ) = c.args.instance.now.shape.students in
    let s : ℕ = c.loop-student.student in
    let each = c.requires.one_each in
    let past : length ks ≤ s = omega (arith, c.loop-student-test.false, c.len-student-end.ensures) in
    let beyond : length lists ≤ s = omega (arith, past, each) in
    c.loop-student.invariant ∙ ap (λ (xss : List (List ℕ)). chosen xss (take s ks)) (take_all s lists beyond) ∙ ap (chosen lists) (take_all s ks past)
