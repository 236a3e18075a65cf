use Rattle.std.proofs.Common.{◌≡◌, ℕ, ◌++◌, ◌-◌, length, replicate, None, refl, sym, ap, subst, ◌∙◌, arith, rules}
use Rattle.intake.proofs.Common.{IsPlace, IsRoundParts, Round, lines_of, draft_of}
use Rattle.intake.proofs.Rolls.{student_count}
use Rattle.intake.proofs.Ends.{whole_parts, no_fault, placed_lines, same_parts}
use Rattle.intake.proofs.Where.{first_few}
use Rattle.intake.proofs.draft.PartialRound.finish.Goals as goal

pub fill-requires : goal.fill-requires
fill-requires c =
    let len : c.len.result ≡ length c.args.self.students.items = search (rules) in
    omega (arith, len, first_few IsPlace _ _ c.requires.draft.places, student_count c.args.self.students.items)

pub unreachable-requires : goal.unreachable-requires
unreachable-requires c = c.in_default.not-Memory (no_fault _ c.in-Err.fault c.requires.draft c.in-Err.ensures.fault)

pub returns-in-Ok-clause-parts : goal.returns-in-Ok-clause-parts
returns-in-Ok-clause-parts c =
    let len : c.len.result ≡ length c.args.self.students.items = search (rules) in
    let full = c.in_ok-fill.ensures ∙ ap (λ (n : ℕ). c.args.self.places.items ++ replicate (n - length c.args.self.places.items) None) (len ∙ sym (student_count c.args.self.students.items)) in
    subst IsRoundParts (sym (same_parts _ _ _ _ _ _ _ _ _ _ _ _ refl c.in-Ok.ensures.made full refl refl refl)) (whole_parts _ c.requires.draft c.requires.whole)

pub returns-in-Ok-clause-lines : goal.returns-in-Ok-clause-lines
returns-in-Ok-clause-lines c =
    let len : c.len.result ≡ length c.args.self.students.items = search (rules) in
    let full = c.in_ok-fill.ensures ∙ ap (λ (n : ℕ). c.args.self.places.items ++ replicate (n - length c.args.self.places.items) None) (len ∙ sym (student_count c.args.self.students.items)) in
    ap (lines_of Round) (same_parts _ _ _ _ _ _ _ _ _ _ _ _ refl c.in-Ok.ensures.made full refl refl refl) ∙ placed_lines (draft_of c.args.self)
