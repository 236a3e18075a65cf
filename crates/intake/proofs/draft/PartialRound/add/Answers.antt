use Rattle.std.proofs.Common.{ℕ, List, ◌∷◌, map, ap, ◌∙◌}
use Rattle.intake.proofs.Common.{Bor, IfOk-weaker, draft_of, AddsEntry, AddsLine}
use Rattle.intake.proofs.One.{adds_line}
use Rattle.intake.proofs.draft.PartialRound.add.Goals as goal

pub returns : goal.returns
returns c =
    let fields = ap (map (λ (f : Bor (List ℕ)). f.now)) c.in-Some.ensures.cases.0 ∙ ap (λ (l : List ℕ). l ∷ map (λ (f : Bor (List ℕ)). f.now) c.in-Some.row.now) c.in-Some-section_of.ensures in
    IfOk-weaker c.add_to.result (λ b. AddsEntry c.args.kind c.in-Some-section_of.section (draft_of c.args.self.now) (map (λ f. f.now) c.in-Some.row.now) (draft_of c.add_to.new.self) b) (λ b. AddsLine c.args.kind (draft_of c.args.self.now) (map (λ f. f.now) c.args.fields.now) (draft_of c.add_to.new.self) b)
    (λ b h. adds_line c.args.kind c.in-Some-section_of.section (draft_of c.args.self.now) _ _ (draft_of c.add_to.new.self) b fields (c.may_come_next.ensures.0 c.if-not-may_come_next.false) h) c.add_to.ensures
