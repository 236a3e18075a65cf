use Rattle.std.proofs.Common.{ℕ, List, map, ap, subst, ◌∙◌}
use Rattle.intake.proofs.Common.{Bor, IfOk-weaker, draft_of, AddsLine}
use Rattle.intake.proofs.Sections.{fields_of}
use Rattle.intake.proofs.draft.PartialRound.add_line.Goals as goal

pub returns : goal.returns
returns c =
    let fields = ap (map (λ (f : Bor (List ℕ)). f.now)) c.deref.ensures.value ∙ c.in_ok-fields.ensures in
    IfOk-weaker c.add.result (λ b. AddsLine c.args.kind (draft_of c.args.self.now) (map (λ f. f.now) c.deref.result.now) (draft_of c.add.new.self) b) (λ b. AddsLine c.args.kind (draft_of c.args.self.now) (fields_of c.args.line.now) (draft_of c.add.new.self) b)
    (λ b h. subst (λ (x : List (List ℕ)). AddsLine c.args.kind (draft_of c.args.self.now) x (draft_of c.add.new.self) b) fields h) c.add.ensures
