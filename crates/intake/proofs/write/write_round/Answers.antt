use Rattle.std.proofs.Common.{◌≡◌, ℕ, ◌≤◌, List, length, ◌++◌, map, string_bytes, Option, None, IfSome, ap, ◌∙◌, sym, subst}
use Rattle.intake.proofs.Common.{Bor, Aim, Prices, IsMatched, instance_of, students_named, HasShape, MAX_BYTES, IsRoundParts, round_text, instance_text, written}
use Rattle.spa.specs.declared.matching.Matching.{Matching}
use Rattle.intake.proofs.Whole.{HasForms, HasRises, HasNumbers, alone_whole, proved_whole}
use Rattle.intake.proofs.Size.{text_small}
use Rattle.intake.proofs.Alone.{no_pairs, instance_alone}
use Rattle.intake.proofs.RestOfText.{joined}
use Rattle.intake.proofs.write.write_round.Goals as goal
use Rattle.intake.proofs.write.write_round.Goals.{in-Some+in_ok-write_proof, in_default}

pub returns : goal.returns
returns c =
    let i = c.args.instance.now in
    let aim : Aim = c.args.aim in
    let written_so : string_bytes c.write_instance.new.out ≡ instance_text aim (instance_of i) = c.in_ok-write_instance.ensures.text ∙ ap (λ (o : List ℕ). o ++ instance_text aim (instance_of i)) c.new-out.ensures.bytes in
    let form : HasForms i = record { supervisors = c.in_ok-write_instance.ensures.supervisors; projects = c.in_ok-write_instance.ensures.projects; students = c.in_ok-write_instance.ensures.students } in
    let rise : HasRises i = record { supervisors = c.requires.supervisors; projects = c.requires.projects; students = c.requires.students } in
    elim c.match-proof.branch [
      | in-Some+in_ok-write_proof w ↦
          let shown = λ (p : Option (Bor Matching × Bor Prices)). round_text (written i aim p) in
          let matched : IsMatched i.shape w.in-Some.matching.now.places.items = subst (λ (p : Option (Bor Matching × Bor Prices)). IfSome p (λ p. IsMatched i.shape p.0.now.places.items)) w.in-Some.is c.requires.matching in
          let shape : HasShape i.shape w.in-Some.prices.now = subst (λ (p : Option (Bor Matching × Bor Prices)). IfSome p (λ p. HasShape i.shape p.1.now)) w.in-Some.is c.requires.shape in
          let numbers : HasNumbers w.in-Some.prices.now = record { students = w.in_ok-write_proof.ensures.students; projects = w.in_ok-write_proof.ensures.projects; supervisors = w.in_ok-write_proof.ensures.supervisors } in
          let text = ap string_bytes w.out-is ∙ joined i aim w.in-Some.matching.now.places.items w.in-Some.prices.now (string_bytes c.write_instance.new.out) (string_bytes w.write_proof.new.out) written_so (w.in_ok-write_proof.ensures.text aim) ∙ ap shown (sym w.in-Some.is) in
          let parts : IsRoundParts (written i aim c.args.proof) = subst (λ (p : Option (Bor Matching × Bor Prices)). IsRoundParts (written i aim p)) (sym w.in-Some.is) (proved_whole i aim w.in-Some.matching.now.places.items w.in-Some.prices.now c.in_ok-write_instance.ensures.fit form rise matched.places shape numbers) in
          record { text = text; small = subst (λ (out : List ℕ). length out ≤ MAX_BYTES) (sym text) (text_small (written i aim c.args.proof) parts); parts = parts }
      | in_default w ↦
          let shown = λ (p : Option (Bor Matching × Bor Prices)). round_text (written i aim p) in
          let text = ap string_bytes w.out-is ∙ written_so ∙ instance_alone aim (instance_of i) (map (λ e. None) i.shape.students) (no_pairs (students_named i.project_codes i.student_codes i.shape.students) i.shape.students) ∙ ap shown (sym w.in_default.is) in
          let parts : IsRoundParts (written i aim c.args.proof) = subst (λ (p : Option (Bor Matching × Bor Prices)). IsRoundParts (written i aim p)) (sym w.in_default.is) (alone_whole i aim c.in_ok-write_instance.ensures.fit form rise) in
          record { text = text; small = subst (λ (out : List ℕ). length out ≤ MAX_BYTES) (sym text) (text_small (written i aim c.args.proof) parts); parts = parts }
    ]
