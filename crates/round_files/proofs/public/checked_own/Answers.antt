use Rattle.std.proofs.Common.{ℕ, List, map, ap, inl, refl, subst, ◌∙◌}
use Rattle.std.specs.Borrow.{Bor}
use Rattle.round_files.specs.Public.{IsJudgedBy}
use Rattle.round_files.proofs.OwnSaid.{own_said}
use Rattle.round_files.proofs.public.checked_own.Goals as goal

pub returns-in-Ok : goal.returns-in-Ok
returns-in-Ok c =
    let fields = ap (map (λ (f : Bor (List ℕ)). f.now)) c.deref.ensures.value ∙ c.in_ok-fields-in-Ok.ensures in
    own_said c.args.text.now c.args.line.now c.in_ok-parts.parts c.judged_line.result c.in_ok-parts.ensures.reading (c.in-Ok.ensures.accepted.0 refl)
    (subst (λ (l : List (List ℕ)). IsJudgedBy c.in_ok-parts.parts l c.judged_line.result) fields c.judged_line.ensures)

pub returns : goal.returns
returns c = inl (record {
  parts = c.in_ok-parts.parts;
  fault = c.in-Err.fault;
  read = c.in_ok-parts.ensures.reading;
  first = c.in-Err.ensures.failed;
  is = c.in_ok-public_failed-in-Err.ensures;
})
