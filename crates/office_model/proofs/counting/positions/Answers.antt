use Rattle.office_model.proofs.Common.{slice_get_read, Project, supervisor_key, project_key, IsAt, IfOk, IfErr, Some, None, List, ℕ, length, refl, sym, ap, subst, ◌≡◌, ◌∙◌}
use Rattle.std.specs.Prelude.{Result, Ok, Err}
use Rattle.std.specs.Result.{result_ok}
use Rattle.office_model.specs.Inside.Place.{IsGapFor}
use Rattle.office_model.proofs.Positions.{both_found, none_found_there}
use Rattle.office_model.proofs.counting.positions.Goals as goal

-- what holds of an answer's value, where that is known
of_value : (P : ℕ → Type 0) (r : Result ℕ ℕ) (k : ℕ) → IfOk r P → Some k ≡ result_ok r → P k
of_value P (Ok j) k h e = let same : j ≡ k = cc in subst P same h
of_value P (Err j) k h e = absurd (cc)

-- what follows from each fault, where there is no value
of_fault : (P : ℕ → Type 0) (Q : Type 0) → ((k : ℕ) → P k → Q) → (r : Result ℕ ℕ) → IfErr r P → None ≡ result_ok r → Q
of_fault P Q f (Ok k) h e = absurd (cc)
of_fault P Q f (Err k) h e = f k h

pub returns-in_err-at-clause-absent : goal.returns-in_err-at-clause-absent
returns-in_err-at-clause-absent c none =
    of_fault (IsGapFor project_key c.args.projects.now (0, c.args.project.now)) _ (λ k gap. none_found_there c.args.supervisors.now c.args.projects.now c.requires c.args.project.now gap.absent)
    c.search.result c.search.ensures.absent c.in_err-at.ensures.value

pub returns-clause-found : goal.returns-clause-found
returns-clause-found c =
    let at = of_value (IsAt project_key c.args.projects.now (0, c.args.project.now)) c.search.result c.in_ok-at.at c.search.ensures.found c.in_ok-at.ensures.value in
    let here = slice_get_read c.args.projects.now (length c.args.projects.now) c.in_ok-at.at c.index-projects-at.result refl at.in_range c.index-projects-at.is in
    both_found c.args.supervisors.now c.args.projects.now c.requires c.args.project.now c.in_ok-at.at c.in_ok-offerer.offerer c.index-projects-at.result at here
    (subst (λ (t : List ℕ). IsAt supervisor_key c.args.supervisors.now (0, t) c.in_ok-offerer.offerer)
    (c.as_str.ensures.value ∙ ap (λ (e : Project). e.supervisor) (sym c.index-projects-at.is))
    (of_value (IsAt supervisor_key c.args.supervisors.now (0, c.as_str.result.now)) c.search-2.result c.in_ok-offerer.offerer c.search-2.ensures.found c.in_ok-offerer.ensures.value))
