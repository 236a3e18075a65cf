-- The entries of a fit office are each of their forms; what a fit office lists is on its rolls.
use Rattle.office.proofs.from_rows.Common.{AllByRecursion, option_map_or, and_from, all_of, all_weaker, Supervisor, Project, Student, Import, RoundAim, Placement, SupervisorEntry, RoundEntry, rises, State, supervisor_key, round_key, list_key, lists_of, IsFit, SupervisorFits, ProjectFits, PlacementFits, fit_shaped, StandsIn, each_found, ◌≡◌, ◌-◌, Option, [], refl, sym, ap, subst, ◌∙◌, known_code, listed, project_code, student_code}
use Rattle.schema.specs.declared.table.Table.TheVariants.{Round}
use Rattle.office.proofs.from_rows.Decoded.{ProjectForm, PlacementForm, AimForm}
use Rattle.office.proofs.from_rows.Taken.{HasChoices, IsDrafted, RoundForm}

-- ---- the entries of each table

-- a round that is found has the lists of its number
pub lists_found : (w : State) (r : RoundEntry) → StandsIn round_key w.rounds r → lists_of w r.number ≡ r.lists
lists_found w r is = ap (λ (x : Option RoundEntry). option_map_or (λ r. r.lists) x []) is

pub fit_drafted : (w : State) → IsFit w → IsDrafted w
fit_drafted w fit Supervisor = record { rise = fit.supervisors.rise; each = fit.supervisors.each }
fit_drafted w fit Project = record {
  rise = fit.projects.rise;
  each = all_weaker (ProjectFits w) ProjectForm (λ p f. record {
    code = f.code;
    label = f.label;
    supervisor = known_code supervisor_key (λ (e : SupervisorEntry). e.code) SupervisorFits (λ e. refl) (λ e f. f.code) p.supervisor w.supervisors fit.supervisors.each f.supervisor;
    quota = f.quota;
  }) w.projects fit.projects.each;
}
fit_drafted w fit Student = record { rise = fit.students.rise; each = fit.students.each }
fit_drafted w fit Round =
    let shaped = fit_shaped w fit in
    record {
      rise = shaped.rounds_rise;
      each = all_weaker (StandsIn round_key w.rounds) RoundForm (λ r is. record {
        rise = ap (rises list_key) (sym (lists_found w r is)) ∙ fit.lists_rise r.number;
        each = subst (AllByRecursion HasChoices) (lists_found w r is) (shaped.lists_some r.number);
      }) w.rounds (each_found round_key w.rounds shaped.rounds_rise);
    }
fit_drafted w fit RoundAim = record { rise = (fit_shaped w fit).aims_rise; each = all_of AimForm (λ a. tt) w.aims }
fit_drafted w fit Placement = record {
  rise = fit.placements_rise;
  each = all_weaker (PlacementFits w) PlacementForm (λ p f.
      let here = listed w fit.lists_fit p.round p.student (p.rank - 1) p.project f.listed in
      and_from _ _ (student_code w fit p.student here.student) (project_code w fit p.project here.project)) w.placements fit.placements_fit;
}
fit_drafted w fit Import = record { rise = fit.imports.rise; each = fit.imports.each }
fit_drafted w fit _ = tt
