use Rattle.std.proofs.Common.{◌≡◌, ℕ, List, [], ◌∷◌, length, map, get_or, slice_get, Some, decimal, sym, ap, subst, ◌∙◌, arith}
use Rattle.intake.proofs.Common.{contained_code, get_or_from_slice_get, length-map, supervisors_of, Rise, IsRoll, Project, projects_of, draft_of, map_push}
use Rattle.intake.proofs.RowInDraft.{three_fields}
use Rattle.intake.proofs.Lists.{blank, first_field}
use Rattle.intake.proofs.Order.{key_at}
use Rattle.intake.proofs.PairLine.{nowhere}
use Rattle.intake.proofs.Rolls.{project_keys, supervisor_keys, comes_moved, standing}
use Rattle.intake.proofs.draft.PartialRound.add_project.Goals as goal

pub next_code-requires : goal.next_code-requires
next_code-requires c = subst Rise (project_keys c.args.self.now.projects.items ∙ ap (map (λ e. e.0)) (sym c.deref.ensures.value)) c.requires.projects.rise

pub returns-in_default-next_code : goal.returns-in_default-next_code
returns-in_default-next_code c = λ e t.
    c.in_default-next_code.ensures (comes_moved _ _ _ _ _ (project_keys c.args.self.now.projects.items ∙ ap (map (λ e. e.0)) (sym c.deref.ensures.value)) (first_field _ _ _ _ (sym t.is ∙ three_fields c.args.fields.now c.in-len3.len_at_least c.in-len3.len_below)) t.code)

pub position_at-requires : goal.position_at-requires
position_at-requires c = subst IsRoll (supervisor_keys c.args.self.now.supervisors.items ∙ ap (map (λ e. e.0)) (sym c.deref-2.ensures.value)) c.requires.supervisors

pub returns-in_default-position_at : goal.returns-in_default-position_at
returns-in_default-position_at c = λ e t.
    let row : (get_or c.args.fields.now 0 blank).now ∷ (get_or c.args.fields.now 1 blank).now ∷ (get_or c.args.fields.now 2 blank).now ∷ [] ≡ e.code ∷ e.supervisor ∷ decimal e.quota ∷ [] = sym (three_fields c.args.fields.now c.in-len3.len_at_least c.in-len3.len_below) ∙ t.is in
    let second : (get_or c.args.fields.now 1 blank).now ≡ e.supervisor = cc in
    let keys = supervisor_keys c.args.self.now.supervisors.items ∙ ap (map (λ e. e.0)) (sym c.deref-2.ensures.value) in
    let at = standing (map (λ e. e.code) (supervisors_of c.args.self.now.supervisors.items)) e.supervisor t.fits.0 in
    nowhere (map (λ e. e.0) c.deref-2.result.now) (length c.deref-2.result.now) at.0 (get_or c.args.fields.now 1 blank).now e.supervisor (sym (length-map c.deref-2.result.now (λ e. e.0))) second c.in_default-position_at.ensures
    (ap (λ (l : List (List ℕ)). slice_get l at.0) (sym keys) ∙ at.2)

pub returns : goal.returns
returns c =
    let read = rw c.in-Some.is at c.next_code.ensures in
    let owner : ℕ = c.in-Some-position_at.owner in
    let owners = ap (map (λ e. e.0)) c.deref-2.ensures.value ∙ sym (supervisor_keys c.args.self.now.supervisors.items) in
    let at : slice_get (map (λ e. e.code) (supervisors_of c.args.self.now.supervisors.items)) owner ≡ Some (get_or c.args.fields.now 1 blank).now = ap (λ (l : List (List ℕ)). slice_get l owner) (sym owners) ∙ c.in-Some-position_at.ensures.1 in
    let supervisor : c.copy-supervisor.result ≡ (get_or c.args.fields.now 1 blank).now =
    c.copy-supervisor.ensures ∙ sym (key_at (λ e. e.0) c.args.self.now.supervisors.items owner c.index.result.now (omega (arith, c.in-Some-position_at.ensures.0, ap length c.deref-2.ensures.value)) c.index.ensures)
    ∙ get_or_from_slice_get (map (λ e. e.0) c.args.self.now.supervisors.items) owner (get_or c.args.fields.now 1 blank).now [] (ap (λ (l : List (List ℕ)). slice_get l owner) (sym (supervisor_keys c.args.self.now.supervisors.items)) ∙ at) in
    let keys = ap (map (λ e. e.0)) c.deref.ensures.value ∙ sym (project_keys c.args.self.now.projects.items) in (
      record { code = c.in-Some.code; supervisor = c.copy-supervisor.result; quota = c.in-Some-read_quota.quota },
      record {
        is = three_fields c.args.fields.now c.in-len3.len_at_least c.in-len3.len_below
            ∙ ap (λ (x : List ℕ). x ∷ (get_or c.args.fields.now 1 blank).now ∷ (get_or c.args.fields.now 2 blank).now ∷ []) (sym read.0)
            ∙ ap (λ (x : List ℕ). c.in-Some.code ∷ x ∷ (get_or c.args.fields.now 2 blank).now ∷ []) (sym supervisor)
            ∙ ap (λ (x : List ℕ). c.in-Some.code ∷ c.copy-supervisor.result ∷ x ∷ []) c.in-Some-read_quota.ensures.1;
        code = comes_moved _ _ _ _ _ keys (sym read.0) read.1;
        fits = (contained_code _ owner c.copy-supervisor.result (at ∙ ap Some (sym supervisor)), c.in-Some-read_quota.ensures.0);
      },
      ap (λ (l : List Project). let p = draft_of c.args.self.now in record p { instance = record p.instance { projects = l } })
          (ap projects_of c.in_ok-push.ensures.items ∙ map_push (λ e. record { code = e.0; supervisor = e.1; quota = e.2 }) c.args.self.now.projects.items (c.in-Some.code, c.copy-supervisor.result, c.in-Some-read_quota.quota)),
    )
