use Rattle.std.proofs.Common.{◌≡◌, ℕ, ◌++◌, string_bytes, refl, sym, ap, ◌∙◌, append_assoc}
use Rattle.reports.proofs.Common.{State, placed_with_supervisor_by, Supervisor, Places, Loads, Offers, own_rows, rows_of, load_row}
use Rattle.reports.proofs.places_report.push_supervisor.Goals as goal
use Rattle.reports.proofs.places_report.push_supervisor.Goals.{in-Loads+in_ok-push_load, in_default}

-- where no load is written, the projects are all
only_own : (told : Places) (o : State) (n : ℕ) (s : Supervisor) → (told ≡ Loads → ⊥) → own_rows told o n s ≡ rows_of told o n s
only_own Loads o n s not_loads = absurd (not_loads refl)
only_own Offers o n s not_loads = refl

pub returns : goal.returns
returns c n at are =
    let s = c.args.supervisor.now in
    let o = c.args.office.now in
    let old = string_bytes c.args.out.now in
    elim c.match-told.branch [
      | in-Loads+in_ok-push_load w ↦
          let placed = w.with_supervisor-placed.ensures ∙ are.with_supervisor c.args.at s at in
          let load = ap string_bytes w.out-is ∙ w.in_ok-push_load.ensures ∙ ap (λ (k : ℕ). old ++ load_row 18 s.code k s.quota) placed in
          c.in_ok-push_offered.ensures n at are ∙ (λ i. load i ++ own_rows (w.in-Loads.is i) o n s)
          ∙ append_assoc old (load_row 18 s.code (placed_with_supervisor_by o n s.code) s.quota) (own_rows Loads o n s)
          ∙ ap (λ (t : Places). old ++ rows_of t o n s) (sym w.in-Loads.is)
      | in_default w ↦
          c.in_ok-push_offered.ensures n at are ∙ ap (λ out. string_bytes out ++ own_rows c.args.told o n s) w.out-is
          ∙ ap (λ l. old ++ l) (only_own c.args.told o n s w.in_default.not-Loads)
    ]
