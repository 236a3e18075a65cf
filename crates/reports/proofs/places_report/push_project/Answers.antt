use Rattle.std.proofs.Common.{◌++◌, ◌-◌, min, [], ◌∷◌, List, filter, flat_map, string_bytes, sym, ap, ◌∙◌, append_assoc}
use Rattle.reports.proofs.Common.{bytes_eq, Project, Places, Loads, Offers, project_row, left, right, load_row, places_left, placed_in_project_by}
use Rattle.reports.proofs.Lines.{chosen}
use Rattle.reports.proofs.places_report.push_project.Goals as goal

pub returns-in_ok-push_load-in-Loads : goal.returns-in_ok-push_load-in-Loads
returns-in_ok-push_load-in-Loads c o n by at are =
    let p = c.args.project.now in
    let s = c.args.supervisor.now in
    let old = string_bytes c.args.out.now in
    let own = λ (q : Project). bytes_eq s.code q.supervisor in
    let placed = c.in_project-placed.ensures ∙ are.in_project c.args.position p at in
    let offered = sym (c.eq.ensures ∙ (λ i. bytes_eq (c.as_str.ensures.value i) (c.as_str-2.ensures.value i))) ∙ c.if-eq.true in
    c.in_ok-push_load-in-Loads.ensures ∙ (λ i. c.in_ok-push_str-in-Loads.ensures.bytes i ++ load_row 16 p.code (placed i) p.quota)
    ∙ append_assoc old (32 ∷ 32 ∷ []) (load_row 16 p.code (placed_in_project_by o n p.code) p.quota)
    ∙ ap (λ l. old ++ l) (chosen (project_row Loads o n s) own p offered)
    ∙ ap (λ (t : Places). old ++ flat_map (project_row t o n s) (filter own (p ∷ []))) (sym c.in-Loads.is)

pub returns-in_ok-push_offer-in-Offers : goal.returns-in_ok-push_offer-in-Offers
returns-in_ok-push_offer-in-Offers c o n by at are =
    let p = c.args.project.now in
    let s = c.args.supervisor.now in
    let old = string_bytes c.args.out.now in
    let own = λ (q : Project). bytes_eq s.code q.supervisor in
    let placed = c.in_project-placed.ensures ∙ are.in_project c.args.position p at in
    let with = c.with_supervisor.ensures ∙ are.with_supervisor c.args.at s by in
    let rest = c.saturating_sub-rest.ensures ∙ ap (λ k. s.quota - k) with in
    let places = c.min-places.ensures ∙ (λ i. min ((c.saturating_sub.ensures ∙ ap (λ k. p.quota - k) placed) i) (rest i)) in
    let offered = sym (c.eq.ensures ∙ (λ i. bytes_eq (c.as_str.ensures.value i) (c.as_str-2.ensures.value i))) ∙ c.if-eq.true in
    c.in_ok-push_offer-in-Offers.ensures ∙ ap (λ k. old ++ (left 16 p.code ++ right 5 k ++ 32 ∷ left 16 s.code ++ 32 ∷ s.label ++ 9 ∷ p.label ++ 10 ∷ [])) places
    ∙ ap (λ l. old ++ l) (chosen (project_row Offers o n s) own p offered)
    ∙ ap (λ (t : Places). old ++ flat_map (project_row t o n s) (filter own (p ∷ []))) (sym c.in-Offers.is)
