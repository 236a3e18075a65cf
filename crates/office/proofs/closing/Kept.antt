-- A matching of the open round, kept: the office stays fit. Putting placements counts no more of them than there were and are
-- put, so what is left of the quotas bounds them; and what is found afterwards was found before, or is by the round that closes.
use Rattle.office.proofs.closing.Common.{nat_lt, option_map_or, AllByRecursion, prefix_len, bytes_eq, le-ltb, cases_Bool, bytes_eq-Decides, recursion_from_All, CodePair, choices_of, offerer_of, rank_by_codes, put_all, rises, Listed, Placement, State, list_key, placement_key, last_round, round_of, is_closed, lists_of, choices_in, is_offered_by, is_placed_before, quota_in, quota_with, round_instance, IsFit, ListFits, PlacementFits, MayClose, kept, after_close, all_weaker, has_reading, closed_before, round_within, aimed_kept, last_kept, numbered_kept, last_open_kept, other_kept, reading_kept, reading_changed, same_lists, ◌≡◌, ℕ, zero, suc, ◌+◌, ◌-◌, ◌<◌, ◌≤◌, inl, inr, true, false, not, List, [], ◌∷◌, length, map, count_by, Option, Some, None, Contains, slice_get, get_or, refl, sym, ap, ◌∙◌, subst, arith, places_in, places_with, Supervisor, Project, Key, find, supervisor_key, project_key, supervisor_of, project_of, list_of, placed_in_project, placed_with_supervisor, found_key, option_map}
use Rattle.office_model.specs.declared.rounds.Round.{Round}
use Rattle.office.proofs.closing.Entries.{all_made, all_always, count_made, count_fewer, find_made}
use Rattle.office.proofs.closing.ManyPuts.{rises_put_all, all_put_all, found_put_all, count_put_all}
use Rattle.spa.specs.Instance as spa

-- ---- the instance of the last round

-- a quota of a roll less what f counts at the code
left : {E D : Type 0} (key : E → Key) (code : E → List ℕ) → ((e : E) → key e ≡ (0, code e)) → (quota : E → ℕ) (made : E → D) (less : D → ℕ) (f : List ℕ → ℕ) → ((e : E) → less (made e) ≡ quota e - f (code e)) → (c : List ℕ) (es : List E) (x : Option E)
    → find key (0, c) es ≡ x → option_map_or less (option_map made x) 0 ≡ option_map_or quota x 0 - f c
left key code coded quota made less f is c es None h = omega arith
left key code coded quota made less f is c es (Some e) h =
    let same : c ≡ code e = ap (λ (k : Key). k.1) (found_key key (0, c) es e h ∙ coded e) in
    is e ∙ ap (λ d. quota e - f d) (sym same)

module _ (o : State) where
  -- a project has the places that it has left
  pub places_left : (p : List ℕ) → places_in (round_instance o) p ≡ quota_in o p - placed_in_project o p
  places_left p =
      let made : Project → spa.Project = λ e. record { code = e.code; supervisor = e.supervisor; quota = e.quota - placed_in_project o e.code } in
      ap (λ (x : Option spa.Project). option_map_or (λ e. e.quota) x 0) (find_made project_key made (λ e. e.code) (λ e. refl) p o.projects)
      ∙ left project_key (λ (e : Project). e.code) (λ e. refl) (λ e. e.quota) made (λ e. e.quota) (placed_in_project o) (λ e. refl) p o.projects (project_of o p) refl

  -- so has a supervisor
  pub places_with_left : (s : List ℕ) → places_with (round_instance o) s ≡ quota_with o s - placed_with_supervisor o s
  places_with_left s =
      let made : Supervisor → spa.Supervisor = λ e. record { code = e.code; quota = e.quota - placed_with_supervisor o e.code } in
      ap (λ (x : Option spa.Supervisor). option_map_or (λ e. e.quota) x 0) (find_made supervisor_key made (λ e. e.code) (λ e. refl) s o.supervisors)
      ∙ left supervisor_key (λ (e : Supervisor). e.code) (λ e. refl) (λ e. e.quota) made (λ e. e.quota) (placed_with_supervisor o) (λ e. refl) s o.supervisors (supervisor_of o s) refl

  -- who offers a project stays
  pub same_offerer : (s p : List ℕ) → is_offered_by o s p ≡ true → bytes_eq s (offerer_of (round_instance o) p) ≡ true
  same_offerer s p offered =
      let made : Project → spa.Project = λ e. record { code = e.code; supervisor = e.supervisor; quota = e.quota - placed_in_project o e.code } in
      ap (λ (x : Option spa.Project). bytes_eq s (option_map_or (λ e. e.supervisor) x [])) (find_made project_key made (λ e. e.code) (λ e. refl) p o.projects)
      ∙ inside made (project_of o p) (λ e. refl) offered
    where
      inside : (made : Project → spa.Project) (x : Option Project) → ((e : Project) → (made e).supervisor ≡ e.supervisor) → option_map_or (λ e. bytes_eq s e.supervisor) x false ≡ true → bytes_eq s (option_map_or (λ e. e.supervisor) (option_map made x) []) ≡ true
      inside made None is h = absurd (cc)
      inside made (Some e) is h = ap (bytes_eq s) (is e) ∙ h

  -- a student lists what the list of the last round has
  pub same_choices : (s : List ℕ) → choices_of (round_instance o) s ≡ choices_in o (last_round o) s
  same_choices s =
      let made : Listed → spa.Student = λ l. record { code = l.student; list = l.choices } in
      ap (λ (x : Option spa.Student). option_map_or (λ e. e.list) x []) (find_made list_key made (λ e. e.code) (λ e. refl) s (lists_of o (last_round o)))
      ∙ inside made (list_of o (last_round o) s) (λ e. refl)
    where
      inside : (made : Listed → spa.Student) (x : Option Listed) → ((e : Listed) → (made e).list ≡ e.choices) → option_map_or (λ e. e.list) (option_map made x) [] ≡ option_map_or (λ e. e.choices) x []
      inside made None is = refl
      inside made (Some e) is = is e

-- a round that is closed
abbrev pub closed_round : Round → Round
closed_round r = record r { is_open = false }

-- a project at its rank
ranked : (xs : List (List ℕ)) (p : List ℕ) (k : ℕ) → k < length xs → get_or xs k p ≡ p → slice_get xs (prefix_len (λ q. not (bytes_eq q p)) xs) ≡ Some p
ranked [] p k h e = absurd (omega (arith, h))
ranked (x ∷ xs) p zero h e = let t : bytes_eq x p ≡ true = (bytes_eq-Decides x p).1 e in rw t (ap (λ (q : List ℕ). Some q) e)
ranked (x ∷ xs) p (suc k) h e =
    elim (cases_Bool (bytes_eq x p)) [
      | inl t ↦ rw t (ap (λ (q : List ℕ). Some q) ((bytes_eq-Decides x p).0 t))
      | inr t ↦
          let n : 1 + prefix_len (λ q. not (bytes_eq q p)) xs ≡ suc (prefix_len (λ q. not (bytes_eq q p)) xs) = omega arith in
          rw t (ap (slice_get (x ∷ xs)) n ∙ ranked xs p k (omega (arith, h)) e)
    ]

module _ (M : List CodePair) (o : State) (fit : IsFit o) where
  -- the lists of each round stay
  lists_same : (n : ℕ) → lists_of (after_close M o) n ≡ lists_of o n
  lists_same n = reading_kept closed_round (λ r. refl) o fit.numbered (λ r. r.lists) [] (λ r. refl) n

  -- and what each student lists
  pub choices_same : (n : ℕ) (s : List ℕ) → choices_in (after_close M o) n s ≡ choices_in o n s
  choices_same n s = same_lists o (after_close M o) n n (lists_same n) s

  module _ (may : MayClose o M) where
    -- the last round is there
    pub open_round : (r : Round) × (round_of o (last_round o) ≡ Some r) × (r.is_open ≡ true)
    open_round = has_reading (λ (r : Round). r.is_open) false true (round_of o (last_round o)) may.is_open (λ e. cc)

    -- each closed round stays closed, and the last one is
    still_closed : (n : ℕ) → is_closed o n ≡ true → is_closed (after_close M o) n ≡ true
    still_closed n h =
        let before = closed_before o fit.numbered n may.is_open h in
        ap (λ (x : Option Round). option_map_or (λ r. not r.is_open) x false) (other_kept closed_round (λ r. refl) o fit.numbered n (λ e. omega (arith, e, before))) ∙ h

    now_closed : is_closed (after_close M o) (last_round o) ≡ true
    now_closed = reading_changed closed_round (λ r. refl) o fit.numbered (λ r. not r.is_open) false open_round.0 open_round.1

    -- ---- the lists

    -- who has a list in a round is placed by no round before it
    not_placed : (n : ℕ) → n ≤ last_round o → (s : List ℕ) → is_placed_before o s n ≡ false → is_placed_before (after_close M o) s n ≡ false
    not_placed n within s before =
        found_put_all placement_key (λ (x : Option Placement). option_map_or (λ p. nat_lt p.round n) x false ≡ false) (0, s) (map (kept o) M) o.placements
        (all_made (kept o) (λ (p : Placement). nat_lt p.round n ≡ false) M (all_always (λ (e : CodePair). nat_lt (last_round o) n ≡ false) (λ e. le-ltb (last_round o) n within) M)) before

    lists_fit : (n : ℕ) → AllByRecursion (ListFits (after_close M o) n) (lists_of (after_close M o) n)
    lists_fit n = subst (AllByRecursion (ListFits (after_close M o) n)) (sym (lists_same n)) (by_round (round_of o n) refl)
      where
        by_round : (x : Option Round) → round_of o n ≡ x → AllByRecursion (ListFits (after_close M o) n) (lists_of o n)
        by_round None is = subst (λ (x : Option Round). AllByRecursion (ListFits (after_close M o) n) (option_map_or (λ r. r.lists) x [])) (sym is) tt
        by_round (Some r) is =
            all_weaker (ListFits o n) (ListFits (after_close M o) n) (λ (l : Listed) f. record {
              student = f.student;
              choices = f.choices;
              projects = f.projects;
              not_placed = not_placed n (round_within o fit.numbered n r is).within l.student f.not_placed;
            }) (lists_of o n) (fit.lists_fit n)

    -- ---- the placements

    -- each pair's project stands in the student's list of the last round
    pub pairs_listed : AllByRecursion (λ e. Contains (choices_in o (last_round o) e.student) e.project) M
    pairs_listed = all_weaker (λ (e : CodePair). Contains (choices_of (round_instance o) e.student) e.project) (λ e. Contains (choices_in o (last_round o) e.student) e.project)
        (λ e c. subst (λ (xs : List (List ℕ)). Contains xs e.project) (same_choices o e.student) c) M (recursion_from_All (λ (e : CodePair). Contains (choices_of (round_instance o) e.student) e.project) M may.matching.listed)

    -- at the rank that is kept
    at_rank : (e : CodePair) → Contains (choices_in o (last_round o) e.student) e.project → slice_get (choices_in o (last_round o) e.student) (rank_by_codes (round_instance o) e - 1) ≡ Some e.project
    at_rank e c =
        let xs : List (List ℕ) = choices_in o (last_round o) e.student in
        let n : ℕ = prefix_len (λ q. not (bytes_eq q e.project)) xs in
        let one_less : (1 + n) - 1 ≡ n = omega arith in
        ap (λ (ys : List (List ℕ)). slice_get xs ((1 + prefix_len (λ q. not (bytes_eq q e.project)) ys) - 1)) (same_choices o e.student)
        ∙ ap (slice_get xs) one_less ∙ ranked xs e.project c.0 c.1 c.2

    -- so the placements that are kept fit, and the others still do
    pub kept_fit : AllByRecursion (PlacementFits (after_close M o)) (map (kept o) M)
    kept_fit =
        all_made (kept o) (PlacementFits (after_close M o)) M
        (all_weaker (λ (e : CodePair). Contains (choices_in o (last_round o) e.student) e.project) (λ e. PlacementFits (after_close M o) (kept o e)) (λ e c. record {
          closed = now_closed;
          rank = omega arith;
          listed = ap (λ (xs : List (List ℕ)). slice_get xs (rank_by_codes (round_instance o) e - 1)) (choices_same (last_round o) e.student) ∙ at_rank e c;
        }) M pairs_listed)

    placements_fit : AllByRecursion (PlacementFits (after_close M o)) (put_all placement_key (map (kept o) M) o.placements)
    placements_fit =
        all_put_all placement_key (PlacementFits (after_close M o)) (map (kept o) M) o.placements kept_fit
        (all_weaker (PlacementFits o) (PlacementFits (after_close M o)) (λ (p : Placement) f. record {
          closed = still_closed p.round f.closed;
          rank = f.rank;
          listed = ap (λ (xs : List (List ℕ)). slice_get xs (p.rank - 1)) (choices_same p.round p.student) ∙ f.listed;
        }) o.placements fit.placements_fit)

    -- ---- the quotas

    projects_within : (p : List ℕ) → count_by (λ q. bytes_eq p q.project) (put_all placement_key (map (kept o) M) o.placements) ≤ quota_in o p
    projects_within p =
        let both = count_put_all placement_key (λ (q : Placement). bytes_eq p q.project) (map (kept o) M) o.placements in
        let new = count_made (kept o) (λ (q : Placement). bytes_eq p q.project) (λ e. bytes_eq p e.project) M (λ e. refl) in
        omega (arith, both, new, fit.projects_within p, may.matching.project_within p, places_left o p)

    supervisors_within : (s : List ℕ) → count_by (λ q. is_offered_by o s q.project) (put_all placement_key (map (kept o) M) o.placements) ≤ quota_with o s
    supervisors_within s =
        let both = count_put_all placement_key (λ (q : Placement). is_offered_by o s q.project) (map (kept o) M) o.placements in
        let new = count_made (kept o) (λ (q : Placement). is_offered_by o s q.project) (λ e. is_offered_by o s e.project) M (λ e. refl) in
        let fewer = count_fewer (λ (e : CodePair). is_offered_by o s e.project) (λ e. bytes_eq s (offerer_of (round_instance o) e.project)) M
        (all_always (λ (e : CodePair). is_offered_by o s e.project ≡ true → bytes_eq s (offerer_of (round_instance o) e.project) ≡ true) (λ e h. same_offerer o s e.project h) M) in
        omega (arith, both, new, fewer, fit.supervisors_within s, may.matching.supervisor_within s, places_with_left o s)

    -- the office after closing is fit
    pub close_keeps_fit : IsFit (after_close M o)
    close_keeps_fit = record {
      supervisors = fit.supervisors;
      projects = fit.projects;
      students = fit.students;
      numbered = numbered_kept closed_round (λ r. refl) o fit.numbered;
      aimed = aimed_kept closed_round (λ r. refl) o fit.numbered fit.aimed;
      few_rounds = omega (arith, last_kept closed_round (λ r. refl) o fit.numbered, fit.few_rounds);
      last_open = last_open_kept closed_round (λ r. refl) o fit.numbered fit.last_open;
      lists_rise = λ n. subst (λ (ls : List Listed). rises list_key ls ≡ true) (sym (lists_same n)) (fit.lists_rise n);
      lists_fit = lists_fit;
      placements_rise = rises_put_all placement_key (map (kept o) M) o.placements fit.placements_rise;
      placements_fit = placements_fit;
      imports = fit.imports;
      projects_within = projects_within;
      supervisors_within = supervisors_within;
    }
