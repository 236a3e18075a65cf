-- A fit office stays fit when a round is opened, a list is put or dropped, and the last round is opened again. An open round has
-- placed nobody, so no placement looks at a list that changes; a reopening leaves the placements of earlier rounds.
use Rattle.office.proofs.changes.Common.{◌==◌, nat_lt, option_map_or, AllByRecursion, cases_eq, eq-eqb, option_filter, MAX_ROUNDS, Aim, Listed, rises, State, list_key, placement_key, placement_of, lists_of, round_of, last_round, is_open, is_closed, IsFit, ListFits, PlacementFits, with_last, after_opening, after_reopening, rises-filter, closed_before, last_kept, numbered_kept, last_open_kept, other_kept, reading_kept, reading_changed, aimed_kept, aimed_put, next, last_after_opening, numbered_after_opening, last_open_after_opening, reading_after_opening, other_after_opening, closed_within, same_lists, has_reading, ◌+◌, ◌≡◌, ℕ, ◌-◌, ◌<◌, inl, inr, Bool, true, false, not, cond, List, [], Option, Some, None, slice_get, refl, sym, ap, subst, ◌∙◌, arith, RoundEntry as Round, PlacementEntry as Placement}
use Rattle.office_model.proofs.EntryChange.{all_weaker}
use Rattle.office.proofs.changes.Entries.{all_kept, count_kept, find-filter}
use Rattle.office.proofs.changes.FitAfterPut.{fit_with_rounds}

-- what a placement needs of the office, where its round stays closed and its student's choices stay
placement_fits_still : (o new : State) (p : Placement) → PlacementFits o p → is_closed new p.round ≡ is_closed o p.round → lists_of new p.round ≡ lists_of o p.round → PlacementFits new p
placement_fits_still o new p h closed lists = record {
  closed = closed ∙ h.closed;
  rank = h.rank;
  listed = ap (λ (cs : List (List ℕ)). slice_get cs (p.rank - 1)) (same_lists o new p.round p.round lists p.student) ∙ h.listed;
}

-- ---- the next round is opened

pub fit_opened : (aim : Aim) (o : State) → IsFit o → is_open o (last_round o) ≡ false → last_round o < MAX_ROUNDS → IsFit (after_opening aim o)
fit_opened aim o fit closed room = fit_with_rounds o (after_opening aim o).rounds (after_opening aim o).aims o.placements fit (record {
  numbered = numbered_after_opening aim o fit.numbered;
  few_rounds = omega (arith, last_after_opening aim o fit.numbered, room);
  aimed = aimed_put (record { round = last_round o + 1; aim = aim }) (next aim o fit.numbered) refl o.aims o.rounds fit.aimed;
  last_open = last_open_after_opening aim o fit.numbered fit.last_open closed;
  lists_rise = λ n. ap (rises list_key) (lists n) ∙ fit.lists_rise n;
  lists_fit = λ n. subst (AllByRecursion (ListFits o n)) (sym (lists n)) (fit.lists_fit n);
  placements_rise = fit.placements_rise;
  placements_fit = all_weaker (PlacementFits o) (PlacementFits (after_opening aim o)) (λ p h. placement_fits_still o (after_opening aim o) p h (still p h) (lists p.round)) o.placements fit.placements_fit;
  counts_fall = λ t. omega arith;
})
  where
    lists : (n : ℕ) → lists_of (after_opening aim o) n ≡ lists_of o n
    lists = reading_after_opening aim o fit.numbered (λ (r : Round). r.lists) [] refl

    still : (p : Placement) → PlacementFits o p → is_closed (after_opening aim o) p.round ≡ is_closed o p.round
    still p h = ap (λ (x : Option Round). option_map_or (λ r. not r.is_open) x false) (other_after_opening aim o fit.numbered p.round (λ e. omega (arith, e, (closed_within o fit.numbered p.round h.closed).within)))

-- ---- the lists of the open round change

-- the lists of the last round are what g makes of them
abbrev pub with_lists : (List Listed → List Listed) → State → State
with_lists g o = with_last (λ r. record r { lists = g r.lists }) o

module _ (g : List Listed → List Listed) (o : State) (fit : IsFit o) (opened : is_open o (last_round o) ≡ true) where
  -- what f makes of the last round's lists
  pub lists_changed : lists_of (with_lists g o) (last_round o) ≡ g (lists_of o (last_round o))
  lists_changed =
      let r = has_reading (λ r. r.is_open) false true (round_of o (last_round o)) opened (λ e. cc) in
      reading_changed (λ r. record r { lists = g r.lists }) (λ r. refl) o fit.numbered (λ (r : Round). r.lists) [] r.0 r.1
      ∙ ap g (sym (ap (λ (x : Option Round). option_map_or (λ r. r.lists) x []) r.1))

  -- other rounds have theirs
  pub lists_elsewhere : (n : ℕ) → (n ≡ last_round o → ⊥) → lists_of (with_lists g o) n ≡ lists_of o n
  lists_elsewhere n other = ap (λ (x : Option Round). option_map_or (λ r. r.lists) x []) (other_kept (λ r. record r { lists = g r.lists }) (λ r. refl) o fit.numbered n other)

  -- what holds of the lists of each round
  lists_hold : (P : ℕ → List Listed → Type 0) → ((n : ℕ) → P n (lists_of o n)) → P (last_round o) (g (lists_of o (last_round o))) → (n : ℕ) → P n (lists_of (with_lists g o) n)
  lists_hold P old new n = elim (cases_eq n (last_round o)) [
    | inl last ↦ subst (λ m. P m (lists_of (with_lists g o) m)) (sym last) (subst (P (last_round o)) (sym lists_changed) new)
    | inr other ↦ subst (P n) (sym (lists_elsewhere n other)) (old n)
  ]

  pub fit_with_lists : rises list_key (g (lists_of o (last_round o))) ≡ true → AllByRecursion (ListFits o (last_round o)) (g (lists_of o (last_round o))) → IsFit (with_lists g o)
  fit_with_lists rise fits = fit_with_rounds o (with_lists g o).rounds o.aims o.placements fit (record {
    numbered = numbered_kept (λ r. record r { lists = g r.lists }) (λ r. refl) o fit.numbered;
    aimed = aimed_kept (λ r. record r { lists = g r.lists }) (λ r. refl) o fit.numbered fit.aimed;
    few_rounds = omega (arith, last_kept (λ r. record r { lists = g r.lists }) (λ r. refl) o fit.numbered, fit.few_rounds);
    last_open = last_open_kept (λ r. record r { lists = g r.lists }) (λ r. refl) o fit.numbered fit.last_open;
    lists_rise = lists_hold (λ n ls. rises list_key ls ≡ true) fit.lists_rise rise;
    lists_fit = lists_hold (λ n ls. AllByRecursion (ListFits o n) ls) fit.lists_fit fits;
    placements_rise = fit.placements_rise;
    placements_fit = all_weaker (PlacementFits o) (PlacementFits (with_lists g o)) (λ p h.
        placement_fits_still o (with_lists g o) p h
        (reading_kept (λ r. record r { lists = g r.lists }) (λ r. refl) o fit.numbered (λ (r : Round). not r.is_open) false (λ r. refl) p.round)
        (lists_elsewhere p.round (λ e. omega (arith, e, closed_before o fit.numbered p.round opened h.closed)))) o.placements fit.placements_fit;
    counts_fall = λ t. omega arith;
  })

-- ---- the last round is opened again

-- who is not placed before a round is not when placements go
unplaced_still : (t : Placement → Bool) (x : Option Placement) (n : ℕ) → option_map_or (λ p. nat_lt p.round n) x false ≡ false → option_map_or (λ p. nat_lt p.round n) (option_filter t x) false ≡ false
unplaced_still t None n h = refl
unplaced_still t (Some p) n h = kept (t p)
  where
    kept : (b : Bool) → option_map_or (λ p. nat_lt p.round n) (cond b (Some p) None) false ≡ false
    kept true = h
    kept false = refl

list_fits_reopened : (o : State) → IsFit o → (n : ℕ) (l : Listed) → ListFits o n l → ListFits (after_reopening o) n l
list_fits_reopened o fit n l h = record {
  student = h.student;
  choices = h.choices;
  projects = h.projects;
  not_placed =
      ap (λ (x : Option Placement). option_map_or (λ p. nat_lt p.round n) x false) (find-filter placement_key (λ (p : Placement). not (p.round == last_round o)) (0, l.student) o.placements fit.placements_rise)
      ∙ unplaced_still (λ p. not (p.round == last_round o)) (placement_of o l.student) n h.not_placed;
}

pub fit_reopened : (o : State) → IsFit o → IsFit (after_reopening o)
fit_reopened o fit = fit_with_rounds o (after_reopening o).rounds o.aims (after_reopening o).placements fit (record {
  numbered = numbered_kept (λ r. record r { is_open = true }) (λ r. refl) o fit.numbered;
  aimed = aimed_kept (λ r. record r { is_open = true }) (λ r. refl) o fit.numbered fit.aimed;
  few_rounds = omega (arith, last_kept (λ r. record r { is_open = true }) (λ r. refl) o fit.numbered, fit.few_rounds);
  last_open = last_open_kept (λ r. record r { is_open = true }) (λ r. refl) o fit.numbered fit.last_open;
  lists_rise = λ n. ap (rises list_key) (lists n) ∙ fit.lists_rise n;
  lists_fit = λ n. subst (AllByRecursion (ListFits (after_reopening o) n)) (sym (lists n)) (all_weaker (ListFits o n) (ListFits (after_reopening o) n) (list_fits_reopened o fit n) (lists_of o n) (fit.lists_fit n));
  placements_rise = rises-filter placement_key (λ p. not (p.round == last_round o)) o.placements fit.placements_rise;
  placements_fit = all_kept (PlacementFits o) (PlacementFits (after_reopening o)) (λ p. not (p.round == last_round o)) (λ p h kept.
      placement_fits_still o (after_reopening o) p h (still p kept) (lists p.round)) o.placements fit.placements_fit;
  counts_fall = λ t. count_kept t (λ p. not (p.round == last_round o)) o.placements;
})
  where
    lists : (n : ℕ) → lists_of (after_reopening o) n ≡ lists_of o n
    lists = reading_kept (λ r. record r { is_open = true }) (λ r. refl) o fit.numbered (λ (r : Round). r.lists) [] (λ r. refl)

    still : (p : Placement) → not (p.round == last_round o) ≡ true → is_closed (after_reopening o) p.round ≡ is_closed o p.round
    still p kept = ap (λ (x : Option Round). option_map_or (λ r. not r.is_open) x false) (other_kept (λ r. record r { is_open = true }) (λ r. refl) o fit.numbered p.round (λ e.
        absurd (let t : not (p.round == last_round o) ≡ false = ap not (eq-eqb p.round (last_round o) e) in cc)))
