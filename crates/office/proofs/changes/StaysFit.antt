-- A fit office is fit after each plain request that it does not refuse.
use Rattle.office.proofs.changes.Common.{◌&&◌, nat_le, nat_lt, option_map_or, first_so, second_so, leb-true, leb-false, RANKS, MAX_ROUNDS, Listed, put, take_out, same_key, Aim, State, list_key, lists_of, placement_of, last_round, IsFit, ListFits, PutSupervisor, PutProject, PutStudent, OpenRound, PutList, DropList, ReopenRound, plain_refusal, supervisor_tests, project_tests, student_tests, opening_tests, list_tests, drop_tests, after_plain, allowed, rises-put, rises-filter, all-put, StaysFit, ◌≡◌, ℕ, true, false, not, List, [], length, Option, Some, None, is_some, refl, PlacementEntry as Placement}
use Rattle.office.proofs.changes.Entries.{not_false, not_above, all_kept}
use Rattle.office.proofs.changes.KnownChoices.{choices_known, choices_distinct}
use Rattle.office.proofs.changes.FitAfterPut.{fit_with_supervisor, fit_with_project, fit_with_student}
use Rattle.office.proofs.changes.StayingRounds.{fit_opened, fit_with_lists, fit_reopened}

supervisor_fit : (code label : List ℕ) (quota : ℕ) (o : State) → IsFit o → plain_refusal o (PutSupervisor code label quota) ≡ None → IsFit (after_plain (PutSupervisor code label quota) o)
supervisor_fit code label quota o fit none =
    let passed = allowed (supervisor_tests o code label quota) none in
    fit_with_supervisor o (record { code = code; label = label; quota = quota }) fit
    (record { code = not_false _ passed.0; label = not_false _ passed.1.0; quota = not_above _ _ passed.1.1.0 })
    (not_above _ _ passed.1.1.1.0) passed.1.1.1.1.0

project_fit : (code label supervisor : List ℕ) (quota : ℕ) (o : State) → IsFit o → plain_refusal o (PutProject code label supervisor quota) ≡ None → IsFit (after_plain (PutProject code label supervisor quota) o)
project_fit code label supervisor quota o fit none =
    let passed = allowed (project_tests o code label supervisor quota) none in
    fit_with_project o (record { code = code; label = label; supervisor = supervisor; quota = quota }) fit
    (record { code = not_false _ passed.0; label = not_false _ passed.1.1.0; supervisor = not_false _ passed.1.1.1.1.0; quota = not_above _ _ passed.1.1.1.0 })
    passed.1.1.1.1.1.0 (not_above _ _ passed.1.1.1.1.1.1.0) passed.1.1.1.1.1.1.1.0

student_fit : (code label : List ℕ) (o : State) → IsFit o → plain_refusal o (PutStudent code label) ≡ None → IsFit (after_plain (PutStudent code label) o)
student_fit code label o fit none =
    let passed = allowed (student_tests o code label) none in
    fit_with_student o (record { code = code; label = label }) fit (record { code = not_false _ passed.0; label = not_false _ passed.1.0 }) passed.1.1.0

opened_fit : (aim : Aim) (o : State) → IsFit o → plain_refusal o (OpenRound aim) ≡ None → IsFit (after_plain (OpenRound aim) o)
opened_fit aim o fit none =
    let passed = allowed (opening_tests o) none in
    fit_opened aim o fit passed.0 (leb-false MAX_ROUNDS (last_round o) passed.1.0)

-- who is placed nowhere is not placed before a round
placed_nowhere : (n : ℕ) (x : Option Placement) → is_some x ≡ false → option_map_or (λ p. nat_lt p.round n) x false ≡ false
placed_nowhere n None h = refl
placed_nowhere n (Some p) h = cc

pub list_fits : (student : List ℕ) (choices : List (List ℕ)) (o : State) → plain_refusal o (PutList student choices) ≡ None → ListFits o (last_round o) (record { student = student; choices = choices })
list_fits student choices o none =
    let passed = allowed (list_tests o student choices) none in
    let size : (nat_le 1 (length choices) && nat_le (length choices) RANKS) ≡ true = not_false _ passed.1.1.1.0 in
    record {
      student = not_false _ passed.1.0;
      choices = record {
        some = leb-true 1 (length choices) (first_so (nat_le 1 (length choices)) (nat_le (length choices) RANKS) size);
        few = leb-true (length choices) RANKS (second_so (nat_le 1 (length choices)) (nat_le (length choices) RANKS) size);
        distinct = choices_distinct o [] choices passed.1.1.1.1;
      };
      projects = choices_known o [] choices passed.1.1.1.1;
      not_placed = placed_nowhere (last_round o) (placement_of o student) passed.1.1.0;
    }

list_fit : (student : List ℕ) (choices : List (List ℕ)) (o : State) → IsFit o → plain_refusal o (PutList student choices) ≡ None → IsFit (after_plain (PutList student choices) o)
list_fit student choices o fit none =
    let l : Listed = record { student = student; choices = choices } in
    fit_with_lists (put list_key l) o fit (not_false _ (allowed (list_tests o student choices) none).0)
    (rises-put list_key l (lists_of o (last_round o)) (fit.lists_rise (last_round o)))
    (all-put list_key (ListFits o (last_round o)) l (lists_of o (last_round o)) (list_fits student choices o none) (fit.lists_fit (last_round o)))

dropped_fit : (student : List ℕ) (o : State) → IsFit o → plain_refusal o (DropList student) ≡ None → IsFit (after_plain (DropList student) o)
dropped_fit student o fit none =
    fit_with_lists (take_out list_key (0, student)) o fit (not_false _ (allowed (drop_tests o student) none).0)
    (rises-filter list_key (λ l. not (same_key (0, student) (list_key l))) (lists_of o (last_round o)) (fit.lists_rise (last_round o)))
    (all_kept (ListFits o (last_round o)) (ListFits o (last_round o)) (λ l. not (same_key (0, student) (list_key l))) (λ l h kept. h) (lists_of o (last_round o)) (fit.lists_fit (last_round o)))

pub stays_fit : StaysFit
stays_fit (PutSupervisor code label quota) o fit none = supervisor_fit code label quota o fit none
stays_fit (PutProject code label supervisor quota) o fit none = project_fit code label supervisor quota o fit none
stays_fit (PutStudent code label) o fit none = student_fit code label o fit none
stays_fit (OpenRound aim) o fit none = opened_fit aim o fit none
stays_fit (PutList student choices) o fit none = list_fit student choices o fit none
stays_fit (DropList student) o fit none = dropped_fit student o fit none
stays_fit ReopenRound o fit none = fit_reopened o fit
stays_fit _ o fit none = fit
