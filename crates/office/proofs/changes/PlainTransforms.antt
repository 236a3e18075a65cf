-- The changes of each plain request transform the rows of the office into those of the office after it.
use Rattle.office.proofs.changes.Common.{eqb-false, IsPermutation-refl, IsPermutation-flat_map, Listed, PutSupervisor, PutProject, PutStudent, OpenRound, PutList, DropList, ReopenRound, put, take_out, State, list_key, has_list, last_round, IsFit, plain_refusal, list_tests, drop_tests, reopening_tests, after_plain, changes_of, list_rows, rows_in, Transforms, allowed, ChangesTransform, ◌≡◌, ℕ, true, List, [], None, arith}
use Rattle.office.proofs.changes.Entries.{not_false}
use Rattle.office.proofs.changes.Keyed.{put_beside}
use Rattle.office.proofs.changes.Changes.{nothing_transforms}
use Rattle.office.proofs.changes.OneRow.{transforms_supervisor, transforms_project, transforms_student}
use Rattle.office.proofs.changes.Rounds.{transforms_opened, transforms_reopened}
use Rattle.office.proofs.changes.Lists.{transforms_lists}

-- a list that is put
list_transforms : (student : List ℕ) (choices : List (List ℕ)) (o : State) → IsFit o → plain_refusal o (PutList student choices) ≡ None → Transforms (changes_of (PutList student choices) o) o (after_plain (PutList student choices) o)
list_transforms student choices o fit none =
    let l : Listed = record { student = student; choices = choices } in
    transforms_lists (put list_key l) student choices o fit (not_false _ (allowed (list_tests o student choices) none).0)
    (λ ls rise. IsPermutation-flat_map (list_rows (last_round o)) _ _ (put_beside list_key l ls rise)) (has_list o (last_round o) student) (λ absent. absent)

-- one that is dropped
dropped_transforms : (student : List ℕ) (o : State) → IsFit o → plain_refusal o (DropList student) ≡ None → Transforms (changes_of (DropList student) o) o (after_plain (DropList student) o)
dropped_transforms student o fit none =
    transforms_lists (take_out list_key (0, student)) student [] o fit (not_false _ (allowed (drop_tests o student) none).0) (λ ls rise. IsPermutation-refl _) true (λ e. absurd (cc))

-- a round that opens again
reopened_transforms : (o : State) → IsFit o → plain_refusal o ReopenRound ≡ None → Transforms (changes_of ReopenRound o) o (after_plain ReopenRound o)
reopened_transforms o fit none =
    let other : last_round o ≡ 0 → ⊥ = eqb-false (last_round o) 0 (allowed (reopening_tests o) none).1.0 in
    transforms_reopened o fit (omega (arith, other))

pub changes_transform : ChangesTransform
changes_transform (PutSupervisor code label quota) o fit none = transforms_supervisor o (record { code = code; label = label; quota = quota }) fit.supervisors.rise
changes_transform (PutProject code label supervisor quota) o fit none = transforms_project o (record { code = code; label = label; supervisor = supervisor; quota = quota }) fit.projects.rise
changes_transform (PutStudent code label) o fit none = transforms_student o (record { code = code; label = label }) fit.students.rise
changes_transform (OpenRound aim) o fit none = transforms_opened aim o fit
changes_transform (PutList student choices) o fit none = list_transforms student choices o fit none
changes_transform (DropList student) o fit none = dropped_transforms student o fit none
changes_transform ReopenRound o fit none = reopened_transforms o fit none
changes_transform _ o fit none = nothing_transforms (rows_in o)
