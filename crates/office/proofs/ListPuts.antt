-- What is known where a list may be put or dropped: there is an open round, the choices are few and known, and so is the
-- student.
use Rattle.std.specs.Cmp.{second_so}
use Rattle.office.proofs.Common.{option_map_or, AllByRecursion, RANKS, Round, PutList, ReopenRound, State, has_project, round_of, last_round, round_is_open, plain_refusal, list_tests, reopening_tests, allowed, IsFit, ◌≡◌, ℕ, zero, suc, ◌≤◌, [], Option, Some, None, refl, ap, arith, ◌==◌, true, false, ◌&&◌, nat_le, List, is_some}
use Rattle.std.proofs.lemmas.Bool.Decides.{nat_tests}
use Rattle.office_model.proofs.LastRound.{some_round}
use Rattle.office.proofs.changes.KnownChoices.{choices_known}

open_found : (x : Option Round) → option_map_or (λ r. r.is_open) x false ≡ true → is_some x ≡ true
open_found None h = cc
open_found (Some r) h = refl

-- an open round is there
pub open_round : (o : State) → round_is_open o ≡ true → is_some (round_of o (last_round o)) ≡ true
open_round o h = open_found (round_of o (last_round o)) h

few : (n : ℕ) → (nat_le 1 n && nat_le n RANKS) ≡ true → n ≤ RANKS
few n h = let low = second_so (nat_le 1 n) (nat_le n RANKS) h in grind (arith, nat_tests)

one_or_more : (n : ℕ) → (n == 0) ≡ false → 1 ≤ n
one_or_more zero h = cc
one_or_more (suc n) h = omega arith

module _ (o : State) (student : List ℕ) (choices : List (List ℕ)) (none : plain_refusal o (PutList student choices) ≡ None) where
  passed : AllByRecursion (λ t. t.0 ≡ false) (list_tests o student choices)
  passed = allowed (list_tests o student choices) none

  pub list_known : AllByRecursion (λ p. has_project o p ≡ true) choices
  list_known = choices_known o [] choices passed.1.1.1.1

-- a last round that is closed is there
pub reopening_found : (o : State) → IsFit o → plain_refusal o ReopenRound ≡ None → is_some (round_of o (last_round o)) ≡ true
reopening_found o fit none =
    let passed = allowed (reopening_tests o) none in
    let some = some_round o fit.numbered (last_round o) (one_or_more (last_round o) passed.1.0) (omega arith) in
    ap is_some some.1
