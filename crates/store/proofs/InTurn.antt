-- What is done for the first things of a list, one after another: it goes on with the next one, or stops there.
use Rattle.std.specs.Prelude.{IsErrAnd}
use Rattle.sql_tables.specs.Outcomes.{Outcome}
use Rattle.sql_tables.specs.Steps.{IsPart}
use Rattle.store.proofs.Common.{◌≡◌, ℕ, ◌+◌, ◌<◌, List, take, length, get_or, Result, Ok, Err, sym, subst, take_more, Seen, TableFault, Stays, HasStepped, each_of, one_and_rest, runs_more, runs_stopped}

abbrev Run : Outcome → Result (Unit {0}) TableFault → Seen → Seen → Type 0
Run outcome = IsPart {A = Unit {0}} (λ _. Stays outcome.does) outcome.hinders

abbrev One : Outcome → Result (Unit {0}) TableFault → Seen → Seen → Type 0
One outcome = IsPart {A = Unit {0}} (λ _. HasStepped outcome.does) outcome.hinders

module _ {X : Type 0} (outcome : X → Outcome) (all : List X) (i : ℕ) (d : X) (low : i < length all) (x : X) (is : x ≡ get_or all i d) (a b c : Seen) (first : Run (each_of outcome (take i all)) (Ok tt) a b) where
  pub goes_on : One (outcome x) (Ok tt) b c → Run (each_of outcome (take (i + 1) all)) (Ok tt) a c
  goes_on one = subst (λ xs. Run (each_of outcome xs) (Ok tt) a c) (sym (take_more all i d low)) (runs_more outcome _ _ _ _ _ first (subst (λ y. One (outcome y) (Ok tt) b c) is one))

  pub stops : (e : TableFault) (r : Result (Unit {0}) TableFault) → IsErrAnd r (λ f. f ≡ e) → One (outcome x) (Err e) b c → Run (each_of outcome all) r a c
  stops e r err one = subst (λ xs. Run (each_of outcome xs) r a c) (one_and_rest all i d low) (runs_stopped outcome _ _ _ _ _ _ _ _ err first (subst (λ y. One (outcome y) (Err e) b c) is one))
