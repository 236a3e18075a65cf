-- What is printed of a file of which all is known.
use Rattle.std.proofs.Common.{◌≡◌, ◌≢◌, ◌∙◌, inl, inr, ap, sym, subst, ℕ, List, take, Option, Some, Result, Ok, Err, IfSome, codes}
use Rattle.std.specs.declared.io.ErrorKind.{ErrorKind}
use Rattle.std.specs.declared.io.ErrorKind.TheVariants as kinds
use Rattle.office_model.specs.declared.refusal.Refusal.{Refusal}
use Rattle.office_model.specs.declared.refusal.Refusal.TheVariants as no
use Rattle.cli.specs.Outcomes.{Outcome, Prints, refused}
use Rattle.cli.specs.Outputs.{Both}
use Rattle.cli.specs.declared.status.Status.{Status}
use Rattle.cli.specs.Solving.{SolvesIn}
use Rattle.desk_tests.specs.Known.{Tells, holds_of}

err_is : {A E : Type 0} (one other : E) → ◌≡◌ {A = Result A E} (Err one) (Err other) → one ≡ other
err_is one other same = cc

ok_is : {A E : Type 0} (one other : A) → ◌≡◌ {A = Result A E} (Ok one) (Ok other) → one ≡ other
ok_is one other same = cc

ok_or_err : {A E P : Type 0} (one : A) (other : E) → Ok one ≡ Err other → P
ok_or_err one other same = cc

-- it was not read
unread : (name text : List ℕ) (o : Outcome) (refusal : Refusal) (kind : ErrorKind) → holds_of name text (codes "round.txt") (Err kind) → (kind ≡ kinds.OutOfMemory → refusal ≡ no.Memory)
    → (kind ≢ kinds.OutOfMemory → refusal ≡ no.Storage) → o ≡ refused refusal → Tells name text o
unread name text o refusal kind (inl out) memory storage printed = inl (printed ∙ ap refused (memory (err_is _ _ out)))
unread name text o refusal kind (inr (inl found)) memory storage printed = ok_or_err _ _ (sym found.1)
unread name text o refusal kind (inr (inr absent)) memory storage printed =
    let is : kind ≡ kinds.NotFound = err_is _ _ absent.1 in
    inr (inr (absent.0, printed ∙ ap refused (storage (λ out. let bad : kinds.NotFound ≡ kinds.OutOfMemory = sym is ∙ out in cc))))

-- it was read
read : (name text : List ℕ) (all : Option (List ℕ)) → holds_of name text (codes "round.txt") (Ok all) → (codes "round.txt" ≡ name) × (all ≡ Some text)
read name text all (inl out) = ok_or_err _ _ out
read name text all (inr (inl found)) = (found.0, ok_is _ _ found.1)
read name text all (inr (inr absent)) = ok_or_err _ _ absent.1

-- as many bytes as were asked for, of those of the file
taken : (bytes text : List ℕ) (all : Option (List ℕ)) (count : ℕ) → all ≡ Some text → IfSome all (λ all. bytes ≡ take count all) → bytes ≡ take count text
taken bytes text all count is came = subst (λ (all : Option (List ℕ)). IfSome all (λ all. bytes ≡ take count all)) is came

-- what is printed is printed of more
pub printed_more : {O E : Type 0} (A B : Outcome → Type 0) → ((o : Outcome) → A o → B o) → (old new : Both O E) (status : Status) → Prints A old new status → Prints B old new status
printed_more A B more old new status (inl it) = inl (it.0, more it.0 it.1, it.2, it.3, it.4, it.5)
printed_more A B more old new status (inr failed) = inr failed

pub tells : (name text : List ℕ) (o : Outcome) → SolvesIn (holds_of name text) o → Tells name text o
tells name text o (inl memory) = inl memory
tells name text o (inr (inl not)) = unread name text o not.0 not.1.0 not.1.1 not.1.2 not.1.3 not.2
tells name text o (inr (inr was)) =
    let found = read name text was.1.0 was.1.1 in
    inr (inl (found.0, (was.2, rw (← taken was.0 text was.1.0 _ found.1 was.1.2) was.3, was.4)))
