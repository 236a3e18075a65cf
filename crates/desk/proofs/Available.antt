-- A valid request is refused by tables of ours for nothing but the disk, and leaves them ours.
use Rattle.std.proofs.Common.{◌≡◌, ◌⊎◌, ◌+◌, ◌^◌, arith, inl, inr, IsTrue, false, length, List, None, Result, subst}
use Rattle.std.proofs.lemmas.Bool.{cases_Bool}
use Rattle.sqlite.specs.State.{State as Seen, HasCleanDisk, IsLive}
use Rattle.schema.specs.declared.row.Change.{Change}
use Rattle.schema.specs.Changes.{AreFresh}
use Rattle.office_model.specs.declared.refusal.Refusal.{Refusal}
use Rattle.office_model.specs.declared.refusal.Refusal.TheVariants.{Storage}
use Rattle.office_model.specs.declared.request.Reply.{Reply}
use Rattle.office_model.specs.Fit.{IsFit}
use Rattle.office_model.specs.Rows.{rows_in}
use Rattle.office_model.specs.State.{State}
use Rattle.sql_tables.specs.Causes.{IsCaused}
use Rattle.sql_tables.specs.Ours.{IsOurs}
use Rattle.sql_tables.proofs.Ours.{unacted}
use Rattle.store.specs.Available.{AreFew, AreReady, LeavesRoom, StaysOurs}
use Rattle.store.proofs.Available.{room_for, takes_changes}
use Rattle.store.specs.Causes.{IsHinderedAmong}
use Rattle.store.specs.Saving.{AreActedOn}
use Rattle.desk.specs.Keeping.{Keeps}

-- no foreign key acts on tables of ours
quiet : (old : Seen) → IsOurs old.now → AreActedOn old.now.schema → ⊥
quiet old ours (table, among, (place, listed, acts)) = unacted old.now ours table place listed acts

module _ (o : State) (changes : List Change) where
  pub available_so : (answer : Result Reply Refusal) (old new : Seen) → IsFit o → Keeps old o → IsLive old → AreFew changes (rows_in o) → AreFresh changes (rows_in o) → (HasCleanDisk new → HasCleanDisk old)
      → ((AreActedOn old.now.schema → ⊥) → IsCaused Storage (IsHinderedAmong changes) answer old new) → old.step_limit ≡ None → AreReady old.now → IsCaused Storage (λ _ _. ⊥) answer old new
  available_so answer old new fit keeps live few fresh early cause unlimited ready clean told = record { why = by (let it = cause (quiet old ready.0) clean told in it.why) }
    where
      by : {Faults : Type 0} → (old.is_open ≡ false) ⊎ (Faults ⊎ IsHinderedAmong changes old.step_limit old.now) → (old.is_open ≡ false) ⊎ (Faults ⊎ ⊥)
      by (inl shut) = inl shut
      by (inr (inl more)) = inr (inl more)
      by (inr (inr hindered)) = elim (cases_Bool old.is_open) [
        | inr shut ↦ inl shut
        | inl up ↦ absurd (takes_changes changes (rows_in o) old.now (live up).0 ready (keeps (early clean) up) few fresh (subst (λ l. IsHinderedAmong changes l old.now) unlimited hindered))
      ]

-- tables of ours stay ours, and changes that a request makes take no more rowids than it
pub ours_so : (o : State) (changes : List Change) (old new : Seen) → Keeps old o → IsLive old → AreFew changes (rows_in o) → (HasCleanDisk new → HasCleanDisk old)
    → (HasCleanDisk new → IsTrue new.is_open → IsTrue old.is_open) → (HasCleanDisk new → IsTrue new.is_open → StaysOurs changes old.now new.now)
    → IsOurs old.now → HasCleanDisk new → IsTrue new.is_open → IsOurs new.now × LeavesRoom (2 ^ 20) old.now new.now
unfolding StaysOurs
ours_so o changes old new keeps live few early was_open stays ours clean up =
    let open_before = was_open clean up in
    let it = stays clean up (rows_in o) (live open_before).0 ours (keeps (early clean) open_before) in
    (it.0, λ count low room. it.1 few.0 count (omega (arith, low, few.1)) (room_for (length changes + count) (2 ^ 20 + count) old.now (omega (arith, few.1)) room))
