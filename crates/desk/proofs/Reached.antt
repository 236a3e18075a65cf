-- What was answered stays, and what a crash leaves is found whole.
use Rattle.std.proofs.Common.{◌≡◌, ◌⊎◌, inl, inr, if◌then◌else◌, Bool, length, List, [], ◌∷◌, refl, sym, subst}
use Rattle.std.proofs.lemmas.Bool.{cases_Bool}
use Rattle.std.specs.Prelude.{false, true, map, Result, Ok, Err, IsOk}
use Rattle.desk.proofs.Common.{HasCleanDisk, IsFit, Makes, Step, layers, Refusal, Reply, Request, State, Trees, changes_nothing, in_latest, latest, number_of, rolls_of, rows_in, state}
use Rattle.sqlite.specs.Effect.{Database, IsDatabase}
use Rattle.sqlite_trees.specs.declared.store.Store.{Ghosts}
use Rattle.schema.specs.declared.table.Table.TheVariants.{Edition}
use Rattle.office_model.specs.Importing.{after_rows, rows_in as rows_in_text, with_import}
use Rattle.office_model.specs.State.{has_import}
use Rattle.office_model.specs.declared.request.Plain.TheVariants.{GetSupervisor, GetProject, GetStudent, GetRound}
use Rattle.office_model.specs.declared.request.Request.TheVariants as request
use Rattle.sql_tables.specs.Table.{table_at, values}
use Rattle.sql_tables.proofs.SameTrees.{listed_so, stands_so}
use Rattle.store.specs.Common.{AllRows}
use Rattle.store.specs.Reading.{IsDamaged}
use Rattle.store.specs.Tables.{StandsFor, TablesHold, numbered}
use Rattle.store.proofs.Standing.{stand_as}
use Rattle.desk.specs.DeskState.{DeskState}
use Rattle.desk.specs.Laws.{AskReaches, IsAsked, IsAtRest, IsFoundWhole, IsOneOf, IsReached, LeavesOneOf, Pends}
use Rattle.desk.proofs.AfterCrash.{ask_whole, rest_kept}
use Rattle.desk.proofs.SavedRows.{was_clean}

-- the tables hold the same rows wherever their trees are found
found_so : (db found : Database) (rows : AllRows) → IsDatabase db → IsDatabase found → found.trees ≡ db.trees → TablesHold db rows → TablesHold found rows
found_so db found rows sound here trees t =
    let all = listed_so db found sound here trees in
    stand_as (rolls_of latest) (number_of latest) (number_of latest) db found rows t (stands_so (table_at Edition) t.edition (numbered (number_of latest)) db found all trees t.editions)
    (λ table among. stands_so (table_at table) (t.places table) (map values (rows table)) db found all trees (t.rolls table among))

-- these trees are those of a database whose tables stand for a fit office
record Stood (trees : Trees) : Type 0 where
  db : Database
  sound : IsDatabase db
  same : trees ≡ db.trees
  office : State
  fit : IsFit office
  stands : StandsFor db office

stood_is_whole : (found : Database) → IsDatabase found → Stood found.trees → IsDamaged found → ⊥
stood_is_whole found sound it damaged =
    damaged latest it.office it.fit (in_latest (found_so it.db found (rows_in it.office) it.sound sound it.same it.stands))

-- what is one of two things is the first where the test holds
stays_if : (b : Bool) (o other n : State) → b ≡ true → n ≡ (if b then o else other) → n ≡ o
stays_if true o other n is same = same
stays_if false o other n is same = absurd (cc)

-- a request that changes nothing leaves the office as it is
read_stays : (o n : State) (q : Request) (reply : Reply) → changes_nothing o q ≡ true → Makes layers o q reply n → n ≡ o
read_stays o n (request.Plain (GetSupervisor code)) reply reads made = made.1
read_stays o n (request.Plain (GetProject code)) reply reads made = made.1
read_stays o n (request.Plain (GetStudent code)) reply reads made = made.1
read_stays o n (request.Plain (GetRound number)) reply reads made = made.1
read_stays o n (request.Plain p) reply reads made = absurd (cc)
read_stays o n request.Close reply reads made = absurd (cc)
read_stays o n request.Preview reply reads made = made.4
read_stays o n request.RoundText reply reads made = made.1
read_stays o n (request.Report kind round) reply reads made = made.1
read_stays o n (request.Import id kind bytes) reply reads made =
    let rows = rows_in_text (layers.records kind bytes) in
    stays_if (has_import o id) o (with_import (record { id = id; kind = kind; bytes = bytes; rows = length rows }) (after_rows rows o)) n reads made.1

-- so does one that is refused, and after one that was answered and changes the office nothing is pending
pends : (o n : State) (q : Request) (a : Result Reply Refusal) (before : List Request) → Step layers o q a n
    → (after : List Request) × Pends o q a n before after × ((after ≡ []) ⊎ (after ≡ q ∷ before))
pends o n q (Err refusal) before step = (q ∷ before, inr (step.0, refl), inr refl)
pends o n q (Ok reply) before step = elim (cases_Bool (changes_nothing o q)) [
  | inl reads ↦ (q ∷ before, inr (read_stays o n q reply reads step.1, refl), inr refl)
  | inr changes ↦ ([], inl (changes, refl, refl), inl refl)
]

module _ {S : Type 0} (ghosts : Ghosts S) where
  pub ask_reaches : AskReaches ghosts
  ask_reaches qs answers before old new q a reached asked =
      let it = pends old.office new.office q a before asked.step in
      (it.0, (old, before, reached, asked, it.1), it.2)

  -- a change that was answered leaves the desk at rest
  at_rest : (old new : DeskState S) (q : Request) (a : Result Reply Refusal) → changes_nothing old.office q ≡ false → IsOk a → IsAsked ghosts old q a new
      → HasCleanDisk (state ghosts new.store) → IsAtRest ghosts new
  at_rest old new q (Ok reply) change ok asked clean =
      let is_open = asked.saved.stays_open change clean in
      record { is_open = is_open; sound = (asked.live is_open).0; stands = asked.stands clean is_open; fit = asked.fit; alone = asked.saved.alone change clean }
  at_rest old new q (Err refusal) change ok asked clean = absurd (let it = ok in cc)

  stood : (desk : DeskState S) (trees : Trees) → IsAtRest ghosts desk → (state ghosts desk.store).may_leave trees → Stood trees
  stood desk trees rest left = record {
    db = (state ghosts desk.store).now;
    sound = rest.sound;
    same = rest.alone trees left;
    office = desk.office;
    fit = rest.fit;
    stands = rest.stands;
  }

  -- a crash leaves trees of tables that stood
  all_stood : (qs : List Request) (answers : List (Result Reply Refusal)) (pending : List Request) (desk : DeskState S) → IsReached ghosts qs answers pending desk
      → HasCleanDisk (state ghosts desk.store) → (trees : Trees) → (state ghosts desk.store).may_leave trees → Stood trees
  all_stood [] [] pending desk r clean trees left = stood desk trees r.1 left
  all_stood (q ∷ qs) (a ∷ answers) pending desk r clean trees left = elim r.4 [
    | inl c ↦ stood desk trees (at_rest r.0 desk q a c.0 c.1 r.3 clean) left
    | inr s ↦ elim (r.3.saved.crash.crash clean trees left) [
      | inl earlier ↦ all_stood qs answers r.1 r.0 r.2 (was_clean (state ghosts r.0.store) (state ghosts desk.store) _ r.3.saved.crash clean) trees earlier
      | inr it ↦ record { db = it.db; sound = it.sound; same = it.same; office = it.step.office; fit = it.step.fit; stands = it.step.stands }
    ]
  ]
  all_stood [] (a ∷ answers) pending desk r clean trees left = absurd r
  all_stood (q ∷ qs) [] pending desk r clean trees left = absurd r

  pub found_whole : IsFoundWhole ghosts
  found_whole qs answers pending desk r clean found sound left = stood_is_whole found sound (all_stood qs answers pending desk r clean found.trees left)

  pub answers_stay : (qs : List Request) (answers : List (Result Reply Refusal)) (pending : List Request) (desk : DeskState S) → IsReached ghosts qs answers pending desk → LeavesOneOf ghosts pending desk
  answers_stay [] [] pending desk r office it = inl (rest_kept ghosts desk office r.1 it)
  answers_stay (q ∷ qs) (a ∷ answers) pending desk r office it = elim r.4 [
    | inl c ↦ inl (rest_kept ghosts desk office (at_rest r.0 desk q a c.0 c.1 r.3 it.clean) it)
    | inr s ↦
        let one : IsOneOf r.0.office (q ∷ r.1) office = ask_whole ghosts r.0 desk r.1 q (answers_stay qs answers r.1 r.0 r.2) r.3.saved.crash office it in
        subst (λ pending. IsOneOf desk.office pending office) (sym s.1) (subst (λ o. IsOneOf o (q ∷ r.1) office) (sym s.0) one)
  ]
  answers_stay [] (a ∷ answers) pending desk r office it = absurd r
  answers_stay (q ∷ qs) [] pending desk r office it = absurd r
