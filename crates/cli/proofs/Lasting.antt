-- A desk that was just opened is at rest, and so a task that is done there leaves what was answered.
use Rattle.std.proofs.Common.{◌≡◌, ◌⊎◌, inl, inr, ℕ, [], ◌∷◌, refl, subst, sym}
use Rattle.sqlite.specs.Held.{Held, state}
use Rattle.sqlite.specs.State.{HasCleanDisk}
use Rattle.sqlite_trees.specs.declared.store.Store.{Ghosts}
use Rattle.office_model.specs.declared.request.Request.{Request}
use Rattle.office_model.specs.State.{State}
use Rattle.desk.specs.DeskState.{DeskState}
use Rattle.desk.specs.Keeping.{CarriesOut}
use Rattle.desk.specs.Laws.{AnswersStay, AskReaches, IsAtRest, IsOpenedAfter, LeavesOneOf}
use Rattle.host.specs.WorldState.{PortState}
use Rattle.web.proofs.Streams.{connections_stay}
use Rattle.cli.specs.Databases.{IsDone, TakesTo}
use Rattle.cli.specs.Lasting.{TaskStays}
use Rattle.cli.specs.declared.tasks.Task.{Task}
use Rattle.cli.specs.declared.tasks.Task.TheVariants as task

module _ {S : Type 0} (ghosts : Ghosts S) where
  -- from its opening on
  rests : (Done : DeskState S → DeskState S → Type 0) (first last : Held S) (it : IsDone ghosts Done first last) → HasCleanDisk (state ghosts last) → IsAtRest ghosts it.desk
  rests Done first last it clean =
      let early = it.clean clean in
      let up = it.opened.opening.is_open early in
      record { is_open = up; sound = (it.live up).0; stands = it.opened.in_order.stands early up; fit = it.fit; alone = it.opened.opening.alone early }

  module _ (ports : ℕ → PortState) (reaches : AskReaches ghosts) (stay : AnswersStay ghosts) where
    taken_stays : (done : Task) (desk next : DeskState S) → IsAtRest ghosts desk → TakesTo ghosts ports done desk next → (office : State) → IsOpenedAfter ghosts next office
        → (office ≡ next.office) ⊎ ((asked : Request) × CarriesOut next.office asked office)
    taken_stays (task.Serve serving) desk next rest taken office opened = connections_stay ghosts reaches stay (ports serving.port).peers desk next taken.0 rest taken.1 office opened
    taken_stays (task.Ask asked) desk next rest taken office opened =
        let it = reaches [] [] [] desk next asked taken.0 (refl, rest) taken.1.asking in
        let left : LeavesOneOf ghosts it.0 next = stay (asked ∷ []) (taken.0 ∷ []) it.0 next it.1 in
        elim it.2 [
          | inl none ↦ elim (subst (λ pending. LeavesOneOf ghosts pending next) none left office opened) [ inl same ↦ inl same | inr absent ↦ absurd absent ]
          | inr one ↦ elim (subst (λ pending. LeavesOneOf ghosts pending next) one left office opened) [
            | inl same ↦ inl same
            | inr makes ↦ elim makes [ inl it ↦ inr (asked, it) | inr absent ↦ absurd absent ]
          ]
        ]

    pub task_stays : TaskStays ghosts ports
    task_stays done first last it office opened =
        taken_stays done it.desk it.next (rests (TakesTo ghosts ports done) first last it (subst (λ (held : Held S). HasCleanDisk (state ghosts held)) (sym it.given_back) opened.clean)) it.done office opened
