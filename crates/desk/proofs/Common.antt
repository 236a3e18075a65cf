-- The names that most proofs here cite, passed on from one place. Declares nothing.
pub use Rattle.desk.specs.Inside.Sessions.{MayMeet, effect_after}
pub use Rattle.desk.specs.Keeping.{Begins, CarriesOut, Keeps, StandsForOne}
pub use Rattle.desk.specs.Sessions.{AnswersAtOnce, GoesOn, MirrorsRound, RunsOn, effect_of, list_effect, plain_effect}
pub use Rattle.desk.specs.layers.Layers.{import_as_read, layers}
pub use Rattle.desk.specs.layers.SessionRounds.{IsSessionOf, MayJoin}
pub use Rattle.office_model.specs.Fit.{IsFit}
pub use Rattle.office_model.specs.Reads.{changes_nothing, is_read}
pub use Rattle.office_model.specs.Refusing.{choice_tests, first, import_tests, open_tests, plain_refusal, refusal_of, round_tests}
pub use Rattle.office_model.specs.Rows.{Transforms, rows_in}
pub use Rattle.office_model.specs.Run.{Makes, MayRefuse, Run, Step, refusal}
pub use Rattle.office_model.specs.State.{State, has_import, has_list, last_round}
pub use Rattle.office_model.specs.Stepping.{after_plain}
pub use Rattle.office_model.specs.declared.refusal.Refusal.{Refusal}
pub use Rattle.office_model.specs.declared.refusal.Refusal.TheVariants.{Damaged as TheDamaged, Memory as TheMemory, Storage, Storage as TheStorage}
pub use Rattle.office_model.specs.declared.request.Done.{Done}
pub use Rattle.office_model.specs.declared.request.Plain.{Plain}
pub use Rattle.office_model.specs.declared.request.Plain.TheVariants.{DropList, OpenRound, PutList, PutProject, PutStudent, PutSupervisor, ReopenRound}
pub use Rattle.office_model.specs.declared.request.Reply.{Reply}
pub use Rattle.office_model.specs.declared.request.Request.{Request}
pub use Rattle.schema.specs.declared.row.Change.{Change}
pub use Rattle.solver.specs.SessionState.{SessionState}
pub use Rattle.sqlite.proofs.StateLemmas.{survives_then, survives_weaker}
pub use Rattle.sqlite.specs.Held.{state}
pub use Rattle.sqlite.specs.State.{HasCleanDisk, State as Seen, Survives}
pub use Rattle.sqlite.specs.Tree.{Trees}
pub use Rattle.std.specs.Prelude.{if◌then◌else◌}
pub use Rattle.std.specs.Vec.{vec_capacity}
pub use Rattle.store.proofs.Standing.{hold_same, in_latest}
pub use Rattle.store.specs.Causes.{IsHinderedAmong}
pub use Rattle.store.specs.Editions.{latest, number_of, rolls_of}
pub use Rattle.store.specs.Saving.{AreActedOn, Saves}
pub use Rattle.store.specs.declared.fault.StoreFault.{StoreFault}
pub use Rattle.store.specs.declared.fault.StoreFault.TheVariants.{Damaged, Memory}
pub use Rattle.sql_tables.specs.Causes.{IsCaused, IsStopped}
pub use Rattle.sql_tables.specs.Steps.{HasSaved, IsKept, MayRecoverTo}
