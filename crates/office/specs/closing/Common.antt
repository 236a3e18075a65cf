-- The names that most definitions and contracts here cite, passed on from one place. Declares nothing.
pub use Rattle.office_model.specs.Closing.{MayClose, after_close, closed_reply, kept}
pub use Rattle.office_model.specs.Counted.{AreCounted, count_in, count_with, offers}
pub use Rattle.office_model.specs.Fit.{IsFit}
pub use Rattle.office_model.specs.Instances.{instance_left, round_instance}
pub use Rattle.office_model.specs.Roll.{put_all}
pub use Rattle.office_model.specs.Rows.{Transforms, placement_cells, rows_in}
pub use Rattle.office_model.specs.State.{State, last_round, lists_of, placement_key, round_is_open}
pub use Rattle.office_model.specs.declared.entries.Project.{Project}
pub use Rattle.office_model.specs.declared.entries.Supervisor.{Supervisor}
pub use Rattle.office_model.specs.declared.rounds.Listed.{Listed}
pub use Rattle.office_model.specs.declared.rounds.Placement.{Placement}
pub use Rattle.spa.specs.Coded.{CodePair, IsBestByCodes, IsMatchingByCodes, profile_by_codes, taken}
pub use Rattle.spa.specs.Instance.{Instance}
pub use Rattle.spa.specs.Named.{Named, instance_of}
pub use Rattle.spa.specs.Shape.{IsPlaceOf}
pub use Rattle.spa.specs.declared.TheConstants.{MAX_PROJECTS, MAX_SUPERVISORS}
