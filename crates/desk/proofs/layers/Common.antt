-- The names that most proofs here cite, passed on from one place. Declares nothing.
pub use Rattle.office.proofs.closing.UniqueCodes.{apart_since_distinct, contains_found, same_as_itself}
pub use Rattle.desk.specs.layers.SessionRounds.{IsFirstList, IsSameRound, IsSessionOf, MayJoin}
pub use Rattle.office_model.proofs.EntryChange.{all_weaker, find-put, length-put, same_code}
pub use Rattle.office_model.proofs.Found.{holds_of_found}
pub use Rattle.office_model.specs.Closing.{MayClose, profile_of}
pub use Rattle.office_model.specs.Fit.{IsFit, ListFits}
pub use Rattle.office_model.specs.Instances.{round_instance}
pub use Rattle.office_model.specs.State.{State, aim_of, choices_in, has_project, is_open, last_round, list_key, list_of, lists_of, placed_in_project, placed_with_supervisor, project_key, round_is_open}
pub use Rattle.office_model.specs.declared.entries.Project.{Project}
pub use Rattle.office_model.specs.declared.rounds.Listed.{Listed}
pub use Rattle.solver.specs.SessionState.{IsAdmitted, SessionState, with_list}
pub use Rattle.spa.specs.Coded.{CodePair, IsBestByCodes, IsMatchingByCodes, choices_of, codes_of, profile_by_codes, taken}
pub use Rattle.spa.specs.Codes.{code_at}
pub use Rattle.spa.specs.Inside.Made.{IsRanking}
pub use Rattle.spa.specs.Instance.{Instance, Student, Supervisor, project_codes}
pub use Rattle.spa.specs.Matching.{IsBest, Pair, profile}
pub use Rattle.spa.specs.Named.{IsFit as IsFitInstance, Named, Names, instance_of, projects_named, students_named}
pub use Rattle.spa.specs.Shape.{Shape}
pub use Rattle.spa.specs.declared.TheConstants.{MAX_STUDENTS, RANKS}
pub use Rattle.spa.specs.declared.aim.Aim.{Aim}
pub use Rattle.std.proofs.lemmas.List.{get_or-map, length-map, length_push}
pub use Rattle.std.proofs.lemmas.List.Elements.{All-from_recursion, All-push}
pub use Rattle.std.proofs.lemmas.Slice.Eq.{bytes_eq-Decides}
pub use Rattle.std.specs.Option.{option_map_or, option_or}
pub use Rattle.std.specs.Prelude.{Err, IsTrue, Ok, Option, Result, not, option_copied, pos, ℕ, ◌==◌, ◌≡◌}
pub use Rattle.std.specs.Str.{bytes_eq}
