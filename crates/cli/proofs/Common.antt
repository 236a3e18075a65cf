-- The names that most proofs here cite, passed on from one place. Declares nothing.
pub use Rattle.cli.specs.Databases.{AskedAt, Came, ComesFrom, CommandAt, CutsOff, CutsOver, DoesOver, DoneAt, IsDone, IsFoundFor, IsOfficeIn, IsOfficeOf, IsRefusalOf, IsUnfound, IsWhyUnopened, LeftBy, LineAt, PrintsOver, TakesTo, WasClean, WordsAt}
pub use Rattle.cli.specs.Imports.{IsImportOf, IsImportOfFile, IsUnreadOf}
pub use Rattle.cli.specs.Inside.Rounds.{ComesBy}
pub use Rattle.cli.specs.Outcomes.{ComesOf, ComesTo, ImportsFile, IsImportLine, IsServed, IsUnbound, IsUnopened, IsUnreadFile, MayCome, MayDo, MayDoAt, OfDatabase, OnFile, Outcome, Prints, ServesAt, ServesBehind, behind, counts_text, listening, named_line, new_database, of_answer, of_round, printed_reply, prints, prints_err, refusal_line, refused}
pub use Rattle.cli.specs.Outputs.{Both, HasPrinted, Output, both_failures}
pub use Rattle.cli.specs.declared.status.Status.{Status}
pub use Rattle.cli.specs.declared.status.Status.TheVariants.{Failure, Success, Usage}
pub use Rattle.cli.specs.declared.tasks.Task.{Task}
pub use Rattle.args.specs.Reading.{IsAnswer}
pub use Rattle.args.specs.declared.line.LineFault.{LineFault}
pub use Rattle.desk.specs.DeskState.{DeskState}
pub use Rattle.office_model.specs.State.{State, empty}
pub use Rattle.office_model.specs.declared.refusal.Refusal.{Refusal}
pub use Rattle.office_model.specs.declared.request.Request.{Request}
pub use Rattle.round_files.specs.declared.rounds.Trouble.{Trouble}
pub use Rattle.sqlite.specs.Effect.{Database}
pub use Rattle.sqlite.specs.Files.{IsOpened, file_state, over_files}
pub use Rattle.sqlite.specs.Held.{Held, state}
pub use Rattle.std.specs.Io.KnownBytes.{Appends}
pub use Rattle.std.specs.Prelude.{⊤}
pub use Rattle.std.specs.declared.alloc.Global.{Global}
pub use Rattle.store.specs.Tables.{HasNone, Opens}
pub use Rattle.web.proofs.OneMessage.{gets_at, office_seen}
pub use Rattle.web.specs.Connections.{AllServed, Connect, SomeServed, Visit, lines_after}
pub use Rattle.web.specs.Serving.{AnswersFrom, AnswersMessage, AnswersOffice, AtDesk, at_desk, end_text, just_opened}
pub use Rattle.http_stream.specs.Run.{MessageText}
pub use Rattle.host.specs.WorldState.{Found, IsPeer, IsReadOf, Peer, PortState, Within, WorldState, some_port}
