use Rattle.std.proofs.Common.{ℕ, List, refl, string_bytes, subst}
use Rattle.office_model.specs.declared.request.Plain.TheVariants as plain
use Rattle.office_model.specs.declared.request.Request.TheVariants as request
use Rattle.cli.specs.declared.tasks.Task.TheVariants as task
use Rattle.cli.proofs.Common.{IsImportOfFile, ComesBy}
use Rattle.cli.specs.declared.rounds.RoundTask.TheVariants as way
use Rattle.round_files.specs.Public.{IsCheckedOwn}
use Rattle.cli.specs.Outcomes.{OnFile, Prints}
use Rattle.cli.proofs.Lines.{asked_named, done_named, file_named}
use Rattle.cli.proofs.run.run_line.Goals as goal

pub returns-in-Serve : goal.returns-in-Serve
returns-in-Serve g c = rw c.in-Serve.is (done_named (g.W.World.state c.args.world) _ _ (task.Serve (record { port = c.in-Serve.port; count = c.in-Serve.count })) c.perform_on_file.result.1 c.args.outputs.now c.perform_on_file.new.outputs c.perform_on_file.result.0 c.deref.ensures c.perform_on_file.ensures)

pub returns-in-Import : goal.returns-in-Import
returns-in-Import g c =
    let holds = (g.W.World.state c.args.world).holds in
    rw c.in-Import.is (
      c.import_file-made.result,
      subst (λ (t : List ℕ). IsImportOfFile (holds (string_bytes c.in-Import.file)) t c.in-Import.kind c.import_file-made.result) c.deref-in-Import.ensures
          (subst (λ (t : List ℕ). IsImportOfFile (holds t) c.deref-in-Import.result.now c.in-Import.kind c.import_file-made.result) c.deref-in-Import-2.ensures c.import_file-made.ensures),
      asked_named (g.W.World.state c.args.world) _ _ c.import_file-made.result c.ask_made.result.1 c.args.outputs.now c.ask_made.new.outputs c.ask_made.result.0 c.deref-in-Import-3.ensures c.ask_made.ensures,
    )

pub returns-in-OpenRound : goal.returns-in-OpenRound
returns-in-OpenRound g c = rw c.in-OpenRound.is (done_named (g.W.World.state c.args.world) _ _ (task.Ask (request.Plain (plain.OpenRound c.in-OpenRound.aim))) c.perform_on_file-in-OpenRound.result.1 c.args.outputs.now c.perform_on_file-in-OpenRound.new.outputs c.perform_on_file-in-OpenRound.result.0 c.deref-in-OpenRound.ensures c.perform_on_file-in-OpenRound.ensures)

pub returns-in-ReopenRound : goal.returns-in-ReopenRound
returns-in-ReopenRound g c = rw c.in-ReopenRound.is (done_named (g.W.World.state c.args.world) _ _ (task.Ask (request.Plain plain.ReopenRound)) c.perform_on_file-in-ReopenRound.result.1 c.args.outputs.now c.perform_on_file-in-ReopenRound.new.outputs c.perform_on_file-in-ReopenRound.result.0 c.deref-in-ReopenRound.ensures c.perform_on_file-in-ReopenRound.ensures)

pub returns-in-CloseRound : goal.returns-in-CloseRound
returns-in-CloseRound g c = rw c.in-CloseRound.is (done_named (g.W.World.state c.args.world) _ _ (task.Ask request.Close) c.perform_on_file-in-CloseRound.result.1 c.args.outputs.now c.perform_on_file-in-CloseRound.new.outputs c.perform_on_file-in-CloseRound.result.0 c.deref-in-CloseRound.ensures c.perform_on_file-in-CloseRound.ensures)

pub returns-in-Report : goal.returns-in-Report
returns-in-Report g c = rw c.in-Report.is (done_named (g.W.World.state c.args.world) _ _ (task.Ask (request.Report c.in-Report.kind c.in-Report.round)) c.perform_on_file-in-Report.result.1 c.args.outputs.now c.perform_on_file-in-Report.new.outputs c.perform_on_file-in-Report.result.0 c.deref-in-Report.ensures c.perform_on_file-in-Report.ensures)

pub returns-in-Solve : goal.returns-in-Solve
returns-in-Solve g c =
    rw c.in-Solve.is (refl, file_named (g.W.World.state c.args.world) _ _ (ComesBy way.Solve) c.args.outputs.now c.run_on_round_file.new.outputs c.run_on_round_file.result c.deref-in-Solve.ensures c.run_on_round_file.ensures)

pub returns-in-Check : goal.returns-in-Check
returns-in-Check g c =
    rw c.in-Check.is (refl, file_named (g.W.World.state c.args.world) _ _ (ComesBy way.Check) c.args.outputs.now c.run_on_round_file-in-Check.new.outputs c.run_on_round_file-in-Check.result c.deref-in-Check.ensures c.run_on_round_file-in-Check.ensures)

pub returns-in-Publish : goal.returns-in-Publish
returns-in-Publish g c =
    rw c.in-Publish.is (refl, file_named (g.W.World.state c.args.world) _ _ (ComesBy way.Publish) c.args.outputs.now c.run_on_round_file-in-Publish.new.outputs c.run_on_round_file-in-Publish.result c.deref-in-Publish.ensures c.run_on_round_file-in-Publish.ensures)

pub returns-in-CheckOwn : goal.returns-in-CheckOwn
returns-in-CheckOwn g c =
    let holds = (g.W.World.state c.args.world).holds in
    rw c.in-CheckOwn.is (
      refl,
      subst (λ (t : List ℕ). Prints (OnFile (holds (string_bytes c.in-CheckOwn.file)) (λ text. IsCheckedOwn text t)) c.args.outputs.now c.run_on_round_file-in-CheckOwn.new.outputs c.run_on_round_file-in-CheckOwn.result) c.deref-in-CheckOwn.ensures
          (file_named (g.W.World.state c.args.world) _ _ (ComesBy (way.CheckOwn c.deref-in-CheckOwn.result)) c.args.outputs.now c.run_on_round_file-in-CheckOwn.new.outputs c.run_on_round_file-in-CheckOwn.result c.deref-in-CheckOwn-2.ensures c.run_on_round_file-in-CheckOwn.ensures),
    )
