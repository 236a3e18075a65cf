-- What is printed of an import is an outcome of its line.
use Rattle.std.proofs.Common.{◌≡◌, inl, inr, ℕ, List, Result, Ok, Err, MatchResult, ap, ◌∙◌, subst}
use Rattle.cli.proofs.Common.{Refusal, Request, Found, IsImportLine, ImportsFile, MayDoAt, Outcome, refused, IsImportOf, IsImportOfFile}
use Rattle.office_model.specs.declared.import.ImportKind.{ImportKind}
use Rattle.cli.specs.declared.tasks.Task.TheVariants as task
use Rattle.cli.proofs.Writers.{of_any_file}

-- a request of these bytes that was asked, or why it was not made, is printed
imports : (name id : List ℕ) (kind : ImportKind) (bytes : List ℕ) (made : Result Request Refusal) (o : Outcome) → IsImportOf id kind bytes made
    → MatchResult made (λ asked. MayDoAt name (task.Ask asked) o) (λ refusal. o ≡ refused refusal) → IsImportLine name id kind bytes o
imports name id kind bytes (Ok asked) o made is = inr (made.0, inr (subst (λ (q : Request). MayDoAt name (task.Ask q) o) made.1 is))
imports name id kind bytes (Err refusal) o (inl large) is = inl (large.0, is ∙ ap refused large.1)
imports name id kind bytes (Err refusal) o (inr none) is = inr (none.0, inl (is ∙ ap refused none.1))

-- so it is of a file
pub imports_file : (holds : Found → Type 0) (name id : List ℕ) (kind : ImportKind) (made : Result Request Refusal) (o : Outcome) → IsImportOfFile holds id kind made
    → MatchResult made (λ asked. MayDoAt name (task.Ask asked) o) (λ refusal. o ≡ refused refusal) → ImportsFile name id kind o
imports_file holds name id kind made o (inl of) is = inr (of.0, imports name id kind of.0 made o of.2 is)
imports_file holds name id kind made o (inr un) is =
    let printed = subst (λ (m : Result Request Refusal). MatchResult m (λ asked. MayDoAt name (task.Ask asked) o) (λ refusal. o ≡ refused refusal)) un.2 is in
    inl (of_any_file holds o (un.0, un.1, printed))
