-- What a request changes is allowed by the tables, and is little.
use Rattle.std.proofs.Common.{◌≡◌, ◌≤◌, ◌^◌, ℕ, Bool, true, false, if◌then◌else◌, List, [], length, Option, None, Some, Ok, Err, Result, refl, sym, ap, subst, arith}
use Rattle.schema.specs.declared.row.Change.{Change}
use Rattle.office_model.specs.declared.TheConstants.{MAX_IMPORT_BYTES}
use Rattle.office_model.specs.declared.import.ImportKind.{ImportKind}
use Rattle.office_model.specs.declared.refusal.Refusal.{Refusal}
use Rattle.office_model.specs.declared.request.Plain.{Plain}
use Rattle.office_model.specs.declared.request.Reply.{Reply}
use Rattle.office_model.specs.declared.request.Request.{Request}
use Rattle.office_model.specs.declared.request.Request.TheVariants as request
use Rattle.office_model.specs.Fit.{IsFit}
use Rattle.office_model.specs.Importing.{after_import, import_refusal, or_else, rows_in as rows_in_text}
use Rattle.office_model.specs.Refusing.{import_tests}
use Rattle.office_model.proofs.NoRefusal.{allowed}
use Rattle.office_model.specs.Rows.{rows_in}
use Rattle.office_model.specs.Run.{Makes, refusal}
use Rattle.office_model.specs.State.{State, has_import}
use Rattle.import_csv.specs.Requests.{requests_of}
use Rattle.import_csv.specs.declared.fault.ImportFault.{ImportFault}
use Rattle.import_csv.proofs.AfterHeader.{requests_few}
use Rattle.office.specs.changes.Allowed.{AreAllowed}
use Rattle.office.proofs.changes.Entries.{not_above}
use Rattle.office.proofs.changes.PlainAllowed.{changes_allowed, few_changes}
use Rattle.office.proofs.changes.ImportAllowed.{import_allowed, import_few, import_fit}
use Rattle.office.proofs.changes.StaysFit.{stays_fit}
use Rattle.office.proofs.closing.Kept.{close_keeps_fit}
use Rattle.office.proofs.closing.ClosingAllowed.{close_allowed, close_few}
use Rattle.desk.specs.layers.Changes.{MayChange}
use Rattle.desk.specs.layers.Layers.{import_as_read, layers}

-- the tables take these rows, and they are few
abbrev pub AreTaken : List Change → State → Type 0
AreTaken changes o = AreAllowed changes (rows_in o) × (length changes ≤ 2 ^ 20)

either : (x y : Option Refusal) → or_else x y ≡ None → x ≡ None
either None y h = refl
either (Some r) y h = absurd (cc)

as_read : (rows : List Plain) (read : Result (List Plain) ImportFault) → import_as_read read ≡ Ok rows → read ≡ Ok rows
as_read rows (Ok found) h = let same : found ≡ rows = cc in ap Ok same
as_read rows (Err fault) h = absurd (cc)

short_text : (o : State) (id : List ℕ) (kind : ImportKind) (bytes : List ℕ) (rows : List Plain) → import_refusal o id kind bytes (Ok rows) ≡ None → length bytes ≤ MAX_IMPORT_BYTES
short_text o id kind bytes rows none = let passed = allowed (import_tests o id kind bytes) (either _ _ none) in not_above _ _ passed.1.0

pub may_allowed : (o : State) (q : Request) (changes : List Change) → IsFit o → refusal layers o q ≡ None → MayChange o q changes → AreTaken changes o
may_allowed o (request.Plain p) changes fit none is = subst (λ cs. AreTaken cs o) (sym is) (changes_allowed p o fit none, omega (arith, few_changes p o none))
may_allowed o request.Close changes fit none (M, may, takes, is) = subst (λ cs. AreTaken cs o) (sym is) (close_allowed M o fit may, close_few M o fit may)
may_allowed o (request.Import id kind bytes) changes fit none (rows, read, is) =
    let allowed_so = subst (λ r. import_refusal o id kind bytes r ≡ None) read none in
    let few = requests_few kind bytes rows (as_read rows (requests_of kind bytes) read) in
    subst (λ cs. AreTaken cs o) (sym is) (import_allowed id kind bytes rows o fit allowed_so, import_few id kind bytes rows o allowed_so (omega (arith, few, short_text o id kind bytes rows allowed_so)))
may_allowed o request.Preview changes fit none is = subst (λ cs. AreTaken cs o) (sym is) (tt, omega arith)
may_allowed o request.RoundText changes fit none is = subst (λ cs. AreTaken cs o) (sym is) (tt, omega arith)
may_allowed o (request.Report kind round) changes fit none is = subst (λ cs. AreTaken cs o) (sym is) (tt, omega arith)

-- an import leaves a fit office fit, whatever was read from its text
import_fits : (o : State) (id : List ℕ) (kind : ImportKind) (bytes : List ℕ) (read : Result (List Plain) Refusal) → import_as_read (requests_of kind bytes) ≡ read → IsFit o → import_refusal o id kind bytes read ≡ None
    → IsFit (after_import id kind bytes (rows_in_text read) o)
import_fits o id kind bytes (Ok rows) is fit none = import_fit id kind bytes rows o fit none (omega (arith, requests_few kind bytes rows (as_read rows (requests_of kind bytes) is), short_text o id kind bytes rows none))
import_fits o id kind bytes (Err r) is fit none = by _ (has_import o id) (later _ _ none)
  where
    later : (x y : Option Refusal) → or_else x y ≡ None → y ≡ None
    later None y h = h
    later (Some r) y h = absurd (cc)

    by : (n : State) (kept : Bool) → (if kept then None else Some r) ≡ None → IsFit (if kept then o else n)
    by n true h = fit
    by n false h = absurd (cc)

-- so does each request that is carried out
pub request_fits : (o n : State) (q : Request) (reply : Reply) → IsFit o → refusal layers o q ≡ None → Makes layers o q reply n → IsFit n
request_fits o n (request.Plain p) reply fit none made = subst IsFit (sym made.1) (stays_fit p o fit none)
request_fits o n request.Close reply fit none made = subst IsFit (sym made.4) (close_keeps_fit made.0 o fit made.1)
request_fits o n (request.Import id kind bytes) reply fit none made = subst IsFit (sym made.1) (import_fits o id kind bytes _ refl fit none)
request_fits o n request.Preview reply fit none made = subst IsFit (sym made.4) fit
request_fits o n request.RoundText reply fit none made = subst IsFit (sym made.1) fit
request_fits o n (request.Report kind round) reply fit none made = subst IsFit (sym made.1) fit
