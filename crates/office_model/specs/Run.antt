-- One step of the office, and a run of steps.
use Rattle.std.specs.Prelude.{◌≡◌, ◌⊎◌, ◌∷◌, ℕ, false, List, [], Option, Some, None, Result, Ok, Err}
use Rattle.office_model.specs.Common.{Instance, CodePair, Aim, Reply, Refusal, State, aim_of, last_round, Request, Plain, ImportKind}
use Rattle.office_model.specs.declared.request.Reply.TheVariants as reply
use Rattle.office_model.specs.declared.refusal.Refusal.TheVariants as no
use Rattle.office_model.specs.Instances.{round_instance}
use Rattle.office_model.specs.declared.request.Request.TheVariants as request
use Rattle.office_model.specs.declared.report.ReportKind.{ReportKind}
use Rattle.office_model.specs.Reads.{changes_nothing}
use Rattle.office_model.specs.Refusing.{refusal_of}
use Rattle.office_model.specs.Importing.{import_refusal, rows_in, after_import, import_reply}
use Rattle.office_model.specs.Stepping.{after_plain, plain_reply}
use Rattle.office_model.specs.Closing.{MayClose, after_close, closed_reply, preview_reply}

-- what the office takes from elsewhere: which matchings of an instance a closing of a round with an aim may take, the text of an instance,
-- the text of a report of a round, and the plain requests of an import text, or why it is none
pub record Layers : Type 1 where
  pub MayTake : Aim → Instance → List CodePair → Type 0
  pub round_text : Aim → Instance → List ℕ
  pub report : State → ReportKind → ℕ → List ℕ
  pub records : ImportKind → List ℕ → Result (List Plain) Refusal

-- the first refusal of a request
abbrev pub refusal : Layers → State → Request → Option Refusal
refusal on o (request.Plain p) = refusal_of o (request.Plain p)
refusal on o request.Close = refusal_of o request.Close
refusal on o request.Preview = refusal_of o request.Preview
refusal on o request.RoundText = refusal_of o request.RoundText
refusal on o (request.Report kind round) = refusal_of o (request.Report kind round)
refusal on o (request.Import id kind bytes) = import_refusal o id kind bytes (on.records kind bytes)

-- from the office o, a request that nothing refuses gets this answer and leaves the office n
abbrev pub Makes : Layers → State → Request → Reply → State → Type 0
Makes on o (request.Plain p) a n = (Some a ≡ plain_reply p o) × (n ≡ after_plain p o)
Makes on o request.Close a n =
    (M : List CodePair) × MayClose o M × on.MayTake (aim_of o (last_round o)) (round_instance o) M × (a ≡ closed_reply M o) × (n ≡ after_close M o)
Makes on o request.Preview a n =
    (M : List CodePair) × MayClose o M × on.MayTake (aim_of o (last_round o)) (round_instance o) M × (a ≡ preview_reply M o) × (n ≡ o)
Makes on o request.RoundText a n = (a ≡ reply.Text (on.round_text (aim_of o (last_round o)) (round_instance o))) × (n ≡ o)
Makes on o (request.Report kind round) a n = (a ≡ reply.Text (on.report o kind round)) × (n ≡ o)
Makes on o (request.Import id kind bytes) a n =
    (a ≡ import_reply id (rows_in (on.records kind bytes)) o) × (n ≡ after_import id kind bytes (rows_in (on.records kind bytes)) o)

-- Which refusal a request may get. One that applies and is found without reading an import's text: that one. Else out of memory may stand
-- in the place of any answer, and a fault of the tables in that of one which nothing refuses and which changes the office.
abbrev pub MayRefuse : Layers → State → Request → Refusal → Type 0
MayRefuse on o q r =
    (refusal_of o q ≡ Some r)
    ⊎ ((refusal_of o q ≡ None) × ((refusal on o q ≡ Some r) ⊎ ((r ≡ no.Memory) ⊎ ((r ≡ no.Storage) × (refusal on o q ≡ None) × (changes_nothing o q ≡ false)))))

-- one step: a refused request leaves the office as it was, and any other makes what it asks for
abbrev pub Step : Layers → State → Request → Result Reply Refusal → State → Type 0
Step on o q (Err r) n = (n ≡ o) × MayRefuse on o q r
Step on o q (Ok a) n = (refusal on o q ≡ None) × Makes on o q a n

-- a run: as many answers as requests, each step from the office that the one before left
abbrev pub Run : Layers → State → List Request → List (Result Reply Refusal) → State → Type 0
Run on o [] [] n = n ≡ o
Run on o (q ∷ qs) (a ∷ answers) n = (m : State) × Step on o q a m × Run on m qs answers n
Run on o [] (a ∷ answers) n = ⊥
Run on o (q ∷ qs) [] n = ⊥
