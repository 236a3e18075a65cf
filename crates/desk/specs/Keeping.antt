-- What a desk keeps between requests, and what a crash leaves of one.
use Rattle.std.specs.Prelude.{◌≡◌, ℕ, ◌||◌, ◌++◌, ◌∷◌, IsTrue, Bool, is_some, List, Result, Ok, IsOk, Option, None, IfSome}
use Rattle.sqlite.specs.Effect.{Database}
use Rattle.sqlite.specs.State.{State as Seen, HasCleanDisk}
use Rattle.office_model.specs.declared.request.Reply.{Reply}
use Rattle.office_model.specs.declared.request.Reply.TheVariants as reply
use Rattle.office_model.specs.State.{State, kept_rows}
use Rattle.office_model.specs.declared.refusal.Refusal.{Refusal}
use Rattle.office_model.specs.declared.request.Request.{Request}
use Rattle.office_model.specs.declared.request.Request.TheVariants as request
use Rattle.office_model.specs.declared.request.Plain.TheVariants as plain
use Rattle.office_model.specs.Reads.{changes_nothing}
use Rattle.office_model.specs.Refusing.{refusal_of}
use Rattle.office_model.specs.Fit.{IsFit}
use Rattle.office_model.specs.Run.{Run, Step, refusal}
use Rattle.desk.specs.layers.Layers.{layers}
use Rattle.store.specs.Tables.{StandsFor}

-- The tables stand for the office. Where a fault of the disk has shut the connection it shows no tables, and
-- only what a crash leaves is known.
abbrev pub Keeps : Seen → State → Type 0
Keeps seen office = HasCleanDisk seen → IsTrue seen.is_open → StandsFor seen.now office

-- the request, carried out, makes of the office the next one
abbrev pub CarriesOut : State → Request → State → Type 0
CarriesOut office request next = (reply : Reply) × Step layers office request (Ok reply) next

-- Some beginning of a run makes of the office the next one: its first requests, as they were answered, and one more that is carried out.
pub record Begins (office : State) (requests : List Request) (answers : List (Result Reply Refusal)) (next : State) : Type 0 where
  pub first : List Request
  pub request : Request
  pub rest : List Request
  pub split : requests ≡ first ++ request ∷ rest
  pub given : List (Result Reply Refusal)
  pub later : List (Result Reply Refusal)
  pub answered : answers ≡ given ++ later
  pub between : State
  pub run : Run layers office first given between
  pub one_more : CarriesOut between request next

-- the tables stand for a fit office that is one of these
pub record StandsForOne (IsOne : State → Type 0) (db : Database) : Type 0 where
  pub office : State
  pub one : IsOne office
  pub fit : IsFit office
  pub stands : StandsFor db office

-- whether no table is needed: the office refuses the request, or the request changes nothing of it
abbrev pub needs_no_table : State → Request → Bool
needs_no_table office request = is_some (refusal layers office request) || changes_nothing office request

-- how many rows an import has that is asked for once more; none of another request
abbrev pub repeated_rows : State → Request → Option ℕ
repeated_rows office (request.Import id kind bytes) = kept_rows office id
repeated_rows office _ = None

-- a stored import that is asked for once more, with the same kind and bytes, answers its own number of rows
abbrev pub AnswersStored : State → Request → Result Reply Refusal → Type 0
AnswersStored office request answer = refusal_of office request ≡ None → IfSome (repeated_rows office request) (λ rows. answer ≡ Ok (reply.Rows rows))

-- a read of a known round answers
abbrev pub AnswersRound : State → Request → Result Reply Refusal → Type 0
AnswersRound office asked answer = (number : ℕ) → asked ≡ request.Plain (plain.GetRound number) → refusal_of office asked ≡ None → IsOk answer
