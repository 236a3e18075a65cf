-- Which refusal a request gets, if any: in each line the first that applies.
use Rattle.office_model.specs.Common.{Option, Refusal, State, Plain, Request}
use Rattle.office_model.specs.declared.request.Request.TheVariants as request
pub use Rattle.office_model.specs.Tests.{first, is_moved, supervisor_tests, project_tests, student_tests, opening_tests, choice_tests, list_tests, drop_tests, reopening_tests, open_tests, round_tests, is_other_import, import_tests}
use Rattle.office_model.specs.Meaning.{meaning}

-- the first refusal of a plain request
abbrev pub plain_refusal : State → Plain → Option Refusal
plain_refusal o q = let m = meaning q in first (m.tests o)

-- the first refusal of a request for which no import text has to be read
abbrev pub refusal_of : State → Request → Option Refusal
refusal_of o (request.Plain p) = plain_refusal o p
refusal_of o request.Close = first (open_tests o)
refusal_of o request.Preview = first (open_tests o)
refusal_of o request.RoundText = first (open_tests o)
refusal_of o (request.Report kind round) = first (round_tests o round)
refusal_of o (request.Import id kind bytes) = first (import_tests o id kind bytes)
