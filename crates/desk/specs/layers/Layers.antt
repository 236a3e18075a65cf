-- What the office takes from the layers next to it.
use Rattle.std.specs.Prelude.{List, Result, Ok, Err}
use Rattle.spa.specs.Coded.{IsBestByCodes}
use Rattle.intake.specs.Lines.{instance_text}
use Rattle.office_model.specs.declared.refusal.Refusal.{Refusal}
use Rattle.office_model.specs.declared.refusal.Refusal.TheVariants as no
use Rattle.office_model.specs.declared.request.Plain.{Plain}
use Rattle.office_model.specs.Run.{Layers}
use Rattle.reports.specs.Texts.{report_text}
use Rattle.import_csv.specs.declared.fault.ImportFault.{ImportFault}
use Rattle.import_csv.specs.declared.fault.ImportFault.TheVariants.{Memory, Header, Fields}
use Rattle.import_csv.specs.Requests.{requests_of}

-- the refusal of a text that is no import text: a record with too many or too few fields is refused as wrong members are, by 8
abbrev pub refused_as : ImportFault → Refusal
refused_as Memory = no.Memory
refused_as Header = no.Header
refused_as (Fields n) = no.Row n 8

-- what was read of an import text, with the refusal of its fault
abbrev pub import_as_read : Result (List Plain) ImportFault → Result (List Plain) Refusal
import_as_read (Ok rows) = Ok rows
import_as_read (Err fault) = Err (refused_as fault)

-- a closing takes a matching of the round's instance that is best by its aim, the text of an instance is that of a round without matching
-- and prices, a report is its text, and the requests of an import are those of the records that `csv` reads from its text
abbrev pub layers : Layers
layers = record {
  MayTake = IsBestByCodes;
  round_text = instance_text;
  report = report_text;
  records = λ kind bytes. import_as_read (requests_of kind bytes);
}
