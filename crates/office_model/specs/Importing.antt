-- Imports: the plain requests of the records of a text, one after another, all of them or none.
use Rattle.std.specs.Prelude.{◌∷◌, if◌then◌else◌, ℕ, suc, List, [], length, Option, Some, None, Result, Ok, Err}
use Rattle.office_model.specs.Common.{unwrap_or, ImportEntry as Import, ImportKind, Refusal, Plain, Reply, put, State, import_key, has_import, kept_rows}
use Rattle.office_model.specs.declared.refusal.Refusal.TheVariants as no
use Rattle.office_model.specs.declared.request.Reply.TheVariants as reply
use Rattle.office_model.specs.RefusalInfo.{number_of}
use Rattle.office_model.specs.Refusing.{first, plain_refusal, import_tests}
use Rattle.office_model.specs.Stepping.{after_plain}

-- the first of two refusals that is there
abbrev pub or_else : Option Refusal → Option Refusal → Option Refusal
or_else None r = r
or_else (Some r) s = Some r

-- the refusal of a record: it has the record's number, and the number of the refusal of the request that the record stands for
abbrev pub at_record : ℕ → Option Refusal → Option Refusal
at_record n None = None
at_record n (Some r) = Some (no.Row n (number_of r))

-- the first record that is refused, where the first has the number n: each is judged by the office that those before it leave
abbrev pub rows_refusal : ℕ → State → List Plain → Option Refusal
rows_refusal n o [] = None
rows_refusal n o (p ∷ ps) = or_else (at_record n (plain_refusal o p)) (rows_refusal (suc n) (after_plain p o) ps)

-- the office after plain requests, the first of them first
abbrev pub after_rows : List Plain → State → State
after_rows [] o = o
after_rows (p ∷ ps) o = after_rows ps (after_plain p o)

-- why the text of an import is refused: it could not be read as one, or some record is refused, where records count from 1
abbrev pub text_refusal : Result (List Plain) Refusal → State → Option Refusal
text_refusal (Err r) o = Some r
text_refusal (Ok rows) o = rows_refusal 1 o rows

-- the first refusal of an import, where this was read from its text; the text of a stored import is not looked at
abbrev pub import_refusal : State → List ℕ → ImportKind → List ℕ → Result (List Plain) Refusal → Option Refusal
import_refusal o id kind bytes read = or_else (first (import_tests o id kind bytes)) (if has_import o id then None else text_refusal read o)

-- the requests that were read from a text, and none where it was no import text: such a text is refused before it matters
abbrev pub rows_in : Result (List Plain) Refusal → List Plain
rows_in (Ok rows) = rows
rows_in (Err r) = []

-- the office with this import stored, by which it is known when it comes again
abbrev pub with_import : Import → State → State
with_import i o = record o { imports = put import_key i o.imports }

-- the office after an import of these rows: a stored import changes nothing
abbrev pub after_import : List ℕ → ImportKind → List ℕ → List Plain → State → State
after_import id kind bytes rows o =
    if has_import o id then o else with_import (record { id = id; kind = kind; bytes = bytes; rows = length rows }) (after_rows rows o)

-- the answer to an import of these rows: a stored import answers its own number
abbrev pub import_reply : List ℕ → List Plain → State → Reply
import_reply id rows o = reply.Rows (unwrap_or (kept_rows o id) (length rows))
