-- The requests of an import text.
use Rattle.std.specs.Prelude.{ℕ, ◌+◌, ◌%◌, ◌==◌, ◌≤◌, ⊤, not, Bool, List, [], ◌∷◌, length, map, count_by, Result, Ok, Err, if◌then◌else◌}
use Rattle.std.specs.List.{position}
use Rattle.std.specs.Option.{option_map_or}
use Rattle.std.specs.Str.{bytes_eq}
use Rattle.std.specs.Cmp.Lexicographic.{pointwise}
use Rattle.csv.specs.Reading.{records, default_config, strip_bom}
use Rattle.office_model.specs.declared.import.ImportKind.{ImportKind}
use Rattle.office_model.specs.declared.request.Plain.{Plain}
use Rattle.import_csv.specs.declared.fault.ImportFault.{ImportFault}
use Rattle.import_csv.specs.declared.fault.ImportFault.TheVariants.{Header, Fields, Memory}
use Rattle.import_csv.specs.Kinds.{header_of, request_of}

-- the records that `csv` reads: commas between fields, nothing trimmed, any number of fields, and one byte order mark at the
-- front passed over; the header is the first of them
abbrev pub records_of : List ℕ → List (List (List ℕ))
records_of bytes = records default_config (strip_bom bytes)

-- an odd number of bytes are quotes, so one has no partner
abbrev pub has_odd_quotes : List ℕ → Bool
has_odd_quotes bytes = count_by (λ b. b == 34) bytes % 2 == 1

-- a record is the kind's header, byte for byte by fields
abbrev pub is_header : ImportKind → List (List ℕ) → Bool
is_header kind fields = pointwise bytes_eq fields (header_of kind)

-- a record has another number of fields than the kind's header
abbrev pub has_other_length : ImportKind → List (List ℕ) → Bool
has_other_length kind fields = not (length fields == length (header_of kind))

-- a record that the fault names is one of this many
abbrev pub IsRecordOf : ℕ → ImportFault → Type 0
IsRecordOf count (Fields number) = number ≤ count
IsRecordOf count Header = ⊤
IsRecordOf count Memory = ⊤

-- the requests of the records after the header, or the first of them with another number of fields, counted from 1
abbrev pub requests_after : ImportKind → List (List (List ℕ)) → Result (List Plain) ImportFault
requests_after kind rest = option_map_or (λ before. Err (Fields (before + 1))) (position (has_other_length kind) rest) (Ok (map (request_of kind) rest))

-- the requests of records; the first has to be the kind's header
abbrev pub requests_of_records : ImportKind → List (List (List ℕ)) → Result (List Plain) ImportFault
requests_of_records kind [] = Err Header
requests_of_records kind (first ∷ rest) = if is_header kind first then requests_after kind rest else Err Header

-- the requests of a text; a quote without a partner is refused before any record is looked at
unfoldable pub requests_of : ImportKind → List ℕ → Result (List Plain) ImportFault
requests_of kind bytes = if has_odd_quotes bytes then Err Header else requests_of_records kind (records_of bytes)
