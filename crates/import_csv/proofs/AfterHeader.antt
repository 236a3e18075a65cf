-- What the records after the header stand for.
use Rattle.std.proofs.Common.{◌≡◌, ◌≤◌, ◌+◌, ℕ, Bool, List, [], ◌∷◌, length, map, not, Option, Some, None, Ok, Err, true, false, if◌then◌else◌, refl, sym, ap, ◌∙◌, arith}
use Rattle.std.specs.List.{position, prefix_len}
use Rattle.std.specs.Option.{option_map_or}
use Rattle.std.proofs.lemmas.List.{length-map}
use Rattle.std.proofs.lemmas.Simd.{map-map}
use Rattle.csv.specs.Records.{Row, fields_of}
use Rattle.office_model.specs.declared.import.ImportKind.{ImportKind}
use Rattle.import_csv.proofs.Records.{few_records}
use Rattle.import_csv.specs.Requests.{IsRecordOf, records_of, has_odd_quotes, has_other_length, is_header, requests_after, requests_of, requests_of_records}
use Rattle.import_csv.specs.Kinds.{request_of}
use Rattle.import_csv.specs.declared.fault.ImportFault.{ImportFault}
use Rattle.import_csv.specs.declared.fault.ImportFault.TheVariants.{Fields, Header, Memory}
use Rattle.office_model.specs.declared.request.Plain.{Plain}

-- how many items at the front pass a test of what f makes of them
prefix_map : {X Y : Type 0} (p : Y → Bool) (f : X → Y) (xs : List X) → prefix_len p (map f xs) ≡ prefix_len (λ x. p (f x)) xs
prefix_map p f [] = refl
prefix_map p f (x ∷ xs) = rw (prefix_map p f xs) refl

-- a test of what f makes of the items
pub position_map : {X Y : Type 0} (p : Y → Bool) (f : X → Y) (xs : List X) → position p (map f xs) ≡ position (λ x. p (f x)) xs
position_map p f xs = rw (prefix_map (λ y. not (p y)) f xs, length-map xs f) refl

-- a text of which these records were read has as many bytes at least
pub few_read : (bytes : List ℕ) (rows : List Row) → map fields_of rows ≡ records_of bytes → length rows ≤ length bytes
few_read bytes rows read =
    let few = few_records bytes in
    let count : length (map fields_of rows) ≡ length (records_of bytes) = ap length read in
    omega (arith, length-map rows fields_of)

-- where a record of another length is found, it is the fault
pub other_found : (kind : ImportKind) (rest : List Row) (before number : ℕ) → before + 1 ≡ number → Some before ≡ position (λ r. has_other_length kind (fields_of r)) rest → requests_after kind (map fields_of rest) ≡ Err (Fields number)
other_found kind rest before number next found = rw (position_map (has_other_length kind) fields_of rest, ← found) (ap (λ (n : ℕ). Err (Fields n)) next)

-- where none is found, each record has its request
pub none_found : (kind : ImportKind) (rest : List Row) → None ≡ position (λ r. has_other_length kind (fields_of r)) rest → requests_after kind (map fields_of rest) ≡ Ok (map (λ r. request_of kind (fields_of r)) rest)
none_found kind rest found = rw (position_map (has_other_length kind) fields_of rest, ← found) (ap Ok (map-map (request_of kind) fields_of rest))

-- there are as many requests as records after the header
pub as_many_requests : (kind : ImportKind) (rest : List Row) (requests : List Plain) → requests_after kind (map fields_of rest) ≡ Ok requests → length requests ≡ length rest
as_many_requests kind rest requests read = by (position (has_other_length kind) (map fields_of rest)) read
  where
    by : (o : Option ℕ) → option_map_or (λ before. Err (Fields (before + 1))) o (Ok (map (request_of kind) (map fields_of rest))) ≡ Ok requests → length requests ≡ length rest
    by None e =
        let same : map (request_of kind) (map fields_of rest) ≡ requests = cc in
        omega (arith, ap length same, length-map (map fields_of rest) (request_of kind), length-map rest fields_of)
    by (Some before) e = cc

-- a record that is named is one of more, too
pub within_more : (few many : ℕ) (fault : ImportFault) → few ≤ many → IsRecordOf few fault → IsRecordOf many fault
within_more few many Memory more h = tt
within_more few many Header more h = tt
within_more few many (Fields number) more h = omega (arith, h)

-- a text has no more requests than bytes
pub requests_few : (kind : ImportKind) (bytes : List ℕ) (rows : List Plain) → requests_of kind bytes ≡ Ok rows → length rows ≤ length bytes
unfolding requests_of
requests_few kind bytes rows read = by_quotes (has_odd_quotes bytes) read
  where
    after : (rest : List (List (List ℕ))) (found : Option ℕ) → option_map_or (λ before. Err (Fields (before + 1))) found (Ok (map (request_of kind) rest)) ≡ Ok rows → length rows ≡ length rest
    after rest None h = let same : map (request_of kind) rest ≡ rows = cc in sym (ap length same) ∙ length-map rest (request_of kind)
    after rest (Some before) h = absurd (cc)

    by_header : (first : List (List ℕ)) (rest : List (List (List ℕ))) (b : Bool) → (if b then requests_after kind rest else Err Header) ≡ Ok rows → length rows ≤ length (first ∷ rest)
    by_header first rest true h = omega (arith, after rest (position (has_other_length kind) rest) h)
    by_header first rest false h = absurd (cc)

    by_records : (records : List (List (List ℕ))) → requests_of_records kind records ≡ Ok rows → length rows ≤ length records
    by_records [] h = absurd (cc)
    by_records (first ∷ rest) h = by_header first rest (is_header kind first) h

    by_quotes : (odd : Bool) → (if odd then Err Header else requests_of_records kind (records_of bytes)) ≡ Ok rows → length rows ≤ length bytes
    by_quotes true h = absurd (cc)
    by_quotes false h = omega (arith, by_records (records_of bytes) h, few_records bytes)
