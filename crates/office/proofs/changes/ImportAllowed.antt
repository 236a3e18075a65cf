-- So are the changes of an import, those of one request after another, and last its own row, whatever the rows are then.
use Rattle.office.proofs.changes.Common.{IsPermutation-refl, Change, Import, State, has_import, IsFit, plain_refusal, after_plain, changes_of, import_cells, rows_in, allowed, ◌≡◌, ℕ, suc, ◌*◌, ◌^◌, ◌≤◌, Bool, true, false, List, [], ◌∷◌, ◌++◌, length, Option, Some, None, Ok, if◌then◌else◌, refl, length-append, arith, MAX_IMPORT_BYTES, ImportKind, Supervisors, Refusal, Plain, or_else, at_record, rows_refusal, import_refusal, word_of, import_tests, AreAllowed, ◌&&◌, not, nat_le, ap, ◌∙◌, is_some, find, import_key, MAX_IMPORTS, ImportEntry, with_import}
use Rattle.office_model.specs.Importing.{after_import, after_rows}
use Rattle.office_model.specs.Roll.{of_code}
use Rattle.office.specs.changes.Changes.{changes_of_rows, import_changes}
use Rattle.office.proofs.changes.Allowed.{allowed_follow}
use Rattle.office.proofs.changes.Changes.{add}
use Rattle.office.proofs.changes.Entries.{not_false, not_above}
use Rattle.office.proofs.changes.FitAfterPut.{fit_with_import}
use Rattle.office.proofs.changes.ImportChanges.{keep_none}
use Rattle.office.proofs.changes.PlainAllowed.{changes_allowed, few_changes, short_code}
use Rattle.office.proofs.changes.PlainTransforms.{changes_transform}
use Rattle.office.proofs.changes.StaysFit.{stays_fit}

neither : (x y : Option Refusal) → or_else x y ≡ None → (x ≡ None) × (y ≡ None)
neither None y h = (refl, h)
neither (Some r) y h = absurd (cc)

-- no record is refused, so neither is its request
none_at : (n : ℕ) (x : Option Refusal) → at_record n x ≡ None → x ≡ None
none_at n None h = refl
none_at n (Some r) h = cc

-- the first request is not refused, nor are those after it
passes : (n : ℕ) (p : Plain) (ps : List Plain) (o : State) → rows_refusal n o (p ∷ ps) ≡ None → (plain_refusal o p ≡ None) × (rows_refusal (suc n) (after_plain p o) ps ≡ None)
passes n p ps o none = let both = neither _ _ none in (none_at n (plain_refusal o p) both.0, both.1)

rows_allowed : (n : ℕ) (rows : List Plain) (o : State) → IsFit o → rows_refusal n o rows ≡ None → AreAllowed (changes_of_rows rows o) (rows_in o)
rows_allowed n [] o fit none = tt
rows_allowed n (p ∷ ps) o fit none =
    let passed = passes n p ps o none in
    allowed_follow (changes_of p o) (changes_of_rows ps (after_plain p o)) (rows_in o) (rows_in (after_plain p o)) (changes_allowed p o fit passed.0) (changes_transform p o fit passed.0).rows
    (rows_allowed (suc n) ps (after_plain p o) (stays_fit p o fit passed.0) passed.1)

rows_fit : (n : ℕ) (rows : List Plain) (o : State) → IsFit o → rows_refusal n o rows ≡ None → IsFit (after_rows rows o)
rows_fit n [] o fit none = fit
rows_fit n (p ∷ ps) o fit none =
    let passed = passes n p ps o none in
    rows_fit (suc n) ps (after_plain p o) (stays_fit p o fit passed.0) passed.1

few_rows : (n : ℕ) (rows : List Plain) (o : State) → rows_refusal n o rows ≡ None → length (changes_of_rows rows o) ≤ 13 * length rows
few_rows n [] o none = omega arith
few_rows n (p ∷ ps) o none =
    let passed = passes n p ps o none in
    omega (arith, length-append (changes_of p o) (changes_of_rows ps (after_plain p o)), few_changes p o passed.0, few_rows (suc n) ps (after_plain p o) passed.1)

short_word : (kind : ImportKind) → length (word_of kind) ≤ 65536
short_word Supervisors = omega arith
short_word _ = omega arith

module _ (id : List ℕ) (kind : ImportKind) (bytes : List ℕ) (rows : List Plain) (o : State) where
  abbrev itself : ImportEntry
  itself = record { id = id; kind = kind; bytes = bytes; rows = length rows }

  -- its own row is added
  abbrev own : Change
  own = add Import (import_cells itself)

  pub import_allowed : IsFit o → import_refusal o id kind bytes (Ok rows) ≡ None → AreAllowed (import_changes id kind bytes rows o) (rows_in o)
  import_allowed fit none = by (has_import o id) (neither _ _ none).1
    where
      by : (kept : Bool) → (if kept then None else rows_refusal 1 o rows) ≡ None → AreAllowed (if kept then [] else changes_of_rows rows o ++ own ∷ []) (rows_in o)
      by true h = tt
      by false h =
          let passed = allowed (import_tests o id kind bytes) (neither _ _ none).0 in
          allowed_follow (changes_of_rows rows o) (own ∷ []) (rows_in o) _ (rows_allowed 1 rows o fit h) (λ table. IsPermutation-refl _) (
            record {
              within = (id, kind, bytes, length rows, refl);
              short = (short_code id (not_false _ passed.0), (short_word kind, (not_above _ _ passed.1.0, (tt, tt))));
            },
            tt,
          )

  pub import_few : import_refusal o id kind bytes (Ok rows) ≡ None → length rows ≤ MAX_IMPORT_BYTES → length (import_changes id kind bytes rows o) ≤ 2 ^ 20
  import_few none few = by (has_import o id) (neither _ _ none).1
    where
      by : (kept : Bool) → (if kept then None else rows_refusal 1 o rows) ≡ None → length (if kept then [] else changes_of_rows rows o ++ own ∷ []) ≤ 2 ^ 20
      by true h = omega arith
      by false h = omega (arith, length-append (changes_of_rows rows o) (own ∷ []), few_rows 1 rows o h, few)

  -- and after it the office is fit
  pub import_fit : IsFit o → import_refusal o id kind bytes (Ok rows) ≡ None → length rows ≤ MAX_IMPORT_BYTES → IsFit (after_import id kind bytes rows o)
  import_fit fit none few = by (has_import o id) (neither _ _ none).1
    where
      by : (kept : Bool) → (if kept then None else rows_refusal 1 o rows) ≡ None → IsFit (if kept then o else with_import itself (after_rows rows o))
      by true h = fit
      by false h =
          let passed = allowed (import_tests o id kind bytes) (neither _ _ none).0 in
          fit_with_import itself (after_rows rows o) (rows_fit 1 rows o fit h) (record { id = not_false _ passed.0; bytes = not_above _ _ passed.1.0; rows = few })
          (ap (λ (is : List ImportEntry). not (is_some (find import_key (of_code id) is)) && nat_le MAX_IMPORTS (length is)) (keep_none rows o) ∙ passed.1.1.1.0)
