-- Rows whose rowids rise are distinguished by them.
use Rattle.std.proofs.Common.{is_eq}
use Rattle.sql_tables.proofs.Common.{AllByRecursion, is_lt, and_parts, Row, value_cmp, rowid, IsAscending, is_int, value_cmp_total, all_has, all_from, IsKeyed, rises, have_ids, ◌≡◌, ◌⊎◌, inl, inr, cases_Bool, List, [], ◌∷◌, true, false, refl, ap, Ordering, Less, Equal, Greater}

below : (o : Ordering) → is_lt o ≡ true → o ≡ Less
below Less h = refl
below Equal h = absurd (cc)
below Greater h = absurd (cc)

apart : (o : Ordering) → o ≡ Less → is_eq o ≡ false
apart o h = ap is_eq h

abbrev Below : Row → Row → Type 0
Below a b = value_cmp (rowid a) (rowid b) ≡ Less

-- each later one is above the first
rising : (rows : List Row) → rises rows ≡ true → IsAscending Below rows
rising [] h = tt
rising (r ∷ []) h = (tt, tt)
rising (r ∷ next ∷ rows) h =
    let parts = and_parts _ _ h in
    let first : Below r next = below _ parts.0 in
    let later = rising (next ∷ rows) parts.1 in
    ((first, all_from _ rows (λ y h. value_cmp_total.trans (rowid r) (rowid next) (rowid y) first (all_has _ rows y later.0 h))), later)

all_apart : (rows : List Row) → IsAscending Below rows → IsAscending (λ a b. is_eq (value_cmp (rowid a) (rowid b)) ≡ false) rows
all_apart [] up = tt
all_apart (r ∷ rows) up = (all_from _ rows (λ y h. apart _ (all_has _ rows y up.0 h)), all_apart rows up.1)

each : (rows : List Row) → have_ids rows ≡ true → AllByRecursion (λ r. is_int (rowid r) ≡ true) rows
each [] h = tt
each (r ∷ rows) h = let parts = and_parts _ _ h in (parts.0, each rows parts.1)

-- rows with rising integers as rowids are keyed
keyed_if_rising : (rows : List Row) → have_ids rows ≡ true → rises rows ≡ true → IsKeyed rows
keyed_if_rising rows ids up = record { ids = each rows ids; apart = all_apart rows (rising rows up) }

-- an id is missing, the rows do not rise, or they are keyed
pub keyed_tells : (rows : List Row) → (have_ids rows ≡ false) ⊎ ((rises rows ≡ false) ⊎ IsKeyed rows)
keyed_tells rows = elim (cases_Bool (have_ids rows)) [
  | inl ids ↦ elim (cases_Bool (rises rows)) [ inl up ↦ inr (inr (keyed_if_rising rows ids up)) | inr not ↦ inr (inl not) ]
  | inr none ↦ inl none
]
