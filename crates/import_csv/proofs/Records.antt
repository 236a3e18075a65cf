-- The records that a reader gave are the records of the text, and there are no more of them than bytes.
--
-- Each record takes at least one byte: a read begins between two records, where the end of the text ends none, and it leaves
-- the reader between two records again. So a text has enough bytes for as many reads as there are records.
use Rattle.std.proofs.Common.{◌≡◌, ◌<◌, ◌≤◌, ◌+◌, ◌-◌, ℕ, zero, suc, List, [], ◌∷◌, ◌++◌, length, Option, Some, None, Bool, true, false, cond, refl, sym, subst, arith}
use Rattle.std.specs.Prelude.{◌==◌, ◌||◌}
use Rattle.csv.specs.Machine.{Read, after_end, ends_at_end, field_after, fields_after, in_field, is_end, next_record, start_field, start_record, step}
use Rattle.csv.specs.Reading.{AreRecords, Reached, default_config, is_bom, records_from, records_next, strip_bom}
use Rattle.csv.specs.declared.parser.Action.{Action}
use Rattle.csv.specs.declared.parser.Action.TheVariants as act
use Rattle.csv.specs.declared.parser.State.{State}
use Rattle.csv.specs.declared.parser.State.TheVariants as st
use Rattle.csv.specs.declared.parser.Terminator.TheVariants as term
use Rattle.import_csv.specs.Requests.{records_of}

-- a byte that ends a record leaves the reader between two records
abbrev EndsBetween : State × Action → Type 0
EndsBetween q = is_end q.1 ≡ true → ends_at_end q.0 ≡ false

-- an action that ends no record
goes_on : (s : State) (a : Action) → is_end a ≡ false → EndsBetween (s, a)
goes_on s a n e = cc

-- of two steps, whichever is taken
either : (b : Bool) (p q : State × Action) → EndsBetween p → EndsBetween q → EndsBetween (cond b p q)
either true p q f g = f
either false p q f g = g

-- the byte after which the record ended is a CR or an LF
after_end_between : (c : ℕ) → ends_at_end (after_end term.CRLF c) ≡ false
after_end_between c = by (c == 13)
  where
    by : (b : Bool) → ends_at_end (cond b st.AfterCr st.StartRecord) ≡ false
    by true = refl
    by false = refl

-- a byte of a field, of its start, and of a record's start
in_field_between : (c : ℕ) → EndsBetween (in_field default_config c)
in_field_between c = either (c == 44) _ _ (goes_on st.StartField act.EndField refl) (either ((c == 13) || (c == 10)) _ _ (λ e. after_end_between c) (goes_on st.InField act.Copy refl))

start_field_between : (c : ℕ) → EndsBetween (start_field default_config c)
start_field_between c = either (c == 34) _ _ (goes_on st.InQuoted act.Skip refl) (in_field_between c)

start_record_between : (c : ℕ) → EndsBetween (start_record default_config c)
start_record_between c = either ((c == 13) || (c == 10)) _ _ (goes_on st.StartRecord act.Skip refl) (start_field_between c)

-- a byte in any state
step_between : (s : State) (c : ℕ) → EndsBetween (step default_config s c)
step_between st.StartRecord c = start_record_between c
step_between st.StartField c = start_field_between c
step_between st.InField c = in_field_between c
step_between st.InQuoted c = either (c == 34) _ _ (goes_on st.AfterQuote act.Skip refl) (goes_on st.InQuoted act.Copy refl)
step_between st.InEscape c = goes_on st.InQuoted act.Copy refl
step_between st.AfterQuote c = either (c == 34) _ _ (goes_on st.InQuoted act.Copy refl) (in_field_between c)
step_between st.InComment c = either (c == 10) _ _ (goes_on st.StartRecord act.Skip refl) (goes_on st.InComment act.Skip refl)
step_between st.AfterCr c = either (c == 10) _ _ (goes_on st.StartRecord act.Skip refl) (start_record_between c)

-- what a read leaves: the reader between two records, and fewer bytes
record Leaves (xs : List ℕ) (r : Read) : Type 0 where
  pub between : ends_at_end r.1 ≡ false
  pub fewer : length r.2 ≤ length xs - 1

-- a read that gives a record
read_leaves : (s : State) (fields : List (List ℕ)) (field xs : List ℕ) (r : Read) → next_record default_config s fields field xs ≡ Some r → Leaves xs r
unfolding next_record
read_leaves s fields field [] r e = by (ends_at_end s) e
  where
    by : (b : Bool) → cond b (Some (fields ++ (field ∷ []), st.StartRecord, [])) None ≡ Some r → Leaves [] r
    by true e = let same : (fields ++ (field ∷ []), st.StartRecord, []) ≡ r = cc in subst (λ (q : Read). Leaves [] q) same (record { between = refl; fewer = omega arith })
    by false e = cc e
read_leaves s fields field (c ∷ rest) r e = by (is_end (step default_config s c).1) refl e (read_leaves (step default_config s c).0 (fields_after (step default_config s c).1 fields field) (field_after (step default_config s c).1 c field) rest r)
  where
    by : (b : Bool) → is_end (step default_config s c).1 ≡ b
        → cond b (Some (fields_after (step default_config s c).1 fields field, (step default_config s c).0, rest))
        (next_record default_config (step default_config s c).0 (fields_after (step default_config s c).1 fields field) (field_after (step default_config s c).1 c field) rest) ≡ Some r
        → (next_record default_config (step default_config s c).0 (fields_after (step default_config s c).1 fields field) (field_after (step default_config s c).1 c field) rest ≡ Some r → Leaves rest r)
        → Leaves (c ∷ rest) r
    by true is e later =
        let same : (fields_after (step default_config s c).1 fields field, (step default_config s c).0, rest) ≡ r = cc in
        subst (λ (q : Read). Leaves (c ∷ rest) q) same (record { between = step_between s c is; fewer = omega arith })
    by false is e later = record { between = (later e).between; fewer = omega (arith, (later e).fewer) }

-- no record is left at the end of a text
none_at_end : (s : State) → ends_at_end s ≡ false → next_record default_config s [] [] [] ≡ None
unfolding next_record
none_at_end s h = rw h refl

-- a read that begins between two records takes a byte
read_takes_a_byte : (s : State) (xs : List ℕ) (r : Read) → ends_at_end s ≡ false → next_record default_config s [] [] xs ≡ Some r → length r.2 < length xs
read_takes_a_byte s [] r h e = let none = none_at_end s h in cc
read_takes_a_byte s (x ∷ xs) r h e = let fewer = (read_leaves s [] [] (x ∷ xs) r e).fewer in omega arith

-- what was read up to the end of the text is what `records_from` gives, where it has enough iterations
from_reached : (n : ℕ) (s s2 : State) (xs ys : List ℕ) (rows : List (List (List ℕ))) → ends_at_end s ≡ false → length xs < n
    → Reached default_config s xs rows s2 ys → next_record default_config s2 [] [] ys ≡ None → records_from default_config n s xs ≡ rows
unfolding Reached records_from
from_reached zero s s2 xs ys rows h l reached end = absurd (omega arith)
from_reached (suc n) s s2 xs ys [] h l reached end = rw (reached.0, reached.1, end) refl
from_reached (suc n) s s2 xs ys (row ∷ rows) h l reached end =
    let less = read_takes_a_byte s xs reached.0 h reached.1 in
    let leaves = read_leaves s [] [] xs reached.0 reached.1 in
    let rest = from_reached n reached.0.1 s2 reached.0.2 ys rows leaves.between (omega arith) reached.3 end in
    rw (reached.1, reached.2, rest) refl

-- the records that were read of a text are its records
pub records_read : (bytes : List ℕ) (rows : List (List (List ℕ))) → AreRecords default_config st.StartRecord (strip_bom bytes) rows → rows ≡ records_of bytes
records_read bytes rows are = sym (from_reached _ st.StartRecord are.0 (strip_bom bytes) are.1 rows refl (omega arith) are.2 are.3)

-- whatever the number of iterations, there are no more records than bytes
few_from : (n : ℕ) (s : State) (xs : List ℕ) → ends_at_end s ≡ false → length (records_from default_config n s xs) ≤ length xs
unfolding records_from
few_from zero s xs h = omega arith
few_from (suc n) s xs h = by (next_record default_config s [] [] xs) refl (λ r between. few_from n r.1 r.2 between)
  where
    by : (o : Option Read) → next_record default_config s [] [] xs ≡ o
        → ((r : Read) → ends_at_end r.1 ≡ false → length (records_from default_config n r.1 r.2) ≤ length r.2)
        → length (records_next (records_from default_config n) o) ≤ length xs
    by None e later = omega arith
    by (Some r) e later =
        let less = read_takes_a_byte s xs r h e in
        let few = later r (read_leaves s [] [] xs r e).between in
        omega arith

-- without its mark a text is no longer
few_stripped : (bytes : List ℕ) → length (strip_bom bytes) ≤ length bytes
unfolding strip_bom
few_stripped [] = omega arith
few_stripped (a ∷ []) = omega arith
few_stripped (a ∷ b ∷ []) = omega arith
few_stripped (a ∷ b ∷ c ∷ rest) = by (is_bom a b c)
  where
    by : (mark : Bool) → length (cond mark rest (a ∷ b ∷ c ∷ rest)) ≤ length (a ∷ b ∷ c ∷ rest)
    by true = omega arith
    by false = omega arith

-- a text has no more records than bytes
pub few_records : (bytes : List ℕ) → length (records_of bytes) ≤ length bytes
few_records bytes =
    let stripped = few_stripped bytes in
    let few = few_from (length (strip_bom bytes) + 1) st.StartRecord (strip_bom bytes) refl in
    omega arith
