-- What requests and their changes make of a fit office and of its rows, as lists in whatever order.
use Rattle.std.specs.Prelude.{◌≡◌, ◌≤◌, ◌^◌, ◌++◌, ℕ, List, None, Ok, length}
use Rattle.office.specs.changes.Common.{ImportKind, Plain, State, after_plain, Change, Table, AllRows, SameRows, TransformsRows, rows_in, Transforms, changes_of}
use Rattle.office_model.specs.declared.TheConstants.{MAX_IMPORT_BYTES}
use Rattle.office_model.specs.Fit.{IsFit}
use Rattle.office_model.specs.Importing.{after_rows, import_refusal}
use Rattle.office_model.specs.Refusing.{plain_refusal}
use Rattle.office.specs.changes.Allowed.{AreAllowed}
use Rattle.office.specs.changes.Apart.{AreApart}
use Rattle.office.specs.changes.Changes.{import_changes}

-- a fit office is fit after each plain request that it does not refuse
abbrev pub StaysFit : Type 0
StaysFit = (q : Plain) (o : State) → IsFit o → plain_refusal o q ≡ None → IsFit (after_plain q o)

-- plain requests keep no import
abbrev pub ImportsStay : Type 0
ImportsStay = (rows : List Plain) (o : State) → (let n = after_rows rows o in n.imports) ≡ o.imports

-- changes that transform rows into others, and then those into third ones, transform the first into the third
abbrev pub TransformsFollow : Type 0
TransformsFollow = (cs ds : List Change) (old mid new : AllRows) → TransformsRows cs old mid → TransformsRows ds mid new → TransformsRows (cs ++ ds) old new

-- the changes of a plain request that is not refused transform the rows of a fit office into those of the office after it
abbrev pub ChangesTransform : Type 0
ChangesTransform = (q : Plain) (o : State) → IsFit o → plain_refusal o q ≡ None → Transforms (changes_of q o) o (after_plain q o)

-- two fit offices with the same rows are one
abbrev pub RowsGiveOffice : Type 0
RowsGiveOffice = (o n : State) → IsFit o → IsFit n → SameRows (rows_in o) (rows_in n) → o ≡ n

-- the rows that a fit office has in a table have different keys
abbrev pub RowsApart : Type 0
RowsApart = (o : State) → IsFit o → (table : Table) → AreApart table (rows_in o table)

-- the changes of a plain request that is not refused are allowed over the rows of a fit office
abbrev pub ChangesAllowed : Type 0
ChangesAllowed = (q : Plain) (o : State) → IsFit o → plain_refusal o q ≡ None → AreAllowed (changes_of q o) (rows_in o)

-- and they are few
abbrev pub ChangesFew : Type 0
ChangesFew = (q : Plain) (o : State) → plain_refusal o q ≡ None → length (changes_of q o) ≤ 2 ^ 20

-- so are those of an import that is not refused
abbrev pub ImportAllowed : Type 0
ImportAllowed = (id : List ℕ) (kind : ImportKind) (bytes : List ℕ) (rows : List Plain) (o : State) → IsFit o → import_refusal o id kind bytes (Ok rows) ≡ None
    → AreAllowed (import_changes id kind bytes rows o) (rows_in o)

-- and few, where its text has no more rows than it may have bytes
abbrev pub ImportFew : Type 0
ImportFew = (id : List ℕ) (kind : ImportKind) (bytes : List ℕ) (rows : List Plain) (o : State) → import_refusal o id kind bytes (Ok rows) ≡ None → length rows ≤ MAX_IMPORT_BYTES
    → length (import_changes id kind bytes rows o) ≤ 2 ^ 20
