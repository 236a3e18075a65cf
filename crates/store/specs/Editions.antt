-- The editions of the tables: which tables hold rows in each, and its number.
use Rattle.std.specs.Prelude.{◌∷◌, ℕ, ⊤, List, [], drop, take}
use Rattle.store.specs.Common.{Edition, olds, Table, EditionTable}
use Rattle.store.specs.declared.edition.Edition.TheVariants.{First, Second, Third}
use Rattle.store.specs.Rows.{rolls}

-- the edition in which tables are made
abbrev pub latest : Edition
latest = Third

-- its number
abbrev pub number_of : Edition → ℕ
number_of First = 1
number_of Second = 2
number_of Third = 3

-- the tables that hold rows of an office in it; each comes after those that it refers to
abbrev pub rolls_of : Edition → List Table
rolls_of First = take 7 rolls
rolls_of Second = take 8 rolls
rolls_of Third = rolls

-- those that later editions have besides them
abbrev pub beyond : Edition → List Table
beyond First = drop 7 rolls
beyond Second = drop 8 rolls
beyond Third = []

-- the tables in which rows are replaced or taken out where those of an earlier edition are migrated
abbrev pub migrated : List Table
migrated = EditionTable ∷ olds

-- it is not the latest
abbrev pub IsEarlier : Edition → Type 0
IsEarlier Third = ⊥
IsEarlier _ = ⊤
