-- The office of rows that were read in an edition, and the changes that migrate its tables.
use Rattle.store.proofs.Common.{Schema, Seen, Change, Add, RowOf, of_table, IsFit, AreRowsOf, State, AnEdition, First, Second, Third, aims_of, is_old, olds, renaming_changes, migrated_rows, rows_in_edition, renamed_row, removal_of, migrating_changes, number_of, migrated, rolls_of, AllNeed, AreLeftAmong, IsLeftAlone, AskMigrated, FindsOffice, HoldsRows, ◌≡◌, Bool, true, cond, List, [], ◌∷◌, ◌++◌, map, filter, inr, refl, false}
use Rattle.store.specs.Rows.{IsAmong}
use Rattle.store.proofs.Among.{tested_among}
use Rattle.store.proofs.Standing.{hold_same}
use Rattle.store.proofs.MigratingChanges.{changes_migrate}
use Rattle.store.proofs.MigratingRows.{rows_migrate}

-- ---- what the changes of a migration ask of the schema

-- a row of earlier editions is of a table in which rows are taken out
taken_asks : (schema : Schema) → AreLeftAmong migrated schema → (r : RowOf) → is_old r ≡ true → IsLeftAlone r.table schema
unfolding IsAmong
taken_asks schema left r is = left r.table (inr (tested_among olds r.table is))

module _ (schema : Schema) (left : AreLeftAmong migrated schema) where
  takes_by : (r : RowOf) (rows : List RowOf) → AllNeed (map removal_of (filter is_old rows)) schema → (b : Bool) → is_old r ≡ b → AllNeed (map removal_of (cond b (r ∷ filter is_old rows) (filter is_old rows))) schema
  takes_by r rows rest true is = ((λ _. taken_asks schema left r is), rest)
  takes_by r rows rest false is = rest

  takes_ask : (rows : List RowOf) → AllNeed (map removal_of (filter is_old rows)) schema
  takes_ask [] = tt
  takes_ask (r ∷ rows) = takes_by r rows (takes_ask rows) (is_old r) refl

  adds_ask : (rows : List RowOf) → AllNeed (map Add rows) schema
  adds_ask [] = tt
  adds_ask (r ∷ rows) = (tt, adds_ask rows)

  both_ask : (xs ys : List Change) → AllNeed xs schema → AllNeed ys schema → AllNeed (xs ++ ys) schema
  both_ask [] ys p q = q
  both_ask (x ∷ xs) ys p q = (p.0, both_ask xs ys p.1 q)

  moves_ask : (rows more : List RowOf) → AllNeed (renaming_changes rows more) schema
  moves_ask rows more = both_ask (map removal_of (filter is_old rows)) (map Add (map renamed_row (filter is_old rows) ++ more)) (takes_ask rows) (adds_ask (map renamed_row (filter is_old rows) ++ more))

migration_asks : (e : AnEdition) (rows : List RowOf) → AskMigrated (migrating_changes e rows)
migration_asks First rows schema left = moves_ask schema left rows (aims_of rows)
migration_asks Second rows schema left = moves_ask schema left rows []
migration_asks Third rows schema left = tt

-- the office of the rows that were read, and what migrates them
pub found_in : (e : AnEdition) (rows : List RowOf) (office : State) (old new : Seen) → HoldsRows e rows old new → IsFit office → AreRowsOf (migrated_rows e rows) office
    → FindsOffice e office (migrating_changes e rows) old new
found_in e rows office old new h fit of =
    let in_it = (rows_migrate e rows office h.none_later fit).1 of in
    record {
      same = h.same;
      holds = hold_same (rolls_of e) (number_of e) old.now (of_table rows) (rows_in_edition e office) in_it.same h.holds;
      allowed = in_it.allowed;
      fit = fit;
      asks = migration_asks e rows;
      turned = (changes_migrate e rows office fit in_it).rows;
      rows = rows;
      are = in_it;
      migrate = refl;
    }
