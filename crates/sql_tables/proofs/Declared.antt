-- What the statements of each table do.
use Rattle.sql_tables.proofs.Common.{take-map, Database, Row, State, Executes, CommitsShowing, Trees, TableFault, IsKeyed, Group, Cells, are_of, keyed, kinds_of, shared_by, shared_kinds, Sql, made_here, rules_of, shape_of, sql_of, table_at, value_of, values, entering, removal, Creates, goes_on, HasRun, RanQuery, HasStepped, Shows, Rests, Edit, FailsToRead, IsMade, IsRefusedIn, IsStopped, IsTableMade, IsUnmade, OfEntry, OfLeaving, IsUnread, ShowsInOrder, IsHindered, Storage, ◌≡◌, ℕ, take, List, [], subst, true, Option, Result, Ok, Err, IfOk, Vec, Ours as Table, Entering, InPlace, New, CanEnter, CanFind}
use Rattle.std.specs.declared.alloc.Global.{Global}
use Rattle.sqlite.specs.State.{Shown}
use Rattle.schema.specs.Rows.{key_in}
use Rattle.sql_tables.proofs.CreateTable.{create_makes, create_writes}
use Rattle.sql_tables.proofs.InsertRow.{insert_writes}
use Rattle.sql_tables.proofs.UpdateRow.{update_writes}
use Rattle.sql_tables.proofs.DeleteRows.{IsDelete, delete_writes}
use Rattle.sql_tables.proofs.SelectAll.{read_shows, select_commits, select_rests}
use Rattle.sql_tables.proofs.Runs.{stepped_by}
use Rattle.sql_tables.proofs.Understood.{IsWriteText}
use Rattle.sql_tables.proofs.Texts.{create_is, insert_is, update_is, select_is, removal_is}
use Rattle.sql_tables.proofs.Tables.{are_makable, group_text, texts}
use Rattle.sql_tables.proofs.Unmade.{table_made, unmade}
use Rattle.sql_tables.proofs.Unread.{unread_rows}
use Rattle.sql_tables.proofs.Refused.{delete_made, delete_refused, insert_made, insert_refused, update_made, update_refused}

-- ---- a table is made

module _ (table : Table) (declared : Sql) (is : declared ≡ sql_of table) where
  pub created : (old new : State) (count : ℕ) → HasRun declared.create [] count old new → HasStepped (λ old new. Creates (table_at table) (rules_of table) [] old new × IsTableMade (made_here table 0) old new) old new
  created old new count run =
      let sql = sql_of table in
      let it = create_is table (texts table) in
      stepped_by _ sql.create [] count old new (create_writes sql.create (shape_of table) (rules_of table) it)
      (λ ran. (create_makes sql.create (shape_of table) (rules_of table) it old new count ran, table_made table (texts table) old new count ran)) (subst (λ (sql : Sql). HasRun sql.create [] count old new) is run)

  pub make_refused : (limit : Option ℕ) (db : Database) → IsHindered declared.create [] limit db → IsUnmade (made_here table 0) db
  make_refused limit db h = unmade table (texts table) (are_makable table) limit db (subst (λ (sql : Sql). IsHindered sql.create [] limit db) is h)

-- ---- a row comes into its table

module _ (table : Table) (row : Cells) (fits : are_of (kinds_of table) row ≡ true) (way : Entering) (text : List ℕ) (is : text ≡ entering way (sql_of table)) where
  abbrev Entry : (Edit → Type 0) → Database → Type 0
  Entry = OfEntry way (table_at table) (values (key_in table row)) (values row)

  by_key : (P : Edit → Type 0) (db : Database) → OfEntry InPlace (table_at table) (take (keyed table) (values row)) (values row) P db → OfEntry InPlace (table_at table) (values (key_in table row)) (values row) P db
  by_key P db = subst (λ key. OfEntry InPlace (table_at table) key (values row) P db) (take-map value_of (keyed table) row)

  entry_writes : (way : Entering) → IsWriteText (entering way (sql_of table))
  entry_writes InPlace = update_writes (sql_of table).update (shape_of table) (kinds_of table) (keyed table) (update_is table (texts table))
  entry_writes New = insert_writes (sql_of table).insert (shape_of table) (kinds_of table) (insert_is table (texts table))

  entry_made : (old new : State) (count : ℕ) (way : Entering) → Executes (entering way (sql_of table)) (values row) old new (Ok count) → OfEntry way (table_at table) (values (key_in table row)) (values row) (IsMade old.now new.now) old.now
  entry_made old new count InPlace ran = by_key (IsMade old.now new.now) old.now (update_made (sql_of table).update (shape_of table) (kinds_of table) (keyed table) (update_is table (texts table)) row fits old new count ran)
  entry_made old new count New ran = insert_made (sql_of table).insert (shape_of table) (kinds_of table) (insert_is table (texts table)) row fits old new count ran

  pub entered : (old new : State) (count : ℕ) → HasRun text (values row) count old new → HasStepped (λ old new. Entry (IsMade old new) old) old new
  entered old new count run = stepped_by _ (entering way (sql_of table)) (values row) count old new (entry_writes way) (entry_made old new count way) (subst (λ sql. HasRun sql (values row) count old new) is run)

  refused_so : (limit : Option ℕ) (db : Database) (way : Entering) → IsHindered (entering way (sql_of table)) (values row) limit db → CanEnter way (table_at table) limit db → OfEntry way (table_at table) (values (key_in table row)) (values row) (IsRefusedIn db) db
  refused_so limit db InPlace h may = by_key (IsRefusedIn db) db (update_refused (sql_of table).update (shape_of table) (kinds_of table) (keyed table) (update_is table (texts table)) row fits limit db h may)
  refused_so limit db New h may = insert_refused (sql_of table).insert (shape_of table) (kinds_of table) (insert_is table (texts table)) row fits limit db h may

  pub entry_refused : (limit : Option ℕ) (db : Database) → IsHindered text (values row) limit db → CanEnter way (table_at table) limit db → Entry (IsRefusedIn db) db
  entry_refused limit db h = refused_so limit db way (subst (λ sql. IsHindered sql (values row) limit db) is h)

-- ---- the rows of a group go

module _ (group : Group) (key : Cells) (fits : are_of (shared_kinds group) key ≡ true) (text : List ℕ) (is : text ≡ removal group) where
  abbrev from : Table × ℕ
  from = shared_by group

  it : IsDelete (removal group) (shape_of from.0) (shared_kinds group) (goes_on from.1)
  it = removal_is from.0 (texts from.0) (removal group) from.1 (shared_kinds group) (group_text group)

  pub left : (old new : State) (count : ℕ) → HasRun text (values key) count old new → HasStepped (λ old new. OfLeaving group (values key) (IsMade old new) old) old new
  left old new count run =
      stepped_by _ (removal group) (values key) count old new (delete_writes (removal group) (shape_of from.0) (shared_kinds group) (goes_on from.1) it)
      (delete_made (removal group) (shape_of from.0) (shared_kinds group) (goes_on from.1) it key fits old new count) (subst (λ sql. HasRun sql (values key) count old new) is run)

  pub leaving_refused : (limit : Option ℕ) (db : Database) → IsHindered text (values key) limit db → CanFind (table_at from.0) limit db → OfLeaving group (values key) (IsRefusedIn db) db
  leaving_refused limit db h = delete_refused (removal group) (shape_of from.0) (shared_kinds group) (goes_on from.1) it key fits limit db (subst (λ sql. IsHindered sql (values key) limit db) is h)

module _ (table : Table) (declared : Sql) (is : declared ≡ sql_of table) (old new : State) where
  -- what a reading shows of the table
  pub rows_are : (result : Result (Vec Row Global) TableFault) → IfOk result (λ rows. IsKeyed rows.items)
      → IfOk result (λ rows. ShowsInOrder declared.select rows.items old new)
      → IfOk result (λ rows. Shows (table_at table) rows.items old new)
  rows_are (Ok rows) keyed seen =
      let shown = subst (λ (sql : Sql). Shown sql.select [] old new seen.seen) is seen.shown in
      read_shows (sql_of table).select (shape_of table) (select_is table (texts table)) old new seen.seen rows.items seen.same keyed shown
  rows_are (Err fault) keyed seen = seen

  -- it commits nothing
  pub commits_none : (params : Row) (db : Trees) → CommitsShowing declared.select params old db → ⊥
  commits_none params db h = select_commits (sql_of table).select (shape_of table) (select_is table (texts table)) old params db (subst (λ (sql : Sql). CommitsShowing sql.select params old db) is h)

  -- and changes nothing
  pub rests : RanQuery declared.select old new → Rests old new
  rests ran = select_rests (sql_of table).select (shape_of table) (select_is table (texts table)) old new (subst (λ (sql : Sql). RanQuery sql.select old new) is ran)

  -- why it fails
  pub unread_by : (fault : TableFault) → fault ≡ Storage → FailsToRead declared.select fault old new → IsStopped (IsUnread (table_at table)) old new
  unread_by fault storage h = unread_rows (sql_of table).select (shape_of table) (select_is table (texts table)) old new fault storage (subst (λ (sql : Sql). FailsToRead sql.select fault old new) is h)
