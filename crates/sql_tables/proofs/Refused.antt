-- The one edit of a statement of a table: the one that it makes, and the one for which it is refused.
use Rattle.sql_tables.proofs.Common.{nat_tests, IsPermutation, IsPermutation-cons, IsPermutation-middle, IsPermutation-refl, IsPermutation-trans, along_permutation, filter_same, map-map, AnyTable, Row, Term, col, rowid, Edit, edit_of, id_in, with_rowid, Chosen, Given, Answers, Database, IsDatabase, Insert, Update, Delete, Values, State, Executes, mode_of, ids_of, Has, all_has, Kind, Cells, are_of, Lists, Place, TableShape, cells, made_at, sql_values, Stands, begins_with, IsMade, IsRefusedIn, OfChange, OfRow, adding, changing, replacing, IsHindered, ◌≡◌, ℕ, List, [], ◌∷◌, filter, map, take, find, ◌==◌, ◌^◌, nat_le, nat_lt, Option, Some, Ok, Bool, true, false, refl, ap, subst, ◌∙◌, arith, None, CanFind}
use Rattle.sqlite.specs.Term.{eval_all}
use Rattle.sql_tables.proofs.InsertRow.{IsInsert, has_listed, insert_means, insert_text}
use Rattle.sql_tables.proofs.InsertKeyed.{insert_does, insert_edit}
use Rattle.sql_tables.proofs.Made.{map_same}
use Rattle.sql_tables.proofs.UpdateRow.{IsUpdate, numbered_given, remade, showing, update_does}
use Rattle.sql_tables.proofs.DeleteRows.{IsDelete, delete_does}
use Rattle.sql_tables.proofs.QueryRows.{drafted_means, drafted_text, found, hit}
use Rattle.sql_tables.proofs.SelectAll.{IsFirst, found_program}
use Rattle.sql_tables.proofs.Rowids.{permuted_has}
use Rattle.sql_tables.proofs.RowidsOut.{kept_has, passes}
use Rattle.sql_tables.proofs.Stops.{delete_stops, insert_stops, update_stops}
use Rattle.sql_tables.proofs.Runs.{low_tree}
use Rattle.sql_tables.proofs.Understood.{runs_by}

-- ---- a row more

module _ (sql : List ℕ) (shape : TableShape) (kinds : List Kind) (it : IsInsert sql shape kinds) (row : Cells) (fits : are_of kinds row ≡ true) where
  abbrev given : Row
  given = sql_values row

  -- the edit of an INSERT adds the row
  at_row : (db : Database) (place : Place) (P : Edit → Type 0) → P (insert_edit db (made_at shape place) ((it.given place row fits).source ∷ [])) → P (adding (made_at shape place) given db.trees)
  at_row db place P h =
      let is = it.given place row fits in
      let t = made_at shape place in
      subst (λ (stored : Row). P (record { table = t; gone = []; news = with_rowid Chosen (db.trees place.tree) stored ∷ [] })) (is.cast ∙ is.is) h

  -- it is the one that is refused
  pub insert_refused : (limit : Option ℕ) (db : Database) → IsHindered sql given limit db → limit ≡ None → OfRow (made_at shape) given (IsRefusedIn db) db
  insert_refused limit db hindered none place listed =
      let t = made_at shape place in
      let text = insert_text sql shape kinds it db.schema listed.at place (has_listed db.schema t listed) row fits in
      let ends = subst (λ l. IsHindered sql given l db) none hindered _ text in
      let stopped = insert_stops given db sql listed.at t it.terms it.width listed.there (it.typed row fits) ends.0 ends.1 in
      at_row db place (IsRefusedIn db) (subst (λ all. IsRefusedIn db (insert_edit db t all)) (it.given place row fits).one stopped)

  -- or the one that was made
  pub insert_made : (old new : State) (count : ℕ) → Executes sql given old new (Ok count) → OfRow (made_at shape) given (IsMade old.now new.now) old.now
  insert_made old new count ran place listed =
      let t = made_at shape place in
      let w = runs_by sql given old new count (Insert listed.at (Values it.terms it.width)) sql (insert_means sql shape kinds it old.now.schema listed.at place (has_listed old.now.schema t listed)) ran in
      let done = insert_does old.step_limit (mode_of old) given old.now new.now sql listed.at t it.terms it.width w.tally listed.there w.changed in
      at_row old.now place (IsMade old.now new.now) (subst (λ all. IsMade old.now new.now (insert_edit old.now t all)) (it.given place row fits).one (w.sound, done.0, done.1))

-- ---- rows that are replaced or taken out

-- a table that is the first in its tree is so for a query
pub is_first : (db : Database) (table : AnyTable) → IsDatabase db → Lists db.schema table → find (λ (t : AnyTable). t.tree == table.tree) db.schema.tables ≡ Some table → IsFirst db.schema table
is_first db table sound listed first = record { low = high (low_tree db.schema db.trees table sound listed); first = first }
  where
    high : nat_lt table.tree (2 ^ 31) ≡ true → nat_le (2 ^ 31) table.tree ≡ false
    high h = grind (arith, nat_tests, h)

-- what is made of rows, in another order, is made of the rows in another order
abbrev Made : (Row → Row) → List Row → List Row → Type 0
Made f as' bs = (rows : List Row) → as' ≡ map f rows → (found : List Row) × IsPermutation rows found × (bs ≡ map f found)

made_cons : (f : Row → Row) (x : Row) (xs ys : List Row) → Made f xs ys → Made f (x ∷ xs) (x ∷ ys)
made_cons f x xs ys later [] is = absurd (cc)
made_cons f x xs ys later (r ∷ rows) is =
    let first : x ≡ f r = cc in
    let rest : xs ≡ map f rows = cc in
    let it = later rows rest in
    (r ∷ it.0, IsPermutation-cons r rows it.0 it.1, λ i. first i ∷ it.2 i)

made_turned : (f : Row → Row) (x y : Row) (xs : List Row) → Made f (x ∷ y ∷ xs) (y ∷ x ∷ xs)
made_turned f x y xs [] is = absurd (cc)
made_turned f x y xs (r ∷ []) is = absurd (cc)
made_turned f x y xs (r ∷ s ∷ rows) is =
    let first : x ≡ f r = cc in
    let second : y ≡ f s = cc in
    let rest : xs ≡ map f rows = cc in
    (s ∷ r ∷ rows, IsPermutation-middle (r ∷ []) s rows, λ i. second i ∷ first i ∷ rest i)

made_of : (f : Row → Row) (xs ys : List Row) → IsPermutation xs ys → Made f xs ys
made_of f = along_permutation (Made f) (λ xs rows is. (rows, IsPermutation-refl rows, is)) (made_cons f) (made_turned f)
    (λ xs ys zs g h rows is. let a = g rows is in let b = h a.0 a.2 in (b.0, IsPermutation-trans _ _ _ a.1 b.1, b.2))

module _ (sql : List ℕ) (shape : TableShape) (kinds : List Kind) (width : ℕ) (it : IsUpdate sql shape kinds width) (given : Cells) (is : are_of kinds given ≡ true) where
  abbrev row : Row
  row = sql_values given

  abbrev key : Row
  key = take width row

  module _ (db : Database) (place : Place) (rows : List Row) (stands : Stands (made_at shape) place rows db) where
    abbrev t : AnyTable
    t = made_at shape place

    abbrev tests : List Term
    tests = it.tests place.rules.is_strict

    abbrev hits : Row → Bool
    hits = hit tests (showing it.values) row

    abbrev source : Row → Row
    source r = rowid r ∷ rowid r ∷ eval_all it.values (row ∷ r ∷ [])

    -- the edit of an UPDATE puts the row in the place of those with its key
    at_rows : (answer : List Row) → Answers db (found_program place.tree tests (showing it.values)) row answer → (P : Edit → Type 0) → P (edit_of db.trees t (ids_of answer) Given 1 answer)
        → (found : List Row) × IsPermutation (filter (λ r. begins_with key (cells t r)) (db.trees place.tree)) found × P (changing t found (map (replacing t row) found))
    at_rows answer answers P h =
        let here = db.trees place.tree in
        let made = made_of source (map source (filter hits here)) answer (found tests (showing it.values) row db place.tree answer answers) (filter hits here) refl in
        let rows = made.0 in
        let gone : ids_of answer ≡ map (λ r. id_in (rowid r)) rows = ap ids_of made.2 ∙ map-map (λ (r : Row). id_in (rowid r)) source rows in
        let each : (r : Row) → Has rows r → remade t (source r) ≡ replacing t row r =
        λ r among. let there = permuted_has (filter hits here) rows made.1 r among in it.put place given is r (all_has _ here r stands.keyed.ids (kept_has hits here r there)) (passes hits here r there) in
        let news : map (remade t) answer ≡ map (replacing t row) rows = ap (map (remade t)) made.2 ∙ map-map (remade t) source rows ∙ map_same _ _ rows each in
        let plain = subst (λ all. P (record { table = t; gone = ids_of answer; news = all })) (numbered_given (map (remade t) answer) _) h in (
          rows,
          subst (λ all. IsPermutation all rows) (filter_same hits _ (it.hits place given is) here) made.1,
          subst (λ ids. P (record { table = t; gone = ids; news = map (replacing t row) rows })) gone (subst (λ all. P (record { table = t; gone = ids_of answer; news = all })) news plain),
        )

  -- it is the one that is refused
  pub update_refused : (limit : Option ℕ) (db : Database) → IsHindered sql row limit db → CanFind (made_at shape) limit db → OfChange (made_at shape) (begins_with key) (λ t. map (replacing t row)) (IsRefusedIn db) db
  update_refused limit db hindered may place rows inert stands =
      let t = made_at shape place in
      let listed = stands.listed in
      let tests = it.tests place.rules.is_strict in
      let types = it.accepted db.schema place (is_first db t may.1 listed (may.2 place listed)) in
      let text = drafted_text sql shape _ _ Update it.drafted db.schema place tests (showing it.values) listed (it.draft db.schema listed.at place (has_listed db.schema t listed)) types.0 row (it.counted given is) tt in
      let ends = subst (λ l. IsHindered sql row l db) may.0 hindered _ text in
      let stopped = update_stops row db sql listed.at t place.tree tests (showing it.values) listed.there inert (types.1 given is) ends.0 ends.1 in
      at_rows db place rows stands stopped.0 stopped.1 (IsRefusedIn db) stopped.2

  -- or the one that was made
  pub update_made : (old new : State) (count : ℕ) → Executes sql row old new (Ok count) → OfChange (made_at shape) (begins_with key) (λ t. map (replacing t row)) (IsMade old.now new.now) old.now
  update_made old new count ran place rows inert stands =
      let t = made_at shape place in
      let listed = stands.listed in
      let q = found_program place.tree (it.tests place.rules.is_strict) (showing it.values) in
      let w = runs_by sql row old new count (Update listed.at q) sql (drafted_means sql shape _ _ Update it.drafted old.now.schema place _ _ listed (it.draft old.now.schema listed.at place (has_listed old.now.schema t listed))) ran in
      let done = update_does old.step_limit (mode_of old) row old.now new.now sql listed.at t q w.tally listed.there inert w.changed in
      at_rows old.now place rows stands done.1 done.2 (IsMade old.now new.now) (w.sound, done.0, done.3)

module _ (sql : List ℕ) (shape : TableShape) (kinds : List Kind) (goes : Row → Row → Bool) (it : IsDelete sql shape kinds goes) (given : Cells) (is : are_of kinds given ≡ true) where
  abbrev shared : Row
  shared = sql_values given

  -- the edit of a DELETE takes out the rows that its parameters find
  at_gone : (db : Database) (place : Place) (answer : List Row) → Answers db (found_program place.tree (it.tests place.rules.is_strict) (col 1 0 ∷ [])) shared answer → (P : Edit → Type 0) → P (edit_of db.trees (made_at shape place) (ids_of answer) Given 0 [])
      → (found : List Row) × IsPermutation (filter (λ r. goes shared (cells (made_at shape place) r)) (db.trees place.tree)) found × P (changing (made_at shape place) found [])
  at_gone db place answer answers P h =
      let t = made_at shape place in
      let here = db.trees place.tree in
      let tests = it.tests place.rules.is_strict in
      let hits = hit tests (col 1 0 ∷ []) shared in
      let source : Row → Row = λ r. rowid r ∷ [] in
      let made = made_of source (map source (filter hits here)) answer (found tests (col 1 0 ∷ []) shared db place.tree answer answers) (filter hits here) refl in (
        made.0,
        subst (λ all. IsPermutation all made.0) (filter_same hits _ (it.hits place given is) here) made.1,
        subst (λ ids. P (record { table = t; gone = ids; news = [] })) (ap ids_of made.2 ∙ map-map (λ (r : Row). id_in (rowid r)) source made.0) h,
      )

  -- it is the one that is refused
  pub delete_refused : (limit : Option ℕ) (db : Database) → IsHindered sql shared limit db → CanFind (made_at shape) limit db → OfChange (made_at shape) (goes shared) (λ _ _. []) (IsRefusedIn db) db
  delete_refused limit db hindered may place rows inert stands =
      let t = made_at shape place in
      let listed = stands.listed in
      let tests = it.tests place.rules.is_strict in
      let types = it.accepted db.schema place (is_first db t may.1 listed (may.2 place listed)) in
      let text = drafted_text sql shape _ _ Delete it.drafted db.schema place tests (col 1 0 ∷ []) listed (it.draft db.schema listed.at place (has_listed db.schema t listed)) types.0 shared (it.counted given is) tt in
      let ends = subst (λ l. IsHindered sql shared l db) may.0 hindered _ text in
      let stopped = delete_stops shared db sql listed.at t place.tree tests (col 1 0 ∷ []) listed.there inert (types.1 given is) ends.0 ends.1 in
      at_gone db place stopped.0 stopped.1 (IsRefusedIn db) stopped.2

  -- or the one that was made
  pub delete_made : (old new : State) (count : ℕ) → Executes sql shared old new (Ok count) → OfChange (made_at shape) (goes shared) (λ _ _. []) (IsMade old.now new.now) old.now
  delete_made old new count ran place rows inert stands =
      let t = made_at shape place in
      let listed = stands.listed in
      let q = found_program place.tree (it.tests place.rules.is_strict) (col 1 0 ∷ []) in
      let w = runs_by sql shared old new count (Delete listed.at q) sql (drafted_means sql shape _ _ Delete it.drafted old.now.schema place _ _ listed (it.draft old.now.schema listed.at place (has_listed old.now.schema t listed))) ran in
      let done = delete_does old.step_limit (mode_of old) shared old.now new.now sql listed.at t q w.tally listed.there (λ olds. inert olds []) w.changed in
      at_gone old.now place done.1 done.2 (IsMade old.now new.now) (w.sound, done.0, done.3)
