-- The texts of each table are read and resolved, by computing: the parser and the resolver run on the literal texts here, and nowhere else.
use Rattle.sql_tables.proofs.Common.{and_parts, Row, rowid, Term, col, Int, Words, Edition, Supervisor, Project, Student, Round, OldChoice, OldPlacement, Import, RoundAim, Choice, Placement, Group, Key, OfList, Placed, keyed, kinds_of, shared_by, shared_kinds, Place, cells, choices, made_at, shape_of, sql_of, table_at, removal, begins_with, goes_on, Schema, Output, ◌≡◌, ℕ, ℤ, length, map, List, [], ◌∷◌, Bool, true, false, refl, Ours as Table}
use Rattle.sqlite_tied.specs.Compute.{everything}
use Rattle.sqlite.specs.Listing.{listing_schema}
use Rattle.sqlite.specs.Ops.{unary}
use Rattle.sqlite_value.specs.Keys.{first_key}
use Rattle.sql_tables.proofs.Texts.{Anywhere, AreAccepted, AreFound, AreRead, AreTested, Each, Gives, IsShown, Removal, Removes, Texts, either}
use Rattle.sql_tables.proofs.Forms.{delete_of, finds_of, outs_of, read_as, values_of}
use Rattle.sql_tables.proofs.InsertRow.{cast_bytes, cast_id, cast_null, cast_int}
use Rattle.sql_tables.proofs.QueryRows.{hit}
use Rattle.sql_tables.proofs.SelectAll.{IsAccepted, IsFirst}
use Rattle.sql_tables.proofs.UpdateRow.{showing}
use Rattle.sqlite_trees.specs.Sound.{begins, fits_kind, is_free_name, same_name}
use Rattle.sqlite_value.specs.Order.{value_cmp}
use Rattle.sql_tables.proofs.Unmade.{IsMakable}
use Rattle.sql_tables.proofs.KeyTests.{rowid_is}

-- the rows of a table of choices that begin with a key are found
choice_found : (name : List ℕ) (is_strict : Bool) (at : Place) (project : List Term) (round : ℤ) (student : List ℕ) (place : ℤ) (more r : Row)
    → hit (finds_of (choices name) is_strict 0 3) project (Int round ∷ Words student ∷ Int place ∷ more) r ≡ begins_with (Int round ∷ Words student ∷ Int place ∷ []) (cells (made_at (choices name) at) r)
unfolding unary
choice_found name true at project round student place more r = refl
choice_found name false at project round student place more r = refl

-- and those of a list, and the placements of a round
list_found : (is_strict : Bool) (at : Place) (round : ℤ) (student : List ℕ) (r : Row)
    → hit (finds_of (shape_of Choice) is_strict 0 2) (col 1 0 ∷ []) (Int round ∷ Words student ∷ []) r ≡ begins_with (Int round ∷ Words student ∷ []) (cells (table_at Choice at) r)
unfolding unary
list_found true at round student r = refl
list_found false at round student r = refl

placed_found : (is_strict : Bool) (at : Place) (round : ℤ) (r : Row) → hit (finds_of (shape_of Placement) is_strict 1 1) (col 1 0 ∷ []) (Int round ∷ []) r ≡ goes_on 1 (Int round ∷ []) (cells (table_at Placement at) r)
unfolding unary
placed_found true at round r = refl
placed_found false at round r = refl

-- the texts of each table are read; here and below the clause for the other tables is checked for each of them
are_read : (table : Table) → AreRead table
unfolding everything listing_schema first_key
are_read Edition = record { body = _; create = refl; insert = refl; update = refl; delete = refl; select = refl; defined = refl; unlisted = refl; laid = λ schema place base. refl; shows = λ place r. refl }
are_read _ = record { body = _; create = refl; insert = refl; update = refl; delete = refl; select = refl; defined = refl; unlisted = refl; laid = λ schema place base. refl; shows = λ place r. refl }

-- their tests are resolved, those of a key that is no rowid as the table is STRICT or not
are_tested : (table : Table) (is_strict : Bool) → Anywhere table (AreTested table) is_strict
unfolding everything listing_schema first_key
are_tested Edition is_strict schema at tree bare checks there = record { removal = rw there (rw there refl); change = rw there (rw there refl) }
are_tested Round is_strict schema at tree bare checks there = record { removal = rw there (rw there refl); change = rw there (rw there refl) }
are_tested RoundAim is_strict schema at tree bare checks there = record { removal = rw there (rw there refl); change = rw there (rw there refl) }
are_tested _ true schema at tree bare checks there = record { removal = rw there (rw there (rw there refl)); change = rw there (rw there (rw there refl)) }
are_tested _ false schema at tree bare checks there = record { removal = rw there (rw there (rw there refl)); change = rw there (rw there (rw there refl)) }

-- so are their columns
are_shown : (table : Table) → IsShown table
unfolding everything listing_schema first_key
are_shown Edition schema at place there low = rw there (rw low (rw there refl))
are_shown _ schema at place there low = rw there (rw low (rw there refl))

-- their keys find rows
are_found : (table : Table) → AreFound table
unfolding everything listing_schema first_key
are_found OldChoice at = λ round student place. choice_found (shape_of OldChoice).name at.rules.is_strict at (col 1 0 ∷ []) round student place []
are_found Choice at = λ round student place. choice_found (shape_of Choice).name at.rules.is_strict at (col 1 0 ∷ []) round student place []
are_found _ at = λ key r. refl

-- their rows are given, found and set
are_given : (table : Table) (at : Place) → Each (kinds_of table) (Gives table at)
unfolding everything listing_schema first_key
are_given Edition at = λ id number. record { one = refl; counted = refl; typed = refl; cast = rw (cast_int id, cast_null, cast_int number) refl; put = λ r int same. rw (rowid_is r id int (and_parts _ _ same).0, cast_int id, cast_null, cast_int number) refl; added = λ here. refl; finds = λ r. refl; set = λ r int same. rw (rowid_is r id int (and_parts _ _ same).0) refl }
are_given Supervisor at = λ code label quota. record { one = refl; counted = refl; typed = refl; cast = rw (cast_null, cast_int quota) refl; put = λ r int same. rw (cast_id (rowid r) int, cast_int quota) refl; added = λ here. refl; finds = λ r. refl; set = λ r int same. refl }
are_given Project at = λ code label supervisor quota. record { one = refl; counted = refl; typed = refl; cast = rw (cast_null, cast_int quota) refl; put = λ r int same. rw (cast_id (rowid r) int, cast_int quota) refl; added = λ here. refl; finds = λ r. refl; set = λ r int same. refl }
are_given Student at = λ code label. record { one = refl; counted = refl; typed = refl; cast = rw cast_null refl; put = λ r int same. rw (cast_id (rowid r) int) refl; added = λ here. refl; finds = λ r. refl; set = λ r int same. refl }
are_given Round at = λ number is_open. record { one = refl; counted = refl; typed = refl; cast = rw (cast_int number, cast_null, cast_int is_open) refl; put = λ r int same. rw (rowid_is r number int (and_parts _ _ same).0, cast_int number, cast_null, cast_int is_open) refl; added = λ here. refl; finds = λ r. refl; set = λ r int same. rw (rowid_is r number int (and_parts _ _ same).0) refl }
are_given OldChoice at = λ round student place project. record { one = refl; counted = refl; typed = refl; cast = rw (cast_null, cast_int round, cast_int place) refl; put = λ r int same. rw (cast_id (rowid r) int, cast_int round, cast_int place) refl; added = λ here. refl; finds = choice_found (shape_of OldChoice).name at.rules.is_strict at (showing (values_of (shape_of OldChoice))) round student place (Words project ∷ []); set = λ r int same. refl }
are_given OldPlacement at = λ student round project rank. record { one = refl; counted = refl; typed = refl; cast = rw (cast_null, cast_int round, cast_int rank) refl; put = λ r int same. rw (cast_id (rowid r) int, cast_int round, cast_int rank) refl; added = λ here. refl; finds = λ r. refl; set = λ r int same. refl }
are_given Import at = λ id kind bytes rows. record { one = refl; counted = refl; typed = refl; cast = rw (cast_null, cast_bytes at.rules.is_strict bytes, cast_int rows) refl; put = λ r int same. rw (cast_id (rowid r) int, cast_bytes at.rules.is_strict bytes, cast_int rows) refl; added = λ here. refl; finds = λ r. refl; set = λ r int same. refl }
are_given RoundAim at = λ round generous. record { one = refl; counted = refl; typed = refl; cast = rw (cast_int round, cast_null, cast_int generous) refl; put = λ r int same. rw (rowid_is r round int (and_parts _ _ same).0, cast_int round, cast_null, cast_int generous) refl; added = λ here. refl; finds = λ r. refl; set = λ r int same. rw (rowid_is r round int (and_parts _ _ same).0) refl }
are_given Choice at = λ round student place project. record { one = refl; counted = refl; typed = refl; cast = rw (cast_null, cast_int round, cast_int place) refl; put = λ r int same. rw (cast_id (rowid r) int, cast_int round, cast_int place) refl; added = λ here. refl; finds = choice_found (shape_of Choice).name at.rules.is_strict at (showing (values_of (shape_of Choice))) round student place (Words project ∷ []); set = λ r int same. refl }
are_given Placement at = λ student round project rank. record { one = refl; counted = refl; typed = refl; cast = rw (cast_null, cast_int round, cast_int rank) refl; put = λ r int same. rw (cast_id (rowid r) int, cast_int round, cast_int rank) refl; added = λ here. refl; finds = λ r. refl; set = λ r int same. refl }

-- and accepted
are_seen : (table : Table) (schema : Schema) (place : Place) → IsFirst schema (table_at table place) → IsAccepted schema place.tree [] (map (λ (o : Output). o.term) (outs_of (shape_of table))) []
unfolding everything listing_schema first_key
are_seen Edition schema place first = rw (first.low, first.first) refl
are_seen _ schema place first = rw (first.low, first.first) refl

-- what the tests of a change find is accepted
are_set : (table : Table) (is_strict : Bool) → AreAccepted table 0 (keyed table) (showing (values_of (shape_of table))) (kinds_of table) is_strict
unfolding everything listing_schema first_key
are_set Edition is_strict schema place is first = (rw (first.low, first.first) refl, λ key value. rw (first.low, first.first) refl)
are_set Round is_strict schema place is first = (rw (first.low, first.first) refl, λ key value. rw (first.low, first.first) refl)
are_set RoundAim is_strict schema place is first = (rw (first.low, first.first) refl, λ key value. rw (first.low, first.first) refl)
are_set Supervisor true schema place is first = (rw (first.low, first.first) (rw is refl), λ code label quota. rw (first.low, first.first) (rw is refl))
are_set Supervisor false schema place is first = (rw (first.low, first.first) (rw is refl), λ code label quota. rw (first.low, first.first) (rw is refl))
are_set Student true schema place is first = (rw (first.low, first.first) (rw is refl), λ code label. rw (first.low, first.first) (rw is refl))
are_set Student false schema place is first = (rw (first.low, first.first) (rw is refl), λ code label. rw (first.low, first.first) (rw is refl))
are_set _ true schema place is first = (rw (first.low, first.first) (rw is refl), λ a b c d. rw (first.low, first.first) (rw is refl))
are_set _ false schema place is first = (rw (first.low, first.first) (rw is refl), λ a b c d. rw (first.low, first.first) (rw is refl))

-- so is what those of a key find
are_keyed : (table : Table) (is_strict : Bool) → AreAccepted table 0 (keyed table) (col 1 0 ∷ []) (shared_kinds (Key table)) is_strict
unfolding everything listing_schema first_key
are_keyed Edition is_strict schema place is first = (rw (first.low, first.first) refl, λ key. rw (first.low, first.first) refl)
are_keyed Round is_strict schema place is first = (rw (first.low, first.first) refl, λ key. rw (first.low, first.first) refl)
are_keyed RoundAim is_strict schema place is first = (rw (first.low, first.first) refl, λ key. rw (first.low, first.first) refl)
are_keyed OldChoice true schema place is first = (rw (first.low, first.first) (rw is refl), λ round student at. rw (first.low, first.first) (rw is refl))
are_keyed OldChoice false schema place is first = (rw (first.low, first.first) (rw is refl), λ round student at. rw (first.low, first.first) (rw is refl))
are_keyed Choice true schema place is first = (rw (first.low, first.first) (rw is refl), λ round student at. rw (first.low, first.first) (rw is refl))
are_keyed Choice false schema place is first = (rw (first.low, first.first) (rw is refl), λ round student at. rw (first.low, first.first) (rw is refl))
are_keyed _ true schema place is first = (rw (first.low, first.first) (rw is refl), λ key. rw (first.low, first.first) (rw is refl))
are_keyed _ false schema place is first = (rw (first.low, first.first) (rw is refl), λ key. rw (first.low, first.first) (rw is refl))

-- those of a list, and those of a round's placements
list_keyed : (is_strict : Bool) → AreAccepted Choice 0 2 (col 1 0 ∷ []) (shared_kinds OfList) is_strict
unfolding everything listing_schema first_key
list_keyed true schema place is first = (rw (first.low, first.first) (rw is refl), λ round student. rw (first.low, first.first) (rw is refl))
list_keyed false schema place is first = (rw (first.low, first.first) (rw is refl), λ round student. rw (first.low, first.first) (rw is refl))

placed_keyed : (is_strict : Bool) → AreAccepted Placement 1 1 (col 1 0 ∷ []) (shared_kinds Placed) is_strict
unfolding everything listing_schema first_key
placed_keyed true schema place is first = (rw (first.low, first.first) (rw is refl), λ round. rw (first.low, first.first) (rw is refl))
placed_keyed false schema place is first = (rw (first.low, first.first) (rw is refl), λ round. rw (first.low, first.first) (rw is refl))

-- and a key has as many columns as its text has parameters
are_counted : (table : Table) → Each (shared_kinds (Key table)) (λ key. length key ≡ length (read_as (sql_of table).delete (delete_of (shape_of table) 0 (keyed table)) (keyed table)).names)
are_counted OldChoice = λ round student at. refl
are_counted Choice = λ round student at. refl
are_counted _ = λ key. refl

-- what every table gives
pub texts : (table : Table) → Texts table
texts table = record { read = are_read table; tested = are_tested table; typed = are_set table; all = are_shown table; seen = are_seen table; rows = are_given table }

-- and what is true of the text that makes it
pub are_makable : (table : Table) → IsMakable table
unfolding everything listing_schema first_key fits_kind is_free_name same_name begins value_cmp lib.Ieee.is_nan lib.Ieee.lt
are_makable Edition = record { own = refl; formed = refl; fit = refl; reals = refl; all_reals = refl; short = refl; name = refl; text = refl }
are_makable _ = record { own = refl; formed = refl; fit = refl; reals = refl; all_reals = refl; short = refl; name = refl; text = refl }

-- and what the text gives that takes a group of rows away
pub group_text : (group : Group) → let s = shared_by group in Removal s.0 (removal group) s.1 (shared_kinds group)
unfolding everything listing_schema first_key
group_text (Key table) = record { count = keyed table; read = (are_read table).delete; tested = λ is_strict schema at tree bare checks there. (are_tested table is_strict schema at tree bare checks there).removal; counted = are_counted table; typed = are_keyed table; keys = are_found table }
group_text OfList = record { count = 2; read = refl; tested = λ is_strict. either (Anywhere Choice (λ schema at place. Removes Choice schema at place 0 2)) is_strict (λ schema at tree bare checks there. rw there (rw there (rw there refl))) (λ schema at tree bare checks there. rw there (rw there (rw there refl))); counted = λ round student. refl; typed = list_keyed; keys = λ at. list_found at.rules.is_strict at }
group_text Placed = record { count = 1; read = refl; tested = λ is_strict. either (Anywhere Placement (λ schema at place. Removes Placement schema at place 1 1)) is_strict (λ schema at tree bare checks there. rw there (rw there (rw there refl))) (λ schema at tree bare checks there. rw there (rw there (rw there refl))); counted = λ round. refl; typed = placed_keyed; keys = λ at. placed_found at.rules.is_strict at }
