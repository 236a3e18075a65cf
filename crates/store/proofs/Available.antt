-- No change of a valid request is refused by tables of ours.
use Rattle.std.specs.Ordering.{is_eq}
use Rattle.std.proofs.lemmas.Cmp.{tied_itself}
use lib.ListN.{length-map}
use Rattle.sqlite.specs.Edit.{id_in, is_taken, next_rowid, with_rowid}
use Rattle.sqlite.specs.Rowids.TheVariants.{Chosen}
use Rattle.sqlite_value.specs.Order.{column}
use Rattle.sqlite_value.specs.Keys.{plain}
use Rattle.sqlite_value.specs.declared.keys.Collation.TheVariants.{Binary}
use Rattle.sqlite_trees.specs.View.{is_int}
use Rattle.sqlite_sql.specs.Ops.{fits_i64}
use Rattle.sqlite_rules.proofs.KeyLemmas.{agree_back}
use Rattle.sqlite_rules.proofs.ProbeLemmas.{has_mapped}
use Rattle.store.proofs.Common.{drop-map, filter_same, ◌≡◌, ◌⊎◌, inl, inr, ℕ, ℤ, pos, zero, suc, ◌≤◌, ◌<◌, ◌^◌, ◌+◌, List, [], ◌∷◌, not, codes, drop, filter, length, map, slice_get, None, Some, Bool, true, refl, sym, ap, subst, ◌∙◌, arith, if◌then◌else◌, AllByRecursion, list_any, IsPermutation, and_from, false_from_ne_true, not-true, IsPermutation-sym, length_permutation, Values, value_cmp, AnyTable, has_rowid, rowid, without_rowid, Database, IsDatabase, Null, Int, Words, Blob, value_cmp_total, agree, equal, passes_checks, Has, all_has, has_got, has_filtered, has_kept, some_has, IsPermutation-filter, filter-map, Cell, Text, Number, Bytes, Table, Edition, Supervisor, Project, Student, Round, Import, RoundAim, Choice, Placement, Change, Add, Put, Remove, AllRows, Cells, IsRow, RowOf, begins, key_in, same_table, shared_by, AreFresh, IsFresh, after_change, table_of, flag, ImportKind, Supervisors, Projects, Students, OfLists, word_of, InPlace, New, CanFind, IsMade, IsRefusedIn, OfEntry, adding, changing, replacing, each_of, leaving, IsGiven, IsLow, IsNumber, are_of, kinds_of, second_so, fits, free, inert_here, is_first_of, stays_entered, stays_left, Lists, cells, laid_out, made_here, shape_of, table_at, begins_with, rowid_is, IsHinderedAmong, applying, IsLeftAlone, Needs, TablesHold, ◌&&◌, false}
use Rattle.schema.specs.declared.cell.Kind.{Kind}
use Rattle.schema.specs.declared.cell.Kind.TheVariants.{Number as OfNumber}
use Rattle.schema.specs.declared.row.Group.{Group}
use Rattle.schema.specs.declared.row.Group.TheVariants.{List as OfList, Placed}
use Rattle.office.specs.changes.Allowed.{AreAllowed, IsAllowedChange, IsKnown, IsPut, IsShort, IsWithin}
use Rattle.sql_tables.specs.declared.statements.Entering.{Entering}
use Rattle.sql_tables.specs.Ours.{HasRoom, IsOurs}
use Rattle.sql_tables.proofs.References.{IsParent, links_of}
use Rattle.sql_tables.proofs.Rowids.{none_has, permuted_has}
use Rattle.sql_tables.proofs.Sized.{IsSmall}
use Rattle.sql_tables.proofs.Stored.{AgreesAt, IsTyped, aim_checked, aim_typed, choice_agrees, choice_checked, choice_typed, equal_ids, import_agrees, import_checked, import_typed, names_at, placement_agrees, placement_checked, placement_typed, project_agrees, project_checked, project_typed, round_agrees, round_begins, round_checked, aim_begins, second_agrees, round_typed, student_agrees, student_checked, student_typed, supervisor_agrees, supervisor_checked, supervisor_typed}
use Rattle.sql_tables.proofs.Taken.{IsGood, IsUnshared, in_place, none_goes, one_more, some_go, stored}
use Rattle.store.specs.Inside.Saving.{AppliesOne}
use Rattle.store.proofs.Held.{applies_one}
use Rattle.store.specs.Available.{LeavesRoom}
use Rattle.store.specs.Laws.{TakesChanges}
use Rattle.store.specs.Rows.{IsAmong, IsRollTable, value_of, values}
use Rattle.store.proofs.Among.{in_rolls, part_in_rolls, row_in_rolls}
use Rattle.store.proofs.Begins.{begins_same}
use Rattle.store.proofs.ListedTables.{has_mapped as mapped}

-- short cells are small values
small_values : (row : Cells) → AllByRecursion IsShort row → AllByRecursion IsSmall (values row)
small_values [] short = tt
small_values (Text text ∷ row) short = (short.0, small_values row short.1)
small_values (Number n ∷ row) short = (tt, small_values row short.1)
small_values (Bytes bytes ∷ row) short = (short.0, small_values row short.1)

numbers_are : (a b : ℕ) (xs ys : Cells) → Number a ∷ xs ≡ Number b ∷ ys → pos a ≡ pos b
numbers_are a b xs ys h = let one : Number a ≡ Number b = cc in let same : a ≡ b = cc in ap pos same

pub parent_roll : (table : Table) → IsParent table → IsRollTable table
unfolding IsAmong
parent_roll Supervisor is = inl refl
parent_roll Project is = inr (inl refl)
parent_roll Student is = inr (inr (inl refl))
parent_roll Round is = inr (inr (inr (inl refl)))
parent_roll _ is = absurd is

module _ (db : Database) (sound : IsDatabase db) (ours : IsOurs db) (room : HasRoom 1 db) (rows : AllRows) (t : TablesHold db rows) where
  abbrev tree : Table → ℕ
  tree table = (t.places table).tree

  there_at : (table : Table) (among : IsRollTable table) → Has db.schema.tables (table_at table (t.places table))
  there_at table among = let l = (t.rolls table among).listed in has_got db.schema.tables l.at (table_at table (t.places table)) l.there

  is_made : (table : Table) (among : IsRollTable table) → table_at table (t.places table) ≡ made_here table (tree table)
  is_made table among = ours.made table (t.places table) (there_at table among)

  listed : (table : Table) → IsRollTable table → Lists db.schema (made_here table (tree table))
  listed table among = subst (Lists db.schema) (is_made table among) (t.rolls table among).listed

  parents : (table : Table) → IsParent table → Lists db.schema (made_here table (tree table))
  parents table is = listed table (parent_roll table is)

  -- the rows in the tree show these cells
  holds : (table : Table) → IsRollTable table → IsPermutation (map values (rows table)) (map (cells (made_here table (tree table))) (db.trees (tree table)))
  holds table among = subst (λ t. IsPermutation (map values (rows table)) (map (cells t) (db.trees (tree table)))) (is_made table among) (t.rolls table among).holds

  -- a row that is named is there
  known : (table : Table) (among : IsRollTable table) (key : Cell) → IsKnown rows table key → (p : Values) × Has (db.trees (tree table)) p × (begins_with (value_of key ∷ []) (cells (made_here table (tree table)) p) ≡ true)
  known table among key is =
      let row = some_has (begins (key ∷ [])) (rows table) is in
      let shown = permuted_has _ _ (IsPermutation-sym _ _ (holds table among)) (values row.0) (mapped values (rows table) row.0 row.1) in
      let p = has_mapped (cells (made_here table (tree table))) (db.trees (tree table)) (values row.0) shown in
      (p.0, p.1, ap (begins_with (value_of key ∷ [])) (sym p.2) ∙ begins_same (key ∷ []) row.0 ∙ row.2)

  -- a row in the tree shows one of these
  shows_one : (table : Table) (among : IsRollTable table) (r : Values) → Has (db.trees (tree table)) r → (row : Cells) × Has (rows table) row × (cells (made_here table (tree table)) r ≡ values row)
  shows_one table among r there =
      has_mapped values (rows table) (cells (made_here table (tree table)) r) (permuted_has _ _ (holds table among) (cells (made_here table (tree table)) r) (mapped (cells (made_here table (tree table))) (db.trees (tree table)) r there))

  -- where no row begins with the key, none in the tree does
  absent : (table : Table) (among : IsRollTable table) (key : Cells) → list_any (begins key) (rows table) ≡ false → (r : Values) → Has (db.trees (tree table)) r → begins_with (values key) (cells (made_here table (tree table)) r) ≡ false
  absent table among key none r there =
      let row = shows_one table among r there in
      ap (begins_with (values key)) row.2 ∙ begins_same key row.0 ∙ none_has (begins key) (rows table) row.0 none row.1

  -- rows that are named, by the columns of a row that is stored
  named : (parent : Table) (is : IsParent parent) (key : Cell) (new : Values) (column_at : ℕ) → IsKnown rows parent key → column new column_at ≡ value_of key
      → (p : Values) × Has (db.trees (tree parent)) p × (agree plain (shape_of parent).primary p (column_at ∷ []) new ≡ true)
  named parent is key new column_at there same =
      let p = known parent (parent_roll parent is) key there in
      (p.0, p.1, names_at parent is (tree parent) p.0 new column_at ∙ ap (λ v. begins_with (v ∷ []) (cells (made_here parent (tree parent)) p.0)) same ∙ p.2)

  -- what is asked of a row that comes
  abbrev Good : Table → Cells → ℤ → Type 0
  Good table row id = (among : IsRollTable table) → IsGood db sound ours tree parents table (listed table among) (values row) id

  abbrev NamedBy : Table → Cells → ℤ → ℕ × Table → Type 0
  NamedBy table row id l = (p : Values) × Has (db.trees (tree l.1)) p × (agree plain (shape_of l.1).primary p (l.0 ∷ []) (stored table id (values row)) ≡ true)

  good_of : (table : Table) (row : Cells) (id : ℤ) → IsTyped table (values row) → passes_checks (made_here table (tree table)) (stored table id (values row)) ≡ true → 1 ≤ length (values row) → length (values row) ≤ 4
      → AllByRecursion (NamedBy table row id) (links_of table) → AllByRecursion IsShort row → fits_i64 id ≡ true → Good table row id
  good_of table row id typed checked some few names short fits among = record {
    typed = (typed (tree table) id).0;
    present = (typed (tree table) id).1;
    checked = checked;
    small = small_values row short;
    some = some;
    few = few;
    names = names;
    fits = fits;
  }

  word_is : (kind : ImportKind) → (word_of kind ≡ codes "supervisors") ⊎ ((word_of kind ≡ codes "projects") ⊎ ((word_of kind ≡ codes "students") ⊎ (word_of kind ≡ codes "lists")))
  word_is Supervisors = inl refl
  word_is Projects = inr (inl refl)
  word_is Students = inr (inr (inl refl))
  word_is OfLists = inr (inr (inr refl))

  -- the rowid of a row whose key is its rowid
  abbrev HasId : Table → Cells → ℤ → Type 0
  HasId Round row id = (n : ℕ) (more : Cells) → row ≡ Number n ∷ more → id ≡ pos n
  HasId RoundAim row id = (n : ℕ) (more : Cells) → row ≡ Number n ∷ more → id ≡ pos n
  HasId _ row id = Unit {0}

  -- a row that its table takes is good
  good : (table : Table) (row : Cells) (id : ℤ) → IsWithin rows table row → AllByRecursion IsShort row → HasId table row id → fits_i64 id ≡ true → Good table row id
  good Supervisor row id (code, label, quota, is, few) short at fits =
      let it : Cells = Text code ∷ Text label ∷ Number quota ∷ [] in
      subst (λ row. AllByRecursion IsShort row → Good Supervisor row id) (sym is)
      (λ short. good_of Supervisor it id (supervisor_typed code label (pos quota)) (supervisor_checked (tree Supervisor) id code label quota few) (omega arith) (omega arith) tt short fits) short
  good Project row id (code, label, supervisor, quota, is, few, there) short at fits =
      let it : Cells = Text code ∷ Text label ∷ Text supervisor ∷ Number quota ∷ [] in
      subst (λ row. AllByRecursion IsShort row → Good Project row id) (sym is)
      (λ short. good_of Project it id (project_typed code label supervisor (pos quota)) (project_checked (tree Project) id code label supervisor quota few) (omega arith) (omega arith)
      (named Supervisor tt (Text supervisor) (stored Project id (values it)) 3 there refl, tt) short fits) short
  good Student row id (code, label, is) short at fits =
      let it : Cells = Text code ∷ Text label ∷ [] in
      subst (λ row. AllByRecursion IsShort row → Good Student row id) (sym is)
      (λ short. good_of Student it id (student_typed code label) (student_checked (tree Student) id code label) (omega arith) (omega arith) tt short fits) short
  good Round row id (number, is_open, is, low) short at fits =
      let it : Cells = Number number ∷ flag is_open ∷ [] in
      subst (λ row. AllByRecursion IsShort row → Good Round row id) (sym is)
      (λ short. good_of Round it id (round_typed (pos number) (pos (if is_open then 1 else 0))) (round_checked (tree Round) id (pos number) is_open) (omega arith) (omega arith) tt short fits) short
  good RoundAim row id (round, generous, is, low, there) short at fits =
      let it : Cells = Number round ∷ flag generous ∷ [] in
      subst (λ row. AllByRecursion IsShort row → Good RoundAim row id) (sym is)
      (λ short. good_of RoundAim it id (aim_typed (pos round) (pos (if generous then 1 else 0))) (aim_checked (tree RoundAim) id (pos round) generous) (omega arith) (omega arith)
      (named Round tt (Number round) (stored RoundAim id (values it)) 0 there (ap Int (at round (flag generous ∷ []) is)), tt) short fits) short
  good Import row id (name, kind, bytes, count, is) short at fits =
      let it : Cells = Text name ∷ Text (word_of kind) ∷ Bytes bytes ∷ Number count ∷ [] in
      subst (λ row. AllByRecursion IsShort row → Good Import row id) (sym is)
      (λ short. good_of Import it id (import_typed name (word_of kind) bytes (pos count)) (import_checked (tree Import) id name (word_of kind) bytes (pos count) (word_is kind)) (omega arith) (omega arith) tt short fits) short
  good Choice row id (round, student, place, project, is, some, few, of_round, of_student, of_project, other) short at fits =
      let it : Cells = Number round ∷ Text student ∷ Number place ∷ Text project ∷ [] in
      subst (λ row. AllByRecursion IsShort row → Good Choice row id) (sym is)
      (λ short. good_of Choice it id (choice_typed (pos round) student (pos place) project) (choice_checked (tree Choice) id (pos round) student place project some few) (omega arith) (omega arith)
      (named Round tt (Number round) (stored Choice id (values it)) 1 of_round refl, (named Student tt (Text student) (stored Choice id (values it)) 2 of_student refl, (named Project tt (Text project) (stored Choice id (values it)) 4 of_project refl, tt))) short fits) short
  good Placement row id (student, round, project, rank, is, some, few, of_student, of_round, of_project) short at fits =
      let it : Cells = Text student ∷ Number round ∷ Text project ∷ Number rank ∷ [] in
      subst (λ row. AllByRecursion IsShort row → Good Placement row id) (sym is)
      (λ short. good_of Placement it id (placement_typed student (pos round) project (pos rank)) (placement_checked (tree Placement) id student (pos round) project rank some few) (omega arith) (omega arith)
      (named Student tt (Text student) (stored Placement id (values it)) 1 of_student refl, (named Round tt (Number round) (stored Placement id (values it)) 2 of_round refl, (named Project tt (Text project) (stored Placement id (values it)) 3 of_project refl, tt))) short fits) short
  good _ row id within short at fits = absurd within

  -- ---- keys

  -- none of these rows shares a key of one column
  text_apart : (table : Table) (given : Values) (key : Values) (id : ℤ) (these : List Values) → (shape_of table).uniques ≡ (shape_of table).primary ∷ [] → AgreesAt table given key
      → ((r : Values) → Has these r → begins_with key (cells (made_here table (tree table)) r) ≡ false) → IsUnshared table these (stored table id given)
  text_apart table given key id these one agrees none at k is r there = go at (subst (λ u. slice_get u at ≡ Some k) one is)
    where
      go : (at : ℕ) → slice_get ((shape_of table).primary ∷ []) at ≡ Some k → agree plain k r k (stored table id given) ≡ false
      go zero h = let same : (shape_of table).primary ≡ k = cc in subst (λ k. agree plain k r k (stored table id given) ≡ false) same (agrees (tree table) id r ∙ none r there)
      go (suc at) h = absurd (cc)

  -- where none of these begins with its key a row shares none with them
  unshared : (table : Table) (row : Cells) (these : List Values) → IsWithin rows table row → ((r : Values) → Has these r → Has (db.trees (tree table)) r) → (among : IsRollTable table) (id : ℤ)
      → ((r : Values) → Has these r → begins_with (values (key_in table row)) (cells (made_here table (tree table)) r) ≡ false) → IsUnshared table these (stored table id (values row))
  unshared Supervisor row these (code, label, quota, is, within) part among id none = subst (λ row. ((r : Values) → Has these r → begins_with (values (key_in Supervisor row)) (cells (made_here Supervisor (tree Supervisor)) r) ≡ false) → IsUnshared Supervisor these (stored Supervisor id (values row))) (sym is)
      (text_apart Supervisor (Words code ∷ Words label ∷ Int (pos quota) ∷ []) (Words code ∷ []) id these refl (supervisor_agrees code label (pos quota))) none
  unshared Project row these (code, label, supervisor, quota, is, few, named_so) part among id none = subst (λ row. ((r : Values) → Has these r → begins_with (values (key_in Project row)) (cells (made_here Project (tree Project)) r) ≡ false) → IsUnshared Project these (stored Project id (values row))) (sym is)
      (text_apart Project (Words code ∷ Words label ∷ Words supervisor ∷ Int (pos quota) ∷ []) (Words code ∷ []) id these refl (project_agrees code label supervisor (pos quota))) none
  unshared Student row these (code, label, is) part among id none = subst (λ row. ((r : Values) → Has these r → begins_with (values (key_in Student row)) (cells (made_here Student (tree Student)) r) ≡ false) → IsUnshared Student these (stored Student id (values row))) (sym is)
      (text_apart Student (Words code ∷ Words label ∷ []) (Words code ∷ []) id these refl (student_agrees code label)) none
  unshared Round row these within part among id none = λ at k is. absurd (cc)
  unshared RoundAim row these within part among id none = λ at k is. absurd (cc)
  unshared Import row these (name, kind, bytes, count, is) part among id none = subst (λ row. ((r : Values) → Has these r → begins_with (values (key_in Import row)) (cells (made_here Import (tree Import)) r) ≡ false) → IsUnshared Import these (stored Import id (values row))) (sym is)
      (text_apart Import (Words name ∷ Words (word_of kind) ∷ Blob bytes ∷ Int (pos count) ∷ []) (Words name ∷ []) id these refl (import_agrees name (word_of kind) bytes (pos count))) none
  unshared Placement row these (student, round, project, rank, is, some, few, of_student, of_round, of_project) part among id none = subst (λ row. ((r : Values) → Has these r → begins_with (values (key_in Placement row)) (cells (made_here Placement (tree Placement)) r) ≡ false) → IsUnshared Placement these (stored Placement id (values row))) (sym is)
      (text_apart Placement (Words student ∷ Int (pos round) ∷ Words project ∷ Int (pos rank) ∷ []) (Words student ∷ []) id these refl (placement_agrees student (pos round) project (pos rank))) none
  unshared Choice row these (round, student, place, project, is, some, few, of_round, of_student, of_project, other) part among id none = subst (λ row. ((r : Values) → Has these r → begins_with (values (key_in Choice row)) (cells (made_here Choice (tree Choice)) r) ≡ false) → IsUnshared Choice these (stored Choice id (values row))) (sym is)
      apart none
    where
      not_chosen : (r : Values) → Has these r → agree plain (1 ∷ 2 ∷ 4 ∷ []) r (1 ∷ 2 ∷ 4 ∷ []) (stored Choice id (Int (pos round) ∷ Words student ∷ Int (pos place) ∷ Words project ∷ [])) ≡ true → ⊥
      not_chosen r there agrees =
          let parts = second_agrees (pos round) student (pos place) project (tree Choice) id r agrees in
          let c = shows_one Choice among r (part r there) in
          let start = sym (begins_same (Number round ∷ Text student ∷ []) c.0) ∙ ap (begins_with (Int (pos round) ∷ Words student ∷ [])) (sym c.2) ∙ parts.0 in
          let rest = sym (begins_same (Text project ∷ []) (drop 3 c.0)) ∙ ap (begins_with (Words project ∷ [])) (sym (drop-map value_of 3 c.0) ∙ ap (drop 3) (sym c.2)) ∙ parts.1 in
          let bad = sym (none_has (λ row. begins (Number round ∷ Text student ∷ []) row && begins (Text project ∷ []) (drop 3 row)) (rows Choice) c.0 other c.1) ∙ and_from _ _ start rest in
          cc

      apart : ((r : Values) → Has these r → begins_with (Int (pos round) ∷ Words student ∷ Int (pos place) ∷ []) (cells (made_here Choice (tree Choice)) r) ≡ false)
          → IsUnshared Choice these (stored Choice id (Int (pos round) ∷ Words student ∷ Int (pos place) ∷ Words project ∷ []))
      apart none zero k is r there = let one : 1 ∷ 2 ∷ 3 ∷ [] ≡ k = cc in subst (λ k. agree plain k r k (stored Choice id (Int (pos round) ∷ Words student ∷ Int (pos place) ∷ Words project ∷ [])) ≡ false) one (choice_agrees (pos round) student (pos place) project (tree Choice) id r ∙ none r there)
      apart none (suc zero) k is r there = let one : 1 ∷ 2 ∷ 4 ∷ [] ≡ k = cc in subst (λ k. agree plain k r k (stored Choice id (Int (pos round) ∷ Words student ∷ Int (pos place) ∷ Words project ∷ [])) ≡ false) one (false_from_ne_true (agree plain (1 ∷ 2 ∷ 4 ∷ []) r (1 ∷ 2 ∷ 4 ∷ []) (stored Choice id (Int (pos round) ∷ Words student ∷ Int (pos place) ∷ Words project ∷ []))) (not_chosen r there))
      apart none (suc (suc at)) k is r there = absurd (cc)
  unshared _ row these within part among id none = absurd within

  -- ---- changes

  fits_one : (n : ℕ) → n < 2 ^ 63 → fits_i64 (pos n) ≡ true
  fits_one n low = grind (arith, low)

  -- a row that comes, as it is stored
  one_comes : (table : Table) (row : Cells) (id : ℤ) (among : IsRollTable table) → IsWithin rows table row → AllByRecursion IsShort row → HasId table row id → fits_i64 id ≡ true
      → is_taken (db.trees (tree table)) (stored table id (values row)) ≡ false → list_any (begins (key_in table row)) (rows table) ≡ false
      → IsRefusedIn db (record { table = made_here table (tree table); gone = []; news = stored table id (values row) ∷ [] }) → ⊥
  one_comes table row id among within short at fits is_free fresh refused =
      one_more db sound ours tree parents table (listed table among) (values row) id (good table row id within short at fits among) is_free
      (unshared table row (db.trees (tree table)) within (λ r there. there) among id (absent table among (key_in table row) fresh)) refused

  -- no row has the rowid of one that is new
  number_free : (table : Table) (among : IsRollTable table) (n : ℕ) → ((r : Values) → begins_with (Int (pos n) ∷ []) (cells (made_here table (tree table)) r) ≡ equal Binary (rowid r) (Int (pos n)))
      → ((r : Values) → Has (db.trees (tree table)) r → begins_with (Int (pos n) ∷ []) (cells (made_here table (tree table)) r) ≡ false) → (more : Values) → is_taken (db.trees (tree table)) (Int (pos n) ∷ more) ≡ false
  number_free table among n form none more = false_from_ne_true _ (λ taken.
      let it = some_has (λ r. is_eq (value_cmp (rowid r) (Int (pos n)))) (db.trees (tree table)) taken in
      let m = all_has _ (db.trees (tree table)) it.0 (ours.numbered table (t.places table) (there_at table among)) it.1 in
      let same = subst (λ v. equal Binary v (Int (pos n)) ≡ true) (sym m.1) (equal_ids (pos m.0) (pos n) (subst (λ v. is_eq (value_cmp v (Int (pos n))) ≡ true) m.1 it.2)) in
      let bad = sym (none it.0 it.1) ∙ form it.0 ∙ same in
      cc)

  -- a row whose rowid is chosen
  chosen_comes : (table : Table) (row : Cells) (among : IsRollTable table) → (shape_of table).key ≡ None → ((id : ℤ) → HasId table row id) → IsWithin rows table row → AllByRecursion IsShort row
      → list_any (begins (key_in table row)) (rows table) ≡ false → IsRefusedIn db (adding (made_here table (tree table)) (values row) db.trees) → ⊥
  chosen_comes table row among none at within short fresh refused =
      let here = db.trees (tree table) in
      let place = t.places table in
      let there = (t.rolls table among).listed in
      let untaken = (free db ours table place there (values row)).0 in
      let stores : stored table (next_rowid here) (values row) ≡ Int (next_rowid here) ∷ values row = ap (λ k. Int (next_rowid here) ∷ drop 1 (laid_out Null k (values row))) none in
      one_comes table row (next_rowid here) among within short (at (next_rowid here)) (fits db ours table place there room (values row)) (subst (λ r. is_taken here r ≡ false) (sym stores) untaken) fresh
      (subst (λ r. IsRefusedIn db (record { table = made_here table (tree table); gone = []; news = r ∷ [] })) (sym stores)
      (subst (λ k. IsRefusedIn db (record { table = made_here table (tree table); gone = []; news = with_rowid Chosen here (laid_out Null k (values row)) ∷ [] })) none refused))

  -- a row that comes into a table of ours is not refused
  comes : (table : Table) (row : Cells) (among : IsRollTable table) → IsWithin rows table row → AllByRecursion IsShort row → list_any (begins (key_in table row)) (rows table) ≡ false
      → IsRefusedIn db (adding (made_here table (tree table)) (values row) db.trees) → ⊥
  comes Supervisor row among within short fresh refused = chosen_comes Supervisor row among refl (λ id. tt) within short fresh refused
  comes Project row among within short fresh refused = chosen_comes Project row among refl (λ id. tt) within short fresh refused
  comes Student row among within short fresh refused = chosen_comes Student row among refl (λ id. tt) within short fresh refused
  comes Import row among within short fresh refused = chosen_comes Import row among refl (λ id. tt) within short fresh refused
  comes Choice row among within short fresh refused = chosen_comes Choice row among refl (λ id. tt) within short fresh refused
  comes Placement row among within short fresh refused = chosen_comes Placement row among refl (λ id. tt) within short fresh refused
  comes Round row among (number, is_open, is, low) short fresh refused =
      let it : Cells = Number number ∷ flag is_open ∷ [] in
      let more = drop 1 (laid_out Null (shape_of Round).key (values it)) in
      subst (λ row. IsWithin rows Round row → AllByRecursion IsShort row → list_any (begins (key_in Round row)) (rows Round) ≡ false → IsRefusedIn db (adding (made_here Round (tree Round)) (values row) db.trees) → ⊥) (sym is)
      (λ w s f. one_comes Round it (pos number) among w s (λ n rest same. numbers_are number n (flag is_open ∷ []) rest same) (fits_one number (omega (arith, low)))
      (number_free Round among number (λ r. round_begins (pos number) (tree Round) r) (absent Round among (Number number ∷ []) f) more) f) (number, is_open, is, low) short fresh refused
  comes RoundAim row among (round, generous, is, low, there) short fresh refused =
      let it : Cells = Number round ∷ flag generous ∷ [] in
      let more = drop 1 (laid_out Null (shape_of RoundAim).key (values it)) in
      subst (λ row. IsWithin rows RoundAim row → AllByRecursion IsShort row → list_any (begins (key_in RoundAim row)) (rows RoundAim) ≡ false → IsRefusedIn db (adding (made_here RoundAim (tree RoundAim)) (values row) db.trees) → ⊥) (sym is)
      (λ w s f. one_comes RoundAim it (pos round) among w s (λ n rest same. numbers_are round n (flag generous ∷ []) rest same) (fits_one round (omega (arith, low)))
      (number_free RoundAim among round (λ r. aim_begins (pos round) (tree RoundAim) r) (absent RoundAim among (Number round ∷ []) f) more) f) (round, generous, is, low, there) short fresh refused
  comes _ row among within short fresh refused = absurd within

  -- rows with a key, of which there is one at most
  few_found : (table : Table) (among : IsRollTable table) (key : Cells) (found : List Values) → IsPermutation (filter (λ r. begins_with (values key) (cells (made_here table (tree table)) r)) (db.trees (tree table))) found
      → length (filter (begins key) (rows table)) ≤ 1 → length found ≤ 1
  few_found table among key found same few =
      let c = cells (made_here table (tree table)) in
      let here = db.trees (tree table) in
      let all = IsPermutation-filter (begins_with (values key)) _ _ (holds table among) in
      let counted : length (filter (begins_with (values key)) (map values (rows table))) ≡ length (filter (begins key) (rows table)) =
      ap length (filter-map (begins_with (values key)) values (rows table)) ∙ length-map _ values ∙ ap length (filter_same _ _ (λ row. begins_same key row) (rows table)) in
      let shown : length (filter (begins_with (values key)) (map c here)) ≡ length (filter (λ r. begins_with (values key) (c r)) here) = ap length (filter-map (begins_with (values key)) c here) ∙ length-map _ c in
      omega (arith, few, counted, shown, length_permutation _ _ all, length_permutation _ _ same)

  -- ---- a row in the place of another

  module _ (table : Table) (row : Cells) (among : IsRollTable table) (within : IsWithin rows table row) (short : AllByRecursion IsShort row) where
    abbrev here : List Values
    here = db.trees (tree table)

    abbrev mine : AnyTable
    mine = made_here table (tree table)

    abbrev test : Values → Bool
    test r = begins_with (values (key_in table row)) (cells mine r)

    -- what is the rowid of a row with this key, and that the row in its place is named as it is
    abbrev Stands_for : Type 0
    Stands_for = (old : Values) (n : ℕ) → Has here old → test old ≡ true → rowid old ≡ Int (pos n) → HasId table row (pos n) × (agree plain (shape_of table).primary (stored table (pos n) (values row)) (shape_of table).primary old ≡ true)

    module _ (able : Stands_for) where
      one_found : (old : Values) → ((r : Values) → Has here r → test r ≡ true → r ≡ old) → Has here old → test old ≡ true → IsRefusedIn db (changing mine (old ∷ []) (replacing mine (values row) old ∷ [])) → ⊥
      one_found old alone there is refused =
          let number = all_has _ here old (ours.numbered table (t.places table) (there_at table among)) there in
          let n = number.0 in
          let id = pos n in
          let may = able old n there is number.1 in
          let low = all_has _ here old (room table (t.places table) (there_at table among)) there n number.1 in
          in_place db sound ours tree parents table (listed table among) (values row) id (good table row id within short may.0 (fits_one n (omega (arith, low))) among) old there number.1 may.1
          (unshared table row (without_rowid id here) within (λ r h. (has_filtered (λ r. not (has_rowid id r)) here r h).0) among id (λ r h.
          let kept = has_filtered (λ r. not (has_rowid id r)) here r h in
          false_from_ne_true _ (λ begins.
          let same = alone r kept.0 begins in
          let bad = sym (not-true _ kept.1) ∙ ap (λ r. has_rowid id r) same ∙ ap (λ v. is_eq (value_cmp v (Int id))) number.1 ∙ ap is_eq (tied_itself value_cmp_total (Int id)) in
          cc)))
          (subst (λ v. IsRefusedIn db (record { table = mine; gone = id_in v ∷ []; news = (v ∷ drop 1 (laid_out Null mine.key (values row))) ∷ [] })) number.1 refused)

      put_found : (found : List Values) → IsPermutation (filter test here) found → length found ≤ 1 → IsRefusedIn db (changing mine found (map (replacing mine (values row)) found)) → ⊥
      put_found [] same few refused = none_goes db sound ours tree parents table (listed table among) refused
      put_found (a ∷ b ∷ more) same few refused = absurd (omega (arith, few))
      put_found (old ∷ []) same few refused =
          let there = has_filtered test here old (permuted_has _ _ same old (inl refl)) in
          one_found old (λ r h is. elim (permuted_has _ _ (IsPermutation-sym _ _ same) r (has_kept test here r h is)) [ inl one ↦ one | inr none ↦ absurd none ]) there.0 there.1 refused

  text_able : (table : Table) (row : Cells) (among : IsRollTable table) → ((id : ℤ) → HasId table row id) → AgreesAt table (values row) (values (key_in table row))
      → (old : Values) (n : ℕ) → Has (db.trees (tree table)) old → begins_with (values (key_in table row)) (cells (made_here table (tree table)) old) ≡ true → rowid old ≡ Int (pos n)
      → HasId table row (pos n) × (agree plain (shape_of table).primary (stored table (pos n) (values row)) (shape_of table).primary old ≡ true)
  text_able table row among at agrees old n there is number = (at (pos n), agree_back plain (shape_of table).primary (shape_of table).primary old (stored table (pos n) (values row)) (agrees (tree table) (pos n) old ∙ is))

  round_able : (number : ℕ) (is_open : Bool) (old : Values) (n : ℕ) → begins_with (Int (pos number) ∷ []) (cells (made_here Round (tree Round)) old) ≡ true → rowid old ≡ Int (pos n)
      → HasId Round (Number number ∷ flag is_open ∷ []) (pos n) × (agree plain (0 ∷ []) (stored Round (pos n) (values (Number number ∷ flag is_open ∷ []))) (0 ∷ []) old ≡ true)
  round_able number is_open old n is id =
      let at = rowid_is old (pos number) (ap is_int id) (sym (round_begins (pos number) (tree Round) old) ∙ is) in
      let one : Int (pos n) ≡ Int (pos number) = sym id ∙ at in
      let same : pos n ≡ pos number = cc in (
        λ m more row. same ∙ numbers_are number m (flag is_open ∷ []) more row,
        subst (λ z. agree plain (0 ∷ []) (stored Round z (values (Number number ∷ flag is_open ∷ []))) (0 ∷ []) old ≡ true) (sym same)
            (agree_back plain (0 ∷ []) (0 ∷ []) old (stored Round (pos number) (values (Number number ∷ flag is_open ∷ []))) (round_agrees (pos number) (pos (if is_open then 1 else 0)) (tree Round) old ∙ is)),
      )

  -- a row that is put into a table of ours is not refused
  put : (table : Table) (row : Cells) (among : IsRollTable table) → IsPut table → IsWithin rows table row → AllByRecursion IsShort row → length (filter (begins (key_in table row)) (rows table)) ≤ 1 → (found : List Values)
      → IsPermutation (filter (λ r. begins_with (values (key_in table row)) (cells (made_here table (tree table)) r)) (db.trees (tree table))) found
      → IsRefusedIn db (changing (made_here table (tree table)) found (map (replacing (made_here table (tree table)) (values row)) found)) → ⊥
  put table row among is within short few found same refused = put_found table row among within short (able table is row within among) found same (few_found table among (key_in table row) found same few) refused
    where
      able : (table : Table) → IsPut table → (row : Cells) → IsWithin rows table row → (among : IsRollTable table)
          → (old : Values) (n : ℕ) → Has (db.trees (tree table)) old → begins_with (values (key_in table row)) (cells (made_here table (tree table)) old) ≡ true → rowid old ≡ Int (pos n)
          → HasId table row (pos n) × (agree plain (shape_of table).primary (stored table (pos n) (values row)) (shape_of table).primary old ≡ true)
      able Supervisor is row (code, label, quota, one, more) among old n there begins number = text_able Supervisor row among (λ id. tt) (subst (λ row. AgreesAt Supervisor (values row) (values (key_in Supervisor row))) (sym one) (supervisor_agrees code label (pos quota))) old n there begins number
      able Project is row (code, label, supervisor, quota, one, few, named_so) among old n there begins number = text_able Project row among (λ id. tt) (subst (λ row. AgreesAt Project (values row) (values (key_in Project row))) (sym one) (project_agrees code label supervisor (pos quota))) old n there begins number
      able Student is row (code, label, one) among old n there begins number = text_able Student row among (λ id. tt) (subst (λ row. AgreesAt Student (values row) (values (key_in Student row))) (sym one) (student_agrees code label)) old n there begins number
      able Round is row (number, is_open, one, low) among old n there begins id = subst (λ row. begins_with (values (key_in Round row)) (cells (made_here Round (tree Round)) old) ≡ true
          → HasId Round row (pos n) × (agree plain (0 ∷ []) (stored Round (pos n) (values row)) (0 ∷ []) old ≡ true)) (sym one) (λ begins. round_able number is_open old n begins id) begins
      able _ is row within among old n there begins number = absurd is

  -- ---- a change

  roll_of : (table : Table) (row : Cells) → IsWithin rows table row → IsRollTable table
  roll_of table row within = in_rolls table (other table within)
    where
      other : (table : Table) → IsWithin rows table row → same_table table Edition ≡ false
      other Edition none = absurd none
      other _ within = refl

  -- rows of the table can be found
  can_find : (table : Table) → CanFind (table_at table) None db
  can_find table = (refl, sound, λ place there. is_first_of db ours table place there)

  -- rows that go are of a table whose rows nobody names
  some_gone : (group : Group) (key : Cells) → let table = (let s = shared_by group in s.0) in IsRollTable table → (IsParent table → ⊥)
      → (let it = leaving group key in it.hinders None db) → ⊥
  some_gone group key among unnamed hindered =
      let table = (let s = shared_by group in s.0) in
      let place = t.places table in
      let stands = t.rolls table among in
      let it = hindered (can_find table) place (map values (rows table)) (inert_here db ours table place stands.listed) stands in
      some_go db sound ours tree parents table (listed table among) unnamed (map (λ r. id_in (rowid r)) it.0) (subst (λ u. IsRefusedIn db (changing u it.0 [])) (is_made table among) it.2)

  -- no change of a valid request is refused by tables of ours
  pub change_taken : (c : Change) → IsAllowedChange rows c → IsFresh c rows → (let it = applying c in it.hinders None db) → ⊥
  change_taken (Add r) allowed fresh hindered =
      let among = roll_of r.table r.cells allowed.within in
      comes r.table r.cells among allowed.within allowed.short fresh (subst (λ u. IsRefusedIn db (adding u (values r.cells) db.trees)) (is_made r.table among) (hindered refl (t.places r.table) (t.rolls r.table among).listed))
  change_taken (Put r) allowed fresh hindered =
      let among = roll_of r.table r.cells allowed.0.within in
      let place = t.places r.table in
      let stands = t.rolls r.table among in
      let it = hindered (can_find r.table) place (map values (rows r.table)) (inert_here db ours r.table place stands.listed) stands in
      let seen = subst (λ u. IsPermutation (filter (λ s. begins_with (values (key_in r.table r.cells)) (cells u s)) (db.trees (tree r.table))) it.0) (is_made r.table among) it.1 in
      put r.table r.cells among allowed.1 allowed.0.within allowed.0.short allowed.2 it.0 seen (subst (λ u. IsRefusedIn db (changing u it.0 (map (replacing u (values r.cells)) it.0))) (is_made r.table among) it.2)
  change_taken (Remove p) allowed fresh hindered = leaves_so p.group allowed hindered
    where
      leaves_so : (group : Group) → (group ≡ OfList) ⊎ (group ≡ Placed) → (let it = leaving group p.cells in it.hinders None db) → ⊥
      leaves_so group (inl is) hindered = some_gone OfList p.cells (in_rolls Choice refl) (λ is. is) (subst (λ g. (let it = leaving g p.cells in it.hinders None db)) is hindered)
      leaves_so group (inr is) hindered = some_gone Placed p.cells (in_rolls Placement refl) (λ is. is) (subst (λ g. (let it = leaving g p.cells in it.hinders None db)) is hindered)

-- ---- changes one after another

-- the first cell of a row whose key is its rowid is a number
number_first : (kinds : List Kind) (row : Cells) → are_of (OfNumber ∷ kinds) row ≡ true → IsNumber (column (values row) 0)
number_first kinds [] are = absurd (cc)
number_first kinds (Text text ∷ row) are = absurd (cc)
number_first kinds (Number n ∷ row) are = (n, refl)
number_first kinds (Bytes bytes ∷ row) are = absurd (cc)

-- a row has a number where its rowid is the key
given_of : (table : Table) (row : Cells) → are_of (kinds_of table) row ≡ true → IsGiven (shape_of table).key (values row)
given_of Edition row are = number_first (OfNumber ∷ []) row are
given_of Round row are = number_first (OfNumber ∷ []) row are
given_of RoundAim row are = number_first (OfNumber ∷ []) row are
given_of _ row are = tt

low_number : (row : Cells) (number : ℕ) (more : Cells) → row ≡ Number number ∷ more → number < 2 ^ 32 → (n : ℕ) → column (values row) 0 ≡ Int (pos n) → n < 2 ^ 32
low_number row number more is low n same =
    let e : Int (pos number) ≡ Int (pos n) = sym (ap (λ row. column (values row) 0) is) ∙ same in
    let k : number ≡ n = cc in
    omega (arith, k, low)

-- one of 32 bits, where the table takes it
low_of : (rows : AllRows) (table : Table) (row : Cells) → IsWithin rows table row → IsLow (shape_of table).key (values row)
low_of rows Edition row within = absurd within
low_of rows Round row (number, is_open, is, low) = low_number row number _ is low
low_of rows RoundAim row (number, generous, is, low, there) = low_number row number _ is low
low_of rows _ row within = tt

pub room_for : (a b : ℕ) (db : Database) → a ≤ b → HasRoom b db → HasRoom a db
room_for a b db less room table place listed = less_each (db.trees place.tree) (room table place listed)
  where
    less_each : (here : List Values) → AllByRecursion (λ r. (n : ℕ) → rowid r ≡ Int (pos n) → n + b < 2 ^ 63) here → AllByRecursion (λ r. (n : ℕ) → rowid r ≡ Int (pos n) → n + a < 2 ^ 63) here
    less_each [] all = tt
    less_each (r ∷ here) all = ((λ n is. let low = all.0 n is in omega (arith, low, less)), less_each here all.1)

-- what a change leaves; room for as many rows but one, where it is one that the tables take
record LeavesOurs (c : Change) (rows : AllRows) (db now : Database) : Type 0 where
  pub sound : IsDatabase now
  pub ours : IsOurs now
  pub room : IsAllowedChange rows c → (count : ℕ) → count ≤ 2 ^ 62 → HasRoom (suc count) db → HasRoom count now
  pub holds : TablesHold now (after_change c rows)

module _ (db : Database) (sound : IsDatabase db) (ours : IsOurs db) (rows : AllRows) (t : TablesHold db rows) (now : Database) where
  alone : (table : Table) → IsLeftAlone table db.schema
  alone table place listed = inert_here db ours table place listed

  needs : (c : Change) → Needs c db.schema
  needs (Add r) = tt
  needs (Put r) = λ among. alone r.table
  needs (Remove p) = λ among. alone (table_of p)

  entered : (way : Entering) (r : RowOf) → IsRow r → OfEntry way (table_at r.table) (values (key_in r.table r.cells)) (values r.cells) (IsMade db now) db
      → IsDatabase now × IsOurs now × (IsWithin rows r.table r.cells → (count : ℕ) → count ≤ 2 ^ 62 → HasRoom (suc count) db → HasRoom count now)
  entered way r is made =
      let among = row_in_rolls r is in
      let stands = t.rolls r.table among in
      let given = given_of r.table r.cells (second_so (not (same_table r.table Edition)) (are_of (kinds_of r.table) r.cells) is) in
      let kept = stays_entered db ours r.table (t.places r.table) stands.listed now way (values (key_in r.table r.cells)) (values r.cells) given (map values (rows r.table)) stands made in
      (sound_entry way made, kept.0, λ within. kept.1 (low_of rows r.table r.cells within))
    where
      sound_entry : (way : Entering) → OfEntry way (table_at r.table) (values (key_in r.table r.cells)) (values r.cells) (IsMade db now) db → IsDatabase now
      sound_entry New made = let among = row_in_rolls r is in (made (t.places r.table) (t.rolls r.table among).listed).0
      sound_entry InPlace made =
          let stands = t.rolls r.table (row_in_rolls r is) in
          let it = made (t.places r.table) (map values (rows r.table)) (alone r.table (t.places r.table) stands.listed) stands in
          let done : IsMade db now (changing (table_at r.table (t.places r.table)) it.0 (map (replacing (table_at r.table (t.places r.table)) (values r.cells)) it.0)) = it.2 in
          done.0

  -- a change that was made leaves ours
  change_made : (c : Change) → (let it = applying c in it.does db now) → LeavesOurs c rows db now
  unfolding AppliesOne
  change_made (Put r) did =
      let it = entered InPlace r did.0 did.1 in
      record { sound = it.0; ours = it.1; room = λ allowed. it.2 allowed.0.within; holds = (applies_one (Put r) db now did (needs (Put r)) rows t).0 }
  change_made (Add r) did =
      let it = entered New r did.0 did.1 in
      record { sound = it.0; ours = it.1; room = λ allowed. it.2 allowed.within; holds = (applies_one (Add r) db now did (needs (Add r)) rows t).0 }
  change_made (Remove p) did =
      let table = table_of p in
      let stands = t.rolls table (part_in_rolls p did.0) in
      let kept = stays_left db now ours p.group (values p.cells) (t.places table) (map values (rows table)) stands did.1 in
      let it = did.1 (t.places table) (map values (rows table)) (alone table (t.places table) stands.listed) stands in
      let done : IsMade db now (changing (table_at table (t.places table)) it.0 []) = it.2 in
      record { sound = done.0; ours = kept.0; room = λ allowed count few room. room_for count (suc count) now (omega arith) (kept.1 (suc count) room); holds = (applies_one (Remove p) db now did (needs (Remove p)) rows t).0 }

-- so no change of several is refused
pub run_taken : (changes : List Change) (rows : AllRows) (db : Database) → IsDatabase db → IsOurs db → length changes ≤ 2 ^ 20 → HasRoom (length changes) db → TablesHold db rows → AreAllowed changes rows → AreFresh changes rows
    → IsHinderedAmong changes None db → ⊥
run_taken [] rows db sound ours few room t allowed fresh hindered = hindered
run_taken (c ∷ cs) rows db sound ours few room t allowed fresh (inl hindered) =
    change_taken db sound ours (room_for 1 (suc (length cs)) db (omega arith) room) rows t c allowed.0 fresh.0 hindered
run_taken (c ∷ cs) rows db sound ours few room t allowed fresh (inr (mid, did, hindered)) =
    let left = change_made db sound ours rows t mid c did in
    run_taken cs (after_change c rows) mid left.sound left.ours (omega (arith, few)) (left.room allowed.0 (length cs) (omega (arith, few)) room) left.holds allowed.1 fresh.1 hindered

pub takes_changes : TakesChanges
takes_changes changes rows db sound ready t few fresh = run_taken changes rows db sound ready.0 few.1 (room_for _ _ db few.1 ready.1) t few.0 fresh

-- and all of them leave ours, and room for all rows but theirs
pub run_ours : (changes : List Change) (rows : AllRows) (db now : Database) → IsDatabase db → IsOurs db → TablesHold db rows → (let all = each_of applying changes in all.does db now)
    → IsOurs now × (AreAllowed changes rows → LeavesRoom (length changes) db now)
run_ours [] rows db now sound ours t same =
    (subst IsOurs (sym same) ours, λ allowed count few room. subst (HasRoom count) (sym same) (room_for count (0 + count) db (omega arith) room))
run_ours (c ∷ cs) rows db now sound ours t (mid, did, more) =
    let left = change_made db sound ours rows t mid c did in
    let rest = run_ours cs (after_change c rows) mid now left.sound left.ours left.holds more in
    let few : (count : ℕ) → suc (length cs) + count ≤ 2 ^ 62 → length cs + count ≤ 2 ^ 62 = λ count low. omega (arith, low) in (
      rest.0,
      λ allowed count low room. rest.1 allowed.1 count (few count low) (left.room allowed.0 (length cs + count) (few count low) (room_for (suc (length cs + count)) (suc (length cs) + count) db (omega arith) room)),
    )
