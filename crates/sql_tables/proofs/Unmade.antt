-- A CREATE TABLE is refused for its names, for want of room, or for counters that other tables lack.
use Rattle.sql_tables.proofs.Common.{IsAscii, list_all, option_or, cases_Bool, or_parts, nat_tests, Error, Words, Schema, AnyTable, created, Command, CreateTable, Nothing, table_defined_by, with_command, Does, Tally, MakesSequence, lacks_sequence, Database, CreatesTable, RefusesTable, is_fit, is_formed, Checked, and_then, Unsupported, Has, test_has, index_named, table_named, view_named, index_reals, table_reals, IsTableMade, IsUnmade, IsHindered, IsWriteOf, plain_mode, made_here, rules_of, shape_of, sql_of, Outcome, State, Executes, ◌≡◌, inl, inr, ℕ, zero, suc, ◌∷◌, ◌+◌, ◌*◌, ◌^◌, ◌≤◌, nat_lt, List, [], codes, length, Option, Some, None, is_some, Ok, Err, true, false, if◌then◌else◌, refl, sym, ap, subst, ◌∙◌, arith, IsUtf8, first_so, second_so, KeepsRows, automatics, Index, Ours as Table}
use Rattle.std.proofs.lemmas.Str.{IsUtf8-from_ascii}
use Rattle.sqlite.specs.Compile.{command, create_table, creates, is_attached, is_reserved as reserves, returning, timed}
use Rattle.sqlite.specs.Does.{MakesTable}
use Rattle.sqlite_ast.specs.declared.Statement.TheVariants as written
use Rattle.sqlite_catalog.specs.Change.{is_reserved, is_used, next_tree}
use Rattle.sqlite_catalog.specs.declared.error.Refusal.{Refusal}
use Rattle.sqlite_catalog.specs.declared.error.Refusal.TheVariants.{Invalid, NameTaken, BadName, TooBig, BadKey, BadText, Violates}
use Rattle.sql_tables.proofs.CreateTable.{create_means}
use Rattle.sql_tables.proofs.InsertKeyed.{same_value, went}
use Rattle.sql_tables.proofs.Understood.{runs_by}
use Rattle.sql_tables.proofs.Forms.{create_of, read_as}
use Rattle.sql_tables.proofs.InsertRow.{compiled_is, understood_is}
use Rattle.sql_tables.proofs.Texts.{Texts, create_is, read_whole}

none_some : {X : Type 0} (o : Option X) → is_some o ≡ false → o ≡ None
none_some None h = refl
none_some (Some x) h = absurd (cc)

-- a CREATE whose name is free makes a table
free_command : (schema : Schema) (name : List ℕ) → is_used schema name ≡ false → is_reserved name ≡ false
    → ◌≡◌ {A = Checked Command} (if is_attached schema name then Err Unsupported else and_then (creates false name (option_or (table_named schema name) (view_named schema name)) (index_named schema name)) (λ is_new. if is_new then Ok CreateTable else Ok Nothing)) (Ok CreateTable)
unfolding is_attached creates reserves
free_command schema name free own =
    let parts = or_parts _ _ free in
    let first = or_parts _ _ parts.0 in
    rw (none_some (table_named schema name) first.0, none_some (index_named schema name) first.1, none_some (view_named schema name) parts.1, own) refl

-- what is true of the text and the table alone
pub record IsMakable (table : Table) : Type 0 where
  pub own : is_reserved (shape_of table).name ≡ false
  pub formed : is_formed (made_here table 0) ≡ true
  pub fit : is_fit (Words (codes "table")) (Words (shape_of table).name) (Words (shape_of table).name) (Words (sql_of table).create) ≡ true
  pub reals : nat_lt (table_reals (made_here table 0)) (2 ^ 64) ≡ true
  pub all_reals : list_all (λ key. nat_lt (index_reals (table_reals (made_here table 0)) key) (2 ^ 64)) (shape_of table).uniques ≡ true
  pub short : nat_lt (2 * length (shape_of table).name + length (sql_of table).create + 200) (10 ^ 9) ≡ true
  pub name : list_all (λ b. nat_lt b 128) (shape_of table).name ≡ true
  pub text : list_all (λ b. nat_lt b 128) (sql_of table).create ≡ true

-- bytes below 128 are ASCII
pub ascii : (bs : List ℕ) → list_all (λ b. nat_lt b 128) bs ≡ true → IsAscii bs
ascii [] h i = omega arith
ascii (b ∷ bs) h zero = let low = first_so (nat_lt b 128) (list_all (λ b. nat_lt b 128) bs) h in grind (arith, nat_tests, low)
ascii (b ∷ bs) h (suc i) = ascii bs (second_so (nat_lt b 128) (list_all (λ b. nat_lt b 128) bs) h) i

module _ (table : Table) (it : Texts table) (m : IsMakable table) (limit : Option ℕ) (db : Database) where
  abbrev t : AnyTable
  t = made_here table 0

  abbrev sql : List ℕ
  sql = (sql_of table).create

  defined : table_defined_by sql ≡ Ok t
  defined = (create_is table it).defined

  same : (made : AnyTable) → table_defined_by sql ≡ Ok made → made ≡ t
  same made is = let both : Ok made ≡ Ok t = sym is ∙ defined in cc

  abbrev NamesIndex : AnyTable → Type 0
  NamesIndex made = (index : Index) × Has (automatics made 0 0 made.uniques) index × (is_used db.schema index.name ≡ true)

  abbrev HasLongKey : AnyTable → Type 0
  HasLongKey made = (key : List ℕ) × Has made.uniques key × (2 ^ 64 ≤ index_reals (table_reals made) key)

  no_long_key : HasLongKey t → ⊥
  no_long_key (key, among, big) = let low = test_has (λ key. nat_lt (index_reals (table_reals t) key) (2 ^ 64)) t.uniques key m.all_reals among in grind (arith, nat_tests, low, big)

  create_text : is_used db.schema t.name ≡ false → IsWriteOf db.schema sql [] CreateTable
  unfolding command create_table returning timed
  create_text free = record {
    text = record {
      meant = with_command (read_as sql (written.CreateTable (create_of (shape_of table) it.read.body)) 0) ([], (CreateTable, None));
      is = understood_is db.schema sql _ (compiled_is db.schema sql (read_as sql (written.CreateTable (create_of (shape_of table) it.read.body)) 0) [] None CreateTable it.read.create refl refl (rw it.read.defined (free_command db.schema (shape_of table).name free m.own)));
      whole = omega arith;
      counted = refl;
      plain = refl;
    };
    silent = refl;
    runs = refl;
    writes = tt;
  }

  refused : (why : Refusal) → RefusesTable db.schema sql why → IsUnmade t db
  refused (Invalid e) h = absurd (let bad = sym defined ∙ h in cc)
  refused NameTaken (made, is, inl used) = inl (subst (λ (made : AnyTable). is_used db.schema made.name ≡ true) (same made is) used)
  refused NameTaken (made, is, inr index) = inr (inl (subst (λ (made : AnyTable). NamesIndex made) (same made is) index))
  refused BadName (made, is, inl none) = absurd (none (subst (λ (made : AnyTable). IsUtf8 made.name) (sym (same made is)) (IsUtf8-from_ascii _ (ascii _ m.name))))
  refused BadName (made, is, inr reserved) = absurd (let bad = sym m.own ∙ subst (λ (made : AnyTable). is_reserved made.name ≡ true) (same made is) reserved.0 in cc)
  refused TooBig (made, is, inl big) = inr (inr (inl (subst (λ (made : AnyTable). 65536 ≤ next_tree db.schema + length made.uniques) (same made is) big)))
  refused TooBig (made, is, inr (inl big)) = absurd (let low = m.reals in let high = subst (λ (made : AnyTable). 2 ^ 64 ≤ table_reals made) (same made is) big in grind (arith, nat_tests, low, high))
  refused TooBig (made, is, inr (inr long)) = absurd (no_long_key (subst (λ (made : AnyTable). HasLongKey made) (same made is) long))
  refused BadKey (made, is, bad) = absurd (let e = sym m.formed ∙ subst (λ (made : AnyTable). is_formed made ≡ false) (same made is) bad in cc)
  refused BadText (made, is, bad) = absurd (let e = sym m.fit ∙ subst (λ (made : AnyTable). is_fit (Words (codes "table")) (Words made.name) (Words made.name) (Words sql) ≡ false) (same made is) bad in cc)
  refused (Violates rule) h = absurd h

  not_made : (stop : Option Error) → MakesTable sql db (Err stop) → IsUnmade t db
  not_made None (made, is, long) = absurd (let low = m.short in let high = subst (λ (made : AnyTable). 10 ^ 9 ≤ 2 * length made.name + length sql + 200) (same made is) long in grind (arith, nat_tests, low, high))
  not_made (Some e) (inl none) = absurd (none.0 (IsUtf8-from_ascii _ (ascii _ m.text)))
  not_made (Some e) (inr (why, h, is)) = refused why h

  no_counters : (mid : Database) (stop : Option Error) → CreatesTable db.schema sql db.trees mid.schema mid.trees → MakesSequence mid (Err stop) → IsUnmade t db
  no_counters mid stop made h = elim (cases_Bool (lacks_sequence mid.schema)) [
    | inl lacks ↦ inr (inr (inr (subst (λ s. lacks_sequence s ≡ true) (made.is ∙ ap (created db.schema) (same made.table made.defined)) lacks)))
    | inr none ↦ absurd (let e = rw none at h in cc)
  ]

  by : (stop : Option Error) → Does limit plain_mode [] db sql None CreateTable (Err stop) → IsUnmade t db
  by stop (inl (s, inl (first, h, same), last)) = not_made first h
  by stop (inl (s, inr (mid, made, h), last)) = no_counters mid s made h
  by stop (inr (after, made, h)) = absurd (cc)

  -- a CREATE is refused for this alone
  pub unmade : IsHindered sql [] limit db → IsUnmade t db
  unfolding create_text
  unmade h = elim (cases_Bool (is_used db.schema t.name)) [
    | inl used ↦ inl used
    | inr free ↦
        let ends = h CreateTable (create_text free) in
        by ends.0 (subst (λ text. Does limit plain_mode [] db text None CreateTable (Err ends.0)) (read_whole sql) ends.1)
  ]

-- and one that went through made the table
pub table_made : (table : Table) → Texts table → (old new : State) (count : ℕ) → Executes (sql_of table).create [] old new (Ok count) → IsTableMade (made_here table 0) old.now new.now
table_made table it old new count ran quiet =
    let is = create_is table it in
    let w = runs_by (sql_of table).create [] old new count CreateTable (sql_of table).create (create_means (sql_of table).create (shape_of table) (rules_of table) is old.now.schema) ran in
    let all = went w.changed in
    let first = went all.1 in
    let made = first.1 in
    let same : made.table ≡ made_here table 0 = let both : Ok made.table ≡ Ok (made_here table 0) = sym made.defined ∙ is.defined in cc in
    let mid : first.0.schema ≡ created old.now.schema (made_here table 0) = made.is ∙ ap (created old.now.schema) same in
    let none : lacks_sequence first.0.schema ≡ false = subst (λ s. lacks_sequence s ≡ false) (sym mid) quiet in
    let last : all.0 ≡ first.0 = let e : ◌≡◌ {A = Outcome Database} (Ok all.0) (Ok first.0) = rw none at first.2 in cc in
    let now : new.now ≡ first.0 = ap (λ (p : Tally × Database). p.1) (same_value all.2) ∙ last in
    let rest : (new.now.schema ≡ created old.now.schema (made_here table 0)) × (new.now.trees (next_tree old.now.schema) ≡ []) × KeepsRows old.now.schema.tables old.now.trees new.now.trees =
    subst (λ (d : Database). (d.schema ≡ created old.now.schema (made_here table 0)) × (d.trees (next_tree old.now.schema) ≡ []) × KeepsRows old.now.schema.tables old.now.trees d.trees) (sym now) (mid, made.empty, made.others) in
    (w.sound, rest.0, rest.1, rest.2)
