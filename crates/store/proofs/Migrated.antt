-- Tables of an earlier edition are migrated: the number is another, tables come next to those that stand, and rows are added.
use Rattle.store.proofs.Common.{◌&&◌, Int, Database, Values, Schema, AnyTable, Has, all_has, has_either, has_got, Change, AllRows, AnEdition, First, Second, Third, Table, Edition, Place, Lists, table_at, IsActedOn, Stands, with_row, listed_at_one, listed_once, stands_kept, stands_apart, beyond, latest, number_of, migrated, rolls_of, AskMigrated, IsRollTable, rolls, values, AreActedOnAmong, AreLeftAmong, IsLeftAlone, Spares, MakesTables, TablesHold, HoldIn, after_changes, TablesOf, numbered, ◌≡◌, ◌≢◌, ◌↔◌, ◌⊎◌, inl, inr, ℕ, pos, Bool, true, cond, List, [], ◌∷◌, ◌++◌, map, refl, sym, ap, subst, ◌∙◌, true≢false, InPlace, enters, latest_number, migrating, false, IsMade, changing, replacing, key_in, stays_entered, list_any}
use Rattle.sql_tables.proofs.Quiet.{inert_so}
use Rattle.sql_tables.specs.Writes.{Puts}
use Rattle.store.specs.Rows.{IsAmong}
use Rattle.store.specs.Saving.{Applies}
use Rattle.store.specs.Tables.{AreRuledAmong, LeavesTables}
use Rattle.store.proofs.Standing.{stand_as}
use Rattle.store.proofs.ChangesInOrder.{applied}
use Rattle.store.specs.Available.{KeepsOurs}
use Rattle.store.proofs.Available.{run_ours}
use Rattle.store.proofs.NewTables.{founded_all, made_all}
use Rattle.store.proofs.Among.{among_or_not, fresh_beyond, has_left, is_among, old_among, stands_among}
use Rattle.store.proofs.Begins.{int_self}

-- ---- tables more

module _ (tables more : List Table) (number : ℕ) (rows : AllRows) (old new : Database) (fresh : (table : Table) → Has more table → IsAmong tables table → ⊥)
    (t : TablesOf tables number old rows) (m : MakesTables more old new) where
  -- where a table stands
  at : (table : Table) → IsAmong more table ⊎ (IsAmong more table → ⊥) → Place
  at table (inl made) = m.places table
  at table (inr was) = t.places table

  early : (table : Table) → (IsAmong more table → ⊥) → IsAmong (tables ++ more) table → IsAmong tables table
  early table was h = elim (has_either tables more table (stands_among (tables ++ more) table h)) [ inl e ↦ is_among tables table e | inr l ↦ absurd (was (is_among more table l)) ]

  -- a table that stood stands
  kept : (table : Table) (place : Place) (held : List Values) → Stands (table_at table) place held old → Stands (table_at table) place held new
  kept table place held stands =
      let other = m.others (table_at table place) stands.listed in
      stands_kept (table_at table) place refl held old new other.0 other.1 stands

  -- in another tree than one that was made
  away : (table : Table) (place : Place) (held : List Values) → Stands (table_at table) place held old → (q : Table) → IsAmong more q → place.tree ≢ (m.places q).tree
  away table place held stands q made = (m.others (table_at table place) stands.listed).2 q (stands_among more q made)

  edition_at : (table : Table) (d : IsAmong more table ⊎ (IsAmong more table → ⊥)) → IsAmong (tables ++ more) table → (at table d).tree ≢ t.edition.tree
  unfolding at
  edition_at table (inl made) h = λ e. away Edition t.edition (numbered number) t.editions table made (sym e)
  edition_at table (inr was) h = t.edition_apart table (early table was h)

  apart_at : (x y : Table) (d : IsAmong more x ⊎ (IsAmong more x → ⊥)) (e : IsAmong more y ⊎ (IsAmong more y → ⊥)) → IsAmong (tables ++ more) x → IsAmong (tables ++ more) y → x ≢ y → (at x d).tree ≢ (at y e).tree
  unfolding at
  apart_at x y (inl a) (inl b) h k apart = m.apart x y (stands_among more x a) (stands_among more y b) apart
  apart_at x y (inl a) (inr o) h k apart = λ e. away y (t.places y) (map values (rows y)) (t.rolls y (early y o k)) x a (sym e)
  apart_at x y (inr o) (inl b) h k apart = away x (t.places x) (map values (rows x)) (t.rolls x (early x o h)) y b
  apart_at x y (inr o) (inr p) h k apart = t.apart x y (early x o h) (early y p k) apart

  stand_at : (table : Table) (d : IsAmong more table ⊎ (IsAmong more table → ⊥)) → IsAmong (tables ++ more) table → Stands (table_at table) (at table d) (map values (rows table)) new
  unfolding at
  stand_at table (inl made) h =
      subst (λ held. Stands (table_at table) (m.places table) (map values held) new) (sym (t.none table (fresh table (stands_among more table made)))) (m.stand table (stands_among more table made))
  stand_at table (inr was) h = kept table (t.places table) (map values (rows table)) (t.rolls table (early table was h))

  -- the tables are there, with those that were made
  pub more_tables : TablesOf (tables ++ more) number new rows
  more_tables = record {
    edition = t.edition;
    places = λ table. at table (among_or_not more table);
    edition_apart = λ table. edition_at table (among_or_not more table);
    apart = λ x y. apart_at x y (among_or_not more x) (among_or_not more y);
    none = λ table away. t.none table (λ h. away (is_among (tables ++ more) table (has_left tables more table (stands_among tables table h))));
    editions = kept Edition t.edition (numbered number) t.editions;
    rolls = λ table. stand_at table (among_or_not more table);
  }

-- tables that were made are as they are made here
pub made_ruled : (tables : List Table) (old new : Database) → MakesTables tables old new → AreRuledAmong tables new.schema
unfolding AreRuledAmong
made_ruled tables old new m table among place listed =
    let same : table_at table place ≡ table_at table (m.places table) = listed_once new.schema (table_at table) place (m.places table) refl listed (m.stand table among).listed in
    let tree : (m.places table).tree ≡ place.tree = ap (λ (t : AnyTable). t.tree) (sym same) in
    same ∙ (λ i. table_at table (record { tree = tree i; rules = m.ruled table among i }))

-- ---- another number

-- the row of the edition with another number
one_row : (n m : ℕ) → with_row (Int (pos 1) ∷ []) (Int (pos 1) ∷ Int (pos m) ∷ []) (numbered n) ≡ numbered m
one_row n m = ap (λ (b : Bool). cond (b && true) (Int (pos 1) ∷ Int (pos m) ∷ []) (Int (pos 1) ∷ Int (pos n) ∷ []) ∷ []) (int_self (pos 1))

-- the tables with another number, under the same schema
other_number : (tables : List Table) (number other : ℕ) (rows : AllRows) (old new : Database) → IsLeftAlone Edition old.schema → TablesOf tables number old rows
    → Puts (table_at Edition) (Int (pos 1) ∷ []) (Int (pos 1) ∷ Int (pos other) ∷ []) old new → TablesOf tables other new rows × (new.schema ≡ old.schema)
unfolding Puts
other_number tables number other rows old new alone t puts =
    let done = puts t.edition (numbered number) (alone t.edition t.editions.listed) t.editions in (
      stand_as tables number other old new rows t (subst (λ held. Stands (table_at Edition) t.edition held new) (one_row number other) done.0)
          (λ table h. stands_apart (table_at table) (t.places table) refl (map values (rows table)) t.edition.tree old new (t.edition_apart table h) done.1 (t.rolls table h)),
      done.1.schema,
    )

-- ---- tables on which no foreign key acts

-- tables on which none acts are left alone
pub left_so : (tables : List Table) (schema : Schema) → (AreActedOnAmong tables schema → ⊥) → AreLeftAmong tables schema
left_so tables schema none table among place listed = inert_so schema place.tree (λ acts. none (table, among, (place, listed, acts)))

-- those in which rows are replaced or taken out are there in each edition
module _ (e : AnEdition) (number : ℕ) (rows : AllRows) (old new : Database) (t : TablesOf (rolls_of e) number old rows) (m : MakesTables (beyond e) old new) where
  stood : (table : Table) → IsAmong migrated table → (place : Place) × Lists old.schema (table_at table place)
  unfolding IsAmong
  stood table (inl is) = (t.edition, subst (λ it. Lists old.schema (table_at it t.edition)) (sym is) t.editions.listed)
  stood table (inr is) = (t.places table, (t.rolls table (old_among e table is)).listed)

  -- where none acted before tables were made, none acts then
  pub quiet_then : (AreActedOnAmong migrated old.schema → ⊥) → AreActedOnAmong migrated new.schema → ⊥
  quiet_then none acted =
      let was = stood acted.0 acted.1 in
      let same : acted.2.0.tree ≡ was.0.tree = listed_at_one acted.0 new.schema acted.2.0 was.0 acted.2.1 (m.others (table_at acted.0 was.0) was.1).0 in
      none (acted.0, acted.1, (was.0, was.1, m.quiet (table_at acted.0 was.0) was.1 (subst (IsActedOn new.schema.tables) same acted.2.2)))

-- ---- one after the other

-- with those beyond, the tables of an edition are all of them
all_rolls : (e : AnEdition) → rolls_of e ++ beyond e ≡ rolls
all_rolls First = refl
all_rolls Second = refl
all_rolls Third = refl

-- a roll is one of those of an edition, or beyond it
in_edition : (e : AnEdition) (table : Table) → IsRollTable table → (IsAmong (beyond e) table → ⊥) → IsAmong (rolls_of e) table
in_edition e table among none = elim (has_either (rolls_of e) (beyond e) table (stands_among (rolls_of e ++ beyond e) table (subst (λ tables. IsAmong tables table) (sym (all_rolls e)) among))) [
  | inl it ↦ is_among (rolls_of e) table it
  | inr it ↦ absurd (none (is_among (beyond e) table it))
]

-- each other table stays, where tables are made and rows changed
others_with_tables : (e : AnEdition) (number : ℕ) (rows : AllRows) (a b c : Database) → TablesOf (rolls_of e) number a rows → MakesTables (beyond e) a b → Spares b c → LeavesTables a c
unfolding LeavesTables
others_with_tables e number rows a b c t m spares any listed other =
    let was = m.others any listed in
    let apart : (table : Table) → IsRollTable table → (place : Place) → Lists b.schema (table_at table place) → any.tree ≢ place.tree = λ table among place there same.
    elim (among_or_not (beyond e) table) [
      | inl made ↦
          let has = stands_among (beyond e) table made in
          was.2 table has (same ∙ listed_at_one table b.schema place (m.places table) there (m.stand table has).listed)
      | inr none ↦
          let stood = (t.rolls table (in_edition e table among none)).listed in
          other table (inr (stands_among rolls table among)) (t.places table) stood
          (same ∙ listed_at_one table b.schema place (t.places table) there (m.others (table_at table (t.places table)) stood).0)
    ] in (
      subst (λ (s : Schema). Lists s any) (sym spares.schema) was.0,
      spares.others any (has_got b.schema.tables was.0.at any was.0.there) apart ∙ was.1,
    )

-- and where the number of the edition is put first
others_with_edition : (tables : List Table) (number other : ℕ) (rows : AllRows) (a b c : Database) → IsLeftAlone Edition a.schema → TablesOf tables number a rows
    → Puts (table_at Edition) (Int (pos 1) ∷ []) (Int (pos 1) ∷ Int (pos other) ∷ []) a b → LeavesTables b c → LeavesTables a c
unfolding Puts LeavesTables
others_with_edition tables number other rows a b c alone t puts later any listed away =
    let done = puts t.edition (numbered number) (alone t.edition t.editions.listed) t.editions in
    let same = done.1.schema in
    let then = later any (subst (λ (s : Schema). Lists s any) (sym same) listed) (λ table has place there. away table has place (subst (λ (s : Schema). Lists s (table_at table place)) same there)) in (
      then.0,
      then.1 ∙ all_has _ a.schema.tables any done.1.others (has_got a.schema.tables listed.at any listed.there) (away Edition (inl refl) t.edition t.editions.listed),
    )

-- where no foreign key acts on the tables in which rows are replaced or taken out, tables of an edition get the number, those that they
-- lack, and the rows after the changes; each other table stays, and tables as they are made here are so still
pub rises_by : (e : AnEdition) (changes : List Change) (a d : Database) → (AreActedOnAmong migrated a.schema → ⊥) → (let it = migrating e changes in it.does a d)
    → AskMigrated changes → (rows : AllRows) → HoldIn e a rows → TablesHold d (after_changes changes rows) × AreRuledAmong (beyond e) d.schema × LeavesTables a d × KeepsOurs a d
unfolding Applies
rises_by e changes a d none (b, numbered_so, (c, tables, changed)) asks rows t =
    let puts : Puts (table_at Edition) (Int (pos 1) ∷ []) (values latest_number) a b = enters Edition latest_number refl InPlace a b numbered_so in
    let alone = left_so migrated a.schema none Edition (is_among migrated Edition (inl refl)) in
    let here = other_number (rolls_of e) (number_of e) (number_of latest) rows a b alone t puts in
    let made = made_all (beyond e) b c tables in
    let all : TablesHold c rows = subst (λ tables. TablesOf tables (number_of latest) c rows) (all_rolls e) (more_tables (rolls_of e) (beyond e) (number_of latest) rows b c (fresh_beyond e) here.0 made) in
    let quiet = quiet_then e (number_of latest) rows b c here.0 made (λ acted. none (subst (AreActedOnAmong migrated) here.1 acted)) in
    let done = applied changes c d changed (asks c.schema (left_so migrated c.schema quiet)) rows all in (
      done.0,
      subst (AreRuledAmong (beyond e)) (sym done.1.schema) (made_ruled (beyond e) b c made),
      others_with_edition (rolls_of e) (number_of e) (number_of latest) rows a b d alone t puts (others_with_tables e (number_of latest) rows b c d here.0 made done.1),
      λ sound ours uncounted.
          let place = t.edition in
          let entered = stays_entered a ours Edition place t.editions.listed b InPlace (values (key_in Edition latest_number)) (values latest_number) (1, refl) (numbered (number_of e)) t.editions numbered_so in
          let it = numbered_so place (numbered (number_of e)) (alone place t.editions.listed) t.editions in
          let is : IsMade a b (changing (table_at Edition place) it.0 (map (replacing (table_at Edition place) (values latest_number)) it.0)) = it.2 in
          let founded = (founded_all (beyond e) b c tables (record { sound = is.0; ours = entered.0; uncounted = subst (λ (s : Schema). list_any (λ (t : AnyTable). t.is_counted) s.tables ≡ false) (sym here.1) uncounted })).0 in
          (run_ours changes rows c d founded.sound founded.ours all changed).0,
    )

-- tables that pass the test are not acted on
pub none_acts : (b : Bool) (schema : Schema) → b ≡ true → (b ≡ false) ↔ AreActedOnAmong migrated schema → AreActedOnAmong migrated schema → ⊥
none_acts b schema passes exact acted = true≢false (sym passes ∙ exact.1 acted)
