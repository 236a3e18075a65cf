-- What one statement makes of the tables: of the rows of its table what the change makes of them, and of the others nothing.
use Rattle.store.proofs.Common.{second_so, drop-map, filter-map, filter_same, Database, Values, all_has, Table, Edition, Change, Add, Put, Remove, AllRows, Cells, PartOf, key_in, same_table, shared_by, after_change, changed, is_in_part, makes, table_of, same_table_self, by_table, change_elsewhere, change_here, table_at, Stands, Enters, Leaves, WritesOnly, begins_with, goes_on, stands_apart, InPlace, New, latest, number_of, IsRollTable, values, Spares, TablesHold, numbered, ◌≡◌, ◌≢◌, Bool, true, not, cond, List, [], ◌∷◌, filter, map, drop, refl, sym, ap, subst, ◌∙◌, true≢false, enters, leaves, applying, false}
use Rattle.sql_tables.specs.Writes.{Puts, Removes}
use Rattle.store.specs.Inside.Saving.{AppliesOne}
use Rattle.store.proofs.Begins.{begins_same}
use Rattle.store.proofs.Among.{part_in_rolls, row_in_rolls}

module _ (c : Change) (old new : Database) (rows : AllRows) (t : TablesHold old rows) (among : IsRollTable (changed c)) (only : WritesOnly (t.places (changed c)).tree old new) where
  abbrev q : Table
  q = changed c

  other_than : (table : Table) → same_table table q ≡ false → table ≢ q
  other_than table other e = true≢false (sym (same_table_self q) ∙ ap (λ x. same_table x q) (sym e) ∙ other)

  -- the table that is written holds what the change makes, and the others what they held
  held : Stands (table_at q) (t.places q) (map values (makes c (rows q))) new → TablesHold new (after_change c rows)
  held stands = record {
    edition = t.edition;
    places = t.places;
    edition_apart = t.edition_apart;
    apart = t.apart;
    none = by_table (λ x. (IsRollTable x → ⊥) → after_change c rows x ≡ []) q (λ away. absurd (away among)) (λ x other away. change_elsewhere c rows x other ∙ t.none x away);
    editions = stands_apart (table_at Edition) t.edition refl (numbered (number_of latest)) (t.places q).tree old new (λ e. t.edition_apart q among (sym e)) only t.editions;
    rolls = by_table (λ x. IsRollTable x → Stands (table_at x) (t.places x) (map values (after_change c rows x)) new) q
        (λ here. subst (λ held. Stands (table_at q) (t.places q) (map values held) new) (sym (change_here c rows)) stands)
        (λ x other there. subst (λ held. Stands (table_at x) (t.places x) (map values held) new) (sym (change_elsewhere c rows x other))
        (stands_apart (table_at x) (t.places x) refl (map values (rows x)) (t.places q).tree old new (t.apart x q there among (other_than x other)) only (t.rolls x there)));
  }

  spared : Spares old new
  spared = record { schema = only.schema; others = λ any h apart. all_has _ old.schema.tables any only.others h (apart q among (t.places q) (t.rolls q among).listed) }

-- SQL's test of columns finds the rows that a test of cells finds
module _ (p : Cells → Bool) (found : Values → Bool) (same : (row : Cells) → found (values row) ≡ p row) where
  left_so : (rows : List Cells) → filter (λ v. not (found v)) (map values rows) ≡ map values (filter (λ r. not (p r)) rows)
  left_so rows = filter-map (λ v. not (found v)) values rows ∙ ap (map values) (filter_same _ _ (λ row. ap not (same row)) rows)

  put_so : (cells : Cells) (rows : List Cells) → map (λ v. cond (found v) (values cells) v) (map values rows) ≡ map values (map (λ row. cond (p row) cells row) rows)
  put_so cells [] = refl
  put_so cells (row ∷ rows) = λ i. (ap (λ b. cond b (values cells) (values row)) (same row) ∙ by (p row)) i ∷ put_so cells rows i
    where
      by : (b : Bool) → cond b (values cells) (values row) ≡ values (cond b cells row)
      by true = refl
      by false = refl

-- a part
part_found : (p : PartOf) (row : Cells) → goes_on (let s = shared_by p.group in s.1) (values p.cells) (values row) ≡ is_in_part p row
part_found p row = ap (begins_with (values p.cells)) (drop-map _ (let s = shared_by p.group in s.1) row) ∙ begins_same p.cells (drop (let s = shared_by p.group in s.1) row)

-- a change that was made
pub applies_one : (c : Change) (old new : Database) → (let it = applying c in it.does old new) → AppliesOne c old new
unfolding AppliesOne Puts Removes
applies_one (Put r) old new (is, made) need rows t =
    let among = row_in_rolls r is in
    let place = t.places r.table in
    let puts : Enters InPlace (table_at r.table) (values (key_in r.table r.cells)) (values r.cells) old new = enters r.table r.cells (second_so _ _ is) InPlace old new made in
    let done = puts place (map values (rows r.table)) (need among place (t.rolls r.table among).listed) (t.rolls r.table among) in
    let so = put_so _ _ (begins_same (key_in r.table r.cells)) r.cells (rows r.table) in
    (held (Put r) old new rows t among done.1 (subst (λ held. Stands (table_at r.table) place held new) so done.0), spared (Put r) old new rows t among done.1)
applies_one (Add r) old new (is, made) need rows t =
    let among = row_in_rolls r is in
    let adds : Enters New (table_at r.table) (values (key_in r.table r.cells)) (values r.cells) old new = enters r.table r.cells (second_so _ _ is) New old new made in
    let done = adds (t.places r.table) (map values (rows r.table)) (t.rolls r.table among) in
    (held (Add r) old new rows t among done.1 done.0, spared (Add r) old new rows t among done.1)
applies_one (Remove p) old new (is, made) need rows t =
    let q = table_of p in
    let among = part_in_rolls p is in
    let place = t.places q in
    let removes : Leaves p.group (values p.cells) old new = leaves p.group (values p.cells) old new made in
    let done = removes place (map values (rows q)) (need among place (t.rolls q among).listed) (t.rolls q among) in
    (held (Remove p) old new rows t among done.1 (subst (λ held. Stands (table_at q) place held new) (left_so _ _ (part_found p) (rows q)) done.0), spared (Remove p) old new rows t among done.1)
