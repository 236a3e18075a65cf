-- The tables that were made stand for the empty office.
use Rattle.store.proofs.Common.{Database, Schema, AnyTable, Seen, Trees, Value, Has, all_has, has_either, has_got, rows_in, State, empty, Table, Edition, Supervisor, Place, Lists, rules_of, table_at, Stands, Creates, Adds, MayRecoverTo, listed_once, stands_apart, stands_beside, decide_table, latest, number_of, all_tables, rolls, values, AreRuled, Brings, MakesTables, StandsFor, HasNone, Opens, numbered, ◌≡◌, ◌≢◌, ◌⊎◌, ◌++◌, List, [], ◌∷◌, inl, inr, map, refl, sym, ap, subst, ◌∙◌, New, each_of, making, key_in, enters, stays_entered, did_all, creating, latest_number, ℕ, suc, ◌+◌, list_any, arith, IsDatabase, false}
use Rattle.store.specs.Tables.{AreRuledAmong, LeavesTables}
use Rattle.store.specs.Inside.Saving.{Empties}
use Rattle.store.proofs.Among.{apart_edition, stands_among}
use Rattle.sql_tables.proofs.Founding.{IsFounding, founded}
use Rattle.sql_tables.specs.Ours.{HasRoom, IsOurs}
use Rattle.store.specs.Available.{LeavesRoom}
use Rattle.store.proofs.Available.{room_for}

-- the empty office has no rows
no_rows : (table : Table) → rows_in empty table ≡ []
no_rows Supervisor = refl
no_rows _ = refl

-- no table was made yet
made_none : (db : Database) → MakesTables [] db db
made_none db = record { places = λ table. record { tree = 0; rules = rules_of table }; ruled = λ table h. absurd h; stand = λ table h. absurd h; apart = λ a b h. absurd h; others = λ t listed. (listed, refl, λ table h. absurd h); quiet = λ t listed acts. acts }

module _ (done : List Table) (q : Table) (a b c : Database) (m : MakesTables done a b) (n : Creates (table_at q) (rules_of q) [] b c) where
  -- where a table stands: the last one at its new place
  at : (table : Table) → (table ≡ q) ⊎ (table ≢ q) → Place
  at table (inl same) = n.place
  at table (inr other) = m.places table

  before : (table : Table) → table ≢ q → Has (done ++ q ∷ []) table → Has done table
  before table other h = elim (has_either done (q ∷ []) table h) [ inl early ↦ early | inr (inl same) ↦ absurd (other same) | inr (inr none) ↦ absurd none ]

  beside : (table : Table) → Has done table → Stands (table_at table) (m.places table) [] c × ((m.places table).tree ≢ n.place.tree)
  beside table early = stands_beside (table_at table) (m.places table) refl [] (table_at q) (rules_of q) [] b c n (m.stand table early)

  ruled_at : (table : Table) (d : (table ≡ q) ⊎ (table ≢ q)) → Has (done ++ q ∷ []) table → (at table d).rules ≡ rules_of table
  unfolding at
  ruled_at table (inl same) h = n.ruled ∙ sym (ap rules_of same)
  ruled_at table (inr other) h = m.ruled table (before table other h)

  stand_at : (table : Table) (d : (table ≡ q) ⊎ (table ≢ q)) → Has (done ++ q ∷ []) table → Stands (table_at table) (at table d) [] c
  unfolding at
  stand_at table (inl same) h = subst (λ r. Stands (table_at r) n.place [] c) (sym same) n.stands
  stand_at table (inr other) h = (beside table (before table other h)).0

  apart_at : (x y : Table) (d : (x ≡ q) ⊎ (x ≢ q)) (e : (y ≡ q) ⊎ (y ≢ q)) → Has (done ++ q ∷ []) x → Has (done ++ q ∷ []) y → x ≢ y → (at x d).tree ≢ (at y e).tree
  unfolding at
  apart_at x y (inl s) (inl t) h k apart same = absurd (apart (s ∙ sym t))
  apart_at x y (inl s) (inr o) h k apart same = (beside y (before y o k)).1 (sym same)
  apart_at x y (inr o) (inl t) h k apart same = (beside x (before x o h)).1 same
  apart_at x y (inr o) (inr p) h k apart same = m.apart x y (before x o h) (before y p k) apart same

  other_at : (t : AnyTable) → t.tree ≢ n.place.tree → ((table : Table) → Has done table → t.tree ≢ (m.places table).tree) → (table : Table) (d : (table ≡ q) ⊎ (table ≢ q)) → Has (done ++ q ∷ []) table
      → t.tree ≢ (at table d).tree
  unfolding at
  other_at t last early table (inl same) h = last
  other_at t last early table (inr other) h = early table (before table other h)

  -- one table more
  made_then : MakesTables (done ++ q ∷ []) a c
  made_then = record {
    places = λ table. at table (decide_table table q);
    ruled = λ table. ruled_at table (decide_table table q);
    stand = λ table. stand_at table (decide_table table q);
    apart = λ x y. apart_at x y (decide_table x q) (decide_table y q);
    others = λ t listed.
        let was = m.others t listed in
        let is = n.others t was.0 in
        (is.0, is.1 ∙ was.1, λ table. other_at t is.2 was.2 table (decide_table table q));
    quiet = λ t listed acts. m.quiet t listed (n.quiet t (m.others t listed).0 acts);
  }

-- tables were made one after another
pub made_all : (tables : List Table) (old new : Database) → (let all = each_of making tables in all.does old new) → MakesTables tables old new
made_all tables old new = did_all making MakesTables (λ done q a b c p one. made_then done q a b c p one.0) tables old new (made_none old)

-- the tables, once that of the edition has its row
empty_stands : (row : List Value) → row ∷ [] ≡ numbered (number_of latest) → (a b c : Database) → MakesTables all_tables a b → Adds (table_at Edition) row b c → StandsFor c empty
empty_stands row is a b c m n =
    let first : Has all_tables Edition = inl refl in
    let done = n (m.places Edition) [] (m.stand Edition first) in
    record {
      edition = m.places Edition;
      places = m.places;
      edition_apart = λ table among. m.apart table Edition (inr (stands_among rolls table among)) first (apart_edition table among);
      apart = λ x y p q. m.apart x y (inr (stands_among rolls x p)) (inr (stands_among rolls y q));
      none = λ table away. no_rows table;
      editions = subst (λ all. Stands (table_at Edition) (m.places Edition) all c) is done.0;
      rolls = λ table among.
          subst (λ held. Stands (table_at table) (m.places table) (map values held) c) (sym (no_rows table))
          (stands_apart (table_at table) (m.places table) refl [] (m.places Edition).tree b c (m.apart table Edition (inr (stands_among rolls table among)) first (apart_edition table among)) done.1 (m.stand table (inr (stands_among rolls table among))));
    }

-- and are as they are made here
ruled_so : (row : List Value) (a b c : Database) → MakesTables all_tables a b → Adds (table_at Edition) row b c → AreRuled c.schema
unfolding AreRuledAmong
ruled_so row a b c m n table among place listed =
    let first : Has all_tables Edition = inl refl in
    let done = n (m.places Edition) [] (m.stand Edition first) in
    let here = subst (λ (s : Schema). Lists s (table_at table (m.places table))) (sym done.1.schema) (m.stand table among).listed in
    let same : table_at table place ≡ table_at table (m.places table) = listed_once c.schema (table_at table) place (m.places table) refl listed here in
    let tree : (m.places table).tree ≡ place.tree = ap (λ (t : AnyTable). t.tree) (sym same) in
    same ∙ (λ i. table_at table (record { tree = tree i; rules = m.ruled table among i }))

-- each other table stays
others_stay : (row : List Value) (a b c : Database) → MakesTables all_tables a b → Adds (table_at Edition) row b c → LeavesTables a c
unfolding LeavesTables
others_stay row a b c m n t listed other =
    let first : Has all_tables Edition = inl refl in
    let done = n (m.places Edition) [] (m.stand Edition first) in
    let was = m.others t listed in (
      subst (λ (s : Schema). Lists s t) (sym done.1.schema) was.0,
      all_has _ b.schema.tables t done.1.others (has_got b.schema.tables was.0.at t was.0.there) (was.2 Edition first) ∙ was.1,
    )

-- the tables were made one after the other, and then the edition was written
pub creates : (old new : Database) → creating.does old new → Empties old new
unfolding Empties
creates a c (b, made, numbered_so) =
    let p = made_all all_tables a b made in
    let q : Adds (table_at Edition) (values latest_number) b c = enters Edition latest_number refl New b c numbered_so in
    (empty_stands (values latest_number) refl a b c p q, ruled_so (values latest_number) a b c p q, others_stay (values latest_number) a b c p q)

-- a database stays ours, and takes no rowid
abbrev Founds : Database → Database → Type 0
Founds old new = IsFounding old → IsFounding new × ((count : ℕ) → HasRoom count old → HasRoom count new)

founds_then : (a b c : Database) → Founds a b → Founds b c → Founds a c
founds_then a b c first second f = let one = first f in let two = second one.0 in (two.0, λ count room. two.1 count (one.1 count room))

-- tables that are made leave a database ours,
pub founded_all : (tables : List Table) (old new : Database) → (let all = each_of making tables in all.does old new) → Founds old new
founded_all tables old new = did_all making (λ done a b. Founds a b) (λ done q a b c p one. founds_then a b c p (λ f. founded b c f q one.1)) tables old new (λ f. (f, λ count room. room))

-- and so does their edition, which takes one rowid
pub creates_ours : (old new : Database) → creating.does old new → IsDatabase old → IsOurs old → list_any (λ (t : AnyTable). t.is_counted) old.schema.tables ≡ false → IsOurs new × LeavesRoom 1 old new
creates_ours a c (b, made, numbered_so) sound ours uncounted =
    let all = founded_all all_tables a b made (record { sound = sound; ours = ours; uncounted = uncounted }) in
    let it = all.0 in
    let m = made_all all_tables a b made in
    let first : Has all_tables Edition = inl refl in
    let stands = m.stand Edition first in
    let key = values (key_in Edition latest_number) in
    let entered = stays_entered b it.ours Edition (m.places Edition) stands.listed c New key (values latest_number) (1, refl) [] stands numbered_so in
    (entered.0, λ count few room. entered.1 (λ n is. let one : 1 ≡ n = cc in omega (arith, one)) count (omega (arith, few)) (all.1 (suc count) (room_for (suc count) (1 + count) a (omega arith) room)))

-- the tables were made where there were none
pub opens_new : (old new : Database) (office : State) → HasNone old.schema → office ≡ empty → creating.does old new → Opens old new office
unfolding Empties
opens_new old new office none is did = let made = creates old new did in inl (none, is, made.0, made.1)

-- what a crash leaves of the making
pub founds_left : (old : Seen) (trees : Trees) → HasNone old.now.schema → MayRecoverTo creating.does old trees → MayRecoverTo Brings old trees
unfolding Empties
founds_left old trees none h =
    let made = creates old.now h.db h.step in
    record { was_open = h.was_open; db = h.db; sound = h.sound; step = inl (record { none = none; stands = made.0; ruled = made.1 }); same = h.same }

pub founds_others : (old new : Database) → creating.does old new → LeavesTables old new
unfolding Empties
founds_others old new did = let made = creates old new did in made.2
