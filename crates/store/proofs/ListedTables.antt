-- What is listed, and what one row says of the edition.
use Rattle.store.proofs.Common.{take_more, take_all, get_or_default, has_either, has_at, Values, Schema, Seen, Has, Table, Edition, Place, Lists, rules_of, table_at, IsListed, IsUnlisted, Shows, listed_at_one, IsAmong, AreAllListed, IsAlone, IsListedAlone, IsNoRow, HoldsNoRow, ◌≡◌, ◌≢◌, ◌⊎◌, inl, inr, ℕ, ◌+◌, ◌<◌, List, [], ◌∷◌, length, get_or, take, map, drop, refl, sym, ap, subst, ◌∙◌, arith}
use Rattle.store.proofs.Among.{among_or_not}

-- what holds of this many, and of the next, holds of one more
pub so_far : {X : Type 0} (P : X → Type 0) (all : List X) (i : ℕ) (d : X) → i < length all → ((x : X) → Has (take i all) x → P x) → P (get_or all i d) → (x : X) → Has (take (i + 1) all) x → P x
so_far P all i d low early here x h = elim (has_either (take i all) (get_or all i d ∷ []) x (subst (λ rs. Has rs x) (take_more all i d low) h)) [
  | inl before ↦ early x before
  | inr (inl same) ↦ subst P (sym same) here
  | inr (inr none) ↦ absurd none
]

-- what holds of as many as there are holds of each
pub of_each : {X : Type 0} (P : X → Type 0) (all : List X) (i : ℕ) → i ≡ length all → ((x : X) → Has (take i all) x → P x) → (x : X) → Has all x → P x
of_each P all i end each x among = each x (subst (λ rs. Has rs x) (sym (ap (λ n. take n all) end ∙ take_all (length all) all (omega arith))) among)

-- the next of the tables is one of them
pub is_next : (all : List Table) (i : ℕ) (d : Table) → i < length all → Has all (get_or all i d)
is_next all i d low = has_at all i (get_or all i d) low (get_or_default all i d (get_or all i d) low)

-- where another one of these tables is listed in the tree, the table is not alone in it
pub not_alone : (tables : List Table) (other table : Table) (schema : Schema) (tree : ℕ) → IsAmong tables other → other ≢ table → IsListed (table_at other) schema tree → IsAlone tables table tree schema → ⊥
not_alone tables other table schema tree among apart at alone = alone other among apart (record { tree = tree; rules = at.0 }) at.1 refl

-- a table that is listed in this tree is listed alone where the tree is its own
pub listed_alone : (tables : List Table) (edition : ℕ) (schema : Schema) (table : Table) (tree : ℕ) → IsListed (table_at table) schema tree → tree ≢ edition → IsAlone tables table tree schema → IsListedAlone tables edition schema table
listed_alone tables edition schema table tree at apart alone = record { place = record { tree = tree; rules = at.0 }; listed = at.1; from_edition = apart; alone = alone }

-- and only there
pub listed_close : (tables : List Table) (edition : ℕ) (schema : Schema) (table : Table) (tree : ℕ) → IsListed (table_at table) schema tree → (tree ≢ edition → IsAlone tables table tree schema → ⊥) → IsListedAlone tables edition schema table → ⊥
listed_close tables edition schema table tree at close l =
    let same = listed_at_one table schema l.place (record { tree = tree; rules = at.0 }) l.listed at.1 in
    close (subst (λ n. n ≢ edition) same l.from_edition) (subst (λ n. IsAlone tables table n schema) same l.alone)

module _ (tables : List Table) (schema : Schema) (edition : ℕ) (e : IsListed (table_at Edition) schema edition) (each : (table : Table) → IsAmong tables table → IsListedAlone tables edition schema table) where
  place_by : (table : Table) → IsAmong tables table ⊎ (IsAmong tables table → ⊥) → Place
  place_by table (inl among) = (each table among).place
  place_by table (inr none) = record { tree = 0; rules = rules_of table }

  apart_from_edition : (table : Table) (d : IsAmong tables table ⊎ (IsAmong tables table → ⊥)) → IsAmong tables table → (place_by table d).tree ≢ edition
  unfolding place_by
  apart_from_edition table (inl among) h = (each table among).from_edition
  apart_from_edition table (inr none) h = absurd (none h)

  listed_by : (table : Table) (d : IsAmong tables table ⊎ (IsAmong tables table → ⊥)) → IsAmong tables table → Lists schema (table_at table (place_by table d))
  unfolding place_by
  listed_by table (inl among) h = (each table among).listed
  listed_by table (inr none) h = absurd (none h)

  apart_by : (a b : Table) (d : IsAmong tables a ⊎ (IsAmong tables a → ⊥)) (f : IsAmong tables b ⊎ (IsAmong tables b → ⊥)) → IsAmong tables a → IsAmong tables b → a ≢ b → (place_by a d).tree ≢ (place_by b f).tree
  unfolding place_by
  apart_by a b (inl p) (inl q) h k other = (each b q).alone a p other (each a p).place (each a p).listed
  apart_by a b (inr none) f h k other = absurd (none h)
  apart_by a b (inl p) (inr none) h k other = absurd (none k)

  -- tables that are each listed alone are listed
  pub listed_right : AreAllListed tables schema
  listed_right = record {
    edition = record { tree = edition; rules = e.0 };
    places = λ table. place_by table (among_or_not tables table);
    edition_apart = λ table. apart_from_edition table (among_or_not tables table);
    apart = λ a b. apart_by a b (among_or_not tables a) (among_or_not tables b);
    edition_listed = e.1;
    rolls_listed = λ table. listed_by table (among_or_not tables table);
  }

-- tables that are listed are each listed alone
pub listed_each : (tables : List Table) (schema : Schema) (edition : ℕ) → IsListed (table_at Edition) schema edition → AreAllListed tables schema → (table : Table) → IsAmong tables table → IsListedAlone tables edition schema table
listed_each tables schema edition e l table among =
    let there : l.edition.tree ≡ edition = listed_at_one Edition schema l.edition (record { tree = edition; rules = e.0 }) l.edition_listed e.1 in
    record {
      place = l.places table;
      listed = l.rolls_listed table among;
      from_edition = subst (λ n. (l.places table).tree ≢ n) there (l.edition_apart table among);
      alone = λ other beside apart place listed same. l.apart other table beside among apart (sym (listed_at_one other schema place (l.places other) listed (l.rolls_listed other beside)) ∙ same);
    }

-- where one of the tables isn't listed, they aren't
pub no_edition : (tables : List Table) (schema : Schema) → IsUnlisted (table_at Edition) schema → AreAllListed tables schema → ⊥
no_edition tables schema none l = none l.edition l.edition_listed

pub has_mapped : {X Y : Type 0} (f : X → Y) (xs : List X) (x : X) → Has xs x → Has (map f xs) (f x)
has_mapped f [] x h = h
has_mapped f (y ∷ xs) x (inl same) = inl (ap f same)
has_mapped f (y ∷ xs) x (inr h) = inr (has_mapped f xs x h)

-- a table with columns that no row has
pub holds_none : (table : Table) (all : List Values) (one : Values) (old new : Seen) → Shows (table_at table) all old new → Has all one → IsNoRow table (drop 1 one) → HoldsNoRow table old.now
holds_none table all one old new shows among none = record { all = map (drop 1) all; columns = drop 1 one; among = has_mapped (drop 1) all one among; none = none; holds = shows.stands }
