-- Tables that hold rows, seen anew: under another number, in another database, in another order.
use Rattle.store.proofs.Common.{IsPermutation-map, IsPermutation-sym, IsPermutation-trans, Database, State, Table, Edition, AllRows, SameRows, table_at, Stands, latest, IsAmong, values, StandsFor, StandsIn, TablesOf, numbered, ℕ, List, map, IsPermutation, length_permutation, along_permutation, map_back, Value, Has, Cell, Text, Number, Bytes, Cells, value_of, ◌≡◌, inl, inr, [], ◌∷◌, refl, ap, subst₂, ◌∙◌, pos, length, arith}
use Rattle.sqlite.specs.declared.types.Value.TheVariants as value

module _ {X : Type 0} where
  abbrev Among : List X → List X → Type 0
  Among xs ys = (y : X) → Has xs y → Has ys y

  under : (x : X) (xs ys : List X) → Among xs ys → Among (x ∷ xs) (x ∷ ys)
  under x xs ys f y (inl same) = inl same
  under x xs ys f y (inr h) = inr (f y h)

  turned : (x y : X) (xs : List X) → Among (x ∷ y ∷ xs) (y ∷ x ∷ xs)
  turned x y xs z (inl same) = inr (inl same)
  turned x y xs z (inr (inl same)) = inl same
  turned x y xs z (inr (inr h)) = inr (inr h)

  -- what is among rows is among them in any order
  pub has_permuted : (xs ys : List X) → IsPermutation xs ys → Among xs ys
  has_permuted = along_permutation Among (λ xs y h. h) under turned (λ xs ys zs f g y h. g y (f y h))

  nothing : (xs : List X) → length xs ≡ 0 → xs ≡ []
  nothing [] none = refl
  nothing (x ∷ xs) none = absurd (omega (arith, none))

  -- no rows are none in any order
  pub none_permuted : (xs ys : List X) → IsPermutation xs ys → xs ≡ [] → ys ≡ []
  none_permuted xs ys same none = nothing ys (length_permutation xs ys same ∙ ap length none)

-- ---- rows from their columns

-- the cell of a value
cell_in : Value → Cell
cell_in (value.Text text) = Text text
cell_in (value.Int (pos n)) = Number n
cell_in (value.Blob bytes) = Bytes bytes
cell_in _ = Number 0

own_value : (c : Cell) → cell_in (value_of c) ≡ c
unfolding cell_in
own_value (Text text) = refl
own_value (Number n) = refl
own_value (Bytes bytes) = refl

-- rows whose columns are the same are the same
pub rows_permuted : (xs ys : List Cells) → IsPermutation (map values xs) (map values ys) → IsPermutation xs ys
rows_permuted xs ys same =
    let back : (rows : List Cells) → map (map cell_in) (map values rows) ≡ rows = map_back values (map cell_in) (map_back value_of cell_in own_value) in
    subst₂ IsPermutation (back xs) (back ys) (IsPermutation-map (map cell_in) _ _ same)

-- the same places, where each table stands in another database
pub stand_as : (tables : List Table) (number other : ℕ) (old new : Database) (rows : AllRows) (t : TablesOf tables number old rows)
    → Stands (table_at Edition) t.edition (numbered other) new → ((table : Table) → IsAmong tables table → Stands (table_at table) (t.places table) (map values (rows table)) new) → TablesOf tables other new rows
stand_as tables number other old new rows t editions rolls = record { edition = t.edition; places = t.places; edition_apart = t.edition_apart; apart = t.apart; none = t.none; editions = editions; rolls = rolls }

-- tables hold the same rows in another order
pub hold_same : (tables : List Table) (number : ℕ) (db : Database) (rows others : AllRows) → SameRows rows others → TablesOf tables number db rows → TablesOf tables number db others
hold_same tables number db rows others same t = record {
  edition = t.edition;
  places = t.places;
  edition_apart = t.edition_apart;
  apart = t.apart;
  none = λ table away. none_permuted _ _ (same table) (t.none table away);
  editions = t.editions;
  rolls = λ table among.
      let there = t.rolls table among in
      record { listed = there.listed; keyed = there.keyed; holds = IsPermutation-trans _ _ _ (IsPermutation-sym _ _ (IsPermutation-map values _ _ (same table))) there.holds };
}

-- in the latest edition no table is missing, and each office may stand
pub in_latest : {db : Database} {office : State} → StandsFor db office → StandsIn latest db office
in_latest stands = record { holds = stands; allowed = tt; alone = λ table none. absurd none }
