-- The rows of all tables, read cell by cell and one table after another; what was read says whether the tables stand for a fit office.
use Rattle.store.proofs.Common.{IsPermutation, IsPermutation-trans, IsPermutation-sym, length_permutation, Has, Values, column, Value, Int, Database, Seen, IsLive, Place, Lists, table_at, Stands, Shows, low_tree, State, Table, Edition, AllRows, RowOf, of_table, AnEdition, AreRowsIn, rows_in_edition, number_of, rolls_of, IsAmong, values, HoldIn, StandsIn, numbered, AreAllListed, IsUnfitIn, HoldsColumns, HoldsNoRow, IsPermutation-same, ◌≡◌, ◌≢◌, ℕ, List, [], ◌∷◌, map, drop, refl, sym, ap, subst, nat_lt, ◌^◌, true, IsTrue, length, arith, inl, inr, pos, get_or, ◌∙◌, take_all, take_more, get_or_default, has_either, has_left, has_right, has_at, IsUnchanged, Cells, ReadsTable, ReadsSome, ReadsAll, HoldsUnread, decide_table, ◌⊎◌, ◌+◌, ◌<◌, take, ◌++◌, append-nil, AllByRecursion, second_so, and_parts, and_from, map-append, Null, Cell, are_of, is_of, kinds_of, same_table, value_of, IsNoRow, IsTyped, ReadsCells, zero, suc, not}
use Rattle.store.proofs.Among.{among_or_not, are_once, is_among, not_before, stands_among}
use Rattle.store.proofs.Standing.{has_permuted, rows_permuted}
use Rattle.store.proofs.Fitness.{fit_rows, one_of_all}
use Rattle.std.proofs.lemmas.List.Elements.{filter-append}
use Rattle.schema.specs.declared.cell.Kind.{Kind}

-- ---- a row

get_next : (columns : Values) (i : ℕ) → get_or (drop 1 columns) i Null ≡ get_or columns (suc i) Null
get_next [] i = refl
get_next (v ∷ vs) i = refl

of_one_more : (kinds : List Kind) (cells : Cells) (i : ℕ) (k : Kind) (c : Cell) → i < length kinds → k ≡ get_or kinds i k → is_of k c ≡ true → are_of (take i kinds) cells ≡ true → are_of (take (suc i) kinds) (cells ++ c ∷ []) ≡ true
of_one_more [] cells i k c low is one so_far = absurd (omega (arith, low))
of_one_more (l ∷ kinds) [] zero k c low is one so_far = and_from _ _ (subst (λ m. is_of m c ≡ true) is one) refl
of_one_more (l ∷ kinds) (d ∷ cells) zero k c low is one so_far = absurd (cc)
of_one_more (l ∷ kinds) [] (suc i) k c low is one so_far = absurd (cc)
of_one_more (l ∷ kinds) (d ∷ cells) (suc i) k c low is one so_far =
    let parts = and_parts _ _ so_far in and_from _ _ parts.0 (of_one_more kinds cells i k c (omega (arith, low)) is one parts.1)

-- one cell more was read
pub cells_more : (kinds : List Kind) (columns : Values) (i : ℕ) (cells : Cells) (cell : Cell) (k : Kind) → length columns ≡ length kinds + 1 → i < length kinds → k ≡ get_or kinds i k
    → column columns (i + 1) ≡ value_of cell → is_of k cell ≡ true → ReadsCells kinds columns i cells → ReadsCells kinds columns (i + 1) (cells ++ cell ∷ [])
cells_more kinds [] i cells cell k long low is value one so_far = absurd (omega (arith, long))
cells_more kinds (v ∷ columns) i cells cell k long low is value one so_far = record {
  cells_are =
      map-append value_of cells (cell ∷ []) ∙ (λ j. so_far.cells_are j ++ (sym value ∙ ap (λ n. get_or (v ∷ columns) n Null) next) j ∷ [])
      ∙ sym (take_more columns i Null (omega (arith, long, low)));
  kinds_are = ap (λ n. are_of (take n kinds) (cells ++ cell ∷ [])) next ∙ of_one_more kinds cells i k cell low is one so_far.kinds_are;
}
  where
    next : i + 1 ≡ suc i
    next = omega arith

no_cell : (kinds : List Kind) (i : ℕ) (k : Kind) (rest : Values) → i < length kinds → k ≡ get_or kinds i k → ((cell : Cell) → IsTyped cell → is_of k cell ≡ true → get_or rest i Null ≢ value_of cell)
    → (cells : Cells) → are_of kinds cells ≡ true → AllByRecursion IsTyped cells → values cells ≢ rest
no_cell [] i k rest low is none cells are typed same = absurd (omega (arith, low))
no_cell (l ∷ kinds) i k rest low is none [] are typed same = absurd (cc)
no_cell (l ∷ kinds) zero k rest low is none (c ∷ cells) are typed same =
    none c typed.0 (subst (λ m. is_of m c ≡ true) (sym is) (and_parts _ _ are).0) (ap (λ (xs : Values). get_or xs 0 Null) (sym same))
no_cell (l ∷ kinds) (suc i) k rest low is none (c ∷ cells) are typed same =
    no_cell kinds i k (drop 1 rest) (omega (arith, low)) is (λ cell t one h. none cell t one (sym (get_next rest i) ∙ h)) cells (and_parts _ _ are).1 typed.1 (ap (drop 1) same)

-- where a column is no cell of its kind no row has the columns
pub no_row : (table : Table) (kinds : List Kind) → kinds ≡ kinds_of table → (columns : Values) (i : ℕ) (k : Kind) → i < length kinds → k ≡ get_or kinds i k
    → ((cell : Cell) → IsTyped cell → is_of k cell ≡ true → column columns (i + 1) ≢ value_of cell) → IsNoRow table (drop 1 columns)
no_row table kinds as_kinds columns i k low is none cells typed same =
    no_cell kinds i k (drop 1 columns) low is (λ cell t one h. none cell t one (ap (λ n. get_or columns n Null) next ∙ sym (get_next columns i) ∙ h)) cells
    (subst (λ ks. are_of ks cells ≡ true) (sym as_kinds) (second_so (not (same_table table Edition)) (are_of (kinds_of table) cells) typed.0)) typed.1 same
  where
    next : i + 1 ≡ suc i
    next = omega arith

-- ---- rows

-- the rows of a table among those of two lists
pub of_both : (rows more : List RowOf) (table : Table) → of_table (rows ++ more) table ≡ of_table rows table ++ of_table more table
of_both rows more table = ap (map (λ r. r.cells)) (filter-append (λ r. same_table table r.table) rows more) ∙ map-append (λ r. r.cells) _ _

-- columns that are held are still held where nothing has changed
pub holds_back : (table : Table) (all : List Values) (old new : Database) → new ≡ old → HoldsColumns table all new → HoldsColumns table all old
holds_back table all old new same = subst (HoldsColumns table all) same

-- the same of columns that no row has
pub none_back : (table : Table) (old new : Database) → new ≡ old → HoldsNoRow table new → HoldsNoRow table old
none_back table old new same = subst (HoldsNoRow table) same

-- two readings that changed nothing
pub unchanged_then : (a b c : Seen) → IsUnchanged a b → IsUnchanged b c → IsUnchanged a c
unchanged_then a b c p q = (
  record {
    was_open = p.0.was_open;
    is_open = q.0.is_open;
    now_is = q.0.now_is ∙ p.0.now_is;
    committed_is = q.0.committed_is ∙ p.0.committed_is;
    mode = q.0.mode ∙ p.0.mode;
  },
  record { changes = q.1.changes ∙ p.1.changes; last_rowid = q.1.last_rowid ∙ p.1.last_rowid },
  q.2 ∙ p.2,
)

-- a connection that is open after readings was open before them
was_open : (tables : List Table) (count : ℕ) (rows : List RowOf) (a b : Seen) → ReadsSome tables count rows a b → IsTrue b.is_open → IsTrue a.is_open
was_open tables count rows a b s up = elim s.opened [ inl none ↦ subst IsTrue none.1 up | inr was ↦ was ]

module _ (tables : List Table) (alone : are_once tables ≡ true) (i : ℕ) (d : Table) (rows more : List RowOf) (a b c : Seen) (low : i < length tables) (s : ReadsSome tables i rows a b) (r : ReadsTable (get_or tables i d) more b c) where
  abbrev q : Table
  q = get_or tables i d

  open_a : IsTrue a.is_open
  open_a = was_open tables i rows a b s r.same.0.was_open

  last : (table : Table) → Has (take (i + 1) tables) table → Has (take i tables) table ⊎ (table ≡ q)
  last table h = elim (has_either (take i tables) (q ∷ []) table (subst (λ rs. Has rs table) (take_more tables i d low) h)) [ inl early ↦ inl early | inr (inl same) ↦ inr same | inr (inr none) ↦ absurd none ]

  first : (table : Table) → Has (take i tables) table → Has (take (i + 1) tables) table
  first table h = subst (λ rs. Has rs table) (sym (take_more tables i d low)) (has_left (take i tables) (q ∷ []) table h)

  its_own : Has (take (i + 1) tables) q
  its_own = subst (λ rs. Has rs q) (sym (take_more tables i d low)) (has_right (take i tables) (q ∷ []) q (inl refl))

  beside : (table : Table) → table ≢ q → of_table (rows ++ more) table ≡ of_table rows table
  beside table other = of_both rows more table ∙ ap (λ xs. of_table rows table ++ xs) (r.others table other) ∙ append-nil (of_table rows table)

  own : of_table (rows ++ more) q ≡ of_table more q
  own = of_both rows more q ∙ ap (λ xs. xs ++ of_table more q) (s.others q (not_before tables alone d i low))

  holds_as : (table : Table) (xs ys : List Cells) → xs ≡ ys → HoldsColumns table (map values ys) a.now → HoldsColumns table (map values xs) a.now
  holds_as table xs ys same = subst (λ rows. HoldsColumns table (map values rows) a.now) (sym same)

  holds_at : (table : Table) → (table ≡ q) ⊎ (table ≢ q) → Has (take (i + 1) tables) table → HoldsColumns table (map values (of_table (rows ++ more) table)) a.now
  holds_at table (inl same) h =
      subst (λ x. HoldsColumns x (map values (of_table (rows ++ more) x)) a.now) (sym same) (holds_as q _ _ own (subst (HoldsColumns q (map values (of_table more q))) (s.same open_a).0.now_is r.holds))
  holds_at table (inr other) h = elim (last table h) [
    | inl early ↦ holds_as table _ _ (beside table other) (s.holds table early)
    | inr same ↦ absurd (other same)
  ]

  -- one table more was read
  pub reads_more : ReadsSome tables (i + 1) (rows ++ more) a c
  reads_more = record {
    opened = inr open_a;
    same = λ up. unchanged_then a b c (s.same up) r.same;
    holds = λ table. holds_at table (decide_table table q);
    others = λ table away. beside table (λ same. away (subst (Has (take (i + 1) tables)) (sym same) its_own)) ∙ s.others table (λ early. away (first table early));
  }

-- each of some tables was read
pub reads_all : (tables : List Table) → length tables ≢ 0 → (i : ℕ) (rows : List RowOf) (a b : Seen) → i ≡ length tables → ReadsSome tables i rows a b → ReadsAll tables rows a b
reads_all tables some i rows a b end s =
    let all : take i tables ≡ tables = take_all i tables (omega (arith, end)) in
    record {
      same = elim s.opened [ inl none ↦ absurd (some (sym end ∙ none.0)) | inr up ↦ s.same up ];
      holds = λ table among. s.holds table (subst (λ ts. Has ts table) (sym all) (stands_among tables table among));
      others = λ table away. s.others table (λ h. away (is_among tables table (subst (λ ts. Has ts table) all h)));
    }

-- a table that could not be read, after those that were
pub unread_then : (tables : List Table) (i : ℕ) (d : Table) (rows : List RowOf) (a b : Seen) → i < length tables → ReadsSome tables i rows a b → IsTrue b.is_open × HoldsNoRow (get_or tables i d) b.now → HoldsUnread tables a
unread_then tables i d rows a b low s h =
    let up = was_open tables i rows a b s h.0 in
    let table = get_or tables i d in
    (up, table, is_among tables table (has_at tables i table low (get_or_default tables i d table low)), subst (HoldsNoRow table) (s.same up).0.now_is h.1)

-- three columns, of which the first is the rowid
two_after : (cells : Values) (a b : Value) → length cells ≡ 3 → column cells 1 ≡ a → column cells 2 ≡ b → ◌≡◌ {A = Values} (a ∷ b ∷ []) (drop 1 cells)
two_after [] a b h p q = absurd (omega (arith, h))
two_after (w ∷ []) a b h p q = absurd (omega (arith, h))
two_after (w ∷ x ∷ []) a b h p q = absurd (omega (arith, h))
two_after (w ∷ x ∷ y ∷ []) a b h p q = λ i. sym p i ∷ sym q i ∷ []
two_after (w ∷ x ∷ y ∷ z ∷ more) a b h p q = absurd (omega (arith, h))

-- one row with these two columns after its rowid is that of the edition with this number
pub is_numbered : (number : ℕ) (all : List Values) (cells : Values) → length all ≡ 1 → cells ≡ get_or all 0 cells → length cells ≡ 3 → column cells 1 ≡ Int (pos 1) → column cells 2 ≡ Int (pos number) → map (drop 1) all ≡ numbered number
is_numbered number [] cells one is three p q = absurd (omega (arith, one))
is_numbered number (x ∷ []) cells one is three p q = ap (λ (row : Values). drop 1 row ∷ []) (sym is) ∙ ap (λ (row : Values). row ∷ []) (sym (two_after cells (Int (pos 1)) (Int (pos number)) three p q))
is_numbered number (x ∷ y ∷ more) cells one is three p q = absurd (omega (arith, one))

-- tables that hold rows are listed
pub listed_in : (e : AnEdition) (db : Database) (rows : AllRows) → HoldIn e db rows → AreAllListed (rolls_of e) db.schema
listed_in e db rows t = record {
  edition = t.edition;
  places = t.places;
  edition_apart = t.edition_apart;
  apart = t.apart;
  edition_listed = t.editions.listed;
  rolls_listed = λ table among. (t.rolls table among).listed;
}

-- tables that are listed otherwise stand for no office
pub unlisted : (e : AnEdition) (db : Database) → (AreAllListed (rolls_of e) db.schema → ⊥) → IsUnfitIn e db
unlisted e db none office fit stands = none (listed_in e db (rows_in_edition e office) stands.holds)

one_has : (x : Values) (rows : List Values) → length rows ≡ 1 → ((y : Values) → Has rows y → Has (x ∷ []) y) → rows ≡ x ∷ []
one_has x [] h among = absurd (omega (arith, h))
one_has x (y ∷ []) h among = elim (among y (inl refl)) [ inl same ↦ ap (λ z. z ∷ []) same | inr none ↦ absurd none ]
one_has x (y ∷ z ∷ rows) h among = absurd (omega (arith, h))

-- one row alone is in one order
alone : (x : Values) (rows : List Values) → IsPermutation rows (x ∷ []) → rows ≡ x ∷ []
alone x rows same = one_has x rows (sym (length_permutation rows (x ∷ []) same)) (has_permuted rows (x ∷ []) same)

module _ (s : Seen) (live : IsLive s) (open_ : IsTrue s.is_open) where
  low_at : (table : Table) (place : Place) → Lists s.now.schema (table_at table place) → nat_lt place.tree (2 ^ 31) ≡ true
  low_at table place listed = low_tree s.now.schema s.now.trees (table_at table place) (live open_).0 listed

  -- another number
  pub other_number : (e : AnEdition) (rows : List Values) (new : Seen) → Shows (table_at Edition) rows s new → map (drop 1) rows ≢ numbered (number_of e) → IsUnfitIn e s.now
  other_number e rows new shows other office fit stands =
      let t = stands.holds in
      let here = shows.stands t.edition t.editions.listed (low_at Edition t.edition t.editions.listed) in
      other (alone _ (map (drop 1) rows) (IsPermutation-trans _ _ _ here.holds (IsPermutation-sym _ _ t.editions.holds)))

  -- a table that holds what no row has
  pub unread : (e : AnEdition) (table : Table) → IsAmong (rolls_of e) table → HoldsNoRow table s.now → IsUnfitIn e s.now
  unread e table among n office fit stands =
      let t = stands.holds in
      let there = t.rolls table among in
      let here = n.holds (t.places table) there.listed (low_at table (t.places table) there.listed) in
      let same = IsPermutation-trans _ _ _ here.holds (IsPermutation-sym _ _ there.holds) in
      let it = one_of_all _ values (rows_in_edition e office table) n.columns (fit_rows e office fit table) (has_permuted n.all _ same n.columns n.among) in
      n.none it.0 it.1 it.2

  -- rows that were read, those of the tables of an edition alone
  module _ (e : AnEdition) (rows : List RowOf) (holds : (table : Table) → IsAmong (rolls_of e) table → HoldsColumns table (map values (of_table rows table)) s.now) (others : (table : Table) → (IsAmong (rolls_of e) table → ⊥) → of_table rows table ≡ []) where
    -- they are those of an office that the tables stand for
    pub are_in : (office : State) → StandsIn e s.now office → AreRowsIn e rows office
    are_in office stands =
        let t = stands.holds in
        record {
          same = λ table. elim (among_or_not (rolls_of e) table) [
            | inl among ↦
                let there = t.rolls table among in
                let here = holds table among (t.places table) there.listed (low_at table (t.places table) there.listed) in
                rows_permuted _ _ (IsPermutation-trans _ _ _ here.holds (IsPermutation-sym _ _ there.holds))
            | inr away ↦ IsPermutation-same _ _ (others table away ∙ sym (t.none table away))
          ];
          allowed = stands.allowed;
        }

    -- and the tables hold them
    pub stood : (l : AreAllListed (rolls_of e) s.now.schema) (number : List Values) (mid : Seen) → Shows (table_at Edition) number s mid → map (drop 1) number ≡ numbered (number_of e) → HoldIn e s.now (of_table rows)
    stood l number mid shows is = record {
      edition = l.edition;
      places = l.places;
      edition_apart = l.edition_apart;
      apart = l.apart;
      none = others;
      editions = subst (λ all. Stands (table_at Edition) l.edition all s.now) is (shows.stands l.edition l.edition_listed (low_at Edition l.edition l.edition_listed));
      rolls = λ table among. holds table among (l.places table) (l.rolls_listed table among) (low_at table (l.places table) (l.rolls_listed table among));
    }
