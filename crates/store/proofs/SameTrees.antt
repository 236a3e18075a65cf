-- Two databases with the same trees list the same tables, so these hold the same rows, in one edition, and the rows determine the office.
use Rattle.store.proofs.Common.{IsPermutation, IsPermutation-trans, IsPermutation-sym, IsPermutation-same, Database, IsDatabase, Values, AnyTable, Has, Table, Choice, Edition, RoundAim, Place, cells, table_at, Stands, listed_once, AllRows, RowOf, SameRows, of_table, IsFit, AreRowsOf, State, AnEdition, First, Second, Third, HaveNoLater, migrated_rows, rows_in_edition, all_tables, values, beyond, latest, number_of, rolls_of, HasNoneOf, HoldIn, Opens, StandsIn, TablesOf, numbered, ◌≡◌, ◌⊎◌, ◌<◌, arith, ℕ, List, refl, sym, subst, ◌∙◌, map, inl, inr, all-map, map_back, Cells, same_table, [], ◌∷◌, ◌++◌, Bool, true, cond, ap, append-nil, false}
use Rattle.sql_tables.proofs.SameTrees.{listed_so, stands_so}
use Rattle.office.proofs.changes.Determine.{rows_determine}
use Rattle.store.specs.Laws.{OpensAgain}
use Rattle.store.proofs.Among.{among_or_not, is_among}
use Rattle.store.proofs.Standing.{in_latest, stand_as, rows_permuted}
use Rattle.schema.specs.Rows.{all_tables}
use Rattle.office.proofs.changes.Keyed.{filter_alike}
use Rattle.store.proofs.ReadRows.{of_both}
use Rattle.store.proofs.MigratingRows.{rows_migrate}

-- rows of one table
abbrev of_one : Table → List Cells → List RowOf
of_one q rows = map (λ cells. record { table = q; cells = cells }) rows

gathered_in : List Table → AllRows → List RowOf
gathered_in [] rows = []
gathered_in (q ∷ qs) rows = of_one q (rows q) ++ gathered_in qs rows

-- those of all
pub gathered : AllRows → List RowOf
gathered = gathered_in all_tables

-- what is found of a table among the rows of these
found_in : List Table → AllRows → Table → List Cells
found_in [] rows table = []
found_in (q ∷ qs) rows table = cond (same_table table q) (rows q) [] ++ found_in qs rows table

found_one : (q : Table) (rows : List Cells) (table : Table) → of_table (of_one q rows) table ≡ cond (same_table table q) rows []
found_one q rows table = ap (map (λ r. r.cells)) (filter_alike (λ r. same_table table r.table) (same_table table q) (of_one q rows) (all-map _ _ (λ c. refl) rows)) ∙ by (same_table table q)
  where
    by : (b : Bool) → map (λ r. r.cells) (cond b (of_one q rows) []) ≡ cond b rows []
    by true = map_back (λ cells. record { table = q; cells = cells }) (λ (r : RowOf). r.cells) (λ c. refl) rows
    by false = refl

found_so : (qs : List Table) (rows : AllRows) (table : Table) → of_table (gathered_in qs rows) table ≡ found_in qs rows table
unfolding gathered_in found_in
found_so [] rows table = refl
found_so (q ∷ qs) rows table = of_both (of_one q (rows q)) (gathered_in qs rows) table ∙ (λ i. found_one q (rows q) table i ++ found_so qs rows table i)

found_all : (rows : AllRows) (table : Table) → found_in all_tables rows table ≡ rows table
unfolding found_in
found_all rows Edition = append-nil (rows Edition)
found_all rows table = append-nil (rows table)

-- of each table they are its rows
pub of_gathered : (rows : AllRows) (table : Table) → of_table (gathered rows) table ≡ rows table
unfolding gathered
of_gathered rows table = found_so all_tables rows table ∙ found_all rows table

-- so their tables hold the same rows
pub holds_so : (tables : List Table) (number : ℕ) (a b : Database) (rows : AllRows) → IsDatabase a → IsDatabase b → b.trees ≡ a.trees → TablesOf tables number a rows → TablesOf tables number b rows
holds_so tables number a b rows p q trees t =
    let all = listed_so a b p q trees in
    stand_as tables number number a b rows t (stands_so (table_at Edition) t.edition (numbered number) a b all trees t.editions)
    (λ table among. stands_so (table_at table) (t.places table) (map values (rows table)) a b all trees (t.rolls table among))

-- what a table holds it holds at one place
held_once : (table : Table) (p q : Place) (xs ys : List Values) (db : Database) → Stands (table_at table) p xs db → Stands (table_at table) q ys db → IsPermutation xs ys
held_once table p q xs ys db s t =
    let same : table_at table p ≡ table_at table q = listed_once db.schema (table_at table) p q refl s.listed t.listed in
    IsPermutation-trans _ _ _ (subst (λ (it : AnyTable). IsPermutation xs (map (cells it) (db.trees it.tree))) same s.holds) (IsPermutation-sym _ _ t.holds)

-- the tables hold the same rows, in whatever order
same_rows : (e : AnEdition) (db : Database) (rows others : AllRows) → HoldIn e db rows → HoldIn e db others → SameRows rows others
same_rows e db rows others s t table = elim (among_or_not (rolls_of e) table) [
  | inl among ↦ rows_permuted _ _ (held_once table (s.places table) (t.places table) (map values (rows table)) (map values (others table)) db (s.rolls table among) (t.rolls table among))
  | inr away ↦ IsPermutation-same _ _ (s.none table away ∙ sym (t.none table away))
]

-- a table that is listed is there
listed_there : (table : Table) (place : Place) (held : List Values) (db : Database) (tables : List Table) → Stands (table_at table) place held db → Has tables table → HasNoneOf tables db.schema → ⊥
listed_there table place held db tables stands among none =
    let missing = none table among in
    let there = stands.listed.named in
    absurd (let e = rw there at missing in cc)

-- two editions are one, or a table of the later one is beyond the other
pub record Apart (e f : AnEdition) : Type 0 where
  pub table : Table
  pub there : Has (rolls_of e) table
  pub beyond : Has (beyond f) table
  pub later : number_of f < number_of e

pub one_or_apart : (e f : AnEdition) → (e ≡ f) ⊎ (Apart e f ⊎ Apart f e)
one_or_apart First First = inl refl
one_or_apart First Second = inr (inr (record { table = RoundAim; there = inr (inr (inr (inr (inr (inr (inr (inl refl))))))); beyond = inl refl; later = omega arith }))
one_or_apart First Third = inr (inr (record { table = RoundAim; there = inr (inr (inr (inr (inr (inr (inr (inl refl))))))); beyond = inl refl; later = omega arith }))
one_or_apart Second First = inr (inl (record { table = RoundAim; there = inr (inr (inr (inr (inr (inr (inr (inl refl))))))); beyond = inl refl; later = omega arith }))
one_or_apart Second Second = inl refl
one_or_apart Second Third = inr (inr (record { table = Choice; there = inr (inr (inr (inr (inr (inr (inr (inr (inl refl)))))))); beyond = inl refl; later = omega arith }))
one_or_apart Third First = inr (inl (record { table = RoundAim; there = inr (inr (inr (inr (inr (inr (inr (inl refl))))))); beyond = inl refl; later = omega arith }))
one_or_apart Third Second = inr (inl (record { table = Choice; there = inr (inr (inr (inr (inr (inr (inr (inr (inl refl)))))))); beyond = inl refl; later = omega arith }))
one_or_apart Third Third = inl refl

-- tables that hold rows in an edition are not all missing
pub not_beyond : (e f : AnEdition) (db : Database) (rows : AllRows) → HoldIn e db rows → Apart e f → HasNoneOf (beyond f) db.schema → ⊥
not_beyond e f db rows t apart = listed_there apart.table (t.places apart.table) (map values (rows apart.table)) db (beyond f) (t.rolls apart.table (is_among (rolls_of e) apart.table apart.there)) apart.beyond

-- no row of an office in an edition is of a later one
none_later : (e : AnEdition) (list : List RowOf) (office : State) → ((table : Table) → of_table list table ≡ rows_in_edition e office table) → HaveNoLater e list
none_later First list office at = at RoundAim
none_later Second list office at = tt
none_later Third list office at = tt

-- the tables stand for one office in an edition
one_office : (e : AnEdition) (db : Database) (office again : State) → StandsIn e db office → StandsIn e db again → IsFit office → IsFit again → again ≡ office
one_office e db office again s t fit fits =
    let list = gathered (rows_in_edition e office) in
    let at = of_gathered (rows_in_edition e office) in
    let none = none_later e list office at in
    let same = same_rows e db (rows_in_edition e office) (rows_in_edition e again) s.holds t.holds in
    let of : AreRowsOf (migrated_rows e list) office = (rows_migrate e list office none fit).0 (record { same = λ table. IsPermutation-same _ _ (at table); allowed = s.allowed }) in
    let of_again : AreRowsOf (migrated_rows e list) again = (rows_migrate e list again none fits).0 (record { same = λ table. IsPermutation-trans _ _ _ (IsPermutation-same _ _ (at table)) (same table); allowed = t.allowed }) in
    rows_determine again office fits fit (λ table. IsPermutation-trans _ _ _ (IsPermutation-sym _ _ (of_again table)) (of table))

-- so do those of two databases with the same trees, in any editions
same_office : (e f : AnEdition) (db found : Database) (office again : State) → IsDatabase db → IsDatabase found → found.trees ≡ db.trees → StandsIn e db office → StandsIn f found again → IsFit office → IsFit again
    → again ≡ office
same_office e f db found office again sound here trees s t fit fits = elim (one_or_apart e f) [
  | inl same ↦ one_office f found office again
      (subst (λ it. StandsIn it found office) same (record { holds = held; allowed = s.allowed; alone = subst (λ it. HasNoneOf (beyond it) found.schema) (sym same) t.alone })) t fit fits
  | inr (inl apart) ↦ absurd (not_beyond e f found (rows_in_edition e office) (holds_so (rolls_of e) (number_of e) db found (rows_in_edition e office) sound here trees s.holds) apart t.alone)
  | inr (inr apart) ↦ absurd (not_beyond f e db (rows_in_edition f again) (holds_so (rolls_of f) (number_of f) found db (rows_in_edition f again) here sound (sym trees) t.holds) apart s.alone)
]
  where
    held : HoldIn e found (rows_in_edition e office)
    held = holds_so (rolls_of e) (number_of e) db found (rows_in_edition e office) sound here trees s.holds

-- what is opened from the trees alone
pub opens_again : OpensAgain
opens_again e db found opened office again sound here trees stands fit fits (inl made) =
    let held = holds_so (rolls_of e) (number_of e) db found (rows_in_edition e office) sound here trees stands.holds in
    absurd (listed_there Edition held.edition (numbered (number_of e)) found all_tables held.editions (inl refl) made.0)
opens_again e db found opened office again sound here trees stands fit fits (inr (inl is)) =
    same_office e latest db found office again sound here trees stands (in_latest is.1) fit fits
opens_again e db found opened office again sound here trees stands fit fits (inr (inr migrated)) =
    same_office e migrated.edition db found office again sound here trees stands migrated.stood fit fits
