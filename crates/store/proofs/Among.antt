-- The tables of the editions: which is among which, and that none comes twice.
use Rattle.store.proofs.Common.{◌&&◌, ◌||◌, false, first_so, list_any, list_all, and_parts, or_parts, not-true, get_or_default, Has, has_at, some_from, Table, Choice, Edition, Placement, RoundAim, IsPart, IsRow, PartOf, RowOf, are_of, kinds_of, of_table, same_table, shared_kinds, table_of, same_table_is, same_table_self, decide_table, AnEdition, First, Second, Third, HaveNoLater, olds, beyond, rolls_of, IsRollTable, rolls, ◌≡◌, ◌≢◌, ◌⊎◌, inl, inr, ℕ, zero, suc, ◌<◌, List, [], ◌∷◌, ◌++◌, length, get_or, take, Bool, true, not, refl, sym, ap, ◌∙◌, arith, true≢false}
use Rattle.store.specs.Rows.{IsAmong}

unfoldable pub are_once : List Table → Bool
are_once [] = true
are_once (r ∷ rs) = not (list_any (same_table r) rs) && are_once rs

once_in : (all : List Table) (d : Table) → are_once all ≡ true → (i : ℕ) → i < length all → Has (take i all) (get_or all i d) → ⊥
unfolding are_once
once_in [] d once i low h = absurd (omega (arith, low))
once_in (r ∷ rs) d once zero low h = h
once_in (r ∷ rs) d once (suc i) low (inl same) =
    let there : Has rs (get_or rs i d) = has_at rs i (get_or rs i d) (omega (arith, low)) (get_or_default rs i d (get_or rs i d) (omega (arith, low))) in
    true≢false (sym (some_from (same_table r) rs (get_or rs i d) there (ap (same_table r) same ∙ same_table_self r)) ∙ not-true _ (and_parts _ _ once).0)
once_in (r ∷ rs) d once (suc i) low (inr h) = once_in rs d (and_parts _ _ once).1 i (omega (arith, low)) h

pub once : (e : AnEdition) → are_once (rolls_of e) ≡ true
unfolding are_once
once First = refl
once Second = refl
once Third = refl

-- no table comes twice
pub not_before : (tables : List Table) → are_once tables ≡ true → (d : Table) (i : ℕ) → i < length tables → Has (take i tables) (get_or tables i d) → ⊥
not_before tables alone d i low h = once_in tables d alone i low h

-- each edition has tables
pub some_tables : (e : AnEdition) → length (rolls_of e) ≢ 0
some_tables First none = cc
some_tables Second none = cc
some_tables Third none = cc

-- a table that is tested to be none of these is none
pub not_among : (p : Table) (tables : List Table) → list_any (same_table p) tables ≡ false → (table : Table) → Has tables table → table ≢ p
not_among p [] none table h e = absurd h
not_among p (q ∷ qs) none table (inl is) e = true≢false (sym (same_table_self p) ∙ ap (same_table p) (sym e ∙ is) ∙ (or_parts (same_table p q) (list_any (same_table p) qs) none).0)
not_among p (q ∷ qs) none table (inr h) e = not_among p qs (or_parts (same_table p q) (list_any (same_table p) qs) none).1 table h e

-- a table that is tested to be one of these is among them
pub tested_among : (tables : List Table) (p : Table) → list_any (same_table p) tables ≡ true → Has tables p
tested_among [] p h = cc
tested_among (q ∷ qs) p h = by (same_table p q) refl h (tested_among qs p)
  where
    by : (b : Bool) → same_table p q ≡ b → (b || list_any (same_table p) qs) ≡ true → (list_any (same_table p) qs ≡ true → Has qs p) → (p ≡ q) ⊎ Has qs p
    by true same h rest = inl (same_table_is p q same)
    by false other h rest = inr (rest h)

-- the tables of earlier editions are there in each edition
olds_tested : (e : AnEdition) → list_all (λ old. list_any (same_table old) (rolls_of e)) olds ≡ true
olds_tested First = refl
olds_tested Second = refl
olds_tested Third = refl

all_tested : (test : Table → Bool) (tables : List Table) → list_all test tables ≡ true → (table : Table) → Has tables table → test table ≡ true
all_tested test [] all table h = absurd h
all_tested test (t ∷ ts) all table (inl is) = ap test is ∙ (and_parts _ _ all).0
all_tested test (t ∷ ts) all table (inr h) = all_tested test ts (and_parts _ _ all).1 table h

pub old_among : (e : AnEdition) (table : Table) → IsAmong olds table → IsAmong (rolls_of e) table
unfolding IsAmong
old_among e table h = tested_among (rolls_of e) table (all_tested (λ old. list_any (same_table old) (rolls_of e)) olds (olds_tested e) table h)

-- no roll is the edition
pub apart_edition : (table : Table) → IsRollTable table → table ≢ Edition
unfolding IsAmong
apart_edition table h e = not_among Edition rolls refl table h e

-- each table but that of the edition is one of the rolls
pub in_rolls : (table : Table) → same_table table Edition ≡ false → IsRollTable table
unfolding IsAmong
in_rolls table h = tested_among rolls table (by table h)
  where
    by : (table : Table) → same_table table Edition ≡ false → list_any (same_table table) rolls ≡ true
    by Edition h = absurd (cc)
    by _ h = refl

pub row_in_rolls : (r : RowOf) → IsRow r → IsRollTable r.table
row_in_rolls r h = in_rolls r.table (not-true _ (first_so (not (same_table r.table Edition)) (are_of (kinds_of r.table) r.cells) h))

pub part_in_rolls : (p : PartOf) → IsPart p → IsRollTable (table_of p)
part_in_rolls p h = in_rolls (table_of p) (not-true _ (first_so (not (same_table (table_of p) Edition)) (are_of (shared_kinds p.group) p.cells) h))

-- a table that is among others stands in their list
pub stands_among : (tables : List Table) (table : Table) → IsAmong tables table → Has tables table
unfolding IsAmong
stands_among tables table h = h

-- and what stands there is among them
pub is_among : (tables : List Table) (table : Table) → Has tables table → IsAmong tables table
unfolding IsAmong
is_among tables table h = h

has_or_not : (all : List Table) (table : Table) → Has all table ⊎ (Has all table → ⊥)
has_or_not [] table = inr (λ h. h)
has_or_not (q ∷ qs) table = elim (decide_table table q) [
  | inl same ↦ inl (inl same)
  | inr other ↦ elim (has_or_not qs table) [ inl among ↦ inl (inr among) | inr none ↦ inr (λ h. elim h [ inl same ↦ other same | inr later ↦ none later ]) ]
]

-- a table is among these, or it isn't
pub among_or_not : (tables : List Table) (table : Table) → IsAmong tables table ⊎ (IsAmong tables table → ⊥)
unfolding IsAmong
among_or_not tables table = has_or_not tables table

-- what is among the first is among them all
pub has_left : (tables more : List Table) (table : Table) → Has tables table → Has (tables ++ more) table
has_left [] more table h = absurd h
has_left (q ∷ tables) more table (inl same) = inl same
has_left (q ∷ tables) more table (inr h) = inr (has_left tables more table h)

-- a table that later editions have is none of an edition
pub fresh_beyond : (e : AnEdition) (table : Table) → Has (beyond e) table → IsAmong (rolls_of e) table → ⊥
unfolding IsAmong
fresh_beyond First table (inl is) there = not_among RoundAim (rolls_of First) refl table there is
fresh_beyond First table (inr (inl is)) there = not_among Choice (rolls_of First) refl table there is
fresh_beyond First table (inr (inr (inl is))) there = not_among Placement (rolls_of First) refl table there is
fresh_beyond First table (inr (inr (inr h))) there = absurd h
fresh_beyond Second table (inl is) there = not_among Choice (rolls_of Second) refl table there is
fresh_beyond Second table (inr (inl is)) there = not_among Placement (rolls_of Second) refl table there is
fresh_beyond Second table (inr (inr h)) there = absurd h
fresh_beyond Third table h there = absurd h

-- rows of the tables of an edition alone have none of a later one
pub none_later : (e : AnEdition) (rows : List RowOf) → ((table : Table) → (IsAmong (rolls_of e) table → ⊥) → of_table rows table ≡ []) → HaveNoLater e rows
none_later First rows none = none RoundAim (fresh_beyond First RoundAim (inl refl))
none_later Second rows none = tt
none_later Third rows none = tt
