-- Changes one after another: what a change makes of rows in one order it makes of them in any other, and so it is with what is new among
-- them.
use Rattle.office.proofs.changes.Common.{IsPermutation, list_any, IsPermutation-refl, IsPermutation-cons, IsPermutation-map, IsPermutation-sym, IsPermutation-trans, IsPermutation-middle, list_any-IsPermutation, IsPermutation-filter, Table, Change, Put, Add, Remove, AllRows, SameRows, Cells, begins, key_in, same_table, is_in_part, makes, changed, after_change, after_changes, IsFresh, AreFresh, TransformsRows, TransformsFollow, ◌≡◌, Bool, true, false, not, cond, List, [], ◌∷◌, ◌++◌, map, refl, sym, ap, subst, ◌∙◌}
use Rattle.schema.proofs.Tables.{same_table_is, same_table_self}
use Rattle.office.proofs.changes.Same.{from_same}

-- ---- rows in another order

-- what a change makes of rows of its table
same_made : (c : Change) (xs ys : List Cells) → IsPermutation xs ys → IsPermutation (makes c xs) (makes c ys)
same_made (Put r) xs ys h = IsPermutation-map _ xs ys h
same_made (Add r) xs ys h = IsPermutation-cons r.cells xs ys h
same_made (Remove p) xs ys h = IsPermutation-filter (λ row. not (is_in_part p row)) xs ys h

-- of the rows of all tables
pub same_change : (c : Change) (rows others : AllRows) → SameRows rows others → SameRows (after_change c rows) (after_change c others)
same_change c rows others same table = by (same_table table (changed c))
  where
    by : (b : Bool) → IsPermutation (cond b (makes c (rows table)) (rows table)) (cond b (makes c (others table)) (others table))
    by true = same_made c (rows table) (others table) (same table)
    by false = same table

-- and what several make
pub same_changes : (cs : List Change) (rows others : AllRows) → SameRows rows others → SameRows (after_changes cs rows) (after_changes cs others)
same_changes [] rows others same = same
same_changes (c ∷ cs) rows others same = same_changes cs (after_change c rows) (after_change c others) (same_change c rows others same)

-- what is new among rows is new among the same rows
one_fresh : (c : Change) (rows others : AllRows) → SameRows rows others → IsFresh c rows → IsFresh c others
one_fresh (Add r) rows others same fresh = sym (list_any-IsPermutation (begins (key_in r.table r.cells)) (rows r.table) (others r.table) (same r.table)) ∙ fresh
one_fresh _ rows others same fresh = tt

-- so it is with several changes
pub all_fresh : (cs : List Change) (rows others : AllRows) → SameRows rows others → AreFresh cs rows → AreFresh cs others
all_fresh [] rows others same fresh = tt
all_fresh (c ∷ cs) rows others same fresh = (one_fresh c rows others same fresh.0, all_fresh cs (after_change c rows) (after_change c others) (same_change c rows others same) fresh.1)

-- ---- one after another

-- what two lists of changes make
pub after_both : (cs ds : List Change) (rows : AllRows) → after_changes (cs ++ ds) rows ≡ after_changes ds (after_changes cs rows)
after_both [] ds rows = refl
after_both (c ∷ cs) ds rows = after_both cs ds (after_change c rows)

-- and what is new among them
pub fresh_both : (cs ds : List Change) (rows : AllRows) → AreFresh cs rows → AreFresh ds (after_changes cs rows) → AreFresh (cs ++ ds) rows
fresh_both [] ds rows first second = second
fresh_both (c ∷ cs) ds rows first second = (first.0, fresh_both cs ds (after_change c rows) first.1 second)

-- no change transforms no row
pub nothing_transforms : (rows : AllRows) → TransformsRows [] rows rows
nothing_transforms rows = record { fresh = tt; rows = λ table. IsPermutation-refl _ }

pub transforms_follow : TransformsFollow
transforms_follow cs ds old mid new first second = record {
  fresh = fresh_both cs ds old first.fresh (all_fresh ds mid (after_changes cs old) (λ table. IsPermutation-sym _ _ (first.rows table)) second.fresh);
  rows = λ table.
      from_same (ap (λ (rows : AllRows). rows table) (after_both cs ds old))
      (IsPermutation-trans _ _ _ (same_changes ds (after_changes cs old) mid first.rows table) (second.rows table));
}

-- ---- changes of one table

-- the rows of all tables but one are the same
abbrev pub SameElsewhere : Table → AllRows → AllRows → Type 0
SameElsewhere t rows others = (table : Table) → same_table table t ≡ false → IsPermutation (rows table) (others table)

-- a fact of a table holds of each where it holds of that one, and of those that are others
pub by_table : (P : Table → Type 0) (t : Table) → P t → ((table : Table) → same_table table t ≡ false → P table) → (table : Table) → P table
by_table P t here elsewhere table = by (same_table table t) refl
  where
    by : (b : Bool) → same_table table t ≡ b → P table
    by true is = subst P (sym (same_table_is table t is)) here
    by false is = elsewhere table is

-- a change transforms the rows of its table, and leaves the others
pub change_here : (c : Change) (rows : AllRows) → after_change c rows (changed c) ≡ makes c (rows (changed c))
change_here c rows = ap (λ b. cond b (makes c (rows (changed c))) (rows (changed c))) (same_table_self (changed c))

-- elsewhere it leaves what was there
pub change_elsewhere : (c : Change) (rows : AllRows) (table : Table) → same_table table (changed c) ≡ false → after_change c rows table ≡ rows table
change_elsewhere c rows table other = ap (λ b. cond b (makes c (rows table)) (rows table)) other

-- so a change transforms rows where it makes of those of its table what is wanted there
pub one_transforms : (c : Change) (old new : AllRows) → IsFresh c old → IsPermutation (makes c (old (changed c))) (new (changed c)) → SameElsewhere (changed c) old new → TransformsRows (c ∷ []) old new
one_transforms c old new fresh here elsewhere = record {
  fresh = (fresh, tt);
  rows = by_table (λ table. IsPermutation (after_change c old table) (new table)) (changed c)
      (from_same (change_here c old) here)
      (λ table other. from_same (change_elsewhere c old table other) (elsewhere table other));
}

-- ---- rows that are added to one table

-- rows that are added one after another come where none has their key
abbrev pub AreFree : Table → List Cells → List Cells → Type 0
AreFree t [] rows = Unit
AreFree t (r ∷ new) rows = (list_any (begins (key_in t r)) rows ≡ false) × AreFree t new (r ∷ rows)

-- the change that adds a row
abbrev pub add : Table → Cells → Change
add t cells = Add (record { table = t; cells = cells })

pub added_transforms : (t : Table) (new : List Cells) (old after : AllRows) → AreFree t new (old t) → IsPermutation (new ++ old t) (after t) → SameElsewhere t old after → TransformsRows (map (add t) new) old after
added_transforms t [] old after free here elsewhere = record { fresh = tt; rows = by_table (λ table. IsPermutation (old table) (after table)) t here elsewhere }
added_transforms t (r ∷ new) old after free here elsewhere =
    let more : AllRows = after_change (add t r) old in
    let rest = added_transforms t new more after
    (subst (AreFree t new) (sym (change_here (add t r) old)) free.1)
    (from_same (ap (λ rows. new ++ rows) (change_here (add t r) old)) (IsPermutation-trans _ _ _ (IsPermutation-middle new r (old t)) here))
    (λ table other. from_same (change_elsewhere (add t r) old table other) (elsewhere table other)) in
    record { fresh = (free.0, rest.fresh); rows = rest.rows }
