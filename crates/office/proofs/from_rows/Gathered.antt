-- What is gathered from rows has these rows: each that is taken in comes next to those that are held.
use Rattle.office.proofs.from_rows.Common.{IsPermutation, option_and_then, IsPermutation-refl, IsPermutation-sym, IsPermutation-trans, IsPermutation-map, IsPermutation-middle, IsPermutation-append_right, IsPermutation-filter, IsPermutation-same, Table, Supervisor, Cells, RowOf, of_table, same_table, AreRowsOf, rows_in, State, empty, after_row, gathered, at_stage, stages, staged, ◌≡◌, ℕ, suc, ◌+◌, Bool, true, false, cond, List, [], ◌∷◌, ◌++◌, map, filter, Option, Some, None, refl, sym, ap, subst, ◌∙◌, arith, append-nil}
use Rattle.office.proofs.from_rows.Stages.{same_staged}
use Rattle.office.proofs.from_rows.Taken.{AreDrafted, IsDrafted, IsTaken, empty_drafted, taken}

-- of a table, the rows to come and those that are held
abbrev pub with_held : List RowOf → State → Table → List Cells
with_held rows o table = of_table rows table ++ rows_in o table

-- a row that is taken in goes from those to those
pub moved : (o : State) (r : RowOf) (rows : List RowOf) (n : State) → IsTaken o r.table r.cells n → (table : Table) → IsPermutation (with_held (r ∷ rows) o table) (with_held rows n table)
moved o r rows n here table =
    IsPermutation-trans _ _ _ (by (same_table table r.table)) (IsPermutation-append_right (of_table rows table) _ _ (here table).0)
  where
    by : (b : Bool) → IsPermutation (map (λ (r : RowOf). r.cells) (cond b (r ∷ filter (λ r. same_table table r.table) rows) (filter (λ r. same_table table r.table) rows)) ++ rows_in o table)
        (of_table rows table ++ (map (λ (r : RowOf). r.cells) (cond b (r ∷ []) []) ++ rows_in o table))
    by true = IsPermutation-sym _ _ (IsPermutation-middle (of_table rows table) r.cells (rows_in o table))
    by false = IsPermutation-refl _

-- what goes before an answer that is there
record IsGoneThrough {A B : Type 0} (x : Option A) (f : A → Option B) (y : B) : Type 0 where
  at : A
  is : x ≡ Some at
  rest : f at ≡ Some y

gone_through : {A B : Type 0} (x : Option A) (f : A → Option B) (y : B) → option_and_then f x ≡ Some y → IsGoneThrough x f y
gone_through None f y h = cc
gone_through (Some a) f y h = record { at = a; is = refl; rest = h }

-- all rows were taken in
abbrev AreTaken : State → List RowOf → State → Type 0
AreTaken o rows t = (table : Table) → IsPermutation (with_held rows o table) (rows_in t table) × AreDrafted t table

all_taken : (o : State) (rows : List RowOf) (t : State) → gathered o rows ≡ Some t → IsDrafted o → AreTaken o rows t
all_taken o [] t h d = let same : o ≡ t = cc in subst (AreTaken o []) same (λ table. (IsPermutation-refl _, d table))
all_taken o (r ∷ rows) t h d =
    let step = gone_through (after_row o r) (λ n. gathered n rows) t h in
    let here = taken o d r.table r.cells step.at step.is in
    let rest = all_taken step.at rows t step.rest (λ table. (here table).1) in
    λ table. (IsPermutation-trans _ _ _ (moved o r rows step.at here table) (rest table).0, (rest table).1)

-- ---- from the empty office

none_held : (table : Table) → rows_in empty table ≡ []
none_held Supervisor = refl
none_held _ = refl

-- stage by stage the rows of a table are the same
pub staged_rows : (rows : List RowOf) (table : Table) → IsPermutation (of_table rows table) (with_held (staged rows) empty table)
staged_rows rows table =
    IsPermutation-trans _ _ _ (IsPermutation-map (λ (r : RowOf). r.cells) _ _ (IsPermutation-filter (λ r. same_table table r.table) _ _ (same_staged rows)))
    (IsPermutation-same _ _ (sym (ap (λ xs. of_table (staged rows) table ++ xs) (none_held table) ∙ append-nil _)))

-- what is gathered has the rows
pub gathered_rows : (rows : List RowOf) (t : State) → gathered empty (staged rows) ≡ Some t → AreRowsOf rows t
gathered_rows rows t h table = IsPermutation-trans _ _ _ (staged_rows rows table) (all_taken empty (staged rows) t h empty_drafted table).0

-- and its entries are each of their forms
pub gathered_drafted : (rows : List RowOf) (t : State) → gathered empty (staged rows) ≡ Some t → IsDrafted t
gathered_drafted rows t h table = (all_taken empty (staged rows) t h empty_drafted table).1

-- ---- stage by stage

append_by : (x : Option State) (xs ys : List RowOf) → ((n : State) → gathered n (xs ++ ys) ≡ option_and_then (λ m. gathered m ys) (gathered n xs))
    → option_and_then (λ n. gathered n (xs ++ ys)) x ≡ option_and_then (λ m. gathered m ys) (option_and_then (λ n. gathered n xs) x)
append_by None xs ys h = refl
append_by (Some n) xs ys h = h n

gathered_append : (o : State) (xs ys : List RowOf) → gathered o (xs ++ ys) ≡ option_and_then (λ m. gathered m ys) (gathered o xs)
gathered_append o [] ys = refl
gathered_append o (r ∷ xs) ys = append_by (after_row o r) xs ys (λ n. gathered_append n xs ys)

-- the rows of a stage and then those of the later ones
pub gathered_on : (o m : State) (n stage : ℕ) (rows : List RowOf) → gathered o (at_stage stage rows) ≡ Some m → gathered o (stages (suc n) stage rows) ≡ gathered m (stages n (stage + 1) rows)
gathered_on o m n stage rows h =
    let next : suc stage ≡ stage + 1 = omega arith in
    gathered_append o (at_stage stage rows) (stages n (suc stage) rows) ∙ ap (option_and_then (λ m. gathered m (stages n (suc stage) rows))) h ∙ ap (λ k. gathered m (stages n k rows)) next

pub gathered_off : (o : State) (n stage : ℕ) (rows : List RowOf) → gathered o (at_stage stage rows) ≡ None → gathered o (stages (suc n) stage rows) ≡ None
gathered_off o n stage rows h = gathered_append o (at_stage stage rows) (stages n (suc stage) rows) ∙ ap (option_and_then (λ m. gathered m (stages n (suc stage) rows))) h
