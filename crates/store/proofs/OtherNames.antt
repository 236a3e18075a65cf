-- Rows of all tables by their tables: those whose tables are renamed, and the aims that rounds come with.
use Rattle.store.proofs.Common.{◌==◌, AllByRecursion, option_map_or, eqb-true, filter-append, map-map, filter-map, all_weaker, Greedy, Number, Table, Round, RoundAim, Choice, Cells, RowOf, of_table, same_table, same_table_is, same_table_self, AimEntry, aim_cells, round_cells, flag, is_generous, State, aim_key, IsFit, are_aimed, First, Second, Allows, aim_of_round, aim_row, aims_of, renamed, renamed_row, rows_in_edition, ◌≡◌, Bool, true, false, cond, List, [], ◌∷◌, ◌++◌, map, filter, Option, refl, sym, ap, subst, ◌∙◌}
use Rattle.std.specs.Cmp.{first_so, second_so}
use Rattle.std.proofs.lemmas.List.{map-append}
use Rattle.office_model.specs.declared.rounds.Round.{Round as RoundEntry}
use Rattle.office_model.proofs.Shaped.{fit_shaped}
use Rattle.office.proofs.changes.Found.{StandsIn, each_found}

-- ---- rows of all tables

-- whether a row is of a table
abbrev pub is_in : Table → RowOf → Bool
is_in t r = same_table t r.table

-- two lists of rows
pub rows_both : (t : Table) (xs ys : List RowOf) → of_table (xs ++ ys) t ≡ of_table xs t ++ of_table ys t
rows_both t xs ys = ap (map (λ r. r.cells)) (filter-append (is_in t) xs ys) ∙ map-append (λ (r : RowOf). r.cells) (filter (is_in t) xs) (filter (is_in t) ys)

-- ---- tables renamed

-- a table that is renamed twice has its own name
pub renamed_twice : (t : Table) → renamed (renamed t) ≡ t
renamed_twice Choice = refl
renamed_twice _ = refl

-- whose name was another's, and which has its name, is one test
same_renamed : (t u : Table) → same_table t (renamed u) ≡ same_table (renamed t) u
same_renamed t u = both (same_table t (renamed u)) (same_table (renamed t) u)
    (λ h. subst (λ v. same_table v u ≡ true) (sym (ap renamed (same_table_is t (renamed u) h) ∙ renamed_twice u)) (same_table_self u))
    (λ h. subst (λ v. same_table t v ≡ true) (sym (renamed_twice t) ∙ ap renamed (same_table_is (renamed t) u h)) (same_table_self t))
  where
    both : (a b : Bool) → (a ≡ true → b ≡ true) → (b ≡ true → a ≡ true) → a ≡ b
    both true b f g = sym (f refl)
    both false true f g = g refl
    both false false f g = refl

-- a table has the rows that the table of the other name had
pub swapped : (rows : List RowOf) (t : Table) → of_table (map renamed_row rows) t ≡ of_table rows (renamed t)
swapped rows t =
    ap (map (λ r. r.cells)) (filter-map (is_in t) renamed_row rows) ∙ map-map (λ (r : RowOf). r.cells) renamed_row (filter (λ r. is_in t (renamed_row r)) rows)
    ∙ (λ i. map (λ (r : RowOf). r.cells) (filter (λ (r : RowOf). same_renamed t r.table i) rows))

-- ---- the aims of greedy rounds

-- the aims that come are those of the rows of rounds
pub aims_come : (rows : List RowOf) → of_table (aims_of rows) RoundAim ≡ map aim_of_round (of_table rows Round)
aims_come rows = each (of_table rows Round)
  where
    each : (rounds : List Cells) → of_table (map aim_row rounds) RoundAim ≡ map aim_of_round rounds
    each [] = refl
    each (round ∷ rounds) = ap (λ cells. aim_of_round round ∷ cells) (each rounds)

-- and nothing else comes
pub no_others : (rows : List RowOf) (t : Table) → same_table t RoundAim ≡ false → of_table (aims_of rows) t ≡ []
no_others rows t other = none (of_table rows Round)
  where
    none : (rounds : List Cells) → of_table (map aim_row rounds) t ≡ []
    none [] = refl
    none (round ∷ rounds) = ap (λ b. map (λ (r : RowOf). r.cells) (cond b (aim_row round ∷ filter (is_in t) (map aim_row rounds)) (filter (is_in t) (map aim_row rounds)))) other ∙ none rounds

-- greedy aims of rounds are those that their rows come with
greedy_aims : (aims : List AimEntry) (rounds : List RoundEntry) → are_aimed aims rounds ≡ true → AllByRecursion (λ (a : AimEntry). a.aim ≡ Greedy) aims → map aim_of_round (map round_cells rounds) ≡ map aim_cells aims
greedy_aims [] [] aimed greedy = refl
greedy_aims (a ∷ aims) (r ∷ rounds) aimed greedy =
    let same : a.round ≡ r.number = eqb-true a.round r.number (first_so (a.round == r.number) (are_aimed aims rounds) aimed) in
    λ i. (Number (sym same i) ∷ flag (is_generous (sym greedy.0 i)) ∷ []) ∷ greedy_aims aims rounds (second_so (a.round == r.number) (are_aimed aims rounds) aimed) greedy.1 i
greedy_aims [] (r ∷ rounds) aimed greedy = cc
greedy_aims (a ∷ aims) [] aimed greedy = cc

-- the aims of an office whose rounds are all greedy are those that their rows come with
pub greedy_rows : (o : State) → IsFit o → Allows First o → map aim_of_round (map round_cells o.rounds) ≡ map aim_cells o.aims
greedy_rows o fit allowed = greedy_aims o.aims o.rounds fit.aimed
    (all_weaker (StandsIn aim_key o.aims) (λ (a : AimEntry). a.aim ≡ Greedy) (λ a found. ap (λ (x : Option AimEntry). option_map_or (λ a. a.aim) x Greedy) (sym found) ∙ allowed a.round)
    o.aims (each_found aim_key o.aims (fit_shaped o fit).aims_rise))

-- the first edition differs from the second there alone
pub first_else : (o : State) (t : Table) → same_table t RoundAim ≡ false → rows_in_edition First o t ≡ rows_in_edition Second o t
first_else o RoundAim other = cc
first_else o _ other = refl
