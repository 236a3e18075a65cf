-- One row is taken in: of its table the rows that are held then are it and those that were held, in whatever order, and of each other
-- table they stay. Entries stay in the order of their keys, each of its form.
use Rattle.office.proofs.from_rows.Common.{◌&&◌, flat_map, IsPermutation, AllByRecursion, option_map_or, nat_tests, length-append, IsPermutation-refl, IsPermutation-sym, IsPermutation-trans, IsPermutation-cons, IsPermutation-map, IsPermutation-middle, IsPermutation-append_left, IsPermutation-same, IsPermutation-flat_map, is_code, Text, Number, Table, Supervisor, Project, Student, Import, RoundAim, Choice, Placement, Cells, of_table, SupervisorEntry, ProjectEntry, StudentEntry, RoundEntry, Listed, PlacementEntry, AimEntry, ImportEntry, Key, find, has, put, take_out, rises, State, empty, supervisor_key, project_key, student_key, round_key, aim_key, list_key, placement_key, import_key, round_of, lists_of, SupervisorFits, StudentFits, ImportFits, supervisor_cells, project_cells, student_cells, round_cells, aim_cells, placement_cells, import_cells, choice_cells, choice_rows, list_rows, rows_of_round, rows_in, all-put, found_key, holds_of_found, rises-put, IsShaped, added_beside, found_beside, none_taken, put_beside, supervisor_in, project_in, student_in, round_in, aim_in, placement_in, import_in, after_cells, choices_among, with_choice, with_new, with_next, ◌≡◌, ℕ, ◌+◌, ◌≤◌, Bool, true, false, cond, suc, List, [], ◌∷◌, ◌++◌, map, length, Option, Some, None, is_some, refl, sym, ap, subst, ◌∙◌, arith, append_assoc, ◌==◌}
use Rattle.schema.specs.declared.table.Table.TheVariants.{Round}
use Rattle.office.proofs.changes.Same.{from_same, to_same}
use Rattle.office.proofs.from_rows.Tests.{has_form}
use Rattle.office.proofs.from_rows.Decoded.{IsDecoded, ProjectForm, PlacementForm, AimForm, supervisor_decoded, project_decoded, student_decoded, round_decoded, round_aim_decoded, placement_decoded, import_decoded}

-- ---- what is known of entries that were taken in, whether or not they go together

-- entries in the order of their keys, each of a form
pub record AreOf {E : Type 0} (key : E → Key) (Form : E → Type 0) (es : List E) : Type 0 where
  pub rise : rises key es ≡ true
  pub each : AllByRecursion Form es

-- one more
put_of : {E : Type 0} (key : E → Key) (Form : E → Type 0) (e : E) (es : List E) → Form e → AreOf key Form es → AreOf key Form (put key e es)
put_of key Form e es h are = record { rise = rises-put key e es are.rise; each = all-put key Form e es h are.each }

-- a list of some projects
abbrev pub HasChoices : Listed → Type 0
HasChoices l = 1 ≤ length l.choices

-- a round with such lists
abbrev pub RoundForm : RoundEntry → Type 0
RoundForm r = AreOf list_key HasChoices r.lists

-- what the rows of a table that were taken in so far make
abbrev pub AreDrafted : State → Table → Type 0
AreDrafted o Supervisor = AreOf supervisor_key SupervisorFits o.supervisors
AreDrafted o Project = AreOf project_key ProjectForm o.projects
AreDrafted o Student = AreOf student_key StudentFits o.students
AreDrafted o Round = AreOf round_key RoundForm o.rounds
AreDrafted o RoundAim = AreOf aim_key AimForm o.aims
AreDrafted o Placement = AreOf placement_key PlacementForm o.placements
AreDrafted o Import = AreOf import_key ImportFits o.imports
AreDrafted o _ = Unit

-- and those of all tables
abbrev pub IsDrafted : State → Type 0
IsDrafted o = (table : Table) → AreDrafted o table

pub empty_drafted : IsDrafted empty
empty_drafted Supervisor = record { rise = refl; each = tt }
empty_drafted Project = record { rise = refl; each = tt }
empty_drafted Student = record { rise = refl; each = tt }
empty_drafted Round = record { rise = refl; each = tt }
empty_drafted RoundAim = record { rise = refl; each = tt }
empty_drafted Placement = record { rise = refl; each = tt }
empty_drafted Import = record { rise = refl; each = tt }
empty_drafted _ = tt

-- the lists of a round are so
pub lists_drafted : (o : State) → IsDrafted o → (n : ℕ) → AreOf list_key HasChoices (lists_of o n)
lists_drafted o d n = of_round (round_of o n) refl
  where
    of_round : (x : Option RoundEntry) → round_of o n ≡ x → AreOf list_key HasChoices (option_map_or (λ r. r.lists) x [])
    of_round None is = record { rise = refl; each = tt }
    of_round (Some r) is = holds_of_found round_key RoundForm (n, []) o.rounds r (d Round).each is

-- so keys rise, and each list has choices
pub drafted_shaped : (o : State) → IsDrafted o → IsShaped o
drafted_shaped o d = record {
  supervisors_rise = (d Supervisor).rise;
  projects_rise = (d Project).rise;
  students_rise = (d Student).rise;
  rounds_rise = (d Round).rise;
  lists_rise = λ n. (lists_drafted o d n).rise;
  lists_some = λ n. (lists_drafted o d n).each;
  aims_rise = (d RoundAim).rise;
  placements_rise = (d Placement).rise;
  imports_rise = (d Import).rise;
}

-- ---- a row of an entry

-- of a table, the rows that are held with a row more, and what is known of the entries
abbrev pub TakenAt : State → Table → Cells → State → Table → Type 0
TakenAt o t row n table = IsPermutation (of_table (record { table = t; cells = row } ∷ []) table ++ rows_in o table) (rows_in n table) × AreDrafted n table

-- a row of a table was taken in
abbrev pub IsTaken : State → Table → Cells → State → Type 0
IsTaken o t row n = (table : Table) → TakenAt o t row n table

module _ {E : Type 0} (key : E → Key) (cells : E → Cells) (Form : E → Type 0) (e : E) (row : Cells) (es : List E) where
  entry_beside : cells e ≡ row → AreOf key Form es → has key (key e) es ≡ false → IsPermutation (row ∷ map cells es) (map cells (put key e es))
  entry_beside is are free = from_same (ap (λ r. r ∷ map cells es) (sym is)) (IsPermutation-map cells _ _ (added_beside key e es are.rise free))

  -- an entry of a new key is taken in with the row that decodes to it
  entry_taken : IsDecoded cells Form row e → AreOf key Form es → has key (key e) es ≡ false → IsPermutation (row ∷ map cells es) (map cells (put key e es)) × AreOf key Form (put key e es)
  entry_taken decoded are free = (entry_beside decoded.is are free, put_of key Form e es decoded.form are)

module _ (o : State) (d : IsDrafted o) (row : Cells) where
  taken_supervisor : (e : SupervisorEntry) → supervisor_in row ≡ Some e → has supervisor_key (supervisor_key e) o.supervisors ≡ false → IsTaken o Supervisor row (record o { supervisors = put supervisor_key e o.supervisors })
  taken_supervisor e is free Supervisor = entry_taken supervisor_key supervisor_cells SupervisorFits e row o.supervisors (supervisor_decoded row e is) (d Supervisor) free
  taken_supervisor e is free table = (IsPermutation-refl _, d table)

  taken_project : (e : ProjectEntry) → project_in row ≡ Some e → has project_key (project_key e) o.projects ≡ false → IsTaken o Project row (record o { projects = put project_key e o.projects })
  taken_project e is free Project = entry_taken project_key project_cells ProjectForm e row o.projects (project_decoded row e is) (d Project) free
  taken_project e is free table = (IsPermutation-refl _, d table)

  taken_student : (e : StudentEntry) → student_in row ≡ Some e → has student_key (student_key e) o.students ≡ false → IsTaken o Student row (record o { students = put student_key e o.students })
  taken_student e is free Student = entry_taken student_key student_cells StudentFits e row o.students (student_decoded row e is) (d Student) free
  taken_student e is free table = (IsPermutation-refl _, d table)

  taken_aim : (e : AimEntry) → aim_in row ≡ Some e → has aim_key (aim_key e) o.aims ≡ false → IsTaken o RoundAim row (record o { aims = put aim_key e o.aims })
  taken_aim e is free RoundAim = entry_taken aim_key aim_cells AimForm e row o.aims (round_aim_decoded row e is) (d RoundAim) free
  taken_aim e is free table = (IsPermutation-refl _, d table)

  taken_placement : (e : PlacementEntry) → placement_in row ≡ Some e → has placement_key (placement_key e) o.placements ≡ false → IsTaken o Placement row (record o { placements = put placement_key e o.placements })
  taken_placement e is free Placement = entry_taken placement_key placement_cells PlacementForm e row o.placements (placement_decoded row e is) (d Placement) free
  taken_placement e is free table = (IsPermutation-refl _, d table)

  taken_import : (e : ImportEntry) → import_in row ≡ Some e → has import_key (import_key e) o.imports ≡ false → IsTaken o Import row (record o { imports = put import_key e o.imports })
  taken_import e is free Import = entry_taken import_key import_cells ImportFits e row o.imports (import_decoded row e is) (d Import) free
  taken_import e is free table = (IsPermutation-refl _, d table)

  -- a round comes without lists, and so without choices
  taken_round : (e : RoundEntry) → round_in row ≡ Some e → has round_key (round_key e) o.rounds ≡ false → IsTaken o Round row (record o { rounds = put round_key e o.rounds })
  taken_round e is free Round =
      let decoded = round_decoded row e is in (
        entry_beside round_key round_cells RoundForm e row o.rounds decoded.is (d Round) free,
        put_of round_key RoundForm e o.rounds (subst (AreOf list_key HasChoices) (sym decoded.form) (record { rise = refl; each = tt })) (d Round),
      )
  taken_round e is free Choice = (
    from_same (ap (λ ls. flat_map (list_rows e.number) ls ++ flat_map rows_of_round o.rounds) (sym (round_decoded row e is).form))
        (IsPermutation-flat_map rows_of_round _ _ (added_beside round_key e o.rounds (d Round).rise free)),
    tt,
  )
  taken_round e is free table = (IsPermutation-refl _, d table)

-- ---- a row of a choice

-- a choice after the others has the row after theirs
rows_on : (n : ℕ) (s : List ℕ) (place : ℕ) (cs : List (List ℕ)) (c : List ℕ) → choice_rows n s place (cs ++ c ∷ []) ≡ choice_rows n s place cs ++ choice_cells n s (length cs + place) c ∷ []
rows_on n s place [] c = ap (λ p. choice_cells n s p c ∷ []) (omega arith)
rows_on n s place (x ∷ cs) c =
    let next : length cs + suc place ≡ suc (length cs) + place = omega arith in
    ap (λ rows. choice_cells n s place x ∷ rows) (rows_on n s (suc place) cs c ∙ ap (λ p. choice_rows n s (suc place) cs ++ choice_cells n s p c ∷ []) next)

-- between what stands next to it
between : {X : Type 0} (x : X) (xs ys zs : List X) → IsPermutation zs (xs ++ ys) → IsPermutation (x ∷ zs) ((xs ++ x ∷ []) ++ ys)
between x xs ys zs same =
    IsPermutation-trans _ _ _ (IsPermutation-cons x _ _ same)
    (to_same (IsPermutation-sym _ _ (IsPermutation-middle xs x ys)) (sym (append_assoc xs (x ∷ []) ys)))

module _ (n : ℕ) (s c : List ℕ) (lists : List Listed) (rise : rises list_key lists ≡ true) where
  abbrev others : List Cells
  others = flat_map (list_rows n) (take_out list_key (0, s) lists)

  -- the rows of lists are those of a student's next to the others
  lists_beside : IsPermutation (flat_map (list_rows n) lists) (choice_rows n s 1 (choices_among s lists) ++ others)
  lists_beside = of_list (find list_key (0, s) lists) refl
    where
      of_list : (x : Option Listed) → find list_key (0, s) lists ≡ x → IsPermutation (flat_map (list_rows n) lists) (choice_rows n s 1 (option_map_or (λ l. l.choices) x []) ++ others)
      of_list None is = IsPermutation-same _ _ (ap (flat_map (list_rows n)) (sym (none_taken list_key (0, s) lists (ap is_some is))))
      of_list (Some l) is =
          let student : s ≡ l.student = ap (λ (q : Key). q.1) (found_key list_key (0, s) lists l is) in
          to_same (IsPermutation-sym _ _ (IsPermutation-flat_map (list_rows n) _ _ (found_beside list_key (0, s) l lists rise is))) (ap (λ t. choice_rows n t 1 l.choices ++ others) (sym student))

  -- with one more choice of the student its row comes next to them
  choice_beside : IsPermutation (choice_cells n s (length (choices_among s lists) + 1) c ∷ flat_map (list_rows n) lists) (flat_map (list_rows n) (with_choice s c lists))
  choice_beside =
      IsPermutation-trans _ _ _ (between _ (choice_rows n s 1 (choices_among s lists)) others _ lists_beside)
      (from_same (ap (λ rows. rows ++ others) (sym (rows_on n s 1 (choices_among s lists) c)))
      (IsPermutation-flat_map (list_rows n) _ _ (put_beside list_key (record { student = s; choices = choices_among s lists ++ c ∷ [] }) lists rise)))

module _ (o : State) (d : IsDrafted o) (s c : List ℕ) (r : RoundEntry) (found : round_of o r.number ≡ Some r) where
  abbrev new : RoundEntry
  new = record r { lists = with_choice s c r.lists }

  old_beside : IsPermutation (r ∷ take_out round_key (round_key r) o.rounds) o.rounds
  old_beside = found_beside round_key (round_key r) r o.rounds (d Round).rise found

  new_beside : IsPermutation (new ∷ take_out round_key (round_key r) o.rounds) (put round_key new o.rounds)
  new_beside = put_beside round_key new o.rounds (d Round).rise

  lists_form : RoundForm r
  lists_form = holds_of_found round_key RoundForm (round_key r) o.rounds r (d Round).each found

  taken_choice : IsTaken o Choice (choice_cells r.number s (length (choices_among s r.lists) + 1) c) (record o { rounds = put round_key new o.rounds })
  taken_choice Round = (
    IsPermutation-trans _ _ _ (IsPermutation-sym _ _ (IsPermutation-map round_cells _ _ old_beside)) (IsPermutation-map round_cells _ _ new_beside),
    put_of round_key RoundForm new o.rounds (put_of list_key HasChoices _ r.lists (let more = length-append (choices_among s r.lists) (c ∷ []) in omega (arith, more)) lists_form) (d Round),
  )
  taken_choice Choice = (
    IsPermutation-trans _ _ _ (IsPermutation-cons _ _ _ (IsPermutation-sym _ _ (IsPermutation-flat_map rows_of_round _ _ old_beside)))
        (IsPermutation-trans _ _ _ (IsPermutation-append_left (flat_map rows_of_round (take_out round_key (round_key r) o.rounds)) _ _ (choice_beside r.number s c r.lists lists_form.rise))
        (IsPermutation-flat_map rows_of_round _ _ new_beside)),
    tt,
  )
  taken_choice table = (IsPermutation-refl _, d table)

-- ---- any row

module _ {E : Type 0} (key : E → Key) (es : List E) (held : List E → State) (P : State → Type 0) (n : State) where
  -- what is held with an entry more is so with one of a new key
  new_taken : (x : Option E) → ((e : E) → x ≡ Some e → has key (key e) es ≡ false → P (held (put key e es))) → with_new key es held x ≡ Some n → P n
  new_taken None each h = cc
  new_taken (Some e) each h = by (has key (key e) es) refl h
    where
      by : (b : Bool) → has key (key e) es ≡ b → cond b None (Some (held (put key e es))) ≡ Some n → P n
      by true free h = cc
      by false free h = let same : held (put key e es) ≡ n = cc in subst P same (each e refl free)

next_taken : (o : State) → IsDrafted o → (k : ℕ) (s : List ℕ) (place : ℕ) (c : List ℕ) (n : State) (x : Option RoundEntry) → round_of o k ≡ x → with_next o s place c x ≡ Some n → IsTaken o Choice (choice_cells k s place c) n
next_taken o d k s place c n None is h = cc
next_taken o d k s place c n (Some r) is h =
    let number : k ≡ r.number = ap (λ (q : Key). q.0) (found_key round_key (k, []) o.rounds r is) in
    let form = has_form (length (choices_among s r.lists) + 1 == place) _ n h in
    let at_place : length (choices_among s r.lists) + 1 ≡ place = grind (arith, nat_tests, form.0) in
    subst (IsTaken o Choice (choice_cells k s place c)) form.1
    (subst (λ row. IsTaken o Choice row (record o { rounds = put round_key (record r { lists = with_choice s c r.lists }) o.rounds })) (λ i. choice_cells (sym number i) s (at_place i) c)
    (taken_choice o d s c r (ap (round_of o) (sym number) ∙ is)))

choice_taken : (o : State) → IsDrafted o → (row : Cells) (n : State) → after_cells o Choice row ≡ Some n → IsTaken o Choice row n
choice_taken o d (Number k ∷ Text s ∷ Number place ∷ Text c ∷ []) n h = by (is_code s && is_code c) h
  where
    by : (b : Bool) → cond b (with_next o s place c (round_of o k)) None ≡ Some n → IsTaken o Choice (Number k ∷ Text s ∷ Number place ∷ Text c ∷ []) n
    by true h = next_taken o d k s place c n (round_of o k) refl h
    by false h = cc
choice_taken o d _ n h = cc

pub taken : (o : State) → IsDrafted o → (t : Table) (row : Cells) (n : State) → after_cells o t row ≡ Some n → IsTaken o t row n
taken o d Supervisor row n = new_taken supervisor_key o.supervisors (λ es. record o { supervisors = es }) (IsTaken o Supervisor row) n (supervisor_in row) (taken_supervisor o d row)
taken o d Project row n = new_taken project_key o.projects (λ es. record o { projects = es }) (IsTaken o Project row) n (project_in row) (taken_project o d row)
taken o d Student row n = new_taken student_key o.students (λ es. record o { students = es }) (IsTaken o Student row) n (student_in row) (taken_student o d row)
taken o d Round row n = new_taken round_key o.rounds (λ es. record o { rounds = es }) (IsTaken o Round row) n (round_in row) (taken_round o d row)
taken o d RoundAim row n = new_taken aim_key o.aims (λ es. record o { aims = es }) (IsTaken o RoundAim row) n (aim_in row) (taken_aim o d row)
taken o d Choice row n = choice_taken o d row n
taken o d Placement row n = new_taken placement_key o.placements (λ es. record o { placements = es }) (IsTaken o Placement row) n (placement_in row) (taken_placement o d row)
taken o d Import row n = new_taken import_key o.imports (λ es. record o { imports = es }) (IsTaken o Import row) n (import_in row) (taken_import o d row)
taken o d _ row n = λ h. cc
