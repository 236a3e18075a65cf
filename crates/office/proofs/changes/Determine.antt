-- The rows of an office determine it: those of one row each give back their entries, a round is what its row says with its lists, and a
-- list is what its student lists, since it has choices.
use Rattle.office.proofs.changes.Common.{◌==◌, ◌&&◌, is_lt, AllByRecursion, option_map_or, bytes_eq, Aim, Text, Number, Bytes, Supervisor, Project, Student, Round, Import, RoundAim, Choice, Placement, Cells, SameRows, SupervisorEntry, ProjectEntry, StudentEntry, RoundEntry, Listed, PlacementEntry, AimEntry, ImportEntry, Key, key_cmp, find, is_below, rises, State, supervisor_key, project_key, student_key, round_key, list_key, aim_key, placement_key, import_key, lists_of, choices_in, is_generous, rows_in, supervisor_cells, project_cells, student_cells, round_cells, aim_cells, placement_cells, import_cells, found_key, holds_of_found, same_found, IsShaped, fit_shaped, RowsGiveOffice, ◌≡◌, ℕ, ◌≤◌, true, false, cond, List, [], ◌∷◌, map, length, Option, Some, None, refl, sym, ap, subst, ◌∙◌, arith, Bool, ImportKind, Supervisors, Projects, Students, Lists, word_of}
use Rattle.spa.specs.declared.aim.Aim.TheVariants.{Greedy, Generous}
use Rattle.office.proofs.changes.Found.{StandsIn, each_found, entries_same, by_found}
use Rattle.office.proofs.changes.Choices.{rows_give, rows_same, same_choices}

-- ---- entries of one row

-- the entry that a row is made of
supervisor_in : Cells → Option SupervisorEntry
supervisor_in (Text code ∷ Text label ∷ Number quota ∷ []) = Some (record { code = code; label = label; quota = quota })
supervisor_in _ = None

project_in : Cells → Option ProjectEntry
project_in (Text code ∷ Text label ∷ Text supervisor ∷ Number quota ∷ []) = Some (record { code = code; label = label; supervisor = supervisor; quota = quota })
project_in _ = None

student_in : Cells → Option StudentEntry
student_in (Text code ∷ Text label ∷ []) = Some (record { code = code; label = label })
student_in _ = None

placement_in : Cells → Option PlacementEntry
placement_in (Text student ∷ Number round ∷ Text project ∷ Number rank ∷ []) = Some (record { student = student; round = round; project = project; rank = rank })
placement_in _ = None

-- a number stands for a truth value, or for an aim
aim_in : Cells → Option AimEntry
aim_in (Number n ∷ Number k ∷ []) = Some (record { round = n; aim = cond (k == 1) Generous Greedy })
aim_in _ = None

aim_back : (a : AimEntry) → aim_in (aim_cells a) ≡ Some a
unfolding aim_in
aim_back a = ap (λ aim. Some (record { round = a.round; aim = aim })) (by a.aim)
  where
    by : (aim : Aim) → cond (cond (is_generous aim) 1 0 == 1) Generous Greedy ≡ aim
    by Greedy = refl
    by Generous = refl

-- the kind of a word
kind_of : List ℕ → ImportKind
kind_of word = cond (bytes_eq word (word_of Supervisors)) Supervisors (cond (bytes_eq word (word_of Projects)) Projects (cond (bytes_eq word (word_of Students)) Students Lists))

import_in : Cells → Option ImportEntry
import_in (Text id ∷ Text word ∷ Bytes bytes ∷ Number rows ∷ []) = Some (record { id = id; kind = kind_of word; bytes = bytes; rows = rows })
import_in _ = None

import_back : (m : ImportEntry) → import_in (import_cells m) ≡ Some m
unfolding import_in kind_of
import_back m = ap (λ kind. Some (record { id = m.id; kind = kind; bytes = m.bytes; rows = m.rows })) (by m.kind)
  where
    by : (kind : ImportKind) → kind_of (word_of kind) ≡ kind
    by Supervisors = refl
    by _ = refl

-- ---- rounds

-- a round without its lists
abbrev bare : RoundEntry → RoundEntry
bare r = record r { lists = [] }

round_in : Cells → Option RoundEntry
round_in (Number n ∷ Number k ∷ []) = Some (record { number = n; is_open = k == 1; lists = [] })
round_in _ = None

-- a row gives back all of a round but its lists
round_back : (r : RoundEntry) → round_in (round_cells r) ≡ Some (bare r)
unfolding round_in
round_back r = ap (λ is_open. Some (record { number = r.number; is_open = is_open; lists = [] })) (by r.is_open)
  where
    by : (b : Bool) → (cond b 1 0 == 1) ≡ b
    by true = refl
    by false = refl

-- ---- lists

-- the list of a student, who has none where no choices are
abbrev list_of_choices : List ℕ → List (List ℕ) → Option Listed
list_of_choices s [] = None
list_of_choices s (c ∷ cs) = Some (record { student = s; choices = c ∷ cs })

-- what is found among lists that have choices is given by what is chosen
list_is : (ls : List Listed) (s : List ℕ) → AllByRecursion (λ l. 1 ≤ length l.choices) ls → find list_key (0, s) ls ≡ list_of_choices s (option_map_or (λ l. l.choices) (find list_key (0, s) ls) [])
list_is ls s some = by (find list_key (0, s) ls) refl
  where
    of_some : (l : Listed) (cs : List (List ℕ)) → l.choices ≡ cs → 1 ≤ length cs → Some l ≡ list_of_choices l.student cs
    of_some l [] e few = absurd (omega (arith, few))
    of_some l (c ∷ cs) e few = λ i. Some (record { student = l.student; choices = e i })

    by : (x : Option Listed) → find list_key (0, s) ls ≡ x → x ≡ list_of_choices s (option_map_or (λ l. l.choices) x [])
    by None is = refl
    by (Some l) is =
        of_some l l.choices refl (holds_of_found list_key (λ l. 1 ≤ length l.choices) (0, s) ls l some is)
        ∙ ap (λ (k : Key). list_of_choices k.1 l.choices) (sym (found_key list_key (0, s) ls l is))

-- ---- keys that rise

module _ {E D : Type 0} (key : E → Key) (keyed : D → Key) (made : E → D) (same : (e f : E) → key_cmp (keyed (made e)) (keyed (made f)) ≡ key_cmp (key e) (key f)) where
  below_made : (e : E) (es : List E) → is_below keyed (keyed (made e)) (map made es) ≡ is_below key (key e) es
  below_made e [] = refl
  below_made e (f ∷ es) = λ i. is_lt (same e f i) && below_made e es i

  -- what is made of entries rises as they do
  pub rises_made : (es : List E) → rises keyed (map made es) ≡ rises key es
  rises_made [] = refl
  rises_made (e ∷ es) = λ i. below_made e es i && rises_made es i

-- ---- an office

module _ (o m : State) (fo : IsShaped o) (fm : IsShaped m) (same : (n : ℕ) (s : List ℕ) → choices_in o n s ≡ choices_in m n s) where
  -- offices of the same choices have the same lists
  list_too : (n : ℕ) (q : Key) (l : Listed) → find list_key q (lists_of o n) ≡ Some l → find list_key q (lists_of m n) ≡ Some l
  list_too n q l is =
      let k : q ≡ list_key l = found_key list_key q (lists_of o n) l is in
      subst (λ q. find list_key q (lists_of o n) ≡ Some l → find list_key q (lists_of m n) ≡ Some l) (sym k)
      (λ is. list_is (lists_of m n) l.student (fm.lists_some n) ∙ ap (list_of_choices l.student) (sym (same n l.student)) ∙ sym (list_is (lists_of o n) l.student (fo.lists_some n)) ∙ is) is

-- each round has the lists of its number
abbrev with_lists : State → RoundEntry → RoundEntry
with_lists o r = record r { lists = lists_of o r.number }

-- so its rounds are those of the rows, with these
filled : (o : State) (rs : List RoundEntry) → AllByRecursion (StandsIn round_key o.rounds) rs → rs ≡ map (with_lists o) (map bare rs)
filled o [] all = refl
filled o (r ∷ rs) all = λ i. record r { lists = sym (ap (λ (x : Option RoundEntry). option_map_or (λ r. r.lists) x []) all.0) i } ∷ filled o rs all.1 i

-- offices of this shape with the same rows are one
pub shaped_determine : (o m : State) → IsShaped o → IsShaped m → SameRows (rows_in o) (rows_in m) → o ≡ m
unfolding supervisor_in project_in student_in placement_in
shaped_determine o m fo fm same =
    λ i. record { supervisors = supervisors i; projects = projects i; students = students i; rounds = rounds i; aims = aims i; placements = placements i; imports = imports i }
  where
    supervisors : o.supervisors ≡ m.supervisors
    supervisors = entries_same supervisor_key _ _ fo.supervisors_rise fm.supervisors_rise (rows_same supervisor_cells supervisor_in (λ e. refl) _ _ (same Supervisor))

    projects : o.projects ≡ m.projects
    projects = entries_same project_key _ _ fo.projects_rise fm.projects_rise (rows_same project_cells project_in (λ e. refl) _ _ (same Project))

    students : o.students ≡ m.students
    students = entries_same student_key _ _ fo.students_rise fm.students_rise (rows_same student_cells student_in (λ e. refl) _ _ (same Student))

    aims : o.aims ≡ m.aims
    aims = entries_same aim_key _ _ fo.aims_rise fm.aims_rise (rows_same aim_cells aim_in aim_back _ _ (same RoundAim))

    placements : o.placements ≡ m.placements
    placements = entries_same placement_key _ _ fo.placements_rise fm.placements_rise (rows_same placement_cells placement_in (λ e. refl) _ _ (same Placement))

    imports : o.imports ≡ m.imports
    imports = entries_same import_key _ _ fo.imports_rise fm.imports_rise (rows_same import_cells import_in import_back _ _ (same Import))

    choices : (n : ℕ) (s : List ℕ) → choices_in o n s ≡ choices_in m n s
    choices = same_choices o m fo fm (same Choice)

    lists : (n : ℕ) → lists_of o n ≡ lists_of m n
    lists n = same_found list_key _ _ (fo.lists_rise n) (fm.lists_rise n) (λ q. by_found list_key _ _ (list_too o m fo fm choices n q) (list_too m o fm fo (λ n s. sym (choices n s)) n q))

    bares : map bare o.rounds ≡ map bare m.rounds
    bares =
        entries_same round_key _ _ (rises_made round_key round_key bare (λ e f. refl) o.rounds ∙ fo.rounds_rise) (rises_made round_key round_key bare (λ e f. refl) m.rounds ∙ fm.rounds_rise)
        (rows_give round_cells round_in bare round_back _ _ (same Round))

    rounds : o.rounds ≡ m.rounds
    rounds =
        filled o o.rounds (each_found round_key o.rounds fo.rounds_rise) ∙ ap (map (with_lists o)) bares
        ∙ (λ i. map (λ (r : RoundEntry). record r { lists = lists r.number i }) (map bare m.rounds)) ∙ sym (filled m m.rounds (each_found round_key m.rounds fm.rounds_rise))

pub rows_determine : RowsGiveOffice
rows_determine o m fit_o fit_m same = shaped_determine o m (fit_shaped o fit_o) (fit_shaped m fit_m) same
