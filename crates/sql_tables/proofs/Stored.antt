-- A row of ours as it is stored: it is of its columns' kinds, and agrees with another at its key where that one begins with the key.
use Rattle.sql_tables.proofs.Common.{◌≡◌, ◌⊎◌, inl, inr, ℕ, ℤ, pos, ◌≤◌, List, [], ◌∷◌, codes, drop, Some, Bool, true, false, if◌then◌else◌, refl, ◌∙◌, arith, int_cmp, is_ge, is_le, Int, Words, Bytes as Blob, Row, rowid, plain, value_cmp-Int, is_eq, and_from, and_parts, from_truth, is_true, agree, equal, passes_checks, is_present, is_typed, Ours as Table, Supervisor, Project, Student, Round, Import, RoundAim, Choice, Placement, between, checks_of, cells, made_here, shape_of, begins_with}
use Rattle.sqlite_tied.specs.Compute.{everything}
use Rattle.sqlite_tied.proofs.RuleLemmas.{and_true}
use Rattle.sqlite.specs.Order.{value_cmp}
use Rattle.sqlite_value.specs.declared.keys.Collation.TheVariants.{Binary}
use Rattle.sqlite_value.specs.Keys.{first_key}
use Rattle.sqlite_sql.specs.Ops.{binary}
use Rattle.sqlite_value.specs.Order.{column}
use Rattle.sql_tables.proofs.References.{IsParent}
use Rattle.sql_tables.proofs.Taken.{stored}

-- at the key of the table it agrees with the rows that begin so
abbrev pub AgreesAt : Table → Row → Row → Type 0
AgreesAt table given key = (tree : ℕ) (id : ℤ) (r : Row)
    → agree plain (shape_of table).primary r (shape_of table).primary (stored table id given) ≡ begins_with key (cells (made_here table tree) r)

-- it is of its columns' kinds
abbrev pub IsTyped : Table → Row → Type 0
IsTyped table given =
    (tree : ℕ) (id : ℤ) → (is_typed (made_here table tree) (stored table id given) ≡ true) × (is_present (made_here table tree) (stored table id given) ≡ true)

pub supervisor_agrees : (code label : List ℕ) (quota : ℤ) → AgreesAt Supervisor (Words code ∷ Words label ∷ Int quota ∷ []) (Words code ∷ [])
unfolding everything first_key
supervisor_agrees code label quota tree id r = refl

pub supervisor_typed : (code label : List ℕ) (quota : ℤ) → IsTyped Supervisor (Words code ∷ Words label ∷ Int quota ∷ [])
supervisor_typed code label quota tree id = (refl, refl)

pub project_agrees : (code label supervisor : List ℕ) (quota : ℤ)
    → AgreesAt Project (Words code ∷ Words label ∷ Words supervisor ∷ Int quota ∷ []) (Words code ∷ [])
unfolding everything first_key
project_agrees code label supervisor quota tree id r = refl

pub project_typed : (code label supervisor : List ℕ) (quota : ℤ) → IsTyped Project (Words code ∷ Words label ∷ Words supervisor ∷ Int quota ∷ [])
project_typed code label supervisor quota tree id = (refl, refl)

pub student_agrees : (code label : List ℕ) → AgreesAt Student (Words code ∷ Words label ∷ []) (Words code ∷ [])
unfolding everything first_key
student_agrees code label tree id r = refl

pub student_typed : (code label : List ℕ) → IsTyped Student (Words code ∷ Words label ∷ [])
student_typed code label tree id = (refl, refl)

pub import_agrees : (name kind bytes : List ℕ) (rows : ℤ) → AgreesAt Import (Words name ∷ Words kind ∷ Blob bytes ∷ Int rows ∷ []) (Words name ∷ [])
unfolding everything first_key
import_agrees name kind bytes rows tree id r = refl

pub import_typed : (name kind bytes : List ℕ) (rows : ℤ) → IsTyped Import (Words name ∷ Words kind ∷ Blob bytes ∷ Int rows ∷ [])
import_typed name kind bytes rows tree id = (refl, refl)

pub placement_agrees : (student : List ℕ) (round : ℤ) (project : List ℕ) (rank : ℤ)
    → AgreesAt Placement (Words student ∷ Int round ∷ Words project ∷ Int rank ∷ []) (Words student ∷ [])
unfolding everything first_key
placement_agrees student round project rank tree id r = refl

pub placement_typed : (student : List ℕ) (round : ℤ) (project : List ℕ) (rank : ℤ)
    → IsTyped Placement (Words student ∷ Int round ∷ Words project ∷ Int rank ∷ [])
placement_typed student round project rank tree id = (refl, refl)

pub choice_agrees : (round : ℤ) (student : List ℕ) (place : ℤ) (project : List ℕ)
    → AgreesAt Choice (Int round ∷ Words student ∷ Int place ∷ Words project ∷ []) (Int round ∷ Words student ∷ Int place ∷ [])
unfolding everything first_key
choice_agrees round student place project tree id r = refl

pub choice_typed : (round : ℤ) (student : List ℕ) (place : ℤ) (project : List ℕ) → IsTyped Choice (Int round ∷ Words student ∷ Int place ∷ Words project ∷ [])
choice_typed round student place project tree id = (refl, refl)

pub round_agrees : (number state : ℤ) (tree : ℕ) (r : Row)
    → agree plain (0 ∷ []) r (0 ∷ []) (stored Round number (Int number ∷ Int state ∷ [])) ≡ begins_with (Int number ∷ []) (cells (made_here Round tree) r)
unfolding everything first_key
round_agrees number state tree r = refl

pub round_typed : (number state : ℤ) → IsTyped Round (Int number ∷ Int state ∷ [])
round_typed number state tree id = (refl, refl)

pub aim_typed : (round generous : ℤ) → IsTyped RoundAim (Int round ∷ Int generous ∷ [])
aim_typed round generous tree id = (refl, refl)

-- ---- CHECK rules

module _ (tree : ℕ) (id : ℤ) where
  -- as it is stored it passes the rules
  abbrev pub Passes : Table → Row → Type 0
  Passes table given = passes_checks (made_here table tree) (stored table id given) ≡ true

  -- so it does where a number lies between two others, and no more is asked
  lies_between : (table : Table) (given : Row) (place low n high : ℕ) → checks_of table ≡ between place low high ∷ []
      → column (stored table id given) place ≡ Int (pos n) → low ≤ n → n ≤ high → Passes table given
  unfolding binary
  lies_between table given place low n high rule is some few =
      let from_low : is_ge (int_cmp (pos n) (pos low)) ≡ true = grind (arith, some) in
      let to_high : is_le (int_cmp (pos n) (pos high)) ≡ true = grind (arith, few) in
      rw (rule, is, value_cmp-Int (pos n) (pos low), value_cmp-Int (pos n) (pos high), from_low, to_high) refl

  pub supervisor_checked : (code label : List ℕ) (quota : ℕ) → quota ≤ 500 → Passes Supervisor (Words code ∷ Words label ∷ Int (pos quota) ∷ [])
  supervisor_checked code label quota few = lies_between Supervisor (Words code ∷ Words label ∷ Int (pos quota) ∷ []) 3 0 quota 500 refl refl (omega arith) few

  pub project_checked : (code label supervisor : List ℕ) (quota : ℕ) → quota ≤ 500
      → Passes Project (Words code ∷ Words label ∷ Words supervisor ∷ Int (pos quota) ∷ [])
  project_checked code label supervisor quota few =
      lies_between Project (Words code ∷ Words label ∷ Words supervisor ∷ Int (pos quota) ∷ []) 4 0 quota 500 refl refl (omega arith) few

  pub choice_checked : (round : ℤ) (student : List ℕ) (place : ℕ) (project : List ℕ) → 1 ≤ place → place ≤ 12
      → Passes Choice (Int round ∷ Words student ∷ Int (pos place) ∷ Words project ∷ [])
  choice_checked round student place project some few =
      lies_between Choice (Int round ∷ Words student ∷ Int (pos place) ∷ Words project ∷ []) 3 1 place 12 refl refl some few

  pub placement_checked : (student : List ℕ) (round : ℤ) (project : List ℕ) (rank : ℕ) → 1 ≤ rank → rank ≤ 12
      → Passes Placement (Words student ∷ Int round ∷ Words project ∷ Int (pos rank) ∷ [])
  placement_checked student round project rank some few =
      lies_between Placement (Words student ∷ Int round ∷ Words project ∷ Int (pos rank) ∷ []) 4 1 rank 12 refl refl some few

  pub student_checked : (code label : List ℕ) → Passes Student (Words code ∷ Words label ∷ [])
  student_checked code label = refl

  pub round_checked : (number : ℤ) (b : Bool) → Passes Round (Int number ∷ Int (pos (if b then 1 else 0)) ∷ [])
  unfolding binary value_cmp lib.Ieee.is_nan lib.Ieee.lt
  round_checked number true = refl
  round_checked number false = refl

  pub aim_checked : (round : ℤ) (b : Bool) → Passes RoundAim (Int round ∷ Int (pos (if b then 1 else 0)) ∷ [])
  unfolding binary value_cmp lib.Ieee.is_nan lib.Ieee.lt
  aim_checked round true = refl
  aim_checked round false = refl

  pub import_checked : (name kind bytes : List ℕ) (rows : ℤ)
      → (kind ≡ codes "supervisors") ⊎ ((kind ≡ codes "projects") ⊎ ((kind ≡ codes "students") ⊎ (kind ≡ codes "lists")))
      → Passes Import (Words name ∷ Words kind ∷ Blob bytes ∷ Int rows ∷ [])
  unfolding binary value_cmp lib.Ieee.is_nan lib.Ieee.lt
  import_checked name kind bytes rows (inl is) = rw is refl
  import_checked name kind bytes rows (inr (inl is)) = rw is refl
  import_checked name kind bytes rows (inr (inr (inl is))) = rw is refl
  import_checked name kind bytes rows (inr (inr (inr is))) = rw is refl

-- ---- rows that are named

-- a row is named by a column of another where it begins with the value there
pub names_at : (parent : Table) → IsParent parent → (tree : ℕ) (p new : Row) (at : ℕ)
    → agree plain (shape_of parent).primary p (at ∷ []) new ≡ begins_with (column new at ∷ []) (cells (made_here parent tree) p)
unfolding everything first_key
names_at Supervisor is tree p new at = refl
names_at Project is tree p new at = refl
names_at Student is tree p new at = refl
names_at Round is tree p new at = refl
names_at _ is tree p new at = absurd is

-- a row that agrees with a choice at its second key begins with its round and student, and goes on with its project
pub second_agrees : (round : ℤ) (student : List ℕ) (place : ℤ) (project : List ℕ) (tree : ℕ) (id : ℤ) (r : Row)
    → agree plain (1 ∷ 2 ∷ 4 ∷ []) r (1 ∷ 2 ∷ 4 ∷ []) (stored Choice id (Int round ∷ Words student ∷ Int place ∷ Words project ∷ [])) ≡ true
    → (begins_with (Int round ∷ Words student ∷ []) (cells (made_here Choice tree) r) ≡ true)
    × (begins_with (Words project ∷ []) (drop 3 (cells (made_here Choice tree) r)) ≡ true)
unfolding everything first_key
second_agrees round student place project tree id r h =
    let first = and_parts _ _ h in
    let second = and_parts _ _ first.1 in
    (and_from _ _ first.0 (and_from _ _ second.0 refl), second.1)

truth_is : (b : Bool) → is_true (from_truth (Some b)) ≡ b
truth_is true = refl
truth_is false = refl

-- a number that compares as another equals it
pub equal_ids : (m n : ℤ) → is_eq (value_cmp (Int m) (Int n)) ≡ true → equal Binary (Int m) (Int n) ≡ true
unfolding binary
equal_ids m n h = truth_is _ ∙ h

pub round_begins : (number : ℤ) (tree : ℕ) (r : Row) → begins_with (Int number ∷ []) (cells (made_here Round tree) r) ≡ equal Binary (rowid r) (Int number)
unfolding everything first_key
round_begins number tree r = and_true _

pub aim_begins : (number : ℤ) (tree : ℕ) (r : Row) → begins_with (Int number ∷ []) (cells (made_here RoundAim tree) r) ≡ equal Binary (rowid r) (Int number)
unfolding everything first_key
aim_begins number tree r = and_true _
