-- A put of an entry that has one row: the row goes in the place of the one with its key, or is added where none has it.
use Rattle.office.proofs.changes.Common.{◌||◌, list_any, first_so, second_so, is_eq, Ordering, Less, Equal, Greater, IsPermutation-refl, IsPermutation-map, IsPermutation-same, Table, Supervisor, Project, Student, Import, Put, Add, AllRows, Cells, RowOf, begins, key_in, TransformsRows, SupervisorEntry, ProjectEntry, StudentEntry, ImportEntry, Key, key_cmp, same_key, by_order, find, has, put, is_below, rises, rows_in, supervisor_cells, project_cells, student_cells, import_cells, Transforms, State, supervisor_key, project_key, student_key, import_key, has_supervisor, has_project, has_student, has_import, with_import, put_or_added, below_all, find_below, keys_exact, ◌≡◌, Bool, true, false, cond, List, [], ◌∷◌, map, Some, is_some, refl, sym, ap, subst, ◌∙◌}
use Rattle.office.proofs.changes.FitAfterPut.{with_supervisor, with_project, with_student}
use Rattle.office.proofs.changes.KeyTests.{code_test}
use Rattle.office.proofs.changes.Keyed.{AreNew, added_beside}
use Rattle.office.proofs.changes.Changes.{SameElsewhere, AreFree, one_transforms}
use Rattle.office.proofs.changes.Same.{from_same, to_same}

module _ {E : Type 0} (key : E → Key) (row : E → Cells) (t : Table) (tells : (e x : E) → begins (key_in t (row e)) (row x) ≡ same_key (key e) (key x)) where
  -- a row has the key of an entry where the entry is there
  pub any_found : (e : E) (es : List E) → list_any (begins (key_in t (row e))) (map row es) ≡ has key (key e) es
  any_found e [] = refl
  any_found e (x ∷ es) = (λ i. tells e x i || any_found e es i) ∙ by (same_key (key e) (key x))
    where
      by : (b : Bool) → (b || has key (key e) es) ≡ is_some (cond b (Some x) (find key (key e) es))
      by true = refl
      by false = refl

  -- the rows of entries of new keys are new
  pub rows_free : (xs es : List E) → AreNew key xs es → AreFree t (map row xs) (map row es)
  rows_free [] es new = tt
  rows_free (x ∷ xs) es new = (any_found x es ∙ new.0, rows_free xs (x ∷ es) new.1)

  -- a row, or that of an entry where it has its key
  abbrev replaced : E → Cells → Cells
  replaced e cells = cond (begins (key_in t (row e)) cells) (row e) cells

  -- the rows stay where no entry has the key
  stay : (e : E) (es : List E) → has key (key e) es ≡ false → map (replaced e) (map row es) ≡ map row es
  stay e [] none = refl
  stay e (x ∷ xs) none = (λ i. cond (tells e x i) (row e) (row x) ∷ map (replaced e) (map row xs)) ∙ by (same_key (key e) (key x)) (stay e xs) none
    where
      by : (b : Bool) → (has key (key e) xs ≡ false → map (replaced e) (map row xs) ≡ map row xs) → is_some (cond b (Some x) (find key (key e) xs)) ≡ false
          → cond b (row e) (row x) ∷ map (replaced e) (map row xs) ≡ row x ∷ map row xs
      by true later h = absurd (cc)
      by false later h = ap (λ rows. row x ∷ rows) (later h)

  -- and else they are those of the entries after it is put
  put_over : (e : E) (es : List E) → rises key es ≡ true → has key (key e) es ≡ true → map (replaced e) (map row es) ≡ map row (put key e es)
  put_over e [] rise known = absurd (cc)
  put_over e (x ∷ xs) rise known = (λ i. cond (tells e x i) (row e) (row x) ∷ map (replaced e) (map row xs)) ∙ by (key_cmp (key e) (key x)) refl (put_over e xs (second_so (is_below key (key x) xs) (rises key xs) rise)) known
    where
      below : is_below key (key x) xs ≡ true
      below = first_so (is_below key (key x) xs) (rises key xs) rise

      by : (o : Ordering) → key_cmp (key e) (key x) ≡ o → (has key (key e) xs ≡ true → map (replaced e) (map row xs) ≡ map row (put key e xs)) → is_some (cond (is_eq o) (Some x) (find key (key e) xs)) ≡ true
          → cond (is_eq o) (row e) (row x) ∷ map (replaced e) (map row xs) ≡ map row (by_order o (e ∷ x ∷ xs) (e ∷ xs) (x ∷ put key e xs))
      by Less c later h = (let none = ap is_some (find_below key (key e) xs (below_all key (key e) (key x) xs c below)) in absurd (cc))
      by Equal c later h = ap (λ rows. row e ∷ rows) (stay e xs (ap is_some (find_below key (key e) xs (subst (λ k. is_below key k xs ≡ true) (sym (keys_exact (key e) (key x) c)) below))))
      by Greater c later h = ap (λ rows. row x ∷ rows) (later h)

  -- the rows of the table before and after an entry is put
  module _ (e : E) (es : List E) (old new : AllRows) (rise : rises key es ≡ true) (before : old t ≡ map row es) (after : new t ≡ map row (put key e es)) (elsewhere : SameElsewhere t old new) where
    -- the entry's row
    abbrev new_row : RowOf
    new_row = record { table = t; cells = row e }

    -- a put of the row, where an entry has its key
    pub entry_put : has key (key e) es ≡ true → TransformsRows (Put new_row ∷ []) old new
    entry_put known = one_transforms (Put new_row) old new tt (IsPermutation-same _ _ (ap (map (replaced e)) before ∙ put_over e es rise known ∙ sym after)) elsewhere

    -- one that is added, where no entry has its key
    pub entry_added : has key (key e) es ≡ false → TransformsRows (Add new_row ∷ []) old new
    entry_added none =
        one_transforms (Add new_row) old new
        (ap (list_any (begins (key_in t (row e)))) before ∙ any_found e es ∙ none)
        (from_same (ap (λ rows. row e ∷ rows) before) (to_same (IsPermutation-map row _ _ (added_beside key e es rise none)) (sym after))) elsewhere

    -- and one that is put or added as the entry is known or not
    entry_transforms : TransformsRows (put_or_added (has key (key e) es) new_row ∷ []) old new
    entry_transforms = by (has key (key e) es) refl
      where
        by : (known : Bool) → has key (key e) es ≡ known → TransformsRows (put_or_added known new_row ∷ []) old new
        by true h = entry_put h
        by false h = entry_added h

-- ---- the rolls, and imports

pub transforms_supervisor : (o : State) (s : SupervisorEntry) → rises supervisor_key o.supervisors ≡ true → Transforms (put_or_added (has_supervisor o s.code) (record { table = Supervisor; cells = supervisor_cells s }) ∷ []) o (with_supervisor o s)
transforms_supervisor o s rise = entry_transforms supervisor_key supervisor_cells Supervisor (λ e x. code_test e.code x.code) s o.supervisors (rows_in o) (rows_in (with_supervisor o s)) rise refl refl others
  where
    others : SameElsewhere Supervisor (rows_in o) (rows_in (with_supervisor o s))
    others Supervisor h = cc
    others _ h = IsPermutation-refl _

pub transforms_project : (o : State) (p : ProjectEntry) → rises project_key o.projects ≡ true → Transforms (put_or_added (has_project o p.code) (record { table = Project; cells = project_cells p }) ∷ []) o (with_project o p)
transforms_project o p rise = entry_transforms project_key project_cells Project (λ e x. code_test e.code x.code) p o.projects (rows_in o) (rows_in (with_project o p)) rise refl refl others
  where
    others : SameElsewhere Project (rows_in o) (rows_in (with_project o p))
    others Project h = cc
    others _ h = IsPermutation-refl _

pub transforms_student : (o : State) (s : StudentEntry) → rises student_key o.students ≡ true → Transforms (put_or_added (has_student o s.code) (record { table = Student; cells = student_cells s }) ∷ []) o (with_student o s)
transforms_student o s rise = entry_transforms student_key student_cells Student (λ e x. code_test e.code x.code) s o.students (rows_in o) (rows_in (with_student o s)) rise refl refl others
  where
    others : SameElsewhere Student (rows_in o) (rows_in (with_student o s))
    others Student h = cc
    others _ h = IsPermutation-refl _

pub transforms_import : (i : ImportEntry) (o : State) → rises import_key o.imports ≡ true → Transforms (put_or_added (has_import o i.id) (record { table = Import; cells = import_cells i }) ∷ []) o (with_import i o)
transforms_import i o rise = entry_transforms import_key import_cells Import (λ e x. code_test e.id x.id) i o.imports (rows_in o) (rows_in (with_import i o)) rise refl refl others
  where
    others : SameElsewhere Import (rows_in o) (rows_in (with_import i o))
    others Import h = cc
    others _ h = IsPermutation-refl _
