-- A student who puts a first list is one more in the round's instance: with the student's code and list at its end, an instance by
-- positions that was of the round before is of the round after.
use Rattle.std.proofs.Common.{◌≡◌, ◌≢◌, ℕ, zero, suc, ◌+◌, ◌<◌, ◌≤◌, inl, inr, Bool, true, false, cond, List, [], ◌∷◌, ◌++◌, length, map, slice_get, find, Option, Some, None, is_some, IsSome, option_map, All, AllPairs, refl, sym, ap, subst, ◌∙◌, arith, length-append}
use Rattle.desk.proofs.layers.Common.{option_map_or, option_or, bytes_eq, length-map, length_push, All-push, bytes_eq-Decides, RANKS, MAX_STUDENTS, code_at, Shape, Instance, project_codes, Named, Names, IsFitInstance, instance_of, projects_named, students_named, IsRanking, SessionState, with_list, Listed, State, list_key, aim_of, last_round, lists_of, list_of, choices_in, is_open, round_is_open, round_instance, IsFit, ListFits, same_code, find-put, length-put, holds_of_found, same_as_itself, IsSameRound, IsSessionOf, IsFirstList, MayJoin}
use Rattle.std.proofs.lemmas.Bool.{cases_Bool, cases_lt}
use Rattle.std.proofs.lemmas.List.Folds.{find-append}
use Rattle.spa.specs.Instance as spa
use Rattle.office_model.specs.declared.rounds.Round.{Round}
use Rattle.office_model.specs.Roll.{find as entry, put}
use Rattle.office_model.specs.Stepping.{with_last}
use Rattle.office_model.proofs.LastRound.{last_kept, reading_kept}
use Rattle.office.proofs.closing.Entries.{find_made}
use Rattle.office.proofs.changes.StayingRounds.{lists_changed}

-- ---- an instance by positions with one student more

-- one student more, with this code and list
abbrev pub with_one : Named → List ℕ → List ℕ → Named
with_one i code list = record i { student_codes = i.student_codes ++ code ∷ []; shape = with_list i.shape list }

students_pushed : (projects codes lists : List (List ℕ)) (c list : List ℕ) → length codes ≡ length lists
    → students_named projects (codes ++ c ∷ []) (lists ++ list ∷ []) ≡ students_named projects codes lists ++ record { code = c; list = map (code_at projects) list } ∷ []
students_pushed projects [] [] c list same = refl
students_pushed projects [] (xs ∷ lists) c list same = absurd (omega (arith, same))
students_pushed projects (d ∷ codes) [] c list same = absurd (omega (arith, same))
students_pushed projects (d ∷ codes) (xs ∷ lists) c list same =
    ap (λ (ss : List spa.Student). record { code = d; list = map (code_at projects) xs } ∷ ss) (students_pushed projects codes lists c list (omega (arith, same)))

students_many : (projects codes lists : List (List ℕ)) → length codes ≡ length lists → length (students_named projects codes lists) ≡ length lists
students_many projects [] [] same = refl
students_many projects [] (xs ∷ lists) same = absurd (omega (arith, same))
students_many projects (d ∷ codes) [] same = absurd (omega (arith, same))
students_many projects (d ∷ codes) (xs ∷ lists) same = ap suc (students_many projects codes lists (omega (arith, same)))

projects_codes : (supervisors codes : List (List ℕ)) (ps : List (ℕ × ℕ)) → length codes ≡ length ps → map (λ e. e.code) (projects_named supervisors codes ps) ≡ codes
projects_codes supervisors [] ps same = refl
projects_codes supervisors (c ∷ codes) [] same = absurd (omega (arith, same))
projects_codes supervisors (c ∷ codes) (p ∷ ps) same = ap (λ (cs : List (List ℕ)). c ∷ cs) (projects_codes supervisors codes ps (omega (arith, same)))

-- a code that finds no student is none of the codes
not_named : (projects codes lists : List (List ℕ)) (c : List ℕ) → length codes ≡ length lists → find (λ e. bytes_eq c e.code) (students_named projects codes lists) ≡ None → (p : ℕ) → slice_get codes p ≡ Some c → ⊥
not_named projects [] lists c same none p e = cc
not_named projects (d ∷ codes) [] c same none p e = absurd (omega (arith, same))
not_named projects (d ∷ codes) (xs ∷ lists) c same none p e =
    elim (cases_Bool (bytes_eq c d)) [
      | inl t ↦ absurd (let h = rw t at none in cc)
      | inr t ↦ let h = rw t at none in not_first d codes c p t e (λ q f. not_named projects codes lists c (omega (arith, same)) h q f)
    ]
  where
    not_first : (d : List ℕ) (codes : List (List ℕ)) (c : List ℕ) (p : ℕ) → bytes_eq c d ≡ false → slice_get (d ∷ codes) p ≡ Some c → ((q : ℕ) → slice_get codes q ≡ Some c → ⊥) → ⊥
    not_first d codes c zero t e later = let k : c ≡ d = (let s : Some d ≡ Some c = e in cc) in absurd (let u = (bytes_eq-Decides c d).1 k in cc)
    not_first d codes c (suc p) t e later = later p e

slice_before : (xs : List (List ℕ)) (c : List ℕ) (p : ℕ) → p < length xs → slice_get (xs ++ c ∷ []) p ≡ slice_get xs p
slice_before [] c p h = absurd (omega arith)
slice_before (x ∷ xs) c zero h = refl
slice_before (x ∷ xs) c (suc p) h = slice_before xs c p (omega arith)

slice_last : (xs : List (List ℕ)) (c : List ℕ) (p : ℕ) → p ≡ length xs → slice_get (xs ++ c ∷ []) p ≡ Some c
slice_last [] c zero e = refl
slice_last [] c (suc p) e = absurd (omega (arith, e))
slice_last (x ∷ xs) c zero e = absurd (omega (arith, e))
slice_last (x ∷ xs) c (suc p) e = slice_last xs c p (omega (arith, e))

names_pushed : (codes : List (List ℕ)) (n m : ℕ) (c : List ℕ) → Names codes n → m ≡ n + 1 → ((p : ℕ) → slice_get codes p ≡ Some c → ⊥) → Names (codes ++ c ∷ []) m
names_pushed codes n m c names is new = record {
  one_each = omega (arith, length_push codes c, names.one_each, is);
  distinct = λ p q l h same.
      let many = names.one_each in
      elim (cases_lt q n) [
        | inl k ↦ names.distinct p q l k (sym (slice_before codes c p (omega (arith, l, k, many))) ∙ same ∙ slice_before codes c q (omega (arith, k, many)))
        | inr k ↦ new p (sym (slice_before codes c p (omega (arith, l, h, is, many))) ∙ same ∙ slice_last codes c q (omega (arith, k, h, is, many)))
      ];
}

-- the list may be admitted
pub record MayAdmit (shape : Shape) (list : List ℕ) : Type 0 where
  pub few : length shape.students < MAX_STUDENTS
  pub some : 1 ≤ length list
  pub short : length list ≤ RANKS
  pub known : All (λ p. p < length shape.projects) list
  pub distinct : AllPairs (λ p q. p ≢ q) list

-- an instance is fit with one student more
fit_pushed : (i : Named) (c list : List ℕ) → IsFitInstance i → MayAdmit i.shape list → ((p : ℕ) → slice_get i.student_codes p ≡ Some c → ⊥) → IsFitInstance (with_one i c list)
fit_pushed i c list fit may new = record {
  sound = record {
    offered = fit.sound.offered;
    ranked = All-push (λ (xs : List ℕ). 0 < length xs) i.shape.students list fit.sound.ranked may.some;
    within = All-push (λ (xs : List ℕ). length xs ≤ RANKS) i.shape.students list fit.sound.within may.short;
    known = All-push (λ (xs : List ℕ). All (λ p. p < length i.shape.projects) xs) i.shape.students list fit.sound.known may.known;
    distinct = All-push (λ (xs : List ℕ). AllPairs (λ p q. p ≢ q) xs) i.shape.students list fit.sound.distinct may.distinct;
  };
  limits = record {
    supervisors = fit.limits.supervisors;
    projects = fit.limits.projects;
    students = omega (arith, length_push i.shape.students list, may.few);
    supervisor_quotas = fit.limits.supervisor_quotas;
    project_quotas = fit.limits.project_quotas;
  };
  supervisors = fit.supervisors;
  projects = fit.projects;
  students = names_pushed i.student_codes (length i.shape.students) (length (i.shape.students ++ list ∷ [])) c fit.students (length_push i.shape.students list) new;
}

-- ---- the round after the list

-- the student of a list
abbrev listed : Listed → spa.Student
listed l = record { code = l.student; list = l.choices }

nothing_some : {A : Type 0} (x : Option A) → is_some x ≡ false → x ≡ None
nothing_some None h = refl
nothing_some (Some a) h = cc

-- what is found with one entry more
found_more : (b : Bool) (l : Listed) (x : Option Listed) → (b ≡ true → x ≡ None) → option_map listed (cond b (Some l) x) ≡ option_or (option_map listed x) (cond b (Some (listed l)) None)
found_more true l x h = ap (λ (y : Option Listed). option_or (option_map listed y) (Some (listed l))) (sym (h refl))
found_more false l None h = refl
found_more false l (Some y) h = refl

module _ (o n : State) (student : List ℕ) (first : IsFirstList o student n) (opened : round_is_open o ≡ true) where
  -- the list
  abbrev own : Listed
  own = record { student = student; choices = first.choices }

  -- what the put makes of the last round
  abbrev listing : Round → Round
  listing r = record r { lists = put list_key own r.lists }

  same_last : last_round (with_last listing o) ≡ last_round o
  same_last = last_kept listing (λ r. refl) o first.fit.numbered

  -- the round keeps its aim
  pub same_aim : aim_of n (last_round n) ≡ aim_of o (last_round o)
  same_aim = ap (λ (x : State). aim_of x (last_round x)) first.after ∙ ap (aim_of (with_last listing o)) same_last

  lists_after : lists_of n (last_round n) ≡ put list_key own (lists_of o (last_round o))
  lists_after =
      ap (λ (x : State). lists_of x (last_round x)) first.after ∙ ap (lists_of (with_last listing o)) same_last
      ∙ lists_changed (put list_key own) o first.fit opened

  -- the round is still open
  pub still_open : round_is_open n ≡ true
  still_open =
      ap (λ (x : State). round_is_open x) first.after ∙ ap (is_open (with_last listing o)) same_last
      ∙ reading_kept listing (λ r. refl) o first.fit.numbered (λ (r : Round). r.is_open) false (λ r. refl) (last_round o) ∙ opened

  none_before : entry list_key (0, student) (lists_of o (last_round o)) ≡ None
  none_before = nothing_some _ first.none_yet

  -- the student's list is found
  found_own : list_of n (last_round n) student ≡ Some own
  found_own =
      ap (λ (ls : List Listed). entry list_key (0, student) ls) lists_after ∙ find-put list_key (0, student) own (lists_of o (last_round o))
      ∙ ap (λ (b : Bool). cond b (Some own) (entry list_key (0, student) (lists_of o (last_round o)))) (same_as_itself student)

  -- and each student's
  found_after : (code : List ℕ) → find (λ e. bytes_eq code e.code) (round_instance n).students
      ≡ option_or (find (λ e. bytes_eq code e.code) (round_instance o).students) (cond (bytes_eq code student) (Some (listed own)) None)
  found_after code =
      find_made list_key listed (λ e. e.code) (λ e. refl) code (lists_of n (last_round n))
      ∙ ap (λ (ls : List Listed). option_map listed (entry list_key (0, code) ls)) lists_after
      ∙ ap (λ (x : Option Listed). option_map listed x) (find-put list_key (0, code) own (lists_of o (last_round o)))
      ∙ ap (λ (b : Bool). option_map listed (cond b (Some own) (entry list_key (0, code) (lists_of o (last_round o))))) (same_code code student)
      ∙ found_more (bytes_eq code student) own (entry list_key (0, code) (lists_of o (last_round o)))
      (λ is. ap (λ (c : List ℕ). entry list_key (0, c) (lists_of o (last_round o))) ((bytes_eq-Decides code student).0 is) ∙ none_before)
      ∙ ap (λ (x : Option spa.Student). option_or x (cond (bytes_eq code student) (Some (listed own)) None)) (sym (find_made list_key listed (λ e. e.code) (λ e. refl) code (lists_of o (last_round o))))

  many_lists : length (lists_of n (last_round n)) ≡ length (lists_of o (last_round o)) + 1
  many_lists =
      ap (λ (ls : List Listed). length ls) lists_after ∙ length-put list_key own (lists_of o (last_round o)) (first.fit.lists_rise (last_round o))
      ∙ ap (λ (b : Bool). cond b (length (lists_of o (last_round o))) (length (lists_of o (last_round o)) + 1)) first.none_yet

  -- with the student at the end, an instance of the round before is of the round after
  joined_round : (l : Instance) → IsSameRound l (round_instance o) → IsSameRound (record l { students = l.students ++ listed own ∷ [] }) (round_instance n)
  joined_round l same = record {
    supervisors = same.supervisors ∙ ap (λ (x : State). (round_instance x).supervisors) (sym first.after);
    projects = same.projects ∙ ap (λ (x : State). (round_instance x).projects) (sym first.after);
    found = λ code.
        find-append (λ (e : spa.Student). bytes_eq code e.code) l.students (listed own ∷ [])
        ∙ ap (λ (x : Option spa.Student). option_or x (cond (bytes_eq code student) (Some (listed own)) None)) (same.found code) ∙ sym (found_after code);
    as_many = omega (arith, length-append l.students (listed own ∷ []), same.as_many, length-map (lists_of o (last_round o)) listed, length-map (lists_of n (last_round n)) listed, many_lists);
  }

  module _ (fit : IsFit n) (few : length (lists_of n (last_round n)) ≤ MAX_STUDENTS) (i : Named) (sound : IsFitInstance i) (same : IsSameRound (instance_of i) (round_instance o)) (list : List ℕ) (ranking : IsRanking (project_codes (round_instance n)) (choices_in n (last_round n) student) list) where
    own_fits : ListFits n (last_round n) own
    own_fits = holds_of_found list_key (ListFits n (last_round n)) (0, student) (lists_of n (last_round n)) own (fit.lists_fit (last_round n)) found_own

    same_codes : project_codes (round_instance n) ≡ i.project_codes
    same_codes =
        ap (λ (x : State). project_codes (round_instance x)) first.after ∙ ap (λ (ps : List spa.Project). map (λ e. e.code) ps) (sym same.projects)
        ∙ projects_codes i.supervisor_codes i.project_codes i.shape.projects sound.projects.one_each

    own_named : map (code_at i.project_codes) list ≡ first.choices
    own_named =
        ap (λ (codes : List (List ℕ)). map (code_at codes) list) (sym same_codes) ∙ ranking.named
        ∙ ap (λ (x : Option Listed). option_map_or (λ (l : Listed). l.choices) x []) found_own

    -- the list may be admitted
    pub may_admit : MayAdmit i.shape list
    may_admit =
        let long : length list ≡ length first.choices = sym (length-map list (code_at i.project_codes)) ∙ ap (λ (cs : List (List ℕ)). length cs) own_named in
        let many : length (instance_of i).students ≡ length i.shape.students = students_many i.project_codes i.student_codes i.shape.students sound.students.one_each in
        let projects : length (project_codes (round_instance n)) ≡ length i.shape.projects = ap (λ (cs : List (List ℕ)). length cs) same_codes ∙ sound.projects.one_each in
        record {
          few = omega (arith, many, same.as_many, length-map (lists_of o (last_round o)) listed, many_lists, few);
          some = omega (arith, long, own_fits.choices.some);
          short = omega (arith, long, own_fits.choices.few);
          known = subst (λ (m : ℕ). All (λ p. p < m) list) projects ranking.known;
          distinct = ranking.apart;
        }

    new_code : (p : ℕ) → slice_get i.student_codes p ≡ Some student → ⊥
    new_code =
        not_named i.project_codes i.student_codes i.shape.students student sound.students.one_each
        (same.found student ∙ find_made list_key listed (λ e. e.code) (λ e. refl) student (lists_of o (last_round o)) ∙ ap (λ (x : Option Listed). option_map listed x) none_before)

    -- and with it the instance is that of the round after
    pub mirrors_after : (session : SessionState) → session.aim ≡ aim_of n (last_round n) → with_list i.shape list ≡ session.shape → IsSessionOf n session
    mirrors_after session aim here = record {
      is_open = still_open;
      aim = aim;
      named = with_one i student list;
      fit = fit_pushed i student list sound may_admit new_code;
      here = here;
      same = subst (λ (ss : List spa.Student). IsSameRound (record (instance_of i) { students = ss }) (round_instance n))
          (sym (students_pushed i.project_codes i.student_codes i.shape.students student list sound.students.one_each
          ∙ ap (λ (choices : List (List ℕ)). (instance_of i).students ++ record { code = student; list = choices } ∷ []) own_named))
          (joined_round (instance_of i) same);
    }

-- a student who may join the session has a list in the round
pub joins_listed : (n : State) (session : SessionState) (student : List ℕ) → MayJoin n session student → IsSome (list_of n (last_round n) student)
joins_listed n session student joins = ap (λ (x : Option Listed). is_some x) (found_own joins.before n student joins.put joins.sat.is_open)

module _ (n : State) (session : SessionState) (student : List ℕ) (joins : MayJoin n session student) (fit : IsFit n) (few : length (lists_of n (last_round n)) ≤ MAX_STUDENTS) (list : List ℕ) (ranking : IsRanking (project_codes (round_instance n)) (choices_in n (last_round n) student) list) where
  -- the list of a student who may join the session may be admitted
  pub joins_admitted : MayAdmit session.shape list
  joins_admitted = subst (λ (s : Shape). MayAdmit s list) joins.sat.here (may_admit joins.before n student joins.put joins.sat.is_open fit few joins.sat.named joins.sat.fit joins.sat.same list ranking)

  -- and then the session mirrors the office
  pub joins_mirrors : (new : SessionState) → new.aim ≡ session.aim → new.shape ≡ with_list session.shape list → IsSessionOf n new
  joins_mirrors new aim is =
      mirrors_after joins.before n student joins.put joins.sat.is_open fit few joins.sat.named joins.sat.fit joins.sat.same list ranking new (aim ∙ joins.sat.aim ∙ sym (same_aim joins.before n student joins.put joins.sat.is_open))
      (ap (λ (s : Shape). with_list s list) joins.sat.here ∙ sym is)
