-- A list that gets no refusal: its projects are known, and none stands twice. Each test looks for a choice among those before
-- it, and `is_distinct` for each choice among those after it.
use Rattle.office.proofs.changes.Common.{◌||◌, AllByRecursion, list_any, bytes_eq, and_from, false_from_ne_true, or_left, or_right, bytes_eq-Decides, State, has_project, is_distinct, choice_tests, ◌≡◌, ℕ, Bool, true, false, not, List, [], ◌∷◌, ◌++◌, refl, ap, subst, ◌∙◌, list_any-append, Refusal}
use Rattle.office.proofs.changes.Entries.{not_false}

-- none of the tests is met
abbrev pub Passed : List (Bool × Refusal) → Type 0
Passed tests = AllByRecursion (λ (c : Bool × Refusal). c.0 ≡ false) tests

-- the projects are known
pub choices_known : (o : State) (before cs : List (List ℕ)) → Passed (choice_tests o before cs) → AllByRecursion (λ p. has_project o p ≡ true) cs
choices_known o before [] a = tt
choices_known o before (c ∷ cs) a = (not_false (has_project o c) a.0, choices_known o (before ++ c ∷ []) cs a.1.1)

-- what stands before them is none of them
apart : (o : State) (x : List ℕ) (before cs : List (List ℕ)) → Passed (choice_tests o before cs) → list_any (bytes_eq x) before ≡ true → list_any (bytes_eq x) cs ≡ false
apart o x before [] a h = refl
apart o x before (c ∷ cs) a h =
    let other : bytes_eq x c ≡ false = false_from_ne_true (bytes_eq x c) (λ t. let found : list_any (bytes_eq c) before ≡ true = subst (λ y. list_any (bytes_eq y) before ≡ true) ((bytes_eq-Decides x c).0 t) h in let none = a.1.0 in cc) in
    ap (λ b. b || list_any (bytes_eq x) cs) other
    ∙ apart o x (before ++ c ∷ []) cs a.1.1 (list_any-append (bytes_eq x) before (c ∷ []) ∙ or_left (list_any (bytes_eq x) before) (list_any (bytes_eq x) (c ∷ [])) h)

-- none stands twice
pub choices_distinct : (o : State) (before cs : List (List ℕ)) → Passed (choice_tests o before cs) → is_distinct cs ≡ true
choices_distinct o before [] a = refl
choices_distinct o before (c ∷ cs) a =
    let itself : list_any (bytes_eq c) (c ∷ []) ≡ true = ap (λ b. b || false) ((bytes_eq-Decides c c).1 refl) in
    and_from (not (list_any (bytes_eq c) cs)) (is_distinct cs)
    (ap not (apart o c (before ++ c ∷ []) cs a.1.1 (list_any-append (bytes_eq c) before (c ∷ []) ∙ or_right (list_any (bytes_eq c) before) (list_any (bytes_eq c) (c ∷ [])) itself)))
    (choices_distinct o (before ++ c ∷ []) cs a.1.1)
