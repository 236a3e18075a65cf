-- What a pair's line refers to.
use Rattle.std.proofs.Common.{◌≡◌, ℕ, zero, suc, ◌-◌, ◌<◌, ◌≤◌, List, [], ◌∷◌, length, map, get_or, slice_get, Option, Some, None, Vec, Global, All, refl, sym, ap, ◌∙◌, subst, arith}
use Rattle.intake.proofs.Common.{same_position, get_or_from_slice_get, slice_get_at, slice_get_read, slice_get_within, AreApart, RANKS, IsPlaceOf, Code, Finds, Student, students_of, student_codes, Parts, Rise, choice_code, NextPair}
use Rattle.intake.proofs.Order.{cmp_apart, get_mapped}

-- what is found satisfies what all do
pub all_found : {X : Type 0} (P : X → Type 0) (xs : List X) (n : ℕ) (x : X) → All P xs → slice_get xs n ≡ Some x → P x
all_found P [] n x h e = cc
all_found P (y ∷ xs) zero x h e = (let s : y ≡ x = cc in subst P s (h 0 y (omega arith)))
all_found P (y ∷ xs) (suc n) x h e = all_found P xs n x (λ k d l. h (suc k) d (omega arith)) e

-- a student of a draft, by codes
pub student_at : (es : List (List ℕ × Vec Code Global)) (n : ℕ) (e : List ℕ × Vec Code Global) → n < length es → e ≡ get_or es n e
    → slice_get (students_of (map (λ e. (e.0, e.1.items)) es)) n ≡ Some (record { code = e.0; list = e.1.items })
student_at es n e h r =
    let student : List ℕ × List (List ℕ) → Student = λ e. record { code = e.0; list = e.1 } in
    get_mapped student (map (λ e. (e.0, e.1.items)) es) n (e.0, e.1.items) (get_mapped (λ e. (e.0, e.1.items)) es n e (slice_get_read es (length es) n e refl h r))

-- codes that rise are distinct
pub rise_apart : (codes : List (List ℕ)) → Rise codes → AreApart codes (length codes)
rise_apart codes rise m n h l same =
    let code : List ℕ = get_or codes n [] in
    cmp_apart (get_or codes m []) code (rise m n [] h l) (get_or_from_slice_get codes m code [] (same ∙ slice_get_at codes n [] code l refl))

-- and so in codes that rise
pub one_place : (codes : List (List ℕ)) (m n : ℕ) (code : List ℕ) → Rise codes → slice_get codes m ≡ Some code → slice_get codes n ≡ Some code → m ≡ n
one_place codes m n code rise e f = same_position codes m n code (rise_apart codes rise) e f

-- what a pair's line refers to, where the line has these two codes
pub record Refers (p : Parts) (s : ℕ) (a b : List ℕ) (e : Student) : Type 0 where
  pub code : slice_get (student_codes p.instance) s ≡ Some a
  pub at : ℕ
  pub place : slice_get e.list at ≡ Some b

-- a pair that may be added refers to what is known
pub refers : (p : Parts) (row : List (List ℕ)) (s : ℕ) (x : Option ℕ) (a b : List ℕ) → (t : NextPair p row (s, x)) → row ≡ a ∷ b ∷ [] → Refers p s a b t.entry
refers p row s None a b t e = (let is = t.is in cc)
refers p row s (Some k) a b t e =
    let is : Some (t.entry.code ∷ choice_code t.entry.list k ∷ []) ≡ Some (a ∷ b ∷ []) = t.is ∙ ap Some e in
    let first : t.entry.code ≡ a = cc in
    let second : choice_code t.entry.list k ≡ b = cc in
    let listed : IsPlaceOf t.entry.list k = t.fits in
    record { code = get_mapped (λ (x : Student). x.code) p.instance.students s t.entry t.here ∙ ap Some first; at = k - 1; place = slice_get_at t.entry.list (k - 1) [] b (omega arith) second }

-- a code that was found nowhere
pub nowhere : (codes : List (List ℕ)) (n m : ℕ) (code other : List ℕ) → n ≡ length codes → code ≡ other → Finds codes n code None → slice_get codes m ≡ Some other → ⊥
nowhere codes n m code other e same none found = none m (omega (arith, slice_get_within codes m other found)) (found ∙ ap Some (sym same))

-- the list of the student that was looked up
pub listed_at : (es : List (List ℕ × Vec Code Global)) (n m : ℕ) (e : List ℕ × Vec Code Global) (st : Student) → n < length es → e ≡ get_or es n e → n ≡ m → slice_get (students_of (map (λ e. (e.0, e.1.items)) es)) m ≡ Some st → st.list ≡ e.1.items
listed_at es n m e st h r same found =
    let at : Some (let s : Student = record { code = e.0; list = e.1.items } in s) ≡ Some st = sym (student_at es n e h r) ∙ ap (slice_get (students_of (map (λ e. (e.0, e.1.items)) es))) same ∙ found in
    let s : (let s : Student = record { code = e.0; list = e.1.items } in s) ≡ st = cc in
    ap (λ (s : Student). s.list) (sym s)

-- a position in the list of a student is small
pub small_place : {n m : ℕ} (students : List Student) (es : List (List ℕ × Vec Code Global)) (s k : ℕ) (e : List ℕ × Vec Code Global) → All (λ e. length e.list ≤ RANKS) students → students ≡ students_of (map (λ e. (e.0, e.1.items)) es)
    → s < n → n ≡ length es → e ≡ get_or es s e → k < m → m ≡ length e.1.items → k < RANKS
small_place students es s k e few same h many at l long =
    let here : slice_get students s ≡ Some (record { code = e.0; list = e.1.items }) = ap (λ (l : List Student). slice_get l s) same ∙ student_at es s e (omega arith) at in
    let short : length e.1.items ≤ RANKS = all_found (λ (x : Student). length x.list ≤ RANKS) students s _ few here in
    omega arith

-- what is found at a position is one
pub same_found : (codes : List (List ℕ)) (n : ℕ) (a b : List ℕ) → slice_get codes n ≡ Some a → slice_get codes n ≡ Some b → a ≡ b
same_found codes n a b e f = (let s : Some a ≡ Some b = sym e ∙ f in cc)
