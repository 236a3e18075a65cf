-- What is said of each field and row, said of each row that is next.
use Rattle.std.proofs.Common.{◌≡◌, ℕ, suc, ◌+◌, ◌-◌, ◌*◌, ◌<◌, ◌≤◌, ℤ, pos, true, List, [], ◌∷◌, ◌++◌, length, map, get_or, codes, decimal, Option, Some, None, All, refl, sym, subst, arith}
use Rattle.intake.proofs.Common.{slice_get_at, signed_decimal, IsTrue, All-head, All-tail, All-contains, Aim, Greedy, Generous, MAX_QUOTA, RANKS, COMPONENTS, IsPlaceOf, is_code, Kind, Round, Public, Student, supervisor_codes, project_codes, student_codes, IsListOf, most_listed, InRange, Parts, IsPlace, IsRoll, IsPrice, Row, choice_code, aim_rows, pair_row, SectionName, Aims, Supervisors, Projects, Students, Pairs, StudentPrices, ProjectPrices, SupervisorPrices, IsDraft, Entry, IsNext, NextPrice}
use Rattle.intake.proofs.Order.{get_mapped}
use Rattle.intake.proofs.PairLine.{all_found}
use Rattle.intake.proofs.Prices.{price_is}

-- a list has no more projects than there are ranks
pub most_ranks : (k : Kind) → most_listed k ≤ RANKS
most_ranks Round = omega arith
most_ranks Public = omega arith

-- what is said of a field, and of a row of fields, by their widths
pub record Said (F : ℕ → List ℕ → Type 0) (R : ℕ → Row → Type 0) : Type 0 where
  pub code : (x : List ℕ) → is_code x ≡ true → F 16 x
  pub aim : F 8 (codes "generous")
  pub quota : (n : ℕ) → n ≤ MAX_QUOTA → F 3 (decimal n)
  pub number : (n : ℤ) → InRange n → F 8 (signed_decimal n)
  pub none : R 0 []
  pub more : (w k m : ℕ) (x : List ℕ) (r : Row) → F w x → R k r → suc (w + k) ≤ m → R m (x ∷ r)

-- the width of a code with a list: each field has its comma before it
abbrev pub list_width : ℕ
list_width = 17 + 17 * RANKS

-- the width of a code with a price
abbrev pub price_width : ℕ
price_width = 17 + 9 * COMPONENTS

-- the widths of the rows of the eight sections
abbrev pub width : SectionName → ℕ
width Aims = 9
width Supervisors = 21
width Projects = 38
width Students = list_width
width Pairs = 34
width StudentPrices = price_width
width ProjectPrices = price_width
width SupervisorPrices = price_width

-- what is said of fields and rows is said of the next row
module _ (F : ℕ → List ℕ → Type 0) (R : ℕ → Row → Type 0) (s : Said F R) where
  -- a quota at the end of a row
  last_quota : (n : ℕ) → n ≤ MAX_QUOTA → R 4 (decimal n ∷ [])
  last_quota n h = s.more 3 0 4 (decimal n) [] (s.quota n h) s.none (omega arith)

  -- the codes of a sound list
  list_said : (k : Kind) (known list : List (List ℕ)) → IsRoll known → IsListOf k known list → All (F 16) list
  list_said kind known list roll sound = λ k d h. s.code (get_or list k d) (All-contains (λ x. IsTrue (is_code x)) known (get_or list k d) roll.form (sound.1.known k (get_or list k d) h (slice_get_at list k d (get_or list k d) h refl)))

  -- a row of codes
  code_rows : (list : List (List ℕ)) → All (F 16) list → R (17 * length list) list
  code_rows [] h = s.none
  code_rows (x ∷ list) h = s.more 16 (17 * length list) (17 * length (x ∷ list)) x list (All-head (F 16) x list h) (code_rows list (All-tail (F 16) x list h)) (omega arith)

  -- the numbers of a price
  numbers_said : (v : List ℤ) → ((t : ℕ) → t < length v → InRange (get_or v t (pos 0))) → R (9 * length v) (map signed_decimal v)
  numbers_said [] h = s.none
  numbers_said (n ∷ v) h = s.more 8 (9 * length v) (9 * length (n ∷ v)) (signed_decimal n) (map signed_decimal v) (s.number n (h 0 (omega arith))) (numbers_said v (λ t l. h (suc t) (omega arith))) (omega arith)

  -- the row of an aim
  aim_said : (old new : Aim) (row : Row) → aim_rows new ≡ aim_rows old ++ row ∷ [] → R 9 row
  aim_said Greedy Greedy row h = cc
  aim_said Greedy Generous row h = (let is : codes "generous" ∷ [] ≡ row = cc in subst (R 9) is (s.more 8 0 9 (codes "generous") [] s.aim s.none (omega arith)))
  aim_said Generous Greedy row h = cc
  aim_said Generous Generous row h = cc

  -- the row of a pair
  pair_said : (e : Student) (x : Option ℕ) (row : Row) → F 16 e.code → All (F 16) e.list → IsPlace e x → pair_row e x ≡ Some row → R 34 row
  pair_said e None row f g l h = cc
  pair_said e (Some k) row f g l h =
      let is : e.code ∷ choice_code e.list k ∷ [] ≡ row = cc in
      let place : IsPlaceOf e.list k = l in
      subst (R 34) is (s.more 16 17 34 e.code (choice_code e.list k ∷ []) f (s.more 16 0 17 (choice_code e.list k) [] (g (k - 1) [] (omega arith)) s.none (omega arith)) (omega arith))

  -- the row of a price
  price_said : (k : Kind) (cs : List (List ℕ)) (vs : List (List ℤ)) (row : Row) (e : ℕ × List ℤ) → All (λ c. IsTrue (is_code c)) cs → NextPrice k cs vs row e → R price_width row
  price_said k cs vs row e form next =
      let price : IsPrice e.1 = next.fits in
      subst (R price_width) (sym (price_is k next.entry e.1 row next.is).1)
      (s.more 16 (9 * length e.1) price_width next.entry (map signed_decimal e.1) (s.code next.entry (all_found (λ c. IsTrue (is_code c)) cs e.0 next.entry form next.here)) (numbers_said e.1 (λ t l. price.range t (omega (arith, price.numbers)))) (omega (arith, price.numbers)))

  -- the row of any section
  pub next_said : (k : Kind) (n : SectionName) (old : Parts) (row : Row) (e : Entry n) → IsDraft k old → IsNext k n old row e → R (width n) row
  next_said k Aims old row e d next = aim_said old.aim e row next
  next_said k Supervisors old row e d next = subst (R 21) (sym next.is) (s.more 16 4 21 e.code (decimal e.quota ∷ []) (s.code e.code next.code.form) (last_quota e.quota next.fits) (omega arith))
  next_said k Projects old row e d next =
      let owner = All-contains (λ x. IsTrue (is_code x)) (supervisor_codes old.instance) e.supervisor d.instance.supervisors.form next.fits.0 in
      subst (R 38) (sym next.is) (s.more 16 21 38 e.code (e.supervisor ∷ decimal e.quota ∷ []) (s.code e.code next.code.form) (s.more 16 4 21 e.supervisor (decimal e.quota ∷ []) (s.code e.supervisor owner) (last_quota e.quota next.fits.1) (omega arith)) (omega arith))
  next_said k Students old row e d next =
      let list : IsListOf k (project_codes old.instance) e.list = next.fits in
      subst (R list_width) (sym next.is) (s.more 16 (17 * length e.list) list_width e.code e.list (s.code e.code next.code.form) (code_rows e.list (list_said k (project_codes old.instance) e.list d.instance.projects list)) (omega (arith, list.0.1, most_ranks k)))
  next_said k Pairs old row e d next =
      let code = all_found (λ x. IsTrue (is_code x)) (student_codes old.instance) e.0 next.entry.code d.instance.students.form (get_mapped (λ (x : Student). x.code) old.instance.students e.0 next.entry next.here) in
      let list = all_found (λ (x : Student). IsListOf k (project_codes old.instance) x.list) old.instance.students e.0 next.entry d.instance.listed next.here in
      pair_said next.entry e.1 row (s.code next.entry.code code) (list_said k (project_codes old.instance) next.entry.list d.instance.projects list) next.fits next.is
  next_said k StudentPrices old row e d next = price_said k (student_codes old.instance) old.student_prices row e d.instance.students.form next
  next_said k ProjectPrices old row e d next = price_said k (project_codes old.instance) old.project_prices row e d.instance.projects.form next
  next_said k SupervisorPrices old row e d next = price_said k (supervisor_codes old.instance) old.supervisor_prices row e d.instance.supervisors.form next
