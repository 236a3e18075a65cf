-- The text of parts is not too large.
use Rattle.std.proofs.Common.{◌≡◌, ℕ, ◌+◌, ◌*◌, ◌≤◌, ◌&&◌, ℤ, pos, negsuc, true, not, List, [], ◌∷◌, ◌++◌, length, map, flat_map, decimal, None, refl, ap, ◌∙◌, arith, rules, length-append}
use Rattle.intake.proofs.Common.{signed_decimal, list_all, ◌==◌, nat_le, slice_index, first_so, second_so, nat_tests, ints, length-decimal-le, length_signed_le, length-map, length_push, Aim, Greedy, Generous, MAX_QUOTA, is_code, is_code_byte, Supervisor, Project, Student, supervisor_codes, project_codes, student_codes, InRange, MAX_BYTES, Parts, IsPlace, IsPrice, IsRoundParts, Kind, Round, Public, Row, SectionName, Aims, Supervisors, Projects, Students, Pairs, StudentPrices, ProjectPrices, SupervisorPrices, line, ended, sections, aim_rows, round_text, IsDraft, Entry, IsNext, StandsAfter, added, letter_of, nothing, with_entry, zeros}
use Rattle.intake.proofs.Chain.{Reads, added_length, adds_draft, nothing_draft, reached, reads_draft}
use Rattle.intake.proofs.Numbers.{small}
use Rattle.intake.proofs.Pieces.{line_of}
use Rattle.intake.proofs.Prices.{price_after}
use Rattle.intake.proofs.Sections.{full, full_lines}
use Rattle.intake.proofs.Where.{first_few}
use Rattle.intake.proofs.Widths.{Said, list_width, next_said, price_width, width}

-- the bytes of fields, with the comma before each
abbrev size : Row → ℕ
size [] = 0
size (f ∷ r) = 1 + length f + size r

-- those of a line's fields
fields_size : (r : Row) → length (flat_map (λ f. 44 ∷ f) r) ≡ size r
fields_size [] = refl
fields_size (f ∷ r) = let e = length-append f (flat_map (λ g. 44 ∷ g) r) in let s = fields_size r in omega (arith, e, s)

-- a code is short
code_short : (x : List ℕ) → is_code x ≡ true → length x ≤ 16
code_short x h =
    let forms = first_so ((nat_le 1 (length x) && nat_le (length x) 16) && not (slice_index x 0 == 45)) (list_all is_code_byte x) h in
    let sizes = first_so (nat_le 1 (length x) && nat_le (length x) 16) (not (slice_index x 0 == 45)) forms in
    let few = second_so (nat_le 1 (length x)) (nat_le (length x) 16) sizes in
    grind (arith, nat_tests)

-- so is a quota
quota_short : (q : ℕ) → q ≤ MAX_QUOTA → length (decimal q) ≤ 3
quota_short q h = length-decimal-le 3 q (omega arith) (omega arith) (omega arith)

-- and a number of a price
number_short : (x : ℤ) → InRange x → length (signed_decimal x) ≤ 8
number_short (pos n) h = length_signed_le 7 (pos n) (omega (arith, ints)) (small (pos n) h)
number_short (negsuc n) h = length_signed_le 7 (negsuc n) (omega (arith, ints)) (small (negsuc n) h)

-- fields and rows are no longer than they are wide
short_said : Said (λ w x. length x ≤ w) (λ k r. size r ≤ k)
short_said = record {
  code = code_short;
  aim = omega arith;
  quota = quota_short;
  number = number_short;
  none = omega arith;
  more = λ w k m x r f g h. omega (arith, f, g, h);
}

-- the most bytes of the lines of what was read
abbrev weight : Parts → ℕ
weight p =
    11 * length (aim_rows p.aim) + 23 * length p.instance.supervisors + 40 * length p.instance.projects + (2 + list_width) * length p.instance.students + 36 * length p.places
    + (2 + price_width) * (length p.student_prices + length p.project_prices + length p.supervisor_prices)

-- one more of a position
more : {X : Type 0} (b : X) (k : Kind) (xs : List X) (n : ℕ) (x : X) → StandsAfter k (length xs) n → length xs + 1 ≤ length (added b xs (n, x))
more b k xs n x h = (let after = price_after k (length xs) n h in let later = after.0 in omega (arith, added_length b xs n x later))

-- an entry more weighs as much as its line
heavier : (k : Kind) (s : SectionName) (p : Parts) (row : Row) (e : Entry s) → IsNext k s p row e → weight p + (2 + width s) ≤ weight (with_entry s p e)
heavier k Aims p row e next = omega (arith, ap length next, length-append (aim_rows p.aim) (row ∷ []))
heavier k Supervisors p row e next = omega (arith, length_push p.instance.supervisors e)
heavier k Projects p row e next = omega (arith, length_push p.instance.projects e)
heavier k Students p row e next = omega (arith, length_push p.instance.students e)
heavier k Pairs p row e next = (let m = more None Public p.places e.0 e.1 next.later in omega (arith, m))
heavier k StudentPrices p row e next = (let m = more zeros k p.student_prices e.0 e.1 next.later in omega (arith, m))
heavier k ProjectPrices p row e next = (let m = more zeros k p.project_prices e.0 e.1 next.later in omega (arith, m))
heavier k SupervisorPrices p row e next = (let m = more zeros k p.supervisor_prices e.0 e.1 next.later in omega (arith, m))

-- a letter is one byte
letter_size : (k : Kind) (s : SectionName) → length (letter_of k s) ≡ 1
letter_size k s = search rules

-- what is read has no more bytes than what was added weighs
reads_size : (k : Kind) (a b : Parts) (rows : List Row) → IsDraft k a → Reads k a rows b → weight a + length (ended (map line_of rows)) ≤ weight b
reads_size k a b [] d r = omega (arith, ap weight r)
reads_size k a b (x ∷ rows) d r =
    let add = r.1 in
    let row = next_said (λ w f. length f ≤ w) (λ w f. size f ≤ w) short_said k add.section a add.row add.adds.entry d add.adds.next in
    let l : List ℕ = letter_of k add.section in
    let first : length (line_of x ++ 10 ∷ []) ≡ length l + size add.row + 1 = ap (λ (f : Row). length (line_of f ++ 10 ∷ [])) add.is ∙ omega (arith, length_push (line l add.row) 10, length-append l (flat_map (λ f. 44 ∷ f) add.row), fields_size add.row) in
    let rest = reads_size k r.0 b rows (adds_draft k a x r.0 d add).0 r.2 in
    omega (arith, first, length-append (line_of x ++ 10 ∷ []) (ended (map line_of rows)), rest, letter_size k add.section, row, heavier k add.section a add.row add.adds.entry add.adds.next, ap weight add.adds.made)

-- an aim has one row at most
aim_few : (aim : Aim) → length (aim_rows aim) ≤ 1
aim_few Greedy = omega arith
aim_few Generous = omega arith

-- the text of parts has no more than the largest number of bytes
pub text_small : (p : Parts) → IsRoundParts p → length (round_text p) ≤ MAX_BYTES
text_small p v =
    let r = reached Round p v in
    let q : Parts = r.draft in
    let d = (reads_draft Round nothing q (full (sections Round p)) (nothing_draft Round) r.reads).0 in
    let size = reads_size Round nothing q (full (sections Round p)) (nothing_draft Round) r.reads in
    let w = d.instance.within in
    let us = length-map q.instance.students (λ (e : Student). e.code) in
    let ys = length-map q.instance.projects (λ (e : Project). e.code) in
    let zs = length-map q.instance.supervisors (λ (e : Supervisor). e.code) in
    let pairs = first_few IsPlace q.instance.students q.places d.places in
    let u = first_few (λ c. IsPrice) (student_codes q.instance) q.student_prices d.prices.0 in
    let y = first_few (λ c. IsPrice) (project_codes q.instance) q.project_prices d.prices.2.0 in
    let z = first_few (λ c. IsPrice) (supervisor_codes q.instance) q.supervisor_prices d.prices.2.2.0 in
    omega (arith, ap (λ (l : List (List ℕ)). length (ended l)) (full_lines (sections Round p)), size, aim_few q.aim, w.supervisors, w.projects, w.students, us, ys, zs, pairs, u, y, z)
