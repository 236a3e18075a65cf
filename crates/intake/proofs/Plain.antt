-- A comma or an LF stands in no field.
use Rattle.std.proofs.Common.{◌≡◌, ℕ, suc, ◌+◌, ◌<◌, ◌≤◌, ◌^◌, ◌%◌, ℤ, pos, negsuc, Bool, true, false, List, [], ◌∷◌, codes, decimal, All, refl, sym, subst, arith}
use Rattle.intake.proofs.Common.{signed_decimal, list_all, ◌==◌, nat_le, first_so, second_so, ne_eqb, nat_tests, decimal_by_steps, All-nil, All-cons, All-push, is_code, is_code_byte, InRange, Kind, Round, Public, Parts, ArePartsOf, Row, SectionName, Aims, Supervisors, Projects, Students, Pairs, StudentPrices, ProjectPrices, SupervisorPrices, sections, IsDraft, IsFree, letter_of, nothing, code_bytes}
use Rattle.intake.proofs.Chain.{Reads, adds_draft, nothing_draft, reached}
use Rattle.intake.proofs.Widths.{Said, next_said}
use Rattle.intake.proofs.Numbers.{small}
use Rattle.intake.proofs.Sections.{IsLine, full}

-- a byte of a code is at least a dash
code_byte_high : (b : ℕ) → is_code_byte b ≡ true → 45 ≤ b
code_byte_high b h = grind (arith, nat_tests)

-- and so is one that is tested for it
pub tested_high : (b : ℕ) → nat_le 45 b ≡ true → 45 ≤ b
tested_high b h = grind (arith, nat_tests)

-- a byte that stands in no field
module _ (c : ℕ) (low : c < 45) where
  -- it is distinct from those that do
  apart : (b : ℕ) → 45 ≤ b → (b == c) ≡ false
  apart b h = ne_eqb b c (λ e. omega (arith, e))

  -- it is none of the bytes that a test takes, where the test takes none below a dash
  pub high_plain : (test : ℕ → Bool) → ((b : ℕ) → test b ≡ true → 45 ≤ b) → (x : List ℕ) → list_all test x ≡ true → IsFree c x
  high_plain test high [] h = All-nil (λ b. (b == c) ≡ false)
  high_plain test high (b ∷ x) h = All-cons (λ b. (b == c) ≡ false) b x (apart b (high b (first_so (test b) (list_all test x) h))) (high_plain test high x (second_so (test b) (list_all test x) h))

  -- a code has no comma in it
  pub code_plain : (x : List ℕ) → is_code x ≡ true → IsFree c x
  code_plain x h = high_plain is_code_byte code_byte_high x (code_bytes x h)

  -- a digit is no comma
  digit_plain : (n : ℕ) → n < 10 → ((48 + n) == c) ≡ false
  digit_plain n h = apart (48 + n) (omega arith)

  -- a number has no comma in it
  pub number_plain : (n : ℕ) → n < 2 ^ 64 → IsFree c (decimal n)
  number_plain n h = decimal_by_steps (λ n ds. IsFree c ds)
      (λ n l. All-cons (λ b. (b == c) ≡ false) (48 + n) [] (digit_plain n l) (All-nil (λ b. (b == c) ≡ false)))
      (λ n ds l d. All-push (λ b. (b == c) ≡ false) ds (48 + n % 10) d (digit_plain (n % 10) (omega arith))) n h

  -- and none of a price has
  pub signed_plain : (n : ℤ) → InRange n → IsFree c (signed_decimal n)
  signed_plain (pos n) h = let s = small (pos n) h in number_plain n (omega (arith, s))
  signed_plain (negsuc n) h = let s = small (negsuc n) h in All-cons (λ b. (b == c) ≡ false) 45 (decimal (suc n)) (apart 45 (omega arith)) (number_plain (suc n) (omega (arith, s)))

  -- no byte of a field is the one
  free_said : Said (λ w x. IsFree c x) (λ k r. All (IsFree c) r)
  free_said = record {
    code = code_plain;
    aim = high_plain (nat_le 45) tested_high (codes "generous") refl;
    quota = λ n h. number_plain n (omega arith);
    number = signed_plain;
    none = All-nil (IsFree c);
    more = λ w k m x r f g h. All-cons (IsFree c) x r f g;
  }

  -- a letter is not the byte
  letter : (b : ℕ) → 45 ≤ b → IsFree c (b ∷ [])
  letter b h = All-cons (λ b. (b == c) ≡ false) b [] (apart b h) (All-nil (λ b. (b == c) ≡ false))

  -- nor are those of the sections
  letters : (k : Kind) (s : SectionName) → IsFree c (letter_of k s)
  letters k Aims = letter 65 (omega arith)
  letters k Supervisors = letter 83 (omega arith)
  letters k Projects = letter 80 (omega arith)
  letters Round Students = letter 67 (omega arith)
  letters Public Students = letter 82 (omega arith)
  letters k Pairs = letter 77 (omega arith)
  letters k StudentPrices = letter 85 (omega arith)
  letters k ProjectPrices = letter 89 (omega arith)
  letters k SupervisorPrices = letter 90 (omega arith)

  -- it stands in no field of what is read
  reads_plain : (k : Kind) (a b : Parts) (rows : List Row) → IsDraft k a → Reads k a rows b → All (IsLine c) rows
  reads_plain k a b [] d r = All-nil (IsLine c)
  reads_plain k a b (x ∷ rows) d r =
      let add = r.1 in
      let row = next_said (λ w f. IsFree c f) (λ w f. All (IsFree c) f) free_said k add.section a add.row add.adds.entry d add.adds.next in
      All-cons (IsLine c) x rows (subst (IsLine c) (sym add.is) (All-cons (IsFree c) (letter_of k add.section) add.row (letters k add.section) row)) (reads_plain k r.0 b rows (adds_draft k a x r.0 d add).0 r.2)

  -- so it is with the parts of a text
  pub parts_plain : (k : Kind) (p : Parts) → ArePartsOf k p → All (IsLine c) (full (sections k p))
  parts_plain k p v = (let r = reached k p v in reads_plain k nothing r.draft (full (sections k p)) (nothing_draft k) r.reads)
