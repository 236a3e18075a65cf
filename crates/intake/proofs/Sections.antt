-- Rows in sections, and their lines.
use Rattle.std.proofs.Common.{◌≡◌, ℕ, zero, suc, false, List, [], ◌∷◌, ◌++◌, map, flat_map, All, refl, sym, ap, ◌∙◌, append-nil, append_assoc}
use Rattle.intake.proofs.Common.{slice_split, ◌==◌, ⊤, map-append, All-nil, All-cons, All-append, All-head, All-tail, slice_split_none, slice_split_at, Row, Section, line, section_lines, IsFree}
use Rattle.intake.proofs.Pieces.{line_of}

-- the fields of a line
abbrev pub fields_of : List ℕ → List (List ℕ)
fields_of l = slice_split (λ b. b == 44) l

-- the fields that a line was made of
pub fields_back : (f : List ℕ) (fs : List (List ℕ)) → All (IsFree 44) (f ∷ fs) → fields_of (line f fs) ≡ f ∷ fs
fields_back f [] h = ap fields_of (append-nil f) ∙ slice_split_none (λ b. b == 44) f (All-head (IsFree 44) f [] h)
fields_back f (g ∷ fs) h = slice_split_at (λ b. b == 44) f 44 (line g fs) (All-head (IsFree 44) f (g ∷ fs) h) refl ∙ ap (λ (l : List (List ℕ)). f ∷ l) (fields_back g fs (All-tail (IsFree 44) f (g ∷ fs) h))

-- all rows, each with its letter
abbrev pub full : List Section → List (List (List ℕ))
full [] = []
full (s ∷ ss) = map (λ r. s.letter ∷ r) s.rows ++ full ss

-- fields in which the byte c does not stand
abbrev pub IsLine : ℕ → Row → Type 0
IsLine c [] = ⊥
IsLine c (l ∷ r) = All (IsFree c) (l ∷ r)

-- the fields of lines that were made of them
pub rows_back : (rows : List Row) → All (IsLine 44) rows → map fields_of (map line_of rows) ≡ rows
rows_back [] h = refl
rows_back ([] ∷ rows) h = absurd (All-head (IsLine 44) [] rows h)
rows_back ((l ∷ r) ∷ rows) h = ap (λ (f : Row). f ∷ map fields_of (map line_of rows)) (fields_back l r (All-head (IsLine 44) (l ∷ r) rows h)) ∙ ap (λ (fs : List Row). (l ∷ r) ∷ fs) (rows_back rows (All-tail (IsLine 44) (l ∷ r) rows h))

-- no section has rows
abbrev pub NoRows : List Section → Type 0
NoRows [] = ⊤
NoRows (s ∷ ss) = (s.rows ≡ []) × NoRows ss

-- a line of fields in which c does not stand
line_free : (c : ℕ) (l : List ℕ) (r : Row) → (44 == c) ≡ false → All (IsFree c) (l ∷ r) → IsFree c (line l r)
line_free c l r h f = All-append (λ b. (b == c) ≡ false) l (flat_map (λ g. 44 ∷ g) r) (All-head (IsFree c) l r f) (go r (All-tail (IsFree c) l r f))
  where
    go : (r : Row) → All (IsFree c) r → IsFree c (flat_map (λ g. 44 ∷ g) r)
    go [] f = All-nil (λ b. (b == c) ≡ false)
    go (g ∷ r) f = All-cons (λ b. (b == c) ≡ false) 44 (g ++ flat_map (λ g. 44 ∷ g) r) h (All-append (λ b. (b == c) ≡ false) g (flat_map (λ g. 44 ∷ g) r) (All-head (IsFree c) g r f) (go r (All-tail (IsFree c) g r f)))

-- and of all rows
pub lines_free : (c : ℕ) (rows : List Row) → (44 == c) ≡ false → All (IsLine c) rows → All (IsFree c) (map line_of rows)
lines_free c [] h f = All-nil (IsFree c)
lines_free c ([] ∷ rows) h f = absurd (All-head (IsLine c) [] rows f)
lines_free c ((l ∷ r) ∷ rows) h f = All-cons (IsFree c) (line l r) (map line_of rows) (line_free c l r h (All-head (IsLine c) (l ∷ r) rows f)) (lines_free c rows h (All-tail (IsLine c) (l ∷ r) rows f))

-- the letter of the section at a place
abbrev pub letter_at : ℕ → List Section → List ℕ
letter_at n [] = []
letter_at zero (s ∷ ss) = s.letter
letter_at (suc n) (s ∷ ss) = letter_at n ss

-- the section at a place has one row more: those before are the same, and those after have none
abbrev pub Grows : ℕ → List Section → List Section → Row → Type 0
Grows n [] ds row = ⊥
Grows n (s ∷ ss) [] row = ⊥
Grows zero (s ∷ ss) (d ∷ ds) row = (d.letter ≡ s.letter) × (d.rows ≡ s.rows ++ row ∷ []) × NoRows ss × NoRows ds
Grows (suc n) (s ∷ ss) (d ∷ ds) row = (d ≡ s) × Grows n ss ds row

-- sections without rows have none in all
pub no_full : (ss : List Section) → NoRows ss → full ss ≡ []
no_full [] h = refl
no_full (s ∷ ss) h = ap (λ (rows : List Row). map (λ r. s.letter ∷ r) rows ++ full ss) h.0 ∙ no_full ss h.1

-- the row comes after all others
pub full_grows : (n : ℕ) (ss ds : List Section) (row : Row) → Grows n ss ds row → full ds ≡ full ss ++ (letter_at n ss ∷ row) ∷ []
full_grows n [] ds row h = absurd h
full_grows n (s ∷ ss) [] row h = absurd h
full_grows zero (s ∷ ss) (d ∷ ds) row h =
    let e : map (λ r. d.letter ∷ r) d.rows ≡ map (λ r. s.letter ∷ r) s.rows ++ (s.letter ∷ row) ∷ [] =
    ap (λ (l : List ℕ). map (λ r. l ∷ r) d.rows) h.0 ∙ ap (map (λ r. s.letter ∷ r)) h.1 ∙ map-append (λ r. s.letter ∷ r) s.rows (row ∷ []) in
    rw (e, no_full ss h.2, no_full ds h.3) (simp append-nil)
full_grows (suc n) (s ∷ ss) (d ∷ ds) row h =
    ap (λ (x : Section). map (λ r. x.letter ∷ r) x.rows ++ full ds) h.0 ∙ ap (λ (l : List (List (List ℕ))). map (λ r. s.letter ∷ r) s.rows ++ l) (full_grows n ss ds row h.1)
    ∙ sym (append_assoc (map (λ r. s.letter ∷ r) s.rows) (full ss) ((letter_at n ss ∷ row) ∷ []))

-- the lines of rows with their letter
lines_made : (l : List ℕ) (rows : List Row) → map (line l) rows ≡ map line_of (map (λ r. l ∷ r) rows)
lines_made l [] = refl
lines_made l (r ∷ rows) = ap (λ (ls : List (List ℕ)). line l r ∷ ls) (lines_made l rows)

-- the lines of sections are those of their rows
pub full_lines : (ss : List Section) → flat_map section_lines ss ≡ map line_of (full ss)
full_lines [] = refl
full_lines (s ∷ ss) =
    ap (λ (l : List (List ℕ)). l ++ flat_map section_lines ss) (lines_made s.letter s.rows) ∙ ap (λ (l : List (List ℕ)). map line_of (map (λ r. s.letter ∷ r) s.rows) ++ l) (full_lines ss)
    ∙ sym (map-append line_of (map (λ r. s.letter ∷ r) s.rows) (full ss))
