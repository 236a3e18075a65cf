-- The first line up to which lines begin no text of the kind.
use Rattle.std.proofs.Common.{◌≡◌, ℕ, ◌+◌, ◌<◌, ◌≤◌, List, [], ◌∷◌, ◌++◌, length, map, take, drop, get_or, All, refl, sym, ap, ◌∙◌, subst, arith, append_assoc, append-nil}
use Rattle.intake.proofs.Common.{◌==◌, map-append, map_push, take_more, take_at, take_all, take-append-le, take-append-drop, length-append, get_or_at, get_or-map, Bor, length-slice_split, Kind, Parts, ArePartsOf, Row, sections, lines_of, text_of, pieces, BeginsLines, IsFirstBadLine, IsDraft, IsWhole, IsFree, nothing, Adds}
use Rattle.intake.proofs.Chain.{Reads, nothing_draft, reached, reads_draft, reads_push, reads_rest}
use Rattle.intake.proofs.Ends.{draft_begins}
use Rattle.intake.proofs.Pieces.{line_back, line_of, pieces_back, text_back}
use Rattle.intake.proofs.Plain.{parts_plain}
use Rattle.intake.proofs.Sections.{fields_of, full, full_lines, lines_free, rows_back}

-- there is a piece
pub some_piece : (text : List ℕ) → 1 ≤ length (pieces text)
some_piece text = omega (arith, length-slice_split (λ b. b == 10) text)

-- the pieces of a text are its lines and an empty one
pub text_pieces : (k : Kind) (text : List ℕ) (p : Parts) → ArePartsOf k p → text ≡ text_of k p → pieces text ≡ lines_of k p ++ [] ∷ []
text_pieces k text p v e = ap pieces e ∙ pieces_back (lines_of k p) (subst (All (IsFree 10)) (sym (full_lines (sections k p))) (lines_free 10 (full (sections k p)) refl (parts_plain 10 (omega arith) k p v)))

-- the fields of the lines of parts
pub parts_back : (k : Kind) (p : Parts) → ArePartsOf k p → map fields_of (lines_of k p) ≡ full (sections k p)
parts_back k p v = ap (map fields_of) (full_lines (sections k p)) ∙ rows_back (full (sections k p)) (parts_plain 44 (omega arith) k p v)

-- the lines of parts, up to any of them, begin a text
front_begins : (k : Kind) (p : Parts) (n : ℕ) → ArePartsOf k p → BeginsLines k (take n (lines_of k p))
front_begins k p n v = (p, drop n (lines_of k p), v, sym (take-append-drop n (lines_of k p)))

-- the lines of fields are those that they were read from
lines_back : (ls : List (List ℕ)) → map line_of (map fields_of ls) ≡ ls
lines_back [] = refl
lines_back (l ∷ ls) = ap (λ (x : List ℕ). x ∷ map line_of (map fields_of ls)) (line_back l) ∙ ap (λ (rest : List (List ℕ)). l ∷ rest) (lines_back ls)

-- these lines were read from the first on
abbrev pub IsRead : Kind → List (List ℕ) → Parts → Type 0
IsRead k ls d = Reads k nothing (map fields_of ls) d

-- they are a draft
pub read_draft : (k : Kind) (ls : List (List ℕ)) (d : Parts) → IsRead k ls d → IsDraft k d
read_draft k ls d r = (reads_draft k nothing d (map fields_of ls) (nothing_draft k) r).0

-- and its lines
read_lines : (k : Kind) (ls : List (List ℕ)) (d : Parts) → IsRead k ls d → lines_of k d ≡ ls
read_lines k ls d r = full_lines (sections k d) ∙ ap (map line_of) (reads_draft k nothing d (map fields_of ls) (nothing_draft k) r).1 ∙ lines_back ls

-- the lines of parts are read after those that were
rest_read : (k : Kind) (p : Parts) (ls rest : List (List ℕ)) (d : Parts) → ArePartsOf k p → lines_of k p ≡ ls ++ rest → IsRead k ls d → (e : Parts) × IsWhole k e × Reads k d (map fields_of rest) e
rest_read k p ls rest d v e r =
    let all = reached k p v in
    let rows = sym (parts_back k p v) ∙ ap (map fields_of) e ∙ map-append fields_of ls rest in
    (all.draft, all.whole, reads_rest k nothing all.draft d (map fields_of ls) (map fields_of rest) (nothing_draft k) (subst (λ (l : List Row). Reads k nothing l all.draft) rows all.reads) r)

-- a line that adds nothing begins no text with those before it
no_more : (k : Kind) (ls : List (List ℕ)) (l : List ℕ) (d : Parts) → IsRead k ls d → ((new : Parts) → ¬ Adds k d (fields_of l) new) → ¬ BeginsLines k (ls ++ l ∷ [])
no_more k ls l d r refused b = (let t = rest_read k b.0 ls (l ∷ b.1) d b.2 (b.3 ∙ append_assoc ls (l ∷ []) b.1) r in refused t.2.0 t.2.1)

-- it is the first bad one
pub bad_line : (k : Kind) (text : List ℕ) (n : ℕ) (d : Parts) (l : List ℕ) → IsRead k (take n (pieces text)) d → n + 1 < length (pieces text) → get_or (pieces text) n [] ≡ l → ((new : Parts) → ¬ Adds k d (fields_of l) new) → IsFirstBadLine k text (n + 1)
bad_line k text n d l read h at none =
    let all : take (n + 1) (pieces text) ≡ take n (pieces text) ++ l ∷ [] = take_more (pieces text) n [] (omega arith) ∙ ap (λ (x : List ℕ). take n (pieces text) ++ x ∷ []) at in
    let refused = no_more k (take n (pieces text)) l d read none in
    record {
      before = n;
      number = refl;
      there = omega arith;
      good = subst (BeginsLines k) (read_lines k (take n (pieces text)) d read) (draft_begins k d (read_draft k (take n (pieces text)) d read));
      bad = λ m b. refused (subst (BeginsLines k) all b);
      refused = λ p v e.
          let ps : pieces text ≡ lines_of k p ++ [] ∷ [] = text_pieces k text p v e in
          let few : n + 1 ≤ length (lines_of k p) = omega (arith, ap length ps, length-append (lines_of k p) ([] ∷ [])) in
          refused (subst (BeginsLines k) (sym (ap (take (n + 1)) ps ∙ take-append-le (n + 1) (lines_of k p) ([] ∷ []) few) ∙ all) (front_begins k p (n + 1) v));
    }

-- a last line without its end, or a text that ends too early
pub bad_end : (k : Kind) (text : List ℕ) (m n : ℕ) (d : Parts) → IsRead k (take n (pieces text)) d → length (pieces text) ≡ n + 1 → m ≡ n + 1 → (get_or (pieces text) n [] ≡ [] → ¬ IsWhole k d) → IsFirstBadLine k text m
bad_end k text m n d read many number last = record {
  before = n;
  number = number;
  there = omega arith;
  good = subst (BeginsLines k) (read_lines k (take n (pieces text)) d read) (draft_begins k d (read_draft k (take n (pieces text)) d read));
  bad = λ h b. absurd (omega arith);
  refused = λ p v e.
      let ps : pieces text ≡ lines_of k p ++ [] ∷ [] = text_pieces k text p v e in
      let count : length (lines_of k p) ≡ n = omega (arith, ap length ps, length-append (lines_of k p) ([] ∷ [])) in
      let t = rest_read k p (take n (pieces text)) [] d v (sym (ap (take n) ps ∙ take_at (lines_of k p) ([] ∷ []) n count) ∙ sym (append-nil (take n (pieces text)))) read in
      last (ap (λ (l : List (List ℕ)). get_or l n []) ps ∙ get_or_at (lines_of k p) [] [] [] n count) (subst (IsWhole k) (sym t.2) t.1);
}

-- a text that may end at its end is that of its lines
pub good_text : (k : Kind) (text : List ℕ) (n : ℕ) (d : Parts) → IsRead k (take n (pieces text)) d → length (pieces text) ≡ n + 1 → get_or (pieces text) n [] ≡ [] → text ≡ text_of k d
good_text k text n d read many last =
    text_back text (lines_of k d) (sym (take_all (n + 1) (pieces text) (omega arith)) ∙ take_more (pieces text) n [] (omega arith) ∙ ap (λ (l : List (List ℕ)). l ++ get_or (pieces text) n [] ∷ []) (sym (read_lines k (take n (pieces text)) d read)) ∙ ap (λ (x : List ℕ). lines_of k d ++ x ∷ []) last)

-- a piece that was read
pub piece_at : (text : List ℕ) (lines : List (Bor (List ℕ))) (n : ℕ) (x : Bor (List ℕ)) → map (λ p. p.now) lines ≡ pieces text → n < length lines → x ≡ get_or lines n x → get_or (pieces text) n [] ≡ x.now
piece_at text lines n x e h read = ap (λ (l : List (List ℕ)). get_or l n []) (sym e) ∙ get_or-map (λ (p : Bor (List ℕ)). p.now) lines n x [] h ∙ ap (λ (p : Bor (List ℕ)). p.now) (sym read)

-- one line more of those that were read
pub line_more : (k : Kind) (text : List ℕ) (n : ℕ) (old new : Parts) (l : List ℕ) → n < length (pieces text) → get_or (pieces text) n [] ≡ l → IsRead k (take n (pieces text)) old → Adds k old (fields_of l) new → IsRead k (take (n + 1) (pieces text)) new
line_more k text n old new l h at read a =
    let lines : take (n + 1) (pieces text) ≡ take n (pieces text) ++ l ∷ [] = take_more (pieces text) n [] h ∙ ap (λ (x : List ℕ). take n (pieces text) ++ x ∷ []) at in
    subst (λ (rows : List Row). Reads k nothing rows new) (sym (ap (map fields_of) lines ∙ map_push fields_of (take n (pieces text)) l)) (reads_push k nothing old new (map fields_of (take n (pieces text))) (fields_of l) read a)
