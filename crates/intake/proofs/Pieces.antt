-- The pieces of a text: lines and fields.
use Rattle.std.proofs.Common.{◌≡◌, ℕ, false, inl, inr, List, [], ◌∷◌, ◌++◌, All, refl, sym, ap, ◌∙◌, subst, append_assoc, append-nil, take, drop, ◌+◌, ◌-◌, ◌<◌, ◌≤◌, true, zero, suc, length, get_or, arith}
use Rattle.intake.proofs.Common.{◌==◌, slice_split, onto_first, join_with_byte, cases_Bool, slice_split-cons_yes, slice_split-cons_no, slice_split_at, slice_split_none, join_with_byte-slice_split, All-nil, All-cons, All-head, All-tail, All-append, get_or-drop, drop-drop, drop_more, take_more, take_rest, length-drop, take-append-drop, line, ended, IsFree}

-- one byte more of the first piece
onto_free : (c b : ℕ) (parts : List (List ℕ)) → (b == c) ≡ false → All (IsFree c) parts → All (IsFree c) (onto_first b parts)
onto_free c b [] h f = All-cons (IsFree c) (b ∷ []) [] (All-cons (λ b. (b == c) ≡ false) b [] h (All-nil (λ b. (b == c) ≡ false))) (All-nil (IsFree c))
onto_free c b (p ∷ parts) h f = All-cons (IsFree c) (b ∷ p) parts (All-cons (λ b. (b == c) ≡ false) b p h (All-head (IsFree c) p parts f)) (All-tail (IsFree c) p parts f)

-- the byte of the cuts stands in no piece
pub pieces_free : (c : ℕ) (bs : List ℕ) → All (IsFree c) (slice_split (λ b. b == c) bs)
pieces_free c [] = All-cons (IsFree c) [] [] (All-nil (λ b. (b == c) ≡ false)) (All-nil (IsFree c))
pieces_free c (b ∷ bs) =
    elim (cases_Bool (b == c)) [
      | inl cut ↦ subst (All (IsFree c)) (sym (slice_split-cons_yes (λ b. b == c) b bs cut)) (All-cons (IsFree c) [] (slice_split (λ b. b == c) bs) (All-nil (λ b. (b == c) ≡ false)) (pieces_free c bs))
      | inr on ↦ subst (All (IsFree c)) (sym (slice_split-cons_no (λ b. b == c) b bs on)) (onto_free c b (slice_split (λ b. b == c) bs) on (pieces_free c bs))
    ]

-- the line of fields that begin with a letter
abbrev pub line_of : List (List ℕ) → List ℕ
line_of [] = []
line_of (letter ∷ row) = line letter row

-- the line of fields, joined by commas
line_joined : (fs : List (List ℕ)) → line_of fs ≡ join_with_byte 44 fs
line_joined [] = refl
line_joined (f ∷ []) = append-nil f
line_joined (f ∷ g ∷ fs) = ap (λ (l : List ℕ). f ++ 44 ∷ l) (line_joined (g ∷ fs))

-- a line is that of its fields
pub line_back : (l : List ℕ) → line_of (slice_split (λ b. b == 44) l) ≡ l
line_back l = line_joined (slice_split (λ b. b == 44) l) ∙ join_with_byte-slice_split 44 l

-- lines with their ends, joined
ended_joined : (ls : List (List ℕ)) → ended ls ≡ join_with_byte 10 (ls ++ [] ∷ [])
ended_joined [] = refl
ended_joined (l ∷ []) = append-nil (l ++ 10 ∷ [])
ended_joined (l ∷ m ∷ ls) = append_assoc l (10 ∷ []) (ended (m ∷ ls)) ∙ ap (λ (t : List ℕ). l ++ 10 ∷ t) (ended_joined (m ∷ ls))

-- the text of lines that are all its pieces but an empty last one
pub text_back : (text : List ℕ) (ls : List (List ℕ)) → slice_split (λ b. b == 10) text ≡ ls ++ [] ∷ [] → text ≡ ended ls
text_back text ls e = sym (join_with_byte-slice_split 10 text) ∙ ap (join_with_byte 10) e ∙ sym (ended_joined ls)

-- the pieces of lines with their ends
pub pieces_back : (ls : List (List ℕ)) → All (IsFree 10) ls → slice_split (λ b. b == 10) (ended ls) ≡ ls ++ [] ∷ []
pieces_back [] f = refl
pieces_back (l ∷ ls) f =
    ap (slice_split (λ b. b == 10)) (append_assoc l (10 ∷ []) (ended ls)) ∙ slice_split_at (λ b. b == 10) l 10 (ended ls) (All-head (IsFree 10) l ls f) refl
    ∙ ap (λ (ps : List (List ℕ)). l ∷ ps) (pieces_back ls (All-tail (IsFree 10) l ls f))

-- the pieces that end before a place of the text, and the one that is not at its end there
pub record AreCut (c : ℕ) (text : List ℕ) (ps : List (List ℕ)) (start at : ℕ) : Type 0 where
  pub order : start ≤ at
  pub free : IsFree c (take (at - start) (drop start text))
  pub cut : ps ++ slice_split (λ b. b == c) (drop start text) ≡ slice_split (λ b. b == c) text

-- the byte at a place, in what is left of the text
byte_left : (text : List ℕ) (start at d : ℕ) → start ≤ at → get_or (drop start text) (at - start) d ≡ get_or text at d
byte_left text start at d h = get_or-drop start text (at - start) d ∙ ap (λ (n : ℕ). get_or text n d) (omega arith)

-- the piece goes on
pub cut_on : (c : ℕ) (text : List ℕ) (ps : List (List ℕ)) (start at d : ℕ) → at < length text → (get_or text at d == c) ≡ false → AreCut c text ps start at → AreCut c text ps start (at + 1)
cut_on c text ps start at d h on k =
    let order = k.order in
    let more : take (at + 1 - start) (drop start text) ≡ take (at - start) (drop start text) ++ get_or (drop start text) (at - start) d ∷ [] =
    ap (λ (n : ℕ). take n (drop start text)) (omega arith) ∙ take_more (drop start text) (at - start) d (omega (arith, length-drop start text)) in
    let free = All-cons (λ b. (b == c) ≡ false) (get_or (drop start text) (at - start) d) [] (ap (λ (b : ℕ). b == c) (byte_left text start at d order) ∙ on) (All-nil (λ b. (b == c) ≡ false)) in
    record {
      order = omega arith;
      free = subst (IsFree c) (sym more) (All-append (λ b. (b == c) ≡ false) (take (at - start) (drop start text)) (get_or (drop start text) (at - start) d ∷ []) k.free free);
      cut = k.cut;
    }

-- the piece ends
pub cut_here : (c : ℕ) (text : List ℕ) (ps : List (List ℕ)) (start at d : ℕ) → at < length text → (get_or text at d == c) ≡ true → AreCut c text ps start at
    → AreCut c text (ps ++ take (at - start) (drop start text) ∷ []) (at + 1) (at + 1)
cut_here c text ps start at d h end k =
    let order = k.order in
    let piece : List ℕ = take (at - start) (drop start text) in
    let rest : drop (at - start) (drop start text) ≡ get_or text at d ∷ drop (at + 1) text =
    drop-drop (at - start) start text ∙ ap (λ (n : ℕ). drop n text) (omega arith) ∙ drop_more text at d h in
    let parts : drop start text ≡ piece ++ get_or text at d ∷ drop (at + 1) text = sym (take-append-drop (at - start) (drop start text)) ∙ ap (λ (l : List ℕ). piece ++ l) rest in
    record {
      order = omega arith;
      free = nothing_yet (at + 1 - (at + 1)) (omega arith);
      cut = append_assoc ps (piece ∷ []) (slice_split (λ b. b == c) (drop (at + 1) text))
          ∙ ap (λ (l : List (List ℕ)). ps ++ l) (sym (ap (slice_split (λ b. b == c)) parts ∙ slice_split_at (λ b. b == c) piece (get_or text at d) (drop (at + 1) text) k.free end)) ∙ k.cut;
    }
  where
    nothing_yet : (n : ℕ) → n ≡ 0 → IsFree c (take n (drop (at + 1) text))
    nothing_yet zero e = All-nil (λ b. (b == c) ≡ false)
    nothing_yet (suc n) e = cc

-- and so does the last, with the text
pub cut_all : (c : ℕ) (text : List ℕ) (ps : List (List ℕ)) (start : ℕ) → AreCut c text ps start (length text) → ps ++ drop start text ∷ [] ≡ slice_split (λ b. b == c) text
cut_all c text ps start k = ap (λ (l : List (List ℕ)). ps ++ l) (sym (slice_split_none (λ b. b == c) (drop start text) (subst (IsFree c) (take_rest text start) k.free))) ∙ k.cut
