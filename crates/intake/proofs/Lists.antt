-- A list of projects, read field by field.
use Rattle.std.proofs.Common.{◌≡◌, ◌≢◌, ℕ, zero, suc, ◌+◌, ◌<◌, List, [], ◌∷◌, ◌++◌, length, map, get_or, take, slice_get, Option, Some, None, refl, sym, ap, ◌∙◌, arith}
use Rattle.intake.proofs.Common.{apart_more, contained_code, known_more, get_or_from_slice_get, Bor, take_more, length-take-le, length-map, map-append, Finds, IsSoundUpTo, IsListOf, Kind, Rise}
use Rattle.intake.proofs.PairLine.{one_place}
use Rattle.intake.proofs.Rolls.{standing}

-- what a look-up past the end gives
abbrev pub blank : Bor (List ℕ)
blank = record { ref_ptr = (0, 0); now = [] }

-- a field that is there
pub field_at : (fs : List (Bor (List ℕ))) (k : ℕ) → k < length fs → (k < length (map (λ f. f.now) fs)) × (slice_get (map (λ f. f.now) fs) k ≡ Some (get_or fs k blank).now)
field_at [] k h = absurd (omega arith)
field_at (f ∷ fs) zero h = (omega arith, refl)
field_at (f ∷ fs) (suc k) h = (let at = field_at fs k (omega arith) in (omega (arith, at.0), at.1))

-- a list with an unknown code is not sound
pub unknown_code : (kind : Kind) (codes list : List (List ℕ)) (n k : ℕ) (code : List ℕ) → n ≡ length codes → IsListOf kind codes list → k < length list → slice_get list k ≡ Some code → Finds codes n code None → ⊥
unknown_code kind codes list n k code e sound h here none =
    let at = standing codes code (sound.1.known k code h here) in
    none at.0 (omega (arith, at.1)) at.2

-- a code before a place, in the list and among the first that were read
taken : (list : List (List ℕ)) (k p : ℕ) → p < k → slice_get (take k list) p ≡ slice_get list p
taken list zero p h = absurd (omega arith)
taken [] (suc k) p h = refl
taken (x ∷ list) (suc k) zero h = refl
taken (x ∷ list) (suc k) (suc p) h = taken list k p (omega arith)

-- a list with a code twice is not sound
pub repeated_code : (kind : Kind) (codes list seen : List (List ℕ)) (k p : ℕ) (code : List ℕ) → IsListOf kind codes list → k < length list → slice_get list k ≡ Some code → seen ≡ take k list → Finds seen (length seen) code (Some p) → ⊥
repeated_code kind codes list seen k p code sound h here e found =
    let few : length seen ≡ k = ap length e ∙ length-take-le k list (omega arith) in
    let less : p < k = omega (arith, found.0) in
    sound.1.apart p k less h (sym (taken list k p less) ∙ ap (λ (l : List (List ℕ)). slice_get l p) (sym e) ∙ found.1 ∙ sym here)

-- one code more
pub sound_more : (codes list seen : List (List ℕ)) (n k p : ℕ) (code : List ℕ) → k < length list → slice_get list k ≡ Some code → seen ≡ take k list → IsSoundUpTo codes list k → Finds codes n code (Some p)
    → Finds seen (length seen) code None → IsSoundUpTo codes list (k + 1)
sound_more codes list seen n k p code h here e so_far known fresh =
    let few : length seen ≡ k = ap length e ∙ length-take-le k list (omega arith) in
    record {
      known = known_more codes list k code so_far.known here (contained_code codes p code known.1);
      apart = apart_more list k code here so_far.apart (λ q l same. fresh q (omega arith) (ap (λ (l : List (List ℕ)). slice_get l q) e ∙ taken list k q l ∙ same));
    }

-- and of what was read
pub read_more : (list seen new : List (List ℕ)) (k : ℕ) (code : List ℕ) → k < length list → slice_get list k ≡ Some code → seen ≡ take k list → new ≡ seen ++ code ∷ [] → new ≡ take (k + 1) list
read_more list seen new k code h here e f = f ∙ ap (λ (l : List (List ℕ)). l ++ code ∷ []) e ∙ ap (λ (c : List ℕ). take k list ++ c ∷ []) (sym (get_or_from_slice_get list k code [] here)) ∙ sym (take_more list k [] h)

-- the codes that were read stand at these positions
abbrev pub StandAt : List (List ℕ) → List ℕ → List (List ℕ) → Type 0
StandAt codes ps seen = map (slice_get codes) ps ≡ map Some seen

-- what was read stands where it was found
pub at_position : (codes : List (List ℕ)) (ps : List ℕ) (seen : List (List ℕ)) (j : ℕ) → StandAt codes ps seen → j < length ps
    → slice_get seen j ≡ slice_get codes (get_or ps j 0)
at_position codes [] seen j e h = absurd (omega arith)
at_position codes (p ∷ ps) [] j e h = cc
at_position codes (p ∷ ps) (c ∷ seen) zero e h = (let first : slice_get codes p ≡ Some c = cc in sym first)
at_position codes (p ∷ ps) (c ∷ seen) (suc j) e h = (let rest : StandAt codes ps seen = cc in at_position codes ps seen j rest (omega arith))

-- one more
pub stand_more : (codes : List (List ℕ)) (ps qs : List ℕ) (seen read : List (List ℕ)) (p : ℕ) (code : List ℕ) → StandAt codes ps seen
    → slice_get codes p ≡ Some code → qs ≡ ps ++ p ∷ [] → read ≡ seen ++ code ∷ [] → StandAt codes qs read
stand_more codes ps qs seen read p code e found more grown =
    ap (map (slice_get codes)) more ∙ map-append (slice_get codes) ps (p ∷ [])
    ∙ ap (λ (l : List (Option (List ℕ))). l ++ slice_get codes p ∷ []) e ∙ ap (λ (x : Option (List ℕ)). map Some seen ++ x ∷ []) found
    ∙ sym (map-append Some seen (code ∷ [])) ∙ ap (map Some) (sym grown)

-- a code at another position is none of them: in codes that rise each stands once
pub fresh_code : (codes : List (List ℕ)) (ps : List ℕ) (seen : List (List ℕ)) (p : ℕ) (code : List ℕ) → Rise codes → StandAt codes ps seen
    → slice_get codes p ≡ Some code → ((j : ℕ) → j < length ps → get_or ps j 0 ≢ p) → Finds seen (length seen) code None
fresh_code codes ps seen p code rise e found fresh q h same =
    let many : length ps ≡ length seen = sym (length-map ps (slice_get codes)) ∙ ap length e ∙ length-map seen Some in
    let within : q < length ps = omega (arith, many, h) in
    fresh q within (one_place codes (get_or ps q 0) p code rise (sym (at_position codes ps seen q e within) ∙ same) found)

-- the first fields of two rows that are the same
pub first_field : (a b : List ℕ) (xs ys : List (List ℕ)) → a ∷ xs ≡ b ∷ ys → a ≡ b
first_field a b xs ys e = cc

-- the other fields of two rows that are the same
pub other_fields : (a b : List ℕ) (xs ys : List (List ℕ)) → a ∷ xs ≡ b ∷ ys → xs ≡ ys
other_fields a b xs ys e = cc
