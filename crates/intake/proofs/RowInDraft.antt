-- What a row adds to a draft.
use Rattle.std.proofs.Common.{◌≡◌, ℕ, ◌<◌, ◌≤◌, ℤ, Bool, true, false, List, [], ◌∷◌, length, map, get_or, refl, ap, subst, arith}
use Rattle.intake.proofs.Common.{Bor, Kind, AddsOne, AddsPrice}
use Rattle.intake.proofs.Lists.{blank}

-- one field
pub one_field : (fs : List (Bor (List ℕ))) → 1 ≤ length fs → length fs < 2 → map (λ f. f.now) fs ≡ (get_or fs 0 blank).now ∷ []
one_field [] h l = absurd (omega arith)
one_field (a ∷ []) h l = refl
one_field (a ∷ b ∷ fs) h l = absurd (omega arith)

-- two fields
pub two_fields : (fs : List (Bor (List ℕ))) → 2 ≤ length fs → length fs < 3 → map (λ f. f.now) fs ≡ (get_or fs 0 blank).now ∷ (get_or fs 1 blank).now ∷ []
two_fields [] h l = absurd (omega arith)
two_fields (a ∷ []) h l = absurd (omega arith)
two_fields (a ∷ b ∷ []) h l = refl
two_fields (a ∷ b ∷ c ∷ fs) h l = absurd (omega arith)

-- three fields
pub three_fields : (fs : List (Bor (List ℕ))) → 3 ≤ length fs → length fs < 4 → map (λ f. f.now) fs ≡ (get_or fs 0 blank).now ∷ (get_or fs 1 blank).now ∷ (get_or fs 2 blank).now ∷ []
three_fields [] h l = absurd (omega arith)
three_fields (a ∷ []) h l = absurd (omega arith)
three_fields (a ∷ b ∷ []) h l = absurd (omega arith)
three_fields (a ∷ b ∷ c ∷ []) h l = refl
three_fields (a ∷ b ∷ c ∷ d ∷ fs) h l = absurd (omega arith)

-- a price that was added, said of the same codes
pub price_moved : (k : Kind) (a b : List (List ℕ)) (old : List (List ℤ)) (row : List (List ℕ)) (new : List (List ℤ)) (r : Bool) → a ≡ b → AddsPrice k a old row new r → AddsPrice k b old row new r
price_moved k a b old row new r e h = subst (λ (l : List (List ℕ)). AddsPrice k l old row new r) e h

-- what was added to a part was added to the whole
pub adds_put : {E A B : Type 0} (May : E → Type 0) (more : E → A) (new : A) (put : A → B) (b : Bool) → AddsOne May more new b → AddsOne May (λ e. put (more e)) (put new) b
adds_put May more new put true h = (h.0, h.1, ap put h.2)
adds_put May more new put false h = h
