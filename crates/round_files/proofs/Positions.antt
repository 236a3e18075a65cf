-- Where codes stand.
use Rattle.std.proofs.Common.{◌≡◌, ℕ, zero, suc, ◌+◌, ◌<◌, List, [], ◌∷◌, ◌++◌, length, map, get_or, take, slice_get, Some, None, refl, sym, ap, ◌∙◌, subst, inl, inr, arith}
use Rattle.std.proofs.lemmas.Bool.{cases_lt}
use Rattle.std.proofs.lemmas.List.{map-append, take_more}
use Rattle.std.specs.List.{AllZip}

-- an element that is there
pub found_at : {X : Type 0} (xs : List X) (i : ℕ) (d x : X) → i < length xs → get_or xs i d ≡ x → slice_get xs i ≡ Some x
found_at [] i d x h e = absurd (omega arith)
found_at (y ∷ xs) zero d x h e = ap Some e
found_at (y ∷ xs) (suc i) d x h e = found_at xs i d x (omega arith) e

-- what is found is within the list, and stands there
pub found_within : {X : Type 0} (xs : List X) (i : ℕ) (d x : X) → slice_get xs i ≡ Some x → (i < length xs) × (get_or xs i d ≡ x)
found_within [] i d x e = cc
found_within (y ∷ xs) zero d x e = (omega arith, cc)
found_within (y ∷ xs) (suc i) d x e = (let r = found_within xs i d x e in (omega (arith, r.0), r.1))

-- one place more where a text does not stand
pub nowhere_more : (roll : List (List ℕ)) (n : ℕ) (text : List ℕ) → ¬ (slice_get roll n ≡ Some text) → ((p : ℕ) → p < n → ¬ (slice_get roll p ≡ Some text)) → (p : ℕ) → p < n + 1 → ¬ (slice_get roll p ≡ Some text)
nowhere_more roll n text here before p h e = elim (cases_lt p n) [
  | inl less ↦ before p less e
  | inr past ↦ here (ap (slice_get roll) (let same : n ≡ p = omega arith in same) ∙ e)
]

-- one pair more of two lists
pub zip_push : {X Y : Type 0} (R : X → Y → Type 0) (xs : List X) (ys : List Y) (x : X) (y : Y) → AllZip R xs ys → R x y → AllZip R (xs ++ x ∷ []) (ys ++ y ∷ [])
zip_push R [] [] x y h r = (r, tt)
zip_push R [] (b ∷ ys) x y h r = absurd h
zip_push R (a ∷ xs) [] x y h r = absurd h
zip_push R (a ∷ xs) (b ∷ ys) x y h r = (h.0, zip_push R xs ys x y h.1 r)

-- the same of the first elements of a list
pub zip_more : {W X Y : Type 0} (R : X → Y → Type 0) (f : W → X) (ws : List W) (n : ℕ) (d : W) (ys new : List Y) (y : Y) → n < length ws → AllZip R (map f (take n ws)) ys → R (f (get_or ws n d)) y → new ≡ ys ++ y ∷ [] → AllZip R (map f (take (n + 1) ws)) new
zip_more {X = X} {Y = Y} R f ws n d ys new y h all r e =
    let more = ap (map f) (take_more ws n d h) ∙ map-append f (take n ws) (get_or ws n d ∷ []) in
    subst (λ (l : List X). AllZip R l new) (sym more) (subst (λ (l : List Y). AllZip R (map f (take n ws) ++ f (get_or ws n d) ∷ []) l) (sym e) (zip_push R (map f (take n ws)) ys (f (get_or ws n d)) y all r))
