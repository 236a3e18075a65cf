-- For proofs alone. Reading a row as a generous aim does, and reading it once more, which gives the row again.
use Rattle.std.proofs.Common.{◌≡◌, ℕ, zero, suc, ◌-◌, ◌<◌, List, length, get_or, ap, ◌∙◌, refl, arith}
use Rattle.std.specs.Prelude.{ℤ, pos, neg_ℤ}
use Rattle.std.proofs.Math.IntN.{neg_ℤ-neg_ℤ}
use Rattle.spa.specs.declared.TheConstants.{COMPONENTS, RANKS}
use Rattle.spa.specs.declared.aim.Aim.{Aim}
use Rattle.spa.specs.declared.aim.Aim.TheVariants.{Greedy, Generous}
use Rattle.spa.specs.Order.{as_read}
use Rattle.spa.specs.Places.{Places, places_of, row}
use Rattle.spa.specs.Inside.Places.{places_of_same, row-places_of, list_of, list_of-places_of}
use Rattle.spa.specs.Reading.{value_read}

-- a row that was read twice is the row
pub read_twice : (aim : Aim) (v : ℕ → ℤ) (t : ℕ) → t < COMPONENTS → as_read aim (as_read aim v) t ≡ v t
read_twice aim v zero h = refl
read_twice Greedy v (suc k) h = refl
read_twice Generous v (suc k) h =
    let back : RANKS - suc (RANKS - suc k) ≡ k = omega arith in
    neg_ℤ-neg_ℤ (v (suc (RANKS - suc (RANKS - suc k)))) ∙ ap (λ (j : ℕ). v (suc j)) back

-- an aim reads the same where the places are the same
pub read_alike : (aim : Aim) (v w : ℕ → ℤ) → ((t : ℕ) → t < COMPONENTS → v t ≡ w t) → (t : ℕ) → t < COMPONENTS → as_read aim v t ≡ as_read aim w t
read_alike aim v w e zero h = e 0 h
read_alike Greedy v w e (suc k) h = e (suc k) h
read_alike Generous v w e (suc k) h = ap neg_ℤ (e (suc (RANKS - suc k)) (omega arith))

-- the array of a value
abbrev pub array_read : Aim → Places COMPONENTS → List ℤ
array_read aim v = list_of COMPONENTS (places_of COMPONENTS (as_read aim (row COMPONENTS v)))

-- the array of the value of an array is the array
pub array_back : (aim : Aim) (xs : List ℤ) → length xs ≡ COMPONENTS → array_read aim (value_read aim xs) ≡ xs
array_back aim xs h =
    let f : ℕ → ℤ = λ t. get_or xs t (pos 0) in
    let once : (t : ℕ) → t < COMPONENTS → row COMPONENTS (value_read aim xs) t ≡ as_read aim f t = row-places_of COMPONENTS (as_read aim f) in
    let twice : (t : ℕ) → t < COMPONENTS → as_read aim (row COMPONENTS (value_read aim xs)) t ≡ f t =
    λ t l. read_alike aim (row COMPONENTS (value_read aim xs)) (as_read aim f) once t l ∙ read_twice aim f t l in
    ap (list_of COMPONENTS) (places_of_same COMPONENTS (as_read aim (row COMPONENTS (value_read aim xs))) f twice) ∙ list_of-places_of COMPONENTS xs h
