-- The projects of a list and their places.
use Rattle.std.proofs.Common.{◌≡◌, ℕ, suc, List, Contains, slice_index, ap, sym, ◌∙◌, arith, subst}
use Rattle.public_result.proofs.Common.{Posted, IsList, IsPlaceOf, choice_at, get_or_default, rank_in, rank_at}

-- what is said of each place is said of each project at its rank
pub by_places : (t : Posted) (xs : List ℕ) → IsList t xs → (P : ℕ → ℕ → Type 0) → ((k : ℕ) → IsPlaceOf xs k → P k (choice_at xs k)) → (p : ℕ) → Contains xs p → P (rank_in xs p) p
by_places t xs sound P each p c =
    let k : ℕ = suc c.0 in
    let within = c.1 in
    let place : IsPlaceOf xs k = record { first = omega arith; last = omega (arith, within) } in
    let here : choice_at xs k ≡ p = ap (slice_index xs) (omega arith) ∙ get_or_default xs c.0 0 p c.1 ∙ c.2 in
    let ranked : rank_in xs p ≡ k = ap (rank_in xs) (sym here) ∙ rank_at xs k sound.distinct place in
    subst (λ (r : ℕ). P r p) (sym ranked) (subst (λ (q : ℕ). P k q) here (each k place))
