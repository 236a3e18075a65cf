-- What closing answers: the size and the profile of a matching are those of what is kept of it.
use Rattle.office.proofs.closing.Common.{◌==◌, ◌&&◌, eq-eqb, length-map, rank_by_codes, profile_by_codes, by_rank, kept, Placement, last_round, round_instance, KeptIsCounted, ◌≡◌, ℕ, Bool, ◌+◌, map, count_by, refl, ap}
use Rattle.office_model.specs.declared.request.Reply.TheVariants as reply
use Rattle.office.proofs.closing.Entries.{count_made}

-- what is kept has the round, and the pairs' ranks
pub kept_is_counted : KeptIsCounted
kept_is_counted M o =
    let ranks : (k : ℕ) → count_by (λ p. (p.round == last_round o) && (p.rank == k + 1)) (map (kept o) M) ≡ profile_by_codes (round_instance o) M k = λ k.
    (count_made (kept o) (λ (p : Placement). (p.round == last_round o) && (p.rank == k + 1)) (λ e. rank_by_codes (round_instance o) e == k + 1) M
    (λ e. ap (λ (b : Bool). b && (rank_by_codes (round_instance o) e == k + 1)) (eq-eqb (last_round o) (last_round o) refl))) in
    λ i. reply.Closed (last_round o) (length-map M (kept o) i) (by_rank (λ k. ranks k i))
