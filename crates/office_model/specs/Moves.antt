-- What requests make of the office, and answer, in parts.
use Rattle.office_model.specs.Common.{range_with_len, option_map_or, RANKS, Aim, RoundEntry as Round, put, State, round_key, aim_key, round_of, last_round}
use Rattle.std.specs.Prelude.{◌+◌, ◌==◌, filter, ℕ, not, true, List, [], map}

-- the office with what f makes of its last round
abbrev pub with_last : (Round → Round) → State → State
with_last f o = record o { rounds = option_map_or (λ r. put round_key (f r) o.rounds) (round_of o (last_round o)) o.rounds }

-- the next round, open, with this aim and without lists
abbrev pub after_opening : Aim → State → State
after_opening aim o = record o {
  rounds = put round_key (record { number = last_round o + 1; is_open = true; lists = [] }) o.rounds;
  aims = put aim_key (record { round = last_round o + 1; aim = aim }) o.aims;
}

-- the last round is open again and has placed nobody; its lists stay
abbrev pub after_reopening : State → State
after_reopening o = record (with_last (λ r. record r { is_open = true }) o) { placements = filter (λ p. not (p.round == last_round o)) o.placements }

-- what f gives for each rank, where 0 stands for the first
abbrev pub by_rank : (ℕ → ℕ) → List ℕ
by_rank f = map f (range_with_len 0 RANKS)
