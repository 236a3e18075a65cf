-- What closing a round makes of the office.
use Rattle.office_model.specs.Common.{ℕ, false, IsTrue, List, map, length, Instance, CodePair, IsMatchingByCodes, rank_by_codes, profile_by_codes, PlacementEntry as Placement, Reply, put_all, State, placement_key, last_round, round_is_open}
use Rattle.office_model.specs.declared.request.Reply.TheVariants as reply
use Rattle.office_model.specs.Instances.{round_instance}
use Rattle.office_model.specs.Stepping.{with_last, by_rank}

-- a pair that is stored as a placement by the last round
abbrev pub kept : State → CodePair → Placement
kept o e = record { student = e.student; round = last_round o; project = e.project; rank = rank_by_codes (round_instance o) e }

-- the office after the last round closes with the matching M: its pairs are stored with the round and their ranks
abbrev pub after_close : List CodePair → State → State
after_close M o = record (with_last (λ r. record r { is_open = false }) o) { placements = put_all placement_key (map (kept o) M) o.placements }

-- M is a matching of the open round
pub record MayClose (o : State) (M : List CodePair) : Type 0 where
  pub is_open : IsTrue (round_is_open o)
  pub matching : IsMatchingByCodes (round_instance o) M

-- how many pairs have each rank
abbrev pub profile_of : Instance → List CodePair → List ℕ
profile_of l M = by_rank (profile_by_codes l M)

-- what closing answers
abbrev pub closed_reply : List CodePair → State → Reply
closed_reply M o = reply.Closed (last_round o) (length M) (profile_of (round_instance o) M)

-- what a preview answers
abbrev pub preview_reply : List CodePair → State → Reply
preview_reply M o = reply.Preview (length M) (profile_of (round_instance o) M)
