-- For proofs alone. The first fault of rolls that make no instance.
use Rattle.std.specs.Prelude.{◌≡◌, ℕ, ◌<◌, ◌≤◌, List, length, map, ⊤, All, AllPairs, ◌≢◌}
use Rattle.spa.specs.declared.TheConstants.{RANKS}
use Rattle.spa.specs.declared.fault.InstanceFault.{InstanceFault}
use Rattle.spa.specs.declared.fault.InstanceFault.TheVariants.{Memory, UnknownSupervisor}
use Rattle.spa.specs.Codes.{code_at}
use Rattle.spa.specs.Made.{IsFirstUnknown}

-- the fault names the first project whose supervisor is unknown, or is out of memory
abbrev pub IsOfferFault : List (List ℕ) → List (List ℕ) → InstanceFault → Type 0
IsOfferFault codes supervisors Memory = ⊤
IsOfferFault codes supervisors (UnknownSupervisor p) = IsFirstUnknown codes supervisors p
IsOfferFault codes supervisors _ = ⊥

-- the positions, place by place, of a list of projects, none of them twice
pub record IsRanking (codes list : List (List ℕ)) (positions : List ℕ) : Type 0 where
  pub named : map (code_at codes) positions ≡ list
  pub known : All (λ p. p < length codes) positions
  pub apart : AllPairs (λ p q. p ≢ q) positions

-- the same of each student's list, and the lists are sound
pub record AreRankings (codes : List (List ℕ)) (lists : List (List (List ℕ))) (positions : List (List ℕ)) : Type 0 where
  pub named : map (map (code_at codes)) positions ≡ lists
  pub ranked : All (λ list. 0 < length list) positions
  pub within : All (λ list. length list ≤ RANKS) positions
  pub known : All (λ list. All (λ p. p < length codes) list) positions
  pub distinct : All (λ list. AllPairs (λ p q. p ≢ q) list) positions
