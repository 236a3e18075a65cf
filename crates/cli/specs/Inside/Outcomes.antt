-- For proofs alone. What a line of the program comes to: what it prints where, and its status.
use Rattle.std.specs.Prelude.{◌≡◌, ◌⊎◌, ℕ, ◌+◌, List, Option}
use Rattle.std.specs.Io.KnownBytes.{Appends}
use Rattle.http_stream.specs.Run.{MessageText}
use Rattle.host.specs.WorldState.{Peer}
use Rattle.cli.specs.Outcomes.{Outcome, IsServed}
use Rattle.cli.specs.declared.status.Status.{Status}
use Rattle.cli.specs.declared.status.Status.TheVariants.{Failure}

module _ {D : Type 0} (step : D → MessageText → List ℕ → D → Type 0) (peers : ℕ → Peer) where
  -- connections were served at a desk and the lines of all were written, or the writer failed
  abbrev pub Serves : ℕ → ℕ → D → D → Option (List ℕ) → Option (List ℕ) → ℕ → ℕ → Status → Type 0
  Serves port count before after w0 w failures0 failures status =
      ((o : Outcome) × IsServed step peers port count before after o × (failures ≡ failures0) × Appends w0 w o.out × (status ≡ o.status))
      ⊎ ((failures ≡ failures0 + 1) × (status ≡ Failure) × ((more : List ℕ) × Appends w0 w more))
