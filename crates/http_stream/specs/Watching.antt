-- What is seen of a watched reader or writer.
use Rattle.std.specs.Prelude.{ℕ, Bool}
use Rattle.http_stream.specs.declared.endpoints.Watched.{Watched}

-- the reader or writer itself
abbrev pub inner_of : {T : Type 0} → Watched T → T
inner_of w = w.inner

-- how many of its calls failed
abbrev pub failures_of : {T : Type 0} → Watched T → ℕ
failures_of w = w.failures

-- whether the last call of a reader gave no byte
abbrev pub ended_of : {T : Type 0} → Watched T → Bool
ended_of w = w.ended
