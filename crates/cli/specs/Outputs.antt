-- What a line writes to, as contracts see it.
use Rattle.std.specs.Prelude.{◌≡◌, ℕ, ◌+◌, ◌-◌, ◌^◌, ◌<◌, List, length, take, Option}
use Rattle.std.specs.Io.KnownBytes.{Appends}

-- a writer, what it has taken where that is known, and how many of its calls failed
pub record Output (W : Type 0) : Type 0 where
  pub writer : W
  pub written : Option (List ℕ)
  pub failures : ℕ

-- standard output and standard error
pub record Both (O E : Type 0) : Type 0 where
  pub out : Output O
  pub err : Output E

-- two writers, of which this is known
abbrev pub both_of : {O E : Type 0} → (O → Option (List ℕ)) → (O → ℕ) → (E → Option (List ℕ)) → (E → ℕ) → O → E → Both O E
both_of out_written out_failures err_written err_failures out err =
    record { out = record { writer = out; written = out_written out; failures = out_failures out }; err = record { writer = err; written = err_written err; failures = err_failures err } }

-- a failure of either can still be counted
abbrev pub CanFail : {O E : Type 0} → Both O E → Type 0
CanFail outputs = (outputs.out.failures < 2 ^ 64 - 1) × (outputs.err.failures < 2 ^ 64 - 1)

-- how many calls of the two failed
abbrev pub both_failures : {O E : Type 0} → Both O E → ℕ
both_failures outputs = outputs.out.failures + outputs.err.failures

-- what was written before stays, and more may come after it
abbrev pub Grows : {O E : Type 0} → Both O E → Both O E → Type 0
Grows old new = ((more : List ℕ) × Appends old.out.written new.out.written more) × ((more : List ℕ) × Appends old.err.written new.err.written more)

-- this was written on standard error, and nothing else was done
pub record HasPrinted {O E : Type 0} (text : List ℕ) (old new : Both O E) : Type 0 where
  pub out : new.out ≡ old.out
  pub failures : new.err.failures ≡ old.err.failures
  pub written : Appends old.err.written new.err.written text

-- a part of this alone was written
abbrev pub IsCut : List ℕ → Option (List ℕ) → Option (List ℕ) → Type 0
IsCut text w0 w = (n : ℕ) × (n < length text) × Appends w0 w (take n text)

-- a part of this alone was written on standard error, where a call failed, and nothing else was done
pub record HasCut {O E : Type 0} (text : List ℕ) (old new : Both O E) : Type 0 where
  pub out : new.out ≡ old.out
  pub failures : new.err.failures ≡ old.err.failures + 1
  pub cut : IsCut text old.err.written new.err.written
