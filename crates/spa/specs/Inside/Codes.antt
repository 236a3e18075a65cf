-- For proofs alone. Codes in a roll, by position.
use Rattle.std.specs.Prelude.{◌≡◌, ◌≢◌, ℕ, ◌<◌, List, slice_get, Option, Some, None, ⊤}
use Rattle.std.specs.Str.{bytes_eq}
use Rattle.std.specs.HashMap.{HashMap, get_by}
use Rattle.std.specs.declared.hash.FoldHasher.{FoldHasher}
use Rattle.std.specs.declared.hash.BuildHasherDefault.{BuildHasherDefault}
use denote.Ref.{Bor}
use Rattle.spa.specs.declared.fault.Roll.{Roll}
use Rattle.spa.specs.declared.fault.InstanceFault.{InstanceFault}
use Rattle.spa.specs.declared.fault.InstanceFault.TheVariants.{Memory, RepeatedCode}
use Rattle.spa.specs.Codes.{IsFirstRepeated}

-- a look-up of a code among the first n, which answers its position or that it stands nowhere
abbrev pub Finds : List (List ℕ) → ℕ → List ℕ → Option ℕ → Type 0
Finds codes n code (Some p) = (p < n) × (slice_get codes p ≡ Some code)
Finds codes n code None = (p : ℕ) → p < n → slice_get codes p ≢ Some code

-- positions by code
abbrev pub Positions : Type 0
Positions = HashMap (Bor (List ℕ)) ℕ (BuildHasherDefault FoldHasher)

-- the map finds each of the first n codes, and no other
abbrev pub IsIndexTo : Positions → List (List ℕ) → ℕ → Type 0
IsIndexTo map codes n = (code : List ℕ) → Finds codes n code (get_by (λ k. bytes_eq code k.now) map)

-- the fault names the first code that stands before it too, or is out of memory
abbrev pub IsCodeFault : Roll → List (List ℕ) → InstanceFault → Type 0
IsCodeFault roll codes Memory = ⊤
IsCodeFault roll codes (RepeatedCode other p) = (other ≡ roll) × IsFirstRepeated codes p
IsCodeFault roll codes _ = ⊥
