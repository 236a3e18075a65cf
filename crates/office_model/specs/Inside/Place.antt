-- Where an entry stands among entries in the order of their keys, or where it would go.
use Rattle.std.specs.Prelude.{◌≡◌, ◌<◌, ◌≤◌, ℕ, List, None, slice_set, length}
use Rattle.office_model.specs.Common.{insert, remove, Key, find, put, take_out}
use Rattle.std.specs.List.{slice_get}

-- the entry with the key stands at place i
pub record IsAt {E : Type 0} (key : E → Key) (es : List E) (k : Key) (i : ℕ) : Type 0 where
  pub in_range : i < length es
  pub found : find key k es ≡ slice_get es i
  pub written : (e : E) → key e ≡ k → put key e es ≡ slice_set es i e
  pub removed : take_out key k es ≡ remove es i

-- no entry has the key, and one with it goes to place i
pub record IsGapFor {E : Type 0} (key : E → Key) (es : List E) (k : Key) (i : ℕ) : Type 0 where
  pub in_range : i ≤ length es
  pub absent : find key k es ≡ None
  pub inserted : (e : E) → key e ≡ k → put key e es ≡ insert es i e
  pub unchanged : take_out key k es ≡ es
