-- Laws of keyed entries.
use Rattle.std.specs.Prelude.{◌≡◌, if◌then◌else◌, IsTrue, List, Some, None}
use Rattle.office_model.specs.Roll.{Key, same_key, find, put, take_out, rises}

module _ {E : Type 0} (key : E → Key) where
  -- after an entry was put it is found at its key, and elsewhere what was found before
  abbrev pub PutIsFound : Type 0
  PutIsFound = (k : Key) (e : E) (es : List E) → find key k (put key e es) ≡ (if same_key k (key e) then Some e else find key k es)

  -- after a key was taken out nothing is found at it, and elsewhere what was found before
  abbrev pub TakenIsGone : Type 0
  TakenIsGone = (k q : Key) (es : List E) → find key k (take_out key q es) ≡ (if same_key k q then None else find key k es)

  -- what is found at each key gives the entries
  abbrev pub FoundGivesAll : Type 0
  FoundGivesAll = (es fs : List E) → IsTrue (rises key es) → IsTrue (rises key fs) → ((k : Key) → find key k es ≡ find key k fs) → es ≡ fs
