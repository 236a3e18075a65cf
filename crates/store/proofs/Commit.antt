-- What a transaction leaves of a connection once it is committed or dropped.
use Rattle.store.proofs.Common.{Option, ℕ, stopped_before, IsStopped, Database, Seen, HasCleanDisk, IsUnchanged, Survives, Trees, survives_then, MayRecoverTo, ◌≡◌, true, subst, arith}
use Rattle.store.proofs.Readings.{unchanged_before}

module _ (first begun : Seen) (begins : begun ≡ record first { in_transaction = true }) (b c : Seen) where
  -- a transaction that has begun has changed nothing
  from_first : (P : Trees → Type 0) → Survives begun b P → Survives first b P
  from_first P it =
      let same : Survives (record first { in_transaction = true }) b P = subst (λ (s : Seen). Survives s b P) begins it in
      record { clean = same.clean; shield = same.shield; counts = same.counts; limit = same.limit; closes = same.closes; crash = same.crash }

  -- what a crash leaves of it where it was dropped
  pub dropped_by : (P : Database → Database → Type 0) → Survives begun b (λ _. ⊥) → Survives b c (λ _. ⊥) → Survives first c (MayRecoverTo P first)
  dropped_by P one two = survives_then first b c (λ _. ⊥) (λ _. ⊥) (MayRecoverTo P first) (λ _ db none. absurd none) (λ _ db none. absurd none) (from_first (λ _. ⊥) one) two

-- after a call that changed nothing
module _ (a b c : Seen) (P : Database → Database → Type 0) (one : Survives a b (λ _. ⊥)) (same : HasCleanDisk b → IsUnchanged a b) where
  pub left_after : Survives b c (MayRecoverTo P b) → Survives a c (MayRecoverTo P a)
  left_after two = survives_then a b c (λ _. ⊥) (MayRecoverTo P b) (MayRecoverTo P a) (λ _ db none. absurd none) (λ clean trees left.
      let early : HasCleanDisk b = omega (arith, two.clean) in
      record {
        was_open = (same early).0.was_open;
        db = left.db;
        sound = left.sound;
        step = subst (λ (db : Database). P db left.db) (same early).0.now_is left.step;
        same = left.same;
      }) one two

-- a call in a transaction that was stopped, which is then dropped
pub stopped_within : (H : Option ℕ → Database → Type 0) (first begun mid last : Seen) → begun ≡ record first { in_transaction = true } → (HasCleanDisk mid → IsStopped H begun mid) → Survives mid last (λ _. ⊥) → HasCleanDisk last → IsStopped H first last
stopped_within H first begun mid last begins it two clean =
    let early : HasCleanDisk mid = omega (arith, two.clean) in
    let same : IsStopped H (record first { in_transaction = true }) mid = subst (λ (s : Seen). IsStopped H s mid) begins (it early) in
    stopped_before H first mid last two.counts (record { why = same.why })

-- the same after a call that changed nothing
pub stopped_after_all : (H K : Option ℕ → Database → Type 0) (old first begun mid last : Seen) → (HasCleanDisk first → IsUnchanged old first) → Survives old first (λ _. ⊥) → begun ≡ record first { in_transaction = true } → Survives begun mid (λ _. ⊥)
    → ((limit : Option ℕ) (db : Database) → H limit db → K limit db) → (HasCleanDisk mid → IsStopped H begun mid) → Survives mid last (λ _. ⊥) → HasCleanDisk last → IsStopped K old last
stopped_after_all H K old first begun mid last same zero begins one f it two clean =
    let dropped = dropped_by first begun begins mid last (λ _ _. ⊥) one two in
    let early : HasCleanDisk first = omega (arith, dropped.clean, clean) in
    unchanged_before H K old first last (same early) zero early dropped.counts f (stopped_within H first begun mid last begins it two clean)
