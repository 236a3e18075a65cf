-- Calls that read, one after another, and why a call of the store failed, from why the statement did on which it ended.
use Rattle.store.proofs.Common.{Database, HasCleanDisk, IsReading, Option, Result, Ok, Err, IsTrue, Seen, arith, cases_Bool, inl, inr, refl, rests_then, stopped_after, stopped_as, survives_both, survives_none, ℕ, ◌≡◌, Survives, IsUnchanged, TableFault, Table, Has, IsStopped, IsUnread, AnEdition, rolls_of, AreAllListed, table_at, Storage, IsHinderedReading, ◌≤◌, ◌<◌, List, get_or, length, subst}
use Rattle.store.proofs.ListedTables.{is_next}
use Rattle.store.specs.Inside.Faults.{of_table}
use Rattle.store.specs.Inside.Reading.{IsHinderedReadingIn}
use Rattle.sql_tables.specs.declared.fault.TableFault.TheVariants as fault

-- a fault of the storage is one of a statement
pub of_storage : (f : TableFault) → of_table f ≡ Storage → f ≡ fault.Storage
of_storage fault.Memory h = cc
of_storage fault.Storage h = refl

-- a call after another that changed nothing
pub unchanged_before : (H K : Option ℕ → Database → Type 0) (a b c : Seen) → IsUnchanged a b → Survives a b (λ _. ⊥) → HasCleanDisk b → b.faults ≤ c.faults → ((limit : Option ℕ) (db : Database) → H limit db → K limit db) → IsStopped H b c → IsStopped K a c
unchanged_before H K a b c same survives clean up f = stopped_after H K a b c survives clean up (λ h. f a.step_limit a.now (subst (H a.step_limit) same.0.now_is h))

-- a table that cannot be read is one of those of an edition
pub table_unread : (e : AnEdition) (tables : List Table) → tables ≡ rolls_of e → (i : ℕ) (d : Table) (limit : Option ℕ) (a b : Database) → i < length tables → b ≡ a → IsUnread (table_at (get_or tables i d)) limit b → IsHinderedReadingIn e limit a
table_unread e tables are i d limit a b low same h = record {
  table = get_or tables i d;
  among = subst (λ ts. Has ts (get_or tables i d)) are (is_next tables i d low);
  hindered = subst (IsUnread (table_at (get_or tables i d)) limit) same h;
}

-- and after the number was read
pub rows_unread : (e : AnEdition) (limit : Option ℕ) (a b : Database) → AreAllListed (rolls_of e) a.schema → b ≡ a → IsHinderedReadingIn e limit b → IsHinderedReading limit a
rows_unread e limit a b listed same h = record {
  edition = e;
  listed = listed;
  table = h.table;
  among = inr h.among;
  hindered = subst (IsUnread (table_at h.table) limit) same h.hindered;
}

-- what answers otherwise than by this error
pub reads_past : {A B E F : Type 0} (e : E) (f : F) (H K : Option ℕ → Database → Type 0) (r : Result A E) (s : Result B F) (a b : Seen) → (s ≡ Err f → ⊥) → IsReading e H r a b → IsReading f K s a b
reads_past e f H K r s a b none p = record { rests = p.rests; cause = λ clean is. absurd (none is); ended = p.ended; survives = p.survives }

-- what goes through
pub reads_ok : {A B E F : Type 0} (e : E) (f : F) (H K : Option ℕ → Database → Type 0) (r : Result A E) (x : B) (a b : Seen) → IsReading e H r a b → IsReading f K (Ok x) a b
reads_ok e f H K r x a b p = reads_past e f H K r (Ok x) a b (λ is. absurd (cc)) p

-- what answers by it where the reading does
pub reads_as : {A B E F : Type 0} (e : E) (f : F) (H : Option ℕ → Database → Type 0) (r : Result A E) (s : Result B F) (a b : Seen) → (s ≡ Err f → r ≡ Err e) → IsReading e H r a b → IsReading f H s a b
reads_as e f H r s a b back p = record { rests = p.rests; cause = λ clean is. stopped_as H H a b (λ h. h) (p.cause clean (back is)); ended = p.ended; survives = p.survives }

-- one after another
pub reads_then : {A B E F : Type 0} (e : E) (f : F) (G H K : Option ℕ → Database → Type 0) (r : Result A E) (s : Result B F) (a b c : Seen) → IsReading e G r a b → IsReading f H s b c
    → (HasCleanDisk b → IsTrue a.is_open → H a.step_limit b.now → K a.step_limit a.now) → IsReading f K s a c
reads_then e f G H K r s a b c p q turn = record {
  rests = λ clean. rests_then a b c (p.rests (early clean)) (q.rests clean);
  cause = λ clean is. elim (cases_Bool a.is_open) [
    | inl up ↦ stopped_after H K a b c p.survives (early clean) q.survives.counts (turn (early clean) up) (q.cause clean is)
    | inr shut ↦ record { why = inl shut }
  ];
  ended = λ settled. q.ended (p.ended settled);
  survives = survives_both a b c p.survives q.survives;
}
  where
    early : HasCleanDisk c → HasCleanDisk b
    early clean = omega (arith, q.survives.clean, clean)

-- none at all
pub reads_nothing : {E : Type 0} (e : E) (H : Option ℕ → Database → Type 0) (s : Seen) → IsReading {A = Unit {0}} e H (Ok tt) s s
reads_nothing e H s = record { rests = λ clean up. (up, λ settled. (refl, refl)); cause = λ clean is. absurd (cc); ended = λ settled. settled; survives = survives_none s (λ _. ⊥) }
