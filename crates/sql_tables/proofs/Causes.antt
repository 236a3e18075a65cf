-- Why a call failed, read off what the database says of its error.
use Rattle.sqlite_disk.specs.Disk.{MoreFaults}
use Rattle.sqlite_trees.specs.declared.error.StoreError.{StoreError}
use Rattle.sqlite_trees.specs.declared.error.StoreError.TheVariants.{OutOfMemory, Io, Corrupt, Full, Broken, Unstorable}
use Rattle.sql_tables.proofs.Common.{Compiled, Error, Row, Database, State, HasCleanDisk, Survives, Fails, HasReason, IsStatement, IsUnchanged, IsRolledBack, RunsCommand, ExecutesInside, shows_rows, store_error, Storage, fault_of, cases_Bool, Moment, at_moment, IsStopped, ◌≡◌, ◌⊎◌, ◌≤◌, inl, inr, ℕ, Bool, true, false, List, Err, MatchBool, Option, sym, ap, subst, ◌∙◌, arith}
use Rattle.sqlite.specs.State.{IsNotRun, ExecutesIn, EndsScope}

-- the connection was shut, or the disk failed once more, or this
abbrev pub Ended : State → State → Type 0 → Type 0
Ended old new U = (old.is_open ≡ false) ⊎ (MoreFaults old.faults new.faults ⊎ U)

-- what an error of the store leaves open that is not out of memory
pub failed : (old new : State) (U : Type 0) (e : Error) → Fails old new U e → fault_of e ≡ Storage → Ended old new U
failed old new U e it other = go it.0 it.1 it.2
  where
    go : (cause : StoreError) → e ≡ store_error cause → HasReason old new U cause → Ended old new U
    go OutOfMemory is h = absurd (let bad = sym (ap fault_of is) ∙ other in cc)
    go Io is h = inr (inl h)
    go Corrupt is h = inr (inl h)
    go Full is h = inr (inl h)
    go Broken is h = inl h
    go Unstorable is h = inr (inr h)

-- one of two
pub either : (old new : State) (U V : Type 0) → (U → V) → Ended old new U → Ended old new V
either old new U V f (inl shut) = inl shut
either old new U V f (inr (inl more)) = inr (inl more)
either old new U V f (inr (inr u)) = inr (inr (f u))

-- one reason for another
pub stopped_as : (H K : Option ℕ → Database → Type 0) (old new : State) → (H old.step_limit old.now → K old.step_limit old.now) → IsStopped H old new → IsStopped K old new
stopped_as H K old new f it = record { why = either old new (H old.step_limit old.now) (K old.step_limit old.now) f it.why }

-- a call after one that went through
pub stopped_after : (H K : Option ℕ → Database → Type 0) (old mid new : State) → Survives old mid (λ _. ⊥) → HasCleanDisk mid → mid.faults ≤ new.faults → (H old.step_limit mid.now → K old.step_limit old.now) → IsStopped H mid new → IsStopped K old new
stopped_after H K old mid new it clean up f stops = record { why = go stops.why }
  where
    was_shut : mid.is_open ≡ false → Ended old new (K old.step_limit old.now)
    was_shut shut = elim (cases_Bool old.is_open) [
      | inl open_before ↦ elim (it.closes clean open_before) [ inl still ↦ absurd (let bad = sym shut ∙ still in cc) | inr more ↦ inr (inl (omega (arith, more, up))) ]
      | inr before ↦ inl before
    ]

    go : Ended mid new (H mid.step_limit mid.now) → Ended old new (K old.step_limit old.now)
    go (inl shut) = was_shut shut
    go (inr (inl more)) = inr (inl (omega (arith, more, it.counts)))
    go (inr (inr h)) = inr (inr (f (subst (λ limit. H limit mid.now) it.limit h)))

-- and what a call leaves after it is done
pub stopped_before : (H : Option ℕ → Database → Type 0) (old mid new : State) → mid.faults ≤ new.faults → IsStopped H old mid → IsStopped H old new
stopped_before H old mid new up stops = record { why = go stops.why }
  where
    go : Ended old mid (H old.step_limit old.now) → Ended old new (H old.step_limit old.now)
    go (inl shut) = inl shut
    go (inr (inl more)) = inr (inl (omega (arith, more, up)))
    go (inr (inr h)) = inr (inr h)

both_tests : (b : Bool) (A B C D : Type 0) → (A → C) → (B → D) → MatchBool b A B → MatchBool b C D
both_tests true A B C D f g h = f h
both_tests false A B C D f g h = g h

-- what a connection shows now
abbrev pub moment_of : State → Moment
moment_of s = record { now = s.now; committed = s.committed; in_transaction = s.in_transaction; marks = s.marks; is_open = s.is_open; faults = s.faults; changes = s.changes; last_rowid = s.last_rowid; step_limit = s.step_limit }

-- a statement that fails looks at nothing else
module _ (old new : State) where
  abbrev same : State
  same = at_moment (moment_of old)

  unchanged : IsUnchanged old new → IsUnchanged same new
  unchanged it = (
    record { was_open = it.0.was_open; is_open = it.0.is_open; now_is = it.0.now_is; committed_is = it.0.committed_is; mode = it.0.mode },
    record { changes = it.1.changes; last_rowid = it.1.last_rowid },
    it.2,
  )

  undone : IsRolledBack old new → IsRolledBack same new
  undone it = record {
    was_open = it.was_open;
    undone = it.undone;
    autocommit = it.autocommit;
    unmarked = it.unmarked;
    counts = record { changes = it.counts.changes; last_rowid = it.counts.last_rowid };
  }

  for_reason : (U : Type 0) (cause : StoreError) → HasReason old new U cause → HasReason same new U cause
  for_reason U OutOfMemory h = h
  for_reason U _ h = h

  fails_so : (U : Type 0) (e : Error) → Fails old new U e → Fails same new U e
  fails_so U e it = (it.0, it.1, for_reason U it.0 it.2, undone it.3, it.4)

  said : (sql : List ℕ) (params : Row) (c : Compiled) → IsStatement old sql params c → IsStatement same sql params c
  said sql params c it = record { is = it.is; whole = it.whole; given = it.given; now = it.now }

  unrun : (sql : List ℕ) (params : Row) (e : Error) → IsNotRun old new sql params e → IsNotRun same new sql params e
  unfolding IsNotRun
  unrun sql params e (inl none) = inl (none.0, unchanged none.1)
  unrun sql params e (inr fails) = inr (fails_so ⊥ e fails)

  commands_so : (sql : List ℕ) (c : Compiled) (params : Row) (e : Error) → RunsCommand old new sql c params (Err e) → RunsCommand same new sql c params (Err e)
  commands_so sql c params e (inl refuses) = inl (refuses.0, unchanged refuses.1)
  commands_so sql c params e (inr fails) = inr (fails_so _ e fails)

  executes_so : (sql : List ℕ) (params : Row) (e : Error) → ExecutesIn false sql params old new (Err e) → ExecutesIn false sql params same new (Err e)
  unfolding ExecutesIn said
  executes_so sql params e (inl none) = inl (unrun sql params e none)
  executes_so sql params e (inr it) = inr (it.0, said sql params it.0 it.1, both_tests (shows_rows false it.0) _ _ _ _ (λ shows. (shows.0, unchanged shows.1)) (commands_so sql it.0 _ e) it.2)

  pub inside_so : (sql : List ℕ) (params : Row) (e : Error) → ExecutesInside 0 sql params old new (Err e) → ExecutesInside 0 sql params same new (Err e)
  unfolding EndsScope said
  inside_so sql params e (inl ran) = inl (executes_so sql params e ran.0, either_way ran.1)
    where
      either_way : IsUnchanged old new ⊎ IsRolledBack old new → IsUnchanged same new ⊎ IsRolledBack same new
      either_way (inl kept) = inl (unchanged kept)
      either_way (inr back) = inr (undone back)
  inside_so sql params e (inr out) = inr ((out.0.0, said sql params out.0.0 out.0.1, out.0.2), out.1, unchanged out.2)
