-- What opening the tables of a database comes to.
use Rattle.std.specs.Prelude.{◌≡◌, IsTrue, false}
use Rattle.store.specs.Common.{Held, state, HasCleanDisk, Survives, State, IsStopped, IsKept, MayRecoverTo, Ghosts}
use Rattle.store.specs.Causes.{IsHinderedOpening}
use Rattle.store.specs.Reading.{IsDamaged}
use Rattle.store.specs.Tables.{Brings, HasNone, LeavesAlone, LeavesTables, Opens}
use Rattle.store.specs.Available.{KeepsOurs, KeepsRoom}

module _ {S : Type 0} (ghosts : Ghosts S) where
  -- this office was opened, over a connection that has no transaction open
  pub record IsOpening (old new : Held S) (opened : State) : Type 0 where
    pub office : HasCleanDisk (state ghosts new) → Opens (state ghosts old).now (state ghosts new).now opened
    -- tables as they are made here are so still, with those that are made, and those of an earlier edition once they are migrated
    pub ours : HasCleanDisk (state ghosts new) → KeepsOurs (state ghosts old).now (state ghosts new).now
    -- and where they are made, with rowids left as before, but for one
    pub room : HasCleanDisk (state ghosts new) → HasNone (state ghosts old).now.schema → KeepsRoom (state ghosts old).now (state ghosts new).now
    -- each other table stays
    pub others : HasCleanDisk (state ghosts new) → LeavesTables (state ghosts old).now (state ghosts new).now
    pub ended : new.in_transaction ≡ false
    pub alone : HasCleanDisk (state ghosts new) → LeavesAlone (state ghosts new)
    pub is_open : HasCleanDisk (state ghosts new) → IsTrue (state ghosts new).is_open
    -- a crash leaves what it could leave before, tables of the empty office where none was there, or migrated tables
    pub crash : Survives (state ghosts old) (state ghosts new) (MayRecoverTo Brings (state ghosts old))

  -- no office was opened, and the connection is given back; whether that is returned as a fault of the storage, or as damage
  pub record IsLeftUnopened (IsStorage IsDamage : Type 0) (old new : Held S) : Type 0 where
    pub damaged : HasCleanDisk (state ghosts new) → IsDamage → IsDamaged (state ghosts old).now
    -- a database with none of the tables is not damaged
    pub some : IsDamage → HasNone (state ghosts old).now.schema → ⊥
    pub kept : HasCleanDisk (state ghosts new) → IsKept (state ghosts old) (state ghosts new)
    -- why the storage has failed, except for an open transaction: a shut connection, a fault of the disk, or a refused statement
    pub cause : old.in_transaction ≡ false → HasCleanDisk (state ghosts new) → IsStorage
        → IsStopped IsHinderedOpening (state ghosts old) (state ghosts new)
    pub given_back : old.in_transaction ≡ false → new.in_transaction ≡ false
    -- a crash leaves what it could leave before, or what an opening may make
    pub crash : Survives (state ghosts old) (state ghosts new) (MayRecoverTo Brings (state ghosts old))
