-- Why a statement fails.
use Rattle.sql_tables.specs.Common.{Error, TableFault, Memory, Storage}
use Rattle.sqlite.specs.declared.error.Error.TheVariants.{SqliteFailure}
use Rattle.sqlite.specs.declared.error.ErrorCode.TheVariants as code

-- out of memory, or whatever else the database answers
abbrev pub fault_of : Error → TableFault
fault_of (SqliteFailure code.OutOfMemory) = Memory
fault_of _ = Storage
