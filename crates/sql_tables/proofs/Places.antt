-- A table that is listed.
use Rattle.sql_tables.proofs.Common.{Table, Schema, Lists, ◌≡◌, [], false, sym, subst}

-- a table with no AUTOINCREMENT and no default that reads the time
abbrev pub untimed : Table → Table
untimed table = record table { stamps = record { places = []; terms = []; formats = [] }; is_counted = false }

-- a table is listed as before where the schema is as before
pub listed_along : (old new : Schema) (table : Table) → new ≡ old → Lists old table → Lists new table
listed_along old new table same listed = subst (λ s. Lists s table) (sym same) listed
