-- Rows of different keys.
use Rattle.std.specs.Prelude.{◌≤◌, List, length, filter}
use Rattle.office.specs.changes.Common.{AllByRecursion, Table, Cells, begins, key_in}

-- each row is alone at its key
abbrev pub AreApart : Table → List Cells → Type 0
AreApart table rows = AllByRecursion (λ row. length (filter (begins (key_in table row)) rows) ≤ 1) rows
