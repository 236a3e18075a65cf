-- The changes of the tables that a plain request makes, the first of them first.
use Rattle.std.specs.Prelude.{◌==◌, ◌∷◌, ◌++◌, if◌then◌else◌, ℕ, not, List, [], length, filter}
use Rattle.office.specs.changes.Common.{Import, Change, Add, ImportKind, Plain, State, has_import, after_plain, changes_of, import_cells}
use Rattle.office_model.specs.declared.rounds.Placement.{Placement}

-- the placements of other rounds
abbrev pub kept_placements : ℕ → List Placement → List Placement
kept_placements round placements = filter (λ p. not (p.round == round)) placements

-- what plain requests change one after another, each in the tables of the office that those before it leave
abbrev pub changes_of_rows : List Plain → State → List Change
changes_of_rows [] o = []
changes_of_rows (p ∷ ps) o = changes_of p o ++ changes_of_rows ps (after_plain p o)

-- what an import of these rows changes: what they change, and last its own row is added; a stored import changes nothing
abbrev pub import_changes : List ℕ → ImportKind → List ℕ → List Plain → State → List Change
import_changes id kind bytes rows o =
    if has_import o id then [] else changes_of_rows rows o ++ Add (record { table = Import; cells = import_cells (record { id = id; kind = kind; bytes = bytes; rows = length rows }) }) ∷ []
