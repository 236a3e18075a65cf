-- The kinds of imports and of reports, and their words.
use Rattle.std.specs.Prelude.{ℕ, List, [], ◌∷◌, codes}
use Rattle.office_model.specs.declared.import.ImportKind.{ImportKind}
use Rattle.office_model.specs.declared.import.ImportKind.TheVariants.{Supervisors, Projects, Students, Lists}
use Rattle.office_model.specs.declared.report.ReportKind.{ReportKind}
use Rattle.office_model.specs.declared.report.ReportKind.TheVariants.{Profile, Loads, Unplaced, Placements, Offers, Missing, Text}

-- the kinds of imports
abbrev pub import_kinds : List ImportKind
import_kinds = Supervisors ∷ Projects ∷ Students ∷ Lists ∷ []

-- the kinds of reports
abbrev pub report_kinds : List ReportKind
report_kinds = Profile ∷ Loads ∷ Unplaced ∷ Placements ∷ Offers ∷ Missing ∷ Text ∷ []

-- the word by which a command names a kind of reports
abbrev pub report_word : ReportKind → List ℕ
report_word Profile = codes "profile"
report_word Loads = codes "loads"
report_word Unplaced = codes "unplaced"
report_word Placements = codes "placements"
report_word Offers = codes "offers"
report_word Missing = codes "missing"
report_word Text = codes "text"
