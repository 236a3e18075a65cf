-- The text of a round in which nobody has a place, and nothing a price, is that of its aim and instance.
use Rattle.std.proofs.Common.{◌≡◌, ℕ, List, [], ◌∷◌, ◌++◌, map, drop, Option, None, refl, sym, ap, ◌∙◌, append-nil}
use Rattle.intake.proofs.Common.{Aim, Instance, Student, supervisor_codes, project_codes, student_codes, Section, ended, pair_rows, price_row, Round, sections, instance_sections, instance_text, round_text}
use Rattle.intake.proofs.Pieces.{line_of}
use Rattle.intake.proofs.RestOfText.{both_written}
use Rattle.intake.proofs.Sections.{full_lines, no_full}
use Rattle.intake.proofs.Where.{no_rows}

-- nobody has a place
pub no_pairs : {X : Type 0} (es : List Student) (xs : List X) → pair_rows es (map (λ x. None) xs) ≡ []
no_pairs [] [] = refl
no_pairs [] (x ∷ xs) = refl
no_pairs (e ∷ es) [] = refl
no_pairs (e ∷ es) (x ∷ xs) = no_pairs es xs

-- parts in which nobody has a place, and nothing a price, have the text of the aim and the instance alone
pub instance_alone : (aim : Aim) (l : Instance) (places : List (Option ℕ)) → pair_rows l.students places ≡ []
    → instance_text aim l ≡ round_text (record { aim = aim; instance = l; places = places; student_prices = []; project_prices = []; supervisor_prices = [] })
instance_alone aim l places nobody =
    let rest : List Section = drop 4 (sections Round (record { aim = aim; instance = l; places = places; student_prices = []; project_prices = []; supervisor_prices = [] })) in
    let none = no_full rest (nobody, (no_rows (price_row Round) (student_codes l), (no_rows (price_row Round) (project_codes l), (no_rows (price_row Round) (supervisor_codes l), tt)))) in
    sym (append-nil (instance_text aim l)) ∙ ap (λ (ls : List (List ℕ)). instance_text aim l ++ ended ls) (sym (full_lines rest ∙ ap (map line_of) none)) ∙ both_written (instance_sections Round aim l) rest
