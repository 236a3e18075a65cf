-- The aims and their words.
use Rattle.std.specs.Prelude.{ℕ, List, [], ◌∷◌, Option, codes, find}
use Rattle.std.specs.Str.{bytes_eq}
use Rattle.spa.specs.declared.aim.Aim.{Aim}
use Rattle.spa.specs.declared.aim.Aim.TheVariants.{Greedy, Generous}

-- the aims
abbrev pub aims : List Aim
aims = Greedy ∷ Generous ∷ []

-- the word by which texts, requests and commands name an aim
abbrev pub aim_word : Aim → List ℕ
aim_word Greedy = codes "greedy"
aim_word Generous = codes "generous"

-- the aim that has this word
abbrev pub aim_with : List ℕ → Option Aim
aim_with word = find (λ aim. bytes_eq (aim_word aim) word) aims
