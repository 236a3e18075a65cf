-- The fields of a record next to the names of a header, place by place.
use Rattle.std.proofs.Common.{◌≡◌, ◌<◌, ℕ, zero, suc, Bool, true, false, List, [], ◌∷◌, length, map, drop, get_or, not, refl, arith}
use Rattle.std.specs.Prelude.{◌&&◌}
use Rattle.std.specs.Str.{bytes_eq}
use Rattle.std.specs.Cmp.Lexicographic.{pointwise}
use denote.Ref.{Bor}
use Rattle.csv.specs.Records.{field_at}
use Rattle.import_csv.specs.Kinds.{field}

-- what is left at a place is alike where the field is the name and what is left after it is alike
pub alike_from : (fields : List (List ℕ)) (names : List (Bor (List ℕ))) (place : ℕ) (d : Bor (List ℕ)) → length fields ≡ length names → place < length names
    → pointwise bytes_eq (drop place fields) (drop place (map (λ name. name.now) names))
    ≡ (bytes_eq (field fields place) (get_or names place d).now && pointwise bytes_eq (drop (suc place) fields) (drop (suc place) (map (λ name. name.now) names)))
unfolding field_at
alike_from fields [] place d e l = absurd (omega arith)
alike_from [] (n ∷ names) place d e l = absurd (omega arith)
alike_from (f ∷ fields) (n ∷ names) zero d e l = refl
alike_from (f ∷ fields) (n ∷ names) (suc place) d e l = alike_from fields names place d (omega arith) (omega arith)

-- what is not unlike is alike, and the other way round
pub unlike : (b : Bool) → true ≡ not b → b ≡ false
unlike true e = cc
unlike false e = refl

pub like : (b : Bool) → false ≡ not b → b ≡ true
like true e = refl
like false e = cc
