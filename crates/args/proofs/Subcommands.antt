-- The subcommand of a parse, by its name and its matches.
use Rattle.std.proofs.Common.{◌≡◌, List, Option, Some, None, option_map, refl, subst}
use Rattle.args.proofs.Common.{IsSomeAnd, Row, Text}
use Rattle.std.proofs.lemmas.Option.{same_Some}

-- what holds of it holds of its name and its matches
pub used_has : (P : Text → List Row → Type 0) (s : Option (Text × List Row)) (name : Text) (rows : List Row) → option_map (λ p. p.0) s ≡ Some name → option_map (λ p. p.1) s ≡ Some rows
    → IsSomeAnd s (λ p. P p.0 p.1) → P name rows
used_has P None name rows a b h = absurd h
used_has P (Some s) name rows a b h = subst (λ (n : Text). P n rows) (same_Some s.0 name a) (subst (λ (r : List Row). P s.0 r) (same_Some s.1 rows b) h)

-- one map after another
pub map_twice : {A B C : Type 0} (g : A → B) (f : B → C) (o : Option A) → option_map f (option_map g o) ≡ option_map (λ x. f (g x)) o
map_twice g f None = refl
map_twice g f (Some x) = refl
