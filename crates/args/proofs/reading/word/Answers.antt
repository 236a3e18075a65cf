use Rattle.std.proofs.Common.{◌≡◌, ◌∙◌, Bool, Option, None, Some, ap, option_map, refl, subst, sym, true, false}
use Rattle.args.proofs.Common.{IsSome, IsSomeAnd, Text, HasOne, fits}
use Rattle.args.proofs.reading.word.Goals as goal

is_there : {X Y : Type 0} (f : X → Y) (P : Y → Type 0) (o : Option X) → IsSomeAnd (option_map f o) P → IsSome o
is_there f P None h = absurd h
is_there f P (Some x) h = refl

-- where one is needed there is one
had : (b : Bool) (o : Option Text) (P : Text → Type 0) → b ≡ true → HasOne b o P → IsSomeAnd o P
had true o P is h = h
had false o P is h = cc

pub unwrap-requires : goal.unwrap-requires
unwrap-requires c =
    is_there (λ w. w.now) _ c.given_word.result
    (subst (λ (o : Option Text). IsSomeAnd o (λ w. fits c.args.argument.now.takes w ≡ true)) (sym c.given_word.ensures) (had c.args.argument.now.needed _ _ c.requires.needed c.requires.given))

pub returns-clause-word : goal.returns-clause-word
returns-clause-word c = sym c.given_word.ensures ∙ ap (option_map (λ w. w.now)) c.unwrap.ensures

pub returns-clause-fits : goal.returns-clause-fits
returns-clause-fits c = subst (λ (o : Option Text). IsSomeAnd o (λ w. fits c.args.argument.now.takes w ≡ true)) (returns-clause-word c) (had c.args.argument.now.needed _ _ c.requires.needed c.requires.given)
