use Rattle.std.proofs.Common.{◌≡◌, ◌∙◌, ◌⊎◌, ℕ, List, true, false, inl, inr, sym, arith}
use Rattle.std.specs.Str.{bytes_eq}
use Rattle.std.proofs.lemmas.Bool.{cases_Bool}
use Rattle.spa.proofs.Common.{bytes_eq-Decides}
use Rattle.spa.proofs.Places.{slice_get_at}
use Rattle.spa.proofs.codes.position_at.Goals as goal

-- two texts that compare as equal are one
texts_tell : (a b : List ℕ) → ((bytes_eq a b ≡ true) × (a ≡ b)) ⊎ (bytes_eq a b ≡ false)
texts_tell a b = elim (cases_Bool (bytes_eq a b)) [ inl same ↦ inl (same, (bytes_eq-Decides a b).0 same) | inr other ↦ inr other ]

pub returns-then-eq : goal.returns-then-eq
returns-then-eq c =
    let same : c.index-codes-guess.result ≡ c.args.code.now = grind (arith, texts_tell) in
    (c.if-guess-codes.true, slice_get_at c.args.codes.now c.guess-guess.result c.index-codes-guess.result c.args.code.now c.if-guess-codes.true (sym c.index-codes-guess.is ∙ same))
