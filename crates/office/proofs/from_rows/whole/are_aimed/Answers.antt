use Rattle.office.proofs.from_rows.Common.{◌==◌, ◌&&◌, Round, are_aimed, ◌≡◌, ◌≢◌, Bool, true, false, List, [], ◌∷◌, length, refl, sym, arith, AimEntry as RoundAim}
use Rattle.office.proofs.from_rows.whole.are_aimed.Goals as goal

and_false : (b c : Bool) → c ≡ false → (b && c) ≡ false
and_false true c h = h
and_false false c h = refl

-- rounds and aims of another number do not go together
other_length : (aims : List RoundAim) (rounds : List Round) → length aims ≢ length rounds → are_aimed aims rounds ≡ false
other_length [] [] h = absurd (h refl)
other_length (a ∷ aims) (r ∷ rounds) h = and_false (a.round == r.number) (are_aimed aims rounds) (other_length aims rounds (λ e. h (omega (arith, e))))
other_length [] (r ∷ rounds) h = refl
other_length (a ∷ aims) [] h = refl

pub returns-then-aims-rounds : goal.returns-then-aims-rounds
returns-then-aims-rounds c = sym (other_length c.args.aims.now c.args.rounds.now c.if-aims-rounds.true)
