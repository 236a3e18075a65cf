-- For proofs alone. The persistent office of a desk: an office, and what the connection to its tables holds.
use Rattle.std.specs.Prelude.{refl}
use Rattle.std.specs.Coded.{Coded, code_by, coded×}
use Rattle.sqlite.specs.Held.{Held, held_code}
use Rattle.office_model.specs.State.{State}
use Rattle.office.specs.contracts.office.Office.{the_row as office_row}
use Rattle.desk.specs.PersistentOffice.{PersistentState}

-- the code of these, made of those of their parts
abbrev pub persistent_code : {S : Type 0} → Coded S → Coded (PersistentState S)
persistent_code {S} code =
    code_by (State × Held S) (coded× office_row.coded (held_code code))
    (λ b. (b.office, b.store)) (λ p. record { office = p.0; store = p.1 }) (λ _. refl)
