-- For proofs alone. What a caller sees of a desk: the office, what the connection to its tables holds, and the cached session, if any.
use Rattle.std.specs.Prelude.{Option, refl}
use Rattle.std.specs.Coded.{Coded, code_by, coded×, coded_option}
use Rattle.sqlite.specs.Held.{Held, held_code, state}
use Rattle.office_model.specs.State.{State}
use Rattle.office.specs.contracts.office.Office.{the_row as office_row}
use Rattle.solver.specs.SessionState.{SessionState}
use Rattle.solver.specs.contracts.session.Session.{the_row as session_row}
use Rattle.sqlite_trees.specs.declared.store.Store.{Ghosts}
use Rattle.desk.specs.DeskState.{DeskState}
use Rattle.desk.specs.Keeping.{Keeps}
use Rattle.desk.specs.Sessions.{MirrorsRound}

-- the code of these, made of those of their parts
abbrev pub kept_code : {S : Type 0} → Coded S → Coded (DeskState S)
kept_code {S} code =
    code_by (State × (Held S × Option SessionState)) (coded× office_row.coded (coded× (held_code code) (coded_option session_row.coded)))
    (λ k. (k.office, (k.store, k.session))) (λ p. record { office = p.0; store = p.1.0; session = p.1.1 }) (λ _. refl)

-- its tables stand for its office, and its session mirrors the open round
pub record IsKept {S : Type 0} (ghosts : Ghosts S) (desk : DeskState S) : Type 0 where
  pub stands : Keeps (state ghosts desk.store) desk.office
  pub mirrors : MirrorsRound desk.office desk.session
