use Rattle.std.proofs.Common.{refl, sym, subst, arith, inl, inr}
use Rattle.cli.proofs.Common.{Held, state, DeskState, ComesFrom, CutsOff, DoesOver, IsDone, TakesTo}
use Rattle.cli.proofs.Opened.{found_for, was_clean, why_unopened}
use Rattle.cli.proofs.Writers.{refused_ends, prints_more}
use Rattle.cli.proofs.databases.open_and_perform.Given as given
use Rattle.cli.proofs.databases.open_and_perform.Goals as goal
use Rattle.cli.proofs.databases.open_and_perform.Goals.{After-into_connection}

-- the office was opened, and this was done there
did : (g : given.Over) (c : After-into_connection g) (Done : DeskState g.row.S.Denot → DeskState g.row.S.Denot → Type 0) → Done c.in-Ok.desk c.perform-status.new.desk
    → IsDone g.S.Store Done c.args.connection c.into_connection.result
did g c Done done =
    let was = was_clean g.S.Store (g.P.Ports.state c.args.ports) c.args.task c.in-Ok.desk c.perform-status.new.desk c.perform-status.ensures.taken in
    subst (λ (last : Held g.row.S.Denot). IsDone g.S.Store Done c.args.connection last) (sym c.into_connection.ensures.same)
    (record {
      desk = c.in-Ok.desk;
      found = found_for (state g.S.Store c.args.connection) (state g.S.Store c.in-Ok.desk.store) (state g.S.Store c.perform-status.new.desk.store) c.in-Ok.desk.office was (λ clean. omega (arith, clean, c.in-Ok.ensures.opened.opening.crash.clean)) c.in-Ok.ensures.opened.opening.office;
      opened = c.in-Ok.ensures.opened;
      fit = c.in-Ok.ensures.opened.in_order.fit;
      live = c.in-Ok.ensures.opened.in_order.live;
      clean = was;
      next = c.perform-status.new.desk;
      done = done;
      given_back = refl;
      stands = c.into_connection.ensures.tables;
    })

pub returns-in-Ok-clause-printed : goal.returns-in-Ok-clause-printed
returns-in-Ok-clause-printed g c =
    prints_more (ComesFrom g.S.Store (g.P.Ports.state c.args.ports) c.args.task c.in-Ok.desk c.perform-status.new.desk) (DoesOver g.S.Store (g.P.Ports.state c.args.ports) c.args.task c.args.connection c.into_connection.result)
    (λ o is. inr (did g c (λ desk next. ComesFrom g.S.Store (g.P.Ports.state c.args.ports) c.args.task desk next o) is)) _ _ _ c.perform-status.ensures.printed

pub returns-in-Ok-clause-left : goal.returns-in-Ok-clause-left
returns-in-Ok-clause-left g c = inl (did g c (TakesTo g.S.Store (g.P.Ports.state c.args.ports) c.args.task) c.perform-status.ensures.taken)

pub returns-in-Err-clause-printed : goal.returns-in-Err-clause-printed
returns-in-Err-clause-printed g c =
    prints_more _ (DoesOver g.S.Store (g.P.Ports.state c.args.ports) c.args.task c.args.connection c.in-Err.connection)
    (λ o is. inl (record { refusal = c.in-Err.refusal; why = why_unopened c.in-Err.refusal (state g.S.Store c.args.connection) (state g.S.Store c.in-Err.connection) c.in-Err.ensures.refused (λ clean is. (c.in-Err.ensures.unopened.damaged clean is, c.in-Err.ensures.unopened.some is)) c.in-Err.ensures.unopened.cause; printed = is; stays = c.in-Err.ensures.unopened.kept })) _ _ _ c.refuse.ensures

pub returns-in-Err-clause-left : goal.returns-in-Err-clause-left
returns-in-Err-clause-left g c = inr (refused_ends c.in-Err.refusal _ _ _ c.refuse.ensures, c.in-Err.ensures.unopened.kept)

pub returns-in-Ok-clause-cut : goal.returns-in-Ok-clause-cut
returns-in-Ok-clause-cut g c = inl (did g c (CutsOff g.S.Store (g.P.Ports.state c.args.ports) c.args.outputs.now c.perform-status.new.outputs c.args.task) c.perform-status.ensures.cut)

pub returns-in-Err-clause-cut : goal.returns-in-Err-clause-cut
returns-in-Err-clause-cut g c = inr c.in-Err.ensures.unopened.kept
