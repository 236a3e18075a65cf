use Rattle.std.proofs.Common.{◌≡◌, ◌∙◌, ap, inl, inr, rules, sym, ℕ, List, [], Option, Result, Ok, Err, IfOk, IfErr, MatchResult}
use Rattle.cli.proofs.Common.{Visit, MessageText, IsPeer, Peer, PortState, Connect, AnswersFrom, gets_at, ComesFrom, IsServed, IsUnbound, Outcome, ServesAt, ServesBehind, of_answer, printed_reply, prints}
use Rattle.cli.specs.declared.tasks.Task.TheVariants as task
use Rattle.cli.proofs.Opened.{behind_within, came_within}
use Rattle.cli.proofs.Writers.{prints_more}
use Rattle.cli.proofs.tasks.perform.Goals as goal

-- that it is what was printed is searched for, so that a body that prints something else is refused at it
pub returns-in-Ok-clause-printed : goal.returns-in-Ok-clause-printed
returns-in-Ok-clause-printed g c =
    let asked = c.in-Ask.asked in
    let gets = gets_at g.S.Store c.args.desk.now c.ask.new.self asked c.ask.result c.ask.ensures.step c.ask.ensures.at_once c.ask.ensures.session c.ask.ensures.saved c.ask.ensures.in_order in
    rw c.in-Ask.is (prints_more (λ o. o ≡ prints (printed_reply c.in-Ok.reply)) (ComesFrom g.S.Store (g.P.Ports.state c.args.ports) (task.Ask asked) c.args.desk.now c.ask.new.self) (λ o is. (c.ask.result, gets, is ∙ ap of_answer (sym c.in-Ok.is))) _ _ _ (search rules depth 2))

pub returns-in-Ask-clause-printed : goal.returns-in-Ask-clause-printed
returns-in-Ask-clause-printed g c =
    let asked = c.in-Ask.asked in
    let gets = gets_at g.S.Store c.args.desk.now c.ask.new.self asked c.ask.result c.ask.ensures.step c.ask.ensures.at_once c.ask.ensures.session c.ask.ensures.saved c.ask.ensures.in_order in
    rw c.in-Ask.is (prints_more _ (ComesFrom g.S.Store (g.P.Ports.state c.args.ports) (task.Ask asked) c.args.desk.now c.ask.new.self) (λ o is. (c.ask.result, gets, is ∙ ap of_answer (sym c.in-Err.is))) _ _ _ c.refuse.ensures)

pub returns-in-Ok-clause-taken : goal.returns-in-Ok-clause-taken
returns-in-Ok-clause-taken g c = rw c.in-Ask.is (c.ask.result, gets_at g.S.Store c.args.desk.now c.ask.new.self c.in-Ask.asked c.ask.result c.ask.ensures.step c.ask.ensures.at_once c.ask.ensures.session c.ask.ensures.saved c.ask.ensures.in_order)

pub returns-in-Ask-clause-taken : goal.returns-in-Ask-clause-taken
returns-in-Ask-clause-taken g c = rw c.in-Ask.is (c.ask.result, gets_at g.S.Store c.args.desk.now c.ask.new.self c.in-Ask.asked c.ask.result c.ask.ensures.step c.ask.ensures.at_once c.ask.ensures.session c.ask.ensures.saved c.ask.ensures.in_order)

module _ {A E D : Type 0} (step : D → MessageText → List ℕ → D → Type 0) (at : PortState) (peers : A → ℕ → Peer) (before after : D) where
  -- whether the port was bound or not
  serves : (bound : Result A E) (port count : ℕ) (o : Outcome) → IfOk bound (λ a. (n : ℕ) → IsPeer (peers a n) (at.peers n)) → IfErr bound (λ _. at.is_taken)
      → MatchResult bound (λ a. IsServed step (peers a) port count before after o) (λ _. IsUnbound port before after o) → ServesAt step at port count before after o
  serves (Ok a) port count o of taken is = inr (record { came = is.came; awaited = is.awaited; served = came_within step (peers a) at.peers of before after is.came is.served; ends = is.ends; out = is.out; silent = is.silent })
  serves (Err e) port count o of taken is = inl (taken, is)

  takes : (bound : Result A E) → IfOk bound (λ a. (n : ℕ) → IsPeer (peers a n) (at.peers n)) → IfOk bound (λ a. (came : List Visit) × Connect step (peers a) before came after)
      → IfErr bound (λ _. after ≡ before) → (came : List Visit) × Connect step at.peers before came after
  takes (Ok a) of served none = (served.0, came_within step (peers a) at.peers of before after served.0 served.1)
  takes (Err e) of served none = ([], none)

  cuts : (bound : Result A E) (port count : ℕ) (w0 w : Option (List ℕ)) (Failed : Type 0) → IfOk bound (λ a. (n : ℕ) → IsPeer (peers a n) (at.peers n))
      → (Failed → IfOk bound (λ a. ServesBehind step (peers a) port count before after w0 w)) → IfErr bound (λ _. after ≡ before) → Failed → ServesBehind step at.peers port count before after w0 w
  cuts (Ok a) port count w0 w Failed of cut none failed = behind_within step (peers a) at.peers of port count before after w0 w (cut failed)
  cuts (Err e) port count w0 w Failed of cut none failed = inl none

pub returns-clause-printed : goal.returns-clause-printed
returns-clause-printed g c =
    rw c.in-Serve.is
    (prints_more _ _ (λ o is. serves (AnswersFrom g.S.Store) (g.P.Ports.state c.args.ports c.in-Serve.serving.port) g.P.Door.Door.peers _ _ c.bind-bound.result _ _ o c.bind-bound.ensures.bound c.bind-bound.ensures.taken is) _ _ _ c.serve_bound.ensures.printed)

pub returns-clause-taken : goal.returns-clause-taken
returns-clause-taken g c =
    rw c.in-Serve.is
    (takes (AnswersFrom g.S.Store) (g.P.Ports.state c.args.ports c.in-Serve.serving.port) g.P.Door.Door.peers _ _ c.bind-bound.result c.bind-bound.ensures.bound c.serve_bound.ensures.served c.serve_bound.ensures.unbound)

pub returns-in-Ok-clause-cut : goal.returns-in-Ok-clause-cut
returns-in-Ok-clause-cut g c = rw c.in-Ask.is tt

pub returns-in-Ask-clause-cut : goal.returns-in-Ask-clause-cut
returns-in-Ask-clause-cut g c = rw c.in-Ask.is tt

pub returns-clause-cut : goal.returns-clause-cut
returns-clause-cut g c =
    rw c.in-Serve.is
    (cuts (AnswersFrom g.S.Store) (g.P.Ports.state c.args.ports c.in-Serve.serving.port) g.P.Door.Door.peers _ _ c.bind-bound.result _ _ _ _ _ c.bind-bound.ensures.bound c.serve_bound.ensures.cut c.serve_bound.ensures.unbound)
