use Rattle.std.proofs.Common.{sym, ap, subst, ◌∙◌, rules}
use Rattle.office_model.specs.declared.request.Request.TheVariants as request
use Rattle.desk.specs.DeskState.{IsInOrder}
use Rattle.desk.specs.Sessions.{MirrorsRound}
use Rattle.desk.proofs.Common.{Makes, layers, State, IsSessionOf}
use Rattle.desk.proofs.desk.Desk.preview.Goals as goal

pub returns-clause-step : goal.returns-clause-step
returns-clause-step g c =
    let o : State = c.args.self.now.office in
    let mirrors : IsSessionOf o c.in_ok-session.session = subst (λ (x : State). IsSessionOf x c.in_ok-session.session) c.office-office.ensures.same c.in_ok-session.ensures.mirrors in
    (c.requires.allowed, subst (λ (x : State). Makes layers o request.Preview c.read_preview-reply.result x) (sym (ap (λ k. k.office) c.self.view_is)) (c.read_preview-reply.ensures.made o mirrors))

pub returns-clause-session : goal.returns-clause-session
returns-clause-session g c = search rules

pub returns-in-Some-clause-step : goal.returns-in-Some-clause-step
returns-in-Some-clause-step g c =
    let o : State = c.args.self.now.office in
    (c.requires.allowed, c.read_preview.ensures.made o (subst (MirrorsRound o) (sym (ap (λ k. k.session) c.self.view_is) ∙ c.in-Some.is) c.office-office.ensures.mirrors))

pub returns-clause-in_order : goal.returns-clause-in_order
returns-clause-in_order g c =
    let was = subst (IsInOrder g.S.Store) (sym c.self.view_is) c.office-office.ensures.in_order in
    record { stands = was.stands; fit = was.fit; live = was.live }
