use Rattle.std.proofs.Common.{◌≡◌, inl, Err, Some, refl, sym, ap, ◌∙◌, rules}
use Rattle.desk.proofs.Common.{state, refusal_of}
use Rattle.desk.proofs.Asked.{idle_saved, named_unstored}
use Rattle.desk.proofs.desk.Desk.ask.Given as given
use Rattle.desk.proofs.desk.Desk.ask.Goals as goal
use Rattle.desk.proofs.desk.Desk.ask.Goals.{Joined-request}

pub returns-in-Some-clause-session : goal.returns-in-Some-clause-session
returns-in-Some-clause-session g c = search rules depth 3

-- the refusal that was found is the one that is due
found : (g : given.Over) (c : Joined-request g) → refusal_of c.args.self.now.office c.args.request ≡ Some c.in-Some.refusal
found g c = sym (c.refusal_of.ensures.refusal ∙ ap (λ o. refusal_of o c.args.request) c.office.ensures.same) ∙ c.in-Some.is

pub returns-in-Some-clause-step : goal.returns-in-Some-clause-step
returns-in-Some-clause-step g c = (refl, inl (found g c))

pub returns-in-Some-clause-saved : goal.returns-in-Some-clause-saved
returns-in-Some-clause-saved g c =
    idle_saved c.args.self.now.office c.args.request (Err c.in-Some.refusal) (state g.S.Store c.args.self.now.store) _ refl (λ _. refl) (named_unstored c.args.self.now.office c.args.request c.in-Some.refusal (found g c))
