use Rattle.std.proofs.Common.{◌≡◌, Option, IfSome, refl, sym, ap, subst, ◌∙◌, rules}
use Rattle.desk.proofs.Common.{state, State, Step, SessionState, layers, effect_after, effect_of, refusal, MayMeet}
use Rattle.desk.specs.DeskState.{DeskState}
use Rattle.desk.specs.declared.sessions.SessionEffect.{SessionEffect}
use Rattle.desk.proofs.Asked.{idle_saved}
use Rattle.desk.proofs.SessionAfter.{meets_after}
use Rattle.desk.proofs.desk.Desk.change.Goals as goal

-- a session and its effect, taken for equal ones
met_so : (f : SessionEffect) (g : SessionEffect) (o n : State) (old kept : Option SessionState) → f ≡ g → o ≡ n → old ≡ kept → MayMeet f o old → MayMeet g n kept
met_so f g o n old kept e d k h = subst (λ (x : SessionEffect). MayMeet x n kept) e (subst (λ (x : State). MayMeet f x kept) d (subst (λ (x : Option SessionState). MayMeet f o x) k h))

pub next_session-requires : goal.next_session-requires
next_session-requires g c =
    let q = c.args.request in
    let o : State = c.args.self.now.office in
    let n : State = c.change-answer.new.self.office in
    let a = c.change-answer.result in
    let step : Step layers o q a n = subst (λ (x : State). Step layers x q a n) (ap (λ k. k.office) c.self.view_is) c.change-answer.ensures.step in
    record {
      meets = met_so (effect_after a (effect_of o q)) c.effect_after-effect.result n c.office-2.result.now c.args.self.now.session c.take-kept.result
          (sym (c.effect_after-effect.ensures ∙ ap (λ (e : SessionEffect). effect_after a e) (c.in_ok-effect.ensures ∙ ap (λ (x : State). effect_of x q) c.office.ensures.same))) (sym c.office-2.ensures.same)
          (sym (c.take-kept.ensures.value ∙ ap (λ k. k.session) c.self.view_is)) (meets_after o n q a c.args.self.now.session c.office.ensures.in_order.fit c.requires.allowed c.requires.change step c.office.ensures.mirrors);
    }

pub returns-clause-quiet : goal.returns-clause-quiet
returns-clause-quiet g c = subst (λ (d : DeskState g.row.S.Denot). IfSome (refusal layers d.office c.args.request) (λ _. c.change-answer.new.self.store ≡ d.store)) c.self.view_is c.change-answer.ensures.quiet

pub returns-in_err-effect-clause-saved : goal.returns-in_err-effect-clause-saved
returns-in_err-effect-clause-saved g c = idle_saved c.args.self.now.office c.args.request _ (state g.S.Store c.args.self.now.store) _ refl (λ _. search rules) (search rules)
