use Rattle.std.proofs.Common.{Some, sym, ap, ◌∙◌}
use Rattle.std.specs.Option.{option_map}
use Rattle.desk.proofs.Common.{SessionState}
use Rattle.desk.proofs.desk.Desk.session_steps.Goals as goal

pub returns-in-Some : goal.returns-in-Some
returns-in-Some g c = record {
  steps = ap Some c.steps.ensures ∙ ap (λ k. option_map (λ (s : SessionState). s.steps) k) (sym c.in-Some.is ∙ ap (λ k. k.session) c.self.view_is);
}
