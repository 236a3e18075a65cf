use Rattle.std.proofs.Common.{◌∙◌, ℕ, List, subst}
use Rattle.http_stream.proofs.Common.{Judges}
use Rattle.http_stream.proofs.window.Window.front.Goals as goal

pub returns-clause-front : goal.returns-clause-front
returns-clause-front c = subst (λ (t : List ℕ). Judges t c.judge.result) (c.as_slice.ensures.value ∙ c.self.view_is) c.judge.ensures
