-- For proofs alone. What becomes of the session that a desk keeps.
use Rattle.std.specs.Prelude.{⊤, Option, IfSome, Result, Ok, Err}
use Rattle.office_model.specs.State.{State}
use Rattle.office_model.specs.declared.refusal.Refusal.{Refusal}
use Rattle.office_model.specs.declared.request.Reply.{Reply}
use Rattle.solver.specs.SessionState.{SessionState}
use Rattle.desk.specs.layers.SessionRounds.{MayJoin}
use Rattle.desk.specs.declared.sessions.SessionEffect.{SessionEffect}
use Rattle.desk.specs.declared.sessions.SessionEffect.TheVariants.{Keep, Start, Extend, End}
use Rattle.desk.specs.Sessions.{MirrorsRound}

-- a session that is cached may have this effect in an office that was just changed
abbrev pub MayMeet : SessionEffect → State → Option SessionState → Type 0
MayMeet Keep o kept = MirrorsRound o kept
MayMeet Start o kept = ⊥
MayMeet (Extend student) o kept = IfSome kept (λ s. MayJoin o s student)
MayMeet End o kept = ⊤

-- what a request that got this answer makes of a session, where it has this effect once carried out
abbrev pub effect_after : Result Reply Refusal → SessionEffect → SessionEffect
effect_after (Ok reply) effect = effect
effect_after (Err refusal) effect = Keep
