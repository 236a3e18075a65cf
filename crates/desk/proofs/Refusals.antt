-- What may be answered where a making is refused.
use Rattle.std.proofs.Common.{◌≡◌, ◌⊎◌, inl, inr, Some, None, Result, Ok, Err, IfErr}
use Rattle.desk.proofs.Common.{Refusal, Request, refusal_of, MayRefuse, refusal, State, layers}
use Rattle.office_model.specs.declared.refusal.Refusal.TheVariants as no

-- what may come of a making that is not refused before its text is read
pub may_refuse : (o : State) (q : Request) → refusal_of o q ≡ None → {A : Type 0} (r : Result A Refusal) → IfErr r (λ e. (e ≡ no.Memory) ⊎ (refusal layers o q ≡ Some e)) → IfErr r (MayRefuse layers o q)
may_refuse o q allowed (Ok done) h = h
may_refuse o q allowed (Err e) (inl memory) = inr (allowed, inr (inl memory))
may_refuse o q allowed (Err e) (inr named) = inr (allowed, inl named)
