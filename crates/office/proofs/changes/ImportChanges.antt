-- Plain requests keep no import.
use Rattle.office.proofs.changes.Common.{PutSupervisor, State, after_plain, ImportsStay, ◌≡◌, [], ◌∷◌, refl, ◌∙◌, Plain}

one_keeps_none : (p : Plain) (o : State) → (let n = after_plain p o in n.imports) ≡ o.imports
one_keeps_none (PutSupervisor code label quota) o = refl
one_keeps_none _ o = refl

pub keep_none : ImportsStay
keep_none [] o = refl
keep_none (p ∷ ps) o = keep_none ps (after_plain p o) ∙ one_keeps_none p o
