-- A request that gets no refusal.
use Rattle.office_model.proofs.Common.{AllByRecursion, ◌≡◌, Bool, true, false, List, [], ◌∷◌, None, refl}
use Rattle.office_model.specs.declared.refusal.Refusal.{Refusal}
use Rattle.office_model.specs.Refusing.{first}

next : (b : Bool) (r : Refusal) (cs : List (Bool × Refusal)) → first ((b, r) ∷ cs) ≡ None → (b ≡ false) × (first cs ≡ None)
next true r cs h = cc
next false r cs h = (refl, h)

-- none of its tests is met
pub allowed : (cs : List (Bool × Refusal)) → first cs ≡ None → AllByRecursion (λ (c : Bool × Refusal). c.0 ≡ false) cs
allowed [] h = tt
allowed (c ∷ cs) h = let n = next c.0 c.1 cs h in (n.0, allowed cs n.1)
