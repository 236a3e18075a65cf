-- What is lent is there.
use Rattle.office.proofs.Common.{option_copied, ◌≡◌, Option, Some, None, Bor, refl, is_some}

pub lent_is_there : {E : Type 0} (found : Option (Bor E)) → is_some found ≡ is_some (option_copied found)
lent_is_there None = refl
lent_is_there (Some e) = refl
