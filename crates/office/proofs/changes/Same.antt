-- Lists that are one before or after a permutation.
use Rattle.office.proofs.changes.Common.{IsPermutation, ◌≡◌, List, sym, subst}

pub from_same : {X : Type 0} {xs ys zs : List X} → xs ≡ ys → IsPermutation ys zs → IsPermutation xs zs
from_same {zs = zs} e p = subst (λ l. IsPermutation l zs) (sym e) p

pub to_same : {X : Type 0} {xs ys zs : List X} → IsPermutation xs ys → ys ≡ zs → IsPermutation xs zs
to_same {xs = xs} p e = subst (IsPermutation xs) e p
