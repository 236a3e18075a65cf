-- The bytes of a file that was written once.
use Rattle.std.proofs.Common.{◌≡◌, ℕ, ◌+◌, ◌<◌, List, [], ◌∷◌, length, slice_index, arith, ap, ◌∙◌}
use Rattle.std.proofs.lemmas.List.{ext_get_or}
use Rattle.sqlite_disk.specs.Disk.{Holds, Torn}

-- a file that was empty has the bytes that were written at its start, and no others
pub written_alone : (bytes file : List ℕ) → (0 < length bytes → Holds file 0 bytes) → Torn 0 (length bytes) [] file → file ≡ bytes
written_alone [] file holds torn = ext_get_or 0 file [] (omega (arith, torn.no_longer)) (λ i low. omega (arith, low, torn.no_longer))
written_alone (b ∷ bs) file holds torn =
    let held = holds (omega arith) in
    ext_get_or 0 file (b ∷ bs) (omega (arith, held.within, torn.no_longer)) (λ i low.
    let same : i ≡ 0 + i = omega arith in
    ap (λ (at : ℕ). slice_index file at) same ∙ held.each i (omega (arith, low, torn.no_longer)))
