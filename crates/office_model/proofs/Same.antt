-- Entries whose keys rise are given by what is found among them.
use Rattle.office_model.proofs.Common.{◌&&◌, T, is_lt, nat_cmp, ordering_then, Ordering, Less, Equal, Greater, Key, key_cmp, same_key, find, is_below, rises, ◌≡◌, Bool, true, false, cond, List, [], ◌∷◌, Some, refl, sym, ap, ◌∙◌, map}
use Rattle.std.specs.FinMap.Entries as pairs
use Rattle.std.specs.FinMap.{slice_cmp-IsAntisymmetric, nat_cmp-IsAntisymmetric}
use Rattle.std.specs.Cmp.Lexicographic.{slice_cmp}
use Rattle.office_model.proofs.Places.{keys_total}

-- only equal keys tie
both_tied : (r s : Ordering) → ordering_then r s ≡ Equal → (r ≡ Equal) × (s ≡ Equal)
both_tied Less s h = cc
both_tied Equal s h = (refl, h)
both_tied Greater s h = cc

pub keys_exact : (a b : Key) → key_cmp a b ≡ Equal → a ≡ b
keys_exact a b h =
    let parts = both_tied (nat_cmp a.0 b.0) (slice_cmp nat_cmp a.1 b.1) h in
    λ i. (nat_cmp-IsAntisymmetric a.0 b.0 parts.0 i, slice_cmp-IsAntisymmetric nat_cmp-IsAntisymmetric a.1 b.1 parts.1 i)

module _ {E : Type 0} (key : E → Key) where
  paired : List E → List (Key × E)
  paired es = map (λ e. (key e, e)) es

  find_paired : (q : Key) (es : List E) → pairs.find key_cmp q (paired es) ≡ find key q es
  unfolding paired
  find_paired q [] = refl
  find_paired q (e ∷ es) = ap (cond (same_key q (key e)) (Some e)) (find_paired q es)

  below_paired : (q : Key) (es : List E) → pairs.below_all key_cmp q (paired es) ≡ is_below key q es
  unfolding paired
  below_paired q [] = refl
  below_paired q (e ∷ es) = ap (λ t. is_lt (key_cmp q (key e)) && t) (below_paired q es)

  sorted_paired : (es : List E) → pairs.is_sorted key_cmp (paired es) ≡ rises key es
  unfolding paired
  sorted_paired [] = refl
  sorted_paired (e ∷ es) = λ i. below_paired (key e) es i && sorted_paired es i

  unpaired : (es : List E) → map (λ (p : Key × E). p.1) (paired es) ≡ es
  unfolding paired
  unpaired [] = refl
  unpaired (e ∷ es) = ap (λ l. e ∷ l) (unpaired es)

  passes : (b : Bool) → b ≡ true → T b
  passes true h = tt
  passes false h = cc

  -- two lists whose keys rise, in which the same is found, are one
  pub same_found : (es fs : List E) → rises key es ≡ true → rises key fs ≡ true → ((q : Key) → find key q es ≡ find key q fs) → es ≡ fs
  same_found es fs re rf same =
      sym (unpaired es) ∙ ap (map (λ (p : Key × E). p.1)) (pairs.same_entries key_cmp keys_total keys_exact (paired es) (paired fs) (passes _ (sorted_paired es ∙ re)) (passes _ (sorted_paired fs ∙ rf)) (λ q. find_paired q es ∙ same q ∙ sym (find_paired q fs))) ∙ unpaired fs
