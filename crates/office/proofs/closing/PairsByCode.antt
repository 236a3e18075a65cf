-- Places that stand for a matching by positions, as pairs of codes.
use Rattle.office.proofs.closing.Common.{length-map, CodePair, IsMatchingByCodes, IsBestByCodes, profile_by_codes, codes_of, taken, PlacesAreTaken, ◌≡◌, List, map, length, sym, ap, ◌∙◌, subst}
use Rattle.spa.proofs.ByCodes.{to_codes, same_profiles, best_to_codes}
use Rattle.spa.proofs.Taken.{same_pairs}
use Rattle.spa.specs.Instance as spa
use Rattle.spa.specs.Matched.{pairs}

-- the pairs that are taken are the matching's, and what is said of those by codes is said of these
pub places_taken : PlacesAreTaken
places_taken l ks are =
    let i = are.instance in
    let is = are.same in
    let matched = are.matched in
    let M : List CodePair = map (codes_of i) (pairs i.shape ks) in
    let same : M ≡ taken l.students ks = same_pairs i are.fit ks matched.places ∙ ap (λ (l : spa.Instance). taken l.students ks) is in
    record {
      matching = subst (IsMatchingByCodes l) same (subst (λ (l : spa.Instance). IsMatchingByCodes l M) is (to_codes i are.fit (pairs i.shape ks) matched.matching));
      best = λ aim g. subst (IsBestByCodes aim l) same (subst (λ (l : spa.Instance). IsBestByCodes aim l M) is (best_to_codes i are.fit aim (pairs i.shape ks) g));
      size = sym (ap length same) ∙ length-map (pairs i.shape ks) (codes_of i);
      profile = λ k. sym (ap (λ (N : List CodePair). profile_by_codes l N k) same) ∙ sym (ap (λ (l : spa.Instance). profile_by_codes l M k) is) ∙ same_profiles i are.fit (pairs i.shape ks) matched.matching k;
    }
