-- What is found among entries by their keys: it has the key that was looked for, and what holds of each entry.
use Rattle.office_model.proofs.Common.{AllByRecursion, Key, key_cmp, same_key, find, ◌≡◌, true, false, cond, List, [], ◌∷◌, Some, refl, ap, subst, ◌∙◌}
use Rattle.office_model.proofs.EntryChange.{is_equal}
use Rattle.office_model.proofs.Same.{keys_exact}

module _ {E : Type 0} (key : E → Key) where
  -- what is found has the key
  pub found_key : (q : Key) (es : List E) (e : E) → find key q es ≡ Some e → q ≡ key e
  found_key q [] e is = cc
  found_key q (x ∷ es) e is =
      elim (same_key q (key x)) as (λ b. same_key q (key x) ≡ b → cond b (Some x) (find key q es) ≡ Some e → q ≡ key e) [
        | true ↦ λ tied h. let here : x ≡ e = cc in keys_exact q (key x) (is_equal (key_cmp q (key x)) tied) ∙ ap key here
        | false ↦ λ tied h. found_key q es e h
      ] refl is

  -- and what holds of each entry, holds of it
  pub holds_of_found : (P : E → Type 0) (q : Key) (es : List E) (e : E) → AllByRecursion P es → find key q es ≡ Some e → P e
  holds_of_found P q [] e all is = cc
  holds_of_found P q (x ∷ es) e all is =
      elim (same_key q (key x)) as (λ b. cond b (Some x) (find key q es) ≡ Some e → P e) [
        | true ↦ λ h. let same : x ≡ e = cc in subst P same all.0
        | false ↦ λ h. holds_of_found P q es e all.1 h
      ] is
