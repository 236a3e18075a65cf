-- What the writing of a round text asks: codes of entries in the order of their keys rise.
use Rattle.std.proofs.Common.{◌≡◌, ℕ, true, List, [], ◌∷◌, map, refl, sym, ◌∙◌, arith}
use Rattle.reports.proofs.Common.{All, first_so, second_so, Key, key_cmp, code_cmp, is_below, rises, Rise}
use Rattle.std.specs.Ordering.{is_lt}
use Rattle.std.specs.declared.cmp.Ordering.{Ordering}
use Rattle.std.specs.declared.cmp.Ordering.TheVariants.{Less, Equal, Greater}
use Rattle.std.proofs.lemmas.List.Elements.{All-cons}
use Rattle.std.proofs.lemmas.List.Kept.{AllPairs-cons}

is_less : (r : Ordering) → is_lt r ≡ true → r ≡ Less
is_less Less h = refl
is_less Equal h = cc
is_less Greater h = cc

module _ {E F : Type 0} (key : E → Key) (entry : E → F) (code : F → List ℕ) (is : (e : E) → key e ≡ (0, code (entry e))) where
  before : (e x : E) → is_lt (key_cmp (key e) (key x)) ≡ true → code_cmp (code (entry e)) (code (entry x)) ≡ Less
  before e x h = is_less _ (sym (λ i. is_lt (key_cmp (is e i) (is x i))) ∙ h)

  before_all : (e : E) (es : List E) → is_below key (key e) es ≡ true → All (λ c. code_cmp (code (entry e)) c ≡ Less) (map code (map entry es))
  before_all e [] h = λ k d low. absurd (omega (arith, low))
  before_all e (x ∷ es) h = All-cons (λ c. code_cmp (code (entry e)) c ≡ Less) (code (entry x)) (map code (map entry es)) (before e x (first_so (is_lt (key_cmp (key e) (key x))) (is_below key (key e) es) h)) (before_all e es (second_so (is_lt (key_cmp (key e) (key x))) (is_below key (key e) es) h))

  -- codes of entries whose keys rise come one before the other
  pub risen : (es : List E) → rises key es ≡ true → Rise (map code (map entry es))
  risen [] h = λ i j d less low. absurd (omega (arith, low))
  risen (e ∷ es) h = AllPairs-cons (λ a b. code_cmp a b ≡ Less) (code (entry e)) (map code (map entry es)) (before_all e es (first_so (is_below key (key e) es) (rises key es) h)) (risen es (second_so (is_below key (key e) es) (rises key es) h))
