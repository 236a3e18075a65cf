-- Lines that are appended one entry after another.
use Rattle.std.proofs.Common.{◌≡◌, ℕ, ◌+◌, ◌<◌, Bool, true, false, cond, List, [], ◌∷◌, ◌++◌, length, drop, get_or, filter, flat_map, suc, zero, refl, sym, ap, ◌∙◌, arith, append_assoc, append-nil}
use Rattle.reports.proofs.Common.{range_with_len}
use Rattle.std.proofs.lemmas.List.{at_drop_more}

-- the entries from one on are this one and those after it
pub next : {X : Type 0} (xs : List X) (i : ℕ) (x : X) → i < length xs → x ≡ get_or xs i x → drop i xs ≡ x ∷ drop (i + 1) xs
next xs i x within is = at_drop_more (λ l. l) xs i x within ∙ ap (λ y. y ∷ drop (i + 1) xs) (sym is)

-- so are the numbers from one on
pub next_number : (a n m : ℕ) → n ≡ m + 1 → range_with_len a n ≡ a ∷ range_with_len (a + 1) m
next_number a zero m h = absurd (omega (arith, h))
next_number a (suc n) m h = ap (λ k. a ∷ range_with_len (a + 1) k) (let e : n ≡ m = omega (arith, h) in e)

-- texts, joined from the right or from the left
pub joined : (a b c d : List ℕ) → a ++ (b ++ (c ++ d)) ≡ a ++ b ++ c ++ d
joined a b c d = simp append_assoc

pub joined_six : (a b c d e f : List ℕ) → a ++ (b ++ (c ++ (d ++ (e ++ f)))) ≡ a ++ b ++ c ++ d ++ e ++ f
joined_six a b c d e f = simp append_assoc

module _ {X : Type 0} (f : X → List ℕ) where
  -- what was written, followed by the lines of all entries that are left, is the whole; it is so after the lines of the first
  pub appended : (x : X) (rest all : List X) (old new whole : List ℕ) → all ≡ x ∷ rest → new ≡ old ++ f x → old ++ flat_map f all ≡ whole → new ++ flat_map f rest ≡ whole
  appended x rest all old new whole is wrote before =
      ap (λ l. l ++ flat_map f rest) wrote ∙ append_assoc old (f x) (flat_map f rest) ∙ ap (λ xs. old ++ flat_map f xs) (sym is) ∙ before

  -- the line of an entry that is chosen
  pub chosen : (t : X → Bool) (x : X) → t x ≡ true → f x ≡ flat_map f (filter t (x ∷ []))
  chosen t x yes_it_is = sym (append-nil (f x)) ∙ ap (λ b. flat_map f (cond b (x ∷ []) [])) (sym yes_it_is)

  by_choice : (b : Bool) (x : X) (xs : List X) → flat_map f (cond b (x ∷ xs) xs) ≡ flat_map f (cond b (x ∷ []) []) ++ flat_map f xs
  by_choice true x xs = ap (λ l. l ++ flat_map f xs) (sym (append-nil (f x)))
  by_choice false x xs = refl

  -- the same of the entries that are chosen
  pub appended_chosen : (t : X → Bool) (x : X) (rest all : List X) (old new whole : List ℕ) → all ≡ x ∷ rest → new ≡ old ++ flat_map f (filter t (x ∷ [])) → old ++ flat_map f (filter t all) ≡ whole → new ++ flat_map f (filter t rest) ≡ whole
  appended_chosen t x rest all old new whole is wrote before =
      ap (λ l. l ++ flat_map f (filter t rest)) wrote ∙ append_assoc old (flat_map f (filter t (x ∷ []))) (flat_map f (filter t rest))
      ∙ ap (λ l. old ++ l) (sym (by_choice (t x) x (filter t rest))) ∙ ap (λ xs. old ++ flat_map f (filter t xs)) (sym is) ∙ before
