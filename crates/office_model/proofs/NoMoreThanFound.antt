-- Entries that are all found among others are no more than these: an office has no more placements than students, and no more
-- lists in a round.
use Rattle.office_model.proofs.Common.{option_map_or, AllByRecursion, first_so, second_so, is_lt, is_eq, ordering_reverse, Ordering, Less, Equal, Greater, Listed, Placement, Key, key_cmp, has, entry, is_below, rises, State, student_key, list_key, placement_key, list_of, lists_of, has_student, IsFit, ListFits, PlacementFits, ◌≡◌, ◌⊎◌, ℕ, ◌-◌, ◌≤◌, inl, inr, true, false, cond, List, [], ◌∷◌, length, Option, Some, None, is_some, slice_get, refl, sym, ap, ◌∙◌, arith}
use Rattle.office_model.proofs.EntryChange.{all_weaker}
use Rattle.office_model.proofs.Found.{found_key, holds_of_found}
use Rattle.office_model.proofs.Places.{keys_total, find_below, below_all}

pub all_two : {E : Type 0} (P Q R : E → Type 0) → ((e : E) → P e → Q e → R e) → (es : List E) → AllByRecursion P es → AllByRecursion Q es → AllByRecursion R es
all_two P Q R f [] a b = tt
all_two P Q R f (e ∷ es) a b = (f e a.0 b.0, all_two P Q R f es a.1 b.1)

ordered : (r : Ordering) → (r ≡ Less) ⊎ ((r ≡ Equal) ⊎ (r ≡ Greater))
ordered Less = inl refl
ordered Equal = inr (inl refl)
ordered Greater = inr (inr refl)

is_less : (r : Ordering) → is_lt r ≡ true → r ≡ Less
is_less Less h = refl
is_less Equal h = absurd (cc)
is_less Greater h = absurd (cc)

module _ {A B : Type 0} (f : A → Key) (g : B → Key) where
  -- the entries after one have greater keys
  pub all_above : (q : Key) (es : List A) → is_below f q es ≡ true → AllByRecursion (λ e. key_cmp q (f e) ≡ Less) es
  all_above q [] b = tt
  all_above q (e ∷ es) b = (is_less _ (first_so (is_lt (key_cmp q (f e))) (is_below f q es) b), all_above q es (second_so (is_lt (key_cmp q (f e))) (is_below f q es) b))

  -- what is above the first entry is found after it
  found_behind : (k : Key) (x : B) (fs : List B) → key_cmp (g x) k ≡ Less → has g k (x ∷ fs) ≡ true → has g k fs ≡ true
  found_behind k x fs l h =
      let r : key_cmp k (g x) ≡ Greater = keys_total.antisymm k (g x) ∙ ap ordering_reverse l in
      sym (ap (λ o. is_some (cond (is_eq o) (Some x) (entry g k fs))) r) ∙ h

  -- entries that are all found among others are no more than these
  pub fewer : (es : List A) (fs : List B) → rises f es ≡ true → rises g fs ≡ true → AllByRecursion (λ e. has g (f e) fs ≡ true) es → length es ≤ length fs
  fewer [] fs r s h = omega arith
  fewer (e ∷ es) [] r s h = absurd (let k = h.0 in cc)
  fewer (e ∷ es) (x ∷ fs) r s h =
      let above = all_above (f e) es (first_so (is_below f (f e) es) (rises f es) r) in
      let rest = second_so (is_below f (f e) es) (rises f es) r in
      let below = first_so (is_below g (g x) fs) (rises g fs) s in
      let behind = second_so (is_below g (g x) fs) (rises g fs) s in
      elim (ordered (key_cmp (f e) (g x))) [
        | inl less ↦
            let none = find_below g (f e) fs (below_all g (f e) (g x) fs less below) in
            let nowhere : has g (f e) (x ∷ fs) ≡ false = ap (λ o. is_some (cond (is_eq o) (Some x) (entry g (f e) fs))) less ∙ ap is_some none in
            absurd (let k = sym nowhere ∙ h.0 in cc)
        | inr other ↦ elim other [
          | inl tied ↦
              let n = fewer es fs rest behind (all_two (λ d. key_cmp (f e) (f d) ≡ Less) (λ d. has g (f d) (x ∷ fs) ≡ true) (λ d. has g (f d) fs ≡ true)
              (λ d l t. found_behind (f d) x fs (sym (keys_total.congr (f e) (g x) (f d) tied) ∙ l) t) es above h.1) in
              omega (arith, n)
          | inr greater ↦
              let first : key_cmp (g x) (f e) ≡ Less = keys_total.antisymm (g x) (f e) ∙ ap ordering_reverse greater in
              let n = fewer (e ∷ es) fs r behind (
                found_behind (f e) x fs first h.0,
                all_two (λ d. key_cmp (f e) (f d) ≡ Less) (λ d. has g (f d) (x ∷ fs) ≡ true) (λ d. has g (f d) fs ≡ true)
                    (λ d l t. found_behind (f d) x fs (keys_total.trans (g x) (f e) (f d) first l) t) es above h.1,
              ) in
              omega (arith, n)
        ]
      ]

-- ---- who is placed

module _ (o : State) (fit : IsFit o) where
  -- who is placed is a student
  placed_student : (p : Placement) → PlacementFits o p → has_student o p.student ≡ true
  placed_student p fits = by_list (list_of o p.round p.student) refl fits.listed
    where
      by_list : (x : Option Listed) → list_of o p.round p.student ≡ x → slice_get (option_map_or (λ l. l.choices) x []) (p.rank - 1) ≡ Some p.project → has_student o p.student ≡ true
      by_list None is at = absurd (cc)
      by_list (Some l) is at =
          let f : ListFits o p.round l = holds_of_found list_key (ListFits o p.round) (0, p.student) (lists_of o p.round) l (fit.lists_fit p.round) is in
          let same : p.student ≡ l.student = ap (λ (k : Key). k.1) (found_key list_key (0, p.student) (lists_of o p.round) l is) in
          ap (has_student o) same ∙ f.student

  -- there are no more placements than students
  pub few_placed : length o.placements ≤ length o.students
  few_placed = fewer placement_key student_key o.placements o.students fit.placements_rise fit.students.rise (all_weaker (PlacementFits o) (λ p. has_student o p.student ≡ true) placed_student o.placements fit.placements_fit)

  -- and no more lists in a round
  pub few_lists : (n : ℕ) → length (lists_of o n) ≤ length o.students
  few_lists n = fewer list_key student_key (lists_of o n) o.students (fit.lists_rise n) fit.students.rise (all_weaker (ListFits o n) (λ l. has_student o l.student ≡ true) (λ l f. f.student) (lists_of o n) (fit.lists_fit n))
