-- The students of a matching of the open round have no placement yet, and no two of its pairs are of one student: so each
-- placement that closing adds is new. Who has a list in the open round is placed by no round before, and no other is closed.
use Rattle.office.proofs.closing.Common.{nat_lt, option_map_or, AllByRecursion, bytes_eq, false_from_ne_true, lt-ltb, sum_by-cons, CodePair, Key, find, of_code, Listed, Placement, State, list_key, placement_key, last_round, list_of, lists_of, choices_in, placement_of, is_placed_before, IsFit, ListFits, PlacementFits, MayClose, kept, all_weaker, bytes_self, same_bytes, same_code, found_key, holds_of_found, closed_before, all_two, AreNew, ◌≡◌, ℕ, ◌+◌, ◌<◌, ◌≤◌, Bool, true, false, cond, List, [], ◌∷◌, map, count_by, Option, Some, None, Contains, refl, sym, ap, subst, ◌∙◌, arith, is_some}
use Rattle.office.proofs.closing.Kept.{pairs_listed}

-- ---- no student twice

-- how many pairs are of a student
abbrev of_student : List ℕ → List CodePair → ℕ
of_student s M = count_by (λ e. bytes_eq s e.student) M

one_more : (s : List ℕ) (e : CodePair) (M : List CodePair) → of_student s (e ∷ M) ≡ cond (bytes_eq s e.student) 1 0 + of_student s M
one_more s e M = sum_by-cons (λ (x : CodePair). cond (bytes_eq s x.student) 1 0) e M

-- where none is of a student, each is of another
none_of : (s : List ℕ) (M : List CodePair) → of_student s M ≤ 0 → AllByRecursion (λ (e : CodePair). bytes_eq s e.student ≡ false) M
none_of s [] none = tt
none_of s (e ∷ M) none = (
  first (bytes_eq s e.student) (omega (arith, none, one_more s e M)),
  none_of s M (omega (arith, none, one_more s e M)),
)
  where
    first : (b : Bool) → cond b 1 0 ≤ 0 → b ≡ false
    first true h = absurd (omega (arith, h))
    first false h = refl

-- ---- each placement is new

other_way : (a b : List ℕ) → bytes_eq a b ≡ false → bytes_eq b a ≡ false
other_way a b h = false_from_ne_true (bytes_eq b a) (λ t. let yes : bytes_eq a b ≡ true = subst (λ x. bytes_eq a x ≡ true) (sym (same_bytes b a t)) (bytes_self a) in cc)

-- the placements that keep pairs of different students, none of whom has one
added_new : (o : State) (M : List CodePair) (es : List Placement) → ((s : List ℕ) → of_student s M ≤ 1)
    → AllByRecursion (λ (e : CodePair). is_some (find placement_key (of_code e.student) es) ≡ false) M → AreNew placement_key (map (kept o) M) es
added_new o [] es once none = tt
added_new o (e ∷ M) es once none =
    let first : of_student e.student (e ∷ M) ≡ 1 + of_student e.student M = one_more e.student e M ∙ ap (λ b. cond b 1 0 + of_student e.student M) (bytes_self e.student) in
    let others = none_of e.student M (omega (arith, once e.student, first)) in (
      none.0,
      added_new o M (kept o e ∷ es) (λ s. omega (arith, once s, one_more s e M))
          (all_two (λ (f : CodePair). bytes_eq e.student f.student ≡ false) (λ (f : CodePair). is_some (find placement_key (of_code f.student) es) ≡ false)
          (λ (f : CodePair). is_some (find placement_key (of_code f.student) (kept o e ∷ es)) ≡ false)
          (λ f other free. ap (λ b. is_some (cond b (Some (kept o e)) (find placement_key (of_code f.student) es))) (same_code f.student e.student ∙ other_way e.student f.student other) ∙ free) M others none.1),
    )

module _ (M : List CodePair) (o : State) (fit : IsFit o) (may : MayClose o M) where
  -- who is placed is placed by a round before the open one
  placed_before : (s : List ℕ) (p : Placement) → placement_of o s ≡ Some p → is_placed_before o s (last_round o) ≡ true
  placed_before s p is =
      let fits : PlacementFits o p = holds_of_found placement_key (PlacementFits o) (0, s) o.placements p fit.placements_fit is in
      let before : p.round < last_round o = closed_before o fit.numbered p.round may.is_open fits.closed in
      ap (λ (x : Option Placement). option_map_or (λ q. nat_lt q.round (last_round o)) x false) is ∙ lt-ltb p.round (last_round o) before

  -- who lists a project in the open round is not
  not_before : (s p : List ℕ) → Contains (choices_in o (last_round o) s) p → is_placed_before o s (last_round o) ≡ false
  not_before s p listed = by_list (list_of o (last_round o) s) refl listed
    where
      by_list : (x : Option Listed) → list_of o (last_round o) s ≡ x → Contains (option_map_or (λ (l : Listed). l.choices) x []) p → is_placed_before o s (last_round o) ≡ false
      by_list None is c = absurd (omega (arith, c.1))
      by_list (Some l) is c =
          let fits : ListFits o (last_round o) l = holds_of_found list_key (ListFits o (last_round o)) (0, s) (lists_of o (last_round o)) l (fit.lists_fit (last_round o)) is in
          let same : s ≡ l.student = ap (λ (k : Key). k.1) (found_key list_key (0, s) (lists_of o (last_round o)) l is) in
          ap (λ t. is_placed_before o t (last_round o)) same ∙ fits.not_placed

  -- so it has no placement
  unplaced : (e : CodePair) → Contains (choices_in o (last_round o) e.student) e.project → placement_of o e.student ≡ None
  unplaced e listed = by (placement_of o e.student) refl
    where
      by : (x : Option Placement) → placement_of o e.student ≡ x → x ≡ None
      by None is = refl
      by (Some p) is = absurd (let yes = placed_before e.student p is in let no_one = not_before e.student e.project listed in cc)

  -- so the placements of the pairs are new
  pub pairs_new : AreNew placement_key (map (kept o) M) o.placements
  pairs_new =
      added_new o M o.placements may.matching.student_once
      (all_weaker (λ (e : CodePair). Contains (choices_in o (last_round o) e.student) e.project) (λ (e : CodePair). is_some (placement_of o e.student) ≡ false)
      (λ e listed. ap is_some (unplaced e listed)) M (pairs_listed M o fit may))
