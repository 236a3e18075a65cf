-- Rounds that are numbered from 1. The round with a number stands at the place before it, so a round that is put with the last
-- number takes the last place, and one with the next number is added after them. What a round holds is read by `option_map_or`:
-- one lemma for all such readings, whether a change keeps what is read or another round is read.
use Rattle.office_model.proofs.Common.{◌==◌, ◌&&◌, option_map, option_map_or, first_so, second_so, nat_cmp_is, is_lt, is_eq, ordering_then, Ordering, Less, Equal, Greater, and_from, eqb-true, eq-eqb, cases_eq, cases_order, cases_Bool, slice_get_past, slice_get_cases, Round, Listed, RoundAim, key_cmp, same_key, by_order, find, put, is_below, rises, State, round_key, aim_key, list_key, round_of, last_round, is_open, is_closed, lists_of, choices_in, are_aimed, are_numbered, only_last_open, ◌≡◌, ℕ, zero, suc, ◌+◌, ◌<◌, ◌≤◌, inl, inr, Bool, true, false, not, cond, List, [], ◌∷◌, ◌++◌, length, Option, Some, None, is_some, slice_get, refl, sym, ap, ◌∙◌, arith}
use Rattle.spa.specs.declared.aim.Aim.{Aim}
use Rattle.office_model.specs.Stepping.{with_last, after_opening}
use Rattle.office_model.proofs.EntryChange.{find-put}

-- ---- keys of rounds

lower : (n m : ℕ) → n < m → key_cmp (n, []) (m, []) ≡ Less
lower n m h = ap (λ r. ordering_then r Equal) (sym (nat_cmp_is n m Less h))

tied : (n m : ℕ) → n ≡ m → key_cmp (n, []) (m, []) ≡ Equal
tied n m h = ap (λ r. ordering_then r Equal) (sym (nat_cmp_is n m Equal h))

higher : (n m : ℕ) → m < n → key_cmp (n, []) (m, []) ≡ Greater
higher n m h = ap (λ r. ordering_then r Equal) (sym (nat_cmp_is n m Greater h))

-- keys of rounds are the same where the numbers are
pub same_round : (n m : ℕ) → n ≡ m → same_key (n, []) (m, []) ≡ true
same_round n m h = ap is_eq (tied n m h)

pub other_round : (n m : ℕ) → (n ≡ m → ⊥) → same_key (n, []) (m, []) ≡ false
other_round n m h =
    elim (cases_order n m) [
      | inl same ↦ absurd (h same)
      | inr other ↦ elim other [
        | inl below ↦ ap is_eq (lower n m below)
        | inr above ↦ ap is_eq (higher n m above)
      ]
    ]

-- ---- rounds with numbers from n on

numbered_first : (n : ℕ) (r : Round) (rs : List Round) → are_numbered n (r ∷ rs) ≡ true → r.number ≡ n
numbered_first n r rs h = eqb-true r.number n (first_so (r.number == n) (are_numbered (suc n) rs) h)

numbered_rest : (n : ℕ) (r : Round) (rs : List Round) → are_numbered n (r ∷ rs) ≡ true → are_numbered (suc n) rs ≡ true
numbered_rest n r rs h = second_so (r.number == n) (are_numbered (suc n) rs) h

numbered_more : (n : ℕ) (r : Round) (rs : List Round) → r.number ≡ n → are_numbered (suc n) rs ≡ true → are_numbered n (r ∷ rs) ≡ true
numbered_more n r rs f h = and_from (r.number == n) (are_numbered (suc n) rs) (eq-eqb r.number n f) h

-- a lower number is below them all
below_numbered : (m n : ℕ) (rs : List Round) → m < n → are_numbered n rs ≡ true → is_below round_key (m, []) rs ≡ true
below_numbered m n [] l h = refl
below_numbered m n (r ∷ rs) l h =
    and_from (is_lt (key_cmp (m, []) (round_key r))) (is_below round_key (m, []) rs)
    (ap is_lt (lower m r.number (omega (arith, numbered_first n r rs h))))
    (below_numbered m (suc n) rs (omega arith) (numbered_rest n r rs h))

rise_numbered : (n : ℕ) (rs : List Round) → are_numbered n rs ≡ true → rises round_key rs ≡ true
rise_numbered n [] h = refl
rise_numbered n (r ∷ rs) h =
    and_from (is_below round_key (round_key r) rs) (rises round_key rs)
    (below_numbered r.number (suc n) rs (omega (arith, numbered_first n r rs h)) (numbered_rest n r rs h))
    (rise_numbered (suc n) rs (numbered_rest n r rs h))

-- the round k places on
find_numbered : (n k m : ℕ) (rs : List Round) → m ≡ n + k → are_numbered n rs ≡ true → find round_key (m, []) rs ≡ slice_get rs k
find_numbered n k m [] e h = refl
find_numbered n zero m (r ∷ rs) e h = ap (λ b. cond b (Some r) (find round_key (m, []) rs)) (same_round m r.number (omega (arith, numbered_first n r rs h)))
find_numbered n (suc k) m (r ∷ rs) e h =
    ap (λ b. cond b (Some r) (find round_key (m, []) rs)) (other_round m r.number (λ s. omega (arith, numbered_first n r rs h, s)))
    ∙ find_numbered (suc n) k m rs (omega (arith, e)) (numbered_rest n r rs h)

find_lower : (m n : ℕ) (rs : List Round) → m < n → are_numbered n rs ≡ true → find round_key (m, []) rs ≡ None
find_lower m n [] l h = refl
find_lower m n (r ∷ rs) l h =
    ap (λ b. cond b (Some r) (find round_key (m, []) rs)) (other_round m r.number (λ s. omega (arith, numbered_first n r rs h, s)))
    ∙ find_lower m (suc n) rs (omega arith) (numbered_rest n r rs h)

-- what is found has the number
numbered_at : (n k : ℕ) (rs : List Round) (r : Round) → are_numbered n rs ≡ true → slice_get rs k ≡ Some r → r.number ≡ n + k
numbered_at n k [] r h s = cc
numbered_at n zero (x ∷ rs) r h s = let e : x ≡ r = cc in omega (arith, ap (λ (r : Round). r.number) e, numbered_first n x rs h)
numbered_at n (suc k) (x ∷ rs) r h s = omega (arith, numbered_at (suc n) k rs r (numbered_rest n x rs h) s)

-- ---- another round in the last place, and one more

-- the rounds with another last one
abbrev with_end : Round → List Round → List Round
with_end e [] = []
with_end e (r ∷ []) = e ∷ []
with_end e (r ∷ s ∷ rs) = r ∷ with_end e (s ∷ rs)

put_end : (n : ℕ) (e r : Round) (rs : List Round) → are_numbered n (r ∷ rs) ≡ true → e.number ≡ n + length rs → put round_key e (r ∷ rs) ≡ with_end e (r ∷ rs)
put_end n e r [] h is = ap (λ c. by_order c (e ∷ r ∷ []) (e ∷ []) (r ∷ e ∷ [])) (tied e.number r.number (omega (arith, numbered_first n r [] h, is)))
put_end n e r (s ∷ rs) h is =
    ap (λ c. by_order c (e ∷ r ∷ s ∷ rs) (e ∷ s ∷ rs) (r ∷ put round_key e (s ∷ rs))) (higher e.number r.number (omega (arith, numbered_first n r (s ∷ rs) h, is)))
    ∙ ap (λ l. r ∷ l) (put_end (suc n) e s rs (numbered_rest n r (s ∷ rs) h) (omega (arith, is)))

numbered_end : (n : ℕ) (e r : Round) (rs : List Round) → are_numbered n (r ∷ rs) ≡ true → e.number ≡ n + length rs → are_numbered n (with_end e (r ∷ rs)) ≡ true
numbered_end n e r [] h is = numbered_more n e [] (omega (arith, is)) refl
numbered_end n e r (s ∷ rs) h is = numbered_more n r (with_end e (s ∷ rs)) (numbered_first n r (s ∷ rs) h) (numbered_end (suc n) e s rs (numbered_rest n r (s ∷ rs) h) (omega (arith, is)))

open_end : (e : Round) (rs : List Round) → only_last_open rs ≡ true → only_last_open (with_end e rs) ≡ true
open_end e [] h = refl
open_end e (r ∷ []) h = refl
open_end e (r ∷ s ∷ []) h = h
open_end e (r ∷ s ∷ t ∷ rs) h =
    and_from (not r.is_open) (only_last_open (with_end e (s ∷ t ∷ rs))) (first_so (not r.is_open) (only_last_open (s ∷ t ∷ rs)) h)
    (open_end e (s ∷ t ∷ rs) (second_so (not r.is_open) (only_last_open (s ∷ t ∷ rs)) h))

length_end : (e : Round) (rs : List Round) → length (with_end e rs) ≡ length rs
length_end e [] = refl
length_end e (r ∷ []) = refl
length_end e (r ∷ s ∷ rs) = ap suc (length_end e (s ∷ rs))

put_more : (n : ℕ) (e : Round) (rs : List Round) → are_numbered n rs ≡ true → e.number ≡ n + length rs → put round_key e rs ≡ rs ++ e ∷ []
put_more n e [] h is = refl
put_more n e (r ∷ rs) h is =
    ap (λ c. by_order c (e ∷ r ∷ rs) (e ∷ rs) (r ∷ put round_key e rs)) (higher e.number r.number (omega (arith, numbered_first n r rs h, is)))
    ∙ ap (λ l. r ∷ l) (put_more (suc n) e rs (numbered_rest n r rs h) (omega (arith, is)))

numbered_one_more : (n : ℕ) (e : Round) (rs : List Round) → are_numbered n rs ≡ true → e.number ≡ n + length rs → are_numbered n (rs ++ e ∷ []) ≡ true
numbered_one_more n e [] h is = numbered_more n e [] (omega (arith, is)) refl
numbered_one_more n e (r ∷ rs) h is = numbered_more n r (rs ++ e ∷ []) (numbered_first n r rs h) (numbered_one_more (suc n) e rs (numbered_rest n r rs h) (omega (arith, is)))

length_more : (e : Round) (rs : List Round) → length (rs ++ e ∷ []) ≡ suc (length rs)
length_more e [] = refl
length_more e (r ∷ rs) = ap suc (length_more e rs)

open_more : (e : Round) (rs : List Round) → only_last_open rs ≡ true → ((k : ℕ) → suc k ≡ length rs → option_map_or (λ r. r.is_open) (slice_get rs k) false ≡ false) → only_last_open (rs ++ e ∷ []) ≡ true
open_more e [] h c = refl
open_more e (r ∷ []) h c = ap (λ b. not b && true) (c 0 refl)
open_more e (r ∷ s ∷ rs) h c =
    and_from (not r.is_open) (only_last_open (s ∷ rs ++ e ∷ [])) (first_so (not r.is_open) (only_last_open (s ∷ rs)) h)
    (open_more e (s ∷ rs) (second_so (not r.is_open) (only_last_open (s ∷ rs)) h) (λ k t. c (suc k) (ap suc t)))

-- ---- the rounds of an office

module _ (o : State) (numbered : are_numbered 1 o.rounds ≡ true) where
  -- their keys rise
  pub rounds_rise : rises round_key o.rounds ≡ true
  rounds_rise = rise_numbered 1 o.rounds numbered

  -- the round with a number stands at the place before it
  pub round_at : (k : ℕ) → round_of o (suc k) ≡ slice_get o.rounds k
  round_at k = find_numbered 1 k (suc k) o.rounds (omega arith) numbered

  -- none has the number 0
  pub no_round_0 : round_of o 0 ≡ None
  no_round_0 = find_lower 0 1 o.rounds (omega arith) numbered

  -- or one above the last
  pub no_round_above : (n : ℕ) → last_round o < n → round_of o n ≡ None
  no_round_above zero l = no_round_0
  no_round_above (suc k) l = round_at k ∙ slice_get_past o.rounds k (omega (arith, l))

  -- each other number has a round
  pub some_round : (n : ℕ) → 1 ≤ n → n ≤ last_round o → (r : Round) × (round_of o n ≡ Some r)
  some_round zero s l = absurd (omega (arith, s))
  some_round (suc k) s l = elim ((slice_get_cases o.rounds k).1) [
    | inl found ↦ (found.0, round_at k ∙ found.2)
    | inr past ↦ absurd (omega (arith, past.0, l))
  ]

  -- whose number it is
  pub round_number : (n : ℕ) (r : Round) → round_of o n ≡ Some r → r.number ≡ n
  round_number zero r h = absurd (let n = no_round_0 in cc)
  round_number (suc k) r h = omega (arith, numbered_at 1 k o.rounds r numbered (sym (round_at k) ∙ h))

  -- and within the number of rounds
  pub round_within : (n : ℕ) (r : Round) → round_of o n ≡ Some r → record { positive : 1 ≤ n; within : n ≤ last_round o }
  round_within zero r h = absurd (let n = no_round_0 in cc)
  round_within (suc k) r h = elim ((slice_get_cases o.rounds k).1) [
    | inl found ↦ record { positive = omega arith; within = omega (arith, found.1) }
    | inr past ↦ absurd (let e = round_at k in let f = past.1 in cc)
  ]

-- what a round has and the default has not, shows that there is a round
pub has_reading : {A : Type 0} (g : Round → A) (d a : A) (x : Option Round) → option_map_or g x d ≡ a → (d ≡ a → ⊥) → (r : Round) × (x ≡ Some r) × (g r ≡ a)
has_reading g d a None h n = absurd (n h)
has_reading g d a (Some r) h n = (r, refl, h)

closed_not_open : (x : Option Round) → option_map_or (λ r. not r.is_open) x false ≡ true → option_map_or (λ r. r.is_open) x false ≡ false
closed_not_open None h = refl
closed_not_open (Some r) h = elim (cases_Bool r.is_open) [
  | inl t ↦ absurd (let k = rw t at h in cc)
  | inr t ↦ t
]

-- a closed round is not open
pub closed_is_not_open : (o : State) (n : ℕ) → is_closed o n ≡ true → is_open o n ≡ false
closed_is_not_open o n h = closed_not_open (round_of o n) h

module _ (o : State) (numbered : are_numbered 1 o.rounds ≡ true) where
  -- an open round is there
  pub open_within : (n : ℕ) → is_open o n ≡ true → record { positive : 1 ≤ n; within : n ≤ last_round o }
  open_within n h = let r = has_reading (λ r. r.is_open) false true (round_of o n) h (λ e. cc) in round_within o numbered n r.0 r.1

  -- so is a closed one
  pub closed_within : (n : ℕ) → is_closed o n ≡ true → record { positive : 1 ≤ n; within : n ≤ last_round o }
  closed_within n h = let r = has_reading (λ r. not r.is_open) false true (round_of o n) h (λ e. cc) in round_within o numbered n r.0 r.1

  -- with an open round, each closed one is before it
  pub closed_before : (n : ℕ) → is_open o (last_round o) ≡ true → is_closed o n ≡ true → n < last_round o
  closed_before n opened closed = elim (cases_eq n (last_round o)) [
    | inl same ↦ absurd (let c : is_open o (last_round o) ≡ false = ap (is_open o) (sym same) ∙ closed_is_not_open o n closed in cc)
    | inr other ↦ omega (arith, other, (closed_within n closed).within)
  ]

-- ---- the last round changed, its number kept

put_last : (e : Round) (rs : List Round) → are_numbered 1 rs ≡ true → 1 ≤ length rs → e.number ≡ length rs → put round_key e rs ≡ with_end e rs
put_last e [] h s is = absurd (omega (arith, s))
put_last e (r ∷ rs) h s is = put_end 1 e r rs h (omega (arith, is))

numbered_last : (e : Round) (rs : List Round) → are_numbered 1 rs ≡ true → 1 ≤ length rs → e.number ≡ length rs → are_numbered 1 (with_end e rs) ≡ true
numbered_last e [] h s is = absurd (omega (arith, s))
numbered_last e (r ∷ rs) h s is = numbered_end 1 e r rs h (omega (arith, is))

module _ (f : Round → Round) (keeps : (r : Round) → (f r).number ≡ r.number) (o : State) (numbered : are_numbered 1 o.rounds ≡ true) where
  -- what holds of the rounds, and with the last one put anew, holds of those after
  by_last : (P : List Round → Type 0) → P o.rounds → ((r : Round) → round_of o (last_round o) ≡ Some r → (f r).number ≡ last_round o → 1 ≤ last_round o → P (put round_key (f r) o.rounds)) → P (with_last f o).rounds
  by_last P same new = by (round_of o (last_round o)) refl
    where
      by : (x : Option Round) → round_of o (last_round o) ≡ x → P (option_map_or (λ r. put round_key (f r) o.rounds) x o.rounds)
      by None is = same
      by (Some r) is = new r is (keeps r ∙ round_number o numbered (last_round o) r is) (round_within o numbered (last_round o) r is).positive

  at_end : (r : Round) → (f r).number ≡ last_round o → 1 ≤ last_round o → put round_key (f r) o.rounds ≡ with_end (f r) o.rounds
  at_end r is s = put_last (f r) o.rounds numbered s is

  -- there are as many rounds
  pub last_kept : last_round (with_last f o) ≡ last_round o
  last_kept = by_last (λ rs. length rs ≡ length o.rounds) refl (λ r found is s. ap length (at_end r is s) ∙ length_end (f r) o.rounds)

  -- with the same numbers
  pub numbered_kept : are_numbered 1 (with_last f o).rounds ≡ true
  numbered_kept = by_last (λ rs. are_numbered 1 rs ≡ true) numbered (λ r found is s. ap (are_numbered 1) (at_end r is s) ∙ numbered_last (f r) o.rounds numbered s is)

  -- and each but the last is closed
  pub last_open_kept : only_last_open o.rounds ≡ true → only_last_open (with_last f o).rounds ≡ true
  last_open_kept h = by_last (λ rs. only_last_open rs ≡ true) h (λ r found is s. ap only_last_open (at_end r is s) ∙ open_end (f r) o.rounds h)

  -- the last round is the one that f makes
  pub last_changed : round_of (with_last f o) (last_round o) ≡ option_map f (round_of o (last_round o))
  last_changed = by (round_of o (last_round o)) refl
    where
      by : (x : Option Round) → round_of o (last_round o) ≡ x → find round_key (last_round o, []) (option_map_or (λ r. put round_key (f r) o.rounds) x o.rounds) ≡ option_map f x
      by None is = is
      by (Some r) is =
          find-put round_key (last_round o, []) (f r) o.rounds
          ∙ ap (λ b. cond b (Some (f r)) (find round_key (last_round o, []) o.rounds)) (same_round (last_round o) (f r).number (sym (keeps r ∙ round_number o numbered (last_round o) r is)))

  -- and each other is as it was
  pub other_kept : (n : ℕ) → (n ≡ last_round o → ⊥) → round_of (with_last f o) n ≡ round_of o n
  other_kept n other = by_last (λ rs. find round_key (n, []) rs ≡ round_of o n) refl (λ r found is s.
      find-put round_key (n, []) (f r) o.rounds
      ∙ ap (λ b. cond b (Some (f r)) (find round_key (n, []) o.rounds)) (other_round n (f r).number (λ e. other (e ∙ is))))

  -- what is read of a round, where f keeps it: as `is_open`, `is_closed`, `lists_of`
  pub reading_kept : {A : Type 0} (g : Round → A) (d : A) → ((r : Round) → g (f r) ≡ g r) → (n : ℕ) → option_map_or g (round_of (with_last f o) n) d ≡ option_map_or g (round_of o n) d
  reading_kept g d same n = elim (cases_eq n (last_round o)) [
    | inl last ↦ ap (λ m. option_map_or g (round_of (with_last f o) m) d) last ∙ ap (λ x. option_map_or g x d) last_changed ∙ through g d same (round_of o (last_round o)) ∙ ap (λ m. option_map_or g (round_of o m) d) (sym last)
    | inr other ↦ ap (λ x. option_map_or g x d) (other_kept n other)
  ]
    where
      through : {A : Type 0} (g : Round → A) (d : A) → ((r : Round) → g (f r) ≡ g r) → (x : Option Round) → option_map_or g (option_map f x) d ≡ option_map_or g x d
      through g d same None = refl
      through g d same (Some r) = same r

  -- what is read of the last round then
  pub reading_changed : {A : Type 0} (g : Round → A) (d : A) (r : Round) → round_of o (last_round o) ≡ Some r → option_map_or g (round_of (with_last f o) (last_round o)) d ≡ g (f r)
  reading_changed g d r is = ap (λ x. option_map_or g x d) last_changed ∙ ap (λ x. option_map_or g (option_map f x) d) is

-- ---- the aims of rounds

first_aimed : (a : RoundAim) (aims : List RoundAim) (r : Round) (rs : List Round) → are_aimed (a ∷ aims) (r ∷ rs) ≡ true → a.round ≡ r.number
first_aimed a aims r rs h = eqb-true a.round r.number (first_so (a.round == r.number) (are_aimed aims rs) h)

rest_aimed : (a : RoundAim) (aims : List RoundAim) (r : Round) (rs : List Round) → are_aimed (a ∷ aims) (r ∷ rs) ≡ true → are_aimed aims rs ≡ true
rest_aimed a aims r rs h = second_so (a.round == r.number) (are_aimed aims rs) h

one_aimed : (a : RoundAim) (aims : List RoundAim) (r : Round) (rs : List Round) → a.round ≡ r.number → are_aimed aims rs ≡ true → are_aimed (a ∷ aims) (r ∷ rs) ≡ true
one_aimed a aims r rs same rest = and_from (a.round == r.number) (are_aimed aims rs) (eq-eqb a.round r.number same) rest

-- a round and its aim go to the same place
pub aimed_put : (a : RoundAim) (r : Round) → a.round ≡ r.number → (aims : List RoundAim) (rs : List Round) → are_aimed aims rs ≡ true → are_aimed (put aim_key a aims) (put round_key r rs) ≡ true
aimed_put a r same [] [] h = one_aimed a [] r [] same refl
aimed_put a r same (b ∷ aims) (s ∷ rs) h =
    let first = first_aimed b aims s rs h in
    let order : key_cmp (aim_key a) (aim_key b) ≡ key_cmp (round_key r) (round_key s) = λ i. key_cmp (same i, []) (first i, []) in
    ap (λ c. are_aimed (by_order c (a ∷ b ∷ aims) (a ∷ aims) (b ∷ put aim_key a aims)) (put round_key r (s ∷ rs))) order ∙ by (aimed_put a r same aims rs (rest_aimed b aims s rs h)) (key_cmp (round_key r) (round_key s))
  where
    by : are_aimed (put aim_key a aims) (put round_key r rs) ≡ true → (c : Ordering) → are_aimed (by_order c (a ∷ b ∷ aims) (a ∷ aims) (b ∷ put aim_key a aims)) (by_order c (r ∷ s ∷ rs) (r ∷ rs) (s ∷ put round_key r rs)) ≡ true
    by later Less = one_aimed a (b ∷ aims) r (s ∷ rs) same h
    by later Equal = one_aimed a aims r rs same (rest_aimed b aims s rs h)
    by later Greater = one_aimed b (put aim_key a aims) s (put round_key r rs) (first_aimed b aims s rs h) later
aimed_put a r same [] (s ∷ rs) h = cc
aimed_put a r same (b ∷ aims) [] h = cc

-- an aim is found where its round is
pub aimed_found : (n : ℕ) (aims : List RoundAim) (rs : List Round) → are_aimed aims rs ≡ true → is_some (find aim_key (n, []) aims) ≡ is_some (find round_key (n, []) rs)
aimed_found n [] [] h = refl
aimed_found n (a ∷ aims) (r ∷ rs) h =
    ap (λ m. is_some (cond (same_key (n, []) (m, [])) (Some a) (find aim_key (n, []) aims))) (first_aimed a aims r rs h) ∙ by (aimed_found n aims rs (rest_aimed a aims r rs h)) (same_key (n, []) (r.number, []))
  where
    by : is_some (find aim_key (n, []) aims) ≡ is_some (find round_key (n, []) rs) → (b : Bool) → is_some (cond b (Some a) (find aim_key (n, []) aims)) ≡ is_some (cond b (Some r) (find round_key (n, []) rs))
    by later true = refl
    by later false = later
aimed_found n [] (r ∷ rs) h = cc
aimed_found n (a ∷ aims) [] h = cc

-- rounds with the same numbers have the same aims
aimed_same : (n : ℕ) (aims : List RoundAim) (rs ss : List Round) → are_numbered n rs ≡ true → are_numbered n ss ≡ true → length rs ≡ length ss → are_aimed aims rs ≡ true → are_aimed aims ss ≡ true
aimed_same n aims [] [] h k same aimed = aimed
aimed_same n [] (r ∷ rs) (s ∷ ss) h k same aimed = cc
aimed_same n (a ∷ aims) (r ∷ rs) (s ∷ ss) h k same aimed =
    let first : a.round ≡ s.number = first_aimed a aims r rs aimed ∙ numbered_first n r rs h ∙ sym (numbered_first n s ss k) in
    one_aimed a aims s ss first
    (aimed_same (suc n) aims rs ss (second_so (r.number == n) (are_numbered (suc n) rs) h) (second_so (s.number == n) (are_numbered (suc n) ss) k) (omega (arith, same)) (rest_aimed a aims r rs aimed))
aimed_same n aims [] (s ∷ ss) h k same aimed = absurd (omega (arith, same))
aimed_same n aims (r ∷ rs) [] h k same aimed = absurd (omega (arith, same))

-- so a round that is put anew keeps its aim
pub aimed_kept : (f : Round → Round) → ((r : Round) → (f r).number ≡ r.number) → (o : State) → are_numbered 1 o.rounds ≡ true → are_aimed o.aims o.rounds ≡ true → are_aimed o.aims (with_last f o).rounds ≡ true
aimed_kept f keeps o numbered = aimed_same 1 o.aims o.rounds (with_last f o).rounds numbered (numbered_kept f keeps o numbered) (sym (last_kept f keeps o numbered))

-- ---- the next round opened

module _ (aim : Aim) (o : State) (numbered : are_numbered 1 o.rounds ≡ true) where
  -- the round that is added
  abbrev pub next : Round
  next = record { number = last_round o + 1; is_open = true; lists = [] }

  added : (after_opening aim o).rounds ≡ o.rounds ++ next ∷ []
  added = put_more 1 next o.rounds numbered (omega arith)

  pub last_after_opening : last_round (after_opening aim o) ≡ last_round o + 1
  last_after_opening = ap length added ∙ length_more next o.rounds ∙ omega arith

  pub numbered_after_opening : are_numbered 1 (after_opening aim o).rounds ≡ true
  numbered_after_opening = ap (are_numbered 1) added ∙ numbered_one_more 1 next o.rounds numbered (omega arith)

  -- each but the last is closed, where none was open
  pub last_open_after_opening : only_last_open o.rounds ≡ true → is_open o (last_round o) ≡ false → only_last_open (after_opening aim o).rounds ≡ true
  last_open_after_opening h c = ap only_last_open added ∙ open_more next o.rounds h (λ k e.
      ap (λ x. option_map_or (λ r. r.is_open) x false) (sym (round_at o numbered k)) ∙ ap (is_open o) e ∙ c)

  -- the new round
  pub round_opened : round_of (after_opening aim o) (last_round o + 1) ≡ Some next
  round_opened = find-put round_key (last_round o + 1, []) next o.rounds ∙ ap (λ b. cond b (Some next) (round_of o (last_round o + 1))) (same_round (last_round o + 1) (last_round o + 1) refl)

  -- each other is as it was
  pub other_after_opening : (n : ℕ) → (n ≡ last_round o + 1 → ⊥) → round_of (after_opening aim o) n ≡ round_of o n
  other_after_opening n other = find-put round_key (n, []) next o.rounds ∙ ap (λ b. cond b (Some next) (round_of o n)) (other_round n (last_round o + 1) other)

  -- what is read of a round, where the new one has nothing of it: as `lists_of`
  pub reading_after_opening : {A : Type 0} (g : Round → A) (d : A) → g next ≡ d → (n : ℕ) → option_map_or g (round_of (after_opening aim o) n) d ≡ option_map_or g (round_of o n) d
  reading_after_opening g d none n = elim (cases_eq n (last_round o + 1)) [
    | inl last ↦
        ap (λ m. option_map_or g (round_of (after_opening aim o) m) d) last ∙ ap (λ x. option_map_or g x d) round_opened ∙ none
        ∙ sym (ap (λ x. option_map_or g x d) (no_round_above o numbered n (omega (arith, last))))
    | inr other ↦ ap (λ x. option_map_or g x d) (other_after_opening n other)
  ]

-- ---- what is read of lists

-- where two rounds have the same lists a student lists the same in them
pub same_lists : (o new : State) (n m : ℕ) → lists_of new m ≡ lists_of o n → (student : List ℕ) → choices_in new m student ≡ choices_in o n student
same_lists o new n m same student = ap (λ (ls : List Listed). option_map_or (λ l. l.choices) (find list_key (0, student) ls) []) same
