-- Prices of a network of an instance prove its places best: read by place they are none below zero, they cover each listed
-- pair, and they add up to what the places weigh. So the places are a best matching.
use Rattle.std.proofs.Common.{◌≡◌, ℕ, zero, suc, ◌+◌, ◌<◌, ◌≤◌, inl, inr, ℤ, pos, ◌+ℤ◌, List, [], ◌∷◌, length, map, slice_get, slice_index, get_or, Contains, Some, refl, ap, sym, ◌∙◌, arith, subst}
use Rattle.solver.proofs.Common.{cases_lt, get_or_default, get_or_past, slice_get-get_or, COMPONENTS, RANKS, as_read, order, none, plus, Aim, Greedy, Generous, read_alike, read_twice, Shape, IsSound, IsPlaceOf, list_of, choice_at, supervisor_of, IsBest, rank_in, weight, weight_row, pairs, IsMatched, value, ProveBest, Places, lex_ops, row, row-places_of, IsLexicographic, aim_sums, best_from_unbeaten, read_sum, rank_of_place, Seen, shape_of, ArePrices, IsPriced, worth_price, price_total, total_worth, worth_of, weighed, IsOf, IsNetworkKept}
use Rattle.spa.specs.Laws.{AtMost}
use Rattle.spa.proofs.Duality.{listed_student, best_from_prices}
use Rattle.spa.proofs.LexOrder.{lexicographic}
use Rattle.solver.proofs.ListWorths.{projects_of-weighed_from, length-weighed_from, entry-weighed_from}
use Rattle.solver.proofs.Totals.{value_read, weight_is}
use Rattle.solver.proofs.Better.{moved}

-- lists without their worths are the lists
unweighed : (aim : Aim) (xss : List (List ℕ)) → map (map (λ e. e.0)) (map (weighed aim) xss) ≡ xss
unweighed aim [] = refl
unweighed aim (xs ∷ xss) = ap (λ ys. ys ∷ map (map (λ e. e.0)) (map (weighed aim) xss)) (projects_of-weighed_from aim 1 xs) ∙ ap (λ yss. xs ∷ yss) (unweighed aim xss)

-- the network's instance is the instance
pub shape_is : (aim : Aim) (i : Shape) (v : Seen (Places COMPONENTS)) → IsOf aim i v → shape_of v ≡ i
shape_is aim i v h =
    let made : List ℕ → List (ℕ × ℕ) → List (List ℕ) → Shape = λ a b c. record { supervisors = a; projects = b; students = c } in
    ap (λ a. made a v.projects (map (map (λ e. e.0)) v.lists)) h.supervisors
    ∙ ap (λ b. made i.supervisors b (map (map (λ e. e.0)) v.lists)) h.projects
    ∙ ap (λ c. made i.supervisors i.projects c) (ap (map (map (λ e. e.0))) h.lists ∙ unweighed aim i.students)

-- each list is short
pub list_short : (i : Shape) → IsSound i → (s : ℕ) → length (list_of i s) ≤ RANKS
list_short i sound s =
    elim (cases_lt s (length i.students)) [
      | inl h ↦ sound.within s [] h
      | inr h ↦ let e : list_of i s ≡ [] = get_or_past i.students s [] h in let n = ap length e in omega (arith, n)
    ]

-- an element of a list with its worths, as a look-up finds it
row_of : (aim : Aim) (xss : List (List ℕ)) (s : ℕ) → s < length xss → slice_get (map (weighed aim) xss) s ≡ Some (weighed aim (get_or xss s []))
row_of aim [] s h = absurd (omega arith)
row_of aim (xs ∷ xss) zero h = refl
row_of aim (xs ∷ xss) (suc s) h = row_of aim xss s (omega arith)

-- the rows have the numbers of the worths, as the aim reads them
abbrev pub Read : Aim → (ℕ → ℕ → ℤ) → List (Places COMPONENTS) → Type 0
Read aim rows worths = (n t : ℕ) → t < COMPONENTS → rows n t ≡ as_read aim (row COMPONENTS (worth_price (lex_ops COMPONENTS) worths n)) t

-- Step 8 of docs/PROOF.md. The network compares worths from the front, so it is handed weights as the aim reads them, and its prices are
-- rows so read. To read a row twice gives the row: read once more they are prices in the aim's own order.
pub read_back : (aim : Aim) (v w : ℕ → ℤ) → ((t : ℕ) → t < COMPONENTS → v t ≡ as_read aim w t) → (t : ℕ) → t < COMPONENTS → as_read aim v t ≡ w t
read_back aim v w e t h = read_alike aim v (as_read aim w) e t h ∙ read_twice aim w t h

module _ (aim : Aim) (law : IsLexicographic COMPONENTS) where
  -- rows that the aim reads as worths of which one is at most the other
  no_later : (x y : Places COMPONENTS) (v w : ℕ → ℤ) → ((t : ℕ) → t < COMPONENTS → as_read aim v t ≡ row COMPONENTS x t) → ((t : ℕ) → t < COMPONENTS → as_read aim w t ≡ row COMPONENTS y t) → AtMost (lex_ops COMPONENTS) x y → ¬ order aim w v
  no_later x y v w e f most before = (law.at_most x y).0 most (moved (as_read aim w) (row COMPONENTS y) (as_read aim v) (row COMPONENTS x) f e before)

  -- an aim reads nothing as zero
  none_read : (t : ℕ) → t < COMPONENTS → as_read aim none t ≡ row COMPONENTS (lex_ops COMPONENTS).zero t
  none_read t h = nothing aim t ∙ sym (law.zero t)
    where
      nothing : (aim : Aim) (t : ℕ) → as_read aim none t ≡ pos 0
      nothing aim zero = refl
      nothing Greedy (suc k) = refl
      nothing Generous (suc k) = refl

  -- rows of worths that are not below zero are not
  above : (rows : ℕ → ℕ → ℤ) (worths : List (Places COMPONENTS)) → Read aim rows worths → ((n : ℕ) → AtMost (lex_ops COMPONENTS) (lex_ops COMPONENTS).zero (worth_price (lex_ops COMPONENTS) worths n)) → (n : ℕ) → ¬ order aim (rows n) none
  above rows worths r a n =
      let x : Places COMPONENTS = worth_price (lex_ops COMPONENTS) worths n in
      no_later (lex_ops COMPONENTS).zero x none (rows n) none_read (read_back aim (rows n) (row COMPONENTS x) (r n)) (a n)

  module _ (i : Shape) (v : Seen (Places COMPONENTS)) (sound : IsSound i) (is : IsOf aim i v) where
    module _ (students projects supervisors : List (Places COMPONENTS)) (prices : ArePrices (lex_ops COMPONENTS) v students projects supervisors)
        (u y z : ℕ → ℕ → ℤ) (us : Read aim u students) (ys : Read aim y projects) (zs : Read aim z supervisors) where
      -- a listed pair pays its weight at least
      covered : (s q : ℕ) → Contains (list_of i s) q → ¬ order aim (plus (u s) (plus (y q) (z (supervisor_of i q)))) (λ t. pos (weight (rank_in (list_of i s) q) t))
      covered s q c =
          let o = lex_ops COMPONENTS in
          let xs : List ℕ = list_of i s in
          let k : ℕ = c.0 in
          let r : ℕ = suc k in
          let within : k < length xs = c.1 in
          let place : IsPlaceOf xs r = record { first = omega arith; last = omega arith } in
          let here : choice_at xs r ≡ q = ap (slice_index xs) (omega arith) ∙ get_or_default xs k 0 q c.1 ∙ c.2 in
          let list_is : slice_get v.lists s ≡ Some (weighed aim xs) = ap (λ ls. slice_get ls s) is.lists ∙ row_of aim i.students s (listed_student i s q c) in
          let inside : k < length (weighed aim xs) = subst (λ (n : ℕ). k < n) (sym (length-weighed_from aim 1 xs)) c.1 in
          let d : ℕ × Places COMPONENTS = (q, worth_of aim r) in
          let entry_is : slice_get (weighed aim xs) k ≡ Some d =
          slice_get-get_or (weighed aim xs) k d inside ∙ ap Some (entry-weighed_from aim 1 k xs d c.1 ∙ ap (λ (y : ℕ). (y, worth_of aim (1 + k))) c.2 ∙ ap (λ (m : ℕ). (q, worth_of aim m)) (omega arith)) in
          let l : ℕ = supervisor_of i q in
          let whose : supervisor_of (shape_of v) q ≡ l = ap (λ j. supervisor_of j q) (shape_is aim i v is) in
          let a : Places COMPONENTS = worth_price o students s in
          let b : Places COMPONENTS = worth_price o projects q in
          let c : Places COMPONENTS = worth_price o supervisors l in
          let pay : AtMost o (worth_of aim r) (o.plus a (o.plus b c)) =
          subst (λ (m : ℕ). AtMost o (worth_of aim r) (o.plus a (o.plus b (worth_price o supervisors m)))) whose (prices.covered s k q (worth_of aim r) (weighed aim xs) list_is entry_is) in
          let w : ℕ → ℤ = λ t. pos (weight (rank_in xs q) t) in
          let weighs : (t : ℕ) → t < COMPONENTS → as_read aim w t ≡ row COMPONENTS (worth_of aim r) t =
          λ t h. ap (λ (r : ℕ). as_read aim (λ t. pos (weight r t)) t) (sym (sym (rank_of_place i sound s r place) ∙ ap (rank_in xs) here)) ∙ sym (row-places_of COMPONENTS (as_read aim (λ t. pos (weight r t))) t h) in
          let ra = read_back aim (u s) (row COMPONENTS a) (us s) in
          let rb = read_back aim (y q) (row COMPONENTS b) (ys q) in
          let rc = read_back aim (z l) (row COMPONENTS c) (zs l) in
          let pays : (t : ℕ) → t < COMPONENTS → as_read aim (plus (u s) (plus (y q) (z l))) t ≡ row COMPONENTS (o.plus a (o.plus b c)) t =
          λ t h. let e = law.plus a (o.plus b c) t in let f = law.plus b c t in
          let g = read_sum aim (u s) (plus (y q) (z l)) t in let k = read_sum aim (y q) (z l) t in
          let x = ra t h in let m = rb t h in let n = rc t h in
          g ∙ ap (λ (x : ℤ). as_read aim (u s) t +ℤ x) k ∙ ap (λ (v : ℤ). v +ℤ (as_read aim (y q) t +ℤ as_read aim (z l) t)) x ∙ ap (λ (v : ℤ). row COMPONENTS a t +ℤ (v +ℤ as_read aim (z l) t)) m ∙ ap (λ (v : ℤ). row COMPONENTS a t +ℤ (row COMPONENTS b t +ℤ v)) n
          ∙ ap (λ (v : ℤ). row COMPONENTS a t +ℤ v) (sym f) ∙ sym e in
          no_later (worth_of aim r) (o.plus a (o.plus b c)) w (plus (u s) (plus (y q) (z l))) weighs pays pay

      -- the prices add up to what the places weigh
      equal : IsMatched i v.places → (t : ℕ) → t < COMPONENTS → value i u y z t ≡ weight_row i (pairs i v.places) t
      equal matched t h =
          let o = lex_ops COMPONENTS in
          let a : ℕ → Places COMPONENTS = worth_price o students in
          let b : ℕ → Places COMPONENTS = worth_price o projects in
          let c : ℕ → Places COMPONENTS = worth_price o supervisors in
          let sums : price_total o i a b c ≡ total_worth o (map (weighed aim) i.students) v.places =
          ap (λ j. price_total o j a b c) (sym (shape_is aim i v is)) ∙ prices.equal ∙ ap (λ ls. total_worth o ls v.places) is.lists in
          let paid_is : value i u y z t ≡ as_read aim (row COMPONENTS (price_total o i a b c)) t = value_read law aim i u y z a b c us ys zs t h in
          let weighs : (s : ℕ) → s < COMPONENTS → row COMPONENTS (price_total o i a b c) s ≡ as_read aim (weight_row i (pairs i v.places)) s =
          λ s l. ap (λ (x : Places COMPONENTS). row COMPONENTS x s) sums ∙ weight_is law aim i v.places matched.places.in_list (rank_of_place i sound) s l in
          paid_is ∙ read_back aim (row COMPONENTS (price_total o i a b c)) (weight_row i (pairs i v.places)) weighs t h

      -- so they prove them best
      pub prove_best : IsMatched i v.places → ProveBest (order aim) i (pairs i v.places) u y z
      prove_best matched = record {
        matching = matched.matching;
        students_not_below = λ s _. above u students us prices.students_not_below s;
        projects_not_below = λ p _. above y projects ys prices.projects_not_below p;
        supervisors_not_below = λ l _. above z supervisors zs prices.supervisors_not_below l;
        covered = covered;
        equal = equal matched;
      }

    -- the places are a matching of the instance
    pub matched_is : IsPriced (lex_ops COMPONENTS) v → IsMatched i v.places
    matched_is priced = subst (λ j. IsMatched j v.places) (shape_is aim i v is) priced.matched

    -- and a best one
    pub places_best : IsPriced (lex_ops COMPONENTS) v → IsBest aim i (pairs i v.places)
    places_best priced =
        let rows : List (Places COMPONENTS) → ℕ → ℕ → ℤ = λ worths n. as_read aim (row COMPONENTS (worth_price (lex_ops COMPONENTS) worths n)) in
        let u : ℕ → ℕ → ℤ = rows priced.students in
        let y : ℕ → ℕ → ℤ = rows priced.projects in
        let z : ℕ → ℕ → ℤ = rows priced.supervisors in
        let proved : ProveBest (order aim) i (pairs i v.places) u y z =
        prove_best priced.students priced.projects priced.supervisors priced.prices u y z (λ _ _ _. refl) (λ _ _ _. refl) (λ _ _ _. refl) (matched_is priced) in
        best_from_unbeaten aim i (pairs i v.places) (best_from_prices (aim_sums aim) i (pairs i v.places) u y z proved)

-- so the places of a session's network are a best matching of those admitted
pub kept_best : (aim : Aim) (v : Seen (Places COMPONENTS)) (students : ℕ) → IsNetworkKept aim v students → IsBest aim (shape_of v) (pairs (shape_of v) v.places)
kept_best aim v students kept = places_best aim lexicographic (shape_of v) v kept.sound kept.weighed kept.weighed.priced
