-- The list of a student by positions: each project stands at its position in the roll, and none stands twice.
use Rattle.std.proofs.Common.{◌≡◌, ◌≢◌, ℕ, ◌-◌, ◌<◌, true, List, [], ◌∷◌, length, map, get_or, slice_get, Option, Some, Result, Ok, Err, IfOk, All, AllPairs, Contains, refl, sym, ap, subst, ◌∙◌, arith}
use Rattle.desk.proofs.layers.Common.{option_map_or, get_or-map, length-map, All-from_recursion, code_at, project_codes, IsRanking, Project, Listed, State, project_key, list_key, last_round, lists_of, list_of, choices_in, has_project, placed_in_project, round_instance, IsFit, ListFits, all_weaker, holds_of_found, contains_found, apart_since_distinct}
use Rattle.std.proofs.lemmas.Option.{slice_get-get_or}
use Rattle.std.specs.declared.vec.Vec.{Vec}
use Rattle.std.specs.declared.alloc.Global.{Global}
use Rattle.spa.specs.Instance as spa

-- the projects that are left have the codes of the roll
codes_left : (made : Project → spa.Project) → ((p : Project) → (made p).code ≡ p.code) → (ps : List Project) → map (λ e. e.code) (map made ps) ≡ map (λ p. p.code) ps
codes_left made same [] = refl
codes_left made same (p ∷ ps) = λ i. same p i ∷ codes_left made same ps i

pub roll_codes : (o : State) → project_codes (round_instance o) ≡ map (λ p. p.code) o.projects
roll_codes o = codes_left (λ p. record { code = p.code; supervisor = p.supervisor; quota = p.quota - placed_in_project o p.code }) (λ p. refl) o.projects

-- what stands at a place of a list that is made
made_at : (f : ℕ → List ℕ) (ps : List ℕ) (cs : List (List ℕ)) (k d : ℕ) → map f ps ≡ cs → k < length ps → slice_get cs k ≡ Some (f (get_or ps k d))
made_at f ps cs k d e h =
    let many = length-map ps f in
    ap (λ (xs : List (List ℕ)). slice_get xs k) (sym e) ∙ slice_get-get_or (map f ps) k [] (omega (arith, many, h)) ∙ ap (λ (c : List ℕ). Some c) (get_or-map f ps k d [] h)

-- where no code stands twice, no position does
positions_apart : (f : ℕ → List ℕ) (ps : List ℕ) (cs : List (List ℕ)) → map f ps ≡ cs → ((p q : ℕ) → p < q → q < length cs → slice_get cs p ≡ slice_get cs q → ⊥) → AllPairs (λ p q. p ≢ q) ps
positions_apart f ps cs e apart i j d l h same =
    let many = length-map ps f in
    let long = ap (λ (xs : List (List ℕ)). length xs) e in
    apart i j l (omega (arith, many, long, h)) (made_at f ps cs i d e (omega (arith, l, h)) ∙ ap (λ (p : ℕ). Some (f p)) same ∙ sym (made_at f ps cs j d e h))

module _ (o : State) (fit : IsFit o) (student : List ℕ) (l : Listed) (found : list_of o (last_round o) student ≡ Some l) where
  listed_fits : ListFits o (last_round o) l
  listed_fits = holds_of_found list_key (ListFits o (last_round o)) (0, student) (lists_of o (last_round o)) l (fit.lists_fit (last_round o)) found

  -- each project that a student lists is on the roll
  pub listed_known : All (Contains (map (λ (p : Project). p.code) o.projects)) l.choices
  listed_known =
      subst (λ (codes : List (List ℕ)). All (Contains codes) l.choices) (roll_codes o)
      (All-from_recursion (Contains (project_codes (round_instance o))) l.choices
      (all_weaker (λ c. has_project o c ≡ true) (Contains (project_codes (round_instance o)))
      (λ c h. contains_found project_key (λ p. record { code = p.code; supervisor = p.supervisor; quota = p.quota - placed_in_project o p.code }) (λ (e : spa.Project). e.code) (λ e. refl) c o.projects h)
      l.choices listed_fits.projects))

  -- the positions of the projects are the list by positions
  pub listed_ranking : (ps : List ℕ) → All (λ p. p < length o.projects) ps → map (code_at (map (λ (p : Project). p.code) o.projects)) ps ≡ l.choices
      → IsRanking (project_codes (round_instance o)) (choices_in o (last_round o) student) ps
  listed_ranking ps known named =
      let choices : l.choices ≡ choices_in o (last_round o) student = sym (ap (λ (x : Option Listed). option_map_or (λ (l : Listed). l.choices) x []) found) in
      let codes : map (λ (p : Project). p.code) o.projects ≡ project_codes (round_instance o) = sym (roll_codes o) in
      let many : length o.projects ≡ length (project_codes (round_instance o)) = sym (length-map o.projects (λ (p : Project). p.code)) ∙ ap (λ (xs : List (List ℕ)). length xs) codes in
      record {
        named = ap (λ (xs : List (List ℕ)). map (code_at xs) ps) (sym codes) ∙ named ∙ choices;
        known = subst (λ (n : ℕ). All (λ p. p < n) ps) many known;
        apart = positions_apart (code_at (map (λ (p : Project). p.code) o.projects)) ps l.choices named (apart_since_distinct l.choices listed_fits.choices.distinct);
      }

  pub ranked : {E : Type 0} (r : Result (Vec ℕ Global) E) → IfOk r (λ v. All (λ p. p < length o.projects) v.items) → IfOk r (λ v. map (code_at (map (λ (p : Project). p.code) o.projects)) v.items ≡ l.choices)
      → IfOk r (λ v. IsRanking (project_codes (round_instance o)) (choices_in o (last_round o) student) v.items)
  ranked (Ok v) known named = listed_ranking v.items known named
  ranked (Err e) known named = known
