-- A round is taken out of the rounds and put in again with one more choice: the row of the choice is taken in.
use Rattle.office.proofs.from_rows.Common.{eq-eqb, Round, Listed, Key, find, put, take_out, rises, same_key, State, round_key, round_of, find-put, find-take_out, found_key, rises-put, rises-filter, where_so, choices_among, with_choice, with_next, ◌≡◌, ℕ, ◌+◌, Bool, true, false, cond, List, [], length, Option, Some, None, refl, sym, ap, ◌∙◌}
use Rattle.office_model.proofs.Same.{same_found}

over_none : {A : Type 0} (b : Bool) (x y : Option A) → cond b x (cond b None y) ≡ cond b x y
over_none true x y = refl
over_none false x y = refl

-- an entry that is put where one was taken out is put over it
put_again : {E : Type 0} (key : E → Key) (e : E) (q : Key) (es : List E) → q ≡ key e → rises key es ≡ true → put key e (take_out key q es) ≡ put key e es
put_again key e q es same r =
    same_found key _ _ (rises-put key e (take_out key q es) (rises-filter key _ es r)) (rises-put key e es r) (λ k.
    find-put key k e (take_out key q es)
    ∙ ap (cond (same_key k (key e)) (Some e)) (find-take_out key k q es ∙ ap (λ (q : Key). cond (same_key k q) None (find key k es)) same)
    ∙ over_none (same_key k (key e)) (Some e) (find key k es) ∙ sym (find-put key k e es))

pub chosen_taken : (o : State) (n : ℕ) (s : List ℕ) (p : ℕ) (c : List ℕ) (held : Round) (lists : List Listed) (rounds : List Round)
    → find round_key (n, []) o.rounds ≡ Some held → lists ≡ with_choice s c held.lists → length (choices_among s held.lists) + 1 ≡ p
    → rounds ≡ put round_key (record held { lists = lists }) (take_out round_key (n, []) o.rounds) → rises round_key o.rounds ≡ true
    → with_next o s p c (round_of o n) ≡ Some (record o { rounds = rounds })
chosen_taken o n s p c held lists rounds found added place back rise =
    ap (with_next o s p c) found
    ∙ ap (λ b. where_so b (record o { rounds = put round_key (record held { lists = with_choice s c held.lists }) o.rounds })) (eq-eqb (length (choices_among s held.lists) + 1) p place)
    ∙ ap (λ rounds. Some (record o { rounds = rounds })) (sym (back ∙ ap (λ l. put round_key (record held { lists = l }) (take_out round_key (n, []) o.rounds)) added
    ∙ put_again round_key (record held { lists = with_choice s c held.lists }) (n, []) o.rounds (found_key round_key (n, []) o.rounds held found) rise))
