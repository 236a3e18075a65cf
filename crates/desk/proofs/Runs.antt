-- A run, request after request, and what a crash leaves of it.
use Rattle.std.proofs.Common.{◌≡◌, Option, List, [], ◌∷◌, ◌++◌, Result, IsTrue, inl, refl, sym, ap, subst, ◌∙◌, arith, append-nil}
use Rattle.std.proofs.lemmas.List.{append_assoc}
use Rattle.desk.proofs.Common.{Seen, HasCleanDisk, Survives, Trees, survives_then, MayRecoverTo, Reply, Refusal, Request, State, Run, Step, layers, SessionState, Begins, CarriesOut, StandsForOne, AnswersAtOnce, GoesOn, RunsOn}

-- all requests but the rest are answered by a run
pub record HasRun (office : State) (all rest : List Request) (answers : List (Result Reply Refusal)) (now : State) : Type 0 where
  pub done : List Request
  pub split : all ≡ done ++ rest
  pub run : Run layers office done answers now

-- a run and one step more
run_more : (o : State) (first : List Request) (given : List (Result Reply Refusal)) (m n : State) (q : Request) (a : Result Reply Refusal) → Run layers o first given m → Step layers m q a n → Run layers o (first ++ q ∷ []) (given ++ a ∷ []) n
run_more o [] [] m n q a run step = (n, subst (λ (x : State). Step layers x q a n) run step, refl)
run_more o [] (b ∷ given) m n q a run step = absurd run
run_more o (p ∷ first) [] m n q a run step = absurd run
run_more o (p ∷ first) (b ∷ given) m n q a run step = (run.0, run.1, run_more run.0 first given m n q a run.2 step)

-- all are answered
pub run_all : (o n : State) (all rest : List Request) (answers : List (Result Reply Refusal)) → rest ≡ [] → HasRun o all rest answers n → Run layers o all answers n
run_all o n all rest answers none h =
    subst (λ (qs : List Request). Run layers o qs answers n) (sym (h.split ∙ ap (λ qs. h.done ++ qs) none ∙ append-nil h.done)) h.run

module _ (o m n : State) (all left rest : List Request) (q : Request) (a : Result Reply Refusal) (given answers : List (Result Reply Refusal)) (next : left ≡ q ∷ rest) (added : answers ≡ given ++ a ∷ []) where
  -- one more is answered
  pub one_more : HasRun o all left given m → Step layers m q a n → HasRun o all rest answers n
  one_more h step = record {
    done = h.done ++ q ∷ [];
    split = h.split ∙ ap (λ qs. h.done ++ qs) next ∙ sym (append_assoc h.done (q ∷ []) rest);
    run = subst (λ (xs : List (Result Reply Refusal)). Run layers o (h.done ++ q ∷ []) xs n) (sym added) (run_more o h.done given m n q a h.run step);
  }

  -- what some beginning made it still makes
  still_begins : (x : State) → Begins o all given x → Begins o all answers x
  still_begins x b = record {
    first = b.first;
    request = b.request;
    rest = b.rest;
    split = b.split;
    given = b.given;
    later = b.later ++ a ∷ [];
    answered = added ∙ ap (λ xs. xs ++ a ∷ []) b.answered ∙ append_assoc b.given b.later (a ∷ []);
    between = b.between;
    run = b.run;
    one_more = b.one_more;
  }

  -- and so does the request that is asked now
  now_begins : HasRun o all left given m → (x : State) → CarriesOut m q x → Begins o all answers x
  now_begins h x carried = record {
    first = h.done;
    request = q;
    rest = rest;
    split = h.split ∙ ap (λ qs. h.done ++ qs) next;
    given = given;
    later = a ∷ [];
    answered = added;
    between = m;
    run = h.run;
    one_more = carried;
  }

  -- what a crash leaves
  pub crash_more : HasRun o all left given m → (first mid last : Seen) → (HasCleanDisk mid → IsTrue mid.is_open → IsTrue first.is_open) → Survives first mid (MayRecoverTo (λ _. StandsForOne (Begins o all given)) first)
      → Survives mid last (MayRecoverTo (λ _. StandsForOne (CarriesOut m q)) mid) → Survives first last (MayRecoverTo (λ _. StandsForOne (Begins o all answers)) first)
  crash_more h first mid last shut one two = survives_then first mid last _ _ _ (λ clean trees it. record {
    was_open = it.was_open;
    db = it.db;
    sound = it.sound;
    step = record { office = it.step.office; one = still_begins it.step.office it.step.one; fit = it.step.fit; stands = it.step.stands };
    same = it.same;
  }) (λ clean trees it.
      let early : HasCleanDisk mid = omega (arith, two.clean) in
      record {
        was_open = shut early it.was_open;
        db = it.db;
        sound = it.sound;
        step = record { office = it.step.office; one = now_begins h it.step.office it.step.one; fit = it.step.fit; stands = it.step.stands };
        same = it.same;
      }) one two

-- ---- the session

-- all requests but the rest are answered by a run over which the session goes on
pub record HasRunOn (office : State) (session : Option SessionState) (all rest : List Request) (answers : List (Result Reply Refusal)) (now : State) (kept : Option SessionState) : Type 0 where
  pub done : List Request
  pub split : all ≡ done ++ rest
  pub run : RunsOn office session done answers now kept

-- a run and one step more
runs_on_more : (o : State) (s : Option SessionState) (first : List Request) (given : List (Result Reply Refusal)) (m : State) (u : Option SessionState) (n : State) (t : Option SessionState) (q : Request) (a : Result Reply Refusal)
    → RunsOn o s first given m u → Step layers m q a n → GoesOn m q a u t → AnswersAtOnce m u q a → RunsOn o s (first ++ q ∷ []) (given ++ a ∷ []) n t
runs_on_more o s [] [] m u n t q a run step goes at_once = (
  n,
  t,
  subst (λ (x : State). Step layers x q a n) run.0 step,
  subst (λ (x : State). GoesOn x q a s t) run.0 (subst (λ (x : Option SessionState). GoesOn m q a x t) run.1 goes),
  subst (λ (x : State). AnswersAtOnce x s q a) run.0 (subst (λ (x : Option SessionState). AnswersAtOnce m x q a) run.1 at_once),
  (refl, refl),
)
runs_on_more o s [] (b ∷ given) m u n t q a run step goes at_once = absurd run
runs_on_more o s (p ∷ first) [] m u n t q a run step goes at_once = absurd run
runs_on_more o s (p ∷ first) (b ∷ given) m u n t q a run step goes at_once = (run.0, run.1, run.2, run.3, run.4, runs_on_more run.0 run.1 first given m u n t q a run.5 step goes at_once)

-- one more is answered
pub one_more_on : (o : State) (s : Option SessionState) (m : State) (u : Option SessionState) (n : State) (t : Option SessionState) (all left rest : List Request) (q : Request) (a : Result Reply Refusal) (given answers : List (Result Reply Refusal))
    → left ≡ q ∷ rest → answers ≡ given ++ a ∷ [] → HasRunOn o s all left given m u → Step layers m q a n → GoesOn m q a u t → AnswersAtOnce m u q a → HasRunOn o s all rest answers n t
one_more_on o s m u n t all left rest q a given answers next added h step goes at_once = record {
  done = h.done ++ q ∷ [];
  split = h.split ∙ ap (λ qs. h.done ++ qs) next ∙ sym (append_assoc h.done (q ∷ []) rest);
  run = subst (λ (xs : List (Result Reply Refusal)). RunsOn o s (h.done ++ q ∷ []) xs n t) (sym added) (runs_on_more o s h.done given m u n t q a h.run step goes at_once);
}

-- all are answered
pub run_on_all : (o : State) (s : Option SessionState) (n : State) (t : Option SessionState) (all rest : List Request) (answers : List (Result Reply Refusal)) → rest ≡ [] → HasRunOn o s all rest answers n t → RunsOn o s all answers n t
run_on_all o s n t all rest answers none h =
    subst (λ (qs : List Request). RunsOn o s qs answers n t) (sym (h.split ∙ ap (λ qs. h.done ++ qs) none ∙ append-nil h.done)) h.run

-- ---- crashes

-- nothing was left yet
pub crash_none : (s : Seen) (P : Trees → Type 0) → Survives s s P
crash_none s P = record { clean = omega arith; shield = λ h. h; counts = omega arith; limit = refl; closes = λ clean up. inl up; crash = λ clean trees h. inl h }

-- a connection that is open was open
pub still_shut : (first mid last : Seen) (P : Trees → Type 0) → Survives mid last P → (HasCleanDisk mid → IsTrue mid.is_open → IsTrue first.is_open) → (HasCleanDisk last → IsTrue last.is_open → IsTrue mid.is_open)
    → HasCleanDisk last → IsTrue last.is_open → IsTrue first.is_open
still_shut first mid last P two early late clean up = early (let was = two.clean in omega (arith, was, clean)) (late clean up)
