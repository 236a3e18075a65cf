-- Things that are done one after another: one more, and all of them.
use Rattle.sql_tables.proofs.Common.{Database, HasStepped, HasCleanDisk, State, Stays, TableFault, ◌≡◌, ◌<◌, ◌+◌, inl, inr, ℕ, List, [], ◌∷◌, ◌++◌, ap, ◌∙◌, drop, get_or, length, take, take-append-drop, IfOk, IsErrAnd, Option, Result, Ok, Err, refl, sym, subst, append-nil, append_assoc, drop_more, IsPart}
use Rattle.sql_tables.specs.Outcomes.{Outcome, each_of, followed_by, of_known}
use Rattle.sql_tables.proofs.Runs.{part_err, part_then, stepped_as, stays_both, stays_keeps, stays_so, stays_stepped, stepped_stays}

module _ {X : Type 0} (outcome : X → Outcome) where
  pub did_more : (done : List X) (x : X) (a b c : Database) → (each_of outcome done).does a b → (outcome x).does b c → (each_of outcome (done ++ x ∷ [])).does a c
  did_more [] x a b c same one = (c, subst (λ (d : Database). (outcome x).does d c) same one, refl)
  did_more (y ∷ done) x a b c did one = (did.0, did.1, did_more done x did.0 b c did.2 one)

  -- one is hindered once those before it are done
  pub hindered_at : (done : List X) (x : X) (more : List X) (limit : Option ℕ) (a b : Database) → (each_of outcome done).does a b → (outcome x).hinders limit b → (each_of outcome (done ++ x ∷ more)).hinders limit a
  hindered_at [] x more limit a b same h = inl (subst ((outcome x).hinders limit) same h)
  hindered_at (y ∷ done) x more limit a b did h = inr (did.0, did.1, hindered_at done x more limit did.0 b did.2 h)

  -- what holds of none, and of one more where it holds of those before, holds of all
  module _ (P : List X → Database → Database → Type 0) (one : (done : List X) (x : X) (a b c : Database) → P done a b → (outcome x).does b c → P (done ++ x ∷ []) a c) where
    from : (done xs : List X) (a b c : Database) → P done a b → (each_of outcome xs).does b c → P (done ++ xs) a c
    from done [] a b c p same = subst (λ xs. P xs a c) (sym (append-nil done)) (subst (P done a) (sym same) p)
    from done (x ∷ xs) a b c p did = subst (λ all. P all a c) (append_assoc done (x ∷ []) xs) (from (done ++ x ∷ []) xs a did.0 c (one done x a b did.0 p did.1) did.2)

    pub did_all : (xs : List X) (a b : Database) → P [] a a → (each_of outcome xs).does a b → P xs a b
    did_all xs a b none did = from [] xs a a b none did

-- a list from one of it on, after those before
pub one_and_rest : {X : Type 0} (all : List X) (i : ℕ) (d : X) → i < length all → take i all ++ get_or all i d ∷ drop (i + 1) all ≡ all
one_and_rest all i d low = ap (λ rest. take i all ++ rest) (sym (drop_more all i d low)) ∙ take-append-drop i all

-- ---- calls

-- a run of statements, and one
abbrev Run : Outcome → Result (Unit {0}) TableFault → State → State → Type 0
Run outcome = IsPart {A = Unit {0}} (λ _. Stays outcome.does) outcome.hinders

abbrev One : Outcome → Result (Unit {0}) TableFault → State → State → Type 0
One outcome = IsPart {A = Unit {0}} (λ _. HasStepped outcome.does) outcome.hinders

abbrev done : Result (Unit {0}) TableFault
done = Ok tt

abbrev Any_step : Unit {0} → State → State → Type 0
Any_step u a b = Unit {0}

module _ (first other : Outcome) (a b c : State) (r : Result (Unit {0}) TableFault) where
  abbrev both : Outcome
  both = followed_by first other

  -- a run, and then another
  pub runs_runs : Run first done a b → Run other r b c → Run both r a c
  runs_runs = part_then {A = Unit {0}} {B = Unit {0}} (λ _. Stays first.does) (λ _. Stays other.does) (λ _. Stays both.does) first.hinders other.hinders both.hinders a b c tt r
      (stays_keeps first.does a b) (λ _ s t. stays_both first.does other.does both.does a b c (λ did then. (b.now, did, then)) s t) (λ s limit h. inr (b.now, s.step, h))

  -- or a statement
  pub runs_steps : Run first done a b → One other r b c → One both r a c
  runs_steps = part_then {A = Unit {0}} {B = Unit {0}} (λ _. Stays first.does) (λ _. HasStepped other.does) (λ _. HasStepped both.does) first.hinders other.hinders both.hinders a b c tt r
      (stays_keeps first.does a b) (λ _ s t. stays_stepped first.does other.does both.does a b c (λ did then. (b.now, did, then)) s t) (λ s limit h. inr (b.now, s.step, h))

  -- a statement, and then a run
  pub steps_runs : One first done a b → Run other r b c → One both r a c
  steps_runs = part_then {A = Unit {0}} {B = Unit {0}} (λ _. HasStepped first.does) (λ _. Stays other.does) (λ _. HasStepped both.does) first.hinders other.hinders both.hinders a b c tt r
      (λ s. stays_keeps first.does a b (stays_so first.does a b s)) (λ _ s t. stepped_stays first.does other.does both.does a b c (λ did then. (b.now, did, then)) s t) (λ s limit h. inr (b.now, s.step, h))

module _ {X : Type 0} (outcome : X → Outcome) (early : List X) (x : X) (a b c : State) where
  abbrev before : Outcome
  before = each_of outcome early

  -- one more of several
  pub runs_more : Run before done a b → One (outcome x) done b c → Run (each_of outcome (early ++ x ∷ [])) done a c
  runs_more = part_then {A = Unit {0}} {B = Unit {0}} (λ _. Stays before.does) (λ _. HasStepped (outcome x).does) (λ _. Stays (each_of outcome (early ++ x ∷ [])).does) before.hinders (outcome x).hinders
      (each_of outcome (early ++ x ∷ [])).hinders a b c tt done (stays_keeps before.does a b)
      (λ _ s t. stays_both before.does (outcome x).does (each_of outcome (early ++ x ∷ [])).does a b c (did_more outcome early x a.now b.now c.now) s (stays_so (outcome x).does b c t))
      (λ s limit h. hindered_at outcome early x [] limit a.now b.now s.step h)

  -- it fails, and none of the others is done
  pub runs_stopped : (more : List X) (e : TableFault) (r : Result (Unit {0}) TableFault) → IsErrAnd r (λ f. f ≡ e) → Run before done a b → One (outcome x) (Err e) b c → Run (each_of outcome (early ++ x ∷ more)) r a c
  runs_stopped more e r is p q = part_err {A = Unit {0}} {B = Unit {0}} Any_step (λ _. Stays (each_of outcome (early ++ x ∷ more)).does) (each_of outcome (early ++ x ∷ more)).hinders (each_of outcome (early ++ x ∷ more)).hinders e a c r is (λ limit db h. h)
      (part_then {A = Unit {0}} {B = Unit {0}} (λ _. Stays before.does) (λ _. HasStepped (outcome x).does) Any_step before.hinders (outcome x).hinders (each_of outcome (early ++ x ∷ more)).hinders a b c tt (Err e) (stays_keeps before.does a b)
      (λ _ s t. tt) (λ s limit h. hindered_at outcome early x more limit a.now b.now s.step h) p q)

-- a statement does what it does of what is known
pub known_so : (Known : Type 0) (outcome : Outcome) (r : Result (Unit {0}) TableFault) (a b : State) → Known → One outcome r a b → One (of_known Known outcome) r a b
known_so Known outcome r a b known p = record { survives = p.survives; did = did r p.did; kept = p.kept; starved = p.starved; cause = p.cause }
  where
    did : (r : Result (Unit {0}) TableFault) → (HasCleanDisk b → IfOk r (λ _. HasStepped outcome.does a b)) → HasCleanDisk b → IfOk r (λ _. HasStepped (of_known Known outcome).does a b)
    did (Ok u) it clean = stepped_as _ _ a b (λ does. (known, does)) (it clean)
    did (Err e) it clean = tt
