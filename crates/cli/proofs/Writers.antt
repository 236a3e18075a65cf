-- What is printed is printed of more, and what one of the two writers took is printed.
use Rattle.std.proofs.Common.{◌≡◌, ◌≢◌, ◌⊎◌, inl, inr, ℕ, ◌+◌, ◌<◌, List, [], ◌++◌, length, take, Option, Result, Ok, Err, IfOk, IfErr, MatchResult, OnErr, Vec, String, refl, ap, ◌∙◌, sym, subst, arith}
use Rattle.cli.proofs.Common.{⊤, Appends, Global, Refusal, Found, IsReadOf, Peer, AllServed, SomeServed, Visit, lines_after, MessageText, Trouble, IsUnreadOf, Both, HasPrinted, Output, both_failures, OfDatabase, OnFile, Outcome, Prints, behind, of_round, refused, refusal_line, named_line, new_database, listening, IsUnreadFile, IsServed, Status, Success, Failure}
use Rattle.std.proofs.Math.Seq.{take-add}
use Rattle.std.proofs.lemmas.List.{drop_at, length-append, take-append-le, take_at}
use Rattle.http_stream.proofs.Known.{appends_compose, appends_none}
use Rattle.office_model.specs.declared.refusal.Refusal.TheVariants as no
use Rattle.office_model.specs.RefusalInfo.{number_of, name_of}
use Rattle.intake.specs.declared.TheConstants.{MAX_BYTES}
use Rattle.round_files.specs.declared.rounds.Trouble.TheVariants.{Refused}
use Rattle.web.specs.Connections.{in_a_row}
use Rattle.web.specs.declared.TheConstants.{MAX_UNACCEPTED}
use Rattle.cli.specs.Databases.{IsNamedFirst}
use Rattle.cli.specs.Inside.Outcomes.{Serves}
use Rattle.cli.specs.Outputs.{HasCut, IsCut}

-- what the two writers took, and how many of their calls failed
pub record Took : Type 0 where
  pub out : Option (List ℕ)
  pub err : Option (List ℕ)
  pub failures : ℕ

-- `Prints` says nothing else of the two outputs
abbrev pub PrintsOf : (Outcome → Type 0) → Took → Took → Status → Type 0
PrintsOf Is old new status =
    ((o : Outcome) × Is o × (new.failures ≡ old.failures) × Appends old.out new.out o.out × Appends old.err new.err o.err × (status ≡ o.status))
    ⊎ ((new.failures ≡ old.failures + 1) × (status ≡ Failure) × (((more : List ℕ) × Appends old.out new.out more) × ((more : List ℕ) × Appends old.err new.err more)))

-- what is printed may come of more
pub prints_more : (A B : Outcome → Type 0) → ((o : Outcome) → A o → B o) → (old new : Took) (status : Status) → PrintsOf A old new status → PrintsOf B old new status
prints_more A B more old new status (inl t) = inl (t.0, more t.0 t.1, t.2, t.3, t.4, t.5)
prints_more A B more old new status (inr failed) = inr failed

-- what holds of the value that came
pub at_ok : {A E : Type 0} (P : A → Type 0) (Q : E → Type 0) (came : Result A E) (a : A) → came ≡ Ok a → P a → MatchResult came P Q
at_ok {A} {E} P Q came a is p = subst (λ (r : Result A E). MatchResult r P Q) (sym is) p

-- what comes of the value that came is printed
pub ok_printed : {A E : Type 0} (Of : A → Outcome → Type 0) (At : E → Outcome → Type 0) (came : Result A E) (a : A) → came ≡ Ok a → (old new : Took) (status : Status)
    → PrintsOf (λ o. Of a o) old new status → PrintsOf (λ o. MatchResult came (λ a. Of a o) (λ e. At e o)) old new status
ok_printed Of At came a is old new status printed =
    prints_more (λ o. Of a o) (λ o. MatchResult came (λ a. Of a o) (λ e. At e o)) (λ o of. at_ok (λ a. Of a o) (λ e. At e o) came a is of) old new status printed

-- what comes of a database that is new is printed after its name
pub printed_new : {O E : Type 0} (name : List ℕ) (IsNew : Type 0) (Is : Outcome → Type 0) → IsNew → (old mid new : Both O E) (status : Status) → HasPrinted (new_database name) old mid → Prints Is mid new status
    → Prints (OfDatabase name IsNew Is) old new status
printed_new {O} {E} name IsNew Is is_new old mid new status has (inl t) =
    let counted : both_failures mid ≡ both_failures old = ap (λ (out : Output O). out.failures + mid.err.failures) has.out ∙ ap (λ n. old.out.failures + n) has.failures in
    inl (behind (new_database name) t.0, inl (is_new, t.0, t.1, refl), t.2 ∙ counted, subst (λ (out : Output O). Appends out.written new.out.written t.0.out) has.out t.3, appends_compose old.err.written mid.err.written new.err.written _ _ has.written t.4, t.5)
printed_new {O} {E} name IsNew Is is_new old mid new status has (inr (failed, ends, grows)) =
    let counted : both_failures mid ≡ both_failures old = ap (λ (out : Output O). out.failures + mid.err.failures) has.out ∙ ap (λ n. old.out.failures + n) has.failures in
    inr (
      failed ∙ ap (λ n. n + 1) counted,
      ends,
      (
        subst (λ (out : Output O). (more : List ℕ) × Appends out.written new.out.written more) has.out grows.0,
        (new_database name ++ grows.1.0, appends_compose old.err.written mid.err.written new.err.written _ _ has.written grows.1.1),
      ),
    )

-- the line of a database that is new stands before what is printed after it
pub named_first : {O E : Type 0} (name : List ℕ) (Is : Outcome → Type 0) (IsNothing : Type 0) (old mid new : Both O E) (status : Status) → HasPrinted (new_database name) old mid → Prints Is mid new status
    → IsNamedFirst name IsNothing old new
named_first name Is IsNothing old mid new status has (inl t) = inl (t.0.err, appends_compose old.err.written mid.err.written new.err.written _ _ has.written t.4)
named_first name Is IsNothing old mid new status has (inr (failed, ends, grows)) = inl (grows.1.0, appends_compose old.err.written mid.err.written new.err.written _ _ has.written grows.1.1)

-- where a line is cut the status is 1
pub cut_printed : {O E : Type 0} (text : List ℕ) (Is : Outcome → Type 0) (old new : Both O E) → HasCut text old new → Prints Is old new Failure
cut_printed {O} {E} text Is old new has =
    let out = ap (λ (o : Output O). o.failures) has.out in
    let err = has.failures in
    let failed : both_failures new ≡ both_failures old + 1 = omega (arith, out, err) in
    inr (failed, refl, (subst (λ (o : Output O). (more : List ℕ) × Appends old.out.written o.written more) (sym has.out) ([], appends_none old.out.written), (_, has.cut.2)))

-- what follows from two facts of an error
pub both_err : {A E P Q R : Type 0} (r : Result A E) → OnErr r P → OnErr r Q → (P → Q → R) → OnErr r R
both_err (Ok a) p q both = tt
both_err (Err e) p q both = both p q

-- what is cut in a part is cut in the whole
pub cut_first : (w0 w : Option (List ℕ)) (x y : List ℕ) → IsCut x w0 w → IsCut (x ++ y) w0 w
cut_first w0 w x y (n, few, wrote) =
    let longer = length-append x y in
    (n, omega (arith, longer, few), subst (λ (t : List ℕ). Appends w0 w t) (sym (take-append-le n x y (omega (arith, few)))) wrote)

pub cut_later : (w0 w1 w : Option (List ℕ)) (x y : List ℕ) → Appends w0 w1 x → IsCut y w1 w → IsCut (x ++ y) w0 w
cut_later w0 w1 w x y first (n, few, wrote) =
    let longer = length-append x y in
    let seam : take (length x + n) (x ++ y) ≡ x ++ take n y = take-add (length x) n (x ++ y) ∙ (λ i. take_at x y (length x) refl i ++ take n (drop_at x y (length x) refl i)) in
    (length x + n, omega (arith, longer, few), subst (λ (t : List ℕ). Appends w0 w t) (sym seam) (appends_compose w0 w1 w x (take n y) first wrote))

-- where a refusal is printed the status is 1
pub refused_ends : (r : Refusal) (old new : Took) (status : Status) → PrintsOf (λ o. o ≡ refused r) old new status → status ≡ Failure
refused_ends r old new status (inl t) = t.5 ∙ ap (λ (o : Outcome). o.status) t.1
refused_ends r old new status (inr failed) = failed.1

-- why no more were served, and with which status
ends : (number count row : ℕ) (status : Status) (came : List Visit) → length came ≡ number → in_a_row 0 came ≡ row → (number ≡ count) ⊎ ((number < count) × (row ≡ MAX_UNACCEPTED))
    → ((number ≡ count) × (status ≡ Success)) ⊎ ((number ≢ count) × (status ≡ Failure))
    → ((length came ≡ count) × (status ≡ Success)) ⊎ ((length came < count) × (in_a_row 0 came ≡ MAX_UNACCEPTED) × (status ≡ Failure))
ends number count row status came counted ended which (inl (all, success)) = inl (counted ∙ all, success)
ends number count row status came counted ended (inl all) (inr (few, failure)) = absurd (few all)
ends number count row status came counted ended (inr (fewer, many)) (inr (few, failure)) = inr (subst (λ n. n < count) (sym counted) fewer, ended ∙ many, failure)

module _ {D : Type 0} (step : D → MessageText → List ℕ → D → Type 0) (peers : ℕ → Peer) where
  -- the connections were served, and their lines printed after the port's
  pub all_served : (before after : D) (port count number : ℕ) (w0 w1 w : Option (List ℕ)) (f0 f1 f : ℕ) (status : Status) → Appends w0 w1 (listening port) → f1 ≡ f0 → AllServed step peers before count number w1 w after → f ≡ f1
      → ((number ≡ count) × (status ≡ Success)) ⊎ ((number ≢ count) × (status ≡ Failure)) → Serves step peers port count before after w0 w f0 f status
  all_served before after port count number w0 w1 w f0 f1 f status printed same served still ended =
      let are = served.are in
      inl (
        record { out = listening port ++ lines_after 0 are.came; err = []; status = status },
        record {
          came = are.came;
          awaited = are.awaited;
          served = are.served;
          ends = ends number count served.row status are.came are.counted are.ended served.ends ended;
          out = refl;
          silent = refl;
        },
        still ∙ same,
        appends_compose w0 w1 w _ _ printed are.wrote,
        refl,
      )

  -- where a line of them could not be written, what was written before stays
  pub some_grows : (before after : D) (port count : ℕ) (w0 w1 w : Option (List ℕ)) → Appends w0 w1 (listening port) → SomeServed step peers before count w1 w after → (more : List ℕ) × Appends w0 w more
  some_grows before after port count w0 w1 w printed some = (_, appends_compose w0 w1 w _ _ printed some.wrote)

  -- what was served is printed on standard output alone
  pub served_printed : (before after : D) (port count : ℕ) (w0 w v : Option (List ℕ)) (f0 f g : ℕ) (ends : Status) → Serves step peers port count before after w0 w f0 f ends
      → PrintsOf (IsServed step peers port count before after) (record { out = w0; err = v; failures = f0 + g }) (record { out = w; err = v; failures = f + g }) ends
  served_printed before after port count w0 w v f0 f g ends (inl s) =
      inl (s.0, s.1, ap (λ n. n + g) s.2, s.3, subst (λ (err : List ℕ). Appends v v err) (sym s.1.silent) (appends_none v), s.4)
  served_printed before after port count w0 w v f0 f g ends (inr (more, failed, grows)) = let more : f ≡ f0 + 1 = more in inr (omega (arith, more), failed, (grows, ([], appends_none v)))

-- a file that could not be read is one of which nothing is known
pub of_any_file : (holds : Found → Type 0) (o : Outcome) → IsUnreadFile holds o → IsUnreadFile (λ _. ⊤) o
of_any_file holds o un = (un.0, (un.1.0, tt, un.1.2, un.1.3), un.2)

-- what came of a round file is an outcome of its line
pub of_file : (holds : Found → Type 0) (Is : List ℕ → Result (String Global) Trouble → Type 0) (read : Result (Vec ℕ Global) Refusal) (came : Result (String Global) Trouble) (o : Outcome)
    → IfOk read (λ bytes. IsReadOf holds MAX_BYTES bytes.items) → IfErr read (IsUnreadOf holds) → MatchResult read (λ bytes. Is bytes.items came) (λ r. came ≡ Err (Refused r)) → o ≡ of_round came → OnFile holds Is o
of_file holds Is (Ok bytes) came o ok why is printed = inr (bytes.items, ok, came, is, printed)
of_file holds Is (Err r) came o ok why is printed = inl (r, why, printed ∙ ap of_round is)

-- it is one of a file of which nothing is known
pub of_any : (holds : Found → Type 0) (Is : List ℕ → Result (String Global) Trouble → Type 0) (o : Outcome) → OnFile holds Is o → OnFile (λ _. ⊤) Is o
of_any holds Is o (inl not) = inl (of_any_file holds o not)
of_any holds Is o (inr read) = inr (read.0, (read.1.0, tt, read.1.2), read.2, read.3, read.4)

-- a refusal that is not of a record is printed by its number and name
pub named_alone : (r : Refusal) → ((n inner : ℕ) → r ≡ no.Row n inner → ⊥) → refusal_line r ≡ named_line (number_of r) (name_of r)
named_alone (no.Row n inner) other = absurd (other n inner refl)
named_alone _ other = refl
