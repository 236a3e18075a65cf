-- The messages of a stream are requests asked one after another at a desk.
use Rattle.std.proofs.Common.{◌≡◌, ◌⊎◌, ◌+◌, ◌*◌, ◌≤◌, ◌^◌, arith, inl, inr, ℕ, List, [], ◌∷◌, length, suc, Option, Some, None, Result, Ok, Err, refl, sym, subst}
use Rattle.std.specs.List.{AllByRecursion}
use Rattle.std.specs.Prelude.{⊤}
use Rattle.sqlite.specs.Held.{state}
use Rattle.sqlite_trees.specs.declared.store.Store.{Ghosts}
use Rattle.office_model.specs.declared.refusal.Refusal.{Refusal}
use Rattle.office_model.specs.declared.request.Reply.{Reply}
use Rattle.office_model.specs.declared.request.Request.{Request}
use Rattle.office_model.specs.State.{State}
use Rattle.store.proofs.Available.{room_for}
use Rattle.desk.specs.DeskState.{DeskState}
use Rattle.desk.specs.Keeping.{CarriesOut}
use Rattle.desk.specs.Lasting.{AskLasts, IsReady}
use Rattle.desk.specs.Laws.{AnswersStay, AskReaches, IsAtRest, IsOpenedAfter, IsReached, OneMakes as OneOfMakes}
use Rattle.http_stream.specs.Messages.{Message}
use Rattle.http_stream.specs.Run.{RunsMessages, said}
use Rattle.http_api.specs.Requests.{IsReadAs}
use Rattle.http_stream.specs.Served.{IsServed}
use Rattle.http_stream.specs.declared.outcome.Served.{Served}
use Rattle.http_stream.specs.declared.outcome.StreamFault.{StreamFault}
use Rattle.host.specs.WorldState.{Peer}
use Rattle.web.specs.Connections.{Connect, Visit}
use Rattle.web.specs.Laws.{AnsweredStay, GetsAvailable, OneAsks, StreamLasts}
use Rattle.web.specs.Serving.{AnswersBy, AnswersFrom, AnswersRead, GetsAt, end_text}

-- what one of these pending requests makes, one of those makes of which each of them is
made_by : (Is : Request → Type 0) (pending : List Request) (office left : State) → AllByRecursion Is pending → OneOfMakes office pending left → (asked : Request) × Is asked × CarriesOut office asked left
made_by Is [] office left all makes = absurd makes
made_by Is (q ∷ pending) office left all (inl one) = (q, all.0, one)
made_by Is (q ∷ pending) office left all (inr more) = made_by Is pending office left all.1 more

module _ {S : Type 0} (ghosts : Ghosts S) (Is : Request → Type 0) where
  -- a desk that was reached by requests, of which some are pending, each of them one of those
  record IsReachedBy (desk : DeskState S) : Type 0 where
    asked : List Request
    answers : List (Result Reply Refusal)
    pending : List Request
    reached : IsReached ghosts asked answers pending desk
    are : AllByRecursion Is pending

  rests : (desk : DeskState S) → IsAtRest ghosts desk → IsReachedBy desk
  rests desk rest = record { asked = []; answers = []; pending = []; reached = (refl, rest); are = tt }

  module _ (reaches : AskReaches ghosts) where
    one_reaches : (old new : DeskState S) (m : Message) (text : List ℕ) (read : Result Request Refusal) → IsReadAs (said m) read → ((q : Request) → IsReadAs (said m) (Ok q) → Is q)
        → AnswersRead (GetsAt ghosts) old read text new → IsReachedBy old → IsReachedBy new
    one_reaches old new m text (Err refusal) is of answers served = subst IsReachedBy (sym answers.1) served
    one_reaches old new m text (Ok q) is of (answer, at, same) served =
        let it = reaches served.asked served.answers served.pending old new q answer served.reached at.asking in
        record {
          asked = q ∷ served.asked;
          answers = answer ∷ served.answers;
          pending = it.0;
          reached = it.1;
          are = elim it.2 [ inl none ↦ subst (AllByRecursion Is) (sym none) tt | inr one ↦ subst (AllByRecursion Is) (sym one) (of q is, served.are) ];
        }

    all_reach : (old new : DeskState S) (messages : List Message) (texts : List (List ℕ)) → ((q : Request) → OneAsks messages q → Is q)
        → RunsMessages (AnswersFrom ghosts) old messages texts new → IsReachedBy old → IsReachedBy new
    all_reach old new [] [] of ran served = subst IsReachedBy ran served
    all_reach old new [] (t ∷ texts) of ran served = absurd ran
    all_reach old new (m ∷ messages) [] of ran served = absurd ran
    all_reach old new (m ∷ messages) (t ∷ texts) of (mid, from, more) served =
        all_reach mid new messages texts (λ q later. of q (inr later)) more (one_reaches old mid m t from.read from.is_read (λ q is. of q (inl is)) from.answers served)

  -- so after a crash its office is opened, or one that one of those makes of it
  stays : AnswersStay ghosts → (desk : DeskState S) → IsReachedBy desk → (office : State) → IsOpenedAfter ghosts desk office
      → (office ≡ desk.office) ⊎ ((asked : Request) × Is asked × CarriesOut desk.office asked office)
  stays stay desk served office opened = elim (stay served.asked served.answers served.pending desk served.reached office opened) [
    | inl same ↦ inl same
    | inr makes ↦ inr (made_by Is served.pending desk.office office served.are makes)
  ]

pub answered_stay : {S : Type 0} (ghosts : Ghosts S) → AskReaches ghosts → AnswersStay ghosts → AnsweredStay ghosts
answered_stay ghosts reaches stay old new messages texts rest ran office opened =
    stays ghosts (OneAsks messages) stay new (all_reach ghosts (OneAsks messages) reaches old new messages texts (λ q h. h) ran (rests ghosts (OneAsks messages) old rest)) office opened

-- any request
abbrev IsAny : Request → Type 0
IsAny q = ⊤

module _ {S : Type 0} (ghosts : Ghosts S) (reaches : AskReaches ghosts) where
  -- one connection more
  connects : (old new : DeskState S) (left0 w0 left w : Option (List ℕ)) (came : Result Served StreamFault) → IsServed (AnswersFrom ghosts) end_text old left0 w0 came new left w
      → IsReachedBy ghosts IsAny old → IsReachedBy ghosts IsAny new
  connects old new left0 w0 left w (Ok served) s = all_reach ghosts IsAny reaches old new s.served.serves.messages s.served.serves.answers (λ q h. tt) s.served.serves.ran
  connects old new left0 w0 left w (Err fault) s = all_reach ghosts IsAny reaches old new s.broken.messages s.broken.answers (λ q h. tt) s.broken.ran

  all_connect : (peers : ℕ → Peer) (old new : DeskState S) (came : List Visit) → Connect (AnswersFrom ghosts) peers old came new
      → IsReachedBy ghosts IsAny old → IsReachedBy ghosts IsAny new
  all_connect peers old new [] same served = subst (IsReachedBy ghosts IsAny) (sym same) served
  all_connect peers old new (Some one ∷ came) (mid, it, more) served =
      all_connect (λ n. peers (suc n)) mid new came more (connects old mid it.0.left it.0.written it.2.left it.2.written one it.4.served served)
  all_connect peers old new (None ∷ came) (mid, none, more) served =
      all_connect (λ n. peers (suc n)) mid new came more (subst (IsReachedBy ghosts IsAny) (sym none.1) served)

-- over connections, the first of them at a desk at rest, a crash leaves what all answered messages left, or what one request makes of it
pub connections_stay : {S : Type 0} (ghosts : Ghosts S) → AskReaches ghosts → AnswersStay ghosts → (peers : ℕ → Peer) (old new : DeskState S) (came : List Visit)
    → IsAtRest ghosts old → Connect (AnswersFrom ghosts) peers old came new → (office : State) → IsOpenedAfter ghosts new office
    → (office ≡ new.office) ⊎ ((asked : Request) × CarriesOut new.office asked office)
connections_stay ghosts reaches stay peers old new came rest ran office opened =
    elim (stays ghosts IsAny stay new (all_connect ghosts reaches peers old new came ran (rests ghosts IsAny old rest)) office opened) [
      | inl same ↦ inl same
      | inr one ↦ inr (one.0, one.2)
    ]

module _ {S : Type 0} (ghosts : Ghosts S) (lasts : AskLasts ghosts) where
  -- who is ready for one request more is ready without it
  fewer : (n : ℕ) (desk : DeskState S) → IsReady ghosts (suc n) desk → IsReady ghosts n desk
  fewer n desk ready = record {
    unlimited = ready.unlimited;
    ready = λ clean up. let it = ready.ready clean up in (it.0, room_for (n * 2 ^ 20) (suc n * 2 ^ 20) (state ghosts desk.store).now (omega arith) it.1);
  }

  as_many : (m n : ℕ) (desk : DeskState S) → m ≡ n → IsReady ghosts m desk → IsReady ghosts n desk
  as_many m n desk same = subst (λ k. IsReady ghosts k desk) same

  one_lasts : (n : ℕ) → suc n ≤ 2 ^ 40 → (old new : DeskState S) (text : List ℕ) (read : Result Request Refusal) → IsReady ghosts (suc n) old
      → AnswersRead (GetsAt ghosts) old read text new → AnswersRead (GetsAvailable ghosts) old read text new × IsReady ghosts n new
  one_lasts n few old new text (Err refusal) ready answers = ((answers.0, answers.1), subst (IsReady ghosts n) (sym answers.1) (fewer n old ready))
  one_lasts n few old new text (Ok q) ready (answer, at, same) =
      let it = lasts n few old new q answer ready at.asking in
      ((answer, record { gets = at; available = it.0 }, same), it.1)

  pub stream_lasts : StreamLasts ghosts
  stream_lasts n old new [] [] few ready ran = (ran, subst (IsReady ghosts n) ran (as_many (0 + n) n old (omega arith) ready))
  stream_lasts n old new [] (t ∷ texts) few ready ran = absurd ran
  stream_lasts n old new (m ∷ messages) [] few ready ran = absurd ran
  stream_lasts n old new (m ∷ messages) (t ∷ texts) few ready (mid, from, more) =
      let ready = as_many (suc (length messages) + n) (suc (length messages + n)) old (omega arith) ready in
      let one = one_lasts (length messages + n) (omega (arith, few)) old mid t from.read ready from.answers in
      let rest = stream_lasts n mid new messages texts (omega (arith, few)) one.1 more in
      ((mid, (from.read, from.is_read, one.0), rest.0), rest.1)
