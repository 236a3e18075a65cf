-- A run at a desk is a run of what is seen of it, and what a step gives back a run does.
use Rattle.std.proofs.Common.{ℕ, List, [], ◌∷◌, Option, Result, Ok, Err, ap, sym, subst}
use Rattle.http_stream.specs.Messages.{Message}
use Rattle.http_stream.specs.Run.{MessageText, said, RunsMessages}
use Rattle.http_stream.specs.Served.{IsServed, ServedTo, BrokeOff}
use Rattle.http_stream.specs.declared.outcome.End.{End}
use Rattle.http_stream.specs.declared.outcome.Served.{Served}
use Rattle.http_stream.specs.declared.outcome.StreamFault.{StreamFault}

-- a step that does as much as is seen
abbrev pub Shows : {D S : Type 0} → (D → S) → (S → MessageText → List ℕ → S → Type 0) → (D → MessageText → List ℕ → D → Type 0) → Type 0
Shows {D} see step seen = (before : D) (words : MessageText) (bytes : List ℕ) (after : D) → seen before words bytes after → step (see before) words bytes (see after)

module _ {D S : Type 0} (see : D → S) (step : S → MessageText → List ℕ → S → Type 0) (refusal : End → List ℕ) (seen : D → MessageText → List ℕ → D → Type 0) (shows : Shows see step seen) where
  run_seen : (before after : D) (messages : List Message) (answers : List (List ℕ)) → RunsMessages seen before messages answers after → RunsMessages step (see before) messages answers (see after)
  run_seen before after [] [] r = ap see r
  run_seen before after [] (a ∷ answers) r = absurd r
  run_seen before after (m ∷ messages) [] r = absurd r
  run_seen before after (m ∷ messages) (a ∷ answers) r = (see r.0, shows before (said m) a r.0 r.1, run_seen r.0 after messages answers r.2)

  serves_seen : (before after : D) (left0 w0 left w : Option (List ℕ)) (served : Served)
      → ServedTo seen refusal before left0 w0 left w served after → ServedTo step refusal (see before) left0 w0 left w served (see after)
  serves_seen before after left0 w0 left w served s = record {
    given = s.given;
    read = s.read;
    out = s.out;
    wrote = s.wrote;
    serves = record {
      messages = s.serves.messages;
      of_stream = s.serves.of_stream;
      answers = s.serves.answers;
      ran = run_seen before after s.serves.messages s.serves.answers s.serves.ran;
      written = s.serves.written;
      counted = s.serves.counted;
    };
  }

  broke_seen : (before now : D) (left0 w0 left w : Option (List ℕ)) (fault : StreamFault) → BrokeOff seen refusal before left0 w0 left w now fault → BrokeOff step refusal (see before) left0 w0 left w (see now) fault
  broke_seen before now left0 w0 left w fault b = record {
    given = b.given;
    read = b.read;
    messages = b.messages;
    few = b.few;
    none_after = b.none_after;
    rest = b.rest;
    split = b.split;
    answers = b.answers;
    ran = run_seen before now b.messages b.answers b.ran;
    wrote = b.wrote;
  }

  -- for whatever came of it
  pub is_served_seen : (before after : D) (left0 w0 left w : Option (List ℕ)) (result : Result Served StreamFault) → IsServed seen refusal before left0 w0 result after left w → IsServed step refusal (see before) left0 w0 result (see after) left w
  is_served_seen before after left0 w0 left w (Ok served) s = record { served = serves_seen before after left0 w0 left w served s.served; broken = tt; early = λ memory. cc }
  is_served_seen before after left0 w0 left w (Err fault) s = record {
    served = tt;
    broken = broke_seen before after left0 w0 left w fault s.broken;
    early = λ memory. let none = s.early memory in (ap see none.0, none.1, none.2);
  }

-- a step that gives back what holds after it
abbrev pub GivesBack : {D : Type 0} → (D → Type 0) → (D → MessageText → List ℕ → D → Type 0) → Type 0
GivesBack {D} P step = (before : D) (words : MessageText) (bytes : List ℕ) (after : D) → step before words bytes after → P after → P before

module _ {D : Type 0} (P : D → Type 0) (step : D → MessageText → List ℕ → D → Type 0) (refusal : End → List ℕ) (back : GivesBack P step) where
  run_back : (before after : D) (messages : List Message) (answers : List (List ℕ)) → RunsMessages step before messages answers after → P after → P before
  run_back before after [] [] r p = subst P (sym r) p
  run_back before after [] (a ∷ answers) r p = absurd r
  run_back before after (m ∷ messages) [] r p = absurd r
  run_back before after (m ∷ messages) (a ∷ answers) r p = back before (said m) a r.0 r.1 (run_back r.0 after messages answers r.2 p)

  -- for whatever came of a stream
  pub served_back : (before after : D) (left0 w0 left w : Option (List ℕ)) (result : Result Served StreamFault) → IsServed step refusal before left0 w0 result after left w → P after → P before
  served_back before after left0 w0 left w (Ok served) s = run_back before after s.served.serves.messages s.served.serves.answers s.served.serves.ran
  served_back before after left0 w0 left w (Err fault) s = run_back before after s.broken.messages s.broken.answers s.broken.ran
