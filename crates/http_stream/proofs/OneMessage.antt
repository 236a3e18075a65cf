-- One iteration of the service.
use Rattle.std.proofs.Common.{◌≡◌, ℕ, ◌+◌, ◌<◌, inl, inr, List, [], ◌∷◌, ◌++◌, length, take, drop, Option, Result, Ok, Err, IfOk, OnOk, IfErr, OnErr, refl, sym, ◌∙◌, subst, add-zero, length-append, arith, ap}
use Rattle.http_stream.proofs.Common.{concat, Appends, MAX_MESSAGES, Parts, Whole, Open, End, Stops, Judges, Served, Memory, Read, Write, MessageText, unread, last_words, last_count, read_failed, write_failed, said_at, SoFar, GoesOnServing, BreaksOff, IsServed, WroteUntil, ServedTo, Grows}
use Rattle.http_stream.specs.declared.outcome.StreamFault.{StreamFault}
use Rattle.http_stream.proofs.Known.{appends_compose, appends_none, consumes_none}
use Rattle.http_stream.proofs.Runs.{reads_on, answers_on, splits_more, run_more, said_same, ends_here}

-- a fault of the writer is none of the reader
no_read : {A : Type 0} (fault : StreamFault) → fault ≡ Write → fault ≡ Read → A
no_read fault e f = absurd (let g : Write ≡ Read = sym e ∙ f in cc)

-- a fault of the reader is not out of memory
pub no_memory_read : (fault : StreamFault) → fault ≡ Read → fault ≡ Memory → ⊥
no_memory_read fault e f = let g : Read ≡ Memory = sym e ∙ f in cc

-- nor is a fault of the writer
pub no_memory_write : (fault : StreamFault) → fault ≡ Write → fault ≡ Memory → ⊥
no_memory_write fault e f = let g : Write ≡ Memory = sym e ∙ f in cc

-- the reader failed before a whole message had come
pub breaks_reading : {S : Type 0} (step : S → MessageText → List ℕ → S → Type 0) (refusal : End → List ℕ) (left w left' : Option (List ℕ)) (rest rest' : List ℕ) (now : S) (fault : StreamFault)
    → Grows rest rest' left left' → Judges rest' Open → fault ≡ Read → BreaksOff step refusal left w rest now left' w now fault
breaks_reading step refusal left w left' rest rest' now fault grows still e before left0 w0 count so below =
    let now_so = reads_on step before now left0 w0 left left' w rest rest' count so grows in record {
      given = now_so.given;
      read = now_so.read;
      messages = now_so.messages;
      few = omega (arith, now_so.counted);
      none_after = λ _. omega (arith, now_so.counted);
      rest = rest';
      split = now_so.split;
      answers = now_so.answers;
      ran = now_so.ran;
      wrote = subst (λ (f : StreamFault). WroteUntil refusal f now_so.answers rest' left' w0 w) (sym e) (now_so.wrote, still.1);
    }

-- the writer failed within an answer
pub breaks_writing : {S : Type 0} (step : S → MessageText → List ℕ → S → Type 0) (refusal : End → List ℕ) (left w left' w' : Option (List ℕ)) (rest rest' : List ℕ) (now after : S) (fault : StreamFault)
    (p : Parts) (a : List ℕ) (n : ℕ)
    → Grows rest rest' left left' → Judges rest' (Whole p) → step now (said_at rest' p) a after → n < length a → Appends w w' (take n a) → fault ≡ Write
    → BreaksOff step refusal left w rest now left' w' after fault
breaks_writing step refusal left w left' w' rest rest' now after fault p a n grows judged x part wrote e before left0 w0 count so below =
    let so_now = reads_on step before now left0 w0 left left' w rest rest' count so grows in
    let all = so_now.answers in
    let after_p = drop (p.head + p.body) rest' in
    record {
      given = so_now.given;
      read = so_now.read;
      messages = so_now.messages ++ judged.0 ∷ [];
      few = simp length-append (omega (arith, so_now.counted));
      none_after = λ f. no_read fault e f;
      rest = after_p;
      split = λ more. splits_more _ so_now.messages (rest' ++ more) (after_p ++ more) judged.0 (so_now.split more) (judged.2 more);
      answers = all ++ a ∷ [];
      ran = run_more step before now after so_now.messages all judged.0 a so_now.ran
          (subst (λ (q : MessageText). step now q a after) (said_same rest' p judged.0 judged.1) x);
      wrote = subst (λ (f : StreamFault). WroteUntil refusal f (all ++ a ∷ []) after_p left' w0 w') (sym e)
          (inl (all, a, refl, (n, part, appends_compose w0 w w' (concat all) (take n a) so_now.wrote wrote)));
    }

-- a message was answered, and taken away
pub message_goes_on : {S : Type 0} (step : S → MessageText → List ℕ → S → Type 0) (left w left' w' : Option (List ℕ)) (rest rest' rest'' : List ℕ) (now after : S) (p : Parts) (a : List ℕ)
    → Grows rest rest' left left' → Judges rest' (Whole p) → step now (said_at rest' p) a after → Appends w w' a → rest'' ≡ drop (p.head + p.body) rest'
    → GoesOnServing step left w rest now left' w' rest'' after 1
message_goes_on step left w left' w' rest rest' rest'' now after p a grows judged x wrote e before left0 w0 count so =
    subst (λ (t : List ℕ). SoFar step before left0 w0 left' w' t (count + 1) after) (sym e)
    (answers_on step before now after left0 w0 left' w w' rest' count p a (reads_on step before now left0 w0 left left' w rest rest' count so grows) judged x wrote)

-- the end has come, and all before it stands
pub end_goes_on : {S : Type 0} (step : S → MessageText → List ℕ → S → Type 0) (left w left' : Option (List ℕ)) (rest rest' : List ℕ) (now : S)
    → Grows rest rest' left left' → GoesOnServing step left w rest now left' w rest' now 0
end_goes_on step left w left' rest rest' now grows before left0 w0 count so =
    subst (λ (k : ℕ). SoFar step before left0 w0 left' w rest' k now) (sym (add-zero count)) (reads_on step before now left0 w0 left left' w rest rest' count so grows)

-- out of memory for the buffers: nothing is read, asked or written
pub nothing_served : {S : Type 0} (step : S → MessageText → List ℕ → S → Type 0) (refusal : End → List ℕ) (before : S) (left w : Option (List ℕ)) → IsServed step refusal before left w (Err Memory) before left w
nothing_served step refusal before left w = record {
  served = tt;
  broken = record {
    given = [];
    read = consumes_none left;
    messages = [];
    few = omega arith;
    none_after = λ _. omega arith;
    rest = [];
    split = λ more. refl;
    answers = [];
    ran = refl;
    wrote = (refl, refl, appends_none w);
  };
  early = λ _. (refl, refl, refl);
}

-- the last words were written, or not all of them
pub ended : {S : Type 0} (step : S → MessageText → List ℕ → S → Type 0) (refusal : End → List ℕ) (before now was : S) (left0 w0 left l w w1 w' : Option (List ℕ)) (rest r : List ℕ) (count : ℕ) (end : End)
    (result : Result Served StreamFault)
    → SoFar step before left0 w0 left w rest count was → count < MAX_MESSAGES
    → Stops (r ++ unread l) end × GoesOnServing step left w rest was l w1 r now 0
    → IfOk result (λ s. s ≡ record { answered = count + last_count end; end = end }) → OnOk result (Appends w1 w' (last_words refusal end))
    → IfErr result (λ e. e ≡ Write) → OnErr result ((n : ℕ) × (n < length (last_words refusal end)) × Appends w1 w' (take n (last_words refusal end)))
    → IsServed step refusal before left0 w0 result now l w'
ended step refusal before now was left0 w0 left l w w1 w' rest r count end (Ok s) so few stops is wrote why cut =
    let goes = subst (λ (k : ℕ). SoFar step before left0 w0 l w1 r k now) (add-zero count) (stops.1 before left0 w0 count so) in
    record {
      served = subst (λ (t : Served). ServedTo step refusal before left0 w0 l w' t now) (sym is) (ends_here step refusal before now left0 w0 l w1 w' r count end goes few stops.0 wrote);
      broken = tt;
      early = λ memory. cc;
    }
ended step refusal before now was left0 w0 left l w w1 w' rest r count end (Err f') so below stops is wrote why cut =
    let goes = stops.1 before left0 w0 count so in
    record {
      served = tt;
      broken = record {
        given = goes.given;
        read = goes.read;
        messages = goes.messages;
        few = omega (arith, goes.counted);
        none_after = λ f. no_read f' why f;
        rest = r;
        split = goes.split;
        answers = goes.answers;
        ran = goes.ran;
        wrote = subst (λ (f : StreamFault). WroteUntil refusal f goes.answers r l w0 w') (sym why)
            (inr (end, stops.0, (cut.0, cut.1, appends_compose w0 w1 w' (concat goes.answers) (take cut.0 (last_words refusal end)) goes.wrote cut.2)));
      };
      early = λ memory. absurd (no_memory_write f' why (cc));
    }

-- ---- what is counted

-- a fault counts as one of its kind does
pub fault_counts : (count : StreamFault → ℕ) (fault kind : StreamFault) (new old : ℕ) → fault ≡ kind → new ≡ old + count kind → new ≡ old + count fault
fault_counts count fault kind new old e h = subst (λ (f : StreamFault). new ≡ old + count f) (sym e) h

-- the last words read nothing
pub last_read : (r : Result Served StreamFault) (new old : ℕ) → new ≡ old → IfErr r (λ e. e ≡ Write) → new ≡ old + read_failed r
last_read (Ok s) new old h e = h ∙ sym (add-zero old)
last_read (Err f) new old h e = fault_counts (λ k. read_failed {A = Served} (Err k)) f Write new old e (h ∙ sym (add-zero old))

-- they fail to be written once at most
pub last_written : (r : Result Served StreamFault) (new before old : ℕ) → before ≡ old → IfErr r (λ e. e ≡ Write) → OnOk r (new ≡ before) → OnErr r (new ≡ before + 1)
    → new ≡ old + write_failed r
last_written (Ok s) new before old h e ok err = ok ∙ h ∙ sym (add-zero old)
last_written (Err f) new before old h e ok err = fault_counts (λ k. write_failed {A = Served} (Err k)) f Write new old e (err ∙ ap (λ (n : ℕ). n + 1) h)

-- a fault is counted the same whatever else the result could be
pub same_write : (A B : Type 0) (fault : StreamFault) (new old start : ℕ) → new ≡ old + write_failed {A = A} (Err fault) → old ≡ start → new ≡ start + write_failed {A = B} (Err fault)
same_write A B Memory new old start e h = cc
same_write A B Read new old start e h = cc
same_write A B Write new old start e h = cc

pub same_read : (A B : Type 0) (fault : StreamFault) (new old start : ℕ) → new ≡ old + read_failed {A = A} (Err fault) → old ≡ start → new ≡ start + read_failed {A = B} (Err fault)
same_read A B Memory new old start e h = cc
same_read A B Read new old start e h = cc
same_read A B Write new old start e h = cc
