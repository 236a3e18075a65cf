-- A run goes on by one message.
use Rattle.std.proofs.Common.{◌≡◌, ℕ, ◌+◌, ◌<◌, List, [], ◌∷◌, ◌++◌, length, drop, Option, refl, sym, ap, ◌∙◌, subst, append_assoc, append-nil, length-append, arith}
use Rattle.http_stream.proofs.Common.{concat, Appends, MAX_MESSAGES, Parts, Whole, End, Closed, Unfinished, BadHead, TooLarge, Hundred, Message, EndsAt, Splits, BeginsWith, Stops, IsPartsOf, Judges, MessageText, said, RunsMessages, unread, last_words, last_count, said_at, SoFar, ServedTo, Grows}
use Rattle.http_stream.proofs.Known.{appends_compose, appends_none, consumes_compose, consumes_none}

-- one more message is split off
pub splits_more : (bytes : List ℕ) (ms : List Message) (rest after : List ℕ) (m : Message) → Splits bytes ms rest → BeginsWith rest m after
    → Splits bytes (ms ++ m ∷ []) after
splits_more bytes [] rest after m s b = (after, subst (λ (t : List ℕ). BeginsWith t m after) (sym s) b, refl)
splits_more bytes (k ∷ ms) rest after m s b = (s.0, s.1, splits_more s.0 ms rest after m s.2 b)

-- a run goes on by one step
pub run_more : {S : Type 0} (step : S → MessageText → List ℕ → S → Type 0) (s u t : S) (ms : List Message) (ks : List (List ℕ)) (m : Message) (a : List ℕ)
    → RunsMessages step s ms ks u → step u (said m) a t → RunsMessages step s (ms ++ m ∷ []) (ks ++ a ∷ []) t
run_more step s u t [] [] m a r x = (t, subst (λ v. step v (said m) a t) (sym r) x, refl)
run_more step s u t [] (b ∷ ks) m a r x = absurd r
run_more step s u t (k ∷ ms) [] m a r x = absurd r
run_more step s u t (k ∷ ms) (b ∷ ks) m a r x = (r.0, r.1, run_more step r.0 u t ms ks m a r.2 x)

-- one more text at the end
pub concat_more : (xs : List (List ℕ)) (a : List ℕ) → concat (xs ++ a ∷ []) ≡ concat xs ++ a
concat_more [] a = append-nil a
concat_more (x ∷ xs) a = ap (λ (t : List ℕ). x ++ t) (concat_more xs a) ∙ sym (append_assoc x (concat xs) a)

-- what stands at the parts is what the message says
pub said_same : (buffer : List ℕ) (p : Parts) (m : Message) → IsPartsOf buffer p m → said_at buffer p ≡ said m
said_same buffer p m h = λ i. record { method = h.method i; target = h.target i; body = h.body i }

-- as many answers as messages
pub run_counts : {S : Type 0} (step : S → MessageText → List ℕ → S → Type 0) (s t : S) (ms : List Message) (ks : List (List ℕ))
    → RunsMessages step s ms ks t → length ms ≡ length ks
run_counts step s t [] [] r = refl
run_counts step s t [] (b ∷ ks) r = absurd r
run_counts step s t (k ∷ ms) [] r = absurd r
run_counts step s t (k ∷ ms) (b ∷ ks) r = let e = run_counts step r.0 t ms ks r.2 in omega arith

-- nothing yet
pub nothing_yet : {S : Type 0} (step : S → MessageText → List ℕ → S → Type 0) (before : S) (left w : Option (List ℕ))
    → SoFar step before left w left w [] 0 before
nothing_yet step before left w = record {
  given = [];
  read = consumes_none left;
  messages = [];
  split = λ more. refl;
  counted = refl;
  answers = [];
  ran = refl;
  wrote = appends_none w;
}

-- more is read
pub reads_on : {S : Type 0} (step : S → MessageText → List ℕ → S → Type 0) (before now : S) (left0 w0 left left' w : Option (List ℕ)) (rest rest' : List ℕ) (count : ℕ)
    → SoFar step before left0 w0 left w rest count now → Grows rest rest' left left'
    → SoFar step before left0 w0 left' w rest' count now
reads_on step before now left0 w0 left left' w rest rest' count so g = record {
  given = so.given ++ g.chunk;
  read = consumes_compose left0 left left' so.given g.chunk so.read g.read;
  messages = so.messages;
  split = λ more.
      let a : (so.given ++ g.chunk) ++ more ≡ so.given ++ (g.chunk ++ more) = append_assoc so.given g.chunk more in
      let b : rest' ++ more ≡ rest ++ (g.chunk ++ more) = ap (λ (t : List ℕ). t ++ more) g.grown ∙ append_assoc rest g.chunk more in
      subst (λ (t : List ℕ). Splits t so.messages (rest' ++ more)) (sym a)
      (subst (λ (t : List ℕ). Splits (so.given ++ (g.chunk ++ more)) so.messages t) (sym b) (so.split (g.chunk ++ more)));
  counted = so.counted;
  answers = so.answers;
  ran = so.ran;
  wrote = so.wrote;
}

-- one more is answered
pub answers_on : {S : Type 0} (step : S → MessageText → List ℕ → S → Type 0) (before now after : S) (left0 w0 left w w' : Option (List ℕ)) (rest : List ℕ) (count : ℕ)
    (p : Parts) (a : List ℕ)
    → SoFar step before left0 w0 left w rest count now → Judges rest (Whole p) → step now (said_at rest p) a after → Appends w w' a
    → SoFar step before left0 w0 left w' (drop (p.head + p.body) rest) (count + 1) after
answers_on step before now after left0 w0 left w w' rest count p a so judged x wrote = record {
  given = so.given;
  read = so.read;
  messages = so.messages ++ judged.0 ∷ [];
  split = λ more. splits_more _ so.messages (rest ++ more) (drop (p.head + p.body) rest ++ more) judged.0 (so.split more) (judged.2 more);
  counted = simp length-append (omega (arith, so.counted));
  answers = so.answers ++ a ∷ [];
  ran = run_more step before now after so.messages so.answers judged.0 a so.ran (subst (λ (q : MessageText). step now q a after) (said_same rest p judged.0 judged.1) x);
  wrote = subst (Appends w0 w') (sym (concat_more so.answers a)) (appends_compose w0 w w' (concat so.answers) a so.wrote wrote);
}

-- an end that comes before the hundredth message
ends_at : (count : ℕ) (rest : List ℕ) (end : End) → count < MAX_MESSAGES → Stops rest end → EndsAt count rest end
ends_at count rest Closed few stops = (few, stops)
ends_at count rest Unfinished few stops = (few, stops)
ends_at count rest BadHead few stops = (few, stops)
ends_at count rest TooLarge few stops = (few, stops)
ends_at count rest Hundred few stops = absurd stops

-- the stream is at an end, and its last words are written
pub ends_here : {S : Type 0} (step : S → MessageText → List ℕ → S → Type 0) (refusal : End → List ℕ) (before now : S) (left0 w0 left w w' : Option (List ℕ)) (rest : List ℕ) (count : ℕ) (end : End)
    → SoFar step before left0 w0 left w rest count now → count < MAX_MESSAGES → Stops (rest ++ unread left) end → Appends w w' (last_words refusal end)
    → ServedTo step refusal before left0 w0 left w' (record { answered = count + last_count end; end = end }) now
ends_here step refusal before now left0 w0 left w w' rest count end so few stops wrote = record {
  given = so.given;
  read = so.read;
  out = concat so.answers ++ last_words refusal end;
  wrote = appends_compose w0 w w' (concat so.answers) (last_words refusal end) so.wrote wrote;
  serves = record {
    messages = so.messages;
    of_stream = record {
      rest = rest ++ unread left;
      split = so.split (unread left);
      ends = ends_at (length so.messages) (rest ++ unread left) end (omega (arith, so.counted)) stops;
    };
    answers = so.answers;
    ran = so.ran;
    written = refl;
    counted = omega (arith, so.counted, run_counts step before now so.messages so.answers so.ran);
  };
}

-- a hundred messages were answered
pub hundred_here : {S : Type 0} (step : S → MessageText → List ℕ → S → Type 0) (refusal : End → List ℕ) (before now : S) (left0 w0 left w : Option (List ℕ)) (rest : List ℕ)
    → SoFar step before left0 w0 left w rest MAX_MESSAGES now
    → ServedTo step refusal before left0 w0 left w (record { answered = MAX_MESSAGES; end = Hundred }) now
hundred_here step refusal before now left0 w0 left w rest so = record {
  given = so.given;
  read = so.read;
  out = concat so.answers;
  wrote = so.wrote;
  serves = record {
    messages = so.messages;
    of_stream = record { rest = rest ++ unread left; split = so.split (unread left); ends = so.counted };
    answers = so.answers;
    ran = so.ran;
    written = sym (append-nil (concat so.answers));
    counted = omega (arith, so.counted, run_counts step before now so.messages so.answers so.ran);
  };
}
