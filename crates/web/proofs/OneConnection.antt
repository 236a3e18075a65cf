-- One more connection is served, and its line written.
use Rattle.std.proofs.Common.{◌≡◌, ◌<◌, ◌≤◌, ◌+◌, ◌∙◌, ℕ, suc, List, [], ◌∷◌, ◌++◌, length, take, Option, Some, None, Result, Ok, Err, OnErr, refl, sym, ap, subst, arith, append-nil}
use Rattle.std.specs.Io.KnownBytes.{Appends}
use Rattle.std.proofs.lemmas.List.{append_assoc, length-append}
use Rattle.http_stream.proofs.Known.{appends_compose}
use Rattle.http_stream.specs.Run.{MessageText}
use Rattle.host.specs.WorldState.{IsPeer, Peer}
use Rattle.web.specs.Connections.{AreAwaited, AreServed, Connects, Connect, SomeServed, Visit, connection_line, in_a_row, lines_after, next_row}
use Rattle.web.specs.Serving.{end_text}
use Rattle.web.specs.declared.TheConstants.{MAX_UNACCEPTED}
use Rattle.web.proofs.Seen.{Shows, GivesBack, is_served_seen, served_back}

module _ {D : Type 0} (step : D → MessageText → List ℕ → D → Type 0) where
  -- one connection more
  connect_more : (peers : ℕ → Peer) (before mid after : D) (came : List Visit) (one : Visit) → Connect step peers before came mid → Connects step (peers (length came)) mid one after
      → Connect step peers before (came ++ one ∷ []) after
  connect_more peers before mid after [] one so_far last = (after, subst (λ (d : D). Connects step (peers 0) d one after) so_far last, refl)
  connect_more peers before mid after (c ∷ came) one so_far last = (so_far.0, so_far.1, connect_more (λ n. peers (suc n)) so_far.0 mid after came one so_far.2 last)

-- its line comes after the others
lines_more : (n : ℕ) (came : List Visit) (one : Visit) → lines_after n (came ++ one ∷ []) ≡ lines_after n came ++ connection_line (n + length came + 1) one
lines_more n [] one =
    let at : n + 1 ≡ n + 0 + 1 = omega arith in
    append-nil (connection_line (n + 1) one) ∙ ap (λ k. connection_line k one) at
lines_more n (c ∷ came) one =
    let at : n + 1 + length came + 1 ≡ n + length (c ∷ came) + 1 = omega arith in
    ap (λ ls. connection_line (n + 1) c ++ ls) (lines_more (n + 1) came one ∙ ap (λ k. lines_after (n + 1) came ++ connection_line k one) at)
    ∙ sym (append_assoc (connection_line (n + 1) c) (lines_after (n + 1) came) (connection_line (n + length (c ∷ came) + 1) one))

-- the line of the connection that is served now is the next one
next_line : (n : ℕ) (came : List Visit) (one : Visit) → length came ≡ n → lines_after 0 (came ++ one ∷ []) ≡ lines_after 0 came ++ connection_line (n + 1) one
next_line n came one counted =
    let at : 0 + length came + 1 ≡ n + 1 = omega (arith, counted) in
    lines_more 0 came one ∙ ap (λ k. lines_after 0 came ++ connection_line k one) at

-- one more in a row, or none
row_more : (n : ℕ) (came : List Visit) (one : Visit) → in_a_row n (came ++ one ∷ []) ≡ next_row (in_a_row n came) one
row_more n [] one = refl
row_more n (c ∷ came) one = row_more (next_row n c) came one

awaited_more : (n : ℕ) (came : List Visit) (one : Visit) → AreAwaited n came → in_a_row n came < MAX_UNACCEPTED → AreAwaited n (came ++ one ∷ [])
awaited_more n [] one awaited less = (less, tt)
awaited_more n (c ∷ came) one awaited less = (awaited.0, awaited_more (next_row n c) came one awaited.1 less)

-- one more in a row is not too many
pub next_few : (n : ℕ) (one : Visit) → n < MAX_UNACCEPTED → next_row n one ≤ MAX_UNACCEPTED
next_few n (Some came) less = omega arith
next_few n None less = omega (arith, less)

-- what holds is said of a fault
pub at_fault : {A E P : Type 0} (r : Result A E) → P → OnErr r P
at_fault (Ok a) p = tt
at_fault (Err e) p = p

module _ {D : Type 0} (step : D → MessageText → List ℕ → D → Type 0) (peers : ℕ → Peer) where
  -- the connection that is served now is the next one
  next_one : (mid after : D) (n : ℕ) (came : List Visit) (one : Visit) → length came ≡ n → Connects step (peers n) mid one after → Connects step (peers (length came)) mid one after
  next_one mid after n came one counted last = subst (λ k. Connects step (peers k) mid one after) (sym counted) last

  -- one more is served and its line printed
  pub one_more : (before mid after : D) (n row : ℕ) (w0 w w' : Option (List ℕ)) (one : Visit) → row < MAX_UNACCEPTED → AreServed step peers before n row w0 w mid → Connects step (peers n) mid one after
      → Appends w w' (connection_line (n + 1) one) → AreServed step peers before (n + 1) (next_row row one) w0 w' after
  one_more before mid after n row w0 w w' one less so_far last wrote = record {
    came = so_far.came ++ one ∷ [];
    counted = length-append so_far.came (one ∷ []) ∙ ap (λ k. k + 1) so_far.counted;
    ended = row_more 0 so_far.came one ∙ ap (λ r. next_row r one) so_far.ended;
    awaited = awaited_more 0 so_far.came one so_far.awaited (subst (λ r. r < MAX_UNACCEPTED) (sym so_far.ended) less);
    served = connect_more step peers before mid after so_far.came one so_far.served (next_one mid after n so_far.came one so_far.counted last);
    wrote = subst (λ ls. Appends w0 w' ls) (sym (next_line n so_far.came one so_far.counted)) (appends_compose w0 w w' _ _ so_far.wrote wrote);
  }

  -- one more is served, and its line is cut
  pub one_cut : (before mid after : D) (n row count : ℕ) (w0 w w' : Option (List ℕ)) (one : Visit) → n < count → row < MAX_UNACCEPTED → AreServed step peers before n row w0 w mid → Connects step (peers n) mid one after
      → ((k : ℕ) × (k < length (connection_line (n + 1) one)) × Appends w w' (take k (connection_line (n + 1) one))) → SomeServed step peers before count w0 w' after
  one_cut before mid after n row count w0 w w' one few less so_far last wrote =
      let counted : length so_far.came ≡ n = so_far.counted in
      record {
        earlier = so_far.came;
        last = one;
        few = omega (arith, counted, few);
        awaited = awaited_more 0 so_far.came one so_far.awaited (subst (λ r. r < MAX_UNACCEPTED) (sym so_far.ended) less);
        served = connect_more step peers before mid after so_far.came one so_far.served (next_one mid after n so_far.came one so_far.counted last);
        kept = wrote.0;
        cut = rw counted wrote.1;
        wrote = rw counted (appends_compose w0 w w' _ _ so_far.wrote wrote.2);
      }

-- who connects now
pub here : (first now : ℕ → Peer) (k : ℕ) → ((n : ℕ) → IsPeer (now n) (first (n + k))) → IsPeer (now 0) (first k)
here first now k moved =
    let at : 0 + k ≡ k = omega arith in
    subst (λ m. IsPeer (now 0) (first m)) at (moved 0)

-- what comes after the next connection comes one later
pub moves : (first now after : ℕ → Peer) (k : ℕ) → ((n : ℕ) → IsPeer (now n) (first (n + k))) → ((n : ℕ) → IsPeer (after n) (now (n + 1))) → (n : ℕ) → IsPeer (after n) (first (n + (k + 1)))
moves first now after k moved next n =
    let at : n + 1 + k ≡ n + (k + 1) = omega arith in
    subst (λ m. IsPeer (after n) (first m)) at
    (record { comes = λ ends may. (moved (n + 1)).comes ends ((next n).comes ends may); leaves = λ ends may. (moved (n + 1)).leaves ends ((next n).leaves ends may) })

-- what was served at a desk was served at what is seen of it, and of somebody of whom less is known
module _ {D S : Type 0} (see : D → S) (step : S → MessageText → List ℕ → S → Type 0) (seen : D → MessageText → List ℕ → D → Type 0) (shows : Shows see step seen) where
  pub connects_seen : (one other : Peer) → IsPeer one other → (before after : D) (visit : Visit) → Connects seen one before visit after → Connects step other (see before) visit (see after)
  connects_seen one other is before after (Some came) s = (
    s.0,
    is.comes (Some s.0) s.1,
    s.2,
    is.leaves s.2 s.3,
    record {
      served = is_served_seen see step end_text seen shows before after s.0.left s.0.written s.2.left s.2.written came s.4.served;
      read_count = s.4.read_count;
      write_count = s.4.write_count;
    },
  )
  connects_seen one other is before after None failed = (is.comes None failed.0, ap see failed.1)

  pub connect_seen : (some other : ℕ → Peer) → ((n : ℕ) → IsPeer (some n) (other n)) → (before after : D) (came : List Visit) → Connect seen some before came after
      → Connect step other (see before) came (see after)
  connect_seen some other is before after [] none = ap see none
  connect_seen some other is before after (one ∷ more) c =
      (see c.0, connects_seen (some 0) (other 0) (is 0) before c.0 one c.1, connect_seen (λ n. some (suc n)) (λ n. other (suc n)) (λ n. is (suc n)) c.0 after more c.2)

-- what a step gives back connections do
module _ {D : Type 0} (P : D → Type 0) (step : D → MessageText → List ℕ → D → Type 0) (back : GivesBack P step) where
  connects_back : (peer : Peer) (before after : D) (visit : Visit) → Connects step peer before visit after → P after → P before
  connects_back peer before after (Some came) s p = served_back P step end_text back before after s.0.left s.0.written s.2.left s.2.written came s.4.served p
  connects_back peer before after None failed p = subst P failed.1 p

  pub connect_back : (peers : ℕ → Peer) (before after : D) (came : List Visit) → Connect step peers before came after → P after → P before
  connect_back peers before after [] none p = subst P none p
  connect_back peers before after (one ∷ more) c p = connects_back (peers 0) before c.0 one c.1 (connect_back (λ n. peers (suc n)) c.0 after more c.2 p)
