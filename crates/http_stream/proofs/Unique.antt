-- A stream has one list of messages and one end.
use Rattle.std.proofs.Common.{◌≡◌, ℕ, suc, ◌+◌, ◌<◌, ◌≤◌, ◌⊎◌, inl, inr, true, false, List, [], ◌∷◌, ◌++◌, length, take, drop, refl, sym, ap, ◌∙◌, subst, arith, append_assoc, length-append, add-zero, zero-add}
use Rattle.http_stream.proofs.Common.{take_at, drop_at, append_cancel_left, RequestHead, print_request, HasNoRequest, request_unique, print_request-append, MAX_MESSAGES, Framing, Length, Wrong, Long, End, Closed, Unfinished, BadHead, TooLarge, Hundred, Message, window, has_line, HeadAt, HeadFramed, framing, IsMalformed, BodyCut, BeginsWith, Stops, Splits, EndsAt, Messages}

-- one head stands at a place
head_unique : (rest : List ℕ) (h k : RequestHead) → HeadAt rest h → HeadAt rest k → h ≡ k
head_unique rest h k x y = (request_unique (window rest) h k x.0 y.0 x.1 y.1).0

-- two lengths that are said alike are one
same_length : (a b : ℕ) → Length a ≡ Length b → a ≡ b
same_length a b e = cc

-- one head is framed by one length
lengths_agree : (h k : RequestHead) (a b : ℕ) → h ≡ k → framing h ≡ Length a → framing k ≡ Length b → a ≡ b
lengths_agree h k a b e x y = same_length a b (sym x ∙ ap framing e ∙ y)

-- two parts of one length, at the front of one list
parts_agree : (s t u v : List ℕ) → length s ≡ length t → s ++ u ≡ t ++ v → (s ≡ t) × (u ≡ v)
parts_agree s t u v l e = (
  sym (take_at s u (length s) refl) ∙ ap (take (length s)) e ∙ take_at t v (length s) (sym l),
  sym (drop_at s u (length s) refl) ∙ ap (drop (length s)) e ∙ drop_at t v (length s) (sym l),
)

-- one message stands at a place, and one rest comes after it
pub begins_unique : (rest : List ℕ) (m k : Message) (a b : List ℕ) → BeginsWith rest m a → BeginsWith rest k b → (m ≡ k) × (a ≡ b)
begins_unique rest m k a b x y =
    let e = head_unique rest m.head k.head x.head y.head in
    let l = lengths_agree m.head k.head (length m.body) (length k.body) e x.framed y.framed in
    let p = print_request m.head in
    let x_whole : rest ≡ p ++ (m.body ++ a) = x.whole ∙ append_assoc p m.body a in
    let y_whole : rest ≡ p ++ (k.body ++ b) = subst (λ (h : RequestHead). rest ≡ print_request h ++ (k.body ++ b)) (sym e) (y.whole ∙ append_assoc (print_request k.head) k.body b) in
    let parts = parts_agree m.body k.body a b l (append_cancel_left p (m.body ++ a) (k.body ++ b) (sym x_whole ∙ y_whole)) in
    (λ i. record { head = e i; body = parts.0 i }, parts.1)

-- a head is not empty
head_has_bytes : (h : RequestHead) → 0 < length (print_request h)
head_has_bytes h =
    let n = simp length-append at (ap length (print_request-append h [])) in
    omega (arith, n)

-- no head stands where nothing comes
no_head_in_nothing : (rest : List ℕ) (h : RequestHead) → HeadAt rest h → rest ≡ [] → ⊥
no_head_in_nothing rest h x e =
    let w : [] ≡ print_request h ++ x.0 = ap window (sym e) ∙ x.1.1 in
    let n = simp length-append at (ap length w) in
    omega (arith, n, head_has_bytes h)

-- where a message stands no end does
pub begins_or_stops : (rest : List ℕ) (m : Message) (after : List ℕ) (end : End) → BeginsWith rest m after → Stops rest end → ⊥
begins_or_stops rest m after Closed x stops = no_head_in_nothing rest m.head x.head stops
begins_or_stops rest m after Unfinished x (inl cut) =
    let e = head_unique rest m.head cut.0 x.head cut.1 in
    let l = lengths_agree m.head cut.0 (length m.body) cut.2 e x.framed cut.3 in
    let p = ap (λ (h : RequestHead). length (print_request h)) e in
    let n = simp length-append at (ap length x.whole) in
    omega (arith, cut.4, l, p, n)
begins_or_stops rest m after Unfinished x (inr still) = still.0.headless m.head x.head.0 x.head.1
begins_or_stops rest m after BadHead x (inl f) =
    let e = sym x.framed ∙ ap framing (head_unique rest m.head f.0 x.head f.1) ∙ f.2 in
    let g : Length (length m.body) ≡ Wrong = e in cc
begins_or_stops rest m after BadHead x (inr bad) = bad.0 m.head x.head.0 x.head.1
begins_or_stops rest m after TooLarge x (inl f) =
    let e = sym x.framed ∙ ap framing (head_unique rest m.head f.0 x.head f.1) ∙ f.2 in
    let g : Length (length m.body) ≡ Long = e in cc
begins_or_stops rest m after TooLarge x (inr still) = still.0.headless m.head x.head.0 x.head.1
begins_or_stops rest m after Hundred x stops = stops

-- two heads at one place are framed as one
framed_agree : (rest : List ℕ) (f g : Framing) → HeadFramed rest f → HeadFramed rest g → f ≡ g
framed_agree rest f g x y = sym x.2 ∙ ap framing (head_unique rest x.0 y.0 x.1 y.1) ∙ y.2

-- no head is framed where nothing comes
nothing_framed : (rest : List ℕ) (f : Framing) → HeadFramed rest f → rest ≡ [] → ⊥
nothing_framed rest f x e = no_head_in_nothing rest x.0 x.1 e

-- a body that is cut has a head with a length
cut_framed : (rest : List ℕ) → BodyCut rest → (n : ℕ) × HeadFramed rest (Length n)
cut_framed rest x = (x.2, (x.0, x.1, x.3))

-- no head is framed where none stands
headless_framed : (rest : List ℕ) (f : Framing) → HeadFramed rest f → HasNoRequest (window rest) → ⊥
headless_framed rest f x none = none x.0 x.1.0 x.1.1

-- wrong is not too long
wrong_or_long : Wrong ≡ Long → ⊥
wrong_or_long e = cc

-- a length is not wrong
length_or_wrong : (n : ℕ) → Length n ≡ Wrong → ⊥
length_or_wrong n e = cc

-- a length is not too long
length_or_long : (n : ℕ) → Length n ≡ Long → ⊥
length_or_long n e = cc

-- nothing is not malformed
nothing_malformed : (rest : List ℕ) → rest ≡ [] → IsMalformed (window rest) → ⊥
nothing_malformed rest e bad = let line = subst (λ (t : List ℕ). has_line false (window t) ≡ true) e bad.0 in let f : false ≡ true = line in cc

-- nothing has no bytes
nothing_long : (rest : List ℕ) → rest ≡ [] → 0 < length rest → ⊥
nothing_long rest e some = let n = ap length e in omega arith

-- closed is no other end
closed_alone : (rest : List ℕ) (e : End) → rest ≡ [] → Stops rest e → Closed ≡ e
closed_alone rest Closed n y = refl
closed_alone rest Unfinished n (inl cut) = absurd (no_head_in_nothing rest cut.0 cut.1 n)
closed_alone rest Unfinished n (inr still) = absurd (nothing_long rest n still.2)
closed_alone rest BadHead n (inl f) = absurd (nothing_framed rest Wrong f n)
closed_alone rest BadHead n (inr bad) = absurd (nothing_malformed rest n bad.1)
closed_alone rest TooLarge n (inl f) = absurd (nothing_framed rest Long f n)
closed_alone rest TooLarge n (inr still) = absurd (let z = ap length n in omega (arith, still.1))
closed_alone rest Hundred n y = absurd y

-- a message that is cut is not a bad head
cut_or_bad : (rest : List ℕ) → Stops rest Unfinished → Stops rest BadHead → ⊥
cut_or_bad rest (inl cut) (inl f) = let c = cut_framed rest cut in length_or_wrong c.0 (framed_agree rest (Length c.0) Wrong c.1 f)
cut_or_bad rest (inl cut) (inr bad) = let c = cut_framed rest cut in headless_framed rest (Length c.0) c.1 bad.0
cut_or_bad rest (inr still) (inl f) = headless_framed rest Wrong f still.0.headless
cut_or_bad rest (inr still) (inr bad) = still.0.well_formed bad.1

-- a message that is cut is not too large
cut_or_large : (rest : List ℕ) → Stops rest Unfinished → Stops rest TooLarge → ⊥
cut_or_large rest (inl cut) (inl f) = let c = cut_framed rest cut in length_or_long c.0 (framed_agree rest (Length c.0) Long c.1 f)
cut_or_large rest (inl cut) (inr full) = let c = cut_framed rest cut in headless_framed rest (Length c.0) c.1 full.0.headless
cut_or_large rest (inr still) (inl f) = headless_framed rest Long f still.0.headless
cut_or_large rest (inr still) (inr full) = omega (arith, still.1, full.1)

-- a bad head is not too large
bad_or_large : (rest : List ℕ) → Stops rest BadHead → Stops rest TooLarge → ⊥
bad_or_large rest (inl f) (inl g) = wrong_or_long (framed_agree rest Wrong Long f g)
bad_or_large rest (inl f) (inr full) = headless_framed rest Wrong f full.0.headless
bad_or_large rest (inr bad) (inl g) = headless_framed rest Long g bad.0
bad_or_large rest (inr bad) (inr full) = full.0.well_formed bad.1

-- one end stands at a place
pub stops_unique : (rest : List ℕ) (d e : End) → Stops rest d → Stops rest e → d ≡ e
stops_unique rest Closed e x y = closed_alone rest e x y
stops_unique rest Unfinished Closed x y = sym (closed_alone rest Unfinished y x)
stops_unique rest Unfinished Unfinished x y = refl
stops_unique rest Unfinished BadHead x y = absurd (cut_or_bad rest x y)
stops_unique rest Unfinished TooLarge x y = absurd (cut_or_large rest x y)
stops_unique rest Unfinished Hundred x y = absurd y
stops_unique rest BadHead Closed x y = sym (closed_alone rest BadHead y x)
stops_unique rest BadHead Unfinished x y = absurd (cut_or_bad rest y x)
stops_unique rest BadHead BadHead x y = refl
stops_unique rest BadHead TooLarge x y = absurd (bad_or_large rest x y)
stops_unique rest BadHead Hundred x y = absurd y
stops_unique rest TooLarge Closed x y = sym (closed_alone rest TooLarge y x)
stops_unique rest TooLarge Unfinished x y = absurd (cut_or_large rest y x)
stops_unique rest TooLarge BadHead x y = absurd (bad_or_large rest y x)
stops_unique rest TooLarge TooLarge x y = refl
stops_unique rest TooLarge Hundred x y = absurd y
stops_unique rest Hundred e x y = absurd x

-- an end before the hundredth message
few_ends : (n : ℕ) (rest : List ℕ) (e : End) → EndsAt n rest e → (e ≡ Hundred) × (n ≡ MAX_MESSAGES) ⊎ (n < MAX_MESSAGES) × Stops rest e
few_ends n rest Hundred x = inl (refl, x)
few_ends n rest Closed x = inr x
few_ends n rest Unfinished x = inr x
few_ends n rest BadHead x = inr x
few_ends n rest TooLarge x = inr x

-- after this many messages one end stands at a place
ends_unique : (n : ℕ) (rest : List ℕ) (d e : End) → EndsAt n rest d → EndsAt n rest e → d ≡ e
ends_unique n rest d e x y = elim (few_ends n rest d x) [
  | inl a ↦ elim (few_ends n rest e y) [ inl b ↦ a.0 ∙ sym b.0 | inr b ↦ absurd (omega (arith, a.1, b.0)) ]
  | inr a ↦ elim (few_ends n rest e y) [ inl b ↦ absurd (omega (arith, a.0, b.1)) | inr b ↦ stops_unique rest d e a.1 b.1 ]
]

-- no end comes after more than a hundred messages
at_most : (n : ℕ) (rest : List ℕ) (e : End) → EndsAt n rest e → n ≤ MAX_MESSAGES
at_most n rest e x = elim (few_ends n rest e x) [ inl a ↦ omega (arith, a.1) | inr a ↦ omega (arith, a.0) ]

-- where one list ends the other does not go on
ends_or_goes_on : (n more : ℕ) (rest after last : List ℕ) (m : Message) (d e : End) → EndsAt n rest d → BeginsWith rest m after → EndsAt (n + suc more) last e → ⊥
ends_or_goes_on n more rest after last m d e x b y = elim (few_ends n rest d x) [
  | inl a ↦ let k = at_most (n + suc more) last e y in omega (arith, a.1, k)
  | inr a ↦ begins_or_stops rest m after d b a.1
]

-- one list of messages, and one end, from a place on
pub splits_unique : (n : ℕ) (bytes : List ℕ) (ms ks : List Message) (r q : List ℕ) (d e : End) → Splits bytes ms r → Splits bytes ks q
    → EndsAt (n + length ms) r d → EndsAt (n + length ks) q e → (ms ≡ ks) × (d ≡ e)
splits_unique n bytes [] [] r q d e s t x y =
    (refl, ends_unique (n + 0) bytes d e (subst (λ (v : List ℕ). EndsAt (n + 0) v d) (sym s) x) (subst (λ (v : List ℕ). EndsAt (n + 0) v e) (sym t) y))
splits_unique n bytes [] (k ∷ ks) r q d e s t x y =
    absurd (ends_or_goes_on n (length ks) bytes t.0 q k d e (subst (λ (i : ℕ). EndsAt i bytes d) (add-zero n) (subst (λ (v : List ℕ). EndsAt (n + 0) v d) (sym s) x)) t.1 y)
splits_unique n bytes (m ∷ ms) [] r q d e s t x y =
    absurd (ends_or_goes_on n (length ms) bytes s.0 r m e d (subst (λ (i : ℕ). EndsAt i bytes e) (add-zero n) (subst (λ (v : List ℕ). EndsAt (n + 0) v e) (sym t) y)) s.1 x)
splits_unique n bytes (m ∷ ms) (k ∷ ks) r q d e s t x y =
    let one = begins_unique bytes m k s.0 t.0 s.1 t.1 in
    let i : n + suc (length ms) ≡ suc n + length ms = omega arith in
    let j : n + suc (length ks) ≡ suc n + length ks = omega arith in
    let others = splits_unique (suc n) s.0 ms ks r q d e s.2 (subst (λ (v : List ℕ). Splits v ks q) (sym one.1) t.2)
    (subst (λ (c : ℕ). EndsAt c r d) i x) (subst (λ (c : ℕ). EndsAt c q e) j y) in
    (cc (one.0, others.0), others.1)

-- a stream has one list of messages, and one end
pub messages_unique : (bytes : List ℕ) (ms ks : List Message) (d e : End) → Messages bytes ms d → Messages bytes ks e → (ms ≡ ks) × (d ≡ e)
messages_unique bytes ms ks d e x y =
    splits_unique 0 bytes ms ks x.rest y.rest d e x.split y.split
    (subst (λ (c : ℕ). EndsAt c x.rest d) (sym (zero-add (length ms))) x.ends) (subst (λ (c : ℕ). EndsAt c y.rest e) (sym (zero-add (length ks))) y.ends)
