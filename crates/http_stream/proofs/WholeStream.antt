-- What the window says, and what that says of the whole stream.
use Rattle.std.proofs.Common.{◌≡◌, ℕ, ◌+◌, ◌-◌, ◌<◌, ◌≤◌, inl, inr, true, false, List, ◌++◌, length, take, drop, map, slice_range, refl, sym, ap, ◌∙◌, subst, arith, append_assoc, length-append}
use Rattle.http_stream.proofs.Common.{drop-append_seam, drop-append-add, length-take, length-drop, take-append-drop, take-append-le, drop-append-le, RequestHead, print_request, ReadsRequest, HasNoRequest, NeverHasRequest, span_bytes, IsRequestAt, IsRequestWithin, header_bytes, Span, HeaderSpan, RequestSpans, MAX_HEAD_BYTES, MAX_BODY_BYTES, Framing, Length, Whole, Stop, Open, BadHead, TooLarge, window, HeadFramed, framing, framing_of, has_line, IsMalformed, Judges}
use Rattle.http_stream.proofs.Windows.{head_stays, malformed_stays}

-- what the spans say is what the head says
pub framing_read : (buf : List ℕ) (headers : List HeaderSpan) (spans : RequestSpans) (h : RequestHead) (f : Framing)
    → IsRequestAt buf headers spans h → f ≡ framing_of spans.version (map (header_bytes buf) (take spans.headers headers)) → framing h ≡ f
framing_read buf headers spans h f at e =
    sym (e ∙ ap (λ (m : ℕ). framing_of m (map (header_bytes buf) (take spans.headers headers))) at.version
    ∙ ap (framing_of h.minor) at.fields)

-- a head that is framed in the window is in the stream
pub framed_stays : (buf more after : List ℕ) (h : RequestHead) (f : Framing) → ReadsRequest (window buf) h after → framing h ≡ f → HeadFramed (buf ++ more) f
framed_stays buf more after h f r e = (h, head_stays buf more after h r, e)

-- a part of the window is that part of the buffer
pub part_of_front : (w z : List ℕ) (s : Span) → s.start ≤ s.end → s.end ≤ length w → span_bytes (w ++ z) s ≡ span_bytes w s
part_of_front w z s o e =
    let front : s.start ≤ length w = omega arith in
    let l = length-drop s.start w in
    let inside : s.end - s.start ≤ length (drop s.start w) = omega (arith, l) in
    ap (take (s.end - s.start)) (drop-append-le s.start w z front) ∙ take-append-le (s.end - s.start) (drop s.start w) z inside

-- a part of the window is that part of the buffer
pub part_of_window : (n : ℕ) (buf : List ℕ) (s : Span) → s.start ≤ s.end → s.end ≤ length (take n buf) → span_bytes buf s ≡ span_bytes (take n buf) s
part_of_window n buf s o e =
    ap (λ (t : List ℕ). span_bytes t s) (sym (take-append-drop n buf)) ∙ part_of_front (take n buf) (drop n buf) s o e

-- a buffer after a front, cut at n
pub cut_after : (p y : List ℕ) (n : ℕ) → p ++ y ≡ p ++ slice_range (p ++ y) (length p) (length p + n) ++ drop (length p + n) (p ++ y)
cut_after p y n =
    let d : length p + n - length p ≡ n = omega arith in
    simp (drop-append_seam, drop-append-add, d, append_assoc, take-append-drop)

-- a buffer that begins with a front, cut at n after it
pub cut_at : (buf p y : List ℕ) (k n : ℕ) → buf ≡ p ++ y → k ≡ length p → buf ≡ p ++ slice_range buf k (k + n) ++ drop (k + n) buf
cut_at buf p y k n e l =
    subst (λ (b : List ℕ). b ≡ p ++ slice_range b k (k + n) ++ drop (k + n) b) (sym e)
    (subst (λ (j : ℕ). p ++ y ≡ p ++ slice_range (p ++ y) j (j + n) ++ drop (j + n) (p ++ y)) (sym l) (cut_after p y n))

-- a part has the length that was asked for
length_of_part : (buf : List ℕ) (k n : ℕ) → k + n ≤ length buf → length (slice_range buf k (k + n)) ≡ n
length_of_part buf k n fits =
    let l = length-take (k + n - k) (drop k buf) in
    let m = length-drop k buf in
    omega (arith, l, m)

-- what stands at the front of a window stands at the front of the buffer
pub whole_front : (n : ℕ) (buf p r : List ℕ) → take n buf ≡ p ++ r → buf ≡ p ++ (r ++ drop n buf)
whole_front n buf p r e = sym (take-append-drop n buf) ∙ ap (λ (t : List ℕ). t ++ drop n buf) e ∙ append_assoc p r (drop n buf)

-- the whole message
pub whole_message : (buf : List ℕ) (headers : List HeaderSpan) (spans : RequestSpans) (h : RequestHead) (n : ℕ)
    → IsRequestAt (window buf) headers spans h → IsRequestWithin (window buf) headers spans → framing h ≡ Length n
    → spans.len + n ≤ length buf → Judges buf (Whole (record { method = spans.method; target = spans.path; head = spans.len; body = n }))
whole_message buf headers spans h n at within e fits =
    let p = print_request h in
    let r = drop spans.len (window buf) in
    let body = slice_range buf spans.len (spans.len + n) in
    let cut = cut_at buf p (r ++ drop MAX_HEAD_BYTES buf) spans.len n (whole_front MAX_HEAD_BYTES buf p r at.reads.1) at.len in
    let inside = within.section.len_fits in (
      record { head = h; body = body },
      record {
        method = part_of_window MAX_HEAD_BYTES buf spans.method within.method.0 (omega arith) ∙ at.method;
        target = part_of_window MAX_HEAD_BYTES buf spans.path within.path.0 (omega arith) ∙ at.path;
        method_within = (within.method.0, omega (arith, within.method.1));
        target_within = (within.path.0, omega (arith, within.path.1));
        head = at.len;
        fits = fits;
        body = refl;
      },
      λ more. record {
        head = head_stays buf more r h at.reads;
        framed = e ∙ ap Length (sym (length_of_part buf spans.len n fits));
        whole = ap (λ (t : List ℕ). t ++ more) cut ∙ append_assoc (p ++ body) (drop (spans.len + n) buf) more;
      },
    )

-- the body is cut short
pub cut_message : (buf : List ℕ) (headers : List HeaderSpan) (spans : RequestSpans) (h : RequestHead) (n : ℕ)
    → IsRequestAt (window buf) headers spans h → IsRequestWithin (window buf) headers spans → framing h ≡ Length n
    → n ≤ MAX_BODY_BYTES → length buf < spans.len + n → Judges buf Open
cut_message buf headers spans h n at within e small cut =
    let inside = within.section.len_fits in
    let l = length-take MAX_HEAD_BYTES buf in
    (omega (arith, l, inside), λ some. inl (h, (drop spans.len (window buf), at.reads), n, e, omega (arith, at.len)))

-- no head, and no fault yet
pub open_message : (buf : List ℕ) → HasNoRequest (window buf) → (IsMalformed (window buf) → ⊥) → length buf < MAX_HEAD_BYTES → Judges buf Open
open_message buf none fine short = (omega arith, λ some. inr (record { headless = none; well_formed = fine }, short, some))

-- a window is full, and has no head
pub long_message : (buf : List ℕ) → HasNoRequest (window buf) → (IsMalformed (window buf) → ⊥) → MAX_HEAD_BYTES ≤ length buf → Judges buf (Stop TooLarge)
long_message buf none fine long more =
    let same = take-append-le MAX_HEAD_BYTES buf more long in
    inr (
      record {
        headless = subst HasNoRequest (sym same) none;
        well_formed = subst (λ (t : List ℕ). IsMalformed t → ⊥) (sym same) fine;
      },
      simp length-append (omega arith),
    )

-- a line has come, and no head can
pub malformed_message : (buf : List ℕ) → has_line false (window buf) ≡ true → NeverHasRequest (window buf) → Judges buf (Stop BadHead)
malformed_message buf line never more = inr (malformed_stays buf more line never)
