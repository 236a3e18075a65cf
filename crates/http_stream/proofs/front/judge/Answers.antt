use Rattle.std.proofs.Common.{◌≡◌, ◌<◌, ◌≤◌, ◌+◌, ◌-◌, ℕ, List, ◌++◌, inl, ap, subst, ◌∙◌, take, min, map, length, arith}
use Rattle.http_stream.proofs.Common.{take_min, length-take, header_bytes, HeaderSpan, RequestSpans, MAX_HEAD_BYTES, MAX_BODY_BYTES, Framing, Length, Wrong, Long, Whole, Open, window, HeadFramed, framing_of, FindsHead, Judges}
use Rattle.http_stream.specs.declared.front.Head.{Head}
use Rattle.http_stream.specs.declared.front.Head.TheVariants.{Found, Malformed, Missing}
use Rattle.http_stream.proofs.WholeStream.{framing_read, framed_stays, whole_message, cut_message, open_message, long_message, malformed_message}
use Rattle.http_stream.proofs.front.judge.Goals as goal

-- the code's window is the stream's
cut_is_window : (n : ℕ) (buf : List ℕ) → n ≡ min MAX_HEAD_BYTES (length buf) → take n buf ≡ window buf
cut_is_window n buf e = ap (λ (k : ℕ). take k buf) e ∙ take_min MAX_HEAD_BYTES buf

-- what was found in the cut was found in the window
found_in : (n : ℕ) (buf : List ℕ) (headers : List HeaderSpan) (head : Head) → n ≡ min MAX_HEAD_BYTES (length buf)
    → FindsHead (take n buf) headers head → FindsHead (window buf) headers head
found_in n buf headers head e f = subst (λ (w : List ℕ). FindsHead w headers head) (cut_is_window n buf e) f

-- what the cut says of the body, the window says
said_in : (n : ℕ) (buf : List ℕ) (headers : List HeaderSpan) (spans : RequestSpans) (f : Framing) → n ≡ min MAX_HEAD_BYTES (length buf)
    → f ≡ framing_of spans.version (map (header_bytes (take n buf)) (take spans.headers headers))
    → f ≡ framing_of spans.version (map (header_bytes (window buf)) (take spans.headers headers))
said_in n buf headers spans f e s =
    subst (λ (w : List ℕ). f ≡ framing_of spans.version (map (header_bytes w) (take spans.headers headers))) (cut_is_window n buf e) s

-- a head of which this is said stands in the stream
framed : (n : ℕ) (buf more : List ℕ) (headers : List HeaderSpan) (spans : RequestSpans) (f : Framing) → n ≡ min MAX_HEAD_BYTES (length buf)
    → FindsHead (take n buf) headers (Found spans)
    → f ≡ framing_of spans.version (map (header_bytes (take n buf)) (take spans.headers headers))
    → HeadFramed (buf ++ more) f
framed n buf more headers spans f e found said =
    let h = found_in n buf headers (Found spans) e found in
    framed_stays buf more _ h.0 f h.1.reads (framing_read (window buf) headers spans h.0 f h.1 (said_in n buf headers spans f e said))

pub returns-in-Wrong : goal.returns-in-Wrong
returns-in-Wrong c more =
    inl (framed c.min.result c.args.buf.now more c.find_head.new.headers c.in-Found.spans Wrong c.min.ensures c.in-Found.ensures c.in-Wrong.ensures.value)

pub returns-in-Long : goal.returns-in-Long
returns-in-Long c more =
    inl (framed c.min.result c.args.buf.now more c.find_head.new.headers c.in-Found.spans Long c.min.ensures c.in-Found.ensures c.in-Long.ensures.value)

-- the body has not come whole
cut_short : (n : ℕ) (buf : List ℕ) (headers : List HeaderSpan) (spans : RequestSpans) (body : ℕ) → n ≡ min MAX_HEAD_BYTES (length buf)
    → FindsHead (take n buf) headers (Found spans)
    → Length body ≡ framing_of spans.version (map (header_bytes (take n buf)) (take spans.headers headers))
    → body ≤ MAX_BODY_BYTES → length buf < spans.len + body → Judges buf Open
cut_short n buf headers spans body e found said small cut =
    let h = found_in n buf headers (Found spans) e found in
    cut_message buf headers spans h.0 body h.1 h.2 (framing_read (window buf) headers spans h.0 (Length body) h.1 (said_in n buf headers spans (Length body) e said)) small cut

pub returns-then-buf-spans : goal.returns-then-buf-spans
returns-then-buf-spans c =
    cut_short c.min.result c.args.buf.now c.find_head.new.headers c.in-Found.spans c.in-Length.body c.min.ensures c.in-Found.ensures c.in-Length.ensures.value
    c.in-Length.ensures.small (omega (arith, c.if-buf-spans.true))

-- the message has come whole
complete : (n : ℕ) (buf : List ℕ) (headers : List HeaderSpan) (spans : RequestSpans) (body : ℕ) → n ≡ min MAX_HEAD_BYTES (length buf)
    → FindsHead (take n buf) headers (Found spans)
    → Length body ≡ framing_of spans.version (map (header_bytes (take n buf)) (take spans.headers headers))
    → spans.len + body ≤ length buf → Judges buf (Whole (record { method = spans.method; target = spans.path; head = spans.len; body = body }))
complete n buf headers spans body e found said fits =
    let h = found_in n buf headers (Found spans) e found in
    whole_message buf headers spans h.0 body h.1 h.2 (framing_read (window buf) headers spans h.0 (Length body) h.1 (said_in n buf headers spans (Length body) e said)) fits

-- the head and the body are within the buffer
inside : (n : ℕ) (buf : List ℕ) (len body : ℕ) → len ≤ length (take n buf) → body ≤ length buf - len → len + body ≤ length buf
inside n buf len body a b = omega (arith, length-take n buf)

pub returns-else-buf-spans : goal.returns-else-buf-spans
returns-else-buf-spans c =
    complete c.min.result c.args.buf.now c.find_head.new.headers c.in-Found.spans c.in-Length.body c.min.ensures c.in-Found.ensures c.in-Length.ensures.value
    (inside c.min.result c.args.buf.now c.in-Found.spans.len c.in-Length.body c.in-Found.ensures.2.section.len_fits c.if-buf-spans.false)

pub returns-in-Malformed : goal.returns-in-Malformed
returns-in-Malformed c more =
    let f = found_in c.min.result c.args.buf.now c.find_head.new.headers Malformed c.min.ensures c.in-Malformed.ensures in
    malformed_message c.args.buf.now f.0 f.1 more

pub returns-then-buf-lt-MAX_HEAD_BYTES : goal.returns-then-buf-lt-MAX_HEAD_BYTES
returns-then-buf-lt-MAX_HEAD_BYTES c =
    let f = found_in c.min.result c.args.buf.now c.find_head.new.headers Missing c.min.ensures c.in-Missing.ensures in
    open_message c.args.buf.now f.0 f.1 c.if-buf-lt-MAX_HEAD_BYTES.true

pub returns-else-buf-lt-MAX_HEAD_BYTES : goal.returns-else-buf-lt-MAX_HEAD_BYTES
returns-else-buf-lt-MAX_HEAD_BYTES c more =
    let f = found_in c.min.result c.args.buf.now c.find_head.new.headers Missing c.min.ensures c.in-Missing.ensures in
    long_message c.args.buf.now f.0 f.1 c.if-buf-lt-MAX_HEAD_BYTES.false more
