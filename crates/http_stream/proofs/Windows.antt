-- A head, a fault and their absence in a window stay as more bytes come.
use Rattle.std.proofs.Common.{◌≡◌, ◌≢◌, ℕ, zero, suc, ◌*◌, ◌<◌, ◌≤◌, inl, inr, Bool, true, false, ◌||◌, not, ◌==◌, List, [], ◌∷◌, ◌++◌, length, take, drop, drop-cons, get_or, if◌then◌else◌, refl, sym, ap, ◌∙◌, subst, arith, append_assoc, length-append, All}
use Rattle.http_stream.proofs.Common.{flat_map, nat_tests, drop_all, is_uri_byte, AllPass, LineEnd, crlf, lf, print_end, print_blank, Field, print_field, IsField, RequestHead, ReadsRequest, HasNoRequest, NeverHasRequest, MayBecomeRequest, EndsInTarget, RequestExceeds, ReadsRequest-append, print_request-append, MAX_HEAD_BYTES, window, HeadAt, has_line, IsMalformed}
use Rattle.std.proofs.lemmas.List.Elements.{All-head, All-tail}
use Rattle.httparse.specs.Grammar.{is_token_byte}

-- ---- the window grows

-- a front grows at its end
pub take_grows : (n : ℕ) (buf more : List ℕ) → (x : List ℕ) × (take n (buf ++ more) ≡ take n buf ++ x)
take_grows zero buf more = ([], refl)
take_grows (suc n) [] more = (take (suc n) more, refl)
take_grows (suc n) (b ∷ buf) more = let rest = take_grows n buf more in (rest.0, ap (λ (t : List ℕ). b ∷ t) rest.1)

-- a head stays as more bytes come
pub head_stays : (buf more after : List ℕ) (h : RequestHead) → ReadsRequest (window buf) h after → HeadAt (buf ++ more) h
head_stays buf more after h r =
    let g = take_grows MAX_HEAD_BYTES buf more in
    (after ++ g.0, subst (λ (t : List ℕ). ReadsRequest t h (after ++ g.0)) (sym g.1) (ReadsRequest-append (window buf) h after g.0 r))

-- ---- a line that has come stays

-- a line stays as more bytes come
pub line_stays : (begun : Bool) (xs ys : List ℕ) → has_line begun xs ≡ true → has_line begun (xs ++ ys) ≡ true
line_stays begun [] ys h = cc
line_stays true (x ∷ xs) ys h =
    elim (x == 10) as (λ v. (if v then true else has_line true xs) ≡ true → (if v then true else has_line true (xs ++ ys)) ≡ true)
    [ true ↦ λ e. e | false ↦ λ e. line_stays true xs ys e ] h
line_stays false (x ∷ xs) ys h =
    elim (x == 10) as (λ v. (if v then has_line false xs else has_line (not (x == 13)) xs) ≡ true
    → (if v then has_line false (xs ++ ys) else has_line (not (x == 13)) (xs ++ ys)) ≡ true)
    [ true ↦ λ e. line_stays false xs ys e | false ↦ λ e. line_stays (not (x == 13)) xs ys e ] h

-- what can be no head can be none as more bytes come
pub malformed_stays : (buf more : List ℕ) → has_line false (window buf) ≡ true → NeverHasRequest (window buf)
    → HasNoRequest (window (buf ++ more)) × IsMalformed (window (buf ++ more))
malformed_stays buf more line never =
    let g = take_grows MAX_HEAD_BYTES buf more in
    subst (λ (t : List ℕ). HasNoRequest t × IsMalformed t) (sym g.1)
    (never g.0, (line_stays false (window buf) g.0 line, λ more' h r. never (g.0 ++ more') h [] (subst (λ (t : List ℕ). ReadsRequest t h []) (append_assoc (window buf) g.0 more') r)))

-- ---- a line that is looked for byte by byte

-- where a line has begun, a byte LF ends it
pub line_found : (begun : Bool) (xs : List ℕ) (i : ℕ) → has_line begun (drop i xs) ≡ has_line false xs → i < length xs → get_or xs i 0 ≡ 10 → begun ≡ true → true ≡ has_line false xs
line_found begun xs i so lt ten b =
    let next : has_line begun (get_or xs i 0 ∷ drop (suc i) xs) ≡ has_line false xs = subst (λ (t : List ℕ). has_line begun t ≡ has_line false xs) (drop-cons xs i 0 lt) so in
    let ended : has_line begun (10 ∷ drop (suc i) xs) ≡ has_line false xs = subst (λ (x : ℕ). has_line begun (x ∷ drop (suc i) xs) ≡ has_line false xs) ten next in
    subst (λ (v : Bool). has_line v (10 ∷ drop (suc i) xs) ≡ has_line false xs) b ended

-- after the last byte no line was found
pub line_lacks : (begun : Bool) (xs : List ℕ) (i : ℕ) → has_line begun (drop i xs) ≡ has_line false xs → length xs ≤ i → false ≡ has_line false xs
line_lacks begun xs i so past = subst (λ (t : List ℕ). has_line begun t ≡ has_line false xs) (drop_all i xs past) so

-- ---- a first line without its end

abbrev NoLf : List ℕ → Type 0
NoLf xs = (i : ℕ) → i < length xs → get_or xs i 0 ≢ 10

-- another byte than LF
not_equal : (x : ℕ) → x ≢ 10 → (x == 10) ≡ false
not_equal x h = grind (arith, nat_tests)

-- without LF there is no line
no_line : (xs : List ℕ) (begun : Bool) → NoLf xs → has_line begun xs ≡ false
no_line [] begun h = refl
no_line (x ∷ xs) begun h =
    let e : (x == 10) ≡ false = not_equal x (h 0 (omega arith)) in
    rw e (no_line xs (begun || not (x == 13)) (λ i lt. h (suc i) (omega arith)))

-- two lists without LF, one after the other
no_lf-append : (xs ys : List ℕ) → NoLf xs → NoLf ys → NoLf (xs ++ ys)
no_lf-append [] ys h k i lt = k i lt
no_lf-append (x ∷ xs) ys h k zero lt = h zero (omega arith)
no_lf-append (x ∷ xs) ys h k (suc i) lt = no_lf-append xs ys (λ j l. h (suc j) (omega arith)) k i (omega arith)

-- another byte than LF before such a list
no_lf-cons : (x : ℕ) (xs : List ℕ) → x ≢ 10 → NoLf xs → NoLf (x ∷ xs)
no_lf-cons x xs n h zero lt = n
no_lf-cons x xs n h (suc i) lt = h i (omega arith)

-- a method has no LF
token_no_lf : (xs : List ℕ) → AllPass is_token_byte xs → NoLf xs
unfolding is_token_byte
token_no_lf xs h i lt = λ e. let t : is_token_byte 10 ≡ true = subst (λ (b : ℕ). is_token_byte b ≡ true) e (h i 0 lt) in cc

-- a target has no LF
uri_no_lf : (xs : List ℕ) → AllPass is_uri_byte xs → NoLf xs
uri_no_lf xs h i lt = λ e. let t : is_uri_byte 10 ≡ true = subst (λ (b : ℕ). is_uri_byte b ≡ true) e (h i 0 lt) in cc

-- empty lines are no line
blank_line : (es : List LineEnd) (xs : List ℕ) → has_line false (print_blank es ++ xs) ≡ has_line false xs
blank_line [] xs = refl
blank_line (crlf ∷ es) xs = blank_line es xs
blank_line (lf ∷ es) xs = blank_line es xs

-- bytes that end within a target have no line
pub target_no_line : (buf : List ℕ) → EndsInTarget buf → has_line false buf ≡ false
target_no_line buf e =
    let word = e.1 ++ 32 ∷ e.2 in
    let eq : buf ≡ print_blank e.0 ++ word = e.5 ∙ append_assoc (print_blank e.0) e.1 (32 ∷ e.2) in
    rw eq (blank_line e.0 word ∙ no_line word false
    (no_lf-append e.1 (32 ∷ e.2) (token_no_lf e.1 e.3.1) (no_lf-cons 32 e.2 (omega arith) (uri_no_lf e.2 e.4))))

-- ---- what may become a head is not malformed

-- what may become a head is not malformed
pub may_be_well_formed : (buf : List ℕ) → MayBecomeRequest buf → IsMalformed buf → ⊥
may_be_well_formed buf (inl m) bad = bad.1 m.0 m.1 m.2
may_be_well_formed buf (inr e) bad = let f : has_line false buf ≡ false = target_no_line buf e in absurd (let g : true ≡ false = cc (bad.0) in cc)

-- ---- this many fields take more bytes

-- a line end has a byte
end_long : (e : LineEnd) → 1 ≤ length (print_end e)
end_long crlf = omega arith
end_long lf = omega arith

-- each field takes three bytes at least
fields_long : (fs : List Field) → All IsField fs → 3 * length fs ≤ length (flat_map print_field fs)
fields_long [] h = omega arith
fields_long (f ∷ fs) h =
    let one = (All-head IsField f fs h).name.0 in
    let more = fields_long fs (All-tail IsField f fs h) in
    let last = end_long f.end in
    simp length-append (omega arith)

-- a window has no more fields than the parser has room for
pub has_room : (buf : List ℕ) → length buf ≤ MAX_HEAD_BYTES → RequestExceeds 2800 buf → ⊥
has_room buf short x =
    let h = x.3 in
    let e = x.4.1 ∙ print_request-append h [] in
    let n = simp length-append at (ap length e) in
    let long = fields_long h.fields x.4.0.fields in
    let cut = simp length-append at (ap length x.2) in omega (arith, n, long, cut, x.5)
