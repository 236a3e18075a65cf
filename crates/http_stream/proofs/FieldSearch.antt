-- Fields that are looked through one by one.
use Rattle.std.proofs.Common.{◌≡◌, ℕ, suc, ◌+◌, ◌<◌, ◌≤◌, Bool, true, false, ◌||◌, List, [], ◌++◌, length, map, drop, get_or, Option, Some, None, sym, ap, subst, drop-cons, add-one}
use Rattle.http_stream.proofs.Common.{drop_all, list_any, option_map, option_to_list, Span, HeaderSpan, header_bytes, span_bytes, lengths, length_of, framing_by}

-- the next of them is looked at
any_next : {X Y : Type 0} (test : Y → Bool) (f : X → Y) (xs : List X) (i : ℕ) (d : X) (b : Bool) → list_any test (map f (drop i xs)) ≡ list_any test (map f xs) → i < length xs
    → test (f (get_or xs i d)) ≡ b → (b || list_any test (map f (drop (suc i) xs))) ≡ list_any test (map f xs)
any_next test f xs i d b so lt is =
    subst (λ (v : Bool). (v || list_any test (map f (drop (suc i) xs))) ≡ list_any test (map f xs)) is
    (subst (λ t. list_any test (map f t) ≡ list_any test (map f xs)) (drop-cons xs i d lt) so)

-- it passes the test
pub any_found : {X Y : Type 0} (test : Y → Bool) (f : X → Y) (xs : List X) (i : ℕ) (d : X) → list_any test (map f (drop i xs)) ≡ list_any test (map f xs) → i < length xs
    → test (f (get_or xs i d)) ≡ true → true ≡ list_any test (map f xs)
any_found test f xs i d so lt is = any_next test f xs i d true so lt is

-- it does not, and the others are left
pub any_left : {X Y : Type 0} (test : Y → Bool) (f : X → Y) (xs : List X) (i : ℕ) (d : X) → list_any test (map f (drop i xs)) ≡ list_any test (map f xs) → i < length xs
    → test (f (get_or xs i d)) ≡ false → list_any test (map f (drop (i + 1) xs)) ≡ list_any test (map f xs)
any_left test f xs i d so lt is = subst (λ (n : ℕ). list_any test (map f (drop n xs)) ≡ list_any test (map f xs)) (sym (add-one i)) (any_next test f xs i d false so lt is)

-- none is left
pub any_none : {X Y : Type 0} (test : Y → Bool) (f : X → Y) (xs : List X) (i : ℕ) → list_any test (map f (drop i xs)) ≡ list_any test (map f xs) → length xs ≤ i
    → false ≡ list_any test (map f xs)
any_none test f xs i so past = subst (λ t. list_any test (map f t) ≡ list_any test (map f xs)) (drop_all i xs past) so

-- the lengths that were found are all there are
all_lengths : (buf : List ℕ) (headers : List HeaderSpan) (i : ℕ) (found kept : Option Span) → found ≡ kept → length headers ≤ i
    → option_to_list (option_map (span_bytes buf) found) ++ lengths (map (header_bytes buf) (drop i headers)) ≡ lengths (map (header_bytes buf) headers)
    → option_to_list (option_map (span_bytes buf) kept) ++ [] ≡ lengths (map (header_bytes buf) headers)
all_lengths buf headers i found kept e past same =
    subst (λ (o : Option Span). option_to_list (option_map (span_bytes buf) o) ++ [] ≡ lengths (map (header_bytes buf) headers)) e
    (subst (λ t. option_to_list (option_map (span_bytes buf) found) ++ lengths (map (header_bytes buf) t) ≡ lengths (map (header_bytes buf) headers)) (drop_all i headers past) same)

-- none was found
pub no_length : (buf : List ℕ) (headers : List HeaderSpan) (i : ℕ) (found : Option Span) → found ≡ None → length headers ≤ i
    → option_to_list (option_map (span_bytes buf) found) ++ lengths (map (header_bytes buf) (drop i headers)) ≡ lengths (map (header_bytes buf) headers)
    → framing_by [] ≡ framing_by (lengths (map (header_bytes buf) headers))
no_length buf headers i found e past same = ap framing_by (all_lengths buf headers i found None e past same)

-- one was found
pub one_length : (buf : List ℕ) (headers : List HeaderSpan) (i : ℕ) (found : Option Span) (value : Span) → found ≡ Some value → length headers ≤ i
    → option_to_list (option_map (span_bytes buf) found) ++ lengths (map (header_bytes buf) (drop i headers)) ≡ lengths (map (header_bytes buf) headers)
    → length_of (span_bytes buf value) ≡ framing_by (lengths (map (header_bytes buf) headers))
one_length buf headers i found value e past same = ap framing_by (all_lengths buf headers i found (Some value) e past same)
