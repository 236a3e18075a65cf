-- What the library writes into a width is `left` and `right`: each byte of a code is a character, and the fill is spaces.
use Rattle.std.proofs.Common.{◌≡◌, ℕ, zero, suc, ◌+◌, ◌-◌, ◌<◌, ◌≤◌, IsTrue, Bool, true, false, cond, ◌==◌, ◌&&◌, List, [], ◌∷◌, ◌++◌, length, replicate, refl, sym, ap, ◌∙◌, arith, append-nil}
use Rattle.reports.proofs.Common.{format_spec, styled_text, styled_decimal, is_char_start, decimal, first_so, second_so, repeat, list_all, encode_utf8, eqb-true, left, right}
use Rattle.std.specs.Fmt.{padded, padded_integral, take_chars, char_count}
use Rattle.std.proofs.lemmas.Str.{encode_ascii}
use Rattle.std.proofs.lemmas.Bool.Decides.{nat_tests}
use Rattle.spa.specs.Text.{is_code, is_code_byte}
use Rattle.spa.proofs.Texts.{code_bytes}

-- what a hole writes of a text under `<` and a width
abbrev pub text_in : ℕ → List ℕ → List ℕ
text_in w text = styled_text (format_spec 32 1 0 w 18446744073709551615) text

-- what it writes of a number under a width, where 1 stands for `<` and 3 for `>`
abbrev pub number_in : ℕ → ℕ → ℕ → List ℕ
number_in align w n = styled_decimal (format_spec 32 align 0 w 18446744073709551615) n

not_zero : (n : ℕ) → 0 < n → (n == 0) ≡ false
not_zero n h = grind (arith, nat_tests)

-- ---- texts

starts : (b : ℕ) → is_code_byte b ≡ true → is_char_start b ≡ true
starts b h = grind (arith, nat_tests)

count_code : (text : List ℕ) → list_all is_code_byte text ≡ true → char_count text ≡ length text
unfolding char_count
count_code [] a = refl
count_code (b ∷ text) a =
    ap (λ t. cond t 1 0 + char_count text) (starts b (first_so (is_code_byte b) (list_all is_code_byte text) a))
    ∙ ap (λ n. 1 + n) (count_code text (second_so (is_code_byte b) (list_all is_code_byte text) a)) ∙ omega arith

shown_by : (t z : Bool) (x y : List ℕ) → t ≡ true → z ≡ false → cond t (cond z [] x) y ≡ x
shown_by true false x y h k = refl
shown_by true true x y h k = cc
shown_by false z x y h k = cc

take_code : (n : ℕ) (text : List ℕ) → list_all is_code_byte text ≡ true → length text ≤ n → take_chars n text ≡ text
unfolding take_chars
take_code n [] a h = refl
take_code n (b ∷ text) a h =
    let first = starts b (first_so (is_code_byte b) (list_all is_code_byte text) a) in
    let rest = second_so (is_code_byte b) (list_all is_code_byte text) a in
    shown_by (is_char_start b) (n == 0) (b ∷ take_chars (n - 1) text) (b ∷ take_chars n text) first (not_zero n (omega (arith, h))) ∙ ap (λ l. b ∷ l) (take_code (n - 1) text rest (omega (arith, h)))

spaces : (n : ℕ) → repeat {A = ℕ} n (32 ∷ []) ≡ replicate n 32
spaces zero = refl
spaces (suc n) = ap (λ l. 32 ∷ l) (spaces n)

filled : (n : ℕ) → repeat n (encode_utf8 32) ≡ replicate n 32
filled n = ap (repeat n) (encode_ascii 32 (omega arith)) ∙ spaces n

short : (code : List ℕ) → is_code code ≡ true → length code ≤ 16
short code form = grind (arith, nat_tests)

padded_left : (w : ℕ) (code : List ℕ) → is_code code ≡ true → padded (format_spec 32 1 0 w 18446744073709551615) code ≡ left w code
unfolding padded
padded_left w code form =
    let shown : take_chars 18446744073709551615 code ≡ code = take_code 18446744073709551615 code (code_bytes code form) (omega (arith, short code form)) in
    ap (λ t. t ++ repeat (w - char_count t - 0) (encode_utf8 32)) shown
    ∙ ap (λ n. code ++ repeat n (encode_utf8 32)) (ap (λ n. w - n - 0) (count_code code (code_bytes code form)) ∙ omega arith)
    ∙ ap (λ l. code ++ l) (filled (w - length code))

unpadded : (w : ℕ) (text : List ℕ) → w ≡ 0 → text ≡ left w text
unpadded w text none = sym (append-nil text) ∙ ap (λ k. text ++ replicate k 32) (let e : 0 ≡ w - length text = omega arith in e)

either : (b : Bool) (x y z : List ℕ) → (b ≡ true → x ≡ z) → y ≡ z → cond (b && true) x y ≡ z
either true x y z whole padded = whole refl
either false x y z whole padded = padded

-- a code under `<` and a width
pub left_code : (w : ℕ) (written shown code : List ℕ) → written ≡ text_in w shown → shown ≡ code → IsTrue (is_code code) → written ≡ left w code
left_code w written shown code wrote is form = wrote ∙ ap (text_in w) is ∙ either (w == 0) code _ (left w code) (λ none. unpadded w code (eqb-true w 0 none)) (padded_left w code form)

-- ---- numbers

number_left : (w n : ℕ) → padded_integral (format_spec 32 1 0 w 18446744073709551615) false [] (decimal n) ≡ left w (decimal n)
unfolding padded_integral char_count
number_left w n =
    let d = decimal n in
    ap (λ l. d ++ l) (filled (w - length d - 0 - 0 - 0)) ∙ ap (λ k. d ++ replicate k 32) (let e : w - length d - 0 - 0 - 0 ≡ w - length d = omega arith in e)

number_right : (w n : ℕ) → padded_integral (format_spec 32 3 0 w 18446744073709551615) false [] (decimal n) ≡ right w n
unfolding padded_integral char_count
number_right w n =
    let d = decimal n in
    ap (λ l. (((l ++ []) ++ []) ++ []) ++ (d ++ repeat (w - length d - 0 - 0 - (w - length d - 0 - 0)) (encode_utf8 32))) (filled (w - length d - 0 - 0))
    ∙ ap (λ k. (((replicate k 32 ++ []) ++ []) ++ []) ++ (d ++ repeat (k - k) (encode_utf8 32))) (let e : w - length d - 0 - 0 ≡ w - length d = omega arith in e)
    ∙ ap (λ k. (((replicate (w - length d) 32 ++ []) ++ []) ++ []) ++ (d ++ repeat k (encode_utf8 32))) (let e : (w - length d) - (w - length d) ≡ 0 = omega arith in e)
    ∙ simp append-nil

-- a number under a width is padded
styled : (a w n : ℕ) → 0 < w → number_in a w n ≡ padded_integral (format_spec 32 a 0 w 18446744073709551615) false [] (decimal n)
styled a w n some = ap (λ b. cond ((b && true) && true) (decimal n) (padded_integral (format_spec 32 a 0 w 18446744073709551615) false [] (decimal n))) (not_zero w some)

-- a number under `<`
pub left_number : (w n : ℕ) → 0 < w → number_in 1 w n ≡ left w (decimal n)
left_number w n some = styled 1 w n some ∙ number_left w n

-- and under `>`
pub right_number : (w n : ℕ) → 0 < w → number_in 3 w n ≡ right w n
right_number w n some = styled 3 w n some ∙ number_right w n
