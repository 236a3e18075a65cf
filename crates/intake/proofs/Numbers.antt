-- Numbers have texts of ASCII, and are read from them.
use Rattle.std.proofs.Common.{sym, ◌≡◌, ℕ, zero, suc, ◌<◌, ◌≤◌, ◌^◌, ◌≢◌, ◌+◌, ℤ, pos, negsuc, List, [], ◌∷◌, length, map, set, get_or, Result, Ok, decimal, refl, ap, ◌∙◌, arith, below_more, length-set, get_or-set_other, get_or-set_same, to_z, of_z}
use Rattle.intake.proofs.Common.{Bor, get_or_default, COMPONENTS, MAX_QUOTA, signed_decimal, IsUtf8, ◌-ℤ◌, decimal_digit, parse-decimal, parse-signed_decimal, IsAscii-decimal, IsAscii-signed, ints, to_z-of_z, to_z_pos, InRange}
use Rattle.std.specs.Str.Parse.{ParsesUnsigned, ParsesSigned}
use Rattle.std.proofs.lemmas.Str.{IsUtf8-from_ascii}
use lib.Signed.{mag}
use mir.Syntax.{w64}

-- a quota is text
pub quota_utf8 : (n : ℕ) → n ≤ MAX_QUOTA → IsUtf8 (decimal n)
quota_utf8 n h = IsUtf8-from_ascii (decimal n) (IsAscii-decimal n (omega arith))

-- the text of a quota is read as it
pub quota_parsed : {E : Type 0} (n : ℕ) (bs : List ℕ) (r : Result ℕ E) → n ≤ MAX_QUOTA → bs ≡ decimal n → ParsesUnsigned 32 10 bs r → r ≡ Ok n
quota_parsed n bs r h e p = parse-decimal 32 n bs r (omega arith) (omega arith) e p

-- a number of a price is small
pub small : (n : ℤ) → InRange n → mag n < 2 ^ 63
small (pos n) h = omega (arith, ints)
small (negsuc n) h = omega (arith, ints)

-- a number of a price is text
pub number_utf8 : (n : ℤ) → InRange n → IsUtf8 (signed_decimal n)
number_utf8 n h = IsUtf8-from_ascii (signed_decimal n) (IsAscii-signed n (small n h))

-- the text of such a number is read as it
pub number_parsed : {E : Type 0} (n : ℤ) (bs : List ℕ) (r : Result ℤ E) → InRange n → bs ≡ signed_decimal n → ParsesSigned w64 10 bs r → r ≡ Ok n
number_parsed n bs r h e p = parse-signed_decimal w64 n bs r (record { sfits = small n h }) (small n h) e p

-- such a number is held in 64 bits
pub number_kept : (n : ℤ) → InRange n → to_z w64 (of_z w64 n) ≡ n
number_kept n h = to_z-of_z w64 n (record { sfits = small n h })

-- a digit is the text of its number
pub digit_read : (f : List ℕ) (d : ℕ) → length f ≡ 1 → 48 + d ≡ get_or f 0 0 → d < 10 → InRange (to_z w64 d) × (f ≡ signed_decimal (to_z w64 d))
digit_read [] d n e h = cc
digit_read (a ∷ b ∷ f) d n e h = absurd (omega arith)
digit_read (a ∷ []) d n e h =
    let is : to_z w64 d ≡ pos d = to_z_pos w64 d (omega arith) in
    rw is ((omega (arith, ints), omega (arith, ints)), ap (λ (b : ℕ). b ∷ []) (sym e) ∙ sym (decimal_digit d h))

-- and after a minus of the number below zero
pub minus_read : (f : List ℕ) (d : ℕ) → length f ≡ 2 → get_or f 0 0 ≡ 45 → 48 + d ≡ get_or f 1 0 → 0 < d → d < 10
    → InRange (to_z w64 (of_z w64 (pos 0 -ℤ to_z w64 d))) × (f ≡ signed_decimal (to_z w64 (of_z w64 (pos 0 -ℤ to_z w64 d))))
minus_read [] d n m e z h = cc
minus_read (a ∷ []) d n m e z h = cc
minus_read (a ∷ b ∷ c ∷ f) d n m e z h = absurd (omega arith)
minus_read (a ∷ b ∷ []) zero n m e z h = absurd (omega arith)
minus_read (a ∷ b ∷ []) (suc d) n m e z h =
    let is : pos 0 -ℤ to_z w64 (suc d) ≡ negsuc d = ap (λ (z : ℤ). pos 0 -ℤ z) (to_z_pos w64 (suc d) (omega arith)) ∙ omega (arith, ints) in
    let range : InRange (negsuc d) = (omega (arith, ints), omega (arith, ints)) in
    rw (ap (λ (z : ℤ). to_z w64 (of_z w64 z)) is ∙ number_kept (negsuc d) range) (range, ap (λ (x : ℕ). x ∷ b ∷ []) m ∙ ap (λ (x : ℕ). 45 ∷ x ∷ []) (sym e) ∙ ap (λ (l : List ℕ). 45 ∷ l) (sym (decimal_digit (suc d) h)))

-- the field at t, where the fields are the texts of numbers
pub field_is : (fs : List (Bor (List ℕ))) (v : List ℤ) (t : ℕ) (f : Bor (List ℕ)) → map (λ f. f.now) fs ≡ map signed_decimal v → t < length v → (get_or fs t f).now ≡ signed_decimal (get_or v t (pos 0))
field_is fs [] t f e h = absurd (omega arith)
field_is [] (x ∷ v) t f e h = cc
field_is (g ∷ fs) (x ∷ v) zero f e h = cc
field_is (g ∷ fs) (x ∷ v) (suc t) f e h = let rest : map (λ (f : Bor (List ℕ)). f.now) fs ≡ map signed_decimal v = cc in field_is fs v t f rest (omega arith)

-- fields of which each is the text of its number
pub fields_are : (fs : List (Bor (List ℕ))) (v : List ℤ) → length fs ≡ length v → ((k : ℕ) (f : Bor (List ℕ)) → k < length v → (get_or fs k f).now ≡ signed_decimal (get_or v k (pos 0))) → map (λ f. f.now) fs ≡ map signed_decimal v
fields_are [] [] n h = refl
fields_are [] (x ∷ v) n h = absurd (omega arith)
fields_are (g ∷ fs) [] n h = absurd (omega arith)
fields_are (g ∷ fs) (x ∷ v) n h =
    let first : g.now ≡ signed_decimal x = h 0 g (omega arith) in
    let rest : map (λ (f : Bor (List ℕ)). f.now) fs ≡ map signed_decimal v = fields_are fs v (omega arith) (λ k f l. h (suc k) f (omega arith)) in
    cc

-- what the first t fields were read as
pub record AreRead (fs : List (Bor (List ℕ))) (v : List ℤ) (t : ℕ) : Type 0 where
  pub numbers : length v ≡ COMPONENTS
  pub range : (k : ℕ) → k < t → InRange (get_or v k (pos 0))
  pub texts : (k : ℕ) (f : Bor (List ℕ)) → k < t → (get_or fs k f).now ≡ signed_decimal (get_or v k (pos 0))

-- one field more
pub read_more : (fs : List (Bor (List ℕ))) (v : List ℤ) (t : ℕ) (n : ℤ) (d : Bor (List ℕ)) → t < COMPONENTS → t < length fs → AreRead fs v t → InRange n → (get_or fs t d).now ≡ signed_decimal n
    → AreRead fs (set v t (to_z w64 (of_z w64 n))) (t + 1)
read_more fs v t n d h l r range is =
    let within : t < length v = omega (arith, r.numbers) in
    rw (number_kept n range) (record {
      numbers = length-set v t n ∙ r.numbers;
      range = below_more (λ k. InRange (get_or (set v t n) k (pos 0))) t (λ k i. let ne : k ≢ t = omega arith in rw get_or-set_other (r.range k i)) (rw get_or-set_same range);
      texts = λ k f i. below_more (λ k. (get_or fs k f).now ≡ signed_decimal (get_or (set v t n) k (pos 0))) t
          (λ k i. let ne : k ≢ t = omega arith in rw get_or-set_other (r.texts k f i))
          (rw get_or-set_same (ap (λ (b : Bor (List ℕ)). b.now) (get_or_default fs t f d l) ∙ is)) k i;
    })
