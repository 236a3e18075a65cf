-- What a path finds in the rows of a router.
use Rattle.std.proofs.Common.{◌≡◌, ℕ, zero, suc, ◌-◌, ◌==◌, ◌⊎◌, inl, inr, Bool, true, false, cond, not, List, [], ◌∷◌, ◌++◌, length, Option, Some, None, is_some, nat_lt, ◌&&◌, if◌then◌else◌, refl, sym, subst, ap, ◌∙◌, arith}
use Rattle.http_api.proofs.Common.{eqb-true, all_ascii_digits, digits_value, first, or_else, has_slash, own, step, slash, RowsOf, Numbers, is_segment, fits}
use Rattle.std.specs.Char.{is_ascii_digit}
use Rattle.matchit.specs.Seek.{seek, param_step}

-- the rows that go on with these bytes
abbrev pub steps : {K : Type 0} → List ℕ → RowsOf K → RowsOf K
steps [] rs = rs
steps (b ∷ w) rs = steps w (step b rs)

-- what the rows after a byte find, the rows find from the byte on
found_after : {K : Type 0} (rs : RowsOf K) (b : ℕ) (path : List ℕ) (k : K) → seek 0 (step b rs) path ≡ Some k → seek 0 rs (b ∷ path) ≡ Some k
unfolding seek
found_after rs b path k h =
    ap (λ o. or_else o (or_else (seek ((param_step (step 256 rs) (b ∷ path)).0 - 1) (param_step (step 256 rs) (b ∷ path)).1 path) (own (step 257 rs)))) h

-- what the rows after some bytes find, the rows find from these bytes on
pub found_along : {K : Type 0} (w : List ℕ) (rs : RowsOf K) (path : List ℕ) (k : K) → seek 0 (steps w rs) path ≡ Some k → seek 0 rs (w ++ path) ≡ Some k
found_along [] rs path k h = h
found_along (b ∷ w) rs path k h = found_after rs b (w ++ path) k (found_along w (step b rs) path k h)

-- past all of a path stand the rows' own routes
skip_all : {K : Type 0} (rs : RowsOf K) (path : List ℕ) → seek (length path) rs path ≡ own rs
unfolding seek
skip_all rs [] = refl
skip_all rs (b ∷ path) = skip_all rs path

-- a second answer counts where the first is none
second : {K : Type 0} (o p q : Option K) (k : K) → (o ≡ None ⊎ o ≡ Some k) → p ≡ Some k → or_else o (or_else p q) ≡ Some k
second o p q k (inl e) f = ap (λ v. or_else v (or_else p q)) e ∙ ap (λ v. or_else v q) f
second o p q k (inr e) f = ap (λ v. or_else v (or_else p q)) e

-- no answer where both are none
neither : {K : Type 0} (o p : Option K) → o ≡ None → p ≡ None → or_else o (or_else p None) ≡ None
neither o p e f = ap (λ v. or_else v (or_else p None)) e ∙ ap (λ v. or_else v None) f

-- no rows find nothing
pub nothing_else : {K : Type 0} (k : ℕ) (path : List ℕ) → seek {K = K} k [] path ≡ None
unfolding seek param_step
nothing_else k [] = refl
nothing_else (suc k) (b ∷ path) = nothing_else k path
nothing_else {K} zero (b ∷ path) =
    let both : Bool → ℕ × RowsOf K = λ v. cond v (0, []) (suc (length path), []) in
    neither (seek 0 [] path) (seek ((both (cond (b == slash) true (has_slash path))).0 - 1) (both (cond (b == slash) true (has_slash path))).1 path)
    (nothing_else 0 path)
    (elim (cond (b == slash) true (has_slash path)) as (λ v. seek {K = K} ((both v).0 - 1) (both v).1 path ≡ None)
    [ true ↦ nothing_else (0 - 1) path | false ↦ nothing_else (suc (length path) - 1) path ])

-- a row that has ended finds its route at the end of the path alone
ended : {K : Type 0} (k : K) (path : List ℕ) → (seek 0 (([], k) ∷ []) path ≡ None) ⊎ (seek 0 (([], k) ∷ []) path ≡ Some k)
unfolding seek param_step
ended k [] = inr refl
ended {K} k (b ∷ path) =
    let both : Bool → ℕ × RowsOf K = λ v. cond v (0, []) (suc (length path), []) in
    inl (neither (seek 0 [] path) (seek ((both (cond (b == slash) true (has_slash path))).0 - 1) (both (cond (b == slash) true (has_slash path))).1 path)
    (nothing_else 0 path)
    (elim (cond (b == slash) true (has_slash path)) as (λ v. seek {K = K} ((both v).0 - 1) (both v).1 path ≡ None)
    [ true ↦ nothing_else (0 - 1) path | false ↦ nothing_else (suc (length path) - 1) path ]))

-- the literal branch next to a parameter finds nothing, or the parameter's own route
beside : {K : Type 0} (v : Bool) (k : K) (path : List ℕ) → (seek 0 (cond v (([], k) ∷ []) []) path ≡ None) ⊎ (seek 0 (cond v (([], k) ∷ []) []) path ≡ Some k)
beside true k path = ended k path
beside false k path = inl (nothing_else 0 path)

-- rows that have ended find their route at the end of the path
pub ends_here : {K : Type 0} (k : K) (rs : RowsOf K) → own rs ≡ Some k → seek 0 rs [] ≡ Some k
unfolding seek
ends_here k rs e = e

-- a parameter at the end takes a segment
takes_segment : {K : Type 0} (k : K) (b : ℕ) (text : List ℕ) → is_segment (b ∷ text) ≡ true
    → seek ((param_step (([], k) ∷ []) (b ∷ text)).0 - 1) (param_step (([], k) ∷ []) (b ∷ text)).1 text ≡ Some k
unfolding seek param_step
takes_segment {K} k b text segment =
    let rest : RowsOf K = ([], k) ∷ [] in
    let both : Bool → ℕ × RowsOf K = λ v. cond v (0, []) (suc (length text), rest) in
    let one : suc (length text) - 1 ≡ length text = omega arith in
    ap (λ v. seek ((both v).0 - 1) (both v).1 text) (plain (cond (b == slash) true (has_slash text)) segment) ∙ ap (λ n. seek n rest text) one ∙ skip_all rest text
  where
    plain : (v : Bool) → not v ≡ true → v ≡ false
    plain true e = absurd (let f : false ≡ true = e in cc)
    plain false e = refl

-- where its literal branch finds nothing, or the same, the parameter's route is found
leaf : {K : Type 0} (k : K) (rs : RowsOf K) (b : ℕ) (text : List ℕ) → step 256 rs ≡ ([], k) ∷ [] → (seek 0 (step b rs) text ≡ None) ⊎ (seek 0 (step b rs) text ≡ Some k)
    → is_segment (b ∷ text) ≡ true → seek 0 rs (b ∷ text) ≡ Some k
unfolding seek
leaf {K} k rs b text on literal segment =
    second (seek 0 (step b rs) text) (seek ((param_step (step 256 rs) (b ∷ text)).0 - 1) (param_step (step 256 rs) (b ∷ text)).1 text) (own (step 257 rs)) k literal
    (subst (λ (r : RowsOf K). seek ((param_step r (b ∷ text)).0 - 1) (param_step r (b ∷ text)).1 text ≡ Some k) (sym on) (takes_segment k b text segment))

-- a parameter alone
pub param_leaf : {K : Type 0} (k : K) (text : List ℕ) → is_segment text ≡ true → first ((256 ∷ [], k) ∷ []) text ≡ Some k
param_leaf k [] segment = absurd (let e : false ≡ true = segment in cc)
param_leaf k (b ∷ text) segment = leaf k ((256 ∷ [], k) ∷ []) b text refl (beside (256 == b) k text) segment

-- what passes is a number that begins with a digit
digit_first : (b : ℕ) (text : List ℕ) → fits Numbers (b ∷ text) ≡ true → is_ascii_digit b ≡ true
digit_first b text e = by (nat_lt 0 (length (b ∷ text)) && nat_lt (length (b ∷ text)) 5) (is_ascii_digit b) (all_ascii_digits text) e
  where
    by : (v w u : Bool) → is_some (if v && (w && u) then Some (digits_value 10 (b ∷ text)) else None) ≡ true → w ≡ true
    by true true u f = refl
    by true false u f = absurd (let g : false ≡ true = f in cc)
    by false w u f = absurd (let g : false ≡ true = f in cc)

-- a digit is none of the bytes outside of its range
not_digit : (c b : ℕ) → is_ascii_digit c ≡ false → is_ascii_digit b ≡ true → (c == b) ≡ false
not_digit c b isnt is = by (c == b) refl
  where
    by : (v : Bool) → (c == b) ≡ v → (c == b) ≡ false
    by true e = let f : c ≡ b = eqb-true c b e in absurd (let g : true ≡ false = sym is ∙ ap is_ascii_digit (sym f) ∙ isnt in cc)
    by false e = e

-- a row that goes on with another byte is left out
skips : {K : Type 0} (b c : ℕ) (t : List ℕ) (k : K) (rs : RowsOf K) → (c == b) ≡ false → step b ((c ∷ t, k) ∷ rs) ≡ step b rs
skips {K} b c t k rs e = let on : RowsOf K = (t, k) ∷ step b rs in ap (λ (v : Bool). cond v on (step b rs)) e

-- a number next to two words that begin with no digit
pub number_leaf : {K : Type 0} (k l m : K) (c d : ℕ) (close reopen text : List ℕ) → is_ascii_digit c ≡ false → is_ascii_digit d ≡ false
    → (c == 256) ≡ false → (d == 256) ≡ false → is_segment text ≡ true → fits Numbers text ≡ true
    → first ((c ∷ close, l) ∷ (d ∷ reopen, m) ∷ (256 ∷ [], k) ∷ []) text ≡ Some k
number_leaf k l m c d close reopen [] nc nd pc pd segment fit = absurd (let e : false ≡ true = segment in cc)
number_leaf {K} k l m c d close reopen (b ∷ text) nc nd pc pd segment fit =
    let digit = digit_first b text fit in
    let last : RowsOf K = (256 ∷ [], k) ∷ [] in
    let two : RowsOf K = (d ∷ reopen, m) ∷ last in
    let rs : RowsOf K = (c ∷ close, l) ∷ two in
    let none : step b rs ≡ [] = skips b c close l two (not_digit c b nc digit) ∙ skips b d reopen m last (not_digit d b nd digit) ∙ skips b 256 [] k [] (not_digit 256 b refl digit) in
    leaf k rs b text (skips 256 c close l two pc ∙ skips 256 d reopen m last pd) (inl (ap (λ (r : RowsOf K). seek 0 r text) none ∙ nothing_else 0 text)) segment
