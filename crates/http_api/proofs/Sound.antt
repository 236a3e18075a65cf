-- A route that a path finds has a pattern of which the path is made.
use Rattle.std.proofs.Common.{◌≡◌, ◌<◌, ◌⊎◌, inl, inr, ℕ, zero, suc, ◌-◌, ◌==◌, Bool, true, false, cond, not, ◌&&◌, ltb, List, [], ◌∷◌, ◌++◌, length, take, drop, Option, Some, None, option_map, if◌then◌else◌, refl, sym, ap, ◌∙◌, subst, arith, append-nil}
use Rattle.http_api.proofs.Common.{eqb-true, ltb-true, or_else, has_slash, own, step, slash, segment, longest_from, longest_suffix, with_suffix, better, cuts, same_text, RowsOf, fill, is_segment, AreSegments, HasRow}
use Rattle.matchit.specs.Seek.{seek, param_step}
use Rattle.http_api.proofs.Found.{nothing_else}

-- it is at the end of a segment
abbrev pub ends_segment : List ℕ → Bool
ends_segment [] = true
ends_segment (b ∷ pattern) = b == 47

-- each parameter is a whole segment, and there is no other wildcard
abbrev pub is_plain : List ℕ → Bool
is_plain [] = true
is_plain (x ∷ pattern) = not (x == 257) && ((if x == 256 then ends_segment pattern else true) && is_plain pattern)

-- each row is so
abbrev pub AllPlain : {K : Type 0} → RowsOf K → Type 0
AllPlain [] = Unit {0}
AllPlain ((t, k) ∷ rs) = (is_plain t ≡ true) × AllPlain rs

-- which can be tested
abbrev pub all_plain : {K : Type 0} → RowsOf K → Bool
all_plain [] = true
all_plain ((t, k) ∷ rs) = is_plain t && all_plain rs

-- each row is at the end of a segment
AllEnd : {K : Type 0} → RowsOf K → Type 0
AllEnd [] = Unit {0}
AllEnd ((t, k) ∷ rs) = (ends_segment t ≡ true) × AllEnd rs

-- both tests hold
pub both : (a b : Bool) → (a && b) ≡ true → (a ≡ true) × (b ≡ true)
both true b e = (refl, e)
both false b e = absurd (let f : false ≡ true = e in cc)

-- rows that pass the test are plain
pub plain_all : {K : Type 0} (rs : RowsOf K) → all_plain rs ≡ true → AllPlain rs
plain_all [] e = tt
plain_all ((t, k) ∷ rs) e = let b = both (is_plain t) (all_plain rs) e in (b.0, plain_all rs b.1)

-- what follows a token of a plain pattern is plain
plain_tail : (x : ℕ) (t : List ℕ) → is_plain (x ∷ t) ≡ true → is_plain t ≡ true
plain_tail x t e = (both (if x == 256 then ends_segment t else true) (is_plain t) (both (not (x == 257)) _ e).1).1

-- what follows a parameter is at the end of a segment
plain_end : (x : ℕ) (t : List ℕ) → (x == 256) ≡ true → is_plain (x ∷ t) ≡ true → ends_segment t ≡ true
plain_end x t at e =
    sym (ap (λ (v : Bool). if v then ends_segment t else true) at) ∙ (both (if x == 256 then ends_segment t else true) (is_plain t) (both (not (x == 257)) _ e).1).0

-- a plain pattern begins with no catch-all
plain_head : (x : ℕ) (t : List ℕ) → is_plain (x ∷ t) ≡ true → (x == 257) ≡ false
plain_head x t e = by (x == 257) (both (not (x == 257)) _ e).0
  where
    by : (v : Bool) → not v ≡ true → v ≡ false
    by true f = absurd (let g : false ≡ true = f in cc)
    by false f = refl

-- the rows after a token are plain
step_plain : {K : Type 0} (b : ℕ) (rs : RowsOf K) → AllPlain rs → AllPlain (step b rs)
step_plain b [] p = tt
step_plain b (([], k) ∷ rs) p = step_plain b rs p.1
step_plain {K} b ((x ∷ t, k) ∷ rs) p = by (x == b) (plain_tail x t p.0) (step_plain b rs p.1)
  where
    by : (v : Bool) → is_plain t ≡ true → AllPlain (step b rs) → AllPlain {K = K} (cond v ((t, k) ∷ step b rs) (step b rs))
    by true e h = (e, h)
    by false e h = h

-- the rows after a parameter are at the end of a segment
step_ends : {K : Type 0} (rs : RowsOf K) → AllPlain rs → AllEnd (step 256 rs)
unfolding AllEnd
step_ends [] p = tt
step_ends (([], k) ∷ rs) p = step_ends rs p.1
step_ends {K} ((x ∷ t, k) ∷ rs) p = by (x == 256) refl (step_ends rs p.1)
  where
    by : (v : Bool) → (x == 256) ≡ v → AllEnd (step 256 rs) → AllEnd {K = K} (cond v ((t, k) ∷ step 256 rs) (step 256 rs))
    by true e h = (plain_end x t e p.0, h)
    by false e h = h

-- a row after a token is a row that begins with it
in_step : {K : Type 0} (b : ℕ) (t : List ℕ) (k : K) (rs : RowsOf K) → HasRow t k (step b rs) → HasRow (b ∷ t) k rs
in_step b t k [] h = h
in_step b t k (([], j) ∷ rs) h = inr (in_step b t k rs h)
in_step {K} b t k ((x ∷ u, j) ∷ rs) h = by (x == b) refl h (λ more. in_step b t k rs more)
  where
    by : (v : Bool) → (x == b) ≡ v → HasRow {K = K} t k (cond v ((u, j) ∷ step b rs) (step b rs)) → (HasRow t k (step b rs) → HasRow (b ∷ t) k rs)
        → HasRow (b ∷ t) k ((x ∷ u, j) ∷ rs)
    by true e (inl same) on = let f : x ≡ b = eqb-true x b e in let g : t ≡ u = same.0 in inl (cc, same.1)
    by true e (inr more) on = inr (on more)
    by false e more on = inr (on more)

-- no plain row begins with a catch-all
no_catch : {K : Type 0} (t : List ℕ) (k : K) (rs : RowsOf K) → AllPlain rs → HasRow t k (step 257 rs) → ⊥
no_catch t k [] p h = h
no_catch t k (([], j) ∷ rs) p h = no_catch t k rs p.1 h
no_catch {K} t k ((x ∷ u, j) ∷ rs) p h =
    no_catch t k rs p.1 (subst (λ (v : Bool). HasRow {K = K} t k (cond v ((u, j) ∷ step 257 rs) (step 257 rs))) (plain_head x u p.0) h)

-- the rows with a suffix are some of the rows
in_suffix : {K : Type 0} (s t : List ℕ) (k : K) (rs : RowsOf K) → HasRow t k (with_suffix s rs) → HasRow t k rs
in_suffix s t k [] h = h
in_suffix {K} s t k ((u, j) ∷ rs) h = by (same_text (segment u) s) h (λ more. in_suffix s t k rs more)
  where
    by : (v : Bool) → HasRow {K = K} t k (cond v ((u, j) ∷ with_suffix s rs) (with_suffix s rs)) → (HasRow t k (with_suffix s rs) → HasRow t k rs)
        → HasRow t k ((u, j) ∷ rs)
    by true (inl same) on = inl same
    by true (inr more) on = inr (on more)
    by false more on = inr (on more)

-- and plain as they are
suffix_plain : {K : Type 0} (s : List ℕ) (rs : RowsOf K) → AllPlain rs → AllPlain (with_suffix s rs)
suffix_plain s [] p = tt
suffix_plain {K} s ((u, j) ∷ rs) p = by (same_text (segment u) s) p.0 (suffix_plain s rs p.1)
  where
    by : (v : Bool) → is_plain u ≡ true → AllPlain (with_suffix s rs) → AllPlain {K = K} (cond v ((u, j) ∷ with_suffix s rs) (with_suffix s rs))
    by true e h = (e, h)
    by false e h = h

-- a slash that leaves something of the segment in front of it
IsSlash : List ℕ → List ℕ → Type 0
IsSlash seg s = (s ≡ 47 ∷ []) × (1 < length seg)

-- a row at the end of a segment betters the suffix by a slash alone
better_slash : (seg best t : List ℕ) → ends_segment t ≡ true → (better seg best (segment t) ≡ best) ⊎ IsSlash seg (better seg best (segment t))
unfolding IsSlash
better_slash seg best [] e = by (ltb (length best) 0 && cuts seg []) refl
  where
    by : (v : Bool) → (ltb (length best) 0 && cuts seg []) ≡ v → (cond v [] best ≡ best) ⊎ IsSlash seg (cond v [] best)
    by false f = inl refl
    by true f = absurd (let g : length best < 0 = ltb-true (length best) 0 (both (ltb (length best) 0) (cuts seg []) f).0 in omega arith)
better_slash seg best (b ∷ t) e = on_slash (b == 47) refl
  where
    cut : (v : Bool) → (ltb (length best) 1 && cuts seg (47 ∷ [])) ≡ v → (cond v (47 ∷ []) best ≡ best) ⊎ IsSlash seg (cond v (47 ∷ []) best)
    cut false f = inl refl
    cut true f = inr (refl, ltb-true 1 (length seg) (both (ltb 1 (length seg)) _ (both (ltb (length best) 1) (cuts seg (47 ∷ [])) f).1).0)

    on_slash : (v : Bool) → (b == 47) ≡ v → (better seg best (segment (b ∷ t)) ≡ best) ⊎ IsSlash seg (better seg best (segment (b ∷ t)))
    on_slash true f =
        let g : b ≡ 47 = eqb-true b 47 f in
        subst (λ (s : List ℕ). (better seg best s ≡ best) ⊎ IsSlash seg (better seg best s))
        (sym (ap (λ (v : Bool). cond v (b ∷ []) (b ∷ segment t)) f ∙ ap (λ (c : ℕ). c ∷ []) g))
        (cut (ltb (length best) 1 && cuts seg (47 ∷ [])) refl)
    on_slash false f = absurd (let g : true ≡ false = sym e ∙ f in cc)

-- the longest suffix is none, or a slash
longest_slash : {K : Type 0} (seg best : List ℕ) (rs : RowsOf K) → AllEnd rs → (best ≡ []) ⊎ IsSlash seg best → (longest_from seg best rs ≡ []) ⊎ IsSlash seg (longest_from seg best rs)
unfolding AllEnd
longest_slash seg best [] p h = h
longest_slash {K} seg best ((t, k) ∷ rs) p h = longest_slash seg (better seg best (segment t)) rs p.1 (now (better_slash seg best t p.0) h)
  where
    now : (better seg best (segment t) ≡ best) ⊎ IsSlash seg (better seg best (segment t)) → (best ≡ []) ⊎ IsSlash seg best
        → (better seg best (segment t) ≡ []) ⊎ IsSlash seg (better seg best (segment t))
    now (inl e) (inl f) = inl (e ∙ f)
    now (inl e) (inr f) = inr (subst (IsSlash seg) (sym e) f)
    now (inr e) h = inr e

-- a slash is not in what a segment has before its end
before_end : (path : List ℕ) → has_slash (take (length (segment path) - 1) path) ≡ false
before_end [] = refl
before_end (b ∷ path) = by (b == 47) refl (before_end path)
  where
    on : has_slash (take (length (segment path) - 1) path) ≡ false → (n : ℕ) → n ≡ length (segment path) → (b == 47) ≡ false → has_slash (take n (b ∷ path)) ≡ false
    on before zero e f = refl
    on before (suc n) e f =
        let m : length (segment path) - 1 ≡ n = omega arith in
        ap (λ (v : Bool). cond v true (has_slash (take n path))) f ∙ subst (λ (k : ℕ). has_slash (take k path) ≡ false) m before

    by : (v : Bool) → (b == 47) ≡ v → has_slash (take (length (segment path) - 1) path) ≡ false → has_slash (take (length (cond v (b ∷ []) (b ∷ segment path)) - 1) (b ∷ path)) ≡ false
    by true e before = refl
    by false e before =
        subst (λ (k : ℕ). has_slash (take k (b ∷ path)) ≡ false) (let f : length (segment path) ≡ length (b ∷ segment path) - 1 = omega arith in f) (on before (length (segment path)) refl e)

-- some bytes without a slash are a segment
some_segment : (b : ℕ) (text : List ℕ) → has_slash (b ∷ text) ≡ false → is_segment (b ∷ text) ≡ true
some_segment b text e = ap not e

-- what a parameter takes of a path, and the rows that go on
pub record Takes {K : Type 0} (rs : RowsOf K) (b : ℕ) (path : List ℕ) (n : ℕ) (on : RowsOf K) : Type 0 where
  pub value : List ℕ
  pub segment : is_segment value ≡ true
  pub whole : b ∷ path ≡ value ++ drop n path
  pub among : (t : List ℕ) (k : K) → HasRow t k on → HasRow t k rs
  pub plain : AllPlain on

-- the first bytes of a path, and the others
take_drop : (n : ℕ) (path : List ℕ) → path ≡ take n path ++ drop n path
take_drop zero path = refl
take_drop (suc n) [] = refl
take_drop (suc n) (b ∷ path) = ap (λ t. b ∷ t) (take_drop n path)

-- nothing is left after all of a path
drop_all : (path : List ℕ) → drop (length path) path ≡ []
drop_all [] = refl
drop_all (b ∷ path) = drop_all path

-- no rows find nothing
lost : {K : Type 0} {A : Type 0} (n : ℕ) (path : List ℕ) (k : K) → seek n [] path ≡ Some k → A
lost n path k e = absurd (let f : None ≡ Some k = sym (nothing_else n path) ∙ e in cc)

-- where a path goes on after a parameter, that took a segment
param_takes : {K : Type 0} (rs : RowsOf K) (b : ℕ) (path : List ℕ) (k : K) → AllPlain rs → AllEnd rs
    → seek ((param_step rs (b ∷ path)).0 - 1) (param_step rs (b ∷ path)).1 path ≡ Some k
    → Takes rs b path ((param_step rs (b ∷ path)).0 - 1) (param_step rs (b ∷ path)).1
unfolding param_step IsSlash
param_takes {K} rs b path k plain end = by (ltb 0 (length long)) refl (longest_slash seg [] rs end (inl refl))
  where
    seg : List ℕ
    seg = segment (b ∷ path)

    long : List ℕ
    long = longest_suffix seg rs

    chosen : Bool → Bool → ℕ × RowsOf K
    chosen v w = cond v (length seg - length long, with_suffix long rs) (cond w (0, []) (length (b ∷ path), rs))

    up_to : (n m : ℕ) → n ≡ suc m → n ≡ length seg - 1 → Takes rs b path (n - 1) (with_suffix long rs)
    up_to n m e f = record {
      value = b ∷ take m path;
      segment = some_segment b (take m path) (subst (λ (i : ℕ). has_slash (take i (b ∷ path)) ≡ false) (sym f ∙ e) (before_end (b ∷ path)));
      whole = ap (λ t. b ∷ t) (take_drop m path ∙ ap (λ (i : ℕ). take m path ++ drop i path) (let g : m ≡ n - 1 = omega arith in g));
      among = λ t j h. in_suffix long t j rs h;
      plain = suffix_plain long rs plain;
    }

    whole_rest : (w : Bool) → has_slash (b ∷ path) ≡ w → seek ((chosen false w).0 - 1) (chosen false w).1 path ≡ Some k
        → Takes rs b path ((chosen false w).0 - 1) (chosen false w).1
    whole_rest true e h = lost 0 path k h
    whole_rest false e h = record {
      value = b ∷ path;
      segment = some_segment b path e;
      whole = ap (λ t. b ∷ t) (sym (append-nil path) ∙ ap (λ t. path ++ t) (sym (ap (λ (n : ℕ). drop n path) (let g : length (b ∷ path) - 1 ≡ length path = omega arith in g) ∙ drop_all path)));
      among = λ t j m. m;
      plain = plain;
    }

    by : (v : Bool) → ltb 0 (length long) ≡ v → (long ≡ []) ⊎ IsSlash seg long
        → seek ((chosen v (has_slash (b ∷ path))).0 - 1) (chosen v (has_slash (b ∷ path))).1 path ≡ Some k
        → Takes rs b path ((chosen v (has_slash (b ∷ path))).0 - 1) (chosen v (has_slash (b ∷ path))).1
    by true e (inl none) h = absurd (let f : false ≡ true = ap (λ (t : List ℕ). ltb 0 (length t)) (sym none) ∙ e in cc)
    by true e (inr slash) h =
        let one : length long ≡ 1 = ap length slash.0 in
        let some : 1 < length seg = slash.1 in
        up_to (length seg - length long) (length seg - length long - 1) (omega arith) (omega arith)
    by false e l h = whole_rest (has_slash (b ∷ path)) refl h

-- a row whose pattern makes the path with these segments
pub record Makes {K : Type 0} (rs : RowsOf K) (path : List ℕ) (k : K) : Type 0 where
  pub pattern : List ℕ
  pub listed : HasRow pattern k rs
  pub values : List (List ℕ)
  pub filled : fill pattern values ≡ Some path
  pub segments : AreSegments values

-- one byte more in front
fill_byte : (x : ℕ) (t : List ℕ) (values : List (List ℕ)) (path : List ℕ) → (x == 256) ≡ false → fill t values ≡ Some path → fill (x ∷ t) values ≡ Some (x ∷ path)
fill_byte x t [] path e f =
    ap (λ (v : Bool). if v then None else option_map (λ p. x ∷ p) (fill t [])) e ∙ ap (option_map (λ p. x ∷ p)) f
fill_byte x t (v ∷ values) path e f =
    ap (λ (w : Bool). if w then option_map (λ p. v ++ p) (fill t values) else option_map (λ p. x ∷ p) (fill t (v ∷ values))) e ∙ ap (option_map (λ p. x ∷ p)) f

-- one segment more in front
fill_param : (x : ℕ) (t : List ℕ) (v : List ℕ) (values : List (List ℕ)) (path : List ℕ) → (x == 256) ≡ true → fill t values ≡ Some path → fill (x ∷ t) (v ∷ values) ≡ Some (v ++ path)
fill_param x t v values path e f =
    ap (λ (w : Bool). if w then option_map (λ p. v ++ p) (fill t values) else option_map (λ p. x ∷ p) (fill t (v ∷ values))) e ∙ ap (option_map (λ p. v ++ p)) f

-- a byte that is read as itself; the number of a parameter is a segment of its own
makes_byte : {K : Type 0} (b : ℕ) (rs : RowsOf K) (path : List ℕ) (k : K) → Makes (step b rs) path k → Makes rs (b ∷ path) k
makes_byte b rs path k m = by (b == 256) refl
  where
    by : (v : Bool) → (b == 256) ≡ v → Makes rs (b ∷ path) k
    by false e = record {
      pattern = b ∷ m.pattern;
      listed = in_step b m.pattern k rs m.listed;
      values = m.values;
      filled = fill_byte b m.pattern m.values path e m.filled;
      segments = m.segments;
    }
    by true e = record {
      pattern = b ∷ m.pattern;
      listed = in_step b m.pattern k rs m.listed;
      values = (b ∷ []) ∷ m.values;
      filled = fill_param b m.pattern (b ∷ []) m.values path e m.filled;
      segments = (let f : b ≡ 256 = eqb-true b 256 e in subst (λ (c : ℕ). is_segment (c ∷ []) ≡ true) (sym f) refl, m.segments);
    }

-- a segment that a parameter takes
makes_param : {K : Type 0} (b : ℕ) (rs on : RowsOf K) (path : List ℕ) (n : ℕ) (k : K) → Takes (step 256 rs) b path n on → Makes on (drop n path) k → Makes rs (b ∷ path) k
makes_param b rs on path n k takes m = record {
  pattern = 256 ∷ m.pattern;
  listed = in_step 256 m.pattern k rs (takes.among m.pattern k m.listed);
  values = takes.value ∷ m.values;
  filled = fill_param 256 m.pattern takes.value m.values (drop n path) refl m.filled ∙ ap Some (sym takes.whole);
  segments = (takes.segment, m.segments);
}

-- the route of rows that have ended
own_row : {K : Type 0} (rs : RowsOf K) (k : K) → own rs ≡ Some k → HasRow [] k rs
own_row [] k e = absurd (let f : None ≡ Some k = e in cc)
own_row (([], j) ∷ rs) k e = let f : Some j ≡ Some k = e in let g : j ≡ k = cc in inl (refl, sym g)
own_row ((x ∷ t, j) ∷ rs) k e = inr (own_row rs k e)

-- the first that is there
first_of : {K A : Type 0} (o p : Option K) (k : K) → or_else o p ≡ Some k → (o ≡ Some k → A) → (p ≡ Some k → A) → A
first_of None p k e f g = g e
first_of (Some j) p k e f g = f e

-- nothing is left of nothing
drop_none : (n : ℕ) → drop {A = ℕ} n [] ≡ []
drop_none zero = refl
drop_none (suc n) = refl

-- what a path finds makes it
pub makes : {K : Type 0} (path : List ℕ) (skip : ℕ) (rs : RowsOf K) (k : K) → AllPlain rs → seek skip rs path ≡ Some k → Makes rs (drop skip path) k
unfolding seek
makes [] skip rs k plain e = record {
  pattern = [];
  listed = own_row rs k e;
  values = [];
  filled = ap Some (sym (drop_none skip));
  segments = tt;
}
makes (b ∷ path) (suc skip) rs k plain e = makes path skip rs k plain e
makes (b ∷ path) zero rs k plain e =
    let on = param_step (step 256 rs) (b ∷ path) in
    first_of (seek 0 (step b rs) path) (or_else (seek (on.0 - 1) on.1 path) (own (step 257 rs))) k e
    (λ f. makes_byte b rs path k (makes path 0 (step b rs) k (step_plain b rs plain) f))
    (λ e'. first_of (seek (on.0 - 1) on.1 path) (own (step 257 rs)) k e'
    (λ f. let takes = param_takes (step 256 rs) b path k (step_plain 256 rs plain) (step_ends rs plain) f in
    makes_param b rs on.1 path (on.0 - 1) k takes (makes path (on.0 - 1) on.1 k takes.plain f))
    (λ f. absurd (no_catch [] k rs plain (own_row (step 257 rs) k f))))
