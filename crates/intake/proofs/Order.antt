-- The order of codes, and a search in codes that rise.
use Rattle.std.proofs.Common.{◌≡◌, ◌≢◌, ℕ, zero, suc, ◌+◌, ◌-◌, ◌<◌, length-append, List, [], ◌∷◌, ◌++◌, length, map, get_or, slice_get, Some, Result, Ok, Err, refl, sym, ap, ◌∙◌, subst, inl, inr, arith}
use Rattle.std.specs.declared.cmp.Ordering.{Ordering}
use Rattle.intake.proofs.Common.{get_or_from_slice_get, option_map, slice_get-map, slice_get_read, Less, Equal, Greater, Bool, true, IsTrue, cases_lt, get_or-map, get_or_default, get_or_append_left, get_or_at, length-map, Finds, code_cmp, Rise}
use Rattle.std.specs.FinMap.{slice_cmp-IsAntisymmetric, nat_cmp-IsAntisymmetric}
use Rattle.std.specs.List.Sorted.{IsBinarySearchResult, IsSearchInRange}
use Rattle.std.specs.Ordering.{ordering_reverse, is_lt}
use Rattle.std.specs.Result.{result_ok}
use Rattle.std.proofs.lemmas.Cmp.{nat_list_cmp_total, tied_itself}
use Rattle.std.proofs.lemmas.List.Quantifiers.{all_pairs_push}
use Rattle.std.proofs.lemmas.List.Sorted.{searchable_from_sorted}

-- codes that compare as equal are the same
pub cmp_same : (a b : List ℕ) → code_cmp a b ≡ Equal → a ≡ b
cmp_same a b e = slice_cmp-IsAntisymmetric nat_cmp-IsAntisymmetric a b e

-- a code is the same as itself
pub cmp_itself : (a : List ℕ) → code_cmp a a ≡ Equal
cmp_itself a = tied_itself nat_list_cmp_total a

-- the order of three
pub cmp_trans : (a b d : List ℕ) → code_cmp a b ≡ Less → code_cmp b d ≡ Less → code_cmp a d ≡ Less
cmp_trans a b d e f = nat_list_cmp_total.trans a b d e f

-- a code is not before itself
pub cmp_apart : (a b : List ℕ) → code_cmp a b ≡ Less → a ≢ b
cmp_apart a b e same = let itself = cmp_itself b in let f : code_cmp b b ≡ Less = subst (λ (x : List ℕ). code_cmp x b ≡ Less) same e in cc

-- the entry at a position, whose code compares as equal
code_found : {E : Type 0} (key : E → List ℕ) (es : List E) (code : List ℕ) (p : ℕ) → p < length es → ((d : E) → code_cmp (key (get_or es p d)) code ≡ Equal) → slice_get (map key es) p ≡ Some code
code_found key [] code p h tied = absurd (omega arith)
code_found key (x ∷ es) code zero h tied = ap Some (cmp_same (key x) code (tied x))
code_found key (x ∷ es) code (suc p) h tied = code_found key es code p (omega arith) tied

-- no entry whose code compares otherwise has it
code_missed : {E : Type 0} (key : E → List ℕ) (es : List E) (code : List ℕ) (p : ℕ) (o : Ordering) → o ≢ Equal → ((d : E) → code_cmp (key (get_or es p d)) code ≡ o) → slice_get (map key es) p ≡ Some code → ⊥
code_missed key [] code p o other compared e = cc
code_missed key (x ∷ es) code zero o other compared e = (let same : key x ≡ code = cc in other (sym (compared x) ∙ ap (λ (c : List ℕ). code_cmp c code) same ∙ cmp_itself code))
code_missed key (x ∷ es) code (suc p) o other compared e = code_missed key es code p o other compared e

-- what a search by halves finds
pub found : {E : Type 0} (key : E → List ℕ) (es : List E) (code : List ℕ) (r : Result ℕ ℕ) → Rise (map key es) → IsSearchInRange r (length es) → IsBinarySearchResult (λ e. code_cmp (key e) code) es r
    → Finds (map key es) (length es) code (result_ok r)
found key es code (Ok p) rise h tied = (h, code_found key es code p h tied)
found {E = E} key es code (Err p) rise h parted = λ q l same.
    let sides = parted (searchable_from_sorted nat_list_cmp_total key es code (λ n d l w. ap is_lt (nat_list_cmp_total.antisymm (key (get_or es (n + 1) d)) (key (get_or es n d)) ∙ ap ordering_reverse (next n d w)))) in
    elim (cases_lt q p) [
      | inl less ↦ code_missed key es code q Less (λ e. cc) (λ d. sides.0 q d (omega arith) less) same
      | inr past ↦ code_missed key es code q Greater (λ e. cc) (λ d. sides.1 q d past l) same
    ]
  where
    next : (n : ℕ) (d : E) → n + 1 < length es → code_cmp (key (get_or es n d)) (key (get_or es (n + 1) d)) ≡ Less
    next n d w = rw (sym (get_or-map key es n d [] (omega arith)), sym (get_or-map key es (n + 1) d [] w)) (rise n (n + 1) [] (omega arith) (omega (arith, length-map es key)))

-- what is found of a list that is made from another
pub get_mapped : {X Y : Type 0} (f : X → Y) (xs : List X) (n : ℕ) (x : X) → slice_get xs n ≡ Some x → slice_get (map f xs) n ≡ Some (f x)
get_mapped f xs n x e = slice_get-map f xs n ∙ ap (option_map f) e

-- the code at m, of entries that have codes
pub key_at : {E : Type 0} (key : E → List ℕ) (es : List E) (m : ℕ) (e : E) → m < length es → e ≡ get_or es m e → get_or (map key es) m [] ≡ key e
key_at key es m e h r = get_or_from_slice_get (map key es) m (key e) [] (get_mapped key es m e (slice_get_read es (length es) m e refl h r))

-- a code after the last goes on
pub rise_next : (keys : List (List ℕ)) (code : List ℕ) (d : List ℕ) → Rise keys → code_cmp (get_or keys (length keys - 1) d) code ≡ Less → Rise (keys ++ code ∷ [])
rise_next keys code d rise e =
    all_pairs_push (λ a b. code_cmp a b ≡ Less) keys code rise
    (λ k f h. let last : code_cmp (get_or keys (length keys - 1) f) code ≡ Less = subst (λ (x : List ℕ). code_cmp x code ≡ Less) (get_or_default keys (length keys - 1) d f (omega arith)) e in
    elim (cases_lt k (length keys - 1)) [
      | inl less ↦ cmp_trans (get_or keys k f) (get_or keys (length keys - 1) f) code (rise k (length keys - 1) f less (omega arith)) last
      | inr more ↦ let same : length keys - 1 ≡ k = omega arith in subst (λ (n : ℕ). code_cmp (get_or keys n f) code ≡ Less) same last
    ])

-- and only such a code does
pub rise_back : (keys : List (List ℕ)) (code : List ℕ) (d : List ℕ) → 0 < length keys → Rise (keys ++ code ∷ []) → code_cmp (get_or keys (length keys - 1) d) code ≡ Less
rise_back keys code d h rise =
    let e : code_cmp (get_or (keys ++ code ∷ []) (length keys - 1) d) (get_or (keys ++ code ∷ []) (length keys) d) ≡ Less = rise (length keys - 1) (length keys) d (omega arith) (omega (arith, length-append keys (code ∷ []))) in
    rw (get_or_append_left keys (code ∷ []) d (length keys - 1) (omega arith), get_or_at keys code [] d (length keys) refl) at e

-- a comparison that tests as less is
less_of : (o : Ordering) → is_lt o ≡ true → o ≡ Less
less_of Less h = refl
less_of Equal h = cc
less_of Greater h = cc

-- whether a code comes after the last of a roll
pub is_next_of : {E : Type 0} (key : E → List ℕ) (es : List E) (e : E) (code at : List ℕ) (o : Ordering) (r : Bool) → Rise (map key es) → Some e ≡ slice_get es (length es - 1) → at ≡ key e → o ≡ code_cmp at code → r ≡ is_lt o
    → (IsTrue r → Rise (map key es ++ code ∷ [])) × (Rise (map key es ++ code ∷ []) → IsTrue r)
is_next_of key es e code at o r rise last is compared test =
    let at_last : get_or (map key es) (length (map key es) - 1) code ≡ at = ap (λ (n : ℕ). get_or (map key es) (n - 1) code) (length-map es key) ∙ get_or_from_slice_get (map key es) (length es - 1) (key e) code (get_mapped key es (length es - 1) e (sym last)) ∙ sym is in
    let many : 0 < length (map key es) = omega (arith, length-map es key, some_length es (length es - 1) e last) in (
      λ t. rise_next (map key es) code code rise (ap (λ (k : List ℕ). code_cmp k code) at_last ∙ sym compared ∙ less_of o (sym test ∙ t)),
      λ more. test ∙ ap is_lt (compared ∙ ap (λ (k : List ℕ). code_cmp k code) (sym at_last) ∙ rise_back (map key es) code code many more),
    )
  where
    some_length : {E : Type 0} (es : List E) (m : ℕ) (e : E) → Some e ≡ slice_get es m → 0 < length es
    some_length [] m e h = cc
    some_length (x ∷ es) m e h = omega arith
