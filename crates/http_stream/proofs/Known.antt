-- Reads and writes, one after another.
use Rattle.std.proofs.Common.{◌≡◌, ℕ, ◌+◌, ◌-◌, arith, List, [], ◌++◌, length, take, drop, Option, Some, None, refl, sym, ap, ◌∙◌, subst, append_assoc, append-nil}
use Rattle.http_stream.proofs.Common.{take-add, take_all, length-drop, Appends, Consumes}

-- two writes are one
pub appends_compose : (a b c : Option (List ℕ)) (x y : List ℕ) → Appends a b x → Appends b c y → Appends a c (x ++ y)
appends_compose None b c x y p q = tt
appends_compose (Some u) None c x y p q = absurd p
appends_compose (Some u) (Some v) None x y p q = absurd q
appends_compose (Some u) (Some v) (Some w) x y p q = q ∙ ap (λ (t : List ℕ). t ++ y) p ∙ append_assoc u x y

-- a part is written after the parts before it
pub appends_part : (a b c : Option (List ℕ)) (bytes : List ℕ) (at n : ℕ) → Appends a b (take at bytes)
    → Appends b c (take n (take (length bytes - at) (drop at bytes))) → Appends a c (take (at + n) bytes)
appends_part a b c bytes at n p q =
    let whole : take (length bytes - at) (drop at bytes) ≡ drop at bytes = take_all (length bytes - at) (drop at bytes) (omega (arith, length-drop at bytes)) in
    subst (Appends a c) (sym (take-add at n bytes))
    (appends_compose a b c (take at bytes) (take n (drop at bytes)) p (subst (λ (t : List ℕ). Appends b c (take n t)) whole q))

-- nothing was written
pub appends_none : (a : Option (List ℕ)) → Appends a a []
appends_none None = tt
appends_none (Some u) = sym (append-nil u)

-- two reads are one
pub consumes_compose : (a b c : Option (List ℕ)) (x y : List ℕ) → Consumes a b x → Consumes b c y → Consumes a c (x ++ y)
consumes_compose None b c x y p q = tt
consumes_compose (Some u) None c x y p q = absurd p
consumes_compose (Some u) (Some v) None x y p q = absurd q
consumes_compose (Some u) (Some v) (Some w) x y p q = p ∙ ap (λ (t : List ℕ). x ++ t) q ∙ sym (append_assoc x y w)

-- nothing was read
pub consumes_none : (a : Option (List ℕ)) → Consumes a a []
consumes_none None = tt
consumes_none (Some u) = refl
