-- A row begins with a key as SQL compares them where its cells do.
use Rattle.store.proofs.Common.{◌&&◌, Equal-is, int_cmp_is, Decides-eqb, begins_with, Cell, Text, Number, Bytes, Cells, begins, same_cell, value_of, values, ◌≡◌, ℕ, ℤ, pos, negsuc, List, [], ◌∷◌, Bool, true, Some, is_eq, refl, sym, ap, subst, ◌∙◌, arith, int_cmp, value_cmp-Int, value_cmp-Text, value_cmp-Blob, value_cmp-apart, equal, equal_int, false}
use Rattle.std.specs.Str.{bytes_eq}
use Rattle.std.specs.declared.cmp.Ordering.TheVariants.{Equal}
use Rattle.std.proofs.lemmas.Slice.Eq.{bytes_eq-Decides}
use Rattle.std.proofs.lemmas.Map.Text.{is_eq-slice_cmp}
use Rattle.sqlite.specs.declared.types.Value.TheVariants as value
use Rattle.sqlite.specs.Collation.TheVariants.{Binary}
use Rattle.sqlite_sql.specs.Ops.{binary, is_true, from_truth}

same_tests : (a b : Bool) → (a ≡ true → b ≡ true) → (b ≡ true → a ≡ true) → a ≡ b
same_tests true b f g = sym (f refl)
same_tests false true f g = g refl
same_tests false false f g = refl

bytes_back : (a b : List ℕ) → bytes_eq a b ≡ bytes_eq b a
bytes_back a b = same_tests _ _ (λ h. (bytes_eq-Decides b a).1 (sym ((bytes_eq-Decides a b).0 h))) (λ h. (bytes_eq-Decides a b).1 (sym ((bytes_eq-Decides b a).0 h)))

natural : ℤ → ℕ
natural (pos n) = n
natural (negsuc n) = 0

truth_is : (b : Bool) → is_true (from_truth (Some b)) ≡ b
truth_is true = refl
truth_is false = refl

pub int_self : (a : ℤ) → equal Binary (value.Int a) (value.Int a) ≡ true
unfolding binary
int_self a = truth_is _ ∙ ap is_eq (value_cmp-Int a a) ∙ (Equal-is (int_cmp a a)).1 (sym (int_cmp_is a a Equal refl))

same_value : (c d : Cell) → equal Binary (value_of d) (value_of c) ≡ same_cell c d
unfolding binary natural
same_value (Text a) (Text b) = truth_is _ ∙ ap is_eq (value_cmp-Text b a) ∙ is_eq-slice_cmp b a ∙ bytes_back b a
same_value (Bytes a) (Bytes b) = truth_is _ ∙ ap is_eq (value_cmp-Blob b a) ∙ is_eq-slice_cmp b a ∙ bytes_back b a
same_value (Number a) (Number b) = same_tests _ _
    (λ h. (Decides-eqb a b).1 (sym (ap natural (equal_int (pos b) (pos a) h))))
    (λ h. subst (λ (m : ℕ). equal Binary (value.Int (pos m)) (value.Int (pos a)) ≡ true) ((Decides-eqb a b).0 h) (int_self (pos a)))
same_value c d = truth_is _ ∙ ap is_eq (value_cmp-apart (value_of d) (value_of c) (λ h. omega (arith, h)))

pub begins_same : (key row : Cells) → begins_with (values key) (values row) ≡ begins key row
unfolding binary
begins_same [] row = refl
begins_same (Text a ∷ key) [] = refl
begins_same (c ∷ key) [] = refl
begins_same (c ∷ key) (d ∷ row) = λ i. same_value c d i && begins_same key row i
