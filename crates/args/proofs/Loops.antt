-- What a loop has made of the first items of a list, as a fold over them.
use Rattle.std.proofs.Common.{◌≡◌, ◌<◌, ◌≤◌, ◌+◌, ℕ, List, length, take, get_or, ap, sym, ◌∙◌, fold, map}
use Rattle.std.proofs.lemmas.List.{take_all}
use Rattle.std.proofs.lemmas.List.Folds.{fold-map}
use Rattle.std.proofs.lemmas.List.Sums.{fold_more}

-- one more item
pub folded_more : {X Y : Type 0} (f : Y → X → Y) (a : Y) (xs : List X) (i : ℕ) (d : X) (old new : Y) → i < length xs → old ≡ fold f a (take i xs)
    → new ≡ f old (get_or xs i d) → new ≡ fold f a (take (i + 1) xs)
folded_more f a xs i d old new lt before is = is ∙ ap (λ y. f y (get_or xs i d)) before ∙ sym (fold_more f a xs i d lt)

-- all items, said in other words
pub folded_all : {X Y Z : Type 0} (f : Y → Z → Y) (h : X → Z) (a : Y) (xs : List X) (zs : List Z) (i : ℕ) (now : Y) → length xs ≤ i
    → now ≡ fold (λ y x. f y (h x)) a (take i xs) → map h xs ≡ zs → now ≡ fold f a zs
folded_all f h a xs zs i now past before are = before ∙ ap (fold (λ y x. f y (h x)) a) (take_all i xs past) ∙ sym (fold-map f h a xs) ∙ ap (fold f a) are
