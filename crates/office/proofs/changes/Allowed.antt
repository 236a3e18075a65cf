-- Changes that are allowed over rows: they are over the same rows in another order, and so are others after them, where those are allowed
-- over what they make.
use Rattle.office.proofs.changes.Common.{list_any, IsPermutation-sym, length_permutation, list_any-IsPermutation, IsPermutation-filter, Table, Supervisor, Project, Student, Round, RoundAim, Choice, Placement, Put, Add, Remove, Change, AllRows, Cells, SameRows, begins, key_in, after_change, after_changes, ◌≡◌, ◌≤◌, Bool, true, false, List, [], ◌∷◌, ◌++◌, sym, subst, ◌∙◌, IsWithin, IsAllowedChange, AreAllowed}
use Rattle.office.proofs.changes.Changes.{same_change}

module _ (rows others : AllRows) (same : SameRows rows others) where
  -- what is among rows is among them in another order
  any_same : (table : Table) (p : Cells → Bool) (b : Bool) → list_any p (rows table) ≡ b → list_any p (others table) ≡ b
  any_same table p b h = sym (list_any-IsPermutation p (rows table) (others table) (same table)) ∙ h

  within_same : (table : Table) (row : Cells) → IsWithin rows table row → IsWithin others table row
  within_same Project row h = (h.0, h.1, h.2, h.3, h.4, h.5, any_same Supervisor _ true h.6)
  within_same RoundAim row h = (h.0, h.1, h.2, h.3, any_same Round _ true h.4)
  within_same Choice row h = (h.0, h.1, h.2, h.3, h.4, h.5, h.6, any_same Round _ true h.7, any_same Student _ true h.8, any_same Project _ true h.9, any_same Choice _ false h.10)
  within_same Placement row h = (h.0, h.1, h.2, h.3, h.4, h.5, h.6, any_same Student _ true h.7, any_same Round _ true h.8, any_same Project _ true h.9)
  within_same _ row h = h

  change_same : (c : Change) → IsAllowedChange rows c → IsAllowedChange others c
  change_same (Put r) h = (
    record { within = within_same r.table r.cells h.0.within; short = h.0.short },
    h.1,
    subst (λ n. n ≤ 1) (sym (length_permutation _ _ (IsPermutation-filter (begins (key_in r.table r.cells)) _ _ (same r.table)))) h.2,
  )
  change_same (Add r) h = record { within = within_same r.table r.cells h.within; short = h.short }
  change_same (Remove p) h = h

pub allowed_same : (cs : List Change) (rows others : AllRows) → SameRows rows others → AreAllowed cs rows → AreAllowed cs others
allowed_same [] rows others same all = tt
allowed_same (c ∷ cs) rows others same all = (change_same rows others same c all.0, allowed_same cs (after_change c rows) (after_change c others) (same_change c rows others same) all.1)

pub allowed_follow : (cs ds : List Change) (old mid : AllRows) → AreAllowed cs old → SameRows (after_changes cs old) mid → AreAllowed ds mid → AreAllowed (cs ++ ds) old
allowed_follow [] ds old mid first same second = allowed_same ds mid old (λ table. IsPermutation-sym _ _ (same table)) second
allowed_follow (c ∷ cs) ds old mid first same second = (first.0, allowed_follow cs ds (after_change c old) mid first.1 same second)
