-- Where no reference to a table has an action, none acts.
use Rattle.sql_tables.proofs.Common.{list_all, flat_map, filter_map, cases_Bool, and_parts, and_from, and_cases, and_left, and_right, or_parts, or_from, not-false, false_from_ne_true, Decides-eqb, has_either, has_found, some_has, some_from, fails_has, fails_from, Has, Row, Schema, Table, NoAction, Enforced, Reference, same_name, ParentKey, key_in, key_places, declared_order, Order, Deed, work_by, work_for, deed_for, pairs, IsInert, IsActedOn, ◌≡◌, ◌≢◌, ◌⊎◌, ◌↔◌, inl, inr, ℕ, List, [], ◌∷◌, ◌++◌, Bool, true, false, not, ◌&&◌, ◌||◌, ◌==◌, Option, Some, None, option_map, option_and_then, find, length, refl, sym, ap, subst, ◌∙◌, true≢false}
use Rattle.sqlite_schema.specs.declared.schema.Action.{Action}
use Rattle.sql_tables.specs.Inside.Inert.{is_passive, refers_to, is_quiet, is_inert}

-- an action that is passive is NO ACTION
pub passive_is : (a : Action) → is_passive a ≡ true → a ≡ NoAction
passive_is NoAction h = refl
passive_is _ h = absurd (true≢false (sym h))

no_deed : (b : Bool) (ref : Reference) → ref.on_delete ≡ NoAction → ref.on_update ≡ NoAction → deed_for Enforced b ref ≡ None
no_deed true ref p q = rw p refl
no_deed false ref p q = rw q refl

module _ (schema : Schema) (tree : ℕ) (olds news : List Row) (child : Table) (ref : Reference) where
  abbrev moves : List (Row × Row)
  moves = pairs olds news

  ordered : (deed : Deed) (t : Table) (places : List ℕ) (o : Option Order) → (t.tree == tree) ≡ false
      → work_by 0 tree moves child ref (Some deed) (option_map (λ o. (t.tree, places, o)) o) ≡ None
  ordered deed t places None h = refl
  ordered deed t places (Some o) h = rw h refl

  placed : (deed : Deed) (t : Table) (places : Option (List ℕ)) → (t.tree == tree) ≡ false → work_by 0 tree moves child ref (Some deed) (option_and_then (key_in t) places) ≡ None
  placed deed t None h = refl
  placed deed t (Some places) h = ordered deed t places (declared_order t places) h

  away : (deed : Option Deed) (found : Option Table) → ((t : Table) → found ≡ Some t → (t.tree == tree) ≡ false)
      → work_by 0 tree moves child ref deed (option_and_then (λ t. option_and_then (key_in t) (key_places t ref.parent_columns)) found) ≡ None
  away None found h = refl
  away (Some deed) None h = refl
  away (Some deed) (Some t) h = placed deed t (key_places t ref.parent_columns) (h t refl)

  still : (deed : Option Deed) (key : Option ParentKey) → deed ≡ None → work_by 0 tree moves child ref deed key ≡ None
  still None key h = refl
  still (Some deed) key h = absurd (cc)

  either : (a b : Bool) → (a || not b) ≡ true → (a ≡ true) ⊎ (b ≡ false)
  either true b h = inl refl
  either false true h = absurd (true≢false (sym h))
  either false false h = inr refl

  far_off : refers_to schema.tables tree ref ≡ false → (t : Table) → find (λ t. same_name t.name ref.parent) schema.tables ≡ Some t → (t.tree == tree) ≡ false
  far_off none t is =
      let at = has_found (λ t. same_name t.name ref.parent) schema.tables t is in
      false_from_ne_true _ (λ same. true≢false (sym (some_from (λ t. same_name t.name ref.parent && (t.tree == tree)) schema.tables t at.0 (and_from _ _ at.1 same)) ∙ none))

  quiet : is_quiet schema.tables tree ref ≡ true → work_for schema Enforced 0 tree olds news child ref ≡ None
  quiet h = elim (either _ _ h) [
    | inl passive ↦
        let both = and_parts _ _ passive in
        still (deed_for Enforced (length news == 0) ref) _ (no_deed (length news == 0) ref (passive_is ref.on_delete both.0) (passive_is ref.on_update both.1))
    | inr far ↦ away (deed_for Enforced (length news == 0) ref) (find (λ t. same_name t.name ref.parent) schema.tables) (far_off far)
  ]

none_of : {X Y : Type 0} (h : X → Option Y) (p : X → Bool) → ((x : X) → p x ≡ true → h x ≡ None) → (xs : List X) → list_all p xs ≡ true → filter_map h xs ≡ []
none_of h p each [] all = refl
none_of h p each (x ∷ xs) all = let parts = and_parts _ _ all in rw (each x parts.0) (none_of h p each xs parts.1)

nil_of : {X Y : Type 0} (h : X → List Y) (p : X → Bool) → ((x : X) → p x ≡ true → h x ≡ []) → (xs : List X) → list_all p xs ≡ true → flat_map h xs ≡ []
nil_of h p each [] all = refl
nil_of h p each (x ∷ xs) all = let parts = and_parts _ _ all in rw (each x parts.0) (nil_of h p each xs parts.1)

-- where no reference acts on the tree, none does at any rows
pub inert : (schema : Schema) (tree : ℕ) → is_inert schema.tables tree ≡ true → IsInert schema tree
inert schema tree h olds news =
    nil_of _ (λ (t : Table). list_all (is_quiet schema.tables tree) t.references) (λ child all. none_of _ (is_quiet schema.tables tree) (λ ref. quiet schema tree olds news child ref) child.references all) schema.tables h

active : (a : Action) → is_passive a ≡ false → a ≢ NoAction
active a h is = true≢false (sym (ap is_passive is) ∙ h)

not_passive : (a : Action) → a ≢ NoAction → is_passive a ≡ false
not_passive a acts = false_from_ne_true _ (λ h. acts (passive_is a h))

-- where a schema does not pass, a foreign key acts
found_acting : (tables : List Table) (tree : ℕ) → is_inert tables tree ≡ false → IsActedOn tables tree
found_acting tables tree h =
    let c = fails_has _ tables h in
    let r = fails_has (is_quiet tables tree) c.0.references c.2 in
    let loud = or_parts _ _ r.2 in
    let p = some_has (λ t. same_name t.name r.0.parent && (t.tree == tree)) tables (not-false _ loud.1) in
    let both = and_parts _ _ p.2 in
    record {
      child = c.0;
      reference = r.0;
      parent = p.0;
      child_listed = c.1;
      parent_listed = p.1;
      of_child = r.1;
      to_parent = both.0;
      here = (Decides-eqb p.0.tree tree).0 both.1;
      acts = elim (and_cases _ _ loud.0) [ inl deletes ↦ inl (active _ deletes) | inr updates ↦ inr (active _ updates) ];
    }

-- where a foreign key acts, the schema does not pass
acting_fails : (tables : List Table) (tree : ℕ) → IsActedOn tables tree → is_inert tables tree ≡ false
acting_fails tables tree it =
    let refers : refers_to tables tree it.reference ≡ true =
    some_from (λ t. same_name t.name it.reference.parent && (t.tree == tree)) tables it.parent it.parent_listed (and_from _ _ it.to_parent ((Decides-eqb it.parent.tree tree).1 it.here)) in
    let acts : (is_passive it.reference.on_delete && is_passive it.reference.on_update) ≡ false =
    elim it.acts [ inl deletes ↦ and_left _ _ (not_passive _ deletes) | inr updates ↦ and_right _ _ (not_passive _ updates) ] in
    fails_from (λ t. list_all (is_quiet tables tree) t.references) tables it.child it.child_listed
    (fails_from (is_quiet tables tree) it.child.references it.reference it.of_child (or_from _ _ acts (ap not refers)))

-- where no foreign key acts on a table, none does at any rows
pub inert_so : (schema : Schema) (tree : ℕ) → (IsActedOn schema.tables tree → ⊥) → IsInert schema tree
inert_so schema tree none = elim (cases_Bool (is_inert schema.tables tree)) [ inl passes ↦ inert schema tree passes | inr fails ↦ absurd (none (found_acting schema.tables tree fails)) ]

-- whether every reference of a table writes nothing
abbrev pub AreAllPassive : Table → Type 0
AreAllPassive t = (r : Reference) → Has t.references r → (r.on_delete ≡ NoAction) × (r.on_update ≡ NoAction)

-- with a table more, whose references write nothing, in another tree, only those act that did
pub acted_before : (tables : List Table) (more : Table) (tree : ℕ) → AreAllPassive more → more.tree ≢ tree → IsActedOn (tables ++ more ∷ []) tree → IsActedOn tables tree
acted_before tables more tree passive apart it = record {
  child = it.child;
  reference = it.reference;
  parent = it.parent;
  child_listed = elim (has_either tables (more ∷ []) it.child it.child_listed) [
    | inl was ↦ was
    | inr (inl is) ↦
        let none = passive it.reference (subst (λ (t : Table). Has t.references it.reference) is it.of_child) in
        absurd (elim it.acts [ inl deletes ↦ deletes none.0 | inr updates ↦ updates none.1 ])
    | inr (inr none) ↦ absurd none
  ];
  parent_listed = elim (has_either tables (more ∷ []) it.parent it.parent_listed) [
    | inl was ↦ was
    | inr (inl is) ↦ absurd (apart (ap (λ (t : Table). t.tree) (sym is) ∙ it.here))
    | inr (inr none) ↦ absurd none
  ];
  of_child = it.of_child;
  to_parent = it.to_parent;
  here = it.here;
  acts = it.acts;
}

-- a schema passes unless a foreign key acts
pub acted_on : (tables : List Table) (tree : ℕ) → (is_inert tables tree ≡ false) ↔ IsActedOn tables tree
acted_on tables tree = (found_acting tables tree, acting_fails tables tree)
