-- A table that passes the tests is one of its shape, at its place.
use Rattle.sql_tables.proofs.Common.{option_map_or, list_all, bytes_eq, and_parts, cases_Bool, Decides-eqb, map-id, Integer, Real, Text, Blob, Any, Table, Schema, plain, Order, Reference, kind_code, Ours, TableShape, shape_of, table_at, Place, all_referring, kind_in, required, referring, ascending, made_at, is_nothing, is_binary, same_key, are_of_one, are_strict, is_alone, is_bare, is_required, is_referring, are_declared, are_plain, is_untimed, has_shape, IsTableNamed, place_of, IsListed, ◌≡◌, inl, inr, ℕ, Bool, true, false, not, ◌==◌, ◌&&◌, ◌||◌, if◌then◌else◌, List, [], ◌∷◌, length, slice_get, Option, Some, None, map, refl, sym, ap, subst, ◌∙◌, arith}
use Rattle.std.proofs.lemmas.Slice.Eq.{bytes_eq-Decides}
use Rattle.sqlite.specs.Kind.{Kind}
use Rattle.sqlite_value.specs.declared.value.Value.{Value}
use Rattle.sqlite_value.specs.declared.value.Value.TheVariants as value
use Rattle.sqlite_value.specs.declared.keys.Collation.{Collation}
use Rattle.sqlite_value.specs.declared.keys.Collation.TheVariants as collation
use Rattle.sqlite_schema.specs.declared.schema.Column.{Column}
use Rattle.sql_tables.proofs.Quiet.{passive_is}

same_bytes : (a b : List ℕ) → bytes_eq a b ≡ true → a ≡ b
same_bytes a b h = (bytes_eq-Decides a b).0 h

same_number : (a b : ℕ) → (a == b) ≡ true → a ≡ b
same_number a b h = (Decides-eqb a b).0 h

nothing_is : (v : Value) → is_nothing v ≡ true → v ≡ value.Null
nothing_is value.Null h = refl
nothing_is _ h = cc

binary_is : (c : Collation) → is_binary c ≡ true → c ≡ collation.Binary
binary_is collation.Binary h = refl
binary_is _ h = cc

kind_is : (a b : Kind) → (kind_code a == kind_code b) ≡ true → a ≡ b
kind_is Integer Integer h = refl
kind_is Real Real h = refl
kind_is Text Text h = refl
kind_is Blob Blob h = refl
kind_is Any Any h = refl
kind_is _ _ h = absurd (cc)

-- what holds of four holds of each, and so on
four_parts : (a b c d : Bool) → (a && b && c && d) ≡ true → (a ≡ true) × (b ≡ true) × (c ≡ true) × (d ≡ true)
four_parts a b c d h = let p = and_parts (a && b && c) d h in let q = and_parts (a && b) c p.0 in let r = and_parts a b q.0 in (r.0, r.1, q.1, p.1)

five_parts : (a b c d e : Bool) → (a && b && c && d && e) ≡ true → (a ≡ true) × (b ≡ true) × (c ≡ true) × (d ≡ true) × (e ≡ true)
five_parts a b c d e h = let p = and_parts (a && b && c && d) e h in let q = four_parts a b c d p.0 in (q.0, q.1, q.2, q.3, p.1)

six_parts : (a b c d e f : Bool) → (a && b && c && d && e && f) ≡ true → (a ≡ true) × (b ≡ true) × (c ≡ true) × (d ≡ true) × (e ≡ true) × (f ≡ true)
six_parts a b c d e f h = let p = and_parts (a && b && c && d && e) f h in let q = five_parts a b c d e p.0 in (q.0, q.1, q.2, q.3, q.4, p.1)

required_is : (is_strict : Bool) (declared : List ℕ × Kind) (c : Column) → c.is_strict ≡ is_strict → is_required declared c ≡ true → c ≡ required is_strict declared
required_is is_strict declared c strict h =
    let p = five_parts _ _ _ _ _ h in
    λ i. record {
      name = same_bytes c.name declared.0 p.0 i;
      kind = (kind_is c.kind (kind_in declared.1 c.is_strict) p.1 ∙ ap (kind_in declared.1) strict) i;
      is_strict = strict i;
      not_null = p.2 i;
      default = nothing_is c.default p.3 i;
      collation = binary_is c.collation p.4 i;
    }

-- lists whose entries are as declared are made of what is declared
declared_are : {A B : Type 0} (is : A → B → Bool) (make : A → B) → ((a : A) (b : B) → is a b ≡ true → b ≡ make a) → (said : List A) (bs : List B) → are_declared is said bs ≡ true → bs ≡ map make said
declared_are is make made [] [] h = refl
declared_are is make made (a ∷ said) (b ∷ bs) h = let p = and_parts _ _ h in λ i. made a b p.0 i ∷ declared_are is make made said bs p.1 i
declared_are is make made [] (b ∷ bs) h = absurd (cc)
declared_are is make made (a ∷ said) [] h = absurd (cc)

falls : (b : Bool) → not b ≡ true → b ≡ false
falls true h = absurd (cc)
falls false h = refl

-- columns that are declared and are each of a table that is STRICT, or each of one that is not
columns_are : (is_strict : Bool) (said : List (List ℕ × Kind)) (cs : List Column) → list_all (λ (c : Column). if is_strict then c.is_strict else not c.is_strict) cs ≡ true → are_declared is_required said cs ≡ true
    → cs ≡ map (required is_strict) said
columns_are is_strict [] [] all h = refl
columns_are is_strict (a ∷ said) (c ∷ cs) all h =
    let p = and_parts _ _ h in
    let q = and_parts _ _ all in
    λ i. required_is is_strict a c (strict_by is_strict c.is_strict q.0) p.0 i ∷ columns_are is_strict said cs q.1 p.1 i
  where
    strict_by : (wanted is : Bool) → (if wanted then is else not is) ≡ true → is ≡ wanted
    strict_by true is h = h
    strict_by false is h = falls is h
columns_are is_strict [] (c ∷ cs) all h = absurd (cc)
columns_are is_strict (a ∷ said) [] all h = absurd (cc)

other_way : (a b : Bool) → (a || b) ≡ true → a ≡ false → b ≡ true
other_way true b h is = absurd (cc)
other_way false b h is = h

-- the columns of a table are all of one that is STRICT or not
one_kind : (said : List (List ℕ × Kind)) (cs : List Column) → are_of_one cs ≡ true → are_declared is_required said cs ≡ true → cs ≡ map (required (are_strict cs)) said
one_kind said cs one h = elim (cases_Bool (are_strict cs)) [
  | inl strict ↦ columns_are true said cs strict h ∙ ap (λ b. map (required b) said) (sym strict)
  | inr loose ↦ columns_are false said cs (other_way _ _ one loose) h ∙ ap (λ b. map (required b) said) (sym loose)
]

at_is : {X : Type 0} (test : X → Bool) (o : Option X) (x : X) → ((y : X) → test y ≡ true → y ≡ x) → option_map_or test o false ≡ true → o ≡ Some x
at_is test None x is h = absurd (cc)
at_is test (Some y) x is h = ap Some (is y h)

-- ---- lists of a few, by their length and what stands at each place

-- a list of no length is empty
pub empty_is : {X : Type 0} (xs : List X) → length xs ≡ 0 → xs ≡ []
empty_is [] h = refl
empty_is (x ∷ xs) h = absurd (omega (arith, h))

some_is : {X : Type 0} {a b : X} → ◌≡◌ {A = Option X} (Some a) (Some b) → a ≡ b
some_is e = cc

-- a list of length one
pub one_is : {X : Type 0} (xs : List X) (a : X) → length xs ≡ 1 → slice_get xs 0 ≡ Some a → xs ≡ a ∷ []
one_is [] a h p = absurd (omega (arith, h))
one_is (x ∷ xs) a h p = λ i. some_is p i ∷ empty_is xs (omega (arith, h)) i

-- the columns of the other table are none, or the one that is declared
named_is : (name : List ℕ) (names : List (List ℕ)) (bare : Bool) → (length names == 0) ≡ bare → (bare || is_alone name names) ≡ true → names ≡ (if bare then [] else name ∷ [])
named_is name names true is h = empty_is names (same_number _ _ is)
named_is name names false is h =
    let n = and_parts _ _ h in
    one_is names name (same_number _ _ n.0) (at_is (λ c. bytes_eq c name) (slice_get names 0) name (λ x. same_bytes x name) n.1)

referring_is : (link : ℕ × List ℕ × List ℕ) (r : Reference) → is_referring link r ≡ true → r ≡ referring (is_bare r) link
referring_is link r h =
    let p = six_parts _ _ _ _ _ _ h in
    λ i. record {
      columns = same_bytes r.columns (link.0 ∷ []) p.0 i;
      parent = same_bytes r.parent link.1 p.1 i;
      parent_columns = named_is link.2 r.parent_columns (is_bare r) refl p.2 i;
      on_delete = passive_is r.on_delete p.3 i;
      on_update = passive_is r.on_update p.4 i;
      is_deferred = falls r.is_deferred p.5 i;
    }

-- references that are declared, some of which may be bare
all_referring_are : (links : List (ℕ × List ℕ × List ℕ)) (rs : List Reference) → are_declared is_referring links rs ≡ true → rs ≡ all_referring (map is_bare rs) links
all_referring_are [] [] h = refl
all_referring_are (link ∷ links) (r ∷ rs) h = let p = and_parts _ _ h in λ i. referring_is link r p.0 i ∷ all_referring_are links rs p.1 i
all_referring_are [] (r ∷ rs) h = absurd (cc)
all_referring_are (link ∷ links) [] h = absurd (cc)

order_is : (o : Order) → (o.digits == 0) ≡ true → o ≡ plain
order_is o h = λ i. record { digits = same_number o.digits 0 h i }

all_plain : (orders : List Order) → list_all (λ (o : Order). o.digits == 0) orders ≡ true → orders ≡ ascending (length orders)
all_plain [] h = refl
all_plain (o ∷ orders) h = let p = and_parts _ _ h in λ i. order_is o p.0 i ∷ all_plain orders p.1 i

plain_are : (count : ℕ) (orders : List Order) → are_plain count orders ≡ true → orders ≡ ascending count
plain_are count orders h = let p = and_parts _ _ h in all_plain orders p.1 ∙ ap ascending (same_number _ _ p.0)

same_key_is : (a b : Option ℕ) → same_key a b ≡ true → a ≡ b
same_key_is None None h = refl
same_key_is (Some a) (Some b) h = ap Some (same_number a b h)
same_key_is None (Some b) h = absurd (cc)
same_key_is (Some a) None h = absurd (cc)

-- what `is_untimed` says of a table
record IsUntimed (t : Table) : Type 0 where
  computed : t.computed ≡ []
  places : t.stamps.places ≡ []
  terms : t.stamps.terms ≡ []
  formats : t.stamps.formats ≡ []
  counted : t.is_counted ≡ false

untimed_is : (t : Table) → is_untimed t ≡ true → IsUntimed t
untimed_is t h =
    let p = five_parts _ _ _ _ _ h in
    record { computed = empty_is _ (same_number _ _ p.0); places = empty_is _ (same_number _ _ p.1); terms = empty_is _ (same_number _ _ p.2); formats = empty_is _ (same_number _ _ p.3); counted = falls _ p.4 }

-- what passes for a table of a shape is one
pub shape_is : (shape : TableShape) (t : Table) → has_shape shape t ≡ true → t ≡ made_at shape (place_of t)
shape_is shape t h =
    let p = six_parts _ _ _ _ _ _ h in
    let k = four_parts _ _ _ _ p.1 in
    let u = untimed_is t p.5 in
    λ i. record {
      name = same_bytes t.name shape.name p.0 i;
      tree = t.tree;
      columns = one_kind shape.columns t.columns p.3 p.2 i;
      key = same_key_is t.key shape.key k.0 i;
      primary = same_bytes t.primary shape.primary k.1 i;
      uniques = (declared_are (λ places list. bytes_eq list places) (λ places. places) (λ places list. same_bytes list places) shape.uniques t.uniques k.2 ∙ map-id shape.uniques) i;
      orders = plain_are (length shape.uniques) t.orders k.3 i;
      checks = t.checks;
      references = all_referring_are shape.links t.references p.4 i;
      computed = u.computed i;
      stamps = record { places = u.places i; terms = u.terms i; formats = u.formats i };
      is_counted = u.counted i;
    }

-- a table that is found by its name and is the one that is made here is listed
pub listed_as : (schema : Schema) (table : Place → Table) (t : Table) → (named : IsTableNamed schema (table (place_of t)).name t) → t ≡ table (place_of t) → IsListed table schema t.tree
listed_as schema table t named is = ((place_of t).rules, record { at = named.at; named = named.named; there = named.there ∙ ap Some is })

module _ (schema : Schema) (table : Ours) (declared : TableShape) (is : declared ≡ shape_of table) where
  -- a table that is found by the declared name and passes for the declared shape is listed
  pub listed_by : (t : Table) → IsTableNamed schema declared.name t → has_shape declared t ≡ true → IsListed (table_at table) schema t.tree
  listed_by t named h = listed_as schema (table_at table) t (subst (λ (shape : TableShape). IsTableNamed schema shape.name t) is named) (shape_is (shape_of table) t (subst (λ (shape : TableShape). has_shape shape t ≡ true) is h))
