-- Routes that are put into a router one after another.
use Rattle.std.proofs.Common.{◌≡◌, ℕ, ◌+◌, ◌<◌, ◌≤◌, Bool, true, false, not, ◌&&◌, List, [], ◌∷◌, length, map, drop, get_or, Option, Some, None, is_some, Result, Ok, Err, IfErr, OnOk, Bor, refl, sym, ap, ◌∙◌}
use Rattle.http_api.proofs.Common.{at_drop_more, drop_all, RowsOf, RouteOf, Refused, InsertsRead, nearest, route_from, Methods}
use Rattle.matchit.specs.Order.{placed}
use Rattle.matchit.specs.Route.{Scan, parse_route}
use Rattle.matchit.specs.declared.error.InsertError.{InsertError}
use Rattle.matchit.specs.declared.error.InsertError.TheVariants.{Conflict, InvalidParam, InvalidParamSegment, InvalidCatchAll, OutOfMemory}
use Rattle.http_api.proofs.Sound.{both}

-- the rows with one more route, if its path reads well
abbrev pub with_one : Result Scan InsertError → Methods → RowsOf (RouteOf Methods) → RowsOf (RouteOf Methods)
with_one (Ok s) methods rows = placed (s.pattern, route_from s methods) rows
with_one (Err e) methods rows = rows

-- the rows with these routes, each in order
abbrev pub with_routes : RowsOf (RouteOf Methods) → List (List ℕ × Methods) → RowsOf (RouteOf Methods)
with_routes rows [] = rows
with_routes rows (r ∷ routes) = with_routes (with_one (parse_route r.0) r.1 rows) routes

-- a path reads well, and no row conflicts with it
abbrev pub is_new : Result Scan InsertError → RowsOf (RouteOf Methods) → Bool
is_new (Ok s) rows = not (is_some (nearest s.pattern rows))
is_new (Err e) rows = false

-- so it is with each of these routes, in order
abbrev pub are_new : RowsOf (RouteOf Methods) → List (List ℕ × Methods) → Bool
are_new rows [] = true
are_new rows (r ∷ routes) = is_new (parse_route r.0) rows && are_new (with_one (parse_route r.0) r.1 rows) routes

-- what is not there is none
none : {A : Type 0} (o : Option A) → not (is_some o) ≡ true → o ≡ None
none None e = refl
none (Some x) e = absurd (let f : false ≡ true = e in cc)

-- a route that is put in stands in the rows
pub is_put : (read : Result Scan InsertError) (methods : Methods) (old new : RowsOf (RouteOf Methods)) (result : Result (Unit {0}) InsertError)
    → is_new read old ≡ true → InsertsRead read methods old new result → OnOk result (new ≡ with_one read methods old)
is_put (Ok s) methods old new (Ok u) fresh h = h.1
is_put (Ok s) methods old new (Err e) fresh h = tt
is_put (Err e) methods old new result fresh h = absurd (let f : false ≡ true = fresh in cc)

-- and is refused only where memory runs out
pub is_memory : (read : Result Scan InsertError) (methods : Methods) (old new : RowsOf (RouteOf Methods)) (result : Result (Unit {0}) InsertError)
    → is_new read old ≡ true → InsertsRead read methods old new result → IfErr result (λ e. e ≡ OutOfMemory)
is_memory (Ok s) methods old new (Ok u) fresh h = tt
is_memory (Ok s) methods old new (Err e) fresh h = by e h.1
  where
    by : (e : InsertError) → Refused s.pattern old e → e ≡ OutOfMemory
    by OutOfMemory r = refl
    by (Conflict with) r = absurd (let found = r.1 in let lost = none (nearest s.pattern old) fresh in cc)
    by InvalidParamSegment r = absurd r
    by InvalidParam r = absurd r
    by InvalidCatchAll r = absurd r
is_memory (Err e) methods old new result fresh h = absurd (let f : false ≡ true = fresh in cc)

-- a route, as it stands in the code
abbrev pub as_values : Bor (List ℕ) × Methods → List ℕ × Methods
as_values r = (r.0.now, r.1)

-- the routes from a row on
abbrev pub left : List (Bor (List ℕ) × Methods) → ℕ → List (List ℕ × Methods)
left items n = map as_values (drop n items)

-- put into these rows, the routes make the others, and each of them is new
pub record Make (rows : RowsOf (RouteOf Methods)) (routes : List (List ℕ × Methods)) (all : RowsOf (RouteOf Methods)) : Type 0 where
  pub made : with_routes rows routes ≡ all
  pub fresh : are_new rows routes ≡ true

-- so do those that are left once the first of them is put in
pub goes_on : (items : List (Bor (List ℕ) × Methods)) (n : ℕ) (d : Bor (List ℕ) × Methods) (old new all : RowsOf (RouteOf Methods)) (u : Unit {0}) → n < length items → Make old (left items n) all
    → InsertsRead (parse_route (get_or items n d).0.now) (get_or items n d).1 old new (Ok u) → Make new (left items (n + 1)) all
goes_on items n d old new all u inside make h =
    let r = as_values (get_or items n d) in
    let next : left items n ≡ r ∷ left items (n + 1) = at_drop_more (map as_values) items n d inside in
    let fresh = both (is_new (parse_route r.0) old) (are_new (with_one (parse_route r.0) r.1 old) (left items (n + 1))) (ap (are_new old) (sym next) ∙ make.fresh) in
    let put : new ≡ with_one (parse_route r.0) r.1 old = is_put (parse_route r.0) r.1 old new (Ok u) fresh.0 h in
    record {
      made = ap (λ rows. with_routes rows (left items (n + 1))) put ∙ ap (with_routes old) (sym next) ∙ make.made;
      fresh = ap (λ rows. are_new rows (left items (n + 1))) put ∙ fresh.1;
    }

-- the first of them is new
pub first_new : (items : List (Bor (List ℕ) × Methods)) (n : ℕ) (d : Bor (List ℕ) × Methods) (old all : RowsOf (RouteOf Methods)) → n < length items → Make old (left items n) all
    → is_new (parse_route (get_or items n d).0.now) old ≡ true
first_new items n d old all inside make =
    let r = as_values (get_or items n d) in
    let next : left items n ≡ r ∷ left items (n + 1) = at_drop_more (map as_values) items n d inside in
    (both (is_new (parse_route r.0) old) (are_new (with_one (parse_route r.0) r.1 old) (left items (n + 1))) (ap (are_new old) (sym next) ∙ make.fresh)).0

-- where none is left the rows are made
pub all_made : (items : List (Bor (List ℕ) × Methods)) (n : ℕ) (rows all : RowsOf (RouteOf Methods)) → length items ≤ n → Make rows (left items n) all → rows ≡ all
all_made items n rows all past make = ap (λ rest. with_routes rows (map as_values rest)) (sym (drop_all n items past)) ∙ make.made
