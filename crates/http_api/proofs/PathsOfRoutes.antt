-- A path that is named finds its route, and what a path finds names it.
use Rattle.std.proofs.Common.{MatchOption, ◌≡◌, ◌<◌, inl, inr, ℕ, ◌+◌, ◌-◌, ◌==◌, Bool, true, false, cond, ◌&&◌, ltb, leb, suc, ◌≤◌, List, [], ◌∷◌, ◌++◌, length, map, take, drop, get_or, Option, Some, None, option_map, unwrap_or, if◌then◌else◌, refl, sym, ap, ◌∙◌, subst, arith, append-nil, codes}
use Rattle.http_api.proofs.Common.{IsUtf8, ltb-true, lt-ltb, le-ltb, le-leb, ne_eqb, IsUtf8-drop, IsCharBoundary-after_ascii, take_all, length-append, first, segment, own, RowsOf, RouteOf, Methods, Any, Numbers, is_segment, row, fixed, read, asked, opens, entry, list, numbered, import, fits, fill, AreSegments, AllFit, HasRow, NamesRoute, IsNowhere, first_of, NamesBy}
use Rattle.std.proofs.Math.Seq.{drop-append_seam}
use Rattle.std.proofs.Math.ListN.{get_or-append}
use Rattle.matchit.specs.Params.{walk, wild_from, wild_stop, next_at, part_of, named, AllText}
use Rattle.office_model.specs.declared.import.ImportKind.TheVariants as kind
use Rattle.office_model.specs.declared.report.ReportKind.TheVariants as of
use Rattle.http_api.specs.declared.routes.Segments.{Segments}
use Rattle.http_api.specs.declared.routes.Call.TheVariants as call
use Rattle.http_api.specs.declared.routes.Put.TheVariants as put
use Rattle.http_api.specs.Routes.{all_routes}
use Rattle.http_api.proofs.Found.{steps, found_along, ends_here, param_leaf, number_leaf}
use Rattle.http_api.proofs.Sound.{both, makes, AllPlain, plain_all}

-- each token is a byte
is_literal : List ℕ → Bool
is_literal [] = true
is_literal (x ∷ front) = ltb x 256 && is_literal front

-- a byte is no parameter
no_param : (x : ℕ) → ltb x 256 ≡ true → (x == 256) ≡ false
no_param x e = ne_eqb x 256 (λ f. let g : x < 256 = ltb-true x 256 e in omega arith)

-- a path that one segment after a front makes
pub record Behind (front : List ℕ) (values : List (List ℕ)) (path : List ℕ) : Type 0 where
  pub text : List ℕ
  pub one : values ≡ text ∷ []
  pub whole : path ≡ front ++ text

-- what a text is put in front of is there
in_front : (f : List ℕ → List ℕ) (o : Option (List ℕ)) (path : List ℕ) → option_map f o ≡ Some path → (rest : List ℕ) × (o ≡ Some rest) × (path ≡ f rest)
in_front f None path e = absurd (let g : None ≡ Some path = e in cc)
in_front f (Some rest) path e = (rest, refl, (let g : Some (f rest) ≡ Some path = e in let h : f rest ≡ path = cc in sym h))

-- a pattern of a front and a parameter is filled by one text
behind : (front : List ℕ) (values : List (List ℕ)) (path : List ℕ) → is_literal front ≡ true → fill (front ++ 256 ∷ []) values ≡ Some path → Behind front values path
unfolding is_literal
behind [] [] path l e = absurd (let f : None ≡ Some path = e in cc)
behind [] (v ∷ []) path l e = let f : Some (v ++ []) ≡ Some path = e in let g : v ++ [] ≡ path = cc in record { text = v; one = refl; whole = sym g ∙ append-nil v }
behind [] (v ∷ w ∷ values) path l e = absurd (let f : None ≡ Some path = e in cc)
behind (x ∷ front) [] path l e =
    let ls = both (ltb x 256) (is_literal front) l in
    let r = in_front (λ p. x ∷ p) (fill (front ++ 256 ∷ []) []) path (subst (λ (t : Bool). (if t then None else option_map (λ p. x ∷ p) (fill (front ++ 256 ∷ []) [])) ≡ Some path) (no_param x ls.0) e) in
    let b = behind front [] r.0 ls.1 r.1 in
    record { text = b.text; one = b.one; whole = r.2 ∙ ap (λ p. x ∷ p) b.whole }
behind (x ∷ front) (v ∷ values) path l e =
    let ls = both (ltb x 256) (is_literal front) l in
    let r = in_front (λ p. x ∷ p) (fill (front ++ 256 ∷ []) (v ∷ values)) path
    (subst (λ (t : Bool). (if t then option_map (λ p. v ++ p) (fill (front ++ 256 ∷ []) values) else option_map (λ p. x ∷ p) (fill (front ++ 256 ∷ []) (v ∷ values))) ≡ Some path) (no_param x ls.0) e) in
    let b = behind front (v ∷ values) r.0 ls.1 r.1 in
    record { text = b.text; one = b.one; whole = r.2 ∙ ap (λ p. x ∷ p) b.whole }

-- a walk comes past a front to the parameter after it
past_front : (front : List ℕ) (len token at : ℕ) → is_literal front ≡ true → at + length front ≤ len → wild_from (front ++ 256 ∷ []) len token at ≡ (token + length front, at + length front)
unfolding is_literal
past_front [] len token at l fits =
    let t : token ≡ token + 0 = omega arith in
    let a : at ≡ at + 0 = omega arith in
    ap (λ (n : ℕ). (n, at)) t ∙ ap (λ (n : ℕ). (token + 0, n)) a
past_front (x ∷ front) len token at l fits =
    let ls = both (ltb x 256) (is_literal front) l in
    let next : next_at len at ≡ at + 1 = ap (λ (t : Bool). cond t (at + 1) at) (lt-ltb at len (omega arith)) in
    let t : token + 1 + length front ≡ token + suc (length front) = omega arith in
    let a : at + 1 + length front ≡ at + suc (length front) = omega arith in
    ap (λ (v : Bool). cond v (wild_from (front ++ 256 ∷ []) len (token + 1) (next_at len at)) (token, at)) ls.0
    ∙ ap (λ (n : ℕ). wild_from (front ++ 256 ∷ []) len (token + 1) n) next
    ∙ past_front front len (token + 1) (at + 1) ls.1 (omega arith)
    ∙ ap (λ (n : ℕ). (n, at + 1 + length front)) t ∙ ap (λ (n : ℕ). (token + suc (length front), n)) a

-- no test of three holds where the last does not
last_fails : (a b c : Bool) → c ≡ false → (a && b && c) ≡ false
last_fails true true c e = e
last_fails true false c e = refl
last_fails false b c e = refl

-- a parameter at the end of a pattern takes the rest of the path
takes_rest : (front path : List ℕ) (at : ℕ) → wild_stop (front ++ 256 ∷ []) (length front) path at ≡ length path
takes_rest front path at =
    let none : ltb (length front + 1) (length (front ++ 256 ∷ [])) ≡ false = le-ltb (length front + 1) (length (front ++ 256 ∷ [])) (simp length-append (omega arith)) in
    ap (λ (t : Bool). cond t (at + length (segment (drop at path)) - length (segment (drop (length front + 1) (front ++ 256 ∷ [])))) (length path))
    (last_fails (ltb (length front) (length (front ++ 256 ∷ []))) (get_or (front ++ 256 ∷ []) (length front) 0 == 256) _ none)

-- what remains after a front is what a parameter takes
part_behind : (front text : List ℕ) → part_of (front ++ text) (length front) (length (front ++ text)) ≡ text
part_behind front text =
    let start : leb (length front) (length (front ++ text)) ≡ true = le-leb (length front) (length (front ++ text)) (simp length-append (omega arith)) in
    let end : leb (length (front ++ text)) (length (front ++ text)) ≡ true = le-leb (length (front ++ text)) (length (front ++ text)) (omega arith) in
    let rest : drop (length front) (front ++ text) ≡ text = drop-append_seam front text in
    let all : length text ≤ length (front ++ text) - length front = simp length-append (omega arith) in
    ap (λ (t : Bool). cond (t && leb (length (front ++ text)) (length (front ++ text))) (take (length (front ++ text) - length front) (drop (length front) (front ++ text))) []) start
    ∙ ap (λ (t : Bool). cond t (take (length (front ++ text) - length front) (drop (length front) (front ++ text))) []) end
    ∙ ap (take (length (front ++ text) - length front)) rest ∙ take_all (length (front ++ text) - length front) text all

-- a walk over the pattern of a front and a parameter takes what is after the front
walk_behind : (front label text : List ℕ) (a b : ℕ) → is_literal front ≡ true → walk (front ++ 256 ∷ []) label (front ++ text) ((a, b) ∷ []) 0 0 ≡ (part_of label a b, text) ∷ []
walk_behind front label text a b l =
    let zero_more : 0 + length front ≡ length front = omega arith in
    let past : wild_from (front ++ 256 ∷ []) (length (front ++ text)) 0 0 ≡ (length front, length front) = past_front front (length (front ++ text)) 0 0 l (simp length-append (omega arith)) ∙ ap (λ (n : ℕ). (n, n)) zero_more in
    ap (λ (p : ℕ × ℕ). (part_of label a b, part_of (front ++ text) p.1 (wild_stop (front ++ 256 ∷ []) p.0 (front ++ text) p.1)) ∷ []) past
    ∙ ap (λ (n : ℕ). (part_of label a b, part_of (front ++ text) (length front) n) ∷ []) (takes_rest front (front ++ text) (length front))
    ∙ ap (λ (t : List ℕ). (part_of label a b, t) ∷ []) (part_behind front text)

-- a pattern without a parameter is filled by no text
unfilled : (front : List ℕ) (values : List (List ℕ)) (path : List ℕ) → is_literal front ≡ true → fill front values ≡ Some path → (values ≡ []) × (path ≡ front)
unfolding is_literal
unfilled [] [] path l e = let f : Some [] ≡ Some path = e in let g : [] ≡ path = cc in (refl, sym g)
unfilled [] (v ∷ values) path l e = absurd (let f : None ≡ Some path = e in cc)
unfilled (x ∷ front) [] path l e =
    let ls = both (ltb x 256) (is_literal front) l in
    let r = in_front (λ p. x ∷ p) (fill front []) path (subst (λ (t : Bool). (if t then None else option_map (λ p. x ∷ p) (fill front [])) ≡ Some path) (no_param x ls.0) e) in
    let u = unfilled front [] r.0 ls.1 r.1 in
    (u.0, r.2 ∙ ap (λ p. x ∷ p) u.1)
unfilled (x ∷ front) (v ∷ values) path l e =
    let ls = both (ltb x 256) (is_literal front) l in
    let r = in_front (λ p. x ∷ p) (fill front (v ∷ values)) path
    (subst (λ (t : Bool). (if t then option_map (λ p. v ++ p) (fill front values) else option_map (λ p. x ∷ p) (fill front (v ∷ values))) ≡ Some path) (no_param x ls.0) e) in
    let u = unfilled front (v ∷ values) r.0 ls.1 r.1 in
    (u.0, r.2 ∙ ap (λ p. x ∷ p) u.1)

-- the texts of a route's parameters, of which it has one or none
abbrev pub values_of : List (ℕ × ℕ) → List ℕ → List (List ℕ)
values_of [] code = []
values_of (n ∷ ns) code = code ∷ []

-- the text that a route takes of a path under the name of its parameter, or none
abbrev pub code_in : RouteOf Methods → List ℕ → List ℕ
code_in route path = unwrap_or (named (codes "code") (walk route.pattern route.text path route.names 0 0)) []

-- what a path of a route has for its parameter
pub record Read (path : List ℕ) (route : RouteOf Methods) (values : List (List ℕ)) : Type 0 where
  pub one : values ≡ values_of route.names (code_in route path)
  pub code : code_in route path ≡ first_of values
  pub texts : IsUtf8 path → AllText (walk route.pattern route.text path route.names 0 0)
  pub fit : fits route.value.segments (code_in route path) ≡ true → AllFit route.value.segments values
  pub unfit : AllFit route.value.segments values → fits route.value.segments (code_in route path) ≡ true
  pub at : AllFit route.value.segments values → first all_routes path ≡ Some route

-- a row of the router reads each path that its pattern makes
abbrev Stands : List ℕ × RouteOf Methods → Type 0
Stands r = (path : List ℕ) (values : List (List ℕ)) → fill r.0 values ≡ Some path → AreSegments values → Read path r.1 values

-- a row that does
abbrev Standing : Type 0
Standing = (r : List ℕ × RouteOf Methods) × Stands r

-- a row without a parameter does: what goes on with its pattern ends there
unfoldable lies : (front : List ℕ) (methods : Methods) → is_literal front ≡ true → methods.segments ≡ Any → own (steps front all_routes) ≡ Some (fixed front methods).1 → Standing
lies front methods literal any here = (
  fixed front methods,
  λ path values filled segments.
      let k = (fixed front methods).1 in
      let u = unfilled front values path literal filled in
      let at : first all_routes front ≡ Some k = ap (first all_routes) (sym (append-nil front)) ∙ found_along front all_routes [] k (ends_here k (steps front all_routes) here) in
      record {
        one = u.0;
        code = sym (ap first_of u.0);
        texts = λ utf8. tt;
        fit = λ f. subst (AllFit methods.segments) (sym u.0) tt;
        unfit = λ f. ap (λ (s : Segments). fits s []) any;
        at = λ f. ap (first all_routes) u.1 ∙ at;
      },
)

-- what is after a byte of ASCII in a text is a text
text_behind : (front text : List ℕ) (n : ℕ) → length front ≡ n + 1 → get_or front n 0 ≡ 47 → IsUtf8 (front ++ text) → IsUtf8 text
text_behind front text n size slash u =
    let inside : n < length front = omega (arith, size) in
    let at : get_or (front ++ text) n 0 ≡ 47 = get_or-append front text 0 n inside ∙ slash in
    let within : n < length (front ++ text) = simp length-append (omega (arith, inside)) in
    subst IsUtf8 (ap (λ k. drop k (front ++ text)) (sym size) ∙ drop-append_seam front text)
    (IsUtf8-drop (front ++ text) (n + 1) u (IsCharBoundary-after_ascii (front ++ text) n u within (omega (arith, at))))

-- a row with a parameter does, where each segment that fits is found after its front
unfoldable stands : (front : List ℕ) (n : ℕ) (methods : Methods) → is_literal front ≡ true → length front ≡ n + 1 → get_or front n 0 ≡ 47
    → part_of (row front (codes "code") methods).1.text (length front + 1) (length front + 1 + 4) ≡ codes "code"
    → ((text : List ℕ) → is_segment text ≡ true → fits methods.segments text ≡ true → first (steps front all_routes) text ≡ Some (row front (codes "code") methods).1)
    → Standing
unfolding lib.Utf8.encode
stands front n methods literal size slash label leaf = (
  row front (codes "code") methods,
  λ path values filled segments.
      let b = behind front values path literal filled in
      let r = (row front (codes "code") methods).1 in
      let walked : walk r.pattern r.text path r.names 0 0 ≡ (codes "code", b.text) ∷ []
      = subst (λ p. walk r.pattern r.text p r.names 0 0 ≡ (codes "code", b.text) ∷ []) (sym b.whole)
      (walk_behind front r.text b.text (length front + 1) (length front + 1 + 4) literal ∙ ap (λ (t : List ℕ). (t, b.text) ∷ []) label) in
      let code : code_in r path ≡ b.text = ap (λ (w : List (List ℕ × List ℕ)). unwrap_or (named (codes "code") w) []) walked in
      record {
        one = b.one ∙ ap (λ (t : List ℕ). t ∷ []) (sym code);
        code = code ∙ sym (ap first_of b.one);
        texts = λ utf8. subst AllText (sym walked) ((codes "code", (refl, refl)), text_behind front b.text n size slash (subst IsUtf8 b.whole utf8), tt);
        fit = λ f. subst (AllFit methods.segments) (sym b.one) (sym (ap (fits methods.segments) code) ∙ f, tt);
        unfit = λ f. ap (fits methods.segments) code ∙ (subst (AllFit methods.segments) b.one f).0;
        at = λ f. ap (first all_routes) b.whole ∙ found_along front all_routes b.text r (leaf b.text (subst AreSegments b.one segments).0 (subst (AllFit methods.segments) b.one f).0);
      },
)

-- where no other row begins so, each segment is found
unfoldable alone : (front : List ℕ) (n : ℕ) (methods : Methods) → is_literal front ≡ true → length front ≡ n + 1 → get_or front n 0 ≡ 47
    → part_of (row front (codes "code") methods).1.text (length front + 1) (length front + 1 + 4) ≡ codes "code"
    → steps front all_routes ≡ (256 ∷ [], (row front (codes "code") methods).1) ∷ [] → Standing
alone front n methods literal size slash label only =
    let r = (row front (codes "code") methods).1 in
    stands front n methods literal size slash label (λ text segment fit. ap (λ (rows : RowsOf (RouteOf Methods)). first rows text) only ∙ param_leaf r text segment)

-- a route a line
unfoldable all_standing : List Standing
unfolding all_routes is_literal
all_standing =
    alone (codes "/imports/lists/") 14 (import kind.Lists) refl refl refl refl refl
    ∷ alone (codes "/imports/projects/") 17 (import kind.Projects) refl refl refl refl refl
    ∷ alone (codes "/imports/students/") 17 (import kind.Students) refl refl refl refl refl
    ∷ alone (codes "/imports/supervisors/") 20 (import kind.Supervisors) refl refl refl refl refl
    ∷ alone (codes "/lists/") 6 list refl refl refl refl refl
    ∷ lies (codes "/preview") (read call.Preview) refl refl refl
    ∷ alone (codes "/projects/") 9 (entry put.Project call.GetProject) refl refl refl refl refl
    ∷ alone (codes "/reports/loads/") 14 (numbered (call.Report of.Loads)) refl refl refl refl refl
    ∷ alone (codes "/reports/missing/") 16 (numbered (call.Report of.Missing)) refl refl refl refl refl
    ∷ alone (codes "/reports/offers/") 15 (numbered (call.Report of.Offers)) refl refl refl refl refl
    ∷ alone (codes "/reports/placements/") 19 (numbered (call.Report of.Placements)) refl refl refl refl refl
    ∷ alone (codes "/reports/profile/") 16 (numbered (call.Report of.Profile)) refl refl refl refl refl
    ∷ alone (codes "/reports/text/") 13 (numbered (call.Report of.Text)) refl refl refl refl refl
    ∷ alone (codes "/reports/unplaced/") 17 (numbered (call.Report of.Unplaced)) refl refl refl refl refl
    ∷ lies (codes "/rounds/close") (asked call.Close) refl refl refl
    ∷ lies (codes "/rounds/reopen") (asked call.ReopenRound) refl refl refl
    ∷ stands (codes "/rounds/") 7 (numbered call.GetRound) refl refl refl refl beside_words
    ∷ lies (codes "/rounds") opens refl refl refl
    ∷ lies (codes "/roundtext") (read call.RoundText) refl refl refl
    ∷ alone (codes "/students/") 9 (entry put.Student call.GetStudent) refl refl refl refl refl
    ∷ alone (codes "/supervisors/") 12 (entry put.Supervisor call.GetSupervisor) refl refl refl refl refl
    ∷ []
  where
    beside_words : (text : List ℕ) → is_segment text ≡ true → fits Numbers text ≡ true → first (steps (codes "/rounds/") all_routes) text ≡ Some (row (codes "/rounds/") (codes "code") (numbered call.GetRound)).1
    beside_words text segment fit = number_leaf (row (codes "/rounds/") (codes "code") (numbered call.GetRound)).1 (fixed (codes "/rounds/close") (asked call.Close)).1 (fixed (codes "/rounds/reopen") (asked call.ReopenRound)).1 99 114 (codes "lose") (codes "eopen") text refl refl refl refl segment fit

-- these are all rows
all_rows : map (λ s. s.0) all_standing ≡ all_routes
unfolding all_routes all_standing lies stands alone
all_rows = refl

-- a row that is listed is one of them
one_stands : (all : List Standing) (pattern : List ℕ) (route : RouteOf Methods) → HasRow pattern route (map (λ s. s.0) all) → (path : List ℕ) (values : List (List ℕ))
    → fill pattern values ≡ Some path → AreSegments values → Read path route values
one_stands [] pattern route none path values filled segments = absurd none
one_stands (s ∷ all) pattern route (inl is) path values filled segments =
    subst (λ (k : RouteOf Methods). Read path k values) (sym is.1) (s.1 path values (subst (λ p. fill p values ≡ Some path) is.0 filled) segments)
one_stands (s ∷ all) pattern route (inr is) path values filled segments = one_stands all pattern route is path values filled segments

-- the rows are plain
rows_plain : AllPlain all_routes
unfolding all_routes
rows_plain = plain_all all_routes refl

-- in any row
read_row : (path : List ℕ) (route : RouteOf Methods) (pattern : List ℕ) (values : List (List ℕ)) → HasRow pattern route all_routes → fill pattern values ≡ Some path → AreSegments values
    → Read path route values
read_row path route pattern values listed filled segments = one_stands all_standing pattern route (subst (HasRow pattern route) (sym all_rows) listed) path values filled segments

-- what is known of a route that a path found
pub record Taken (path : List ℕ) (route : RouteOf Methods) : Type 0 where
  pub texts : AllText (walk route.pattern route.text path route.names 0 0)
  pub names : fits route.value.segments (code_in route path) ≡ true → NamesBy path route.value (code_in route path)

-- a path that finds a row has its code
pub taken : (router : RowsOf (RouteOf Methods)) (path : List ℕ) (route : RouteOf Methods) → router ≡ all_routes → IsUtf8 path → first router path ≡ Some route → Taken path route
taken router path route e utf8 at =
    let m = makes path 0 all_routes route rows_plain (ap (λ rows. first rows path) (sym e) ∙ at) in
    let r = read_row path route m.pattern m.values m.listed m.filled m.segments in
    record {
      texts = r.texts utf8;
      names = λ f. record {
        values = m.values;
        names = record { pattern = m.pattern; route = route; listed = m.listed; value = refl; text = utf8; filled = m.filled; segments = m.segments; fit = r.fit f };
        first = r.code;
      };
    }

-- a path that names a route finds it
pub finds : (path : List ℕ) (methods : Methods) (values : List (List ℕ)) → (n : NamesRoute path methods values) → first all_routes path ≡ Some n.route
finds path methods values n =
    (read_row path n.route n.pattern values n.listed n.filled n.segments).at (subst (λ (m : Methods). AllFit m.segments values) n.value n.fit)

-- a path that finds no row is nowhere
pub nowhere : (router : RowsOf (RouteOf Methods)) (path : List ℕ) → router ≡ all_routes → first router path ≡ None → IsNowhere path
nowhere router path e lost methods values n =
    let there : None ≡ Some n.route = sym lost ∙ ap (λ rows. first rows path) e ∙ finds path methods values n in
    absurd (let f : None ≡ Some n.route = there in cc)

-- nor is one whose text does not fit its row's parameter
pub unfit : (router : RowsOf (RouteOf Methods)) (path : List ℕ) (route : RouteOf Methods) → router ≡ all_routes → first router path ≡ Some route
    → fits route.value.segments (code_in route path) ≡ false → IsNowhere path
unfit router path route e at bad methods values n =
    let found : Some n.route ≡ Some route = sym (finds path methods values n) ∙ sym (ap (λ rows. first rows path) e) ∙ at in
    let same : n.route ≡ route = cc in
    let fit = (read_row path n.route n.pattern values n.listed n.filled n.segments).unfit (subst (λ (m : Methods). AllFit m.segments values) n.value n.fit) in
    let no : true ≡ false = sym fit ∙ ap (λ (r : RouteOf Methods). fits r.value.segments (code_in r path)) same ∙ bad in
    absurd (let f : true ≡ false = no in cc)

-- two readings of a path are one
pub one_name : (path : List ℕ) (methods others : Methods) (values texts : List (List ℕ)) → NamesRoute path methods values → NamesRoute path others texts → (methods ≡ others) × (values ≡ texts)
one_name path methods others values texts m n =
    let a = read_row path m.route m.pattern values m.listed m.filled m.segments in
    let b = read_row path n.route n.pattern texts n.listed n.filled n.segments in
    let found : Some m.route ≡ Some n.route = sym (finds path methods values m) ∙ finds path others texts n in
    let route : m.route ≡ n.route = cc in
    (m.value ∙ ap (λ (r : RouteOf Methods). r.value) route ∙ sym n.value, a.one ∙ ap (λ (r : RouteOf Methods). values_of r.names (code_in r path)) route ∙ sym b.one)

-- what a lookup gives, or nothing, is the code
pub code_read : {B : Type 0} (now : B → List ℕ) (o : Option B) (d : B) (pattern text path other : List ℕ) (names : List (ℕ × ℕ)) → other ≡ path → AllText (walk pattern text path names 0 0)
    → (AllText (walk pattern text other names 0 0)
    → MatchOption o (named (codes "code") (walk pattern text other names 0 0) ≡ None) (λ v. named (codes "code") (walk pattern text other names 0 0) ≡ Some (now v)))
    → now d ≡ [] → now (unwrap_or o d) ≡ unwrap_or (named (codes "code") (walk pattern text path names 0 0)) []
code_read {B} now o d pattern text path other names same texts gives empty =
    by o (gives (subst (λ (p : List ℕ). AllText (walk pattern text p names 0 0)) (sym same) texts))
    ∙ ap (λ (p : List ℕ). unwrap_or (named (codes "code") (walk pattern text p names 0 0)) []) same
  where
    by : (q : Option B) → MatchOption q (named (codes "code") (walk pattern text other names 0 0) ≡ None) (λ v. named (codes "code") (walk pattern text other names 0 0) ≡ Some (now v))
        → now (unwrap_or q d) ≡ unwrap_or (named (codes "code") (walk pattern text other names 0 0)) []
    by None h = empty ∙ sym (ap (λ (n : Option (List ℕ)). unwrap_or n []) h)
    by (Some v) h = sym (ap (λ (n : Option (List ℕ)). unwrap_or n []) h)
