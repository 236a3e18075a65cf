-- Lines are read one after the other, and those of each text are.
use Rattle.std.proofs.Common.{◌≡◌, ℕ, zero, suc, ◌+◌, ◌-◌, ◌≤◌, inl, inr, ℤ, List, [], ◌∷◌, ◌++◌, length, map, get_or, replicate, slice_get, codes, Option, Some, None, All, Contains, refl, sym, ap, ◌∙◌, subst, arith, rules, append_assoc, append-nil}
use Rattle.intake.proofs.Common.{⊤, slice_get_at, AllZip, All-head, All-tail, IsTrue, is_code, map-append, length-append, length_push, length-map, length-replicate, get_or_at, get_or_append_left, Aim, Greedy, Generous, MAX_QUOTA, MAX_SUPERVISORS, MAX_PROJECTS, MAX_STUDENTS, Instance, Supervisor, Project, Student, supervisor_codes, project_codes, student_codes, Kind, Round, Public, SectionName, Aims, Supervisors, Projects, Students, Pairs, StudentPrices, ProjectPrices, SupervisorPrices, Parts, Rise, IsRoll, IsPlace, IsPrice, IsListOf, IsInstance, ArePartsOf, Row, row_before, rows_where, sections, student_letter, aim_rows, supervisor_row, project_row, student_row, pair_row, pair_rows, price_row, price_rows, IsDraft, IsWhole, IsCompleted, AreFirst, StandsAfter, nothing, Adds, AddsIn, NextEntry, NextPosition, NoneOrAll, added, letter_of, zeros}
use Rattle.intake.proofs.Ends.{placed, same_parts}
use Rattle.intake.proofs.One.{adds_one}
use Rattle.intake.proofs.Prices.{ArePartsPrices, price_skipped}
use Rattle.intake.proofs.Sections.{full}
use Rattle.intake.proofs.Steps.{step}
use Rattle.intake.proofs.Where.{no_rows}

-- lines of fields are read one after the other
abbrev pub Reads : Kind → Parts → List Row → Parts → Type 0
Reads k old [] new = old ≡ new
Reads k old (fields ∷ rest) new = (mid : Parts) × Adds k old fields mid × Reads k mid rest new

-- nothing is a draft
pub nothing_draft : (k : Kind) → IsDraft k nothing
nothing_draft k = search rules

-- lines and then others
pub reads_append : (k : Kind) (a b d : Parts) (xs ys : List Row) → Reads k a xs b → Reads k b ys d → Reads k a (xs ++ ys) d
reads_append k a b d [] ys r t = subst (λ (p : Parts). Reads k p ys d) (sym r) t
reads_append k a b d (x ∷ xs) ys r t = (r.0, r.1, reads_append k r.0 b d xs ys r.2 t)

-- and one more
pub reads_push : (k : Kind) (a b d : Parts) (ls : List Row) (x : Row) → Reads k a ls b → Adds k b x d → Reads k a (ls ++ x ∷ []) d
reads_push k a b d ls x r t = reads_append k a b d ls (x ∷ []) r (d, t, refl)

-- one line more of a draft
pub adds_draft : (k : Kind) (old : Parts) (fields : Row) (new : Parts) → IsDraft k old → Adds k old fields new → IsDraft k new × (full (sections k new) ≡ full (sections k old) ++ fields ∷ [])
adds_draft k old fields new d a =
    let s = step k a.section old a.row a.adds.entry d a.adds.turn a.adds.next in
    (subst (IsDraft k) (sym a.adds.made) s.0, ap (λ (p : Parts). full (sections k p)) a.adds.made ∙ s.1 ∙ ap (λ (f : Row). full (sections k old) ++ f ∷ []) (sym a.is))

-- what is read is a draft, with all these lines
pub reads_draft : (k : Kind) (a b : Parts) (ls : List Row) → IsDraft k a → Reads k a ls b → IsDraft k b × (full (sections k b) ≡ full (sections k a) ++ ls)
reads_draft k a b [] d r = (subst (IsDraft k) r d, ap (λ (p : Parts). full (sections k p)) (sym r) ∙ sym (append-nil (full (sections k a))))
reads_draft k a b (x ∷ ls) d r =
    let s = adds_draft k a x r.0 d r.1 in
    let t = reads_draft k r.0 b ls s.0 r.2 in
    (t.0, t.1 ∙ ap (λ (l : List Row). l ++ ls) s.1 ∙ append_assoc (full (sections k a)) (x ∷ []) ls)

-- what reads the first lines reads the rest after them
pub reads_rest : (k : Kind) (a b d : Parts) (ls rest : List Row) → IsDraft k a → Reads k a (ls ++ rest) b → Reads k a ls d → Reads k d rest b
reads_rest k a b d [] rest i r t = subst (λ (p : Parts). Reads k p rest b) t r
reads_rest k a b d (x ∷ ls) rest i r t = reads_rest k t.0 b d ls rest (adds_draft k a x t.0 i t.1).0 (subst (λ (p : Parts). Reads k p (ls ++ rest) b) (adds_one k a x r.0 t.0 i r.1 t.1) r.2) t.2

-- what is so of all is so of each
pub here : {X : Type 0} (P : X → Type 0) (all front : List X) (x : X) (back : List X) → all ≡ front ++ x ∷ back → All P all → P x
here P all front x back e h = subst P (ap (λ l. get_or l (length front) x) e ∙ get_or_at front x back x (length front) refl) (h (length front) x (omega (arith, ap length e, length-append front (x ∷ back))))

-- the rest of a roll is read, where each of its entries may be added
pub roll_reads : {X : Type 0} (k : Kind) (s : SectionName) (row : X → Row) (put : List X → Parts) (all front back : List X) → ((front : List X) (e : X) (back : List X) → all ≡ front ++ e ∷ back → AddsIn k s (put front) (row e) (put (front ++ e ∷ []))) → all ≡ front ++ back
    → Reads k (put front) (map (λ r. letter_of k s ∷ r) (map row back)) (put all)
roll_reads k s row put all front [] step e = ap put (sym (e ∙ append-nil front))
roll_reads k s row put all front (x ∷ back) step e =
    (put (front ++ x ∷ []), record { section = s; row = row x; is = refl; adds = step front x back e }, roll_reads k s row put all (front ++ x ∷ []) back step (e ∙ sym (append_assoc front (x ∷ []) back)))

-- the front of codes that rise rises
rise_front : (xs ys : List (List ℕ)) → Rise (xs ++ ys) → Rise xs
rise_front xs ys rise i j d h l =
    let e = rise i j d h (omega (arith, length-append xs ys)) in
    rw (get_or_append_left xs ys d i (omega arith), get_or_append_left xs ys d j l) at e

-- what is so of what is made of all is so of each
here_made : {X Y : Type 0} (P : Y → Type 0) (f : X → Y) (all front : List X) (x : X) (back : List X) → all ≡ front ++ x ∷ back → All P (map f all) → P (f x)
here_made P f all front x back e h = here P (map f all) (map f front) (f x) (map f back) (ap (map f) e ∙ map-append f front (x ∷ back)) h

-- an entry of a roll comes next after those before it
roll_next : {X : Type 0} (of : X → Row) (key : X → List ℕ) (most : ℕ) (Fits : X → Type 0) (all front : List X) (x : X) (back : List X) → all ≡ front ++ x ∷ back → IsRoll (map key all) → length all ≤ most → Fits x → NextEntry of key most Fits front (of x) x
roll_next of key most Fits all front x back e roll few fits =
    let keys : map key all ≡ (map key front ++ key x ∷ []) ++ map key back = ap (map key) e ∙ map-append key front (x ∷ back) ∙ sym (append_assoc (map key front) (key x ∷ []) (map key back)) in
    record {
      is = refl;
      code = record {
        form = here_made (λ c. IsTrue (is_code c)) key all front x back e roll.form;
        few = omega (arith, few, ap length e, length-append front (x ∷ back), length-map front key);
        next = rise_front (map key front ++ key x ∷ []) (map key back) (subst Rise keys roll.rise);
      };
      fits = fits;
    }

-- as many as up to this one
pub added_length : {X : Type 0} (b : X) (xs : List X) (n : ℕ) (x : X) → length xs ≤ n → length (added b xs (n, x)) ≡ n + 1
added_length b xs n x h = omega (arith, length_push (xs ++ replicate (n - length xs) b) x, length-append xs (replicate (n - length xs) b), length-replicate (n - length xs) b)

-- what is found past others
found_past : {X : Type 0} (front : List X) (x : X) (back : List X) (n : ℕ) → n ≡ length front → slice_get (front ++ x ∷ back) n ≡ Some x
found_past front x back n e = slice_get_at (front ++ x ∷ back) n x x (omega (arith, e, length-append front (x ∷ back))) (get_or_at front x back x n (sym e))

-- one more of the same, in front
replicate_shift : {X : Type 0} (n : ℕ) (b : X) (xs : List X) → replicate n b ++ b ∷ xs ≡ replicate (suc n) b ++ xs
replicate_shift zero b xs = refl
replicate_shift (suc n) b xs = ap (λ l. b ∷ l) (replicate_shift n b xs)

-- what was read for entries, of which some have nothing
pub record WhereRead {X : Type 0} (k : Kind) (a : Parts) (put : List X → Parts) (rows : List Row) (b : X) (After : ℕ → ℕ → Type 0) (all : List X) : Type 0 where
  pub read : List X
  pub rest : ℕ
  pub reads : Reads k a rows (put read)
  pub are : all ≡ read ++ replicate rest b
  pub after : After (length read) (length read + rest)

module _ {E X : Type 0} (k : Kind) (s : SectionName) (of : E → X → Option Row) (Fits : E → X → Type 0) (After : ℕ → ℕ → Type 0) (b : X) (put : List X → Parts) (all : List E)
    (next : (xs : List X) (row : Row) (n : ℕ) (x : X) → NextPosition of Fits After all xs row n x → AddsIn k s (put xs) row (put (added b xs (n, x))))
    (skip : (e : E) (x : X) → Fits e x → of e x ≡ None → (x ≡ b) × ((m n : ℕ) → After m n → After m (suc n)))
    (start : (n : ℕ) → After n n) where
  -- the rest of a section of rows for entries is read
  pub where_reads : (front es : List E) (read : List X) (gap : ℕ) (xs : List X) → all ≡ front ++ es → length front ≡ length read + gap → After (length read) (length read + gap) → AreFirst Fits es xs
      → WhereRead k (put read) put (map (λ r. letter_of k s ∷ r) (rows_where of es xs)) b After (read ++ replicate gap b ++ xs)
  where_reads front [] read gap [] e many a f = record { read = read; rest = gap; reads = refl; are = append-nil (read ++ replicate gap b); after = a }
  where_reads front (y ∷ es) read gap [] e many a f = record { read = read; rest = gap; reads = refl; are = append-nil (read ++ replicate gap b); after = a }
  where_reads front [] read gap (x ∷ xs) e many a f = absurd f
  where_reads front (y ∷ es) read gap (x ∷ xs) e many a f =
      go (of y x) refl (λ next. where_reads (front ++ y ∷ []) es read (suc gap) xs so_far one_gap next f.1)
      (where_reads (front ++ y ∷ []) es new 0 xs so_far no_gap (subst (After (length new)) (omega arith) (start (length new))) f.1)
    where
      so_far : all ≡ (front ++ y ∷ []) ++ es
      so_far = e ∙ sym (append_assoc front (y ∷ []) es)

      one_gap : length (front ++ y ∷ []) ≡ length read + suc gap
      one_gap = omega (arith, length_push front y, many)

      at : ℕ
      at = length read + gap

      new : List X
      new = added b read (at, x)

      no_gap : length (front ++ y ∷ []) ≡ length (added b read (length read + gap, x)) + 0
      no_gap = omega (arith, length_push front y, many, added_length b read (length read + gap) x (omega arith))

      grown : read ++ replicate gap b ++ x ∷ xs ≡ new ++ replicate 0 b ++ xs
      grown = (let same : gap ≡ at - length read = omega arith in ap (λ (n : ℕ). read ++ replicate n b ++ x ∷ xs) same) ∙ sym (append_assoc (read ++ replicate (length read + gap - length read) b) (x ∷ []) xs) ∙ ap (λ (l : List X). l ++ xs) (sym (append-nil new))

      go : (o : Option Row) → of y x ≡ o → (After (length read) (length read + suc gap) → WhereRead k (put read) put (map (λ r. letter_of k s ∷ r) (rows_where of es xs)) b After (read ++ replicate (suc gap) b ++ xs))
          → WhereRead k (put new) put (map (λ r. letter_of k s ∷ r) (rows_where of es xs)) b After (new ++ replicate 0 b ++ xs) → WhereRead k (put read) put (map (λ r. letter_of k s ∷ r) (row_before o (rows_where of es xs))) b After (read ++ replicate gap b ++ x ∷ xs)
      go None h more w2 =
          let none = skip y x f.0 h in
          let w = more (subst (After (length read)) (omega arith) (none.1 (length read) at a)) in
          record { read = w.read; rest = w.rest; reads = w.reads; are = ap (λ (z : X). read ++ replicate gap b ++ z ∷ xs) none.0 ∙ append_assoc read (replicate gap b) (b ∷ xs) ∙ ap (λ (l : List X). read ++ l) (replicate_shift gap b xs) ∙ sym (append_assoc read (replicate (suc gap) b) xs) ∙ w.are; after = w.after }
      go (Some r) h more w =
          let step = next read r at x (record { entry = y; here = ap (λ (l : List E). slice_get l at) e ∙ found_past front y es at (sym many); later = a; fits = f.0; is = h }) in
          record { read = w.read; rest = w.rest; reads = (put new, record { section = s; row = r; is = refl; adds = step }, w.reads); are = grown ∙ w.are; after = w.after }

-- rows of nothing
none_reads : (k : Kind) (a : Parts) (l : List ℕ) (rows : List Row) → rows ≡ [] → Reads k a (map (λ r. l ∷ r) rows) a
none_reads k a l rows e = subst (λ (rows : List Row). Reads k a (map (λ r. l ∷ r) rows) a) (sym e) refl

-- what was read so far, without places and prices
abbrev begun : Aim → List Supervisor → List Project → List Student → Parts
begun aim ss ps ts = record { aim = aim; instance = record { supervisors = ss; projects = ps; students = ts }; places = []; student_prices = []; project_prices = []; supervisor_prices = [] }

-- an aim is read
aim_reads : (k : Kind) (aim : Aim) → Reads k nothing (map (λ r. codes "A" ∷ r) (aim_rows aim)) (begun aim [] [] [])
aim_reads k Greedy = refl
aim_reads k Generous = (begun Generous [] [] [], record { section = Aims; row = codes "generous" ∷ []; is = refl; adds = record { turn = (refl, (refl, (refl, (refl, (refl, (refl, (refl, tt))))))); entry = Generous; next = refl; made = refl } }, refl)

-- an aim and an instance are read, and then the rest
pub instance_reads : (k : Kind) (aim : Aim) (i : Instance) (rest : List Row) (q : Parts) → IsInstance k i → Reads k (begun aim i.supervisors i.projects i.students) rest q
    → Reads k nothing (map (λ r. codes "A" ∷ r) (aim_rows aim) ++ (map (λ r. codes "S" ∷ r) (map supervisor_row i.supervisors) ++ (map (λ r. codes "P" ∷ r) (map project_row i.projects) ++ (map (λ r. student_letter k ∷ r) (map student_row i.students) ++ rest)))) q
instance_reads k aim i rest q v r =
    let ss : List Supervisor = i.supervisors in
    let ps : List Project = i.projects in
    let ts : List Student = i.students in
    let supervisors : Reads k (begun aim [] [] []) (map (λ r. codes "S" ∷ r) (map supervisor_row ss)) (begun aim ss [] []) =
    roll_reads k Supervisors supervisor_row (λ l. begun aim l [] []) ss [] ss (λ front e back h. record {
      turn = (refl, (refl, (refl, (refl, (refl, (refl, tt))))));
      entry = e;
      next = roll_next supervisor_row (λ e. e.code) MAX_SUPERVISORS (λ e. e.quota ≤ MAX_QUOTA) ss front e back h v.supervisors v.within.supervisors (here_made (λ q. q ≤ MAX_QUOTA) (λ (e : Supervisor). e.quota) ss front e back h v.within.supervisor_quotas);
      made = refl;
    }) refl in
    let projects : Reads k (begun aim ss [] []) (map (λ r. codes "P" ∷ r) (map project_row ps)) (begun aim ss ps []) =
    roll_reads k Projects project_row (λ l. begun aim ss l []) ps [] ps (λ front e back h. record {
      turn = (refl, (refl, (refl, (refl, (refl, tt)))));
      entry = e;
      next = roll_next project_row (λ e. e.code) MAX_PROJECTS _ ps front e back h v.projects v.within.projects
          (here (λ (e : Project). Contains (supervisor_codes i) e.supervisor) ps front e back h v.offered, here_made (λ q. q ≤ MAX_QUOTA) (λ (e : Project). e.quota) ps front e back h v.within.project_quotas);
      made = refl;
    }) refl in
    let students : Reads k (begun aim ss ps []) (map (λ r. student_letter k ∷ r) (map student_row ts)) (begun aim ss ps ts) =
    roll_reads k Students student_row (λ l. begun aim ss ps l) ts [] ts (λ front e back h. record {
      turn = (refl, (refl, (refl, (refl, tt))));
      entry = e;
      next = roll_next student_row (λ e. e.code) MAX_STUDENTS _ ts front e back h v.students v.within.students (here (λ (e : Student). IsListOf k (project_codes i) e.list) ts front e back h v.listed);
      made = refl;
    }) refl in
    reads_append k nothing (begun aim [] [] []) q (map (λ r. codes "A" ∷ r) (aim_rows aim)) _ (aim_reads k aim)
    (reads_append k (begun aim [] [] []) (begun aim ss [] []) q (map (λ r. codes "S" ∷ r) (map supervisor_row ss)) _ supervisors
    (reads_append k (begun aim ss [] []) (begun aim ss ps []) q (map (λ r. codes "P" ∷ r) (map project_row ps)) _ projects
    (reads_append k (begun aim ss ps []) (begun aim ss ps ts) q (map (λ r. student_letter k ∷ r) (map student_row ts)) rest students r)))

-- what was read of the parts of a text: a draft that may end, and in a round the parts but for the last students without a place
abbrev pub IsRead : Kind → Parts → Parts → Type 0
IsRead Round p d = p ≡ placed d
IsRead Public p d = ⊤

-- the parts of a text were read
pub record Reached (k : Kind) (p : Parts) : Type 0 where
  pub draft : Parts
  pub reads : Reads k nothing (full (sections k p)) draft
  pub whole : IsWhole k draft
  pub same : IsRead k p draft

-- a place or none for each of the students are places of the first
zip_first : (es : List Student) (ks : List (Option ℕ)) → AllZip IsPlace es ks → AreFirst IsPlace es ks × (length ks ≡ length es)
zip_first [] [] z = (tt, refl)
zip_first [] (k ∷ ks) z = absurd z
zip_first (e ∷ es) [] z = absurd z
zip_first (e ∷ es) (k ∷ ks) z = (let r = zip_first es ks z.1 in ((z.0, r.0), ap suc r.1))

-- prices of no more than the codes are those of the first
prices_first : (cs : List (List ℕ)) (vs : List (List ℤ)) → length vs ≤ length cs → All IsPrice vs → AreFirst (λ c. IsPrice) cs vs
prices_first cs [] h a = tt
prices_first [] (v ∷ vs) h a = absurd (omega arith)
prices_first (c ∷ cs) (v ∷ vs) h a = (All-head IsPrice v vs a, prices_first cs vs (omega arith) (All-tail IsPrice v vs a))

-- so it is with those of the parts of a text
parts_first : (k : Kind) (cs : List (List ℕ)) (vs : List (List ℤ)) → ArePartsPrices k (length cs) vs → AreFirst (λ c. IsPrice) cs vs
parts_first Round cs vs a = prices_first cs vs (elim a.none_or_all [ inl none ↦ omega arith | inr all ↦ omega arith ]) a.prices
parts_first Public cs vs a = prices_first cs vs a.few a.prices

-- a price may be the next of all
stands_next : (k : Kind) (n : ℕ) → StandsAfter k n n
stands_next Round n = refl
stands_next Public n = omega arith

-- prices that were read are complete, and those of a round are all
read_all : (k : Kind) (n : ℕ) (us read : List (List ℤ)) (rest : ℕ) → ArePartsPrices k n us → us ≡ read ++ replicate rest zeros → StandsAfter k (length read) (length read + rest) → IsCompleted k n read × (k ≡ Round → us ≡ read)
read_all Public n us read rest a e after = (tt, λ round. cc)
read_all Round n us read rest a e after =
    let none : rest ≡ 0 = omega arith in
    let same : us ≡ read = e ∙ ap (λ (m : ℕ). read ++ replicate m zeros) none ∙ append-nil read in
    (subst (NoneOrAll n) same a.none_or_all, λ round. same)

-- the prices of a roll are read
prices_reads : {X : Type 0} (k : Kind) (s : SectionName) (key : X → List ℕ) (es : List X) (us : List (List ℤ)) (put : List (List ℤ) → Parts)
    → ((vs : List (List ℤ)) (row : Row) (n : ℕ) (v : List ℤ) → NextPosition (price_row k) (λ c. IsPrice) (StandsAfter k) (map key es) vs row n v → AddsIn k s (put vs) row (put (added zeros vs (n, v)))) → ArePartsPrices k (length es) us
    → (w : WhereRead k (put []) put (map (λ r. letter_of k s ∷ r) (price_rows k (map key es) us)) zeros (StandsAfter k) us) × IsCompleted k (length (map key es)) w.read × (k ≡ Round → us ≡ w.read)
prices_reads k s key es us put next a =
    let b = subst (λ (n : ℕ). ArePartsPrices k n us) (sym (length-map es key)) a in
    let w = where_reads k s (price_row k) (λ c. IsPrice) (StandsAfter k) zeros put (map key es) next (price_skipped k) (stands_next k) [] (map key es) [] 0 us refl (omega arith) (subst (StandsAfter k 0) (omega arith) (stands_next k 0)) (parts_first k (map key es) us b) in
    let r = read_all k (length (map key es)) us w.read w.rest b w.are w.after in
    (w, r.0, r.1)

-- the parts with other places and prices
abbrev with_all : Parts → List (Option ℕ) → List (List ℤ) → List (List ℤ) → List (List ℤ) → Parts
with_all p ks us ys zs = record { aim = p.aim; instance = p.instance; places = ks; student_prices = us; project_prices = ys; supervisor_prices = zs }

-- the lines of each text are read
pub reached : (k : Kind) (p : Parts) → ArePartsOf k p → Reached k p
reached Round p v =
    let i : Instance = p.instance in
    let zip = zip_first i.students p.places v.places in
    let w = where_reads Round Pairs pair_row IsPlace (λ m n. m ≤ n) None (λ ks. with_all p ks [] [] []) i.students (λ ks row n x h. record { turn = (refl, (refl, (refl, (refl, tt)))); entry = (n, x); next = h; made = refl }) unplaced (λ n. omega arith)
    [] i.students [] 0 p.places refl (omega arith) (omega arith) zip.0 in
    let u = prices_reads Round StudentPrices (λ (e : Student). e.code) i.students p.student_prices (λ us. with_all p w.read us [] []) (λ vs row n v h. record { turn = (refl, refl, refl); entry = (n, v); next = h; made = refl }) v.student_prices in
    let y = prices_reads Round ProjectPrices (λ (e : Project). e.code) i.projects p.project_prices (λ ys. with_all p w.read u.0.read ys []) (λ vs row n v h. record { turn = (u.1, refl); entry = (n, v); next = h; made = refl }) v.project_prices in
    let z = prices_reads Round SupervisorPrices (λ (e : Supervisor). e.code) i.supervisors p.supervisor_prices (λ zs. with_all p w.read u.0.read y.0.read zs) (λ vs row n v h. record { turn = (u.1, y.1); entry = (n, v); next = h; made = refl }) v.supervisor_prices in
    let d : Parts = with_all p w.read u.0.read y.0.read z.0.read in
    let none : Option ℕ = None in
    let rest : w.rest ≡ length i.students - length w.read = omega (arith, zip.1, ap length w.are, length-append w.read (replicate w.rest None), length-replicate w.rest none) in
    record {
      draft = d;
      reads = instance_reads Round p.aim i _ d v.instance
          (reads_append Round (with_all p [] [] [] []) (with_all p w.read [] [] []) d (map (λ r. codes "M" ∷ r) (pair_rows i.students p.places)) _ w.reads
          (reads_append Round (with_all p w.read [] [] []) (with_all p w.read u.0.read [] []) d (map (λ r. codes "U" ∷ r) (price_rows Round (student_codes i) p.student_prices)) _ u.0.reads
          (reads_append Round (with_all p w.read u.0.read [] []) (with_all p w.read u.0.read y.0.read []) d (map (λ r. codes "Y" ∷ r) (price_rows Round (project_codes i) p.project_prices)) _ y.0.reads
          (reads_append Round (with_all p w.read u.0.read y.0.read []) d d (map (λ r. codes "Z" ∷ r) (price_rows Round (supervisor_codes i) p.supervisor_prices)) [] z.0.reads refl))));
      whole = (u.1, (y.1, (z.1, tt)));
      same = same_parts p.aim p.aim i i p.places _ p.student_prices u.0.read p.project_prices y.0.read p.supervisor_prices z.0.read refl refl (w.are ∙ ap (λ (n : ℕ). w.read ++ replicate n None) rest) (u.2 refl) (y.2 refl) (z.2 refl);
    }
  where
    unplaced : (e : Student) (x : Option ℕ) → IsPlace e x → pair_row e x ≡ None → (x ≡ None) × ((m n : ℕ) → m ≤ n → m ≤ suc n)
    unplaced e None h none = (refl, λ m n l. omega arith)
    unplaced e (Some k) h none = cc
reached Public p v =
    let i : Instance = p.instance in
    let y = prices_reads Public ProjectPrices (λ (e : Project). e.code) i.projects p.project_prices (λ ys. with_all p [] [] ys []) (λ vs row n v h. record { turn = (tt, refl); entry = (n, v); next = h; made = refl }) v.project_prices in
    let z = prices_reads Public SupervisorPrices (λ (e : Supervisor). e.code) i.supervisors p.supervisor_prices (λ zs. with_all p [] [] y.0.read zs) (λ vs row n v h. record { turn = (tt, tt); entry = (n, v); next = h; made = refl }) v.supervisor_prices in
    let a : Parts = with_all p [] [] [] [] in
    let d : Parts = with_all p [] [] y.0.read z.0.read in
    record {
      draft = d;
      reads = instance_reads Public p.aim i _ d v.instance
          (reads_append Public a a d (map (λ r. codes "M" ∷ r) (pair_rows i.students p.places)) _ (none_reads Public a (codes "M") _ (ap (pair_rows i.students) v.places ∙ no_rows pair_row i.students))
          (reads_append Public a a d (map (λ r. codes "U" ∷ r) (price_rows Public (student_codes i) p.student_prices)) _ (none_reads Public a (codes "U") _ (ap (price_rows Public (student_codes i)) v.student_prices ∙ no_rows (price_row Public) (student_codes i)))
          (reads_append Public a (with_all p [] [] y.0.read []) d (map (λ r. codes "Y" ∷ r) (price_rows Public (project_codes i) p.project_prices)) _ y.0.reads
          (reads_append Public (with_all p [] [] y.0.read []) d d (map (λ r. codes "Z" ∷ r) (price_rows Public (supervisor_codes i) p.supervisor_prices)) [] z.0.reads refl))));
      whole = (tt, (tt, (tt, tt)));
      same = tt;
    }
