-- A reading of a table is refused only where two of its rows have one rowid, or one has none.
use Rattle.std.proofs.Common.{is_eq}
use Rattle.sql_tables.proofs.Common.{AllByRecursion, IsSorted, is_lt, ordering_reverse, and_from, Error, AnyTable, Row, value_cmp, rowid, Database, RefusesToRead, shown, with_command, IsSourceOf, State, Command, out-Select, Storage, fault_of, Output, value_cmp_total, Lists, Place, TableShape, made_at, IsKeyed, have_ids, rises, FailsToRead, IsStopped, IsUnread, ShowsInOrder, by_rowid, IsText, TableFault, ◌≡◌, inl, inr, ℕ, suc, get_or, ◌+◌, ◌^◌, nat_lt, List, [], ◌∷◌, map, length, Some, None, Ok, true, false, refl, sym, ap, subst, subst₂, ◌∙◌, ◌&&◌, append-nil, arith, Ordering, Less, Equal, Greater}
use Rattle.sqlite.specs.Compile.{command, read, returning, timed}
use Rattle.sqlite.specs.State.{FailsToQuery}
use Rattle.sqlite_ast.specs.declared.Statement.TheVariants as written
use Rattle.sqlite_resolve.specs.Program.{program}
use Rattle.sql_tables.proofs.Causes.{Ended}
use Rattle.sql_tables.proofs.Ends.{not_run}
use Rattle.sql_tables.proofs.InsertRow.{compiled_is, understood_is}
use Rattle.sql_tables.proofs.Rowids.{keyed_permuted}
use Rattle.sql_tables.proofs.Runs.{low_tree}
use Rattle.sql_tables.proofs.SelectAll.{IsFirst, IsSelect, answers, named_is, queried, reads_by, select_means, unlisted_of, whole_command}
use Rattle.sql_tables.proofs.Refused.{is_first}
use Rattle.sql_tables.proofs.Stops.{no_query}
use Rattle.sql_tables.proofs.Understood.{compiled_of}

-- of two orders that are not equal the one that does not fall rises
not_back : (back : Ordering) → is_eq (ordering_reverse back) ≡ false → is_lt back ≡ false → is_lt (ordering_reverse back) ≡ true
not_back Less apart sorted = absurd (cc)
not_back Equal apart sorted = absurd (cc)
not_back Greater apart sorted = refl

-- rowids of their own rise where they are in order
sorted_rises : (rows : List Row) → IsKeyed rows → IsSorted by_rowid rows → (have_ids rows ≡ true) × (rises rows ≡ true)
sorted_rises [] keyed sorted = (refl, refl)
sorted_rises (r ∷ []) keyed sorted = (and_from _ _ keyed.ids.0 refl, refl)
sorted_rises (r ∷ next ∷ rows) keyed sorted =
    let behind : IsSorted by_rowid (next ∷ rows) = λ k d low high.
    let one : suc k + 1 ≡ suc (k + 1) = omega arith in
    subst (λ n. is_lt (by_rowid (get_or (r ∷ next ∷ rows) n d) (get_or (next ∷ rows) k d)) ≡ false) one (sorted (suc k) d (omega arith) (omega (arith, high))) in
    let later = sorted_rises (next ∷ rows) (record { ids = keyed.ids.1; apart = keyed.apart.1 }) behind in
    let turned = value_cmp_total.antisymm (rowid r) (rowid next) in
    let first : is_lt (value_cmp (rowid r) (rowid next)) ≡ true =
    subst (λ o. is_lt o ≡ true) (sym turned) (not_back _ (subst (λ o. is_eq o ≡ false) turned keyed.apart.0.0) (sorted 0 r (omega arith) (omega arith))) in
    (and_from _ _ keyed.ids.0 later.0, and_from _ _ first later.1)

over : (table : AnyTable) (P : Row → Type 0) (rows : List Row) → AllByRecursion (λ r. P (shown table r)) rows → AllByRecursion P (map (shown table) rows)
over table P [] all = tt
over table P (r ∷ rows) all = (all.0, over table P rows all.1)

-- what is shown of keyed rows is keyed
keyed_shown : (table : AnyTable) (rows : List Row) → IsKeyed rows → IsKeyed (map (shown table) rows)
keyed_shown table [] keyed = record { ids = tt; apart = tt }
keyed_shown table (r ∷ rows) keyed =
    let later = keyed_shown table rows (record { ids = keyed.ids.1; apart = keyed.apart.1 }) in
    record { ids = (keyed.ids.0, later.ids); apart = (over table (λ b. is_eq (value_cmp (rowid r) (rowid b)) ≡ false) rows keyed.apart.0, later.apart) }

module _ (sql : List ℕ) (shape : TableShape) (it : IsSelect sql shape) (db : Database) (place : Place) (listed : Lists db.schema (made_at shape place)) (first : IsFirst db.schema (made_at shape place))
    (low : nat_lt place.tree (2 ^ 31) ≡ true) where
  abbrev k : Command
  k = whole_command sql shape it db.schema place listed low

  commands : command db.schema [] 0 (written.Select it.plain.s) ≡ Ok k
  unfolding command read program
  commands =
      rw (queried db.schema sql it.plain _ (named_is db.schema (out-Select it.plain.s).first shape.name listed.at place.tree it.budget it.outs (it.resolved db.schema place listed low) it.plain.no_group it.plain.no_having it.plain.no_distinct))
      (rw (it.accepted db.schema place first) refl)

  -- the text is a statement
  select_text : IsText db.schema sql []
  unfolding returning timed
  select_text = record {
    meant = with_command it.plain.p ([], (k, None));
    is = understood_is db.schema sql _ (compiled_is db.schema sql it.plain.p [] None k it.plain.parsed (rw (it.plain.plain, it.plain.statement) refl) (rw it.plain.statement refl) (rw (it.plain.plain, it.plain.no_names, it.plain.statement) commands));
    whole = it.plain.ends;
    counted = sym (ap (λ (names : List (List ℕ)). length names) it.plain.no_names);
    plain = refl;
  }

module _ (sql : List ℕ) (shape : TableShape) (it : IsSelect sql shape) (old new : State) where
  abbrev Keyed : Type 0
  Keyed = IsUnread (made_at shape) old.step_limit old.now

  -- where its table is listed so, the text is a query that answers
  unanswered : (e : Error) → FailsToQuery sql [] old new e → fault_of e ≡ Storage → Ended old new Keyed
  unfolding FailsToQuery
  unanswered e (inl none) other =
      not_run sql [] old new Keyed (λ no may place listed keyed.
      let t = made_at shape place in
      no (select_text sql shape it old.now place listed (is_first old.now t may.1 listed (may.2 place listed)) (low_tree old.now.schema old.now.trees t may.1 listed))) e other none
  unanswered e (inr h) other = inr (inr (λ may place listed keyed.
      let t = made_at shape place in
      let is = select_means sql shape it old.now.schema place listed (low_tree old.now.schema old.now.trees t may.1 listed) h.0 h.1.is in
      let source = unlisted_of old.now.schema sql h.0 (compiled_of old.now.schema sql h.0 it.unlisted h.1.is) in
      let fails = rw (is.1, is.2, append-nil []) at h.2 in
      let there : fails.0 ≡ old.now = subst (λ b. IsSourceOf b old.now fails.0) source fails.1 in
      no_query place.tree [] (map (λ (o : Output). o.term) it.outs) old.now [] (it.accepted old.now.schema place (is_first old.now t may.1 listed (may.2 place listed))) (Some e)
      (subst (λ limit. RefusesToRead limit (whole_command sql shape it old.now.schema place listed (low_tree old.now.schema old.now.trees t may.1 listed)) old.now [] e) may.0 (subst₂ (λ c d. RefusesToRead old.step_limit c d [] e) is.0 there fails.2))))

  -- and where the rowids are integers of their own, they rise in their order
  unordered : (rows : List Row) → have_ids rows && rises rows ≡ false → ShowsInOrder sql rows old new → Ended old new Keyed
  unordered rows unkeyed shows = inr (inr (λ may place listed keyed.
      let table = made_at shape place in
      let both = reads_by sql [] old new shows.seen _ sql it.unlisted (select_means sql shape it old.now.schema place listed (low_tree old.now.schema old.now.trees table may.1 listed)) shows.shown in
      let own = keyed_permuted shows.seen rows shows.same (keyed_permuted (map (shown table) (old.now.trees place.tree)) shows.seen (answers sql shape it old.now place shows.seen both.0) (keyed_shown table (old.now.trees place.tree) keyed)) in
      let up = sorted_rises rows own shows.sorted in
      let bad = sym unkeyed ∙ and_from _ _ up.0 up.1 in
      cc))

  -- so a reading that is refused finds others
  pub unread_rows : (fault : TableFault) → fault ≡ Storage → FailsToRead sql fault old new → IsStopped (IsUnread (made_at shape)) old new
  unread_rows fault storage (inl (e, fails, is)) = record { why = unanswered e fails (sym is ∙ storage) }
  unread_rows fault storage (inr (rows, shows, unkeyed, is)) = record { why = unordered rows unkeyed shows }
