-- A statement that is refused is refused by the disk, for a shut connection, or for what its text does, where that is a write.
use Rattle.sql_tables.proofs.Common.{cases_Bool, Error, Row, IsWrite, Command, Begin, Commit, Rollback, Release, RollbackTo, is_query, Does, at_time, understood, State, IsMisplaced, IsStatement, IsNoStatement, RunsAlone, RunsCommand, ExecutesInside, is_pragma, text_of, shows_rows, Compiled, Storage, fault_of, IsStopped, IsHindered, IsText, IsWriteOf, plain_mode, ◌≡◌, inl, inr, ℕ, ◌≤◌, List, [], length, Option, Some, None, Ok, Err, ◌||◌, false, sym, ap, subst, ◌∙◌, append-nil, refl}
use Rattle.sqlite.specs.Command.TheVariants.{Select, Rows}
use Rattle.sqlite.specs.State.{IsNotRun, ExecutesIn, EndsScope}
use Rattle.sql_tables.proofs.Causes.{Ended, failed, either}

-- a write shows no rows
hidden : (k : Command) → IsWrite k → (is_query k || (is_pragma k || false)) ≡ false
hidden (Select q names) writes = absurd writes
hidden (Rows values width names) writes = absurd writes
hidden _ writes = refl

module _ (sql : List ℕ) (given : Row) (old new : State) where
  module _ (it : IsText old.now.schema sql given) where
    same_meant : (c : Compiled) → understood old.now.schema sql ≡ Ok c → c ≡ it.meant
    same_meant c is = let h : Ok it.meant ≡ Ok c = sym it.is ∙ is in cc

    no_statement : (e : Error) → IsNoStatement old sql given e → ⊥
    no_statement e (inl bad) = let h = sym it.is ∙ bad.1 in cc
    no_statement e (inr (c, is, inl long)) = long.0 (subst (λ (c : Compiled). length sql ≤ c.tail) (sym (same_meant c is)) it.whole)
    no_statement e (inr (c, is, inr (inl few))) = few.0 (it.counted ∙ ap (λ (c : Compiled). length c.names) (sym (same_meant c is)))
    no_statement e (inr (c, is, inr (inr late))) = late.0 (ap (λ (c : Compiled). c.formats) (same_meant c is) ∙ it.plain)

  -- what is not run is no statement, but for the disk
  pub not_run : (U : Type 0) → ((IsText old.now.schema sql given → ⊥) → U) → (e : Error) → fault_of e ≡ Storage → IsNotRun old new sql given e → Ended old new U
  unfolding IsNotRun
  not_run U f e other (inl none) = inr (inr (f (λ it. no_statement it e none.0)))
  not_run U f e other (inr fails) = either old new ⊥ U (λ no. absurd no) (failed old new ⊥ e fails other)

  module _ (k : Command) (it : IsWriteOf old.now.schema sql given k) where
    means : (c : Compiled) → understood old.now.schema sql ≡ Ok c → (c.command ≡ k) × (c.returning ≡ None) × (c.formats ≡ []) × (text_of sql c ≡ text_of sql it.text.meant)
    means c is =
        let same = same_meant it.text c is in
        (ap (λ (c : Compiled). c.command) same ∙ it.runs, ap (λ (c : Compiled). c.returning) same ∙ it.silent, ap (λ (c : Compiled). c.formats) same ∙ it.text.plain, ap (text_of sql) same)

    is_other : (other : Command) → (IsWrite other → ⊥) → k ≡ other → ⊥
    is_other other none is = none (subst IsWrite is it.writes)

    misplaced : (e : Error) → IsMisplaced old k e → ⊥
    misplaced e (inl (code, inl begins)) = is_other Begin (λ w. w) begins.0
    misplaced e (inl (code, inr (inl h, mode))) = is_other Commit (λ w. w) h
    misplaced e (inl (code, inr (inr h, mode))) = is_other Rollback (λ w. w) h
    misplaced e (inr (code, name, inl h, none)) = is_other (Release name) (λ w. w) h
    misplaced e (inr (code, name, inr h, none)) = is_other (RollbackTo name) (λ w. w) h

    escapes : EndsScope 0 sql given old → ⊥
    unfolding EndsScope
    escapes (c, said, inl (inl h)) = is_other Commit (λ w. w) (sym (means c said.is).0 ∙ h)
    escapes (c, said, inl (inr h)) = is_other Rollback (λ w. w) (sym (means c said.is).0 ∙ h)
    escapes (c, said, inr (name, inl h, held)) = is_other (Release name) (λ w. w) (sym (means c said.is).0 ∙ h)
    escapes (c, said, inr (name, inr h, held)) = is_other (RollbackTo name) (λ w. w) (sym (means c said.is).0 ∙ h)

    stops : (c : Compiled) (said : IsStatement old sql given c) (stop : Option Error) → Does old.step_limit plain_mode (at_time given c.formats said.now) old.now (text_of sql c) c.returning c.command (Err stop)
        → (stop : Option Error) × Does old.step_limit plain_mode given old.now (text_of sql it.text.meant) None k (Err stop)
    stops c said stop does = let is = means c said.is in (stop, rw (is.0, is.1, is.2, is.3, append-nil given) at does)

  abbrev W : Type 0
  W = IsHindered sql given old.step_limit old.now

  commanded : (c : Compiled) (said : IsStatement old sql given c) (e : Error) → fault_of e ≡ Storage → RunsCommand old new sql c (at_time given c.formats said.now) (Err e) → Ended old new W
  commanded c said e other (inl (inl odd, kept)) = inr (inr (λ k it. absurd (misplaced k it e (subst (λ (k : Command). IsMisplaced old k e) (means k it c said.is).0 odd))))
  commanded c said e other (inl (inr (may, does), kept)) = inr (inr (λ k it. stops k it c said (Some e) does))
  commanded c said e other (inr fails) = either old new _ W (λ large k it. stops k it c said None large) (failed old new _ e fails other)

  alone : (c : Compiled) (said : IsStatement old sql given c) (e : Error) → fault_of e ≡ Storage → RunsAlone false old new sql c (at_time given c.formats said.now) (Err e) → Ended old new W
  alone c said e other h = elim (cases_Bool (shows_rows false c)) [
    | inl shows ↦ inr (inr (λ k it. let is = means k it c said.is in let none : shows_rows false c ≡ false = rw (is.0, is.1) (hidden k it.writes) in absurd (let bad = sym shows ∙ none in cc)))
    | inr runs ↦ commanded c said e other (rw runs at h)
  ]

  executed : (e : Error) → fault_of e ≡ Storage → ExecutesIn false sql given old new (Err e) → Ended old new W
  unfolding ExecutesIn
  executed e other (inl none) = not_run W (λ no k it. absurd (no it.text)) e other none
  executed e other (inr (c, said, h)) = alone c said e other h

  -- a statement that failed in a transaction
  pub stopped : (e : Error) → fault_of e ≡ Storage → ExecutesInside 0 sql given old new (Err e) → IsStopped (IsHindered sql given) old new
  stopped e other (inl ran) = record { why = executed e other ran.0 }
  stopped e other (inr out) = record { why = inr (inr (λ k it. absurd (escapes k it out.0))) }
