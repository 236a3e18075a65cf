-- A new database is opened as the empty office, without a session, so what is served over it is served from there on.
use Rattle.std.proofs.Common.{◌≡◌, inl, inr, ℕ, List, [], Option, Some, None, Result, Ok, Err, ap, sym, subst, ◌∙◌}
use Rattle.cli.proofs.Common.{Database, State, empty, Opens, DeskState, AnswersMessage, AtDesk, at_desk, end_text, just_opened}
use Rattle.sqlite.specs.Schema.{Schema}
use Rattle.sqlite_schema.specs.Names.{table_named}
use Rattle.schema.specs.declared.table.Table.TheVariants.{Edition}
use Rattle.sql_tables.specs.Table.{shape_of}
use Rattle.solver.specs.SessionState.{SessionState}
use Rattle.http_stream.specs.Served.{IsServed}
use Rattle.http_stream.specs.declared.outcome.Served.{Served}
use Rattle.http_stream.specs.declared.outcome.StreamFault.{StreamFault}
use Rattle.cli.specs.Anew.{ServedAnew, BrokenAnew}

-- where no table is listed the edition's is not
unlisted : (old : Database) (at : ℕ) → old.schema ≡ record { tables = []; indexes = []; views = [] } → table_named old.schema (shape_of Edition).name ≡ Some at → ⊥
unlisted old at none named =
    let never : table_named old.schema (shape_of Edition).name ≡ None = ap (λ (s : Schema). table_named s (shape_of Edition).name) none in
    let e : Some at ≡ None = sym named ∙ never in
    cc

-- a database that lists no table stands for no office in any edition, so it is opened as the empty one
opened_empty : (old new : Database) (office : State) → old.schema ≡ record { tables = []; indexes = []; views = [] } → Opens old new office → office ≡ empty
opened_empty old new office none (inl made) = made.1
opened_empty old new office none (inr (inl found)) = absurd (unlisted old found.1.editions.listed.at none found.1.editions.listed.named)
opened_empty old new office none (inr (inr migrated)) = absurd (unlisted old migrated.stood.holds.editions.listed.at none migrated.stood.holds.editions.listed.named)

-- a desk that was opened of it has the empty office, and no session
pub opened_anew : {S : Type 0} (old new : Database) (desk : DeskState S) → old.schema ≡ record { tables = []; indexes = []; views = [] } → Opens old new desk.office → desk.session ≡ None
    → at_desk desk ≡ just_opened empty
opened_anew old new desk none opens no_session =
    ap (λ (session : Option SessionState). let at : AtDesk = record { office = desk.office; session = session } in at) no_session ∙ ap just_opened (opened_empty old new desk.office none opens)

module _ (before after : AtDesk) (left0 w0 left w : Option (List ℕ)) (empty_at : before ≡ just_opened empty) where
  -- as it is from there
  anew : (came : Result Served StreamFault) → IsServed AnswersMessage end_text before left0 w0 came after left w → IsServed AnswersMessage end_text (just_opened empty) left0 w0 came after left w
  anew came s = subst (λ (d : AtDesk). IsServed AnswersMessage end_text d left0 w0 came after left w) empty_at s

  -- what was served from there
  pub served_anew : (served : Served) → IsServed AnswersMessage end_text before left0 w0 (Ok served) after left w → ServedAnew left0 w0 left w
  served_anew served s = (served, after, (anew (Ok served) s).served)

  -- what broke off from there
  pub broken_anew : (fault : StreamFault) → IsServed AnswersMessage end_text before left0 w0 (Err fault) after left w → BrokenAnew left0 w0 left w
  broken_anew fault s = inl (fault, after, (anew (Err fault) s).broken)
