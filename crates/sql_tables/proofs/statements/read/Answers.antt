use Rattle.sql_tables.proofs.Common.{survives_weaker, state, refl}
use Rattle.sql_tables.proofs.Declared.{rows_are, commits_none, rests, unread_by}
use Rattle.sql_tables.proofs.statements.read.Goals as goal

pub returns-clause-rows : goal.returns-clause-rows
returns-clause-rows g c clean = rows_are c.args.table _ c.shape.ensures.texts _ _ _ c.read_text.ensures.keyed (c.read_text.ensures.shown clean)

pub returns-clause-reads : goal.returns-clause-reads
returns-clause-reads g c = record {
  rests = λ clean. rests c.args.table _ c.shape.ensures.texts _ _ (c.read_text.ensures.ran clean).0;
  cause = λ clean h. unread_by c.args.table _ c.shape.ensures.texts _ _ _ refl (rw h at (c.read_text.ensures.ran clean).1);
  ended = c.read_text.ensures.mode;
  survives = survives_weaker _ _ _ _ (λ clean db h. commits_none c.args.table _ c.shape.ensures.texts _ (state g.S.Store c.read_text.new.conn) _ db h) c.read_text.ensures.survives;
}
