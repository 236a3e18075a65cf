use Rattle.sql_tables.proofs.Common.{sym, ◌∙◌}
use Rattle.sql_tables.proofs.Layouts.{listed_by}
use Rattle.sql_tables.proofs.layout.tree_of.Goals as goal

pub returns-clause-some : goal.returns-clause-some
returns-clause-some c = listed_by _ _ _ c.shape-shape.ensures.shape _ c.in_ok-listed.ensures.some (sym c.has_shape.ensures ∙ c.if-not-has_shape.false)
