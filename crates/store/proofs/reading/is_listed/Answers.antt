use Rattle.store.proofs.ListedTables.{listed_alone, listed_close}
use Rattle.store.proofs.reading.is_listed.Goals as goal

pub returns-then-tree-edition-clause-right : goal.returns-then-tree-edition-clause-right
returns-then-tree-edition-clause-right c h = listed_alone c.args.tables.now c.args.edition c.args.schema.now c.args.table c.in-Some.tree c.in-Some.ensures.some c.if-tree-edition.true (c.is_alone.ensures.right h)

pub returns-then-tree-edition-clause-wrong : goal.returns-then-tree-edition-clause-wrong
returns-then-tree-edition-clause-wrong c h = listed_close c.args.tables.now c.args.edition c.args.schema.now c.args.table c.in-Some.tree c.in-Some.ensures.some (λ _. c.is_alone.ensures.wrong h)

pub returns-in-None-clause-wrong : goal.returns-in-None-clause-wrong
returns-in-None-clause-wrong c h l = c.tree_of.ensures.none c.in-None.is l.place l.listed
