use Rattle.office.proofs.from_rows.Common.{drafted}
use Rattle.office.proofs.from_rows.EachWithin.{counted_rolls}
use Rattle.office.proofs.from_rows.draft.PartialOffice.are_within.Goals as goal

pub counted-counts-requires-clause-rolls : goal.counted-counts-requires-clause-rolls
counted-counts-requires-clause-rolls c =
    counted_rolls (drafted c.args.self.now) c.entries.result.now c.entries-2.result.now c.entries.ensures.all c.entries-2.ensures.all c.entries.ensures.sorted c.entries-2.ensures.sorted c.requires.few c.requires.offered
