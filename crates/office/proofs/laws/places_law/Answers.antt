use Rattle.office.proofs.closing.PairsByCode.{places_taken}
use Rattle.office.proofs.closing.PlacesAreRanks.{within_lists, placed_is_kept}
use Rattle.office.proofs.closing.TakenPairs.{places_close}
use Rattle.office.proofs.laws.places_law.Goals as goal

pub returns : goal.returns
returns c = record { taken = places_taken; within = within_lists; kept = placed_is_kept; close = places_close }
