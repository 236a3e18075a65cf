use Rattle.office.proofs.closing.ClosingAllowed.{close_allowed, close_few}
use Rattle.office.proofs.closing.ClosingRows.{close_transforms}
use Rattle.office.proofs.closing.Kept.{close_keeps_fit}
use Rattle.office.proofs.closing.SizeAndProfile.{kept_is_counted}
use Rattle.office.proofs.laws.closing_law.Goals as goal

pub returns : goal.returns
returns c = record { fit = close_keeps_fit; turned = close_transforms; allowed = close_allowed; few = close_few; counted = kept_is_counted }
