use Rattle.std.proofs.Common.{sym, subst}
use Rattle.public_result.proofs.Common.{IsBest, Shape, assigned}
use Rattle.public_result.proofs.Best.{posted_is_best}
use Rattle.public_result.proofs.laws.posted_law.Goals as goal

pub returns : goal.returns
returns c = record {
  best = posted_is_best;
  by_codes = λ aim t i fit same cleared content.
      (c.code_law.ensures i fit).best_to_codes aim (assigned t) (subst (λ (j : Shape). IsBest aim j (assigned t)) (sym same) (posted_is_best aim t i.shape.students cleared content));
}
