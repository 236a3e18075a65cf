-- The pieces that are appended make the text.
use Rattle.std.proofs.Common.{◌≡◌, ℕ, List, ◌++◌, codes, decimal, append_assoc}
use Rattle.http_api.proofs.Common.{numbers_text}
use Rattle.http_api.proofs.texts.closed_body.Goals as goal

joined : (q r s t a n b x d y e : List ℕ) → q ≡ a ++ n → r ≡ q ++ (b ++ x) → s ≡ r ++ (d ++ y) → t ≡ s ++ e → t ≡ a ++ n ++ b ++ x ++ d ++ y ++ e
joined q r s t a n b x d y e hq hr hs ht = simp (ht, hs, hr, hq, append_assoc)

pub returns-clause-items : goal.returns-clause-items
returns-clause-items c =
    joined _ _ _ _ (codes "{\"profile\":[") (numbers_text c.args.profile.now) (codes ",\"round\":") (decimal c.args.round) (codes ",\"size\":") (decimal c.args.size) (codes "}")
    c.profile_body-out.ensures.items c.push_labelled.ensures.items c.push_labelled-2.ensures.items c.push.ensures
