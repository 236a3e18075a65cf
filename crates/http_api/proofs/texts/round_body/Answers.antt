-- The pieces that are appended make the text.
use Rattle.std.proofs.Common.{◌≡◌, ℕ, List, [], ◌++◌, codes, decimal, append_assoc}
use Rattle.spa.specs.Aims.{aim_word}
use Rattle.http_api.proofs.Common.{truth_text, numbers_text}
use Rattle.http_api.proofs.texts.round_body.Goals as goal

joined : (o i j h p q r s u t l v a w b x k n d y f z e : List ℕ) → o ≡ [] → i ≡ o ++ l → j ≡ i ++ v → h ≡ a ++ w ++ b → p ≡ j ++ (h ++ x) → q ≡ p ++ k → r ≡ q ++ n → s ≡ r ++ (d ++ y) → u ≡ s ++ (f ++ z) → t ≡ u ++ e
    → t ≡ l ++ v ++ a ++ w ++ b ++ x ++ k ++ n ++ d ++ y ++ f ++ z ++ e
joined o i j h p q r s u t l v a w b x k n d y f z e ho hi hj hh hp hq hr hs hu ht = simp (ht, hu, hs, hr, hq, hp, hh, hj, hi, ho, append_assoc)

pub returns-clause-items : goal.returns-clause-items
returns-clause-items c =
    joined _ _ _ _ _ _ _ _ _ _ (codes "{\"aim\":\"") (aim_word c.args.state.0) (codes "\",\"open\":") (truth_text c.args.state.1) (codes ",\"placed\":") (decimal c.args.placed) (codes ",\"profile\":[") (numbers_text c.args.profile.now)
    (codes ",\"round\":") (decimal c.args.number) (codes ",\"students\":") (decimal c.args.students) (codes "}") c.new-out.ensures c.push.ensures (rw (c.as_bytes.ensures.value, c.word.ensures.word) at c.push-2.ensures) c.round_start.ensures.text
    c.push_labelled.ensures.items c.push-3.ensures c.push_numbers.ensures.items c.push_labelled-2.ensures.items c.push_labelled-3.ensures.items c.push-4.ensures
