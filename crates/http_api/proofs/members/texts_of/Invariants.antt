-- The texts of all items are those that were read and then those of the items that are left.
use Rattle.std.proofs.Common.{◌≡◌, ◌++◌, option_map, drop}
use Rattle.http_api.proofs.Common.{items_view, texts_of}
use Rattle.http_api.proofs.members.texts_of.Given as goal

abbrev pub invariant-loop-item : goal.invariant-loop-item
invariant-loop-item l = texts_of (items_view l.items) ≡ option_map (λ rest. l.texts.items ++ rest) (texts_of (items_view (drop l.item-index l.items)))
