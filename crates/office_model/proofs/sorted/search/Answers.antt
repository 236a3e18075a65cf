use Rattle.std.proofs.lemmas.Fn.{always_returns_same}
use Rattle.office_model.proofs.Places.{searched}
use Rattle.office_model.proofs.Common.{Key, key_cmp, rules}
use Rattle.office_model.proofs.sorted.search.Goals as goal

-- the closure compares an entry's key with the one that is looked for
pub returns : goal.returns
returns g c =
    let key = g.E.Entry.key in
    let k : Key = (c.args.round, c.args.code.now) in
    let facts = c.binary_search_by.ensures in
    let by_key = facts.position (λ e. key_cmp (key e) k) (always_returns_same _ _ _ (λ a r f called. search rules)) in
    searched key k _ _ c.requires facts.bound by_key
