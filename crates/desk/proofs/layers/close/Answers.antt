-- The places that solving found stand for a matching of the round's instance that is best by its aim, and the office closes with it.
use Rattle.desk.proofs.layers.Common.{◌≡◌, ℕ, IsTrue, Option, Result, Ok, Err, Aim, CodePair, IsBestByCodes, taken, Named, instance_of, IsBest, State, aim_of, last_round, round_is_open, round_instance, MayClose}
use Rattle.spa.specs.Named.{IsFit}
use Rattle.spa.specs.Matched.{pairs, IsMatched}
use Rattle.office_model.specs.Answers.{IsClosed}
use Rattle.office_model.specs.declared.request.Done.{Done}
use Rattle.office.specs.closing.Places.{ArePlacesOf, AreTaken}
use Rattle.office.proofs.closing.PairsByCode.{places_taken}
use Rattle.std.proofs.Common.{IfOk, List, subst}
use Rattle.office_model.specs.Run.{Makes}
use Rattle.office_model.specs.declared.request.Request.TheVariants as request
use Rattle.desk.specs.layers.Layers.{layers}
use Rattle.desk.specs.layers.Changes.{MayChange}
use Rattle.office.specs.closing.Changes.{close_changes}
use Rattle.desk.proofs.layers.close.Goals as goal

-- a round that closed with a matching that is best by its aim made its step
closes : {E : Type 0} (o n : State) (M : List CodePair) → MayClose o M → IsBestByCodes (aim_of o (last_round o)) (round_instance o) M → (r : Result Done E)
    → IfOk r (IsClosed M o n) → IfOk r (λ done. Makes layers o request.Close done.reply n)
closes o n M may best (Ok done) closed = (M, may, best, closed.reply, closed.after)
closes o n M may best (Err e) closed = closed

-- and its changes are those of such a matching
changes_so : {E : Type 0} (o : State) (M : List CodePair) → MayClose o M → IsBestByCodes (aim_of o (last_round o)) (round_instance o) M → (r : Result Done E)
    → IfOk r (λ done. done.changes.items ≡ close_changes M o) → IfOk r (λ done. MayChange o request.Close done.changes.items)
changes_so o M may best (Ok done) same = (M, may, best, same)
changes_so o M may best (Err e) same = same

-- the pairs that are taken at the places of a best matching are one of the open round, by codes
taken_best : (o : State) (aim : Aim) → aim ≡ aim_of o (last_round o) → (i : Named) (ks : List (Option ℕ)) → IsFit i → instance_of i ≡ round_instance o → IsMatched i.shape ks → IsBest aim i.shape (pairs i.shape ks) → IsTrue (round_is_open o)
    → MayClose o (taken (round_instance o).students ks) × IsBestByCodes (aim_of o (last_round o)) (round_instance o) (taken (round_instance o).students ks)
taken_best o aim is i ks fit same matched best is_open =
    let are : ArePlacesOf (round_instance o) ks = record { instance = i; fit = fit; same = same; matched = matched } in
    let so : AreTaken i (round_instance o) ks = places_taken (round_instance o) ks are in
    (record { is_open = is_open; matching = so.matching }, subst (λ (a : Aim). IsBestByCodes a (round_instance o) (taken (round_instance o).students ks)) is (so.best aim best))

pub returns-clause-made : goal.returns-clause-made
returns-clause-made c =
    let o : State = c.args.office.now in
    let ks = c.in_ok-solved.solved.matching.places.items in
    let found = taken_best o c.last_aim-aim.result c.last_aim-aim.ensures.aim c.in_ok-instance.instance ks c.in_ok-instance.ensures.fit c.in_ok-instance.ensures.instance c.in_ok-solved.ensures.proved.matched c.in_ok-solved.ensures.best c.requires.open in
    closes o _ (taken (round_instance o).students ks) found.0 found.1 _ c.close.ensures.ok

pub returns-clause-changes : goal.returns-clause-changes
returns-clause-changes c =
    let o : State = c.args.office.now in
    let ks = c.in_ok-solved.solved.matching.places.items in
    let found = taken_best o c.last_aim-aim.result c.last_aim-aim.ensures.aim c.in_ok-instance.instance ks c.in_ok-instance.ensures.fit c.in_ok-instance.ensures.instance c.in_ok-solved.ensures.proved.matched c.in_ok-solved.ensures.best c.requires.open in
    changes_so o (taken (round_instance o).students ks) found.0 found.1 _ c.close.ensures.changes

pub close-requires-clause-matching : goal.close-requires-clause-matching
close-requires-clause-matching c = record {
  instance = c.in_ok-instance.instance;
  fit = c.in_ok-instance.ensures.fit;
  same = c.in_ok-instance.ensures.instance;
  matched = c.in_ok-solved.ensures.proved.matched;
}
