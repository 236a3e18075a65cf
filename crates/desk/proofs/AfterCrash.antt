-- What a crash leaves is opened as one of the offices that its tables may stand for.
use Rattle.std.proofs.Common.{◌≡◌, ◌⊎◌, inl, inr, List, ◌∷◌, sym, subst}
use Rattle.desk.proofs.Common.{Survives, state, Request, State, MayRecoverTo, latest, in_latest, CarriesOut, StandsForOne}
use Rattle.sqlite_trees.specs.declared.store.Store.{Ghosts}
use Rattle.store.proofs.SameTrees.{opens_again}
use Rattle.desk.specs.DeskState.{DeskState}
use Rattle.desk.specs.Laws.{IsAtRest, IsOneOf, IsOpenedAfter, LeavesOneOf}
use Rattle.desk.proofs.SavedRows.{was_clean}

module _ {S : Type 0} (ghosts : Ghosts S) where
  -- what is left of a desk at rest is its office
  pub rest_kept : (desk : DeskState S) (office : State) → IsAtRest ghosts desk → IsOpenedAfter ghosts desk office → office ≡ desk.office
  rest_kept desk office rest it =
      opens_again latest (state ghosts desk.store).now it.found it.opened desk.office office rest.sound it.sound (rest.alone it.found.trees it.left) (in_latest rest.stands) rest.fit it.fit it.opens

  -- what is left of a call is what could be left before, or an office that it may make
  pub call_whole : (IsOne : State → Type 0) (old new : DeskState S) (refused : List Request) → LeavesOneOf ghosts refused old
      → Survives (state ghosts old.store) (state ghosts new.store) (MayRecoverTo (λ _. StandsForOne IsOne) (state ghosts old.store))
      → (office : State) → IsOpenedAfter ghosts new office → IsOneOf old.office refused office ⊎ IsOne office
  call_whole IsOne old new refused before survives office it = elim (survives.crash it.clean it.found.trees it.left) [
    | inl left ↦ inl (before office (record {
      clean = was_clean (state ghosts old.store) (state ghosts new.store) _ survives it.clean;
      found = it.found;
      sound = it.sound;
      left = left;
      opened = it.opened;
      opens = it.opens;
      fit = it.fit;
    }))
    | inr left ↦
        let one = left.step in
        let same : office ≡ one.office = opens_again latest left.db it.found it.opened one.office office left.sound it.sound left.same (in_latest one.stands) one.fit it.fit it.opens in
        inr (subst IsOne (sym same) one.one)
  ]

  -- of one request that is what the requests since may make
  pub ask_whole : (old new : DeskState S) (refused : List Request) (request : Request) → LeavesOneOf ghosts refused old
      → Survives (state ghosts old.store) (state ghosts new.store) (MayRecoverTo (λ _. StandsForOne (CarriesOut old.office request)) (state ghosts old.store))
      → (office : State) → IsOpenedAfter ghosts new office → IsOneOf old.office (request ∷ refused) office
  ask_whole old new refused request before survives office it = elim (call_whole (CarriesOut old.office request) old new refused before survives office it) [
    | inl left ↦ elim left [
      | inl same ↦ inl same
      | inr made ↦ inr (inr made)
    ]
    | inr carried ↦ inr (inl carried)
  ]
