-- A desk that is ready stays ready, request after request.
use Rattle.std.proofs.Common.{◌≡◌, ◌∙◌, ◌*◌, ◌+◌, ◌≤◌, ◌^◌, ℕ, List, [], ap, arith, inl, inr, refl, subst, suc, sym, zero}
use Rattle.std.proofs.lemmas.Bool.{cases_Bool}
use Rattle.sqlite.specs.Held.{state}
use Rattle.sqlite.specs.State.{HasCleanDisk, IsLive}
use Rattle.sqlite_trees.specs.declared.store.Store.{Ghosts}
use Rattle.store.proofs.Available.{room_for}
use Rattle.office_model.specs.Rows.{rows_in}
use Rattle.office_model.specs.State.{State}
use Rattle.sql_tables.specs.Ours.{HasRoom, IsOurs}
use Rattle.sql_tables.specs.Table.{table_at}
use Rattle.sql_tables.proofs.Founding.{founding}
use Rattle.store.specs.Common.{AnyTable, Database, Has, Schema}
use Rattle.store.proofs.Reopened.{finds_ours, opens_ours}
use Rattle.store.specs.Tables.{HasNone, StandsFor}
use Rattle.desk.specs.DeskState.{DeskState}
use Rattle.desk.specs.Keeping.{Keeps}
use Rattle.desk.specs.Lasting.{AskLasts, HasServed, IsFound, IsMadeHere, IsReady, IsThereAgain, OfficeLasts}

pub ask_lasts : {S : Type 0} (ghosts : Ghosts S) → AskLasts ghosts
ask_lasts ghosts n few old new q a ready asked = (
  λ clean told. elim (cases_Bool (state ghosts old.store).is_open) [
    | inl up ↦
        let early = before clean in
        let it = ready.ready early up in
        asked.saved.available ready.unlimited (it.0, room_for (2 ^ 20) (suc n * 2 ^ 20) (state ghosts old.store).now (omega arith) it.1) clean told
    | inr shut ↦ record { why = inl shut }
  ],
  record {
    unlimited = asked.saved.crash.limit ∙ ready.unlimited;
    ready = λ clean up.
        let it = ready.ready (before clean) (asked.saved.stays_shut clean up) in
        let now = asked.saved.ours it.0 clean up in
        (now.0, now.1 (n * 2 ^ 20) (omega (arith, few)) (room_for (2 ^ 20 + n * 2 ^ 20) (suc n * 2 ^ 20) (state ghosts old.store).now (omega arith) it.1));
  },
)
  where
    before : HasCleanDisk (state ghosts new.store) → HasCleanDisk (state ghosts old.store)
    before clean = omega (arith, asked.saved.crash.clean, clean)

module _ {S : Type 0} (ghosts : Ghosts S) where
  -- a desk that is ready, and whose tables stand for its office
  record Stays (count : ℕ) (desk : DeskState S) : Type 0 where
    ready : IsReady ghosts count desk
    stands : Keeps (state ghosts desk.store) desk.office
    live : IsLive (state ghosts desk.store)

  -- from its making on
  made_stays : (count : ℕ) → count ≤ 2 ^ 40 → (desk : DeskState S) → IsMadeHere ghosts desk → Stays count desk
  made_stays count few desk (first, nothing, over) =
      let opening = over.opened.opening in
      let none : (state ghosts first).now.schema.tables ≡ [] = ap (λ (s : Schema). s.tables) nothing in
      let founded = founding (state ghosts first).now over.sound none in
      record {
        ready = record {
          unlimited = opening.crash.limit ∙ over.unlimited;
          ready = λ clean up. (
            opening.ours clean over.sound founded.ours founded.uncounted,
            opening.room clean (subst HasNone (sym nothing) (λ table has. refl)) over.sound founded.ours founded.uncounted (count * 2 ^ 20) (omega (arith, few))
                (λ table place has. absurd (subst (λ (all : List AnyTable). Has all (table_at table place)) none has)),
          );
        };
        stands = over.opened.in_order.stands;
        live = over.live;
      }

  -- what is found of it is as it was, and so its opening is not hindered, and changes nothing
  record Found (count : ℕ) (office : State) (db : Database) : Type 0 where
    ours : IsOurs db
    room : HasRoom (count * 2 ^ 20) db
    stands : StandsFor db office

  found_stays : (count : ℕ) (desk : DeskState S) (db : Database) → Stays count desk → IsFound ghosts desk db → Found count desk.office db
  found_stays count desk db it found =
      let ready = it.ready.ready found.clean found.was_open in
      let here = finds_ours (state ghosts desk.store).now db (it.live found.was_open).0 found.sound found.trees ready.0 in
      record { ours = here.0; room = here.1 (count * 2 ^ 20) ready.1; stands = here.2 (rows_in desk.office) (it.stands found.clean found.was_open) }

  again_stays : (count : ℕ) (desk at : DeskState S) → Stays count desk → IsThereAgain ghosts desk at → Stays count at
  again_stays count desk at it (inl same) = subst (Stays count) (sym same) it
  again_stays count desk at it (inr (first, found, over)) =
      let opening = over.opened.opening in
      let here = found_stays count desk (state ghosts first).now it found in
      let same = λ (clean : HasCleanDisk (state ghosts at.store)). (opens_ours (state ghosts first).now desk.office over.sound here.ours here.stands).1 (state ghosts at.store).now at.office (opening.office clean) in
      record {
        ready = record {
          unlimited = opening.crash.limit ∙ over.unlimited;
          ready = λ clean up. (subst IsOurs (sym (same clean)) here.ours, subst (HasRoom (count * 2 ^ 20)) (sym (same clean)) here.room);
        };
        stands = over.opened.in_order.stands;
        live = over.live;
      }

  served_stays : (asked count : ℕ) → asked + count ≤ 2 ^ 40 → (desk : DeskState S) → HasServed ghosts asked desk → Stays count desk
  served_stays zero count few desk made = made_stays count (omega (arith, few)) desk made
  served_stays (suc asked) count few desk (before, at, served, there, request, answer, is) =
      let it = again_stays (suc count) before at (served_stays asked (suc count) (omega (arith, few)) before served) there in
      record { ready = (ask_lasts ghosts count (omega (arith, few)) at desk request answer it.ready is).1; stands = is.stands; live = is.live }

  pub office_lasts : OfficeLasts ghosts
  office_lasts asked few desk served =
      let it = served_stays asked 1 (omega (arith, few)) desk served in (
        λ at new request answer there is. (ask_lasts ghosts 0 (omega arith) at new request answer (again_stays 1 desk at it there).ready is).0,
        λ found is hindered. let here = found_stays 1 desk found it is in (opens_ours found desk.office is.sound here.ours here.stands).0 hindered,
      )
