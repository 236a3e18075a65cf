use Rattle.std.proofs.Common.{◌≡◌, refl}
use Rattle.desk.proofs.Common.{StoreFault, Memory, Damaged, Refusal, TheMemory, TheStorage, TheDamaged}
use Rattle.store.specs.declared.fault.StoreFault.TheVariants.{Storage}
use Rattle.desk.proofs.SavedRows.{opened_stands, was_storage}
use Rattle.desk.proofs.desk.Desk.open.Goals as goal

pub invariant_of-persistent : goal.invariant_of-persistent
invariant_of-persistent g c = record {
  stands = λ clean is_open. opened_stands _ _ c.in-Ok.office (c.in-Ok.ensures.opened.office clean);
  ended = c.in-Ok.ensures.opened.ended;
}

pub returns-in-Ok-clause-opened : goal.returns-in-Ok-clause-opened
returns-in-Ok-clause-opened g c = record {
  opening = c.in-Ok.ensures.opened;
  in_order = record { stands = c.office.ensures.tables; fit = c.office.ensures.fit; live = c.office.ensures.live };
  no_session = refl;
}

-- what is refused as damage was found to be damage
was_damage : (fault : StoreFault) (refusal : Refusal) → (fault ≡ Memory → refusal ≡ TheMemory) → (fault ≡ Storage → refusal ≡ TheStorage)
    → refusal ≡ TheDamaged → fault ≡ Damaged
was_damage Memory refusal memory storage e = let is = memory refl in cc
was_damage Storage refusal memory storage e = let is = storage refl in cc
was_damage Damaged refusal memory storage e = refl

pub returns-in-Err-clause-unopened : goal.returns-in-Err-clause-unopened
returns-in-Err-clause-unopened g c =
    let back = c.in-Err.ensures.unopened in
    record {
      damaged = λ clean is. back.damaged clean (was_damage c.in-Err.fault c.refusal_of_fault.result c.refusal_of_fault.ensures.memory c.refusal_of_fault.ensures.storage is);
      some = λ is. back.some (was_damage c.in-Err.fault c.refusal_of_fault.result c.refusal_of_fault.ensures.memory c.refusal_of_fault.ensures.storage is);
      kept = back.kept;
      cause = λ ended clean is. back.cause ended clean (was_storage c.in-Err.fault c.refusal_of_fault.result c.refusal_of_fault.ensures.memory c.refusal_of_fault.ensures.damaged is);
      given_back = back.given_back;
      crash = back.crash;
    }

pub returns-in-Err-clause-unlisted : goal.returns-in-Err-clause-unlisted
returns-in-Err-clause-unlisted g c = λ settled some other. (refl, c.refusal_of_fault.ensures.damaged (c.in-Err.ensures.unlisted settled some other).1)
