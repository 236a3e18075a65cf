use Rattle.std.proofs.Common.{◌≡◌, inl, inr, Result, Err, None, refl, ap, subst, ◌∙◌, arith, rules}
use Rattle.desk.proofs.Common.{State, Transforms, Makes, refusal, layers, state, Seen, IsCaused, IsHinderedAmong, Request, Done, Storage, CarriesOut}
use Rattle.desk.specs.layers.Changes.{MayChange}
use Rattle.desk.specs.Causes.{IsHinderedToAsk}
use Rattle.desk.proofs.layers.Allowed.{may_allowed, request_fits}
use Rattle.desk.proofs.Available.{available_so, ours_so}
use Rattle.desk.proofs.Asked.{idle_saved}
use Rattle.desk.proofs.SavedRows.{call_carried}
use Rattle.desk.proofs.persistent.PersistentOffice.change.Goals as goal

-- changes of a request that can't be saved hinder it
hindered_by : {A E : Type 0} (storage : E) (result : Result A E) (office next : State) (q : Request) (done : Done) (old new : Seen) → CarriesOut office q next → MayChange office q done.changes.items → Transforms done.changes.items office next
    → IsCaused storage (IsHinderedAmong done.changes.items) result old new → IsCaused storage (IsHinderedToAsk office q) result old new
hindered_by storage result office next q done old new carried may transforms caused clean told =
    let stopped = caused clean told in
    record {
      why = elim stopped.why [
        | inl shut ↦ inl shut
        | inr more ↦ inr (elim more [
          | inl faults ↦ inl faults
          | inr hindered ↦ inr (record { next = next; carried = carried; changes = done.changes.items; may = may; transforms = transforms; hindered = hindered })
        ])
      ];
    }

pub exchange-requires : goal.exchange-requires
exchange-requires g c =
    let same = c.in_ok-next.ensures.same ∙ c.office.ensures.same in
    record { transforms = subst (λ (o : State). Transforms c.in_ok-done.done.changes.items o c.make_change.new.office) same c.in_ok-done.ensures.transforms }

pub returns-clause-saved : goal.returns-clause-saved
returns-clause-saved g c =
    let q = c.args.request in
    let old : State = c.args.self.now.office in
    let next : State = c.make_change.new.office in
    let done = c.in_ok-done.done in
    let saved = c.exchange.ensures.saved in
    let same = c.in_ok-next.ensures.same ∙ c.office.ensures.same in
    let made = subst (λ (o : State). Makes layers o q done.reply next) same c.in_ok-done.ensures.made.1 in
    let none = subst (λ (o : State). refusal layers o q ≡ None) same c.in_ok-done.ensures.made.0 in
    let transforms = subst (λ (o : State). Transforms done.changes.items o next) same c.in_ok-done.ensures.transforms in
    let may = subst (λ (o : State). MayChange o q done.changes.items) same c.in_ok-done.ensures.changes in
    let few = may_allowed old q done.changes.items c.office.ensures.fit none may in
    record {
      crash = call_carried q old next done (state g.S.Store c.args.self.now.store) (state g.S.Store c.exchange.new.self.store) none made (request_fits old next q done.reply c.office.ensures.fit none made) transforms c.office.ensures.tables saved.crash;
      alone = λ _. saved.alone;
      stays_open = λ _. saved.stays_open;
      stays_shut = saved.stays_shut;
      acted_on = λ _. saved.acted_on;
      cause = λ quiet. hindered_by Storage c.exchange.result old next q done (state g.S.Store c.args.self.now.store) (state g.S.Store c.exchange.new.self.store) (done.reply, (none, made)) may transforms (saved.cause quiet);
      available = available_so old done.changes.items c.exchange.result (state g.S.Store c.args.self.now.store) (state g.S.Store c.exchange.new.self.store) c.office.ensures.fit c.office.ensures.tables c.office.ensures.live
          few transforms.fresh (λ clean. omega (arith, saved.crash.clean, clean)) saved.cause;
      ours = ours_so old done.changes.items (state g.S.Store c.args.self.now.store) (state g.S.Store c.exchange.new.self.store) c.office.ensures.tables c.office.ensures.live few (λ clean. omega (arith, saved.crash.clean, clean)) saved.stays_shut saved.stays;
    }

pub returns-in_err-done-clause-saved : goal.returns-in_err-done-clause-saved
returns-in_err-done-clause-saved g c = idle_saved c.args.self.now.office c.args.request _ (state g.S.Store c.args.self.now.store) _ refl (λ _. search rules) (search rules)

pub returns-in_err-next-clause-saved : goal.returns-in_err-next-clause-saved
returns-in_err-next-clause-saved g c = idle_saved c.args.self.now.office c.args.request _ (state g.S.Store c.args.self.now.store) _ refl (λ _. search rules) (search rules)
