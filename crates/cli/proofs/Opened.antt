-- What comes of a task where its office was opened or the opening refused, and what is left.
use Rattle.std.proofs.Common.{◌≡◌, ◌⊎◌, ◌+◌, arith, inl, inr, ℕ, false, List, Option, sym, subst, ap, ◌∙◌}
use Rattle.cli.proofs.Common.{Database, IsOpened, file_state, Held, state, Refusal, State, HasNone, Opens, DeskState, IsPeer, Peer, PortState, Within, some_port, Visit, MessageText, Connect, AnswersFrom, AnswersOffice, office_seen, Task, ComesOf, IsUnopened, MayDo, Outcome, ServesBehind, refused, Both, HasPrinted, Output, both_failures, ComesFrom, CutsOff, CutsOver, DoesOver, IsDone, IsFoundFor, IsOfficeIn, IsOfficeOf, IsWhyUnopened, LeftBy, TakesTo, PrintsOver, WasClean, Status}
use Rattle.sqlite.specs.State.{State as Seen, HasCleanDisk}
use Rattle.sqlite.specs.Start.{FindsIn}
use Rattle.sqlite_wal.specs.Recovery.{Image}
use Rattle.sqlite_disk.specs.declared.Disk as disk
use Rattle.sqlite_store.specs.declared.store.FileStore.{FileStore}
use Rattle.sqlite_trees.specs.declared.store.Store.{Ghosts}
use Rattle.office_model.specs.declared.refusal.Refusal.TheVariants as no
use Rattle.sql_tables.specs.Causes.{IsStopped}
use Rattle.store.specs.Causes.{IsHinderedOpening}
use Rattle.store.specs.Reading.{IsDamaged}
use Rattle.store.specs.Editions.{latest}
use Rattle.store.proofs.Standing.{in_latest}
use Rattle.web.proofs.OneConnection.{connect_seen, connect_back}
use Rattle.cli.specs.declared.tasks.Task.TheVariants as task

-- what was opened is the office of the database before
of_opened : (old new : Database) (office : State) → Opens old new office → IsOfficeOf old office
of_opened old new office (inl made) = inl (made.0, made.1)
of_opened old new office (inr (inl found)) = inr (latest, in_latest found.1)
of_opened old new office (inr (inr migrated)) = inr (migrated.edition, migrated.stood)

-- a disk that is clean after the task was clean when the office was opened
pub found_for : (before opened after : Seen) (office : State) → WasClean opened after → (HasCleanDisk opened → HasCleanDisk before) → (HasCleanDisk opened → Opens before.now opened.now office) → IsFoundFor before after office
found_for before opened after office was first opens = λ clean. (first (was clean), of_opened before.now opened.now office (opens (was clean)))

-- why an office was not opened
pub why_unopened : (refusal : Refusal) (before after : Seen) → ((refusal ≡ no.Memory) ⊎ ((refusal ≡ no.Storage) ⊎ (refusal ≡ no.Damaged)))
    → (HasCleanDisk after → refusal ≡ no.Damaged → IsDamaged before.now × (HasNone before.now.schema → ⊥))
    → (before.in_transaction ≡ false → HasCleanDisk after → refusal ≡ no.Storage → IsStopped IsHinderedOpening before after) → IsWhyUnopened refusal before after
why_unopened refusal before after (inl memory) damaged cause = inl memory
why_unopened refusal before after (inr (inl storage)) damaged cause = inr (inl (storage, λ ended clean. cause ended clean storage))
why_unopened refusal before after (inr (inr is)) damaged cause = inr (inr (is, λ clean. damaged clean is))

-- it is one of these refusals
why_refused : (refusal : Refusal) (before after : Seen) → IsWhyUnopened refusal before after → IsUnopened (refused refusal)
why_refused refusal before after (inl memory) = inl (ap refused memory)
why_refused refusal before after (inr (inl storage)) = inr (inl (ap refused storage.0))
why_refused refusal before after (inr (inr damaged)) = inr (inr (ap refused damaged.0))

module _ {S : Type 0} (ghosts : Ghosts S) (ports : ℕ → PortState) where
  -- what a task comes to over its tables it comes to at the office
  comes_of : (done : Task) (before after : DeskState S) (o : Outcome) → ComesFrom ghosts ports done before after o → ComesOf done before.office after.office o
  comes_of (task.Ask asked) before after o from = record { answer = from.0; step = from.1.gets.step; is = from.2 }
  comes_of (task.Serve serving) before after o (inl unbound) = inl (tt, (ap (λ (desk : DeskState S). desk.office) unbound.1.0, unbound.1.1))
  comes_of (task.Serve serving) before after o (inr served) = inr (record {
    came = served.came;
    awaited = served.awaited;
    served = connect_seen (λ desk. desk.office) AnswersOffice (AnswersFrom ghosts) (λ b words bytes a step. office_seen ghosts b words bytes a step) (ports serving.port).peers some_port.peers (λ n. record { comes = λ ends came. tt; leaves = λ ends left. tt }) before after served.came served.served;
    ends = served.ends;
    out = served.out;
    silent = served.silent;
  })

  -- what a task at a database comes to is an outcome of the task
  pub may_do : (done : Task) (first last : Held S) (o : Outcome) → DoesOver ghosts ports done first last o → MayDo done o
  may_do done first last o (inl not) = inl (subst IsUnopened (sym not.printed) (why_refused not.refusal (state ghosts first) (state ghosts last) not.why))
  may_do done first last o (inr is) = inr (is.desk.office, is.fit, is.next.office, comes_of done is.desk is.next o is.done)

  -- a disk that is clean after a task was clean before it
  pub was_clean : (done : Task) (before after : DeskState S) → TakesTo ghosts ports done before after → WasClean (state ghosts before.store) (state ghosts after.store)
  was_clean (task.Ask asked) before after taken = λ clean. omega (arith, taken.1.asking.saved.crash.clean, clean)
  was_clean (task.Serve serving) before after taken =
      connect_back (λ desk. HasCleanDisk (state ghosts desk.store)) (AnswersFrom ghosts) (λ b words bytes a step. step.clean) (ports serving.port).peers before after taken.0 taken.1

-- who is known to be of these ports came to them
pub came_within : {D : Type 0} (step : D → MessageText → List ℕ → D → Type 0) (some other : ℕ → Peer) → ((n : ℕ) → IsPeer (some n) (other n)) → (before after : D)
    (came : List Visit) → Connect step some before came after → Connect step other before came after
came_within step some other is before after came served = connect_seen (λ d. d) step step (λ b words bytes n s. s) some other is before after came served

-- so they did where a writer failed
pub behind_within : {D : Type 0} (step : D → MessageText → List ℕ → D → Type 0) (some other : ℕ → Peer) → ((n : ℕ) → IsPeer (some n) (other n)) → (port count : ℕ) (before after : D)
    (w0 w : Option (List ℕ)) → ServesBehind step some port count before after w0 w → ServesBehind step other port count before after w0 w
behind_within step some other is port count before after w0 w (inl none) = inl none
behind_within step some other is port count before after w0 w (inr (between, first, it)) = inr (
  between,
  first,
  record {
    earlier = it.earlier;
    last = it.last;
    few = it.few;
    awaited = it.awaited;
    served = came_within step some other is before after _ it.served;
    kept = it.kept;
    cut = it.cut;
    wrote = it.wrote;
  },
)

-- what was done at a desk may come of more
done_more : {S : Type 0} (ghosts : Ghosts S) (A B : DeskState S → DeskState S → Type 0) → ((desk next : DeskState S) → A desk next → B desk next) → (first last : Held S) → IsDone ghosts A first last → IsDone ghosts B first last
done_more ghosts A B more first last is = record {
  desk = is.desk;
  found = is.found;
  opened = is.opened;
  fit = is.fit;
  live = is.live;
  clean = is.clean;
  next = is.next;
  done = more is.desk is.next is.done;
  given_back = is.given_back;
  stands = is.stands;
}

-- what a failing writer cuts off after the name of a new database it cuts off
module _ {S : Type 0} (ghosts : Ghosts S) (ports : ℕ → PortState) {O E : Type 0} (name : List ℕ) (old mid new : Both O E) (has : HasPrinted name old mid) where
  cut_named : (done : Task) (before after : DeskState S) → CutsOff ghosts ports mid new done before after → CutsOff ghosts ports old new done before after
  cut_named (task.Ask asked) before after cut = tt
  cut_named (task.Serve serving) before after cut = λ failed.
      let counted : both_failures mid ≡ both_failures old = ap (λ (out : Output O). out.failures + mid.err.failures) has.out ∙ ap (λ n. old.out.failures + n) has.failures in
      subst (λ (out : Output O). ServesBehind (AnswersFrom ghosts) (ports serving.port).peers serving.port serving.count before after out.written new.out.written) has.out (cut (failed ∙ ap (λ n. n + 1) (sym counted)))

  pub cuts_named : (done : Task) (first last : Held S) → CutsOver ghosts ports mid new done first last → CutsOver ghosts ports old new done first last
  cuts_named done first last (inl is) =
      inl (done_more ghosts (CutsOff ghosts ports mid new done) (CutsOff ghosts ports old new done) (λ before after cut. cut_named done before after cut) first last is)
  cuts_named done first last (inr stays) = inr stays

-- so it is of all that is done with ports that were lent
module _ {S : Type 0} (ghosts : Ghosts S) (lent ports : ℕ → PortState) (within : (port : ℕ) → Within (lent port) (ports port)) where
  comes_within : (done : Task) (before after : DeskState S) (o : Outcome) → ComesFrom ghosts lent done before after o → ComesFrom ghosts ports done before after o
  comes_within (task.Ask asked) before after o from = from
  comes_within (task.Serve serving) before after o (inl unbound) = inl ((within serving.port).is_taken unbound.0, unbound.1)
  comes_within (task.Serve serving) before after o (inr served) = inr (record {
    came = served.came;
    awaited = served.awaited;
    served = came_within (AnswersFrom ghosts) (lent serving.port).peers (ports serving.port).peers (within serving.port).peers before after served.came served.served;
    ends = served.ends;
    out = served.out;
    silent = served.silent;
  })

  takes_within : (done : Task) (before after : DeskState S) → TakesTo ghosts lent done before after → TakesTo ghosts ports done before after
  takes_within (task.Ask asked) before after taken = taken
  takes_within (task.Serve serving) before after taken =
      (taken.0, came_within (AnswersFrom ghosts) (lent serving.port).peers (ports serving.port).peers (within serving.port).peers before after taken.0 taken.1)

  does_within : (done : Task) (first last : Held S) (o : Outcome) → DoesOver ghosts lent done first last o → DoesOver ghosts ports done first last o
  does_within done first last o (inl not) = inl not
  does_within done first last o (inr is) =
      inr (done_more ghosts (λ desk next. ComesFrom ghosts lent done desk next o) (λ desk next. ComesFrom ghosts ports done desk next o) (λ desk next from. comes_within done desk next o from) first last is)

  pub tells_within : (name : List ℕ) (done : Task) (first last : Held S) (o : Outcome) → PrintsOver ghosts lent name done first last o → PrintsOver ghosts ports name done first last o
  tells_within name done first last o (inl new) = inl (new.0, new.1, does_within done first last new.1 new.2, new.3)
  tells_within name done first last o (inr old) = inr (old.0, does_within done first last o old.1)

  pub left_within : (done : Task) (status : Status) (first last : Held S) → LeftBy ghosts lent done status first last → LeftBy ghosts ports done status first last
  left_within done status first last (inl is) = inl (done_more ghosts (TakesTo ghosts lent done) (TakesTo ghosts ports done) (λ desk next taken. takes_within done desk next taken) first last is)
  left_within done status first last (inr stays) = inr stays

  module _ {O E : Type 0} (old new : Both O E) where
    cut_within : (done : Task) (before after : DeskState S) → CutsOff ghosts lent old new done before after → CutsOff ghosts ports old new done before after
    cut_within (task.Ask asked) before after cut = tt
    cut_within (task.Serve serving) before after cut =
        λ failed. behind_within (AnswersFrom ghosts) (lent serving.port).peers (ports serving.port).peers (within serving.port).peers serving.port serving.count before after _ _ (cut failed)

    pub cuts_within : (done : Task) (first last : Held S) → CutsOver ghosts lent old new done first last → CutsOver ghosts ports old new done first last
    cuts_within done first last (inl is) =
        inl (done_more ghosts (CutsOff ghosts lent old new done) (CutsOff ghosts ports old new done) (λ before after cut. cut_within done before after cut) first last is)
    cuts_within done first last (inr stays) = inr stays

-- the office that was found is the one that the tables of the file stood for, unless the disk has given back what was not written
pub of_file : {D : Type 0} {g : disk.Ghosts D} (image : Image) (first : Held (FileStore D g)) (after : Seen) → (HasCleanDisk (file_state first) → FindsIn image (file_state first))
    → (HasCleanDisk (file_state first) → IsOpened first) → (office : State) → IsFoundFor (file_state first) after office → HasCleanDisk after → IsOfficeIn image office
of_file image first after found opened office is clean db holds =
    let it = is clean in
    let fresh = opened it.0 in
    ((file_state first).now, (fresh.1 fresh.0.is_open).0, ap (λ (d : Database). d.trees) fresh.0.clean ∙ (found it.0).holds db holds, it.1)
