-- What is owed of a request that is refused, and of one that touches no table.
use Rattle.std.proofs.Common.{◌≡◌, ◌≢◌, ◌+◌, ◌^◌, arith, false, Some, Result, Ok, Err, OnOk, IsErr, sym, ap, subst, ◌∙◌}
use Rattle.desk.proofs.Common.{Seen, Refusal, Storage, Reply, Request, changes_nothing, refusal_of, State}
use Rattle.desk.specs.Saved.{IsSaved}
use Rattle.store.proofs.Available.{room_for}
use Rattle.desk.proofs.NoStorage.{unread_named}
use Rattle.desk.proofs.Runs.{crash_none}

-- ---- refused by name

-- such a refusal says nothing of the storage
pub named_unstored : (o : State) (q : Request) (r : Refusal) → refusal_of o q ≡ Some r → ◌≡◌ {A = Result Reply Refusal} (Err r) (Err Storage) → ⊥
named_unstored o q r is told = let same : r ≡ Storage = cc in unread_named o q (is ∙ ap Some same)

-- ---- no table is touched

ok_none : (a : Result Reply Refusal) (P : Type 0) → IsErr a → OnOk a P
ok_none (Ok reply) P is = absurd (cc)
ok_none (Err refusal) P is = tt

pub idle_saved : (o : State) (q : Request) (a : Result Reply Refusal) (old new : Seen) → new ≡ old → (changes_nothing o q ≡ false → IsErr a) → a ≢ Err Storage → IsSaved o q a old new
idle_saved o q a old new same refused unstored = subst (λ (s : Seen). IsSaved o q a old s) (sym same) (record {
  crash = crash_none old _;
  alone = λ change clean. ok_none a _ (refused change);
  stays_open = λ change clean. ok_none a _ (refused change);
  stays_shut = λ clean up. up;
  acted_on = λ change acted. refused change;
  cause = λ quiet clean told. absurd (unstored told);
  available = λ unlimited ready clean told. absurd (unstored told);
  ours = λ ours clean up. (ours, λ count few room. room_for count (2 ^ 20 + count) old.now (omega arith) room);
})
