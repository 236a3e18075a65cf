-- What a call that makes one step of the office answers, and what it leaves.
use Rattle.std.specs.Prelude.{◌≡◌, ◌⊎◌, ℕ, List, Some, None, Result, Ok, Err}
use Rattle.office_model.specs.Common.{CodePair, Refusal, State, Plain, ImportKind}
use Rattle.office_model.specs.declared.request.Done.{Done}
use Rattle.office_model.specs.declared.refusal.Refusal.TheVariants as no
use Rattle.office_model.specs.Refusing.{plain_refusal}
use Rattle.office_model.specs.Stepping.{after_plain, plain_reply}
use Rattle.office_model.specs.Closing.{after_close, closed_reply}
use Rattle.office_model.specs.Importing.{import_refusal, after_import, import_reply}
use Rattle.office_model.specs.Rows.{Transforms}

-- a request that was done
pub record IsDone (q : Plain) (old new : State) (done : Done) : Type 0 where
  pub allowed : plain_refusal old q ≡ None
  pub after : new ≡ after_plain q old
  pub reply : Some done.reply ≡ plain_reply q old
  pub changes : Transforms done.changes.items old new

-- one that was refused, for its own reason or as out of memory
pub record IsRefused (q : Plain) (old new : State) (refusal : Refusal) : Type 0 where
  pub reason : (refusal ≡ no.Memory) ⊎ (plain_refusal old q ≡ Some refusal)
  pub same : new ≡ old

-- what came of a request: it was done or refused
abbrev pub Answers : Plain → State → State → Result Done Refusal → Type 0
Answers q old new (Ok done) = IsDone q old new done
Answers q old new (Err refusal) = IsRefused q old new refusal

-- what came of an import of these rows: it was made, or refused for its own reason or as out of memory
abbrev pub Imports : List ℕ → ImportKind → List ℕ → List Plain → State → State → Result Done Refusal → Type 0
Imports id kind bytes rows old new (Ok done) = record {
  allowed : import_refusal old id kind bytes (Ok rows) ≡ None;
  after : new ≡ after_import id kind bytes rows old;
  reply : done.reply ≡ import_reply id rows old;
  changes : Transforms done.changes.items old new;
}
Imports id kind bytes rows old new (Err refusal) = record {
  reason : (refusal ≡ no.Memory) ⊎ (import_refusal old id kind bytes (Ok rows) ≡ Some refusal);
  same : new ≡ old;
}

-- the open round was closed with the matching M
pub record IsClosed (M : List CodePair) (old new : State) (done : Done) : Type 0 where
  pub after : new ≡ after_close M old
  pub reply : done.reply ≡ closed_reply M old
  pub changes : Transforms done.changes.items old new
