-- What is known of the bytes of a file in memory, from what is known between its opening and its closing.
use Rattle.std.proofs.Common.{◌≡◌, inl, inr, ℕ, List, [], ◌++◌, Bool, ◌&&◌, Option, Some, Result, Ok, Err, IfOk, IfErr, sym, subst, ap, ◌∙◌, IsTrue}
use Rattle.sqlite_disk.specs.declared.Disk as disk
use Rattle.sqlite_disk.specs.declared.Files.{Files}
use Rattle.sqlite_wal.specs.Recovery.{Image}
use Rattle.sqlite_trees.specs.View.{doubt}
use Rattle.sqlite_pool.specs.Pool.{state}
use Rattle.sqlite_store.specs.declared.store.FileStore.{FileStore}
use Rattle.sqlite.specs.Effect.{Database}
use Rattle.sqlite.specs.State.{HasCleanDisk}
use Rattle.sqlite.specs.Held.{Held}
use Rattle.sqlite.specs.Files.{AreFoundIn, HoldsDatabase, file_state, image_of}
use Rattle.office_model.specs.State.{State}
use Rattle.store.specs.Editions.{latest}
use Rattle.store.specs.Tables.{Opens}
use Rattle.store.proofs.Standing.{in_latest}
use Rattle.http_stream.specs.declared.outcome.Served.{Served}
use Rattle.http_stream.specs.Run.{MessageText}
use Rattle.http_stream.specs.declared.outcome.End.{End}
use Rattle.http_stream.specs.Served.{Serves, ServedTo}
use Rattle.page_office.specs.Served.{IsDamagedFile, IsFoundIn, IsOfficeOf, IsServedOver, alone}
use Rattle.page_office.specs.Inside.Between.{IsBegun, IsDamagedIn, IsServedBetween}

-- of a reader whose bytes are known and a writer that had none, the whole stream was served, and what was written is all that it has
pub serves_all : {S : Type 0} (step : S → MessageText → List ℕ → S → Type 0) (refusal : End → List ℕ) (before : S) (stream rest answers : List ℕ)
    (left0 w0 left w : Option (List ℕ)) (served : Served) (after : S)
    → left0 ≡ Some stream → w0 ≡ Some [] → left ≡ Some rest → w ≡ Some answers
    → ServedTo step refusal before left0 w0 left w served after → Serves step refusal before stream answers served.answered served.end after
serves_all step refusal before stream rest answers left0 w0 left w served after is_left0 is_w0 is_left is_w all =
    let one = subst (λ (o : Option (List ℕ)). ServedTo step refusal before o w0 left w served after) is_left0 all in
    let two = subst (λ (o : Option (List ℕ)). ServedTo step refusal before (Some stream) o left w served after) is_w0 one in
    let three = subst (λ (o : Option (List ℕ)). ServedTo step refusal before (Some stream) (Some []) o w served after) is_left two in
    let it = subst (λ (o : Option (List ℕ)). ServedTo step refusal before (Some stream) (Some []) (Some rest) o served after) is_w three in
    subst (λ (bytes : List ℕ). Serves step refusal before bytes answers served.answered served.end after) (sym it.read)
    (subst (λ (out : List ℕ). Serves step refusal before (it.given ++ rest) out served.answered served.end after) (sym it.wrote) it.serves)

-- what was opened is the office of the database before
of_opened : (old new : Database) (office : State) → Opens old new office → IsOfficeOf old office
of_opened old new office (inl made) = inl (made.0, made.1)
of_opened old new office (inr (inl found)) = inr (latest, in_latest found.1)
of_opened old new office (inr (inr migrated)) = inr (migrated.edition, migrated.stood)

no_doubt : (b : Bool) → IsTrue b → doubt b ≡ 0
unfolding doubt
no_doubt b is = ap doubt is

both : (a b : Bool) → IsTrue a → IsTrue b → IsTrue (a && b)
both a b is also = ap (λ c. c && b) is ∙ also

-- files that have always given back what was written, and whose bytes are these
module _ {D : Type 0} (g : disk.Ghosts D) (bytes : D → List ℕ) (seen : (it : D) → g.seen it ≡ bytes it) (clean : (it : D) → IsTrue (g.is_clean it)) where
  -- a connection over them has a clean disk
  is_clean : (h : Held (FileStore D g)) → HasCleanDisk (file_state h)
  unfolding state
  is_clean h = no_doubt _ (both _ _ (clean _) (clean _))

  -- with an empty log they are the database file alone
  image : (files : Files D) (file : List ℕ) → bytes files.log ≡ [] → bytes files.db ≡ file → image_of g files ≡ alone file
  image files file log db = ap (λ (l : List ℕ). record { log = l; db = g.seen files.db }) (seen files.log ∙ log) ∙ ap (λ (d : List ℕ). record { log = []; db = d }) (seen files.db ∙ db)

  -- the database that a connection shows when it was opened is found in the file
  found : (files : Files D) (file : List ℕ) → image_of g files ≡ alone file → (first : Held (FileStore D g)) → IsBegun g files first → IsFoundIn file (file_state first).now
  found files file is first begun =
      let fresh = begun.opened (is_clean first) in
      let finds = begun.found (is_clean first) in
      let same : (file_state first).now ≡ (file_state first).committed = fresh.0.clean in
      record {
        sound = (fresh.1 fresh.0.is_open).0;
        found = subst (λ (db : Database). AreFoundIn (alone file) db.trees) (sym same) (subst (λ (i : Image). AreFoundIn i (file_state first).committed.trees) is finds.reads);
        only = λ trees holds. ap (λ (db : Database). db.trees) same ∙ finds.holds trees (subst (λ (i : Image). HoldsDatabase i trees) (sym is) holds);
      }

  office_in : (files left : Files D) (file stream answers : List ℕ) → bytes files.log ≡ [] → bytes files.db ≡ file
      → IsServedBetween g files stream answers left → IsServedOver file stream answers (bytes left.db)
  office_in files left file stream answers log db it =
      let copied = it.closed (both _ _ (clean left.log) (clean left.db)) in
      let is = image files file log db in
      record {
        found = (file_state it.first).now;
        in_file = found files file is it.first it.begun;
        office = it.served.office;
        of_file = of_opened _ _ _ (it.served.opens (is_clean it.served.opened));
        fit = it.served.fit;
        count = it.served.count;
        end = it.served.end;
        next = it.served.next;
        answered = it.served.answered;
        kept = (file_state it.last).now;
        in_left = subst (λ (d : List ℕ). ∥ HoldsDatabase (alone d) (file_state it.last).now.trees ∥₁) (seen left.db)
            (subst (λ (d : Database). ∥ HoldsDatabase (alone (g.seen left.db)) d.trees ∥₁) (sym (it.served.settled copied.was_open)) copied.seen.alone);
        stands = it.served.stands (is_clean it.last) copied.was_open;
      }

  damage_in : (files : Files D) (file : List ℕ) → bytes files.log ≡ [] → bytes files.db ≡ file → IsDamagedIn g files → IsDamagedFile file
  damage_in files file log db it =
      let why = it.2.1 (is_clean it.2.0) in
      ((file_state it.0).now, found files file (image files file log db) it.0 it.1, why.0, why.1)

-- the stream was served at the office of the bytes of the file, where the disk is as memory is
pub served_over : {D : Type 0} {g : disk.Ghosts D} {files left : Files D} {stream answers : List ℕ} → IsServedBetween g files stream answers left
    → (bytes : D → List ℕ) → ((it : D) → g.seen it ≡ bytes it) → ((it : D) → IsTrue (g.is_clean it)) → (file : List ℕ) → bytes files.log ≡ [] → bytes files.db ≡ file
    → IsServedOver file stream answers (bytes left.db)
served_over {D} {g} {files} {left} {stream} {answers} it bytes seen clean file log db = office_in g bytes seen clean files left file stream answers log db it

-- and so the tables are those of no office
pub damaged_file : {D : Type 0} {g : disk.Ghosts D} {files : Files D} → IsDamagedIn g files → (bytes : D → List ℕ) → ((it : D) → g.seen it ≡ bytes it)
    → ((it : D) → IsTrue (g.is_clean it)) → (file : List ℕ) → bytes files.log ≡ [] → bytes files.db ≡ file → IsDamagedFile file
damaged_file {D} {g} {files} it bytes seen clean file log db = damage_in g bytes seen clean files file log db it

-- what follows of a value follows of a result with it
pub if_ok : {A E : Type 0} {P Q : A → Type 0} (r : Result A E) → IfOk r P → ((a : A) → P a → Q a) → IfOk r Q
if_ok (Ok a) is more = more a is
if_ok (Err e) is more = is

pub if_err : {A E : Type 0} {P Q : E → Type 0} (r : Result A E) → IfErr r P → ((e : E) → P e → Q e) → IfErr r Q
if_err (Ok a) is more = is
if_err (Err e) is more = more e is
