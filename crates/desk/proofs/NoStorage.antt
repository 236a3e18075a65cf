-- No refusal by which the office refuses a request says anything of the storage.
use Rattle.std.proofs.Common.{◌≡◌, ℕ, suc, List, [], ◌∷◌, ◌++◌, Bool, true, false, not, Option, Some, None, Result, Ok, Err, IfErr, ◌⊎◌, inl, inr, refl, sym, ap, ◌∙◌}
use Rattle.desk.proofs.Common.{if◌then◌else◌, Refusal, Plain, PutList, Request, State, has_import, first, choice_tests, open_tests, round_tests, import_tests, plain_refusal, refusal_of, after_plain, refusal, import_as_read, layers}
use Rattle.std.specs.List.{list_all}
use Rattle.std.proofs.lemmas.Bool.{and_parts}
use Rattle.office_model.specs.declared.import.ImportKind.{ImportKind}
use Rattle.office_model.specs.declared.refusal.Refusal.TheVariants as no
use Rattle.office_model.specs.declared.request.Request.TheVariants as request
use Rattle.office_model.specs.Meaning.{meaning}
use Rattle.office_model.specs.Importing.{or_else, at_record, rows_refusal, text_refusal}
use Rattle.import_csv.specs.declared.fault.ImportFault.{ImportFault}
use Rattle.import_csv.specs.declared.fault.ImportFault.TheVariants.{Memory, Header, Fields}
use Rattle.import_csv.specs.Requests.{requests_of}

abbrev is_storage : Refusal → Bool
is_storage no.Storage = true
is_storage _ = false

-- of these tests none is of the storage
abbrev are_named : List (Bool × Refusal) → Bool
are_named tests = list_all (λ t. not (is_storage t.1)) tests

-- so the first that holds is not
first_named : (tests : List (Bool × Refusal)) → are_named tests ≡ true → first tests ≡ Some no.Storage → ⊥
first_named [] named e = cc
first_named ((true, r) ∷ tests) named e =
    let is : r ≡ no.Storage = cc in
    let clash : false ≡ true = sym (ap (λ x. not (is_storage x)) is) ∙ (and_parts _ _ named).0 in
    cc
first_named ((false, r) ∷ tests) named e = first_named tests (and_parts _ _ named).1 e

choices_named : (o : State) (before choices : List (List ℕ)) → are_named (choice_tests o before choices) ≡ true
choices_named o before [] = refl
choices_named o before (c ∷ choices) = choices_named o (before ++ c ∷ []) choices

-- the tests of each plain request are so, by looking at them; a list has as many as it has choices
plain_tests_named : (o : State) (p : Plain) → are_named (let m = meaning p in m.tests o) ≡ true
plain_tests_named o (PutList student choices) = choices_named o [] choices
plain_tests_named o _ = refl

plain_named : (o : State) (p : Plain) → plain_refusal o p ≡ Some no.Storage → ⊥
plain_named o p = first_named (let m = meaning p in m.tests o) (plain_tests_named o p)

-- a refusal that is known unread
pub unread_named : (o : State) (q : Request) → refusal_of o q ≡ Some no.Storage → ⊥
unread_named o (request.Plain p) = plain_named o p
unread_named o request.Close = first_named (open_tests o) refl
unread_named o request.Preview = first_named (open_tests o) refl
unread_named o request.RoundText = first_named (open_tests o) refl
unread_named o (request.Report kind round) = first_named (round_tests o round) refl
unread_named o (request.Import id kind bytes) = first_named (import_tests o id kind bytes) refl

-- a refusal of a record, or a later one
record_named : (n : ℕ) (r later : Option Refusal) → (later ≡ Some no.Storage → ⊥) → or_else (at_record n r) later ≡ Some no.Storage → ⊥
record_named n None later named e = named e
record_named n (Some r) later named e = cc

-- a refusal of the records, or of a text
rows_named : (n : ℕ) (o : State) (rows : List Plain) → rows_refusal n o rows ≡ Some no.Storage → ⊥
rows_named n o [] e = cc
rows_named n o (p ∷ rows) e = record_named n (plain_refusal o p) (rows_refusal (suc n) (after_plain p o) rows) (rows_named (suc n) (after_plain p o) rows) e

text_named : (o : State) (read : Result (List Plain) ImportFault) → text_refusal (import_as_read read) o ≡ Some no.Storage → ⊥
text_named o (Ok rows) e = rows_named 1 o rows e
text_named o (Err Memory) e = cc
text_named o (Err Header) e = cc
text_named o (Err (Fields n)) e = cc

-- an import that may be read
pub import_named : (o : State) (id : List ℕ) (kind : ImportKind) (bytes : List ℕ) → refusal layers o (request.Import id kind bytes) ≡ Some no.Storage → ⊥
import_named o id kind bytes = at (first (import_tests o id kind bytes)) (has_import o id) refl
  where
    at : (r : Option Refusal) (kept : Bool) → first (import_tests o id kind bytes) ≡ r → or_else r (if kept then None else text_refusal (layers.records kind bytes) o) ≡ Some no.Storage → ⊥
    at (Some r) kept is e = unread_named o (request.Import id kind bytes) (is ∙ e)
    at None true is e = cc
    at None false is e = text_named o (requests_of kind bytes) e

-- a making that is refused by no such refusal, or as out of memory, says nothing of the storage
pub unstored : {A : Type 0} (x : Option Refusal) (r : Result A Refusal) → (x ≡ Some no.Storage → ⊥) → IfErr r (λ e. (e ≡ no.Memory) ⊎ (x ≡ Some e)) → r ≡ Err no.Storage → ⊥
unstored x (Ok a) never h is = cc
unstored x (Err e) never (inl memory) is = let same : e ≡ no.Storage = cc in let clash : no.Memory ≡ no.Storage = sym memory ∙ same in cc
unstored x (Err e) never (inr named) is = let same : e ≡ no.Storage = cc in never (named ∙ ap Some same)
