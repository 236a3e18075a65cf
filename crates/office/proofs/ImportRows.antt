-- An import makes its rows one after another. While it is under way, what is left decides as the whole did from the office
-- before; at the end nothing is left, so all rows were made.
use Rattle.office.proofs.Common.{append_assoc, ◌&&◌, not, nat_le, Bool, true, false, is_some, Ok, if◌then◌else◌, option_map, unwrap_or, MAX_IMPORTS, Import, ImportTable, Add, Refusal, Plain, Done, Change, of_code, find, rises, State, import_key, import_of, has_import, kept_rows, Transforms, import_cells, first, plain_refusal, import_tests, after_plain, or_else, at_record, rows_refusal, after_rows, import_refusal, with_import, IsDone, Imports, allowed, put_or_added, changes_of, changes_of_rows, import_changes, ◌≡◌, ℕ, suc, [], ◌∷◌, ◌++◌, Option, Some, None, refl, sym, ap, subst, ◌∙◌, arith, ◌+◌, List, length}
use Rattle.office_model.specs.declared.import.ImportKind.{ImportKind}
use Rattle.office.proofs.changes.ImportChanges.{keep_none}
use Rattle.office.proofs.changes.Changes.{transforms_follow}
use Rattle.office.proofs.changes.OneRow.{transforms_import}
use Rattle.office.specs.Inside.Importing.{AreMade}
use Rattle.std.proofs.lemmas.List.Sorted.{IsPermutation-refl}
use Rattle.office_model.specs.declared.request.Reply.TheVariants as reply

-- no changes transform no rows
pub none_transforms : (o : State) → Transforms [] o o
none_transforms o = record { fresh = tt; rows = λ table. IsPermutation-refl _ }

-- an import's row is added
abbrev pub import_added : Import → Change
import_added i = Add (record { table = ImportTable; cells = import_cells i })

-- all rows but the rest were made, this many of them, and with these changes
pub record IsUnderWay (rows rest : List Plain) (old now : State) (changes : List Change) (made : ℕ) : Type 0 where
  pub refusal : rows_refusal 1 old rows ≡ rows_refusal (made + 1) now rest
  pub after : after_rows rows old ≡ after_rows rest now
  pub transforms : Transforms changes old now
  pub exact : changes_of_rows rows old ≡ changes ++ changes_of_rows rest now
  pub counted : made + length rest ≡ length rows

module _ (rows left rest : List Plain) (p : Plain) (old now : State) (changes : List Change) (made : ℕ) (next : left ≡ p ∷ rest) (way : IsUnderWay rows left old now changes made) where
  private_refusal : rows_refusal 1 old rows ≡ or_else (at_record (made + 1) (plain_refusal now p)) (rows_refusal (suc (made + 1)) (after_plain p now) rest)
  private_refusal = way.refusal ∙ ap (rows_refusal (made + 1) now) next

  -- the next row is made
  pub next_made : (new : State) (done : Done) (more : List Change) → IsDone p now new done → done.changes.items ≡ changes_of p now → more ≡ changes ++ done.changes.items
      → IsUnderWay rows rest old new more (made + 1)
  next_made new done more is these added = record {
    refusal =
        private_refusal
        ∙ ap (λ (x : Option Refusal). or_else (at_record (made + 1) x) (rows_refusal (suc (made + 1)) (after_plain p now) rest)) is.allowed
        ∙ ap (λ (k : ℕ). rows_refusal k (after_plain p now) rest) (let one : suc (made + 1) ≡ (made + 1) + 1 = omega arith in one)
        ∙ ap (λ (o : State). rows_refusal ((made + 1) + 1) o rest) (sym is.after);
    after = way.after ∙ ap (λ (ps : List Plain). after_rows ps now) next ∙ ap (after_rows rest) (sym is.after);
    transforms = subst (λ (cs : List Change). Transforms cs old new) (sym added) (transforms_follow changes done.changes.items _ _ _ way.transforms is.changes);
    exact =
        way.exact
        ∙ ap (λ (ps : List Plain). changes ++ changes_of_rows ps now) next
        ∙ sym (append_assoc changes (changes_of p now) (changes_of_rows rest (after_plain p now)))
        ∙ (λ i. (changes ++ sym these i) ++ changes_of_rows rest (sym is.after i))
        ∙ ap (λ (cs : List Change). cs ++ changes_of_rows rest new) (sym added);
    counted = let one = ap length next in omega (arith, one, way.counted);
  }

-- ---- the import

nothing_kept : (x : Option Import) → option_map (λ (i : Import). i.rows) x ≡ None → is_some x ≡ false
nothing_kept None h = refl
nothing_kept (Some i) h = cc

something_kept : (x : Option Import) (n : ℕ) → option_map (λ (i : Import). i.rows) x ≡ Some n → is_some x ≡ true
something_kept None n h = cc
something_kept (Some i) n h = refl

module _ (id : List ℕ) (kind : ImportKind) (bytes : List ℕ) (rows : List Plain) (old : State) where
  -- what changes where a stored import changes nothing
  abbrev unless_kept : Bool → List Change
  unless_kept b = if b then [] else changes_of_rows rows old ++ import_added (record { id = id; kind = kind; bytes = bytes; rows = length rows }) ∷ []

  -- a stored import changes nothing
  pub kept_unchanged : (n : ℕ) → kept_rows old id ≡ Some n → [] ≡ import_changes id kind bytes rows old
  kept_unchanged n is = sym (ap unless_kept (something_kept (import_of old id) n is))

module _ (id : List ℕ) (kind : ImportKind) (bytes : List ℕ) (rows : List Plain) (old : State) (passed : first (import_tests old id kind bytes) ≡ None) where
  -- a stored import answers its own number
  pub kept_answered : (n : ℕ) → kept_rows old id ≡ Some n → (done : Done) → done.reply ≡ reply.Rows n → done.changes.items ≡ [] → Imports id kind bytes rows old old (Ok done)
  kept_answered n is done answer none =
      let kept : has_import old id ≡ true = something_kept (import_of old id) n is in
      record {
        allowed = ap (λ (x : Option Refusal). or_else x (if has_import old id then None else rows_refusal 1 old rows)) passed ∙ ap (λ (b : Bool). if b then None else rows_refusal 1 old rows) kept;
        after = sym (ap (λ (b : Bool). if b then old else with_import (record { id = id; kind = kind; bytes = bytes; rows = length rows }) (after_rows rows old)) kept);
        reply = answer ∙ sym (ap (λ (x : Option ℕ). reply.Rows (unwrap_or x (length rows))) is);
        changes = subst (λ (cs : List Change). Transforms cs old old) (sym none) (none_transforms old);
      }

  module _ (free : kept_rows old id ≡ None) where
    private_new : has_import old id ≡ false
    private_new = nothing_kept (import_of old id) free

    -- a new import gets the refusal of its rows
    pub rows_decide : import_refusal old id kind bytes (Ok rows) ≡ rows_refusal 1 old rows
    rows_decide =
        ap (λ (x : Option Refusal). or_else x (if has_import old id then None else rows_refusal 1 old rows)) passed
        ∙ ap (λ (b : Bool). if b then None else rows_refusal 1 old rows) private_new

    module _ (mid : State) (changes : List Change) (made : AreMade rows old mid changes) where
      private_same : mid.imports ≡ old.imports
      private_same = ap (λ (o : State). o.imports) made.after ∙ keep_none rows old

      -- there is room for it still
      pub still_room : (not (has_import mid id) && nat_le MAX_IMPORTS (length mid.imports)) ≡ false
      still_room =
          ap (λ (is : List Import). not (is_some (find import_key (of_code id) is)) && nat_le MAX_IMPORTS (length is)) private_same
          ∙ (allowed (import_tests old id kind bytes) passed).1.1.1.0

      -- its row is added
      row_added : rises import_key mid.imports ≡ true → (i : Import) → i.id ≡ id → Transforms (import_added i ∷ []) mid (with_import i mid)
      row_added rise i own = subst (λ (b : Bool). Transforms (put_or_added b (record { table = ImportTable; cells = import_cells i }) ∷ []) mid (with_import i mid))
          (ap (has_import mid) own ∙ ap (λ (is : List Import). is_some (find import_key (of_code id) is)) private_same ∙ private_new)
          (transforms_import i mid rise)

      -- all rows were made, and it is stored
      pub import_made : rises import_key mid.imports ≡ true → (new : State) → new ≡ with_import (record { id = id; kind = kind; bytes = bytes; rows = length rows }) mid → (done : Done) → done.reply ≡ reply.Rows (length rows)
          → done.changes.items ≡ changes ++ import_added (record { id = id; kind = kind; bytes = bytes; rows = length rows }) ∷ [] → Imports id kind bytes rows old new (Ok done)
      import_made rise new is done answer changed =
          let i : Import = record { id = id; kind = kind; bytes = bytes; rows = length rows } in
          record {
            allowed = rows_decide ∙ made.allowed;
            after = is ∙ ap (with_import i) made.after ∙ sym (ap (λ (b : Bool). if b then old else with_import i (after_rows rows old)) private_new);
            reply = answer ∙ sym (ap (λ (x : Option ℕ). reply.Rows (unwrap_or x (length rows))) free);
            changes = subst (λ (cs : List Change). Transforms cs old new) (sym changed)
                (transforms_follow changes (import_added i ∷ []) _ _ _ made.transforms (subst (Transforms (import_added i ∷ []) mid) (sym is) (row_added rise i refl)));
          }
