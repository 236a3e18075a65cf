use Rattle.office.proofs.Common.{◌&&◌, not, nat_le, false, MAX_IMPORTS, Import, Add, State, IsFit, has_import, with_import, ◌≡◌, ℕ, ◌∷◌, [], ◌++◌, sym, ap, subst, ◌∙◌, List, length}
use Rattle.office_model.specs.declared.request.Reply.TheVariants as reply
use Rattle.office.proofs.ImportRows.{import_added, still_room, import_made}
use Rattle.office.proofs.office.Office.import_new.Goals.{After-drop-id-inside-2}
use Rattle.office.proofs.office.Office.import_new.Goals as goal

pub keep-requires-clause-room : goal.keep-requires-clause-room
keep-requires-clause-room c =
    let mid : State = c.make_all.new.self in
    subst (λ (d : List ℕ). (not (has_import mid d) && nat_le MAX_IMPORTS (length mid.imports)) ≡ false) (sym (c.code_of.ensures ∙ c.as_str.ensures))
    (still_room c.args.id c.args.kind c.args.bytes c.args.rows.items c.args.self.now c.requires.allowed c.requires.free mid c.in_ok-changes.changes.items c.in_ok-changes.ensures.ok)

-- the import that is made is the one that is asked for
made : (c : After-drop-id-inside-2) → ◌≡◌ {A = Import} (record { id = c.code_of.result; kind = c.args.kind; bytes = c.args.bytes; rows = c.len-count.result }) (record { id = c.args.id; kind = c.args.kind; bytes = c.args.bytes; rows = length c.args.rows.items })
made c = λ i. record { id = (c.code_of.ensures ∙ c.as_str.ensures) i; kind = c.args.kind; bytes = c.args.bytes; rows = (c.len-count.ensures ∙ c.args.rows.ok.0) i }

-- and its row comes last
last : (c : After-drop-id-inside-2) → c.push.new.self.items ≡ c.in_ok-changes.changes.items ++ import_added (record { id = c.args.id; kind = c.args.kind; bytes = c.args.bytes; rows = length c.args.rows.items }) ∷ []
last c =
    c.in_ok-push.ensures.items
    ∙ ap (λ r. c.in_ok-changes.changes.items ++ Add r ∷ []) c.in_ok-row.ensures
    ∙ ap (λ (m : Import). c.in_ok-changes.changes.items ++ import_added m ∷ []) (made c)

pub returns-clause-ok : goal.returns-clause-ok
returns-clause-ok c =
    let mid : State = c.make_all.new.self in
    import_made c.args.id c.args.kind c.args.bytes c.args.rows.items c.args.self.now c.requires.allowed c.requires.free mid c.in_ok-changes.changes.items c.in_ok-changes.ensures.ok
    (subst IsFit c.self.view_is c.self.invariant).imports.rise c.keep.new.self (c.in_ok-keep.ensures ∙ ap (λ m. with_import m mid) (made c))
    (record { reply = reply.Rows c.len-count.result; changes = c.push.new.self }) (ap reply.Rows (c.len-count.ensures ∙ c.args.rows.ok.0)) (last c)
