use Rattle.office.proofs.Common.{State, kept_rows, first, import_tests, rows_refusal, Imports, import_changes, rules, ◌≡◌, None, Some, inl, inr, sym, subst, ◌∙◌, refl, Ok}
use Rattle.office.proofs.ImportRows.{kept_answered, kept_unchanged, rows_decide}
use Rattle.office.proofs.office.Office.import.Goals as goal

pub returns-in-Some-kept_rows : goal.returns-in-Some-kept_rows
returns-in-Some-kept_rows c =
    record {
      step = kept_answered c.args.id c.args.kind c.args.bytes c.args.rows.items c.args.self.now (search rules) c.in-Some-kept_rows.rows (search rules) c.answered.result c.answered.ensures.reply c.answered.ensures.changes;
      changes = c.answered.ensures.changes ∙ kept_unchanged c.args.id c.args.kind c.args.bytes c.args.rows.items c.args.self.now c.in-Some-kept_rows.rows (search rules);
    }

pub returns-in-Ok : goal.returns-in-Ok
returns-in-Ok c = record {
  step = subst (λ (new : State). Imports c.args.id c.args.kind c.args.bytes c.args.rows.items c.args.self.now new (Ok c.in-Ok.done)) (sym c.swap.ensures.x_after)
      (subst (λ (old : State). Imports c.args.id c.args.kind c.args.bytes c.args.rows.items old c.import_new.new.self (Ok c.in-Ok.done)) c.in_ok-next.ensures.same c.in-Ok.ensures.ok);
  changes = subst (λ (old : State). c.in-Ok.done.changes.items ≡ import_changes c.args.id c.args.kind c.args.bytes c.args.rows.items old) c.in_ok-next.ensures.same c.in-Ok.ensures.changes;
}

pub returns : goal.returns
returns c =
    let passed : first (import_tests c.args.self.now c.args.id c.args.kind c.args.bytes) ≡ None = search rules in
    let free : kept_rows c.args.self.now c.args.id ≡ None = search rules in
    record {
      step = record {
        reason = elim c.in-Err.ensures.err [
          | inl memory ↦ inl memory
          | inr refused ↦ inr (rows_decide c.args.id c.args.kind c.args.bytes c.args.rows.items c.args.self.now passed free ∙ subst (λ (old : State). rows_refusal 1 old c.args.rows.items ≡ Some c.in-Err.refusal) c.in_ok-next.ensures.same refused)
        ];
        same = refl;
      };
      changes = tt;
    }
