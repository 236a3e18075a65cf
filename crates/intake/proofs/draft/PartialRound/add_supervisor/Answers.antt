use Rattle.std.proofs.Common.{ℕ, List, [], ◌∷◌, map, get_or, sym, ap, subst, ◌∙◌}
use Rattle.intake.proofs.Common.{Rise, Supervisor, supervisors_of, draft_of, map_push}
use Rattle.intake.proofs.RowInDraft.{two_fields}
use Rattle.intake.proofs.Lists.{blank, first_field}
use Rattle.intake.proofs.Rolls.{supervisor_keys, comes_moved}
use Rattle.intake.proofs.draft.PartialRound.add_supervisor.Goals as goal

pub next_code-requires : goal.next_code-requires
next_code-requires c = subst Rise (supervisor_keys c.args.self.now.supervisors.items ∙ ap (map (λ e. e.0)) (sym c.deref.ensures.value)) c.requires.rise

pub returns-in_default-next_code : goal.returns-in_default-next_code
returns-in_default-next_code c = λ e t.
    c.in_default-next_code.ensures (comes_moved _ _ _ _ _ (supervisor_keys c.args.self.now.supervisors.items ∙ ap (map (λ e. e.0)) (sym c.deref.ensures.value)) (first_field _ _ _ _ (sym t.is ∙ two_fields c.args.fields.now c.in-len2.len_at_least c.in-len2.len_below)) t.code)

pub returns : goal.returns
returns c =
    let read = rw c.in-Some.is at c.next_code.ensures in
    let keys = ap (map (λ e. e.0)) c.deref.ensures.value ∙ sym (supervisor_keys c.args.self.now.supervisors.items) in (
      record { code = c.in-Some.code; quota = c.in-Some-read_quota.quota },
      record {
        is = two_fields c.args.fields.now c.in-len2.len_at_least c.in-len2.len_below ∙ ap (λ (x : List ℕ). x ∷ (get_or c.args.fields.now 1 blank).now ∷ []) (sym read.0) ∙ ap (λ (x : List ℕ). c.in-Some.code ∷ x ∷ []) c.in-Some-read_quota.ensures.1;
        code = comes_moved _ _ _ _ _ keys (sym read.0) read.1;
        fits = c.in-Some-read_quota.ensures.0;
      },
      ap (λ (l : List Supervisor). let p = draft_of c.args.self.now in record p { instance = record p.instance { supervisors = l } })
          (ap supervisors_of c.in_ok-push.ensures.items ∙ map_push (λ e. record { code = e.0; quota = e.1 }) c.args.self.now.supervisors.items (c.in-Some.code, c.in-Some-read_quota.quota)),
    )
