use Rattle.std.proofs.Common.{◌≡◌, ℕ, List, map, slice_get, inr, sym, ap, subst, ◌∙◌}
use Rattle.std.specs.Borrow.{Bor}
use Rattle.std.specs.List.{AllZip}
use Rattle.std.specs.Prelude.{None, slice_index_or, Some}
use Rattle.spa.specs.Order.{order}
use Rattle.public_result.specs.Posted.{IsFirstOwnFailure}
use Rattle.round_files.specs.Public.{IsPositionOf, own_fault_text}
use Rattle.round_files.proofs.Positions.{found_within}
use Rattle.round_files.proofs.public.judged_own.Goals as goal

pub returns : goal.returns
returns c =
    let parts = c.args.parts.now in
    let s : ℕ = c.in-Some.position in
    let fault = c.in-Err.fault in
    let here : slice_get parts.students.items s ≡ Some c.args.student.now = ap (λ (l : List (List ℕ)). slice_get l s) (sym c.deref.ensures.value) ∙ c.in-Some.ensures in
    let code = c.index.ensures ∙ (found_within parts.students.items s c.index.result.now c.args.student.now here).1 in
    inr (record {
      s = s;
      positions = c.in_ok-list.list.items;
      fault = fault;
      asked = record { here = here; listed = subst (λ (l : List (List ℕ)). AllZip (IsPositionOf l) (map (λ (p : Bor (List ℕ)). p.now) c.args.list.now) c.in_ok-list.list.items) c.deref-2.ensures.value c.in_ok-list.ensures };
      first = subst (λ (l : List ℕ). IsFirstOwnFailure (order parts.aim) parts.posted l (slice_index_or parts.posted.students.items s None) fault) c.deref-3.ensures.value c.in-Err.ensures.failed;
      is = c.in_ok-text-in-Err.ensures ∙ ap (λ (x : List ℕ). own_fault_text x fault) code;
    })
