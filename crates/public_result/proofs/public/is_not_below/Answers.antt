use Rattle.std.proofs.Common.{sym, ◌∙◌}
use Rattle.public_result.proofs.Common.{false≢true}
use Rattle.public_result.proofs.public.is_not_below.Goals as goal

pub returns-then-are_not_below_zero : goal.returns-then-are_not_below_zero
returns-then-are_not_below_zero c =
    let projects = rw c.deref.ensures.value at (c.are_not_below_zero.ensures.0 c.if-are_not_below_zero.true) in
    let supervisors = rw c.deref-then-are_not_below_zero.ensures.value at c.are_not_below_zero-then-are_not_below_zero.ensures in
    (λ h. record { projects = projects; supervisors = supervisors.0 h }, λ b. supervisors.1 b.supervisors)

pub returns-else-are_not_below_zero : goal.returns-else-are_not_below_zero
returns-else-are_not_below_zero c =
    let projects = rw c.deref.ensures.value at c.are_not_below_zero.ensures in
    (λ h. absurd (false≢true (sym c.if-are_not_below_zero.false ∙ h)), λ b. projects.1 b.projects)
