use Rattle.office.proofs.Common.{option_copied, AllByRecursion, Round, Listed, Key, put, State, has_project, list_key, round_key, student_key, last_round, has_list, after_plain, found_key, list_changes, state_of, PutList, ◌≡◌, refl, sym, ap, subst, ◌∙◌, true, List, is_some}
use Rattle.office.proofs.Known.{lent_is_there}
use Rattle.office.proofs.Made.{made_fit, made_done, last_put}
use Rattle.office.proofs.ListPuts.{list_known}
use Rattle.office.proofs.office.Office.put_list.Goals as goal
use Rattle.office.proofs.office.Office.put_list.Goals.{After-drop-student-inside-2}

pub codes_of-requires : goal.codes_of-requires
codes_of-requires c = subst (AllByRecursion (λ p. has_project c.args.self.now p ≡ true)) (sym c.as_slice.ensures) (list_known c.args.self.now c.args.student c.args.choices c.requires.allowed)

-- the office after it
after : (c : After-drop-student-inside-2) → record (state_of c.self.inside) { rounds = c.put-2.new.self } ≡ after_plain (PutList c.args.student c.args.choices) c.args.self.now
after c =
    let old : State = c.args.self.now in
    let last : Round = c.in_ok-last.last in
    let found = sym c.by_code.ensures ∙ ap option_copied c.unwrap.ensures in
    let student : c.copy.result ≡ c.args.student = c.copy.ensures ∙ sym (ap (λ (k : Key). k.1) (found_key student_key (0, c.as_str-3.result.now) c.self.inside.students c.unwrap.result.now found)) ∙ c.as_str-3.ensures in
    let choices : c.in_ok-new.field-0 ≡ c.args.choices = c.in_ok-new.ensures ∙ c.in_ok-codes.ensures ∙ c.as_slice.ensures in
    let lists = c.in_ok-put.ensures.ok ∙ (λ i. put list_key (record { student = student i; choices = choices i }) last.lists) in
    last_put (λ r. record r { lists = put list_key (record { student = c.args.student; choices = c.args.choices }) r.lists }) (state_of c.self.inside) old c.self.view_is last c.in_ok-last.ensures.last c.put-2.new.self
    (c.in_ok-put-2.ensures.ok ∙ ap (λ (ls : List Listed). put round_key (record last { lists = ls }) c.self.inside.rounds) lists)

pub invariant_of-self-2 : goal.invariant_of-self-2
invariant_of-self-2 c = made_fit (PutList c.args.student c.args.choices) (state_of c.self.inside) c.args.self.now c.self.view_is c.requires.allowed c.self.invariant _ (after c)

-- whether there is a list
has_list_is : (c : After-drop-student-inside-2) → c.is_some-has_list.result ≡ has_list c.args.self.now (last_round c.args.self.now) c.args.student
has_list_is c =
    c.is_some-has_list.ensures ∙ lent_is_there c.list_of.result ∙ ap is_some c.list_of.ensures ∙ (λ i. has_list c.args.self.now (c.last_round-round.ensures i) (c.as_str.ensures i))

pub returns-clause-changes : goal.returns-clause-changes
returns-clause-changes c =
    c.in_ok-changes.ensures
    ∙ (λ i. list_changes (c.last_round-round.ensures i) (c.as_str-2.ensures i) (has_list_is c i) ((c.deref.ensures.value ∙ c.in_ok-codes.ensures ∙ c.as_slice.ensures) i))

pub returns-clause-ok : goal.returns-clause-ok
returns-clause-ok c =
    made_done (PutList c.args.student c.args.choices) (state_of c.self.inside) c.args.self.now c.self.view_is c.requires.allowed c.self.invariant _ (after c) _ refl (returns-clause-changes c)
