use Rattle.std.proofs.Common.{◌≡◌, ℕ, List, length, sym, ap, subst, ◌∙◌, arith}
use Rattle.desk.proofs.layers.Common.{with_list, IsAdmitted, State, last_round}
use Rattle.desk.proofs.layers.OneMoreStudent.{MayAdmit, joins_admitted, joins_listed, joins_mirrors}
use Rattle.office.proofs.Few.{lists_few}
use Rattle.desk.proofs.layers.session.join.Goals as goal

pub list_of-requires : goal.list_of-requires
list_of-requires c = record { listed = joins_listed c.args.office.now c.args.session.now c.args.student.now c.requires.joins }

pub admit-requires : goal.admit-requires
admit-requires c =
    let n : State = c.args.office.now in
    let few = lists_few n c.list_of.ensures.fit (last_round n) in
    let may : MayAdmit c.args.session.now.shape c.deref.result.now = subst (λ (xs : List ℕ). MayAdmit c.args.session.now.shape xs) (sym c.deref.ensures.value)
    (joins_admitted n c.args.session.now c.args.student.now c.requires.joins c.list_of.ensures.fit few c.in_ok-list.list.items c.in_ok-list.ensures.ranking) in
    record { few = may.few; some = may.some; short = may.short; known = may.known; distinct = may.distinct }

pub returns : goal.returns
returns c =
    let n : State = c.args.office.now in
    let old = c.args.session.now in
    let few = lists_few n c.list_of.ensures.fit (last_round n) in
    let list = c.in_ok-list.list.items in
    let same : c.deref.result.now ≡ list = c.deref.ensures.value in
    let some = (joins_admitted n old c.args.student.now c.requires.joins c.list_of.ensures.fit few list c.in_ok-list.ensures.ranking).some in
    let long : length c.deref.result.now ≡ length list = ap (λ (xs : List ℕ). length xs) same in
    let is : IsAdmitted old c.admit.new.self c.deref.result.now c.in_ok-admit.field-0.relaxations = c.in_ok-admit.ensures.admitted in
    record {
      mirrors = joins_mirrors n old c.args.student.now c.requires.joins c.list_of.ensures.fit few list c.in_ok-list.ensures.ranking c.admit.new.self is.aim (is.shape ∙ ap (λ (xs : List ℕ). with_list old.shape xs) same);
      joined = record {
        list = c.deref.result.now;
        shape = is.shape;
        more = omega (arith, is.counted, is.compared, some, long);
        bound = omega (arith, is.counted, is.bound);
      };
      memory = tt;
    }
