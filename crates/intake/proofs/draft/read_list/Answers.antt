use Rattle.std.proofs.Common.{◌≡◌, ◌≢◌, ◌<◌, ℕ, List, [], ◌∷◌, ◌++◌, length, map, get_or, slice_get, Some, sym, ap, ◌∙◌, arith}
use Rattle.intake.proofs.Common.{get_or_from_slice_get, slice_get_within, eqb-false, eqb-true, length-map}
use Rattle.intake.proofs.Lists.{blank, field_at, unknown_code, repeated_code, sound_more, read_more, at_position, stand_more, fresh_code}
use Rattle.intake.proofs.Order.{key_at}
use Rattle.intake.proofs.draft.read_list.Goals as goal

pub returns-in_default : goal.returns-in_default
returns-in_default c = λ sound.
    let fs : List (List ℕ) = map (λ f. f.now) c.args.fields.now in
    let k : ℕ = c.loop-field.field-index in
    let at = field_at c.args.fields.now k c.loop-field-test.true in
    unknown_code c.args.kind (map (λ e. e.0) c.args.projects.now) fs (length c.args.projects.now) k (get_or c.args.fields.now k blank).now (sym (length-map c.args.projects.now (λ e. e.0))) sound at.0 at.1 c.in_default.ensures

pub returns-then-contains : goal.returns-then-contains
returns-then-contains c = λ sound.
    let fs : List (List ℕ) = map (λ f. f.now) c.args.fields.now in
    let k : ℕ = c.loop-field.field-index in
    let at = field_at c.args.fields.now k c.loop-field-test.true in
    let codes : List (List ℕ) = map (λ e. e.0) c.args.projects.now in
    let code : List ℕ = (get_or c.args.fields.now k blank).now in
    let seen : List (List ℕ) = c.loop-field.list.items in
    let inv = c.loop-field.invariant in
    let tests = rw c.deref.ensures.0 at c.if-contains.ensures in
    let same = eqb-true _ _ (tests.cases.2 0) in
    let here : slice_get seen tests.cases.0 ≡ Some code =
    at_position codes c.loop-field.positions.items seen tests.cases.0 inv.placed tests.cases.1 ∙ ap (slice_get codes) same ∙ c.in-Some.ensures.1 in
    repeated_code c.args.kind codes fs seen k tests.cases.0 code sound at.0 at.1 inv.read (slice_get_within seen tests.cases.0 code here, here)

pub loop-field-preserved : goal.loop-field-preserved
loop-field-preserved c =
    let fs : List (List ℕ) = map (λ f. f.now) c.args.fields.now in
    let k : ℕ = c.loop-field.field-index in
    let at = field_at c.args.fields.now k c.loop-field-test.true in
    let codes : List (List ℕ) = map (λ e. e.0) c.args.projects.now in
    let code : List ℕ = (get_or c.args.fields.now k blank).now in
    let seen : List (List ℕ) = c.loop-field.list.items in
    let ps : List ℕ = c.loop-field.positions.items in
    let p : ℕ = c.in-Some.position in
    let inv = c.loop-field.invariant in
    let tests = rw c.deref.ensures.0 at c.if-contains.ensures in
    let other : (j : ℕ) → j < length ps → get_or ps j 0 ≢ p = λ j h. eqb-false _ _ (tests.cases j 0 (omega arith) h) in
    let fresh = fresh_code codes ps seen p code c.requires.rise inv.placed c.in-Some.ensures.1 other in
    let copied : c.copy.result ≡ code = c.copy.ensures ∙ ap (λ (e : List ℕ × List ℕ × ℕ). e.0) (sym c.index-projects-position.is)
    ∙ sym (key_at (λ e. e.0) c.args.projects.now p c.index-projects-position.result c.in-Some.ensures.0 c.index-projects-position.is)
    ∙ get_or_from_slice_get codes p code [] c.in-Some.ensures.1 in
    let read = c.in_ok-push.ensures.items ∙ ap (λ (x : List ℕ). seen ++ x ∷ []) copied in
    let placed = c.push-in-loop-field.ensures.items in
    record {
      read = read_more fs seen c.push.new.self.items k code at.0 at.1 inv.read read;
      sound = sound_more codes fs seen (length c.args.projects.now) k p code at.0 at.1 inv.read inv.sound c.in-Some.ensures fresh;
      placed = stand_more codes ps _ seen _ p code inv.placed c.in-Some.ensures.1 placed read;
    }
