use Rattle.std.proofs.Common.{◌≡◌, ℕ, ◌+◌, ◌<◌, List, [], ◌∷◌, ◌++◌, length, map, get_or, slice_get, Option, Some, refl, sym, ap, subst, ◌∙◌, arith, rules}
use Rattle.intake.proofs.Common.{get_or_from_slice_get, length-map, code_at, Student, IsRoll, choice_code, draft_of}
use Rattle.intake.proofs.RowInDraft.{two_fields}
use Rattle.intake.proofs.Lists.{blank}
use Rattle.intake.proofs.Rolls.{student_keys}
use Rattle.intake.proofs.Order.{get_mapped}
use Rattle.intake.proofs.PairLine.{refers, nowhere, one_place, student_at, listed_at, small_place, same_found}
use Rattle.intake.proofs.draft.PartialRound.add_pair.Goals as goal

pub position_at-requires : goal.position_at-requires
position_at-requires c = subst IsRoll (student_keys c.args.self.now.students.items ∙ ap (map (λ e. e.0)) (sym c.deref.ensures.value)) c.requires.students

pub returns-in_default-position_at : goal.returns-in_default-position_at
returns-in_default-position_at c = λ e t.
    let r = refers (draft_of c.args.self.now) _ e.0 e.1 _ _ t (two_fields c.args.fields.now c.in-len2.len_at_least c.in-len2.len_below) in
    let keys = student_keys c.args.self.now.students.items ∙ ap (map (λ e. e.0)) (sym c.deref.ensures.value) in
    nowhere (map (λ e. e.0) c.deref.result.now) (length c.deref.result.now) e.0 (get_or c.args.fields.now 0 blank).now _ (sym (length-map c.deref.result.now (λ e. e.0))) refl
    c.in_default-position_at.ensures (ap (λ (l : List (List ℕ)). slice_get l e.0) (sym keys) ∙ r.code)

pub returns-then-position-len : goal.returns-then-position-len
returns-then-position-len c = λ e t.
    let r = refers (draft_of c.args.self.now) _ e.0 e.1 _ _ t (two_fields c.args.fields.now c.in-len2.len_at_least c.in-len2.len_below) in
    let keys = student_keys c.args.self.now.students.items ∙ ap (map (λ e. e.0)) (sym c.deref.ensures.value) in
    let same : c.in-Some.position ≡ e.0 = one_place _ c.in-Some.position e.0 _ c.requires.students.rise
    (ap (λ (l : List (List ℕ)). slice_get l c.in-Some.position) keys ∙ c.in-Some.ensures.1) r.code in
    let many : c.len.result ≡ length c.args.self.now.places.items = search (rules) in
    omega (arith, t.later, c.if-position-len.true)

pub returns-in_default-position_in : goal.returns-in_default-position_in
returns-in_default-position_in c = λ e t.
    let r = refers (draft_of c.args.self.now) _ e.0 e.1 _ _ t (two_fields c.args.fields.now c.in-len2.len_at_least c.in-len2.len_below) in
    let keys = student_keys c.args.self.now.students.items ∙ ap (map (λ e. e.0)) (sym c.deref.ensures.value) in
    let same : c.in-Some.position ≡ e.0 = one_place _ c.in-Some.position e.0 _ c.requires.students.rise
    (ap (λ (l : List (List ℕ)). slice_get l c.in-Some.position) keys ∙ c.in-Some.ensures.1) r.code in
    let within : c.in-Some.position < length c.args.self.now.students.items = omega (arith, c.in-Some.ensures.0, ap length c.deref.ensures.value) in
    let list = listed_at c.args.self.now.students.items c.in-Some.position e.0 c.index.result.now t.entry within c.index.ensures same t.here in
    nowhere c.deref-2.result.now (length c.deref-2.result.now) r.at (get_or c.args.fields.now 1 blank).now _ refl refl
    c.in_default-position_in.ensures (ap (λ (l : List (List ℕ)). slice_get l r.at) (c.deref-2.ensures.value ∙ sym list) ∙ r.place)

pub overflow_cast-place : goal.overflow_cast-place
overflow_cast-place c = omega (arith, small_place _ c.args.self.now.students.items c.in-Some.position c.in-Some-position_in.before c.index.result.now c.requires.lists refl c.in-Some.ensures.0 (ap length c.deref.ensures.value) c.index.ensures c.in-Some-position_in.ensures.0 (ap length c.deref-2.ensures.value))

pub overflow_add-place : goal.overflow_add-place
overflow_add-place c = omega (arith, small_place _ c.args.self.now.students.items c.in-Some.position c.in-Some-position_in.before c.index.result.now c.requires.lists refl c.in-Some.ensures.0 (ap length c.deref.ensures.value) c.index.ensures c.in-Some-position_in.ensures.0 (ap length c.deref-2.ensures.value))

pub returns : goal.returns
returns c =
    let s : ℕ = c.in-Some.position in
    let before : ℕ = c.in-Some-position_in.before in
    let k : ℕ = before + 1 in
    let within : s < length c.args.self.now.students.items = omega (arith, c.in-Some.ensures.0, ap length c.deref.ensures.value) in
    let keys = student_keys c.args.self.now.students.items ∙ ap (map (λ e. e.0)) (sym c.deref.ensures.value) in
    let here = student_at c.args.self.now.students.items s c.index.result.now within c.index.ensures in
    let many : c.len.result ≡ length c.args.self.now.places.items = search (rules) in
    let first : c.index.result.now.0 ≡ (get_or c.args.fields.now 0 blank).now = same_found _ s _ _ (get_mapped (λ (x : Student). x.code) _ s _ here)
    (ap (λ (l : List (List ℕ)). slice_get l s) keys ∙ c.in-Some.ensures.1) in
    let second : (get_or c.args.fields.now 1 blank).now ≡ choice_code c.index.result.now.1.items k = sym (get_or_from_slice_get c.deref-2.result.now before (get_or c.args.fields.now 1 blank).now [] c.in-Some-position_in.ensures.1) ∙ ap (λ (l : List (List ℕ)). code_at l before) c.deref-2.ensures.value ∙ ap (code_at c.index.result.now.1.items) (omega arith) in (
      (s, Some k),
      record {
        entry = record { code = c.index.result.now.0; list = c.index.result.now.1.items };
        here = here;
        later = omega (arith, c.if-position-len.false, many);
        fits = record { first = omega arith; last = omega (arith, c.in-Some-position_in.ensures.0, ap length c.deref-2.ensures.value) };
        is = ap Some (sym (two_fields c.args.fields.now c.in-len2.len_at_least c.in-len2.len_below ∙ ap (λ (x : List ℕ). x ∷ (get_or c.args.fields.now 1 blank).now ∷ []) (sym first) ∙ ap (λ (x : List ℕ). c.index.result.now.0 ∷ x ∷ []) second));
      },
      ap (λ (l : List (Option ℕ)). record (draft_of c.args.self.now) { places = l }) (c.in_ok-push.ensures.items ∙ ap (λ (l : List (Option ℕ)). l ++ Some k ∷ []) c.in_ok-fill.ensures),
    )
