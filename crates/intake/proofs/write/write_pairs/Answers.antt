use Rattle.std.proofs.Common.{◌≡◌, ℕ, ◌+◌, ◌-◌, ◌<◌, List, [], ◌∷◌, ◌++◌, length, get_or, Some, None, codes, drop, string_bytes, refl, sym, ap, ◌∙◌, arith}
use Rattle.intake.proofs.Common.{slice_get_at, get_or_read, IsPlaceOf, list_of, line}
use Rattle.intake.proofs.RestOfText.{is_none, pairs_none, pairs_some, pair_text, next}
use Rattle.intake.proofs.write.write_pairs.Goals as goal
use Rattle.intake.proofs.write.write_pairs.Goals.{in-Some+in_ok-push_pair, in_default}

pub loop-s-preserved : goal.loop-s-preserved
loop-s-preserved c =
    let i = c.args.instance.now in
    let s : ℕ = c.loop-s.s in
    let fit = c.student_codes-codes.ensures.fit in
    let within : s < length c.args.places.now = c.loop-s-test.true in
    let listed : s < length i.shape.students = omega (arith, c.requires.one_each) in
    let coded : s < length i.student_codes = omega (arith, fit.students.one_each) in
    elim c.match-places-s.branch [
      | in-Some+in_ok-push_pair w ↦
          let k : ℕ = w.in-Some.place in
          let here : get_or c.args.places.now s None ≡ Some k = w.in-Some.is in
          let few : IsPlaceOf (list_of i.shape s) k = c.requires.in_list s k (slice_get_at c.args.places.now s None (Some k) within here) in
          let q : ℕ = get_or (list_of i.shape s) (k - 1) 0 in
          let known : q < length i.shape.projects = fit.sound.known s [] listed (k - 1) 0 (omega arith) in
          let named : q < length i.project_codes = omega (arith, fit.projects.one_each) in
          let student : List ℕ = w.as_str.result.now in
          let project : List ℕ = w.as_str-in-Some.result.now in
          let student_is : get_or i.student_codes s [] ≡ student = sym (w.as_str.ensures.value ∙ get_or_read i.student_codes s w.index-codes-s.result coded (rw c.student_codes-codes.ensures.codes at w.index-codes-s.is) []) in
          let project_is : get_or i.project_codes q [] ≡ project = sym (w.as_str-in-Some.ensures.value ∙ get_or_read i.project_codes q w.index-projects-project.result named (rw (c.project_codes-projects.ensures.codes, w.choice-project.ensures.choice) at w.index-projects-project.is) []) in
          let some = pairs_some i.project_codes i.student_codes i.shape.students c.args.places.now s k q student project coded listed within here few refl student_is project_is in
          ap (λ out. string_bytes out ++ pair_text i.project_codes (drop (s + 1) i.student_codes) (drop (s + 1) i.shape.students) (drop (s + 1) c.args.places.now)) w.out-is
          ∙ next (string_bytes c.loop-s.out) (string_bytes w.push_pair.new.out) (line (codes "M") (student ∷ project ∷ []) ++ 10 ∷ [])
          (pair_text i.project_codes (drop (s + 1) i.student_codes) (drop (s + 1) i.shape.students) (drop (s + 1) c.args.places.now))
          _ w.in_ok-push_pair.ensures (ap (λ rest. string_bytes c.loop-s.out ++ rest) (sym some) ∙ c.loop-s.invariant)
      | in_default w ↦
          let none : get_or c.args.places.now s None ≡ None = is_none _ w.in_default.not-Some in
          let same = pairs_none i.project_codes i.student_codes i.shape.students c.args.places.now s coded listed within none in
          ap (λ out. string_bytes out ++ pair_text i.project_codes (drop (s + 1) i.student_codes) (drop (s + 1) i.shape.students) (drop (s + 1) c.args.places.now)) w.out-is
          ∙ ap (λ rest. string_bytes c.loop-s.out ++ rest) (sym same) ∙ c.loop-s.invariant
    ]
