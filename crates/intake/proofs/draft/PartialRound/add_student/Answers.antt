use Rattle.std.proofs.Common.{◌≡◌, ℕ, List, ◌∷◌, map, sym, ap, subst, ◌∙◌}
use Rattle.intake.proofs.Common.{Bor, map_push, Rise, IsRoll, Student, students_of, draft_of}
use Rattle.intake.proofs.Lists.{first_field, other_fields}
use Rattle.intake.proofs.Rolls.{student_keys, project_keys, comes_moved, sound_moved}
use Rattle.intake.proofs.draft.PartialRound.add_student.Goals as goal

pub next_code-requires : goal.next_code-requires
next_code-requires c = subst Rise (student_keys c.args.self.now.students.items ∙ ap (map (λ e. e.0)) (sym c.deref.ensures.value)) c.requires.instance.students.rise

pub read_list-requires : goal.read_list-requires
read_list-requires c = subst IsRoll (project_keys c.args.self.now.projects.items ∙ ap (map (λ e. e.0)) (sym c.deref-2.ensures.value)) c.requires.instance.projects

pub returns-in_default-next_code : goal.returns-in_default-next_code
returns-in_default-next_code c = λ e t.
    let fields = ap (map (λ (f : Bor (List ℕ)). f.now)) c.in-Some.ensures.cases.0 in
    let keys = student_keys c.args.self.now.students.items ∙ ap (map (λ e. e.0)) (sym c.deref.ensures.value) in
    c.in_default-next_code.ensures (comes_moved _ _ _ _ _ keys (first_field _ _ _ _ (sym t.is ∙ fields)) t.code)

pub returns-in_default-2 : goal.returns-in_default-2
returns-in_default-2 c = λ e t.
    let fields = ap (map (λ (f : Bor (List ℕ)). f.now)) c.in-Some.ensures.cases.0 in
    let rest : map (λ (f : Bor (List ℕ)). f.now) c.in-Some.list.now ≡ e.list = other_fields _ _ _ _ (sym fields ∙ t.is) in
    let keys = project_keys c.args.self.now.projects.items ∙ ap (map (λ e. e.0)) (sym c.deref-2.ensures.value) in
    let refused = rw c.in_default-2.is at c.in_ok-list.ensures in
    refused (sound_moved _ _ _ _ _ keys (sym rest) t.fits)

pub returns : goal.returns
returns c =
    let next = rw c.in-Some-next_code.is at c.next_code.ensures in
    let fields = ap (map (λ (f : Bor (List ℕ)). f.now)) c.in-Some.ensures.cases.0 in
    let keys = ap (map (λ e. e.0)) c.deref.ensures.value ∙ sym (student_keys c.args.self.now.students.items) in
    let owners = ap (map (λ e. e.0)) c.deref-2.ensures.value ∙ sym (project_keys c.args.self.now.projects.items) in
    let read = rw c.in-Some-2.is at c.in_ok-list.ensures in (
      record { code = c.in-Some-next_code.code; list = c.in-Some-2.list.items },
      record {
        is = fields ∙ ap (λ (x : List ℕ). x ∷ map (λ (f : Bor (List ℕ)). f.now) c.in-Some.list.now) (sym next.0) ∙ ap (λ (l : List (List ℕ)). c.in-Some-next_code.code ∷ l) (sym read.0);
        code = comes_moved _ _ _ _ _ keys (sym next.0) next.1;
        fits = sound_moved _ _ _ _ _ owners (sym read.0) read.1;
      },
      ap (λ (l : List Student). let p = draft_of c.args.self.now in record p { instance = record p.instance { students = l } })
          (ap (λ l. students_of (map (λ e. (e.0, e.1.items)) l)) c.in_ok-push.ensures.items ∙ ap students_of (map_push (λ e. (e.0, e.1.items)) c.args.self.now.students.items (c.in-Some-next_code.code, c.in-Some-2.list))
          ∙ map_push (λ e. record { code = e.0; list = e.1 }) (map (λ e. (e.0, e.1.items)) c.args.self.now.students.items) (c.in-Some-next_code.code, c.in-Some-2.list.items)),
    )
