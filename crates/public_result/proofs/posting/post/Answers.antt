use Rattle.std.proofs.Common.{◌≡◌, ℕ, List, refl, ap, sym, ◌∙◌, subst}
use Rattle.public_result.proofs.Common.{IsPostOf, IsProvedBest, IsSound, IsWithinLimits, Posted, Shape, order, with_lists}
use Rattle.public_result.proofs.Accepted.{posts_are_accepted}
use Rattle.public_result.proofs.posting.post.Goals as goal

pub returns : goal.returns
returns c =
    let i : Shape = c.args.instance.now.shape in
    let t : Posted = record {
      supervisors = c.in_ok-supervisors.supervisors;
      projects = c.in_ok-projects.projects;
      students = c.in_ok-students.students;
      project_prices = c.args.prices.projects;
      supervisor_prices = c.args.prices.supervisors;
    } in
    let supervisors = c.in_ok-supervisors.ensures in
    let projects = c.in_ok-projects.ensures in
    let made : List ℕ → List (ℕ × ℕ) → Shape = λ a b. record { supervisors = a; projects = b; students = i.students } in
    let rolls : with_lists t i.students ≡ i = ap (λ (a : List ℕ). made a t.projects.items) (supervisors.items ∙ c.supervisors.ensures.quotas) ∙ ap (made i.supervisors) (projects.items ∙ c.projects.ensures) in
    let post : IsPostOf t i.students c.args.matching.now.places.items c.args.prices = record { students = c.in_ok-students.ensures; project_prices = refl; supervisor_prices = refl } in
    record {
      rolls = rolls;
      post = post;
      accepted = λ aim best. posts_are_accepted aim t i.students c.args.matching.now.places.items c.args.prices
          (subst IsSound (sym rolls) c.supervisors.ensures.fit.sound)
          (subst IsWithinLimits (sym rolls) c.supervisors.ensures.fit.limits)
          (subst (λ (j : Shape). IsProvedBest (order aim) j c.args.matching.now.places.items c.args.prices) (sym rolls) best)
          post;
    }
