use Rattle.std.proofs.Common.{◌≡◌, ℕ, List, length, ap, sym, ◌∙◌, arith}
use Rattle.std.proofs.lemmas.Result.{IfOk-weaker}
use Rattle.spa.specs.Shape.{Shape}
use Rattle.intake.specs.Lines.{public_text}
use Rattle.intake.specs.Public.{posted_parts}
use Rattle.round_files.proofs.public.public_of.Goals as goal

pub publish-requires : goal.publish-requires
publish-requires c = c.requires.matched.places

pub write_public-requires-clause-supervisors : goal.write_public-requires-clause-supervisors
write_public-requires-clause-supervisors c = omega (arith, ap length c.supervisor_codes.ensures.codes, c.supervisor_codes.ensures.fit.supervisors.one_each, ap (λ (s : Shape). length s.supervisors) c.in_ok-posted.ensures.rolls)

pub write_public-requires-clause-projects : goal.write_public-requires-clause-projects
write_public-requires-clause-projects c = omega (arith, ap length c.project_codes.ensures.codes, c.supervisor_codes.ensures.fit.projects.one_each, ap (λ (s : Shape). length s.projects) c.in_ok-posted.ensures.rolls)

pub write_public-requires-clause-known : goal.write_public-requires-clause-known
write_public-requires-clause-known c = (c.in_ok-posted.ensures.accepted c.requires).0.placed.known

pub write_public-requires-clause-project_prices : goal.write_public-requires-clause-project_prices
write_public-requires-clause-project_prices c = (c.in_ok-posted.ensures.accepted c.requires).0.prices.project_prices

pub write_public-requires-clause-supervisor_prices : goal.write_public-requires-clause-supervisor_prices
write_public-requires-clause-supervisor_prices c = (c.in_ok-posted.ensures.accepted c.requires).0.prices.supervisor_prices

pub returns : goal.returns
returns c =
    let round = c.args.parts in
    let posted = c.in_ok-posted.posted in
    let accepted = c.in_ok-posted.ensures.accepted c.requires in
    IfOk-weaker c.write_public.result _ _ (λ text e. record {
      posted = posted;
      rolls = c.in_ok-posted.ensures.rolls;
      told = c.in_ok-posted.ensures.students;
      cleared = accepted.0;
      content = accepted.1;
      is = e ∙ ap (λ (l : List (List ℕ)). public_text (posted_parts round.aim l c.project_codes.result.now c.student_codes.result.now posted)) c.supervisor_codes.ensures.codes
          ∙ ap (λ (l : List (List ℕ)). public_text (posted_parts round.aim round.instance.supervisor_codes l c.student_codes.result.now posted)) c.project_codes.ensures.codes
          ∙ ap (λ (l : List (List ℕ)). public_text (posted_parts round.aim round.instance.supervisor_codes round.instance.project_codes l posted)) c.student_codes.ensures.codes;
    }) c.write_public.ensures.text
