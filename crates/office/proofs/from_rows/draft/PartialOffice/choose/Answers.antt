use Rattle.office.proofs.from_rows.Common.{put, round_key, drafted, sym, ap, ◌∙◌}
use Rattle.office.proofs.from_rows.Chosen.{chosen_taken}
use Rattle.office.proofs.from_rows.draft.PartialOffice.choose.Goals as goal

pub returns-clause-taken : goal.returns-clause-taken
returns-clause-taken c =
    chosen_taken (drafted c.args.self.now) c.args.round c.args.student c.args.choice.0 c.args.choice.1 c.in-Some.held _ c.put.new.self
    (sym c.in_ok-held.ensures.found ∙ c.in-Some.is) c.in_ok-add_choice.ensures.added c.in_ok-add_choice.ensures.place
    (c.in_ok-put.ensures.ok ∙ ap (put round_key _) c.in_ok-held.ensures.ok) c.in_ok-held.ensures.sorted
