use Rattle.http_api.proofs.texts.done_answer.Goals as goal

pub returns : goal.returns
returns c = c.json.ensures
