use Rattle.std.proofs.Common.{◌≡◌, ℕ, ◌+◌, arith}
use Rattle.web.specs.Serving.{AnswersFrom, AnswersMessage, AnswersOffice, at_desk, end_text}
use Rattle.http_stream.proofs.OneMessage.{nothing_served}
use Rattle.web.proofs.OneMessage.{message_seen, office_seen}
use Rattle.web.proofs.Seen.{is_served_seen}
use Rattle.web.proofs.service.serve_stream.Goals as goal

pub returns-in_default-clause-served : goal.returns-in_default-clause-served
returns-in_default-clause-served g c =
    nothing_served AnswersOffice end_text c.args.desk.now.office (g.R.Source.left c.args.reader.now) (g.W.Sink.written c.args.writer.now)

pub returns-in_default-clause-session : goal.returns-in_default-clause-session
returns-in_default-clause-session g c =
    nothing_served AnswersMessage end_text (at_desk c.args.desk.now) (g.R.Source.left c.args.reader.now) (g.W.Sink.written c.args.writer.now)

pub returns-in_default-clause-available : goal.returns-in_default-clause-available
returns-in_default-clause-available g c =
    nothing_served (AnswersFrom g.S.Store) end_text c.args.desk.now (g.R.Source.left c.args.reader.now) (g.W.Sink.written c.args.writer.now)

-- what was served over the tables was served at what is seen of the desk
pub returns-clause-served : goal.returns-clause-served
returns-clause-served g c =
    is_served_seen (λ desk. desk.office) AnswersOffice end_text (AnswersFrom g.S.Store) (λ b words bytes a step. office_seen g.S.Store b words bytes a step) _ _ _ _ _ _ _ c.serve_messages.ensures.served

pub returns-clause-session : goal.returns-clause-session
returns-clause-session g c =
    is_served_seen at_desk AnswersMessage end_text (AnswersFrom g.S.Store) (λ b words bytes a step. message_seen g.S.Store b words bytes a step) _ _ _ _ _ _ _ c.serve_messages.ensures.served

-- a count that stays
stays : (n : ℕ) → n ≡ n + 0
stays n = omega arith

pub returns-in_default-clause-read_count : goal.returns-in_default-clause-read_count
returns-in_default-clause-read_count g c = stays _
