use Rattle.desk.proofs.Lasting.{ask_lasts}
use Rattle.desk.proofs.Reached.{answers_stay, ask_reaches}
use Rattle.web.proofs.Streams.{answered_stay, stream_lasts}
use Rattle.web.proofs.laws.stream_law.Goals as goal

pub returns-clause-stay : goal.returns-clause-stay
returns-clause-stay g c = answered_stay g.S.Store (ask_reaches g.S.Store) (answers_stay g.S.Store)

pub returns-clause-last : goal.returns-clause-last
returns-clause-last g c = stream_lasts g.S.Store (ask_lasts g.S.Store)
