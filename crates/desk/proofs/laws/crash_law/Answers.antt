use Rattle.desk.proofs.Common.{Begins}
use Rattle.desk.proofs.AfterCrash.{rest_kept, call_whole, ask_whole}
use Rattle.desk.proofs.Reached.{answers_stay, ask_reaches, found_whole}
use Rattle.desk.proofs.laws.crash_law.Goals as goal

pub returns-clause-rest : goal.returns-clause-rest
returns-clause-rest g c = rest_kept g.S.Store

pub returns-clause-ask : goal.returns-clause-ask
returns-clause-ask g c = ask_whole g.S.Store

pub returns-clause-run : goal.returns-clause-run
returns-clause-run g c = λ old new refused requests answers. call_whole g.S.Store (Begins old.office requests answers) old new refused

pub returns-clause-reaches : goal.returns-clause-reaches
returns-clause-reaches g c = ask_reaches g.S.Store

pub returns-clause-answered : goal.returns-clause-answered
returns-clause-answered g c = answers_stay g.S.Store

pub returns-clause-whole : goal.returns-clause-whole
returns-clause-whole g c = found_whole g.S.Store
