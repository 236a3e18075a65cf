use Rattle.desk.proofs.Lasting.{ask_lasts, office_lasts}
use Rattle.desk.proofs.laws.lasting_law.Goals as goal

pub returns-clause-ask : goal.returns-clause-ask
returns-clause-ask g c = ask_lasts g.S.Store

pub returns-clause-office : goal.returns-clause-office
returns-clause-office g c = office_lasts g.S.Store
