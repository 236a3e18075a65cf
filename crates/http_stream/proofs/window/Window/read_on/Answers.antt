use Rattle.std.proofs.Common.{rules, ◌∙◌, sym, subst, ℕ, List}
use Rattle.http_stream.proofs.Common.{unread, Whole, Stop, Judges}
use Rattle.http_stream.proofs.ReaderEnd.{still_open}
use Rattle.http_stream.proofs.window.Window.read_on.Goals as goal

pub returns-in-Whole-clause-some : goal.returns-in-Whole-clause-some
returns-in-Whole-clause-some g c = (subst (λ (t : List ℕ). Judges t (Whole c.in-Whole.parts)) (sym c.front.ensures.same) c.in-Whole.ensures.front, c.requires.open)

pub returns-in-Stop-clause-some : goal.returns-in-Stop-clause-some
returns-in-Stop-clause-some g c =
    (subst (λ (t : List ℕ). Judges t (Stop c.in-Stop.end)) (sym c.front.ensures.same) c.in-Stop.ensures.front (unread (g.R.Source.left c.args.reader.now)), tt)

pub returns-in-Err-clause-open : goal.returns-in-Err-clause-open
returns-in-Err-clause-open g c = still_open c.args.self.now c.refill.new.self (c.in-Err.ensures.same ∙ c.front.ensures.same) c.in-Open.ensures.front

pub returns-then-is_empty-clause-count : goal.returns-then-is_empty-clause-count
returns-then-is_empty-clause-count g c = search rules

pub returns-else-is_empty-clause-open : goal.returns-else-is_empty-clause-open
returns-else-is_empty-clause-open g c = search rules

pub returns-else-is_empty-clause-count : goal.returns-else-is_empty-clause-count
returns-else-is_empty-clause-count g c = search rules
