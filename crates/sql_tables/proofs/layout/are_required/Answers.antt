use Rattle.sql_tables.proofs.Common.{cases_from_all, YieldsList-from_zip, YieldsList-from_slice, column_by, is_required, ◌≡◌, true, false, rules}
use Rattle.sql_tables.proofs.Alike.{alike}
use Rattle.sql_tables.proofs.layout.are_required.Goals as goal

pub returns-then-columns-declared : goal.returns-then-columns-declared
returns-then-columns-declared c =
    alike is_required column_by c.all.result c.args.columns.now c.args.declared.now c.if-columns-declared.true
    (cases_from_all c.all.new.self _ _ (λ p. is_required (column_by p.1) p.0 ≡ true) (λ p. is_required (column_by p.1) p.0 ≡ false) c.all.ensures.ran (YieldsList-from_zip (YieldsList-from_slice c.args.columns.now cc) (YieldsList-from_slice c.args.declared.now cc)) (λ x q k. search (rules)) (λ x q k. search (rules)))
