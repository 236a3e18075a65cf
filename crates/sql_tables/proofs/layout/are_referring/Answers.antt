use Rattle.sql_tables.proofs.Common.{cases_from_all, YieldsList-from_zip, YieldsList-from_slice, link_by, is_referring, ◌≡◌, true, false, rules}
use Rattle.sql_tables.proofs.Alike.{alike}
use Rattle.sql_tables.proofs.layout.are_referring.Goals as goal

pub returns-then-references-links : goal.returns-then-references-links
returns-then-references-links c =
    alike is_referring link_by c.all.result c.args.references.now c.args.links.now c.if-references-links.true
    (cases_from_all c.all.new.self _ _ (λ p. is_referring (link_by p.1) p.0 ≡ true) (λ p. is_referring (link_by p.1) p.0 ≡ false) c.all.ensures.ran (YieldsList-from_zip (YieldsList-from_slice c.args.references.now cc) (YieldsList-from_slice c.args.links.now cc)) (λ x q k. search (rules)) (λ x q k. search (rules)))
