use Rattle.sql_tables.proofs.Common.{cases_from_all, YieldsList-from_zip, YieldsList-from_slice, places_by, bytes_eq, ◌≡◌, ℕ, List, true, false, rules}
use Rattle.sql_tables.proofs.Alike.{alike}
use Rattle.sql_tables.proofs.layout.are_same.Goals as goal

pub returns-then-lists-declared : goal.returns-then-lists-declared
returns-then-lists-declared c =
    alike (λ (places list : List ℕ). bytes_eq list places) places_by c.all.result c.args.lists.now c.args.declared.now c.if-lists-declared.true
    (cases_from_all c.all.new.self _ _ (λ p. bytes_eq p.0 (places_by p.1) ≡ true) (λ p. bytes_eq p.0 (places_by p.1) ≡ false) c.all.ensures.ran (YieldsList-from_zip (YieldsList-from_slice c.args.lists.now cc) (YieldsList-from_slice c.args.declared.now cc)) (λ x q k. search (rules)) (λ x q k. search (rules)))
