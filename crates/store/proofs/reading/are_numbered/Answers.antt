use Rattle.store.proofs.Common.{nat_tests, ◌≡◌, ◌∙◌, number_of, sym, arith}
use Rattle.store.proofs.ReadRows.{is_numbered}
use Rattle.store.proofs.reading.are_numbered.Goals.{then-column_count-eq3, else-column_count-eq3}
use Rattle.store.proofs.reading.are_numbered.Goals as goal

pub returns-then-is_number-clause-right : goal.returns-then-is_number-clause-right
returns-then-is_number-clause-right c h =
    elim c.if-column_count-eq3.branch [
      | then-column_count-eq3 w ↦
          let three : c.column_count.result ≡ 3 = omega arith in
          let asked_first = w.is_number.ensures.right (sym w.value-is ∙ c.if-is_number.true) in
          let asked_last = c.is_number-then-is_number.ensures.right h in
          is_numbered (number_of c.args.edition) _ c.cells-item.result (omega arith) c.cells-item.is (sym c.column_count.ensures ∙ three) (cc) (cc)
      | else-column_count-eq3 w ↦ absurd (grind (arith, nat_tests, sym c.if-is_number.true ∙ w.value-is))
    ]
