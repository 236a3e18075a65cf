use Rattle.std.proofs.Common.{ℕ, ◌+◌, ◌∙◌, List, [], ◌∷◌, ◌++◌, codes, ap, subst}
use Rattle.cli.proofs.Common.{Appends}
use Rattle.cli.specs.Outputs.{IsCut}
use Rattle.web.proofs.OneConnection.{at_fault}
use Rattle.cli.proofs.Writers.{both_err, cut_first, cut_later}
use Rattle.cli.proofs.printing.write_new.Goals as goal

pub returns-in_err-write_all-clause-err : goal.returns-in_err-write_all-clause-err
returns-in_err-write_all-clause-err g c =
    at_fault c.from_residual.result (c.in_err-write_all.ensures.count_err, cut_first _ _ (codes "new ") (c.args.name.now ++ 10 ∷ []) c.in_err-write_all.ensures.err)

pub returns-in_err-write_all-2-clause-err : goal.returns-in_err-write_all-2-clause-err
returns-in_err-write_all-2-clause-err g c =
    let first = g.W.Sink.written c.write_all.new.writer in
    let cut = subst (λ (t : List ℕ). IsCut t first (g.W.Sink.written c.write_all-2.new.writer)) c.as_bytes.ensures.value c.in_err-write_all-2.ensures.err in
    at_fault c.from_residual-in_err-write_all-2.result (
      c.in_err-write_all-2.ensures.count_err ∙ ap (λ n. n + 1) c.in_ok-write_all.ensures.count_ok,
      cut_later _ _ _ (codes "new ") (c.args.name.now ++ 10 ∷ []) c.in_ok-write_all.ensures.ok (cut_first _ _ c.args.name.now (10 ∷ []) cut),
    )

pub returns-clause-err : goal.returns-clause-err
returns-clause-err g c =
    let first = g.W.Sink.written c.write_all.new.writer in
    let named = subst (λ (t : List ℕ). Appends first (g.W.Sink.written c.write_all-2.new.writer) t) c.as_bytes.ensures.value c.in_ok-write_all-2.ensures.ok in
    both_err c.write_all-3.result c.write_all-3.ensures.count_err c.write_all-3.ensures.err
    (λ more cut. (
      more ∙ ap (λ n. n + 1) (c.in_ok-write_all-2.ensures.count_ok ∙ c.in_ok-write_all.ensures.count_ok),
      cut_later _ _ _ (codes "new ") (c.args.name.now ++ 10 ∷ []) c.in_ok-write_all.ensures.ok (cut_later _ _ _ c.args.name.now (10 ∷ []) named cut),
    ))
