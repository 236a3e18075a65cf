use Rattle.office.proofs.Common.{AllByRecursion, option_copied, take_more, drop_more, has_project, project_key, Key, found_key, ◌++◌, [], ◌∷◌, IsTrue, take, sym, ap, subst, ◌∙◌}
use Rattle.office.proofs.office.Office.codes_of.Goals as goal

pub loop-text-preserved : goal.loop-text-preserved
loop-text-preserved c =
    let i = c.loop-text.text-index in
    let texts = c.args.texts.now in
    let known = subst (AllByRecursion (λ p. IsTrue (has_project c.args.self.now p))) (drop_more texts i c.text-item.result c.loop-text-test.true) c.loop-text.invariant.1 in
    let found = sym c.by_code.ensures ∙ ap option_copied c.unwrap-project.ensures in
    let code = c.copy.ensures ∙ sym (ap (λ (k : Key). k.1) (found_key project_key (0, c.as_str.result.now) c.self.inside.projects c.unwrap-project.result.now found)) ∙ c.as_str.ensures ∙ c.text-item.is in
    (c.in_ok-push.ensures.items ∙ ap (λ es. es ++ c.copy.result ∷ []) c.loop-text.invariant.0 ∙ ap (λ e. take i texts ++ e ∷ []) code ∙ sym (take_more texts i c.text-item.result c.loop-text-test.true), known.1)
