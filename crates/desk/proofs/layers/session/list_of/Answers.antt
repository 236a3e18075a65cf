use Rattle.std.proofs.Common.{◌≡◌, ℕ, ◌<◌, List, length, map, Some, IfOk, All, Contains, sym, ap, subst, ◌∙◌}
use Rattle.desk.proofs.layers.Common.{option_copied, code_at, Project, State, last_round, list_of}
use Rattle.desk.proofs.layers.Positions.{listed_known, ranked}
use Rattle.desk.proofs.layers.session.list_of.Goals as goal

pub positions_of-requires : goal.positions_of-requires
positions_of-requires c =
    let o : State = c.args.office.now in
    let found : list_of o (last_round o) c.args.student.now ≡ Some c.in-Some.listed.now = ap (λ (n : ℕ). list_of o n c.args.student.now) (sym c.last_round.ensures) ∙ sym c.list_of.ensures ∙ ap option_copied c.in-Some.is in
    record {
      known = subst (λ (ps : List Project). All (Contains (map (λ p. p.code) ps)) c.as_slice.result.now) (sym c.projects.ensures.all)
          (subst (λ (cs : List (List ℕ)). All (Contains (map (λ (p : Project). p.code) o.projects)) cs) (sym c.as_slice.ensures) (listed_known o c.projects.ensures.fit c.args.student.now c.in-Some.listed.now found));
    }

pub returns : goal.returns
returns c =
    let o : State = c.args.office.now in
    let found : list_of o (last_round o) c.args.student.now ≡ Some c.in-Some.listed.now = ap (λ (n : ℕ). list_of o n c.args.student.now) (sym c.last_round.ensures) ∙ sym c.list_of.ensures ∙ ap option_copied c.in-Some.is in
    record {
      ranking = ranked o c.projects.ensures.fit c.args.student.now c.in-Some.listed.now found c.positions_of.result
          (subst (λ (ps : List Project). IfOk c.positions_of.result (λ v. All (λ p. p < length ps) v.items)) c.projects.ensures.all c.positions_of.ensures.known)
          (subst (λ (cs : List (List ℕ)). IfOk c.positions_of.result (λ v. map (code_at (map (λ (p : Project). p.code) o.projects)) v.items ≡ cs)) c.as_slice.ensures
          (subst (λ (ps : List Project). IfOk c.positions_of.result (λ v. map (code_at (map (λ p. p.code) ps)) v.items ≡ c.as_slice.result.now)) c.projects.ensures.all c.positions_of.ensures.named));
      fit = c.projects.ensures.fit;
    }
