use Rattle.std.proofs.Common.{◌≢◌, ℕ, ◌<◌, List, [], ◌∷◌, Contains, length, map, get_or, sym, ◌∙◌, arith}
use Rattle.desk.proofs.layers.Common.{get_or-map, length-map, bytes_eq-Decides, Project}
use Rattle.desk.proofs.layers.session.position_of.Goals as goal

pub returns-then-eq-clause-named : goal.returns-then-eq-clause-named
returns-then-eq-clause-named c =
    let same = (bytes_eq-Decides c.as_str.result.now c.as_str-in-loop-position.result.now).0 (sym c.eq.ensures ∙ c.if-eq.true) in
    get_or-map (λ (p : Project). p.code) c.args.projects.now c.loop-position.position c.index-projects-position.result [] c.loop-position-test.true
    ∙ sym c.as_str.ensures.value ∙ same ∙ c.as_str-in-loop-position.ensures.value

-- one of the projects has the code
none_has : (projects : List Project) (code : List ℕ) → Contains (map (λ p. p.code) projects) code → ((k : ℕ) (d : Project) → k < length projects → (get_or projects k d).code ≢ code) → ⊥
none_has [] code has none = absurd (omega (arith, has.1))
none_has (p ∷ projects) code has none =
    let within : has.0 < length (p ∷ projects) = omega (arith, has.1, length-map (p ∷ projects) (λ (p : Project). p.code)) in
    none has.0 p within (sym (get_or-map (λ (p : Project). p.code) (p ∷ projects) has.0 p code within) ∙ has.2)

pub unreachable-requires : goal.unreachable-requires
unreachable-requires c =
    let past = c.loop-position-test.false in
    none_has c.args.projects.now c.args.code.now c.requires.known (λ k d l. c.loop-position.invariant k d (omega (arith, past, l)))
