use Rattle.std.proofs.Common.{◌≡◌, ℕ, ◌<◌, Bool, List, length, map, get_or, Contains, rules, sym, ap, subst, ◌∙◌, arith}
use Rattle.std.specs.List.{Any}
use Rattle.intake.proofs.Common.{Bor, IsTrue, get_or-map, get_or_default, length-map}
use Rattle.intake.specs.Public.{TellsStudent}
use Rattle.intake.proofs.Lists.{blank}
use Rattle.intake.proofs.read.is_public.Goals as goal

-- some line assigns something to a student, said of the lines as texts
told : (lines : List (Bor (List ℕ))) (r : Bool) → (IsTrue r → Any (λ l. TellsStudent l.now) lines) × (Any (λ l. TellsStudent l.now) lines → IsTrue r)
    → (IsTrue r → (l : List ℕ) × Contains (map (λ l. l.now) lines) l × TellsStudent l) × ((l : List ℕ) × Contains (map (λ l. l.now) lines) l × TellsStudent l → IsTrue r)
told lines r any =
    let many = length-map lines (λ (l : Bor (List ℕ)). l.now) in (
      λ t. (let a = any.0 t in (a.1.now, (a.0, omega (arith, many, a.2), get_or-map (λ (l : Bor (List ℕ)). l.now) lines a.0 a.1 a.1.now a.2 ∙ ap (λ (l : Bor (List ℕ)). l.now) a.3), a.4)),
      λ t.
          let h : t.1.0 < length lines = omega (arith, many, t.1.1) in
          let line : Bor (List ℕ) = get_or lines t.1.0 blank in
          let is : t.0 ≡ line.now = sym t.1.2 ∙ get_or-map (λ (l : Bor (List ℕ)). l.now) lines t.1.0 blank t.0 h in
          any.1 (t.1.0, line, h, get_or_default lines t.1.0 line blank h, subst TellsStudent is t.2),
    )

pub returns : goal.returns
returns c =
    let lines : List (Bor (List ℕ)) = c.in_ok-lines.lines.items in
    let any : (IsTrue c.any.result → Any (λ (l : Bor (List ℕ)). TellsStudent l.now) lines) × (Any (λ (l : Bor (List ℕ)). TellsStudent l.now) lines → IsTrue c.any.result) = search rules in
    rw (sym c.in_ok-lines.ensures) (told lines c.any.result any)
