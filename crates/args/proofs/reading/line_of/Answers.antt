use Rattle.std.proofs.Common.{◌≡◌, ◌≢◌, Bool, List, [], ◌∷◌, Some, cond, false, find, refl, sym, true}
use Rattle.args.proofs.Common.{IsSomeAnd, bytes_eq, bytes_eq-Decides, Text, Each, DeclaredLine, lines}
use Rattle.args.proofs.reading.line_of.Goals as goal

-- no line is found by a name that none has
none_named : (P : DeclaredLine → Type 0) (name : Text) (declarations : List DeclaredLine) → Each (λ line. name ≢ line.name) declarations → IsSomeAnd (find (λ line. bytes_eq line.name name) declarations) P → ⊥
none_named P name [] others h = h
none_named P name (line ∷ declarations) others h = go (bytes_eq line.name name) refl (none_named P name declarations others.1) h
  where
    go : (b : Bool) → bytes_eq line.name name ≡ b → (IsSomeAnd (find (λ line. bytes_eq line.name name) declarations) P → ⊥)
        → IsSomeAnd (cond b (Some line) (find (λ line. bytes_eq line.name name) declarations)) P → ⊥
    go true is none h = others.0 (sym ((bytes_eq-Decides line.name name).0 is))
    go false is none h = none h

pub unreachable-requires : goal.unreachable-requires
unreachable-requires c =
    let d = c.in_default in
    none_named _ c.args.name.now lines (d.not-serve, (d.not-import, (d.not-text, (d.not-text-2, (d.not-text-3, (d.not-report, (d.not-solve, (d.not-check, (d.not-publish, (d.not-text-4, tt)))))))))) c.requires

-- These are searched for slowly where they do not hold, so they are given.
pub returns-in_ok-text-in-text-2 : goal.returns-in_ok-text-in-text-2
returns-in_ok-text-in-text-2 c = (c.in-text-2.is, c.in_ok-text-in-text-2.ensures)

pub returns-in_ok-text-in-solve : goal.returns-in_ok-text-in-solve
returns-in_ok-text-in-solve c = (c.in-solve.is, c.in_ok-text-in-solve.ensures)
