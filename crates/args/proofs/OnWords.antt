-- What some words that are written out stand for.
use Rattle.std.proofs.Common.{◌≡◌, ◌∙◌, ap, refl, subst, sym, List, [], ◌∷◌, Option, Some, Result, Ok, Err, MatchResult, String, codes, string_bytes, true, false}
use Rattle.std.specs.Prelude.{IsSomeAnd}
use Rattle.std.specs.Str.{bytes_eq}
use Rattle.std.specs.declared.alloc.Global.{Global}
use Rattle.clap.proofs.OnLiterals.{clap_on_literals}
use Rattle.clap.specs.Words.{Row, Text, first_of, subcommand_of, takes}
use Rattle.args.specs.Program.{program}
use Rattle.args.specs.Reading.{IsAnswer, IsLineOf}
use Rattle.args.specs.declared.line.Line.{Line}
use Rattle.args.specs.declared.line.Line.TheVariants as line
use Rattle.args.specs.declared.line.LineFault.{LineFault}
use Rattle.args.specs.declared.line.LineFault.TheVariants.{Memory}
use Rattle.args.specs.declared.program.Kinds.{Kinds}

abbrev solving : List Text
solving = codes "spadesk" ∷ codes "solve" ∷ codes "round.txt" ∷ []

is_taken : (kinds : Kinds) → takes (program kinds) solving ≡ true
unfolding clap_on_literals
is_taken kinds = refl

is_read : (kinds : Kinds) → (rows : List Row) × (subcommand_of (program kinds) solving ≡ Some (codes "solve", rows)) × (first_of (codes "FILE") rows ≡ Some (codes "round.txt"))
unfolding clap_on_literals
is_read kinds = (_, refl, refl)

-- another name is none of this line
other : {A : Type 0} (name : Text) → bytes_eq (codes "solve") name ≡ false → codes "solve" ≡ name → A
other name differs same = let bad : true ≡ false = ap (bytes_eq (codes "solve")) same ∙ differs in absurd (cc)

some_is : {X : Type 0} (a b : X) → Some a ≡ Some b → a ≡ b
some_is a b same = cc

named : (rows : List Row) (l : Line) → first_of (codes "FILE") rows ≡ Some (codes "round.txt") → IsLineOf (codes "solve") rows l → (file : String Global) × (l ≡ line.Solve file) × (string_bytes file ≡ codes "round.txt")
named rows (line.Solve file) first is = (file, refl, some_is _ _ (sym is.1 ∙ first))
named rows (line.Serve database port count) first is = other (codes "serve") refl is.0
named rows (line.Import database kind id file) first is = other (codes "import") refl is.0
named rows (line.OpenRound database aim) first is = other (codes "open-round") refl is.0
named rows (line.ReopenRound database) first is = other (codes "reopen-round") refl is.0
named rows (line.CloseRound database) first is = other (codes "close-round") refl is.0
named rows (line.Report database kind round) first is = other (codes "report") refl is.0
named rows (line.Check file) first is = other (codes "check") refl is.0
named rows (line.Publish file) first is = other (codes "publish") refl is.0
named rows (line.CheckOwn file own) first is = other (codes "check-own") refl is.0

-- `spadesk solve round.txt` is the line that solves this file, where memory does not run out
pub solves_round : (result : Result Line LineFault) → IsAnswer solving result
    → MatchResult result (λ l. (file : String Global) × (l ≡ line.Solve file) × (string_bytes file ≡ codes "round.txt")) (λ fault. fault ≡ Memory)
solves_round (Err fault) is = is.reading.taken (is_taken is.kinds)
solves_round (Ok l) is =
    let read = is_read is.kinds in
    named read.0 l read.2 (subst (λ (found : Option (Text × List Row)). IsSomeAnd found (λ s. IsLineOf s.0 s.1 l)) read.1 is.reading.line)
