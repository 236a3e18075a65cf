use Rattle.std.proofs.Common.{◌≡◌, ◌∙◌, List, Some, ap, option_map, sym}
use Rattle.args.proofs.Common.{Row, Text, found_of, rows_of, subcommand_rows_of, AreGiven}
use Rattle.args.proofs.Subcommands.{map_twice, used_has}
use Rattle.args.proofs.reading.line_in.Goals as goal

pub line_of-requires : goal.line_of-requires
line_of-requires c =
    let name : Text = c.unwrap.result.0.now in
    let rows : List Row = rows_of (found_of c.unwrap.result.1.now) in
    let a : option_map (λ p. p.0) (subcommand_rows_of c.args.matches.now) ≡ Some name = map_twice _ _ _ ∙ sym c.subcommand.ensures.name ∙ ap (option_map (λ p. p.0.now)) c.unwrap.ensures in
    let b : option_map (λ p. p.1) (subcommand_rows_of c.args.matches.now) ≡ Some rows = sym c.subcommand.ensures.rows ∙ ap (option_map (λ p. rows_of (found_of p.1.now))) c.unwrap.ensures in
    used_has AreGiven (subcommand_rows_of c.args.matches.now) name rows a b c.requires
