use Rattle.std.proofs.Common.{◌≡◌, ◌++◌, ◌∙◌, List, flat_map, take, string_bytes, ap, arith}
use Rattle.args.proofs.Common.{Argument, Row, Text, argument_by, choices, found_of, rows_of, student, word_in}
use Rattle.args.specs.Reading.{after_comma, own_words}
use Rattle.args.proofs.Own.{of_word, pieces_all}
use Rattle.args.proofs.reading.own_words.Goals as goal

pub returns : goal.returns
returns c =
    let rows : List Row = rows_of (found_of c.args.given.now) in
    let words : Text = string_bytes c.loop-choice.words in
    of_word (word_in rows student) (λ code. words ≡ code ++ flat_map (λ a. after_comma (word_in rows (argument_by a))) (take c.loop-choice.choice-index c.choices-list.result.now)) (λ code. words ≡ own_words rows code)
    (λ code h. h ∙ ap (λ (l : Text). code ++ l) (pieces_all (λ (a : Argument). after_comma (word_in rows a)) argument_by c.choices-list.result.now choices c.loop-choice.choice-index (omega arith) c.choices-list.ensures))
    c.loop-choice.invariant
