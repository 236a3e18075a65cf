use Rattle.std.proofs.Common.{◌≡◌, ◌++◌, flat_map, string_bytes, take}
use Rattle.args.proofs.Common.{IsSomeAnd, argument_by, found_of, rows_of}
use Rattle.args.specs.Reading.{after_comma, word_in}
use Rattle.args.specs.Table.{student}
use Rattle.args.proofs.reading.own_words.Given as goal

abbrev pub invariant-loop-choice : goal.invariant-loop-choice
invariant-loop-choice l = IsSomeAnd (word_in (rows_of (found_of l.fn.given)) student)
    (λ code. string_bytes l.words ≡ code ++ flat_map (λ a. after_comma (word_in (rows_of (found_of l.fn.given)) (argument_by a))) (take l.choice-index l.list))
