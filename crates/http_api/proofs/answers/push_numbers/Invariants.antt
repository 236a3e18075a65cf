-- What is written, then the text of the numbers that are left, is the text of all.
use Rattle.std.proofs.Common.{◌≡◌, ◌≤◌, ◌+◌, ◌*◌, ◌++◌, Bool, drop, map}
use Rattle.arrayvec.specs.ArrayVec.{array_vec_len}
use Rattle.http_api.proofs.Common.{number, unsigned, items_of, comma_if, items_text, numbers_text}
use Rattle.http_api.proofs.answers.push_numbers.Given as goal

abbrev pub invariant-loop-number : goal.invariant-loop-number
invariant-loop-number l = (later : Bool) × (l.comma ≡ comma_if later)
    × (l.out.items ++ items_text later (items_of (map (λ n. number (unsigned n)) (drop l.number-index l.counts))) ≡ l.fn.out.items ++ numbers_text l.counts)
    × (array_vec_len l.out ≤ array_vec_len l.fn.out + 11 * l.number-index)
