use Rattle.std.proofs.Common.{◌≡◌, ◌≤◌, ◌+◌, ◌*◌, ◌++◌, drop}
use Rattle.arrayvec.specs.ArrayVec.{array_vec_len}
use Rattle.cli.proofs.Common.{counts_text}
use Rattle.cli.proofs.texts.push_counts.Given as goal

abbrev pub invariant-loop-count : goal.invariant-loop-count
invariant-loop-count l = record {
  items : l.out.items ++ counts_text (drop l.count-index l.counts) ≡ l.fn.out.items ++ counts_text l.counts;
  len : array_vec_len l.out ≤ array_vec_len l.fn.out + 11 * l.count-index;
}
