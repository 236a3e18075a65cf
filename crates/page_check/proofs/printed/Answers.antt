use Rattle.std.proofs.Common.{rules}
use Rattle.page_check.proofs.printed.Goals as goal

pub returns-in_ok-writeln-in-Err-BadLine : goal.returns-in_ok-writeln-in-Err-BadLine
returns-in_ok-writeln-in-Err-BadLine c = search rules

pub returns-in-Err-Failed : goal.returns-in-Err-Failed
returns-in-Err-Failed c = search rules
