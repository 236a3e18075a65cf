-- For proofs alone. The lines of the program, each described once.
use Rattle.std.specs.Prelude.{map}
use Rattle.args.specs.declared.table.Argument.{Argument as GivenArgument}
use Rattle.args.specs.declared.table.Described.{Described as GivenRow}
use Rattle.args.specs.Table.{Argument, DeclaredLine}

-- what the program says of an argument
abbrev pub argument_by : GivenArgument → Argument
argument_by given = record { name = given.name.now; takes = given.takes; needed = given.needed }

-- and of a line
abbrev pub told_by : GivenRow → DeclaredLine
told_by given = record { name = given.name.now; arguments = map argument_by given.arguments.now }
