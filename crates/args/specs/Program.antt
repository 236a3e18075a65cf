-- The command by which `clap` reads the words.
use Rattle.std.specs.Prelude.{◌≡◌, Some, codes, fold, map, true}
use Rattle.spa.specs.Aims.{aims, aim_word}
use Rattle.office_model.specs.Kinds.{word_of}
use Rattle.clap.specs.Words.{App, Rule, new_app, new_rule, with_rule, with_subcommand}
use Rattle.clap.specs.declared.builder.value_parser.ValueParser.{ValueParser}
use Rattle.clap.specs.declared.builder.value_parser.ValueParser.TheVariants.{Names, String, Unsigned}
use Rattle.args.specs.Kinds.{import_kinds, report_kinds, report_word}
use Rattle.args.specs.Table.{Argument, DeclaredLine, lines}
use Rattle.args.specs.declared.program.Kinds.{Kinds}
use Rattle.args.specs.declared.table.Takes.{Takes}
use Rattle.args.specs.declared.table.Takes.TheVariants.{Word, Number, ImportKind, ReportKind, Aim}

-- the words that are lent to `clap` are those of the kinds
pub record AreWords (kinds : Kinds) : Type 0 where
  pub imports : map (λ w. w.now) kinds.imports.now ≡ map word_of import_kinds
  pub reports : map (λ w. w.now) kinds.reports.now ≡ map report_word report_kinds
  pub aims : map (λ w. w.now) kinds.aims.now ≡ map aim_word aims

-- what is asked of a word
abbrev pub parser_of : Kinds → Takes → ValueParser
parser_of kinds Word = String
parser_of kinds (Number least most) = Unsigned least most
parser_of kinds ImportKind = Names kinds.imports
parser_of kinds ReportKind = Names kinds.reports
parser_of kinds Aim = Names kinds.aims

-- an argument
abbrev pub rule_by : Kinds → Argument → Rule
rule_by kinds argument = record (new_rule argument.name) { parser = Some (parser_of kinds argument.takes); required = argument.needed }

-- a command with one more argument
abbrev pub with_argument : Kinds → App → Argument → App
with_argument kinds app argument = with_rule app (rule_by kinds argument)

-- a line as a command of its own
abbrev pub line_app : Kinds → DeclaredLine → App
line_app kinds declarations = fold (with_argument kinds) (new_app declarations.name) declarations.arguments

-- a command with one more line as a subcommand
abbrev pub with_line : Kinds → App → DeclaredLine → App
with_line kinds app declarations = with_subcommand app (line_app kinds declarations).top

-- the program's name; it has a version, and a subcommand must be given
abbrev pub program_name : App
program_name = let app : App = new_app (codes "spadesk") in record app { top = record (app.top) { has_version = true; subcommand_required = true } }

-- the program
abbrev pub program : Kinds → App
program kinds = fold (with_line kinds) program_name lines
