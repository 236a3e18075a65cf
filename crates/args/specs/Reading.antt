-- The line that words stand for, and the faults of words that are none.
use Rattle.std.specs.Prelude.{◌≡◌, ◌≢◌, ℕ, Bool, false, List, [], ◌∷◌, ◌++◌, flat_map, Option, None, Some, Result, IfErr, IfOk, IfSome, IsSomeAnd, codes, find, option_map, string_bytes, true}
use Rattle.std.specs.List.{list_any}
use Rattle.std.specs.Str.{bytes_eq}
use Rattle.std.specs.Str.Parse.{digits_value, without_leading_plus}
use Rattle.spa.specs.Aims.{aims, aim_word}
use Rattle.spa.specs.declared.aim.Aim.{Aim as AnAim}
use Rattle.spa.specs.declared.aim.Aim.TheVariants.{Greedy}
use Rattle.office_model.specs.Kinds.{word_of}
use Rattle.clap.specs.Words.{App, IsAmong, Row, Text, fault_of, first_of, subcommand_of, takes}
use Rattle.clap.specs.Words.{Kinds as ErrorKinds}
use Rattle.clap.specs.declared.error.kind.ErrorKind.{ErrorKind}
use Rattle.clap.specs.declared.error.kind.ErrorKind.TheVariants.{DisplayHelp, DisplayVersion}
use Rattle.clap.specs.ValueTests.{is_unsigned_in}
use Rattle.args.specs.Kinds.{import_kinds, report_kinds, report_word}
use Rattle.args.specs.Program.{AreWords, program}
use Rattle.args.specs.Table.{Argument, aim, count, database, file, id, import_kind, lines, port, report_kind, round, student, choices}
use Rattle.args.specs.declared.line.Line.{Line}
use Rattle.args.specs.declared.line.Line.TheVariants.{Serve, Import, OpenRound, ReopenRound, CloseRound, Report, Solve, Check, Publish, CheckOwn}
use Rattle.args.specs.declared.line.LineFault.{LineFault}
use Rattle.args.specs.declared.line.LineFault.TheVariants.{Memory, Help, Version, Fault}
use Rattle.args.specs.declared.program.Kinds.{Kinds}
use Rattle.args.specs.declared.table.Takes.{Takes}
use Rattle.args.specs.declared.table.Takes.TheVariants.{Word, Number, ImportKind, ReportKind, Aim}

-- the word that was read for an argument
abbrev pub word_in : List Row → Argument → Option Text
word_in rows argument = first_of argument.name rows

-- each item
abbrev pub Each : {X : Type 0} → (X → Type 0) → List X → Type 0
Each P [] = Unit {0}
Each P (x ∷ xs) = P x × Each P xs

-- whether a word may stand for an argument
abbrev pub fits : Takes → Text → Bool
fits Word word = true
fits (Number least most) word = is_unsigned_in least most word
fits ImportKind word = list_any (λ kind. bytes_eq (word_of kind) word) import_kinds
fits ReportKind word = list_any (λ kind. bytes_eq (report_word kind) word) report_kinds
fits Aim word = list_any (λ a. bytes_eq (aim_word a) word) aims

-- there is one that passes, or, where none is needed, none
abbrev pub HasOne : Bool → Option Text → (Text → Type 0) → Type 0
HasOne true o P = IsSomeAnd o P
HasOne false o P = IfSome o P

-- a word was read for the argument that may stand for it, or, where none is needed, none
abbrev pub IsGiven : List Row → Argument → Type 0
IsGiven rows argument = HasOne argument.needed (word_in rows argument) (λ word. fits argument.takes word ≡ true)

-- the aim of this word; without one it is greedy
abbrev pub IsAimOf : Option Text → AnAim → Type 0
IsAimOf None a = a ≡ Greedy
IsAimOf (Some word) a = word ≡ aim_word a

-- there is a line of this name, and each of its arguments is given
abbrev pub AreGiven : Text → List Row → Type 0
AreGiven name rows = IsSomeAnd (find (λ declarations. bytes_eq declarations.name name) lines) (λ declarations. Each (IsGiven rows) declarations.arguments)

-- the number that the digits of a word write, where a plus may stand first
abbrev pub number_of : Text → ℕ
number_of word = digits_value 10 (without_leading_plus word)

-- the number that was read for an argument
abbrev pub number_in : List Row → Argument → Option ℕ
number_in rows argument = option_map number_of (word_in rows argument)

-- a word after a comma, where one was read
abbrev pub after_comma : Option Text → Text
after_comma None = []
after_comma (Some word) = 44 ∷ word

-- the student's code, and each choice that was read after a comma
abbrev pub own_words : List Row → Text → Text
own_words rows code = code ++ flat_map (λ choice. after_comma (word_in rows choice)) choices

-- the line has this name, and these words and numbers are its values
abbrev pub IsLineOf : Text → List Row → Line → Type 0
IsLineOf name rows (Serve d p c) = (name ≡ codes "serve") × (word_in rows database ≡ Some (string_bytes d)) × (number_in rows port ≡ Some p) × (number_in rows count ≡ Some c)
IsLineOf name rows (Import d k i f) =
    (name ≡ codes "import") × (word_in rows database ≡ Some (string_bytes d)) × (word_in rows import_kind ≡ Some (word_of k))
    × (word_in rows id ≡ Some (string_bytes i)) × (word_in rows file ≡ Some (string_bytes f))
IsLineOf name rows (OpenRound d a) = (name ≡ codes "open-round") × (word_in rows database ≡ Some (string_bytes d)) × IsAimOf (word_in rows aim) a
IsLineOf name rows (ReopenRound d) = (name ≡ codes "reopen-round") × (word_in rows database ≡ Some (string_bytes d))
IsLineOf name rows (CloseRound d) = (name ≡ codes "close-round") × (word_in rows database ≡ Some (string_bytes d))
IsLineOf name rows (Report d k n) = (name ≡ codes "report") × (word_in rows database ≡ Some (string_bytes d)) × (word_in rows report_kind ≡ Some (report_word k)) × (number_in rows round ≡ Some n)
IsLineOf name rows (Solve f) = (name ≡ codes "solve") × (word_in rows file ≡ Some (string_bytes f))
IsLineOf name rows (Check f) = (name ≡ codes "check") × (word_in rows file ≡ Some (string_bytes f))
IsLineOf name rows (Publish f) = (name ≡ codes "publish") × (word_in rows file ≡ Some (string_bytes f))
IsLineOf name rows (CheckOwn f l) = (name ≡ codes "check-own") × (word_in rows file ≡ Some (string_bytes f)) × IsSomeAnd (word_in rows student) (λ code. string_bytes l ≡ own_words rows code)

-- `clap` fails by one of these kinds: help or the version is asked for, or else there is a fault
abbrev pub IsFaultOf : ErrorKinds → LineFault → Type 0
IsFaultOf kinds Memory = Unit {0}
IsFaultOf kinds (Help text) = IsAmong DisplayHelp kinds
IsFaultOf kinds (Version text) = IsAmong DisplayVersion kinds
IsFaultOf kinds (Fault text) = (kind : ErrorKind) × IsAmong kind kinds × (kind ≢ DisplayHelp) × (kind ≢ DisplayVersion)

-- a line is what `clap` reads in the words, and it takes them; a fault is one of its own
pub record ReadsLine (app : App) (words : List Text) (result : Result Line LineFault) : Type 0 where
  pub line : IfOk result (λ line. IsSomeAnd (subcommand_of app words) (λ s. IsLineOf s.0 s.1 line))
  pub faultless : IfOk result (λ line. fault_of app words ≡ [])
  pub fault : IfErr result (IsFaultOf (fault_of app words))
  pub taken : takes app words ≡ true → IfErr result (λ fault. fault ≡ Memory)

-- The words are read by the program's command. The words of kinds are lent to it; where they stand is left open.
pub record IsAnswer (words : List Text) (result : Result Line LineFault) : Type 0 where
  pub kinds : Kinds
  pub are_words : AreWords kinds
  pub reading : ReadsLine (program kinds) words result
  -- each argument of the line was given a word that may stand for it
  pub given : IfOk result (λ line. IsSomeAnd (subcommand_of (program kinds) words) (λ s. AreGiven s.0 s.1))
