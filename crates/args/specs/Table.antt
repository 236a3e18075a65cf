-- The lines of the program, each described once.
use Rattle.std.specs.Prelude.{Bool, true, false, List, [], ◌∷◌, codes}
use Rattle.clap.specs.Words.{Text}
use Rattle.args.specs.declared.table.Takes.{Takes}
use Rattle.args.specs.declared.table.Takes.TheVariants.{Word, Number, ImportKind, ReportKind, Aim}

-- an argument: its name, what its word may be, and whether it must be given
pub record Argument : Type 0 where
  pub name : Text
  pub takes : Takes
  pub needed : Bool

-- one that must be given
abbrev pub needs : Text → Takes → Argument
needs name takes = record { name = name; takes = takes; needed = true }

-- a line: its name, and its arguments in order
pub record DeclaredLine : Type 0 where
  pub name : Text
  pub arguments : List Argument

-- the file of a database
abbrev pub database : Argument
database = needs (codes "DATABASE") Word

-- a port
abbrev pub port : Argument
port = needs (codes "PORT") (Number 1 65535)

-- how many connections are served
abbrev pub count : Argument
count = needs (codes "COUNT") (Number 1 1000000)

-- a kind of imports
abbrev pub import_kind : Argument
import_kind = needs (codes "KIND") ImportKind

-- the id of an import
abbrev pub id : Argument
id = needs (codes "ID") Word

-- a file that is read
abbrev pub file : Argument
file = needs (codes "FILE") Word

-- a kind of reports
abbrev pub report_kind : Argument
report_kind = needs (codes "KIND") ReportKind

-- the number of a round
abbrev pub round : Argument
round = needs (codes "ROUND") (Number 0 9999)

-- how an opened round is closed, which may be left out
abbrev pub aim : Argument
aim = record { name = codes "AIM"; takes = Aim; needed = false }

-- a student's code
abbrev pub student : Argument
student = needs (codes "STUDENT") Word

-- a place of a list that may be left out
abbrev pub further : Text → Argument
further name = record { name = name; takes = Word; needed = false }

-- the places of a list
abbrev pub choices : List Argument
choices =
    needs (codes "P1") Word
    ∷ further (codes "P2")
    ∷ further (codes "P3")
    ∷ further (codes "P4")
    ∷ further (codes "P5")
    ∷ further (codes "P6")
    ∷ further (codes "P7")
    ∷ further (codes "P8")
    ∷ further (codes "P9")
    ∷ further (codes "P10")
    ∷ further (codes "P11")
    ∷ further (codes "P12")
    ∷ []

-- a line of this name with these arguments
abbrev pub declared_line : Text → List Argument → DeclaredLine
declared_line name arguments = record { name = name; arguments = arguments }

-- the lines
abbrev pub lines : List DeclaredLine
lines =
    declared_line (codes "serve") (database ∷ port ∷ count ∷ [])
    ∷ declared_line (codes "import") (database ∷ import_kind ∷ id ∷ file ∷ [])
    ∷ declared_line (codes "open-round") (database ∷ aim ∷ [])
    ∷ declared_line (codes "reopen-round") (database ∷ [])
    ∷ declared_line (codes "close-round") (database ∷ [])
    ∷ declared_line (codes "report") (database ∷ report_kind ∷ round ∷ [])
    ∷ declared_line (codes "solve") (file ∷ [])
    ∷ declared_line (codes "check") (file ∷ [])
    ∷ declared_line (codes "publish") (file ∷ [])
    ∷ declared_line (codes "check-own") (file ∷ student ∷ choices)
    ∷ []
