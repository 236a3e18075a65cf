use Rattle.std.proofs.Common.{◌≡◌, ◌∙◌, List, [], Err, Option, ap, map, string_bytes, subst, sym, true}
use Rattle.args.proofs.Common.{IsSomeAnd, App, HasMatchesOf, Row, Text, app_of, fault_of, is_simple_and_free, kind_of, subcommand_of, subcommand_rows_of, program, AreGiven, IsLineOf, ReadsLine, Kinds}
use Rattle.clap.specs.declared.parser.matches.ArgMatches.{ArgMatches}
use Rattle.args.proofs.Faults.{is_fault, is_memory}
use Rattle.args.proofs.Simple.{both_left, program_is_simple}
use Rattle.args.proofs.Values.{values_given}
use Rattle.args.proofs.reading.answer.Goals as goal

is_free : (kinds : Kinds) (app : App) → app ≡ program kinds → is_simple_and_free app ≡ true
is_free kinds app is = subst (λ (a : App). is_simple_and_free a ≡ true) (sym is) (program_is_simple kinds)

-- what a parse found is what `clap` reads in the words, in which it finds no fault
read : (kinds : Kinds) (app : App) (words : List Text) (matches : ArgMatches) → app ≡ program kinds → HasMatchesOf app words matches
    → (is_simple_and_free app ≡ true → fault_of app words ≡ []) → (subcommand_rows_of matches ≡ subcommand_of (program kinds) words) × (fault_of (program kinds) words ≡ [])
read kinds app words matches is found none =
    let free = is_free kinds app is in
    ((found (both_left _ _ free)).1 ∙ ap (λ (a : App). subcommand_of a words) is, subst (λ (a : App). fault_of a words ≡ []) is (none free))

pub line_in-requires : goal.line_in-requires
line_in-requires c =
    let words : List Text = map string_bytes c.args.words.now in
    let r = read c.args.kinds (app_of c.in_ok-program.field-0) words c.in-Ok.matches c.in_ok-program.ensures c.in-Ok.ensures.matches c.in-Ok.ensures.kinds in
    subst (λ (s : Option (Text × List Row)). IsSomeAnd s (λ p. AreGiven p.0 p.1)) (sym r.0) (values_given c.args.kinds c.requires words r.1)

pub returns-in_ok-line_in-in-Ok : goal.returns-in_ok-line_in-in-Ok
returns-in_ok-line_in-in-Ok c =
    let words : List Text = map string_bytes c.args.words.now in
    let r = read c.args.kinds (app_of c.in_ok-program.field-0) words c.in-Ok.matches c.in_ok-program.ensures c.in-Ok.ensures.matches c.in-Ok.ensures.kinds in
    let line = subst (λ (s : Option (Text × List Row)). IsSomeAnd s (λ p. IsLineOf p.0 p.1 c.in_ok-line_in-in-Ok.field-0)) r.0 c.in_ok-line_in-in-Ok.ensures in
    record {
      kinds = c.args.kinds;
      are_words = c.requires;
      reading = record { line = line; faultless = r.1; fault = tt; taken = λ t. tt };
      given = values_given c.args.kinds c.requires words r.1;
    }

pub returns-in-Err : goal.returns-in-Err
returns-in-Err c =
    let words : List Text = map string_bytes c.args.words.now in
    let app : App = app_of c.in_ok-program.field-0 in
    let reading : ReadsLine app words (Err c.fault_by.result) = record {
      line = tt;
      faultless = tt;
      fault = is_fault _ (kind_of c.in-Err.error) c.fault_by.result (c.in-Err.ensures.kinds (is_free c.args.kinds app c.in_ok-program.ensures)) c.fault_by.ensures;
      taken = λ t. is_memory (kind_of c.in-Err.error) c.fault_by.result (c.in-Err.ensures.passes t) c.fault_by.ensures;
    } in
    record {
      kinds = c.args.kinds;
      are_words = c.requires;
      reading = subst (λ (a : App). ReadsLine a words (Err c.fault_by.result)) c.in_ok-program.ensures reading;
      given = tt;
    }
