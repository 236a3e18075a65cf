use Rattle.std.proofs.Common.{Global, List, Ok, String, arith, inr, map, refl, rules, string_bytes, subst}
use Rattle.cli.specs.Databases.{WordsAt}
use Rattle.std.proofs.lemmas.List.{length-map}
use Rattle.cli.proofs.program.run_program.Goals as goal

-- the stream broke off
pub returns : goal.returns
returns g c =
    let same = length-map c.in-Ok.words.items string_bytes in
    record {
      done = (
        Ok (map string_bytes c.in-Ok.words.items),
        c.in-Ok.ensures,
        ((λ many. absurd (omega (arith, same, many, c.len.ensures, c.if-len-gt1.false))), λ few. record { stream = inr (rw (← c.outputs.view_is) (c.if-serve_anew.ensures.broken refl), refl); silent = search rules; no_file = refl }),
      );
    }

-- a line was done
pub returns-then-len-gt1 : goal.returns-then-len-gt1
returns-then-len-gt1 g c =
    let same = length-map c.in-Ok.words.items string_bytes in
    record {
      done = (
        Ok (map string_bytes c.in-Ok.words.items),
        c.in-Ok.ensures,
        (
          (λ many. (
            refl,
            subst (λ (l : List (String Global)). WordsAt (g.W.World.state c.args.world) (map string_bytes l) c.run_command.result.1 c.args.outputs.now c.run_command.new.outputs c.run_command.result.0) c.deref.ensures.value c.run_command.ensures.file,
          )),
          λ few. absurd (omega (arith, same, few, c.len.ensures, c.if-len-gt1.true)),
        ),
      );
    }
