use Rattle.std.proofs.Common.{ap, subst, rules, refl, Ok, Err, map, string_bytes, ◌∙◌}
use Rattle.cli.proofs.Common.{IsAnswer, LineFault, prints, prints_err, Usage}
use Rattle.args.specs.declared.line.LineFault.TheVariants.{Memory, Help, Version, Fault}
use Rattle.cli.proofs.Writers.{prints_more}
use Rattle.cli.proofs.run.run_command.Goals as goal

pub returns-in-Ok : goal.returns-in-Ok
returns-in-Ok g c = record { file = (Ok c.in-Ok.line, c.in-Ok.ensures, c.run_line.ensures) }

pub returns-in-Err-Memory : goal.returns-in-Err-Memory
returns-in-Err-Memory g c = record { file = (Err Memory, subst (λ (f : LineFault). IsAnswer (map string_bytes c.args.words.now) (Err f)) (search rules) c.in-Err-Memory.ensures, (refl, c.refuse.ensures)) }

pub returns-in-Err-Help : goal.returns-in-Err-Help
returns-in-Err-Help g c = record {
  file = (
    Err (Help c.in-Err-Help.text),
    subst (λ (f : LineFault). IsAnswer (map string_bytes c.args.words.now) (Err f)) (search rules) c.in-Err-Help.ensures,
    (refl, prints_more _ _ (λ o is. is ∙ ap prints (search rules)) _ _ _ c.print.ensures),
  );
}

pub returns-in-Err-Version : goal.returns-in-Err-Version
returns-in-Err-Version g c = record {
  file = (
    Err (Version c.in-Err-Version.text),
    subst (λ (f : LineFault). IsAnswer (map string_bytes c.args.words.now) (Err f)) (search rules) c.in-Err-Version.ensures,
    (refl, prints_more _ _ (λ o is. is ∙ ap prints (search rules)) _ _ _ c.print-in-Err-Version.ensures),
  );
}

pub returns : goal.returns
returns g c = record {
  file = (
    Err (Fault c.in-Err-Fault.text),
    subst (λ (f : LineFault). IsAnswer (map string_bytes c.args.words.now) (Err f)) (search rules) c.in-Err-Fault.ensures,
    (refl, prints_more _ _ (λ o is. is ∙ ap (prints_err Usage) (search rules)) _ _ _ c.print_err.ensures),
  );
}
