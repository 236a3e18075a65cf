use Rattle.std.proofs.Common.{◌≡◌, ◌<◌, ◌^◌, ◌+◌, ◌*◌, ◌-◌, drop}
use Rattle.std.specs.List.{fold}
use Rattle.import_csv.specs.Fields.{number_of}
use Rattle.import_csv.proofs.fields.number_of.Given as goal

abbrev pub invariant-loop-digit : goal.invariant-loop-digit
invariant-loop-digit l = record {
  value : fold (λ number digit. 10 * number + (digit - 48)) l.number (drop l.digit-index l.digits) ≡ number_of l.digits;
  small : l.number < 10 ^ l.digit-index;
}
