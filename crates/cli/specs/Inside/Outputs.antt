-- For proofs alone. How the two outputs are stored.
use Rattle.std.specs.Prelude.{ℕ, List, Option, refl}
use Rattle.std.specs.Coded.{Coded, code_by, coded×, coded_ℕ, coded_list, coded_option}
use Rattle.cli.specs.Outputs.{Both, Output}

-- the code of one, made of that of its writer
abbrev pub output_code : {W : Type 0} → Coded W → Coded (Output W)
output_code {W} writer =
    code_by (W × (Option (List ℕ) × ℕ)) (coded× writer (coded× (coded_option (coded_list coded_ℕ)) coded_ℕ))
    (λ e. (e.writer, (e.written, e.failures))) (λ p. record { writer = p.0; written = p.1.0; failures = p.1.1 }) (λ _. refl)

-- the code of both
abbrev pub both_code : {O E : Type 0} → Coded O → Coded E → Coded (Both O E)
both_code {O} {E} out err =
    code_by (Output O × Output E) (coded× (output_code out) (output_code err)) (λ b. (b.out, b.err)) (λ p. record { out = p.0; err = p.1 }) (λ _. refl)
