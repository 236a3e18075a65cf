use Rattle.std.proofs.Common.{refl}
use Rattle.sqlite_disk.specs.Memory.{memory_bytes}
use Rattle.page_office.proofs.Served.{damaged_file, if_err, if_ok, served_over}
use Rattle.page_office.proofs.serving.serve_file.Goals as goal

pub returns-clause-served : goal.returns-clause-served
returns-clause-served c =
    if_ok c.serve_files.result c.serve_files.ensures.served (λ r it. served_over it memory_bytes (λ _. refl) (λ _. refl) c.args.file.now c.new.ensures.empty c.in-Ok.ensures.bytes)

pub returns-clause-damaged : goal.returns-clause-damaged
returns-clause-damaged c =
    if_err c.serve_files.result c.serve_files.ensures.damaged (λ r it is. damaged_file (it is) memory_bytes (λ _. refl) (λ _. refl) c.args.file.now c.new.ensures.empty c.in-Ok.ensures.bytes)
