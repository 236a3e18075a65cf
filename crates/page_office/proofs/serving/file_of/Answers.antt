use Rattle.std.proofs.Common.{ℕ, List, length, subst}
use Rattle.sqlite_disk.specs.Disk.{Torn}
use Rattle.sqlite_disk.specs.Memory.{memory_bytes}
use Rattle.page_office.proofs.Bytes.{written_alone}
use Rattle.page_office.proofs.serving.file_of.Goals as goal

pub returns-in-Ok-clause-bytes : goal.returns-in-Ok-clause-bytes
returns-in-Ok-clause-bytes c =
    written_alone c.args.bytes.now (memory_bytes c.write_at.new.self) c.in-Ok.ensures.written
    (subst (λ (old : List ℕ). Torn 0 (length c.args.bytes.now) old (memory_bytes c.write_at.new.self)) c.new-file.ensures.empty c.write_at.ensures.others)
