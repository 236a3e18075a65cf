use Rattle.store.proofs.Common.{Text, Bytes, rules}
use Rattle.store.proofs.rows.cell_at.Goals as goal

pub returns-in_err-text-in-Text-Text-clause-memory : goal.returns-in_err-text-in-Text-Text-clause-memory
returns-in_err-text-in-Text-Text-clause-memory c h = (Text c.in-Ok-from_utf8.text.now, search rules, search rules, search rules)

pub returns-in_err-bytes-in-Bytes-Blob-clause-memory : goal.returns-in_err-bytes-in-Bytes-Blob-clause-memory
returns-in_err-bytes-in-Bytes-Blob-clause-memory c h = (Bytes c.in-Bytes-Blob.bytes.now, tt, search rules, search rules)

pub returns-in_err-new-in-Bytes-Blob-clause-memory : goal.returns-in_err-new-in-Bytes-Blob-clause-memory
returns-in_err-new-in-Bytes-Blob-clause-memory c h = (Bytes c.in-Bytes-Blob.bytes.now, tt, search rules, search rules)

pub returns-in_default-2-clause-memory : goal.returns-in_default-2-clause-memory
returns-in_default-2-clause-memory c = search rules
