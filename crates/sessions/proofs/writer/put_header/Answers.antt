-- `put_header` puts the nine bytes of the header. Assumes nothing.
use Rattle.std.proofs.Common.{◌∙◌}
use Rattle.sessions.proofs.WrittenLaws.{written_header}
use Rattle.sessions.proofs.writer.put_header.Goals as goal

pub returns : goal.returns
returns c =
    c.put_bytes-4.ensures
    ∙ rw (c.put_bytes-3.ensures, c.put_bytes-2.ensures, c.put_bytes.ensures, c.to_le_bytes-2.ensures, c.to_le_bytes.ensures)
    (written_header _ _ _ _ c.requires.2 c.requires.0)
