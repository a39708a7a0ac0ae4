-- What a reader has still to read. Assumes nothing.
use Rattle.std.specs.Prelude.{ℕ, List, drop}
use Rattle.plan.specs.declared.reader.Reader.{Reader}

-- the bytes of the file from the next line on
abbrev pub unread : Reader → List ℕ
unread r = drop r.at r.bytes.now
