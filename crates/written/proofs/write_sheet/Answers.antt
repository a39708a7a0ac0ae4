use Rattle.std.proofs.Common.{ap, arith}
use Rattle.sheet.specs.Meaning.{sheet_marks}
use Rattle.written.specs.Lines.{sheet_text}
use Rattle.written.proofs.Putting.{put_as, counted_fits, after_fits}
use Rattle.written.proofs.Read.{read_front}
use Rattle.written.proofs.write_sheet.Goals as goal

pub returns-clause-bytes : goal.returns-clause-bytes
returns-clause-bytes c =
    let same = ap (sheet_text c.args.tracks.now) c.marks-marks.ensures in
    after_fits (put_as same c.put_over.ensures.put) (counted_fits _ (put_as same c.put_over-length.ensures.put) (omega arith))

pub returns-clause-read : goal.returns-clause-read
returns-clause-read c =
    let same = ap (sheet_text c.args.tracks.now) c.marks-marks.ensures in
    read_front c.args.tracks.now (sheet_marks c.args.sheet.now) (put_as same c.put_over.ensures.put) (counted_fits _ (put_as same c.put_over-length.ensures.put) (omega arith))
